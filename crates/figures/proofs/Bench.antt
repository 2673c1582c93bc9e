-- Document 01's starred figures: places and reverse questions compute, and of a step what the law of uniform buffers asks.
-- Assumes nothing.
use mathlib.Core.Path.{refl}
use mathlib.Core.List.{List, [], ◌∷◌}
use Rattle.laws.specs.Bits.{combine, ones_in}
use Rattle.laws.specs.Fields.{field}
use Rattle.laws.specs.Integers.{value, sum_z, int32, word32, clamp}
use Rattle.laws.specs.Lists.{tab}
use Rattle.kinds.specs.Places.{place_of}
use Rattle.kinds.specs.Rule.{lane_of, element_of}
use Rattle.places.specs.PlaceCalls.{place_answer, find_answer}
use Rattle.step_limit.specs.Limits.{cell_of}
use Rattle.step.specs.StepCalls.{step_answer}
use Rattle.figures.specs.Figures.{Figure, place, find, step, Right, AllRight, starred}
use Rattle.figures.proofs.Uniform.{added_all, Computed, steps}

-- what antt computes of a figure
abbrev Test : Figure → Type 0
Test (place k r l i x y) = Right (place k r l i x y)
Test (find k r x y l i) = Right (find k r x y l i)
Test (step k signs mode a b c z) = Computed k signs mode a b c z

abbrev Tests : List Figure → Type 0
Tests [] = Unit {0}
Tests (f ∷ fs) = Test f × Tests fs

right : (f : Figure) → Test f → Right f
right (place k r l i x y) t = t
right (find k r x y l i) t = t
right (step k signs mode a b c z) t = steps k signs mode a b c z t

all_right : (fs : List Figure) → Tests fs → AllRight fs
all_right [] t = tt
all_right (f ∷ fs) t = (right f t.0, all_right fs t.1)

infixr 4 ◌and◌
abbrev ◌and◌ : {X Y : Type 0} → X → Y → X × Y
◌and◌ x y = (x, y)

tests : Tests starred
unfolding place_answer find_answer place_of lane_of element_of step_answer added_all cell_of field tab combine ones_in value sum_z int32 word32 clamp
tests =
    refl
    and refl
    and refl
    and refl
    and refl
    and refl
    and refl
    and refl
    and refl
    and (refl, tt, tt, tt, refl)
    and (refl, tt, tt, tt, refl)
    and (refl, tt, tt, tt, refl)
    and (refl, tt, tt, tt, refl)
    and (refl, tt, tt, tt, refl)
    and (refl, tt, tt, tt, refl)
    and tt

pub bench : AllRight starred
bench = all_right starred tests
