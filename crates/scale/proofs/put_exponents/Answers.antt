-- A turn puts one exponent more. Assumes nothing.
use Rattle.std.proofs.Common.{◌∙◌, ◌++◌, List, ap, ap₂, map, take, drop, set, ℤ, sym, add-one, ℕ, arith}
use mir.Syntax.{w32}
use mir.ValLaws.{to_z-of_z}
use Rattle.scale.specs.Bytes.{exponent}
use Rattle.scale.proofs.Laws.{one_more}
use Rattle.scale.proofs.put_exponents.Goals as goal

pub loop-i-preserved : goal.loop-i-preserved
loop-i-preserved c =
    let a = c.args in
    ap₂ (λ (ys : List ℤ) (z : ℤ). set ys c.loop-i.i z) c.loop-i.invariant
    (to_z-of_z w32 c.exponent_of.result (record { sfits = c.exponent_of.type_inv }) ∙ c.exponent_of.ensures)
    ∙ one_more exponent a.chosen.now a.out.now c.loop-i.i 0 c.requires (omega arith)
    ∙ ap (λ (n : ℕ). map exponent (take n a.chosen.now) ++ drop n a.out.now) (sym (add-one c.loop-i.i))
