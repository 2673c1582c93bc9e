-- The lines that every call of a kind and a role begins with: what passed them is legal, and they stand in every call. Assumes nothing.
use mathlib.Core.Path.{◌≡◌, sym, ap, subst, ◌∙◌}
use mathlib.Core.List.{List}
use Prim.Native.Nat.{ℕ}
use Rattle.std.specs.Prelude.{Result, Ok, Err}
use Rattle.answers.specs.Refusals.{given, refused, number_of, detail_of, told}
use Rattle.answers.specs.Calls.{Line, first, answer, ◌then◌}
use Rattle.answers.specs.Right.{Passes}
use Rattle.answers.specs.Promised.{Replies}
use Rattle.answers.specs.declared.Refusal.{Refusal}
use Rattle.answers.proofs.Shows as shows
use Rattle.answers.proofs.Shows.{goes_on, came_on}
use Rattle.answers.proofs.Demand1.{reply_is}
use Rattle.kinds.specs.Kinds.{Legal}
use Rattle.kinds.specs.Refusals.{layout_refusals}
use Rattle.kinds.specs.Rule.{Layout}
use Rattle.kinds.specs.Laid.{Laid}
use Rattle.kinds.specs.Workers.{layout_call}
use Rattle.kinds.proofs.Table.{layout_at, sane}

module _ (k r : ℕ) where
  pub legal : Passes (layout_refusals k r) → Legal k r
  legal p = record { low = search p; high = search p; role = search p }

  pub legal_passes : Legal k r → Passes (layout_refusals k r)
  legal_passes ok = search ok

  module _ {X : Type 0} (rest : List Line) (x : X) where
    pub judged_is : Legal k r → first (layout_refusals k r then rest) x ≡ first rest x
    judged_is ok = goes_on (layout_refusals k r) rest x (legal_passes ok)

    pub judged_given : {y : X} → first (layout_refusals k r then rest) x ≡ given y → Legal k r × (first rest x ≡ given y)
    judged_given e = let a = came_on (layout_refusals k r) rest x e in (legal a.0, a.1)

-- from the layout that a call was handed to the lines behind it
module _ (k r : ℕ) (a : Result Layout Refusal) (reply : Replies (layout_call k r) (told a)) where
  module _ (f : Layout) (e : a ≡ Ok f) where
    layout_given : given f ≡ answer (layout_call k r)
    layout_given = sym (ap told e) ∙ reply_is reply

    pub known_legal : Legal k r × (f ≡ layout_at k r)
    known_legal = (
      legal k r (shows.passes (layout_refusals k r) (layout_at k r) (sym layout_given)),
      shows.first_gives (layout_refusals k r) (layout_at k r) layout_given,
    )

    pub known_sane : Laid f
    known_sane = subst Laid (sym known_legal.1) (sane k r known_legal.0)

    -- where the layout was given, the rest decides
    pub known_rest : {X : Type 0} (rest : List Line) (x : X) → first rest x ≡ first (layout_refusals k r then rest) x
    known_rest rest x = sym (judged_is k r rest x known_legal.0)

  -- and where it was refused, that refusal stands
  pub handed_on : (x : Refusal) → a ≡ Err x → {X : Type 0} (rest : List Line) (y : X) → refused x ≡ first (layout_refusals k r then rest) y
  handed_on x e rest y = shows.handed_on (layout_refusals k r) rest (layout_at k r) y (number_of x) (detail_of x) (sym (ap told e) ∙ reply_is reply)
