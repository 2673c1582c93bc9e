-- A record's bytes are its matrix's entries: a buffer that was copied whole holds what it was copied from. The numbers of B of kind 3 are
-- sane, as are those of every kind and role. Assumes nothing.
use mathlib.Core.Path.{◌≡◌, refl, sym, ◌∙◌}
use mathlib.Core.List.{List}
use Prim.Native.Nat.{ℕ}
use native.Mathlib.Omega.{arith}
use lib.ListN.{length, get_or}
use Rattle.kinds.specs.Kinds.{Legal}
use Rattle.laws.specs.Lists.{fills}
use Rattle.laws.proofs.Lists.{fills_all, is_tab}
use Rattle.kinds.specs.Laid.{Laid}
use Rattle.kinds.proofs.Table.{layout_at, sane}
use Rattle.template.specs.Templates.{template_kind, template_role}

pub copied : (xs ys : List ℕ) → length ys ≡ length xs → fills 0 (length xs) (λ k. get_or xs k 0) ys ≡ xs
copied xs ys e = fills_all (length xs) (λ k. get_or xs k 0) ys 0 e ∙ sym (is_tab (length xs) (λ k. get_or xs k 0) xs 0 refl (λ k l. refl))

pub template_legal : Legal template_kind template_role
template_legal = record { low = omega arith; high = omega arith; role = omega arith }

pub template_laid : Laid (layout_at template_kind template_role)
template_laid = sane template_kind template_role template_legal
