-- Document 01's rules, a clause a kind and role, are the one rule over p and h: one test that antt computes over every kind, role,
-- lane and element. Assumes nothing.
use mathlib.Core.Path.{◌≡◌, ap₂}
use mathlib.Core.Bool.{Bool, ◌&&◌}
use Prim.Native.Nat.{ℕ, ◌-◌, ◌<◌}
use native.Mathlib.Omega.{arith}
use lib.Dec.{T, eqb, eqb→eq}
use lib.ListN.{get_or}
use Rattle.laws.proofs.Every.{all₂, all₂_at, left, right}
use Rattle.kinds.specs.Kinds.{kinds, roles, lanes, KnownKind, known_kinds, kind1, kind_of, entry_of, role_of, KnownRole, elements, elements_at, line_at, Legal}
use Rattle.kinds.specs.Places.{place_of}
use Rattle.kinds.specs.Rule.{layout_of, major, minor, place_in}
use Rattle.kinds.specs.declared.Entry.{Entry}
use Rattle.kinds.proofs.Table.{layout_at}

same : ℕ × ℕ → ℕ × ℕ → Bool
same x y = eqb x.0 y.0 && eqb x.1 y.1

same_is : (x y : ℕ × ℕ) → T (same x y) → x ≡ y
unfolding same
same_is x y t =
    ap₂ (λ (a b : ℕ). (a, b))
    (eqb→eq x.0 y.0 (left (eqb x.0 y.0) (eqb x.1 y.1) t))
    (eqb→eq x.1 y.1 (right (eqb x.0 y.0) (eqb x.1 y.1) t))

test : KnownKind → KnownRole → Entry → ℕ → ℕ → Bool
test κ ρ e l i = same (place_of κ ρ l i) (place_in (layout_of e ρ) l i)

-- every lane and element of the kind on line j
abbrev held : ℕ → ℕ → Bool
held j r = all₂ lanes (elements (line_at j) (role_of r)) (test (get_or known_kinds j kind1) (role_of r) (line_at j))

whole : T (all₂ kinds roles held)
unfolding test same place_of major minor
whole = tt

pub whole_at : (k r l i : ℕ) → Legal k r → l < lanes → i < elements_at k r → place_of (kind_of k) (role_of r) l i ≡ place_in (layout_at k r) l i
unfolding test
whole_at k r l i ok hl hi =
    same_is (place_of (kind_of k) (role_of r) l i) (place_in (layout_at k r) l i)
    (all₂_at lanes (elements_at k r) (test (kind_of k) (role_of r) (entry_of k))
    (all₂_at kinds roles held whole (k - 1) r (omega arith) (omega arith)) l i hl hi)
