-- The two branches are the two ways round; the numbers are those of the stretch's first element, and they are small. Assumes nothing.
use Rattle.std.proofs.Common.{ℕ, Bool, true, false, ◌≡◌, ◌∙◌, sym, ap, ap₂, ◌+◌, ◌*◌, ◌/◌, ◌%◌, ◌<◌, ◌≤◌, arith}
use Rattle.std.proofs.Math.Nat.{mul-le-mul, mod-lt, div-le_self}
use Rattle.kinds.specs.Rule.{Layout, columns_of, turn}
use Rattle.kinds.specs.Laid.{Laid}
use Rattle.kinds.proofs.Table.{by_fields}
use Rattle.buffers.specs.Buffers.{index}
use Rattle.buffers.specs.Stretches.{size_of, abreast_in, stretches_of, place_at}
use Rattle.buffers.proofs.Stretches.{first_major, first_minor, stretches_few}
use Rattle.buffers.proofs.Stretch.base.Goals as goal

-- the major and the minor number that the code puts together
abbrev across : (half l : ℕ) → ℕ
across half l = half * 8 + l / 4

abbrev along : (side span l rest : ℕ) → ℕ
along side span l rest = (span * 4 + l % 4) * side + rest

module _ (f : Layout) (ok : Laid f) (r l : ℕ) (inside : r < stretches_of f) (lane : l < 32) (by group half span rest columns : ℕ) where
  module _ (by_few : (0 < by) × (by ≤ 2)) (is_group : group ≡ r / by) (is_half : half ≡ group % f.halves) (is_span : span ≡ group / f.halves) (is_rest : rest ≡ r % by) where
    half_small : across half l ≤ 15
    half_small = omega (arith, mod-lt group ok.halves_pos, ok.halves_le, is_half, lane)

    span_small : span ≤ 7
    span_small = omega (arith, stretches_few f ok, inside, div-le_self r by, div-le_self group f.halves, is_group, is_span)

    wide_small : along f.side span l rest ≤ 993
    wide_small =
        omega (arith, mul-le-mul {n₁ = span * 4 + l % 4} {m₁ = f.side} {n₂ = 31} {m₂ = 32} (omega (arith, span_small)) ok.side_le, mod-lt r by_few.0, by_few.1, is_rest)

    turned_small : columns ≤ 256 → along f.side span l rest * columns + across half l < 262144
    turned_small h = omega (arith, mul-le-mul {n₁ = along f.side span l rest} {m₁ = columns} {n₂ = 993} {m₂ = 256} wide_small h, half_small)

    straight_small : columns ≤ 256 → across half l * columns + along f.side span l rest < 262144
    straight_small h = omega (arith, mul-le-mul {n₁ = across half l} {m₁ = columns} {n₂ = 15} {m₂ = 256} half_small h, wide_small)

    placed : (t : Bool) → f.turned ≡ t → by ≡ abreast_in f → columns ≡ columns_of f → index columns (turn t (across half l, along f.side span l rest)) ≡ place_at f l (r * size_of f)
    placed t e is_by is_columns =
        let group_is : group ≡ r / abreast_in f = is_group ∙ ap (λ (a : ℕ). r / a) is_by in
        ap₂ (λ (n : ℕ) (t : Bool). index n (turn t (across half l, along f.side span l rest))) is_columns (sym e)
        ∙ ap₂ (λ (x y : ℕ). index (columns_of f) (turn f.turned (x, y)))
        (ap (λ (n : ℕ). across n l) (is_half ∙ ap (λ (g : ℕ). g % f.halves) group_is) ∙ sym (first_major f ok l r))
        (ap₂ (λ (m n : ℕ). along f.side m l n) (is_span ∙ ap (λ (g : ℕ). g / f.halves) group_is) (is_rest ∙ ap (λ (a : ℕ). r % a) is_by) ∙ sym (first_minor f ok l r))

pub returns-then-f-clause-is : goal.returns-then-f-clause-is
returns-then-f-clause-is c =
    let by = rw (← c.f.view_is) at c.abreast-by.ensures.is in
    let columns = rw (← c.f.view_is) at c.columns-columns.ensures.is in
    let inside = rw (← c.f.view_is) at c.requires.0 in
    rw (← c.f.view_is)
    (placed (by_fields c.f.inside) c.f.invariant c.args.self.0 c.args.lane.0 inside c.requires.1 _ _ _ _ _ _ c.abreast-by.ensures.few c.quotient-group.ensures c.remainder.ensures
    c.quotient.ensures c.remainder-2.ensures true c.if-f.true by columns)

pub returns-then-f-clause-small : goal.returns-then-f-clause-small
returns-then-f-clause-small c =
    let inside = rw (← c.f.view_is) at c.requires.0 in
    turned_small (by_fields c.f.inside) c.f.invariant c.args.self.0 c.args.lane.0 inside c.requires.1 _ _ _ _ _ _ c.abreast-by.ensures.few c.quotient-group.ensures c.remainder.ensures
    c.quotient.ensures c.remainder-2.ensures c.columns-columns.ensures.small

pub returns-clause-is : goal.returns-clause-is
returns-clause-is c =
    let by = rw (← c.f.view_is) at c.abreast-by.ensures.is in
    let columns = rw (← c.f.view_is) at c.columns-columns.ensures.is in
    let inside = rw (← c.f.view_is) at c.requires.0 in
    rw (← c.f.view_is)
    (placed (by_fields c.f.inside) c.f.invariant c.args.self.0 c.args.lane.0 inside c.requires.1 _ _ _ _ _ _ c.abreast-by.ensures.few c.quotient-group.ensures c.remainder.ensures
    c.quotient.ensures c.remainder-2.ensures false c.if-f.false by columns)

pub returns-clause-small : goal.returns-clause-small
returns-clause-small c =
    let inside = rw (← c.f.view_is) at c.requires.0 in
    straight_small (by_fields c.f.inside) c.f.invariant c.args.self.0 c.args.lane.0 inside c.requires.1 _ _ _ _ _ _ c.abreast-by.ensures.few c.quotient-group.ensures c.remainder.ensures
    c.quotient.ensures c.remainder-2.ensures c.columns-columns.ensures.small
