-- The digits of A and of B, and the words of D from them, by shifts or by multiplication. Assumes nothing.
use Rattle.std.proofs.Common.{◌≡◌, ℕ, ◌-◌, ◌*◌, ◌^◌, ◌<◌, ◌≤◌, Bool, true, false, List, length, get_or, ◌⊎◌, inl, inr, refl, sym, ap, ◌∙◌, arith}
use Rattle.kinds.specs.Kinds.{lanes}
use Rattle.kinds.specs.Rule.{majors, minors}
use Rattle.kinds.specs.Laid.{Laid}
use Rattle.kinds.specs.declared.Layouts.{Layouts}
use Rattle.step_products.specs.Sums.{offset_of, straight, Digits, Digitised, Summable, digits_words, digits_marks}
use Rattle.step_products.specs.declared.Offsets.{Offsets}
use Rattle.step_limit.specs.Marks.{kept_marks}
use Rattle.step_limit.specs.Workers.{with_marks}
use Rattle.step_nibbles.specs.Planes.{Nibbled}
use Rattle.step_work.specs.Step.{unsigned_a, unsigned_b, stepped, cuts}
use Rattle.step_work.proofs.Multiplied as sums
use Rattle.step_work.proofs.multiply.Goals as goal
use Rattle.step_work.proofs.multiply.Goals.{After-of-l, After-offset-hb}

-- an offset is nothing, or the weight of a sign bit
either : (b o : ℕ) (unsigned : Bool) → o ≡ offset_of unsigned (2 ^ (b - 1)) → (o ≡ 0) ⊎ (o ≡ 2 ^ (b - 1))
either b o true e = inl e
either b o false e = inr e

known : (k : After-of-l) → (0 < k.of-l.result.a.bits) × (k.of-l.result.a.bits ≤ 8)
known k = let n = sums.numbers _ _ _ k.requires.ready.0 k.requires.ready.1 k.of-l.result k.of-l.ensures in (n.3, n.2)

-- with both offsets
module _ (t : After-offset-hb) where
  abbrev l : Layouts
  l = t.of-l.result

  abbrev h : Offsets
  h = record { a = t.offset-ha.result; b = t.offset-hb.result }

  numbers : Laid l.a × Laid l.b × (l.a.bits ≤ 8) × (0 < l.a.bits) × (l.b.bits ≡ l.a.bits) × (majors l.a * minors l.a ≤ 1024) × (majors l.b * minors l.b ≤ 1024) × (minors l.a ≤ 64)
  numbers = sums.numbers _ _ _ t.requires.ready.0 t.requires.ready.1 l t.of-l.ensures

  offset_A : h.a ≡ offset_of (unsigned_a t.args.signs.0) (2 ^ (l.a.bits - 1))
  offset_A = t.offset-ha.ensures.0 ∙ ap (λ (u : Bool). offset_of u (2 ^ (l.a.bits - 1))) t.unsigned_a.ensures

  offset_B : h.b ≡ offset_of (unsigned_b t.args.signs.0) (2 ^ (l.a.bits - 1))
  offset_B = t.offset-hb.ensures.0 ∙ ap (λ (u : Bool). offset_of u (2 ^ (l.a.bits - 1))) t.unsigned_b.ensures

  -- what is asked of buffers for the digits
  asked_A : (out : List ℕ) → length out ≡ 1024 → Digitised (straight l.a) t.args.a.now out × ((h.a ≡ 0) ⊎ (h.a ≡ 2 ^ (l.a.bits - 1)))
  asked_A out e =
      let n = numbers in (
        record { laid = n.0; narrow = n.2; straight = refl; room = n.5; words = t.requires.sized.of_a ∙ ap (λ (l : Layouts). 32 * l.a.words) (sym t.of-l.ensures); digits = e },
        either l.a.bits h.a (unsigned_a t.args.signs.0) offset_A,
      )

  asked_B : (out : List ℕ) → length out ≡ 1024 → Digitised (straight l.b) t.args.b.now out × ((h.b ≡ 0) ⊎ (h.b ≡ 2 ^ (l.b.bits - 1)))
  asked_B out e =
      let n = numbers in (
        record { laid = n.1; narrow = omega (arith, n.2, n.4); straight = refl; room = n.6; words = t.requires.sized.of_b ∙ ap (λ (l : Layouts). 32 * l.b.words) (sym t.of-l.ensures); digits = e },
        rw n.4 (either l.a.bits h.b (unsigned_b t.args.signs.0) offset_B),
      )

  summable : Summable l t.args.mode.0 h t.args.c.now t.args.d.now
  summable =
      sums.summable _ _ _ t.requires.ready.0 t.requires.ready.1 l t.of-l.ensures h _ _ t.offset-ha.ensures.1 t.offset-hb.ensures.1 t.requires.sized.of_c t.requires.sized.of_d

  eight : (l.a.bits ≡ 4 → ⊥) → l.a.bits ≡ 8
  eight = sums.eight _ _ _ t.requires.ready.0 t.requires.ready.1 l t.of-l.ensures

  module _ (xs ys : List ℕ) (dx : Digits l.a h.a t.args.a.now xs) (dy : Digits l.b h.b t.args.b.now ys) where
    nibbled : l.a.bits ≡ 4 → Nibbled l h xs ys
    nibbled four = sums.nibbled _ _ _ t.requires.ready.0 t.requires.ready.1 l t.of-l.ensures _ _ xs ys h four offset_A offset_B dx dy

    module _ (fit : (x : ℕ) → get_or t.args.c.now x 0 < 2 ^ 32) where
      multiplied : digits_words l t.args.mode.0 h xs ys t.args.c.now ≡ stepped t.args.kind.0 t.args.signs.0 t.args.mode.0 t.args.a.now t.args.b.now t.args.c.now
      multiplied =
          sums.multiplied _ _ _ t.requires.ready.0 t.requires.ready.1 l t.of-l.ensures _ _ _ xs ys h fit offset_A offset_B dx dy

      marked : ((x : ℕ) → get_or t.args.marks.now x 0 < 2 ^ 32)
          → with_marks 0 (lanes * l.c.words) (digits_marks l t.args.mode.0 h xs ys t.args.c.now) t.args.marks.now
          ≡ kept_marks t.args.marks.now (cuts t.args.kind.0 t.args.signs.0 t.args.mode.0 t.args.a.now t.args.b.now t.args.c.now)
      marked fits =
          sums.marked _ _ _ t.requires.ready.0 t.requires.ready.1 l t.of-l.ensures _ _ _ xs ys _ h fit fits t.requires.ready.2 offset_A offset_B dx dy

pub offset-ha-requires : goal.offset-ha-requires
offset-ha-requires c = known (goal.at.offset-ha-requires c).After-of-l

pub offset-hb-requires : goal.offset-hb-requires
offset-hb-requires c = known (goal.at.offset-hb-requires c).After-of-l

pub digits-requires : goal.digits-requires
digits-requires c =
    let t = (goal.at.digits-requires c).After-offset-hb in
    let a = asked_A t _ refl in
    (a.0, a.1, c.if-f-eq4.true)

pub digits-requires-then-f-eq4 : goal.digits-requires-then-f-eq4
digits-requires-then-f-eq4 c =
    let t = (goal.at.digits-requires-then-f-eq4 c).After-offset-hb in
    let b = asked_B t _ refl in
    (b.0, b.1, (numbers t).4 ∙ c.if-f-eq4.true)

pub cells-requires : goal.cells-requires
cells-requires c =
    let t = (goal.at.cells-requires c).After-offset-hb in
    (summable t, nibbled t _ _ c.digits.ensures c.digits-then-f-eq4.ensures c.if-f-eq4.true, c.requires.ready.2)

pub returns-then-f-eq4-clause-words : goal.returns-then-f-eq4-clause-words
returns-then-f-eq4-clause-words c =
    let t = (goal.at.returns-then-f-eq4-clause-words c).After-offset-hb in
    c.cells.ensures.words ∙ multiplied t _ _ c.digits.ensures c.digits-then-f-eq4.ensures (λ x. (c.type_inv.c x).fits)

pub returns-then-f-eq4-clause-marks : goal.returns-then-f-eq4-clause-marks
returns-then-f-eq4-clause-marks c =
    let t = (goal.at.returns-then-f-eq4-clause-marks c).After-offset-hb in
    c.cells.ensures.marks ∙ marked t _ _ c.digits.ensures c.digits-then-f-eq4.ensures (λ x. (c.type_inv.c x).fits) (λ x. (t.type_inv.marks x).fits)

pub digits-requires-2 : goal.digits-requires-2
digits-requires-2 c =
    let t = (goal.at.digits-requires-2 c).After-offset-hb in
    let a = asked_A t _ refl in
    (a.0, a.1, eight t c.if-f-eq4.false)

pub digits-requires-3 : goal.digits-requires-3
digits-requires-3 c =
    let t = (goal.at.digits-requires-3 c).After-offset-hb in
    let b = asked_B t _ refl in
    (b.0, b.1, (numbers t).4 ∙ eight t c.if-f-eq4.false)

pub cells-requires-2 : goal.cells-requires-2
cells-requires-2 c = let t = (goal.at.cells-requires-2 c).After-offset-hb in (summable t, c.requires.ready.2)

pub returns-clause-words : goal.returns-clause-words
returns-clause-words c =
    let t = (goal.at.returns-clause-words c).After-offset-hb in
    c.cells-2.ensures.words ∙ multiplied t _ _ c.digits-2.ensures c.digits-3.ensures (λ x. (c.type_inv.c x).fits)

pub returns-clause-marks : goal.returns-clause-marks
returns-clause-marks c =
    let t = (goal.at.returns-clause-marks c).After-offset-hb in
    c.cells-2.ensures.marks ∙ marked t _ _ c.digits-2.ensures c.digits-3.ensures (λ x. (c.type_inv.c x).fits) (λ x. (t.type_inv.marks x).fits)
