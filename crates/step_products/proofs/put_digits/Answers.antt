-- Each turn brings the fields of one word more, and at the end every place of the masked matrix is one of theirs. Assumes nothing.
use Rattle.std.proofs.Common.{◌≡◌, ℕ, ◌+◌, ◌*◌, ◌/◌, ◌%◌, ◌<◌, ◌≤◌, length, get_or, sym, ap, subst, ◌∙◌, arith}
use native.Mathlib.Nat.{mod-lt, div-add-mod'}
use lib.Bits.{bit_xor}
use Rattle.laws.specs.Fields.{field}
use Rattle.laws.specs.Toward.{Brings, Below, At, stores}
use Rattle.laws.proofs.Toward.{brings_more, brings_on, brings_stores}
use Rattle.kinds.specs.Kinds.{lanes}
use Rattle.kinds.specs.Rule.{majors, minors}
use Rattle.kinds.specs.Rule.{Layout}
use Rattle.buffers.proofs.Places.{stretch_fills}
use Rattle.step_products.specs.Sums.{masked}
use Rattle.step_products.proofs.Rows as rows
use Rattle.step_products.proofs.put_digits.Invariants.{laid, Fields}
use Rattle.step_products.proofs.put_digits.Goals as goal
use Rattle.step_products.proofs.put_digits.Goals.{After-word_at}

module _ (c : After-word_at) where
  abbrev f : Layout
  f = laid c.args.bits c.args.spans c.args.halves

  abbrev t : ℕ
  t = c.loop-t.t

  among : t < lanes * (f.spans * f.halves)
  among = omega (arith, c.loop-t-test.true, c.requires.words)

  room : t * f.side + f.side ≤ 1024
  room = rows.room f c.args.words.now c.args.out.now c.requires 0 t among

  inside : c.word_at.result < length c.args.words.now
  inside = subst (λ (n : ℕ). n < length c.args.words.now) (sym c.word_at.ensures) (rows.word_in f c.args.words.now c.args.out.now c.requires 0 t among)

pub offset_bounds-words-word_at : goal.offset_bounds-words-word_at
offset_bounds-words-word_at c = omega (arith, inside (goal.at.offset_bounds-words-word_at c).After-word_at, c.requires.words, c.requires.laid.words_le)

pub bounds-words-word_at : goal.bounds-words-word_at
bounds-words-word_at c = inside (goal.at.bounds-words-word_at c).After-word_at

pub digits_of-requires : goal.digits_of-requires
digits_of-requires c =
    let w = (goal.at.digits_of-requires c).After-word_at in
    let k = c.requires in
    (omega (arith, stretch_fills (f w) k.laid (omega (arith, k.narrow))), k.narrow, k.laid.side_le, room w, c.loop-t.invariant.same ∙ k.digits)

pub loop-t-preserved : goal.loop-t-preserved
loop-t-preserved c =
    let w = (goal.at.loop-t-preserved c).After-word_at in
    let a = c.args in
    let l = c.loop-t in
    let p = 32 / a.bits in
    let b = a.bits in
    let ws = a.words.now in
    let u = masked (f w) a.mask ws in
    let v = c.word-turned.result in
    let value : (j : ℕ) → j < p → field b j v ≡ get_or u (t w * p + j) 0
    = λ j h.
    ap (field b j) (c.word-turned.ensures ∙ ap (λ (n : ℕ). bit_xor (get_or ws n 0) a.mask) c.word_at.ensures)
    ∙ rows.digit_in (f w) ws a.out.now c.requires a.mask (t w) (among w) j h in
    brings_more u (Fields p) (t w) a.out.now l.out _ l.invariant
    (subst (Brings u (Fields p (t w)) l.out) (sym c.digits_of.ensures)
    (brings_on u (Below p (λ j. At (t w * p + j * 1))) (Fields p (t w)) l.out (stores (t w * p) 1 p (λ j. field b j v) l.out)
    (λ x q. (q.0, q.1, q.2 ∙ omega arith))
    (brings_stores u (t w * p) 1 p (λ j. field b j v) l.out (λ j h. (omega (arith, room w, l.invariant.same, c.requires.digits), value j h ∙ ap (λ (n : ℕ). get_or u n 0) (omega arith))))))

pub returns : goal.returns
returns c =
    let l = c.loop-t in
    let a = c.args in
    let f : Layout = laid a.bits a.spans a.halves in
    let p = 32 / a.bits in
    let ws = a.words.now in
    let all : l.t ≡ lanes * (a.spans * a.halves) = omega (arith, c.requires.words) in
    brings_on (masked f a.mask ws) (Below l.t (Fields p)) (λ z. z < majors f * minors f) a.out.now l.out
    (λ z h. (z / p, omega (arith, all, rows.word_of f ws a.out.now c.requires z h), (z % p, mod-lt z c.requires.laid.side_pos, sym (div-add-mod' z p)))) l.invariant
