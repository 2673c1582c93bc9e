-- A place whose words differ is the first; where none do, D is right. Assumes nothing.
use Rattle.std.proofs.Common.{ℕ, ◌≡◌, ◌∙◌, sym, ap, List, get_or, ◌/◌, ◌%◌, ◌*◌, ◌^◌, ◌<◌, ◌≤◌, below_more, rules, arith}
use Rattle.answers.specs.Refusals.{given}
use Rattle.answers.specs.Tests.{Says}
use Rattle.kinds.specs.Kinds.{entry_of, Arithmetic}
use Rattle.kinds.specs.declared.Entry.{Entry}
use Rattle.step_work.proofs.Matrices.{legal}
use Rattle.replay_text.specs.Verdicts.{wrong, differs_at}
use Rattle.replay_text.specs.Workers.{word_no}
use Rattle.replay_text.proofs.Compared.{found, not_found, eight, places_are, words_few, halves_few, word_inside, agree_there, differ_there}
use Rattle.replay_text.proofs.first_wrong.Goals as goal

-- the places before one agree where their words do
module _ (k : ℕ) (ok : Arithmetic k) (line : Entry) (is : line ≡ entry_of k) (log right : List ℕ) (log_fits : (x : ℕ) → get_or log x 0 < 2 ^ 32) (right_fits : (x : ℕ) → get_or right x 0 < 2 ^ 32) where
  agree : (n : ℕ) → n ≤ line.m / 8 * 64 → ((j : ℕ) → j < n → get_or log (word_no line.c (line.m / 8) j) 0 ≡ get_or right (word_no line.c (line.m / 8) j) 0)
      → (j : ℕ) → j < n → ¬ Says (differs_at k log right j)
  agree n le same j l = agree_there k ok line is j (omega (arith, l, le)) log right log_fits right_fits (same j l)

pub word_of-word-requires : goal.word_of-word-requires
word_of-word-requires c =
    let few = words_few c.args.s.kind.0 c.args.s.ready.of c.args.s.line c.args.s.line_is in
    let halves = halves_few c.args.s.kind.0 c.args.s.ready.of c.args.s.line c.args.s.line_is in
    search rules

pub bounds-log-word : goal.bounds-log-word
bounds-log-word c =
    let inside = word_inside c.args.s.kind.0 c.args.s.ready.of c.args.s.line c.args.s.line_is c.loop-place.place c.loop-place-test.true in
    omega (arith, c.word_of-word.ensures.is, c.requires.0)

pub bounds-right-word : goal.bounds-right-word
bounds-right-word c =
    let inside = word_inside c.args.s.kind.0 c.args.s.ready.of c.args.s.line c.args.s.line_is c.loop-place.place c.loop-place-test.true in
    omega (arith, c.word_of-word.ensures.is, c.requires.1)

pub loop-place-preserved : goal.loop-place-preserved
loop-place-preserved c =
    (omega (arith, c.loop-place-test.true), below_more _ _ c.loop-place.invariant.1 (rw c.word_of-word.ensures.is at c.if-log-word.false))

pub returns-then-log-word : goal.returns-then-log-word
returns-then-log-word c =
    let k = c.args.s.kind.0 in
    let ok = c.args.s.ready.of in
    let line = c.args.s.line in
    let is = c.args.s.line_is in
    let log = c.args.log.now in
    let right = c.args.right.now in
    let n = c.loop-place.place in
    let low = c.loop-place-test.true in
    let log_fits : (x : ℕ) → get_or log x 0 < 2 ^ 32 = λ x. (c.type_inv.log x).fits in
    let right_fits : (x : ℕ) → get_or right x 0 < 2 ^ 32 = λ x. (c.type_inv.right x).fits in
    let here = differ_there k ok line is n low log right log_fits right_fits (rw c.word_of-word.ensures.is at c.if-log-word.true) in
    ap (λ (m : ℕ). wrong (n / m) (n % m)) (sym (eight k ok line is))
    ∙ found k (legal k ok 2 (omega arith)) log right n (omega (arith, low, places_are k ok line is)) here
    (agree k ok line is log right log_fits right_fits n c.loop-place.invariant.0 c.loop-place.invariant.1)

pub returns : goal.returns
returns c =
    let k = c.args.s.kind.0 in
    let ok = c.args.s.ready.of in
    let line = c.args.s.line in
    let is = c.args.s.line_is in
    let log = c.args.log.now in
    let right = c.args.right.now in
    let n = c.loop-place.place in
    let all : n ≡ line.m / 8 * 64 = omega (arith, c.loop-place.invariant.0, c.loop-place-test.false) in
    not_found k (legal k ok 2 (omega arith)) log right
    (λ j l. agree k ok line is log right (λ x. (c.type_inv.log x).fits) (λ x. (c.type_inv.right x).fits) n c.loop-place.invariant.0 c.loop-place.invariant.1 j
    (omega (arith, l, all, places_are k ok line is)))
