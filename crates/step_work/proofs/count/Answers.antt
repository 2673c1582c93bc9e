-- The kind's spans and halves are those of its counter, so its lengths are those asked for, and the words counted are the step's. Assumes nothing.
use Rattle.std.proofs.Common.{◌≡◌, ℕ, ◌*◌, ◌/◌, ◌^◌, ◌<◌, List, length, get_or, sym, ap, ◌∙◌, arith}
use Rattle.answers.specs.Tests.{Says}
use Rattle.kinds.specs.Kinds.{lanes, entry_of, one_bit, Arithmetic}
use Rattle.kinds.specs.declared.Entry.{Entry}
use Rattle.step_ones.specs.Combined.{ones_words, lines_of}
use Rattle.step_ones.proofs.Counts.{lined}
use Rattle.step_work.specs.Step.{stepped}
use Rattle.step_work.specs.Workers.{Sized}
use Rattle.step_work.proofs.Counted as counts
use Rattle.step_work.proofs.count.Goals as goal

-- of a kind's line: which of the three forms it has, by what the code tests
module _ (k : ℕ) (line : Entry) (mode : ℕ) (ok : Arithmetic k × Says (one_bit k) × (line ≡ entry_of k)) where
  abbrev Form : (spans halves : ℕ) → Type 0
  Form spans halves = ((entry_of k).b ≡ spans) × ((entry_of k).m / 8 ≡ halves)

  rows_are : line.m ≡ (entry_of k).m
  rows_are = ap (λ (e : Entry). e.m) ok.2

  words_are : line.b ≡ (entry_of k).b
  words_are = ap (λ (e : Entry). e.b) ok.2

  narrow : line.m ≡ 8 → Form 1 1
  narrow h = counts.narrow k ok.0 ok.1 (sym rows_are ∙ h)

  tall : (line.m ≡ 8 → ⊥) → line.b ≡ 1 → Form 1 2
  tall ne h = counts.tall k ok.0 ok.1 (λ e. ne (rows_are ∙ e)) (sym words_are ∙ h)

  long : (line.m ≡ 8 → ⊥) → (line.b ≡ 1 → ⊥) → Form 2 2
  long ne more = counts.long k ok.0 ok.1 (λ e. ne (rows_are ∙ e)) (λ e. more (words_are ∙ e))

  -- what the workers ask for, and the words that they leave
  module _ (spans halves : ℕ) (known : Form spans halves) (a b c : List ℕ) where
    asked : (d : List ℕ) → Sized k (length a) (length b) (length c) (length d)
        → ((length a ≡ lanes * (spans * halves)) × (length b ≡ lanes * spans)) × ((length c ≡ lanes * (2 * halves)) × (length d ≡ lanes * (2 * halves)))
    asked d = counts.asked k ok.0 ok.1 spans halves known a b c d

    counted : ((x : ℕ) → get_or c x 0 < 2 ^ 32) → ones_words spans halves mode (lines_of spans halves a) b c ≡ stepped k 0 mode a b c
    counted fit = counts.counted k ok.0 ok.1 spans halves known mode a b c fit

pub fill-requires : goal.fill-requires
fill-requires c =
    let s = c.args in
    let p = c.requires.arithmetic in
    (omega arith, asked s.kind.0 s.line s.mode.0 p 1 1 (narrow s.kind.0 s.line s.mode.0 p c.if-line-eq8.true) s.a.now s.b.now s.c.now s.d.now c.requires.sized)

pub returns-then-line-eq8 : goal.returns-then-line-eq8
returns-then-line-eq8 c =
    let s = c.args in
    let p = c.requires.arithmetic in
    let form = narrow s.kind.0 s.line s.mode.0 p c.if-line-eq8.true in
    let l = asked s.kind.0 s.line s.mode.0 p 1 1 form s.a.now s.b.now s.c.now s.d.now c.requires.sized in
    c.fill.ensures
    ∙ ap (λ (x : List ℕ). ones_words 1 1 s.mode.0 x s.b.now s.c.now) (lined _ l.0.0)
    ∙ counted s.kind.0 s.line s.mode.0 p 1 1 form s.a.now s.b.now s.c.now (λ x. (c.type_inv.c x).fits)

pub fill_in_lines-requires : goal.fill_in_lines-requires
fill_in_lines-requires c =
    let s = c.args in
    let p = c.requires.arithmetic in
    let form = tall s.kind.0 s.line s.mode.0 p c.if-line-eq8.false c.if-line-eq1.true in
    (omega arith, asked s.kind.0 s.line s.mode.0 p 1 2 form s.a.now s.b.now s.c.now s.d.now c.requires.sized)

pub returns-then-line-eq1 : goal.returns-then-line-eq1
returns-then-line-eq1 c =
    let s = c.args in
    let p = c.requires.arithmetic in
    let form = tall s.kind.0 s.line s.mode.0 p c.if-line-eq8.false c.if-line-eq1.true in
    c.fill_in_lines.ensures
    ∙ counted s.kind.0 s.line s.mode.0 p 1 2 form s.a.now s.b.now s.c.now (λ x. (c.type_inv.c x).fits)

pub fill_in_lines-requires-else-line-eq1 : goal.fill_in_lines-requires-else-line-eq1
fill_in_lines-requires-else-line-eq1 c =
    let s = c.args in
    let p = c.requires.arithmetic in
    let form = long s.kind.0 s.line s.mode.0 p c.if-line-eq8.false c.if-line-eq1.false in
    (omega arith, asked s.kind.0 s.line s.mode.0 p 2 2 form s.a.now s.b.now s.c.now s.d.now c.requires.sized)

pub returns-else-line-eq1 : goal.returns-else-line-eq1
returns-else-line-eq1 c =
    let s = c.args in
    let p = c.requires.arithmetic in
    let form = long s.kind.0 s.line s.mode.0 p c.if-line-eq8.false c.if-line-eq1.false in
    c.fill_in_lines-else-line-eq1.ensures
    ∙ counted s.kind.0 s.line s.mode.0 p 2 2 form s.a.now s.b.now s.c.now (λ x. (c.type_inv.c x).fits)
