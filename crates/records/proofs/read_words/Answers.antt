-- A turn reads one word more; read whole, the words are the bytes'. Assumes nothing.
use Rattle.std.proofs.Common.{ℕ, ◌≡◌, ◌∙◌, refl, ap, ap₂, List, set, length, rules, arith}
use Rattle.laws.specs.Lists.{fills}
use Rattle.laws.proofs.Lists.{fills_front, fills_all}
use Rattle.records.specs.Records.{word_at, words_in}
use Rattle.records.proofs.read_words.Goals as goal

pub loop-i-init : goal.loop-i-init
unfolding fills
loop-i-init c = (omega arith, refl)

pub loop-i-preserved : goal.loop-i-preserved
loop-i-preserved c =
    let l = c.loop-i in (
      search rules,
      ap₂ (λ (ws : List ℕ) (w : ℕ). set ws l.i w) l.invariant.1 c.word_at.ensures ∙ fills_front l.i (word_at c.args.bytes.now) c.args.words.now,
    )

pub returns : goal.returns
unfolding words_in
returns c =
    let f = word_at c.args.bytes.now in
    let words = c.args.words.now in
    let all : c.loop-i.i ≡ length words = omega arith in
    c.loop-i.invariant.1 ∙ ap (λ (i : ℕ). fills 0 i f words) all ∙ fills_all (length words) f words 0 refl
