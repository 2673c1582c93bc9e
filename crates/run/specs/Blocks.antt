-- Demand 3: blocks fed one after the other, and what they add and mark at a place. Assumes nothing.
use Rattle.std.specs.Prelude.{ℕ, ◌≡◌, List, [], ◌∷◌, ◌++◌, ℤ, ◌+ℤ◌, length}
use Rattle.laws.specs.Integers.{int32, outside}
use Rattle.laws.specs.Lists.{tab}
use Rattle.answers.specs.Refusals.{Answer, given, refusal, after}
use Rattle.buffers.specs.Buffers.{words_needed}
use Rattle.step_limit.specs.Marks.{mark_in}
use Rattle.step_work.specs.Step.{entry_in, added}
use Rattle.run.specs.declared.Run.{Run}
use Rattle.run.specs.Runs.{kind_in, signs_in, mode_in, used_of, fed_run}
use Rattle.run.specs.RunCalls.{feed_answer}

-- a block: an A and a B buffer
pub record Block : Type 0 where
  pub a : List ℕ
  pub b : List ℕ

-- the run that a feed hands back
abbrev pub fed_by : Run → Block → Run
fed_by run x = after (feed_answer run (length x.a) (length x.b)) (fed_run run x.a x.b) run

-- the run after blocks, fed one after the other
unfoldable pub fed_all : Run → List Block → Run
fed_all run [] = run
fed_all run (x ∷ xs) = fed_all (fed_by run x) xs

-- every one of them accepted
unfoldable pub AllAccepted : Run → List Block → Type 0
AllAccepted run [] = Unit {0}
AllAccepted run (x ∷ xs) = (feed_answer run (length x.a) (length x.b) ≡ given tt) × AllAccepted (fed_by run x) xs

-- each one's A and B of the lengths that the kind needs
abbrev pub Sized : (kind : ℕ) → Block → Type 0
Sized kind x = (length x.a ≡ words_needed kind 0) × (length x.b ≡ words_needed kind 1)

abbrev pub AllSized : (kind : ℕ) → List Block → Type 0
AllSized kind [] = Unit {0}
AllSized kind (x ∷ xs) = Sized kind x × AllSized kind xs

-- those of them that were accepted, in the order fed
abbrev pub kept : Answer (Unit {0}) → Block → List Block → List Block
kept (given _) x xs = x ∷ xs
kept (refusal number detail) x xs = xs

unfoldable pub accepted_of : Run → List Block → List Block
accepted_of run [] = []
accepted_of run (x ∷ xs) = kept (feed_answer run (length x.a) (length x.b)) x (accepted_of (fed_by run x) xs)

-- what each block adds at a place: the exact products, or the bit count
unfoldable pub contributions : (kind signs mode row column : ℕ) → List Block → List ℤ
contributions kind signs mode row column [] = []
contributions kind signs mode row column (x ∷ xs) = added kind signs mode x.a x.b row column ∷ contributions kind signs mode row column xs

-- the sum that a run holds at a place of D, as a signed number
unfoldable pub sum_at : Run → (row column : ℕ) → ℤ
sum_at run row column = int32 (entry_in (kind_in run) 2 (used_of run) row column)

-- document 02, K12: its mark, which is that of the same word
unfoldable pub mark_at : Run → (row column : ℕ) → ℕ
mark_at run row column = entry_in (kind_in run) 2 (tab (words_needed (kind_in run) 2) (mark_in run.marks)) row column

-- the exact result there of a block that is fed: the sum plus what the block adds
unfoldable pub exact_at : Run → Block → (row column : ℕ) → ℤ
exact_at run x row column = sum_at run row column +ℤ added (kind_in run) (signs_in run) (mode_in run) x.a x.b row column

-- among the blocks is one at which it lay outside 32 bits
abbrev pub CutAmong : Run → List Block → (row column : ℕ) → Type 0
CutAmong run xs row column =
    (before : List Block) × (x : Block) × (behind : List Block) × (xs ≡ before ++ (x ∷ behind)) × (outside (exact_at (fed_all run before) x row column) ≡ 1)
