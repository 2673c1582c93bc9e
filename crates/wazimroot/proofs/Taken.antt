-- A call on the run that was taken out of words is the call on the run in them. Assumes nothing.
use mathlib.Core.Path.{◌≡◌, refl}
use mathlib.Core.List.{List}
use Prim.Native.Nat.{ℕ}
use Rattle.answers.specs.Refusals.{told, after, Verdict}
use Rattle.answers.specs.Promised.{Meets, code_of, Coded}
use Rattle.answers.proofs.Codes.{coded_as, left_after, on_same}
use Rattle.run.specs.declared.Run.{Run}
use Rattle.run.specs.RunCalls.{feed_call, read_call, marks_call}
use Rattle.words.specs.Words.{run_in, words_of, feed_in_words, read_in_words, marks_in_words}

module _ (ws : List ℕ) (run run' : Run) (verdict : Verdict) (code : ℕ) where
  -- fed, its words are put where the feed was accepted
  pub fed : (a b left : List ℕ) → run ≡ run_in ws → Meets (feed_call run a b) run verdict run'
      → code ≡ code_of (told verdict) → left ≡ after (told verdict) (words_of run') ws
      → Coded (feed_in_words ws a b) ws code left
  fed a b left e m c l = left_after words_of (on_same (λ (run : Run). feed_call run a b) (λ (run : Run). run) e m) c l

  -- D is what reading the run leaves there
  pub read : (d left : List ℕ) → run ≡ run_in ws → Meets (read_call run d) (d, run) verdict (left, run')
      → code ≡ code_of (told verdict) → Coded (read_in_words ws d) d code left
  read d left e m c = coded_as (λ left. left.0) (on_same (λ (run : Run). read_call run d) (λ (run : Run). (d, run)) e m) c refl

  -- and the four words what reading the marks does
  pub marks : (out left : List ℕ) → run ≡ run_in ws → Meets (marks_call run out) (out, run) verdict (left, run')
      → code ≡ code_of (told verdict) → Coded (marks_in_words ws out) out code left
  marks out left e m c = coded_as (λ left. left.0) (on_same (λ (run : Run). marks_call run out) (λ (run : Run). (out, run)) e m) c refl
