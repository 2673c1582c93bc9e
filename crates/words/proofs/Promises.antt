-- What the C interface promises beyond its contracts: a run and its words are the same thing, so that demand 3 reads over the words, and an answer's
-- word tells the answer. Assumes nothing.
use mathlib.Core.Path.{◌≡◌, refl, ap, ap₂, ◌∙◌}
use mathlib.Core.List.{List, [], ◌∷◌}
use mathlib.Core.Logic.{◌↔◌}
use Prim.Native.Nat.{ℕ, ◌/◌, ◌%◌, ◌^◌, ◌<◌, ◌≤◌}
use native.Mathlib.Omega.{arith}
use lib.ListN.{length, take-append-drop}
use lib.Seq.{take_at, drop_at}
use Rattle.std.specs.Prelude.{Ok, Err}
use Rattle.answers.specs.Refusals.{Answer, given, refusal, told, after, Verdict}
use Rattle.answers.proofs.Refusals.{number_range}
use Rattle.run.specs.declared.Run.{Run}
use Rattle.run.specs.Runs.{run_of, opened_run, zero_run, fed_run, used_of}
use Rattle.run.specs.RunCalls.{open_answer, feed_answer, read_answer, marks_answer}
use Rattle.run.specs.Blocks.{Block, fed_by, fed_all}
use Rattle.run.proofs.Laws.{opened_long}
use Rattle.run.proofs.Demand.{fed_long}
use Rattle.answers.specs.Promised.{code_of}
use Rattle.words.specs.Words.{run_in, words_of, opened_words, read_words, marks_words, fed_all_words}

-- The run in a run's words is the run,
pub run_back : (run : Run) → length run.sums ≡ 128 → run_in (words_of run) ≡ run
unfolding run_in words_of
run_back run l =
    ap₂ (λ (sums marks : List ℕ). run_of run.kind.0 run.signs.0 run.mode.0 run.blocks sums marks)
    (take_at run.sums run.marks 128 l) (drop_at run.sums run.marks 128 l)

-- and the words of the run in 136 words are those words.
pub words_back : (ws : List ℕ) → 4 ≤ length ws → words_of (run_in ws) ≡ ws
unfolding run_in words_of
words_back [] l = absurd (omega arith)
words_back (x ∷ []) l = absurd (omega arith)
words_back (x ∷ y ∷ []) l = absurd (omega arith)
words_back (x ∷ y ∷ z ∷ []) l = absurd (omega arith)
words_back (x ∷ y ∷ z ∷ w ∷ ws) l = ap (λ (zs : List ℕ). x ∷ y ∷ z ∷ w ∷ zs) (take-append-drop 128 ws)

-- To feed the words of a run is to feed the run.
after_words : (q : Answer (Unit {0})) (new old : Run) → after q (words_of new) (words_of old) ≡ words_of (after q new old)
after_words (given x) new old = refl
after_words (refusal n d) new old = refl

pub fed_words_lem : (run : Run) → length run.sums ≡ 128 → (xs : List Block) → fed_all_words (words_of run) xs ≡ words_of (fed_all run xs)
unfolding fed_all_words fed_all feed_answer
fed_words_lem run l [] = refl
fed_words_lem run l (x ∷ xs) =
    ap (λ (ws : List ℕ). fed_all_words ws xs)
    (ap (λ (r : Run). after (feed_answer r (length x.a) (length x.b)) (words_of (fed_run r x.a x.b)) (words_of run)) (run_back run l)
    ∙ after_words (feed_answer run (length x.a) (length x.b)) (fed_run run x.a x.b) run)
    ∙ fed_words_lem (fed_by run x) (fed_long run x l) xs

all_long : (run : Run) → length run.sums ≡ 128 → (xs : List Block) → length (fed_all run xs).sums ≡ 128
unfolding fed_all
all_long run l [] = l
all_long run l (x ∷ xs) = all_long (fed_by run x) (fed_long run x l) xs

-- Demand 3 over the words: after an accepted wz_open and any list of wz_feed the words hold the run of which demand 3 speaks, and wz_read leaves
-- in D what a read of that run leaves, whose entries are its sums (`read_sums`).
module _ (kind signs mode : ℕ) (c : List ℕ) (opened : open_answer kind signs mode (length c) ≡ given tt) (xs : List Block) where
  long : length (opened_run kind signs mode c).sums ≡ 128
  long = opened_long kind signs mode c opened

  pub words_hold : run_in (fed_all_words (opened_words kind signs mode c) xs) ≡ fed_all (opened_run kind signs mode c) xs
  unfolding open_answer
  words_hold =
      ap (λ (q : Answer (Unit {0})). run_in (fed_all_words (after q (words_of (opened_run kind signs mode c)) (words_of zero_run)) xs)) opened
      ∙ ap run_in (fed_words_lem (opened_run kind signs mode c) long xs)
      ∙ run_back (fed_all (opened_run kind signs mode c) xs) (all_long (opened_run kind signs mode c) long xs)

  pub words_read : (d : List ℕ) → read_words (fed_all_words (opened_words kind signs mode c) xs) d
      ≡ after (read_answer (fed_all (opened_run kind signs mode c) xs) (length d)) (used_of (fed_all (opened_run kind signs mode c) xs)) d
  unfolding read_answer
  words_read d = ap (λ (r : Run). after (read_answer r (length d)) (used_of r) d) words_hold

  -- and wz_marks its marks
  pub words_marks : (out : List ℕ) → marks_words (fed_all_words (opened_words kind signs mode c) xs) out
      ≡ after (marks_answer (fed_all (opened_run kind signs mode c) xs) (length out)) (fed_all (opened_run kind signs mode c) xs).marks out
  unfolding marks_answer
  words_marks out = ap (λ (r : Run). after (marks_answer r (length out)) r.marks out) words_hold

-- The answer's word: number and detail are its halves, as WZ_NUMBER and WZ_DETAIL take them,
pub code_number : (n d : ℕ) → n < 2 ^ 32 → code_of {X = Unit {0}} (refusal n d) % 2 ^ 32 ≡ n
code_number n d h = omega arith

pub code_detail : (n d : ℕ) → n < 2 ^ 32 → code_of {X = Unit {0}} (refusal n d) / 2 ^ 32 ≡ d
code_detail n d h = omega arith

-- and it is 0 exactly where the call was accepted.
pub code_accepted : (v : Verdict) → (code_of (told v) ≡ 0) ↔ (v ≡ (Ok tt))
code_accepted (Ok x) = (λ e. refl, λ e. refl)
code_accepted (Err x) = (λ e. absurd (omega (arith, number_range x)), λ e. absurd (let z : ◌≡◌ {A = ℕ} 0 1 = cc in omega arith))
