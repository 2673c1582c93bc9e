-- The words that the C interface writes: a place, a pair, and a run's. Assumes nothing.
use mathlib.Core.Path.{◌≡◌, refl, sym, ap, ap₂, ◌∙◌}
use mathlib.Core.List.{List, [], ◌∷◌, ◌++◌, append_assoc, append-nil}
use Prim.Native.Nat.{ℕ, ◌-◌, ◌≤◌}
use native.Mathlib.Omega.{arith}
use lib.ListN.{length, set, take, drop, length-append, length-drop, drop_of_length-le}
use lib.Seq.{length-take-le, take_all, take_at, drop_at}
use Rattle.run.specs.declared.Run.{Run}
use Rattle.words.specs.Words.{words_of}

-- a call that writes two numbers
pub pair : (xs : List ℕ) (a b : ℕ) → length xs ≡ 2 → set (set xs 0 a) 1 b ≡ a ∷ b ∷ []
pair [] a b e = absurd (omega arith)
pair (x ∷ []) a b e = absurd (omega arith)
pair (x ∷ y ∷ []) a b e = refl
pair (x ∷ y ∷ z ∷ xs) a b e = absurd (omega arith)

-- a run's words: the first four, and the sums and marks behind them
pub four : (xs : List ℕ) (a b c d : ℕ) → 4 ≤ length xs → set (set (set (set xs 0 a) 1 b) 2 c) 3 d ≡ a ∷ b ∷ c ∷ d ∷ drop 4 xs
four [] a b c d l = absurd (omega arith)
four (x ∷ []) a b c d l = absurd (omega arith)
four (x ∷ y ∷ []) a b c d l = absurd (omega arith)
four (x ∷ y ∷ z ∷ []) a b c d l = absurd (omega arith)
four (x ∷ y ∷ z ∷ w ∷ xs) a b c d l = refl

pub words_long : (run : Run) → length run.sums ≡ 128 → length run.marks ≡ 4 → length (words_of run) ≡ 136
unfolding words_of
words_long run l m = omega (arith, length-append run.sums run.marks, l, m)

-- 136 words, of which 128 are lent behind the first four, and the last four
module _ (ws : List ℕ) (long : length ws ≡ 136) where
  pub length_lent : length (take 128 (drop 4 ws)) ≡ 128
  length_lent = length-take-le 128 (drop 4 ws) (omega (arith, length-drop 4 ws, long))

  last_drop : length (drop 132 ws) ≡ 4
  last_drop = length-drop 132 ws ∙ ap (λ (n : ℕ). n - 132) long

  pub lent_last : take 4 (drop 132 ws) ≡ drop 132 ws
  lent_last = take_all 4 (drop 132 ws) (omega (arith, last_drop))

  pub length_last : length (take 4 (drop 132 ws)) ≡ 4
  length_last = ap length lent_last ∙ last_drop

  module _ (sums marks : List ℕ) (full : length sums ≡ 128) where
    -- the words with the sums in them
    abbrev pub summed : List ℕ
    summed = take 4 ws ++ (sums ++ drop 128 (drop 4 ws))

    front : length (take 4 ws ++ sums) ≡ 132
    front = length-append (take 4 ws) sums ∙ omega (arith, length-take-le 4 ws (omega (arith, long)), full)

    apart : summed ≡ (take 4 ws ++ sums) ++ drop 128 (drop 4 ws)
    apart = sym (append_assoc (take 4 ws) sums (drop 128 (drop 4 ws)))

    pub summed_long : length summed ≡ 136
    summed_long = ap length apart ∙ length-append (take 4 ws ++ sums) (drop 128 (drop 4 ws)) ∙ omega (arith, front, length-drop 128 (drop 4 ws), length-drop 4 ws, long)

    -- with the marks behind them
    pub marks_behind : drop 4 (take 132 summed ++ (marks ++ drop 4 (drop 132 summed))) ≡ sums ++ marks
    marks_behind =
        ap₂ (λ (xs ys : List ℕ). drop 4 (xs ++ (marks ++ ys)))
        (ap (take 132) apart ∙ take_at (take 4 ws ++ sums) (drop 128 (drop 4 ws)) 132 front)
        (drop_of_length-le (drop 132 summed) {i = 4} (omega (arith, length-drop 132 summed, summed_long)))
        ∙ ap (drop 4) (append_assoc (take 4 ws) sums (marks ++ []))
        ∙ drop_at (take 4 ws) (sums ++ (marks ++ [])) 4 (length-take-le 4 ws (omega (arith, long)))
        ∙ ap (λ (xs : List ℕ). sums ++ xs) (append-nil marks)
