-- What is printed for the first records of a file, and for two stretches of records one after the other. Assumes nothing.
use mathlib.Core.Path.{◌≡◌, refl, sym, ap, ap₂, ◌∙◌}
use mathlib.Core.List.{List, [], ◌++◌, append_assoc, append-nil}
use Prim.Native.Nat.{ℕ, zero, suc, ◌+◌, ◌*◌, ◌%◌, ◌^◌, ◌<◌, ◌≤◌}
use native.Mathlib.Nat.{add_assoc, add-suc, add-zero}
use native.Mathlib.Omega.{arith}
use lib.ListN.{length, take, drop, get_or, length-append, length-drop}
use lib.Seq.{take-append-le, take_all, drop-append-le, drop-append-add, drop-drop}
use Rattle.std.specs.Simd.{first_chunks}
use Rattle.text.specs.Text.{decimal}
use Rattle.text.proofs.Laws.{decimal_length}
use Rattle.records.specs.Records.{record_bytes}
use Rattle.replay_text.specs.Verdicts.{verdict_of}
use Rattle.replay_text.specs.Text.{line_of, record_at, lines_of, whole_records, printed_from}

-- a 32-bit number takes at most ten digits, and a 64-bit number twenty
pub ten : (n : ℕ) → n < 2 ^ 32 → length (decimal n) ≤ 10
ten n h = decimal_length 9 20 n (omega arith)

pub twenty : (n : ℕ) → n < 2 ^ 64 → length (decimal n) ≤ 20
twenty n h = decimal_length 19 20 n (omega arith)

-- a whole record of a file, of those that it was cut into
pub record_is : (count i : ℕ) (file : List ℕ) → i < count → get_or (first_chunks record_bytes count file) i [] ≡ record_at file i
record_is zero i file h = absurd (omega arith)
record_is (suc count) zero file h = refl
record_is (suc count) (suc i) file h =
    let next : record_bytes * suc i ≡ record_bytes + record_bytes * i = omega arith in
    record_is count i (drop record_bytes file) (omega arith) ∙ ap (take record_bytes) (drop-drop (record_bytes * i) record_bytes file ∙ ap (λ (n : ℕ). drop n file) (sym next))

-- a record of the first stretch, and of the second
module _ (xs ys : List ℕ) where
  pub record_before : (i : ℕ) → record_bytes * i + record_bytes ≤ length xs → record_at (xs ++ ys) i ≡ record_at xs i
  record_before i h =
      ap (take record_bytes) (drop-append-le (record_bytes * i) xs ys (omega arith))
      ∙ take-append-le record_bytes (drop (record_bytes * i) xs) ys (omega (arith, h, length-drop (record_bytes * i) xs))

  pub record_after : (m i : ℕ) → length xs ≡ record_bytes * m → record_at (xs ++ ys) (m + i) ≡ record_at ys i
  record_after m i e =
      let n : record_bytes * (m + i) ≡ length xs + record_bytes * i = omega (arith, e) in
      ap (take record_bytes) (ap (λ (n : ℕ). drop n (xs ++ ys)) n ∙ drop-append-add xs ys (record_bytes * i))

  lines_before : (number n : ℕ) → record_bytes * n ≤ length xs → lines_of number n (xs ++ ys) ≡ lines_of number n xs
  unfolding lines_of
  lines_before number zero h = refl
  lines_before number (suc n) h =
      ap₂ (λ (l m : List ℕ). l ++ m) (lines_before number n (omega arith)) (ap (λ (r : List ℕ). line_of (number + n) (verdict_of r)) (record_before n (omega arith)))

  lines_after : (number m n : ℕ) → length xs ≡ record_bytes * m → lines_of number (m + n) (xs ++ ys) ≡ lines_of number m xs ++ lines_of (number + m) n ys
  unfolding lines_of
  lines_after number m zero e =
      ap (λ (k : ℕ). lines_of number k (xs ++ ys)) (add-zero m) ∙ lines_before number m (omega arith) ∙ sym (append-nil (lines_of number m xs))
  lines_after number m (suc n) e =
      ap (λ (k : ℕ). lines_of number k (xs ++ ys)) (add-suc m n)
      ∙ ap₂ (λ (l r : List ℕ). l ++ r) (lines_after number m n e) (ap₂ (λ (k : ℕ) (r : List ℕ). line_of k (verdict_of r)) (sym (add_assoc number m n)) (record_after m n e))
      ∙ append_assoc (lines_of number m xs) (lines_of (number + m) n ys) (line_of (number + m + n) (verdict_of (record_at ys n)))

  pub printed_joined : (number : ℕ) → length xs % record_bytes ≡ 0
      → printed_from number (xs ++ ys) ≡ printed_from number xs ++ printed_from (number + whole_records xs) ys
  printed_joined number w =
      let n : whole_records (xs ++ ys) ≡ whole_records xs + whole_records ys = omega (arith, length-append xs ys) in
      ap (λ (n : ℕ). lines_of number n (xs ++ ys)) n
      ∙ lines_after number (whole_records xs) (whole_records ys) (omega arith)

  -- a part record at the end is absent
  pub part_absent : (number : ℕ) → length xs % record_bytes ≡ 0 → length ys < record_bytes → printed_from number (xs ++ ys) ≡ printed_from number xs
  unfolding lines_of
  part_absent number w short =
      let none : whole_records ys ≡ 0 = omega arith in
      printed_joined number w
      ∙ ap (λ (n : ℕ). printed_from number xs ++ lines_of (number + whole_records xs) n ys) none
      ∙ append-nil (printed_from number xs)

-- the record between others
pub record_own : (before bytes after : List ℕ) (i : ℕ) → length before ≡ record_bytes * i → length bytes ≡ record_bytes
    → record_at (before ++ (bytes ++ after)) i ≡ bytes
record_own before bytes after i e n =
    ap (λ (m : ℕ). record_at (before ++ (bytes ++ after)) m) (sym (add-zero i))
    ∙ record_after before (bytes ++ after) i 0 e
    ∙ take-append-le record_bytes bytes after (omega (arith, n))
    ∙ take_all record_bytes bytes (omega (arith, n))
