-- Laws of the choice of bytes: the chosen lanes by a computed test over every legal thread-id, and the chosen byte and the exponent at
-- each number. Assumes nothing.
use Rattle.std.proofs.Common.{if◌then◌else◌, one-add, ◌==◌, set, take, drop, map, ◌≤◌, append-nil, append_assoc, add-one}
use Rattle.std.specs.Int.{w32, to_le_bytes}
use Rattle.std.specs.List.{position_or_len}
use Rattle.std.proofs.lemmas.List.Recursion.{is_position_or_len}
use Rattle.answers.specs.Tests.{first_of, first_true}
use Rattle.scale.specs.ScaleCall.{not_a_number}
use Rattle.std.proofs.lemmas.Nat.{pow-add}
use mathlib.Core.Path.{◌≡◌, refl, sym, ap, ap₂, subst, ◌∙◌}
use mathlib.Core.Bool.{Bool, true, false}
use mathlib.Core.List.{List, [], ◌∷◌, ◌++◌}
use Prim.Native.Nat.{ℕ, zero, suc, ◌+◌, ◌*◌, ◌/◌, ◌%◌, ◌^◌, ◌<◌, zero-le, suc-le-suc}
use native.Mathlib.Nat.{div-div-eq-div-mul, div-one, add_comm, mul-one, zero-mul, suc-mul, div-add-mod', div-lt_iff_lt-mul, mod-lt, not-suc-le-zero, le_of_suc-le-suc}
use native.Mathlib.Decide.{ℕ_discrete}
use native.Mathlib.Omega.{arith}
use lib.Dec.{eqb→eq}
use lib.IntN.{pos, sub_ℕ}
use lib.ListN.{length, get_or, length-append, length-map, get_or-append}
use lib.Seq.{get_or-append-add}
use lib.Signed.{◌≤ℤ◌, le_z, le_z_yes}
use Rattle.laws.specs.Choice.{◌=?◌}
use Rattle.laws.specs.Lists.{tab, blocks}
use Rattle.laws.proofs.Every.{all_at, all₂_≡}
use Rattle.laws.proofs.Lists.{length_tab, get_or_tab, is_tab, tab_ext}
use Rattle.answers.specs.Tests.{Says}
use Rattle.scale.specs.Bytes.{legal_thread_id, taken, chosen_lanes, byte_of, bytes_from, chosen_bytes, exponent, scaled, output_length}
use Rattle.scale.proofs.Legal.{thread_A, thread_B}

-- the lanes of side A, and of side B
pub lanes_A : (t k : ℕ) → t < 2 → k < 16 → k / 2 * 4 + (2 * t + k % 2) ≡ get_or (chosen_lanes 0 t) k 0
unfolding chosen_lanes tab
lanes_A = all₂_≡ 2 16 (λ t k. k / 2 * 4 + (2 * t + k % 2)) (λ t k. get_or (chosen_lanes 0 t) k 0) tt

pub lanes_B : (t k : ℕ) → t < 4 → k < 8 → k * 4 + t ≡ get_or (chosen_lanes 1 t) k 0
unfolding chosen_lanes tab
lanes_B = all₂_≡ 4 8 (λ t k. k * 4 + t) (λ t k. get_or (chosen_lanes 1 t) k 0) tt

count_A : (t : ℕ) → t < 2 → length (chosen_lanes 0 t) ≡ 16
unfolding chosen_lanes tab
count_A t h = eqb→eq (length (chosen_lanes 0 t)) 16 (all_at 2 (λ t. length (chosen_lanes 0 t) =? 16) tt t h)

count_B : (t : ℕ) → t < 4 → length (chosen_lanes 1 t) ≡ 8
unfolding chosen_lanes tab
count_B t h = eqb→eq (length (chosen_lanes 1 t)) 8 (all_at 4 (λ t. length (chosen_lanes 1 t) =? 8) tt t h)

-- as many as the output has numbers at one from each
pub lanes_length : (side t : ℕ) → Says (legal_thread_id side t) → length (chosen_lanes side t) ≡ output_length 1 side
lanes_length side t ok = on (ℕ_discrete side 0)
  where
    on : Dec (side ≡ 0) → length (chosen_lanes side t) ≡ output_length 1 side
    on (yes e) = rw e (count_A t (thread_A side t ok e))
    on (no ne) = let p = thread_B side t ok ne in rw p.0 (count_B t p.1)

module _ (s b : ℕ) (m : List ℕ) where
  -- byte j from byte-id on of a lane
  abbrev from : (lane j : ℕ) → ℕ
  from lane j = byte_of (get_or m lane 0) (b + j)

  bytes_length : (ls : List ℕ) → length (bytes_from s b m ls) ≡ length ls * s
  bytes_length [] = sym (zero-mul s)
  bytes_length (l ∷ ls) = simp (length-append, length_tab, bytes_length ls, suc-mul) (add_comm s (length ls * s))

  -- byte j of lane number k
  digit : (ls : List ℕ) (k j : ℕ) → k < length ls → j < s → get_or (bytes_from s b m ls) (k * s + j) 0 ≡ from (get_or ls k 0) j
  digit [] k j h l = absurd (not-suc-le-zero h)
  digit (x ∷ ls) zero j h l =
      ap (λ (i : ℕ). get_or (tab s (from x) ++ bytes_from s b m ls) i 0) (omega arith)
      ∙ get_or-append (tab s (from x)) (bytes_from s b m ls) 0 j (omega (arith, length_tab s (from x)))
      ∙ get_or_tab s (from x) j 0 l
  digit (x ∷ ls) (suc k) j h l =
      ap (λ (i : ℕ). get_or (tab s (from x) ++ bytes_from s b m ls) i 0) (omega (arith, suc-mul k s, length_tab s (from x)))
      ∙ get_or-append-add (tab s (from x)) (bytes_from s b m ls) (k * s + j) 0
      ∙ digit ls k j (le_of_suc-le-suc h) l

  -- byte x of them all
  bytes_at : (ls : List ℕ) (x : ℕ) → 0 < s → x < length ls * s → get_or (bytes_from s b m ls) x 0 ≡ from (get_or ls (x / s) 0) (x % s)
  bytes_at ls x s0 h = ap (λ (i : ℕ). get_or (bytes_from s b m ls) i 0) (sym (div-add-mod' x s)) ∙ digit ls (x / s) (x % s) ((div-lt_iff_lt-mul s0).1 h) (mod-lt x s0)

-- two buffers that agree in the bytes of the lanes that a test takes
module _ (s b : ℕ) (m n : List ℕ) (test : ℕ → Bool) where
  step : (l : ℕ) (ls : List ℕ) (t : Bool) → (t ≡ true → tab s (from s b m l) ≡ tab s (from s b n l)) → bytes_from s b m ls ≡ bytes_from s b n ls
      → bytes_from s b m (if t then l ∷ ls else ls) ≡ bytes_from s b n (if t then l ∷ ls else ls)
  step l ls true h e = ap₂ ◌++◌ (h refl) e
  step l ls false h e = e

  pub same_bytes : (ls : List ℕ)
      → ((i : ℕ) → i < length ls → (j : ℕ) → j < s → test (get_or ls i 0) ≡ true → from s b m (get_or ls i 0) j ≡ from s b n (get_or ls i 0) j)
      → bytes_from s b m (taken test ls) ≡ bytes_from s b n (taken test ls)
  same_bytes [] h = refl
  same_bytes (l ∷ ls) h =
      step l (taken test ls) (test l)
      (λ e. tab_ext s (from s b m l) (from s b n l) (λ j k. h 0 (suc-le-suc zero-le) j k e))
      (same_bytes ls (λ i k. h (suc i) (suc-le-suc k)))

-- the chosen lanes' numbers together are the output's
pub by_one : (s side : ℕ) → output_length s side ≡ output_length 1 side * s
by_one s side = ap (λ (n : ℕ). n * s) (sym (mul-one (if side =? 0 then 16 else 8)))

-- byte j of chosen lane number k
abbrev pub chosen_byte : (side b t : ℕ) → List ℕ → (k j : ℕ) → ℕ
chosen_byte side b t m k j = byte_of (get_or m (get_or (chosen_lanes side t) k 0) 0) (b + j)

-- the chosen bytes and the output, by number
module _ (s side b t : ℕ) (m : List ℕ) (ok : Says (legal_thread_id side t)) where
  numbers : output_length s side ≡ length (chosen_lanes side t) * s
  numbers = by_one s side ∙ ap (λ (n : ℕ). n * s) (sym (lanes_length side t ok))

  pub chosen_length : length (chosen_bytes s side b t m) ≡ output_length s side
  unfolding chosen_bytes
  chosen_length = bytes_length s b m (chosen_lanes side t) ∙ sym numbers

  pub scaled_length : length (scaled s side b t m) ≡ output_length s side
  unfolding scaled
  scaled_length = length-map (chosen_bytes s side b t m) exponent ∙ chosen_length

  pub chosen_tab : 0 < s → chosen_bytes s side b t m ≡ tab (output_length s side) (blocks s (chosen_byte side b t m))
  unfolding chosen_bytes
  chosen_tab s0 =
      is_tab (output_length s side) (blocks s (chosen_byte side b t m)) (chosen_bytes s side b t m) 0 chosen_length
      (λ x h. bytes_at s b m (chosen_lanes side t) x s0 (subst (λ (n : ℕ). x < n) numbers h))

  pub chosen_small : 0 < s → (x : ℕ) → x < output_length s side → get_or (chosen_bytes s side b t m) x 0 < 256
  chosen_small s0 x h =
      let byte = blocks s (chosen_byte side b t m) in
      subst (λ (y : ℕ). y < 256) (sym (ap (λ (bytes : List ℕ). get_or bytes x 0) (chosen_tab s0) ∙ get_or_tab (output_length s side) byte x 0 h)) (mod-lt _ (suc-le-suc zero-le))

-- the exponent of a byte that is a number lies in -127 to 127
pub exponent_range : (b : ℕ) → b < 255 → (sub_ℕ 0 127 ≤ℤ exponent b) × (exponent b ≤ℤ pos 127)
exponent_range b h = (le_z_yes (all_at 255 (λ b. le_z (sub_ℕ 0 127) (exponent b)) tt b h), le_z_yes (all_at 255 (λ b. le_z (exponent b) (pos 127)) tt b h))

-- the first byte that is not a number
pub first_nan : (bytes : List ℕ) → first_of (length bytes) (λ i. not_a_number (get_or bytes i 0)) ≡ position_or_len (λ b. b == 255) bytes
unfolding first_true
first_nan =
    is_position_or_len (λ (bytes : List ℕ). first_of (length bytes) (λ i. not_a_number (get_or bytes i 0))) (λ b. b == 255) refl
    (λ x xs. ap (λ (n : ℕ). if x =? 255 then 0 else n) (sym (one-add (first_of (length xs) (λ i. not_a_number (get_or xs i 0))))))

-- one element more of a list written over the front of another
pub one_more : {A B : Type 0} (f : A → B) (xs : List A) (ys : List B) (i : ℕ) (d : A) → length ys ≡ length xs → i < length xs
    → set (map f (take i xs) ++ drop i ys) i (f (get_or xs i d)) ≡ map f (take (suc i) xs) ++ drop (suc i) ys
one_more f [] ys i d e h = absurd (not-suc-le-zero h)
one_more f (x ∷ xs) [] i d e h = absurd (omega arith)
one_more f (x ∷ xs) (y ∷ ys) zero d e h = refl
one_more f (x ∷ xs) (y ∷ ys) (suc i) d e h = ap (λ (zs : List _). f x ∷ zs) (one_more f xs ys i d (omega arith) (le_of_suc-le-suc h))

-- the bytes of a word, by number
byte_at : (word i : ℕ) → i < 4 → get_or (to_le_bytes w32 word) i 0 ≡ byte_of word i
byte_at word zero h = sym (ap (λ (n : ℕ). n % 256) (div-one word))
byte_at word (suc zero) h = refl
byte_at word (suc (suc zero)) h = refl
byte_at word (suc (suc (suc zero))) h = refl
byte_at word (suc (suc (suc (suc i)))) h = absurd (omega arith)

-- byte j of what is left of a word from byte b on
shifted : (word b j : ℕ) → byte_of (word / 2 ^ (8 * b)) j ≡ byte_of word (b + j)
shifted word b j =
    let sum : 8 * b + 8 * j ≡ 8 * (b + j) = omega arith in
    ap (λ (n : ℕ). n % 256) (div-div-eq-div-mul word (2 ^ (8 * b)) (2 ^ (8 * j)) ∙ ap (λ (n : ℕ). word / n) (sym (pow-add 2 (8 * b) (8 * j)) ∙ ap (λ (n : ℕ). 2 ^ n) sum))

-- and all of them
pub low_bytes : (word b : ℕ) → to_le_bytes w32 (word / 2 ^ (8 * b)) ≡ tab 4 (λ j. byte_of word (b + j))
low_bytes word b =
    let rest = word / 2 ^ (8 * b) in
    is_tab 4 (λ j. byte_of word (b + j)) (to_le_bytes w32 rest) 0 refl (λ j l. byte_at rest j l ∙ shifted word b j)

-- the first n of m
pub take_tab : (n m : ℕ) (f : ℕ → ℕ) → n ≤ m → take n (tab m f) ≡ tab n f
unfolding tab
take_tab zero m f h = refl
take_tab (suc n) zero f h = absurd (not-suc-le-zero h)
take_tab (suc n) (suc m) f h = ap (λ (xs : List ℕ). f 0 ∷ xs) (take_tab n m (λ k. f (suc k)) (le_of_suc-le-suc h))

-- the bytes of one lane more
bytes_more : (s b : ℕ) (m ls : List ℕ) (k : ℕ) → k < length ls
    → bytes_from s b m (take (suc k) ls) ≡ bytes_from s b m (take k ls) ++ tab s (from s b m (get_or ls k 0))
bytes_more s b m [] k h = absurd (not-suc-le-zero h)
bytes_more s b m (l ∷ ls) zero h = append-nil _
bytes_more s b m (l ∷ ls) (suc k) h =
    ap (λ (bytes : List ℕ). tab s (from s b m l) ++ bytes) (bytes_more s b m ls k (le_of_suc-le-suc h))
    ∙ sym (append_assoc (tab s (from s b m l)) (bytes_from s b m (take k ls)) (tab s (from s b m (get_or ls k 0))))

-- and a buffer that they were put into behind those before
pub lane_more : (s b : ℕ) (m ls : List ℕ) (k : ℕ) (xs ys : List ℕ) {lane : ℕ} → k < length ls → lane ≡ get_or ls k 0 → take (k * s) xs ≡ bytes_from s b m (take k ls)
    → take (k * s + s) ys ≡ take (k * s) xs ++ tab s (λ j. byte_of (get_or m lane 0) (b + j)) → take ((k + 1) * s) ys ≡ bytes_from s b m (take (k + 1) ls)
lane_more s b m ls k xs ys h el ex ey =
    rw (add-one, suc-mul) (ey ∙ ap₂ (λ (lane : ℕ) (front : List ℕ). front ++ tab s (from s b m lane)) el ex ∙ sym (bytes_more s b m ls k h))
