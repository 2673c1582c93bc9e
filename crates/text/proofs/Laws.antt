-- Texts pushed one after another, and the digits of a number: the kit's are the definition's. Assumes nothing.
use mathlib.Core.Path.{◌≡◌, refl, sym, ap, ap₂, subst, ◌∙◌}
use mathlib.Core.Bool.{Bool, true, false}
use mathlib.Core.List.{List, [], ◌∷◌, ◌++◌, append_assoc}
use Prim.Native.Nat.{ℕ, zero, suc, ◌+◌, ◌-◌, ◌*◌, ◌/◌, ◌%◌, ◌^◌, ◌<◌, ◌≤◌}
use native.Mathlib.Nat.{not-suc-le-zero, le_of_suc-le-suc, mod-lt, mod-eq_of_lt, div-lt_iff_lt-mul, le-div_iff_mul-le}
use native.Mathlib.Omega.{arith}
use borrow.Author.Tests.{lt-ltb, le-ltb}
use lib.ListN.{length, take, drop, length-append, length-drop}
use lib.Seq.{length-take-le, drop-drop}
use Rattle.std.proofs.Common.{if◌then◌else◌}
use Rattle.std.proofs.lemmas.Slice.{take-put_mid, drop-put_mid}
use borrow.Rule.Slice.PartMut.{put_mid, same_len_mid}
use Rattle.laws.specs.Choice.{◌<?◌}
use Rattle.io.specs.Digits.{hex_digit_ascii, last_digits, IsDigitCount}
use Rattle.text.specs.Text.{digit, decimal_in, decimal, refused_line, Put, Pushed}
use Rattle.text.specs.declared.Text.{Text}

-- bytes that were copied over a part of a buffer, and a text after a text
pub put_bytes : (xs ys bytes : List ℕ) (at n : ℕ) → ys ≡ bytes → n ≡ length bytes → at + n ≤ length xs → Put bytes xs at (put_mid at n xs ys) (at + length bytes)
put_bytes xs ys bytes at n e long fit = record {
  says = rw e (take-put_mid at n xs bytes (at + length bytes) refl (omega arith));
  ends = refl;
  behind = rw e (drop-put_mid at n xs bytes (at + length bytes) (omega arith) (omega arith) (omega arith));
  keeps = same_len_mid at n xs ys (omega (arith, ap length e, length-take-le n (drop at xs) (omega (arith, length-drop at xs))));
}

pub put_put : {t u xs ys zs : List ℕ} {a b c : ℕ} → Put t xs a ys b → Put u ys b zs c → Put (t ++ u) xs a zs c
put_put {t} {u} {xs} {ys} {zs} {a} {b} {c} p q = record {
  says = q.says ∙ ap (λ (l : List ℕ). l ++ u) p.says ∙ append_assoc (take a xs) t u;
  ends = simp length-append (omega arith);
  behind = q.behind ∙ further b c ys xs p.behind (omega (arith, q.ends));
  keeps = q.keeps ∙ p.keeps;
}
  where
    further : (b c : ℕ) (ys xs : List ℕ) → drop b ys ≡ drop b xs → b ≤ c → drop c ys ≡ drop c xs
    further b c ys xs e h =
        let n : c ≡ b + (c - b) = omega arith in
        ap (λ (m : ℕ). drop m ys) n ∙ sym (drop-drop (c - b) b ys) ∙ ap (drop (c - b)) e ∙ drop-drop (c - b) b xs ∙ ap (λ (m : ℕ). drop m xs) (sym n)

pub pushed_more : {t u : List ℕ} {a b c : Text} → Pushed t a b → Pushed u b c → Pushed (t ++ u) a c
pushed_more p q = record { put = put_put p.put q.put; same_buffer = q.same_buffer ∙ p.same_buffer }

pub pushed_same : {t u : List ℕ} {a b : Text} → t ≡ u → Pushed u a b → Pushed t a b
pushed_same {t} {u} {a} {b} e = subst (λ (t : List ℕ). Pushed t a b) (sym e)

-- from a place on, by what the buffer held and holds
pub pushed_put : {t xs ys : List ℕ} {at n : ℕ} {a b : Text} → Pushed t a b → a.out.now ≡ xs → a.len ≡ at → b.out.now ≡ ys → n ≡ b.len → Put t xs at ys n
pushed_put p first place last long = rw (← first, ← place, ← last, long) p.put

-- how far it reaches
pub pushed_ends : {t : List ℕ} {a b : Text} → Pushed t a b → (n : ℕ) → length t ≤ n → b.len ≤ a.len + n
pushed_ends p n h = omega (arith, p.put)

-- of one digit
pub one_digit : (most n : ℕ) → n < 10 → decimal_in (suc most) n ≡ digit n ∷ []
unfolding decimal_in
one_digit most n h = rw (lt-ltb n 10 h) refl

-- more than enough digits change nothing,
more_digits : (k most n : ℕ) → n < 10 ^ suc k → k ≤ most → decimal_in (suc k) n ≡ decimal_in (suc most) n
unfolding decimal_in
more_digits zero most n h l = rw (lt-ltb n 10 h) refl
more_digits (suc k) zero n h l = absurd (omega (arith, l))
more_digits (suc k) (suc most) n h l =
    let high : n < 10 ^ suc k * 10 = omega (arith, h) in
    let ten : 0 < 10 = omega arith in
    ap (λ (xs : List ℕ). if n <? 10 then digit n ∷ [] else xs ++ (digit (n % 10) ∷ [])) (more_digits k most (n / 10) ((div-lt_iff_lt-mul ten).1 high) (le_of_suc-le-suc l))

-- so that the last digit stands behind those of a tenth
pub last_digit : (n : ℕ) → 10 ≤ n → n < 2 ^ 64 → decimal n ≡ decimal (n / 10) ++ (digit (n % 10) ∷ [])
unfolding decimal_in
last_digit n l h = rw (le-ltb n 10 l) (ap (λ (xs : List ℕ). xs ++ (digit (n % 10) ∷ [])) (more_digits 18 19 (n / 10) (omega (arith, h)) (omega arith)))

-- of two
pub two_digits : (most n : ℕ) → 10 ≤ n → n < 100 → decimal_in (suc (suc most)) n ≡ digit (n / 10) ∷ digit (n % 10) ∷ []
unfolding decimal_in
two_digits most n l h = simp (le-ltb n 10 l) (ap (λ (xs : List ℕ). xs ++ (digit (n % 10) ∷ [])) (one_digit most (n / 10) (omega arith)))

-- how many there are,
pub one_long : (n : ℕ) → n < 10 → length (decimal n) ≡ 1
one_long n h = ap length (one_digit 19 n h)

pub more_long : (n : ℕ) → 10 ≤ n → n < 2 ^ 64 → length (decimal n) ≡ length (decimal (n / 10)) + 1
more_long n l h = ap length (last_digit n l h) ∙ length-append (decimal (n / 10)) _

-- the kit's digits are these
digit_is : (d : ℕ) → d < 10 → hex_digit_ascii d ≡ digit d
digit_is d h = rw (lt-ltb d 10 h) refl

pow_pos : (k : ℕ) → 1 ≤ 10 ^ k
pow_pos zero = omega arith
pow_pos (suc k) = omega (arith, pow_pos k)

ten_le : (k : ℕ) → 10 ≤ 10 ^ suc k
ten_le k = omega (arith, pow_pos k)

pub kit_digits : (k n : ℕ) → IsDigitCount 10 1 n k → n < 2 ^ 64 → last_digits 10 k n ≡ decimal n
kit_digits zero n f h = absurd (not-suc-le-zero f.0)
kit_digits (suc zero) n f h =
    let l : n < 10 = f.1 in
    ap (λ (d : ℕ). hex_digit_ascii d ∷ []) (mod-eq_of_lt l) ∙ ap (λ (d : ℕ). d ∷ []) (digit_is n l) ∙ sym (one_digit 19 n l)
kit_digits (suc (suc k)) n f h =
    let low : 10 ^ suc k ≤ n = subst (λ (m : ℕ). 10 ^ m ≤ n) (omega arith) (f.2 (omega arith)) in
    let much : 10 ≤ n = omega (arith, low, ten_le k) in
    let high : n < 10 ^ suc k * 10 = omega (arith, f.1) in
    let deep : 10 ^ k * 10 ≤ n = omega (arith, low) in
    let ten : 0 < 10 = omega arith in
    let less : IsDigitCount 10 1 (n / 10) (suc k) = (omega arith, (div-lt_iff_lt-mul ten).1 high, λ m. subst (λ (j : ℕ). 10 ^ j ≤ n / 10) (omega arith) ((le-div_iff_mul-le ten).1 deep)) in
    ap₂ (λ (xs : List ℕ) (d : ℕ). xs ++ (d ∷ [])) (kit_digits (suc k) (n / 10) less (omega (arith, h))) (digit_is (n % 10) (mod-lt n (omega arith))) ∙ sym (last_digit n much h)

-- no more than k where the number is below 10 to the k
pub decimal_length : (k most n : ℕ) → n < 10 ^ suc k → length (decimal_in most n) ≤ suc k
unfolding decimal_in
decimal_length k zero n h = omega arith
decimal_length zero (suc most) n h = rw (lt-ltb n 10 h) (omega arith)
decimal_length (suc k) (suc most) n h =
    let high : n < 10 ^ suc k * 10 = omega (arith, h) in
    let ten : 0 < 10 = omega arith in
    shorter (n <? 10) (suc (suc k)) (digit n ∷ []) (decimal_in most (n / 10) ++ (digit (n % 10) ∷ [])) (omega arith)
    (simp length-append (omega (arith, decimal_length k most (n / 10) ((div-lt_iff_lt-mul ten).1 high))))
  where
    shorter : (t : Bool) (n : ℕ) (xs ys : List ℕ) → length xs ≤ n → length ys ≤ n → length (if t then xs else ys) ≤ n
    shorter true n xs ys p q = p
    shorter false n xs ys p q = q

-- how long the line of a refusal is
pub refused_length : (number : ℕ) → length (refused_line number) ≡ 9 + length (decimal number)
unfolding refused_line
refused_length number = simp length-append (omega arith)
