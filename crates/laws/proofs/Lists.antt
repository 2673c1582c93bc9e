-- Laws of `tab` and `fills`: what stands where, one store more, one block more, and a buffer that was filled whole. Assumes nothing.
use mathlib.Core.Path.{◌≡◌, refl, sym, ap, ap₂, ◌∙◌}
use mathlib.Core.List.{List, [], ◌∷◌}
use mathlib.Core.Logic.{◌⊎◌, inl, inr}
use Prim.Native.Nat.{ℕ, zero, suc, ◌+◌, ◌*◌, ◌≤◌, ◌<◌, zero-le, suc-le-suc}
use native.Mathlib.Nat.{not-suc-le-zero, le_of_suc-le-suc, eq-or-lt_of_le, add_assoc, add-suc, suc-mul, add-zero, zero-add, mul-le-mul_right}
use native.Mathlib.Numerals.{add-one}
use native.Mathlib.Omega.{arith}
use lib.Arith.{digits_lt, digits_div, digits_mod}
use lib.ListN.{length, get_or, set, length-set}
use lib.Seq.{ext_get_or, get_or-set_same, get_or-set_other}
use Rattle.laws.specs.Lists.{tab, fills, blocks}

-- a block of w below the n-th ends within n * w
pub block_le : (k n w : ℕ) → k < n → k * w + w ≤ n * w
block_le k n w h = let l : suc k ≤ n = h in omega (arith, mul-le-mul_right w l, suc-mul k w)

module _ {A : Type 0} where
  -- within a list, what stands past its end has no say
  pub get_d_any : (xs : List A) (i : ℕ) (d e : A) → i < length xs → get_or xs i d ≡ get_or xs i e
  get_d_any [] i d e l = absurd (not-suc-le-zero l)
  get_d_any (x ∷ xs) zero d e l = refl
  get_d_any (x ∷ xs) (suc i) d e l = get_d_any xs i d e (le_of_suc-le-suc l)

  pub length_tab : (n : ℕ) (f : ℕ → A) → length (tab n f) ≡ n
  unfolding tab
  length_tab zero f = refl
  length_tab (suc n) f = ap suc (length_tab n (λ k. f (suc k)))

  pub get_or_tab : (n : ℕ) (f : ℕ → A) (i : ℕ) (d : A) → i < n → get_or (tab n f) i d ≡ f i
  unfolding tab
  get_or_tab zero f i d l = absurd (not-suc-le-zero l)
  get_or_tab (suc n) f zero d l = refl
  get_or_tab (suc n) f (suc i) d l = get_or_tab n (λ k. f (suc k)) i d (le_of_suc-le-suc l)

  -- a list that agrees with a rule at each index is its table
  pub is_tab : (n : ℕ) (f : ℕ → A) (xs : List A) (d : A) → length xs ≡ n → ((k : ℕ) → k < n → get_or xs k d ≡ f k) → xs ≡ tab n f
  is_tab n f xs d e h = ext_get_or d xs (tab n f) (e ∙ sym (length_tab n f)) (λ i l. h i (omega arith) ∙ sym (get_or_tab n f i d (omega arith)))

  pub tab_ext : (n : ℕ) (f g : ℕ → A) → ((k : ℕ) → k < n → f k ≡ g k) → tab n f ≡ tab n g
  unfolding tab
  tab_ext zero f g h = refl
  tab_ext (suc n) f g h = ap₂ ◌∷◌ (h zero (suc-le-suc zero-le)) (tab_ext n (λ k. f (suc k)) (λ k. g (suc k)) (λ k l. h (suc k) (suc-le-suc l)))

  pub length_fills : (base n : ℕ) (f : ℕ → A) (xs : List A) → length (fills base n f xs) ≡ length xs
  unfolding fills
  length_fills base zero f xs = refl
  length_fills base (suc n) f xs = length-set (fills base n f xs) (base + n) (f n) ∙ length_fills base n f xs

  -- one store more
  pub fills_more : (base n : ℕ) (f : ℕ → A) (xs : List A) → set (fills base n f xs) (base + n) (f n) ≡ fills base (n + 1) f xs
  unfolding fills
  fills_more base n f xs = rw add-one refl

  -- one store more, from the front
  pub fills_front : (n : ℕ) (f : ℕ → A) (xs : List A) → set (fills 0 n f xs) n (f n) ≡ fills 0 (n + 1) f xs
  fills_front n f xs = ap (λ (i : ℕ). set (fills 0 n f xs) i (f n)) (sym (zero-add n)) ∙ fills_more 0 n f xs

  -- one block more
  joined : (base k w m : ℕ) (g : ℕ → ℕ → A) (xs : List A) → m ≤ w
      → fills (base + k * w) m (g k) (fills base (k * w) (blocks w g) xs) ≡ fills base (k * w + m) (blocks w g) xs
  unfolding fills
  joined base k w zero g xs h = ap (λ (n : ℕ). fills base n (blocks w g) xs) (sym (add-zero (k * w)))
  joined base k w (suc m) g xs h =
      let l : m < w = h in
      ap₂ (λ (ys : List A) (v : A). set ys (base + k * w + m) v) (joined base k w m g xs (omega arith)) (ap₂ g (sym (digits_div k l)) (sym (digits_mod k l)))
      ∙ ap (λ (i : ℕ). set (fills base (k * w + m) (blocks w g) xs) i (blocks w g (k * w + m))) (add_assoc base (k * w) m)
      ∙ ap (λ (n : ℕ). fills base n (blocks w g) xs) (sym (add-suc (k * w) m))

  pub fills_block : (base k w : ℕ) (g : ℕ → ℕ → A) (xs : List A)
      → fills (base + k * w) w (g k) (fills base (k * w) (blocks w g) xs) ≡ fills base ((k + 1) * w) (blocks w g) xs
  fills_block base k w g xs =
      joined base k w w g xs (omega arith)
      ∙ ap (λ (n : ℕ). fills base n (blocks w g) xs) (sym (ap (λ (z : ℕ). z * w) (add-one k) ∙ suc-mul k w))

  -- what stands in a filled buffer: the rule inside, and outside what stood there
  module _ (base : ℕ) (f : ℕ → A) (xs : List A) (d : A) where
    at : (n k : ℕ) → base + n < length xs → ((k ≡ n) ⊎ (k < n)) → (k < n → get_or (fills base n f xs) (base + k) d ≡ f k) → get_or (set (fills base n f xs) (base + n) (f n)) (base + k) d ≡ f k
    at n k h (inl e) r = rw e (get_or-set_same (fills base n f xs) (base + n) (f n) d (omega (arith, length_fills base n f xs)))
    at n k h (inr l) r = get_or-set_other (fills base n f xs) (base + n) (base + k) (f n) d (omega arith) ∙ r l

    pub fills_in : (n k : ℕ) → base + n ≤ length xs → k < n → get_or (fills base n f xs) (base + k) d ≡ f k
    unfolding fills
    fills_in zero k h l = absurd (not-suc-le-zero l)
    fills_in (suc n) k h l = at n k (omega (arith, add-suc base n)) (eq-or-lt_of_le (le_of_suc-le-suc l)) (λ l'. fills_in n k (omega (arith, add-suc base n)) l')

    pub fills_out : (n k : ℕ) → (k < base) ⊎ (base + n ≤ k) → get_or (fills base n f xs) k d ≡ get_or xs k d
    unfolding fills
    fills_out zero k h = refl
    fills_out (suc n) k (inl h) = get_or-set_other (fills base n f xs) (base + n) k (f n) d (omega arith) ∙ fills_out n k (inl h)
    fills_out (suc n) k (inr h) = get_or-set_other (fills base n f xs) (base + n) k (f n) d (omega (arith, add-suc base n)) ∙ fills_out n k (inr (omega (arith, add-suc base n)))

  -- filled whole
  pub fills_all : (n : ℕ) (f : ℕ → A) (xs : List A) (d : A) → length xs ≡ n → fills 0 n f xs ≡ tab n f
  fills_all n f xs d e =
      is_tab n f (fills 0 n f xs) d (length_fills 0 n f xs ∙ e)
      (λ k l. ap (λ (i : ℕ). get_or (fills 0 n f xs) i d) (sym (zero-add k)) ∙ fills_in 0 f xs d n k (omega arith) l)

  -- what stands at place b of block a
  pub fills_at : (n w : ℕ) (g : ℕ → ℕ → A) (xs : List A) (d : A) (a b : ℕ) → n * w ≤ length xs → a < n → b < w
      → get_or (fills 0 (n * w) (blocks w g) xs) (a * w + b) d ≡ g a b
  fills_at n w g xs d a b h ha hb =
      ap (λ (i : ℕ). get_or (fills 0 (n * w) (blocks w g) xs) i d) (sym (zero-add (a * w + b)))
      ∙ fills_in 0 (blocks w g) xs d (n * w) (a * w + b) (omega arith) (digits_lt ha hb)
      ∙ ap₂ g (digits_div a hb) (digits_mod a hb)
