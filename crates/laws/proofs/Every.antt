-- A test that passes at each number below n, which antt computes, holds at any one of them: a table's rule is proved once,
-- by one computed test. Assumes nothing.
use mathlib.Core.Path.{◌≡◌, refl, sym, subst}
use mathlib.Core.Bool.{Bool, true, false, ◌&&◌}
use Prim.Native.Nat.{ℕ, zero, suc, ◌<◌, ◌≤◌}
use native.Mathlib.Nat.{not-suc-le-zero}
use native.Mathlib.Omega.{arith}
use native.Mathlib.Decide.{ℕ_discrete}
use lib.Dec.{T, leb, eqb, leb→le, eqb→eq}

pub left : (a b : Bool) → T (a && b) → T a
left true b t = tt
left false b t = t

pub right : (a b : Bool) → T (a && b) → T b
right true b t = t
right false b t = absurd t

abbrev pub all : ℕ → (ℕ → Bool) → Bool
all zero f = true
all (suc n) f = f n && all n f

step : (n : ℕ) (f : ℕ → Bool) (k : ℕ) → T (f n) → (k < n → T (f k)) → k < suc n → Dec (k ≡ n) → T (f k)
step n f k t r h (yes e) = subst (λ (m : ℕ). T (f m)) (sym e) t
step n f k t r h (no ne) = r (omega arith)

pub all_at : (n : ℕ) (f : ℕ → Bool) → T (all n f) → (k : ℕ) → k < n → T (f k)
all_at zero f t k h = absurd (not-suc-le-zero h)
all_at (suc n) f t k h = step n f k (left (f n) (all n f) t) (all_at n f (right (f n) (all n f) t) k) h (ℕ_discrete k n)

is_true : (b : Bool) → T b → b ≡ true
is_true true t = refl
is_true false t = absurd t

-- the same at two numbers
module _ (n m : ℕ) where
  abbrev pub all₂ : (ℕ → ℕ → Bool) → Bool
  all₂ f = all n (λ a. all m (f a))

  pub all₂_at : (f : ℕ → ℕ → Bool) → T (all₂ f) → (a b : ℕ) → a < n → b < m → T (f a b)
  all₂_at f t a b p q = all_at m (f a) (all_at n (λ a. all m (f a)) t a p) b q

  pub all₂_≤ : (f g : ℕ → ℕ → ℕ) → T (all₂ (λ a b. leb (f a b) (g a b))) → (a b : ℕ) → a < n → b < m → f a b ≤ g a b
  all₂_≤ f g t a b p q = leb→le (f a b) (g a b) (all₂_at (λ a b. leb (f a b) (g a b)) t a b p q)

  pub all₂_≡ : (f g : ℕ → ℕ → ℕ) → T (all₂ (λ a b. eqb (f a b) (g a b))) → (a b : ℕ) → a < n → b < m → f a b ≡ g a b
  all₂_≡ f g t a b p q = eqb→eq (f a b) (g a b) (all₂_at (λ a b. eqb (f a b) (g a b)) t a b p q)

  pub all₂_true : (f : ℕ → ℕ → Bool) → T (all₂ f) → (a b : ℕ) → a < n → b < m → f a b ≡ true
  all₂_true f t a b p q = is_true (f a b) (all₂_at f t a b p q)
