-- A test holds exactly when it says so, and the first index of a `somewhere`. Assumes nothing.
use Rattle.std.proofs.Common.{if◌then◌else◌, one-add}
use Rattle.std.specs.List.{list_any, position_or_len}
use Rattle.std.proofs.lemmas.List.Recursion.{or_is, is_position_or_len}
use mathlib.Core.List.{List}
use lib.ListN.{length, get_or}
use mathlib.Core.Path.{◌≡◌, refl, sym, ap, ap₂, subst, ◌∙◌}
use mathlib.Core.Bool.{Bool, true, false, not, ◌&&◌, ◌||◌, false≢true}
use mathlib.Core.Logic.{◌↔◌, ◌⊎◌, inl, inr}
use Prim.Native.Nat.{ℕ, zero, suc, ◌<◌, ◌≤◌, zero-le, suc-le-suc}
use native.Mathlib.Nat.{not-suc-le-zero, le_of_suc-le-suc}
use native.Mathlib.Omega.{arith}
use borrow.Author.Tests.{ltb-true, lt-ltb, leb-true, le-leb, eqb-true, eq-eqb, not-true}
use Rattle.laws.specs.Choice.{◌<?◌, ◌=?◌}
use Rattle.answers.specs.Tests.{Test, over, under, reaches, is, differs, either, both, unless, somewhere, Says, first_true, holds, first_of}

-- the scan: it ends at n at the latest; before it nothing is true; where it ends below n, it is true there
pub first_le : (n : ℕ) (f : ℕ → Bool) → first_true n f ≤ n
unfolding first_true
first_le zero f = zero-le
first_le (suc n) f = step (f 0) (first_le n (λ i. f (suc i)))
  where
    step : (t : Bool) {m : ℕ} → m ≤ n → (if t then 0 else suc m) ≤ suc n
    step true h = zero-le
    step false h = suc-le-suc h

pub first_before : (n : ℕ) (f : ℕ → Bool) (i : ℕ) → i < first_true n f → f i ≡ false
unfolding first_true
first_before zero f i l = absurd (not-suc-le-zero l)
first_before (suc n) f i l = step (first_before n (λ i. f (suc i))) (f 0) refl i l
  where
    step : {m : ℕ} → ((i : ℕ) → i < m → f (suc i) ≡ false) → (t : Bool) → f 0 ≡ t → (i : ℕ)
        → i < (if t then 0 else suc m) → f i ≡ false
    step h true e i l = absurd (not-suc-le-zero l)
    step h false e zero l = e
    step h false e (suc i) l = h i (le_of_suc-le-suc l)

pub first_true_lem : (n : ℕ) (f : ℕ → Bool) → first_true n f < n → f (first_true n f) ≡ true
unfolding first_true
first_true_lem zero f l = absurd (not-suc-le-zero l)
first_true_lem (suc n) f l = step (first_true_lem n (λ i. f (suc i))) (f 0) refl l
  where
    step : {m : ℕ} → (m < n → f (suc m) ≡ true) → (t : Bool) → f 0 ≡ t → (if t then 0 else suc m) < suc n
        → f (if t then 0 else suc m) ≡ true
    step h true e l = e
    step h false e l = h (le_of_suc-le-suc l)

-- it is the only such index
pub first_is : (n : ℕ) (f : ℕ → Bool) (i : ℕ) → i < n → f i ≡ true → ((j : ℕ) → j < i → f j ≡ false) → i ≡ first_true n f
first_is n f i l e h = omega (arith, low, high)
  where
    low : ¬ (i < first_true n f)
    low m = false≢true (sym (first_before n f i m) ∙ e)

    high : ¬ (first_true n f < i)
    high m = false≢true (sym (h (first_true n f) m) ∙ first_true_lem n f (omega arith))

pub first_none : (n : ℕ) (f : ℕ → Bool) → ((j : ℕ) → j < n → f j ≡ false) → n ≡ first_true n f
first_none n f h = omega (arith, first_le n f, none)
  where
    none : ¬ (first_true n f < n)
    none l = false≢true (sym (h (first_true n f) l) ∙ first_true_lem n f l)

module _ {P : Type 0} where
  fails : (t : Bool) → (t ≡ true) ↔ P → ¬ P → t ≡ false
  fails true h n = absurd (n (h.0 refl))
  fails false h n = refl

  not_iff : (t : Bool) → (t ≡ true) ↔ P → (not t ≡ true) ↔ (¬ P)
  not_iff t h = (λ e p. false≢true (sym (not-true t e) ∙ h.1 p), λ n. simp (fails t h n))

  module _ {Q : Type 0} where
    and_iff : (s t : Bool) → (s ≡ true) ↔ P → (t ≡ true) ↔ Q → ((s && t) ≡ true) ↔ (P × Q)
    and_iff true t h g = (λ e. (h.0 refl, g.0 e), λ x. g.1 x.1)
    and_iff false t h g = (λ e. absurd (false≢true e), λ x. h.1 x.0)

    or_iff : (s t : Bool) → (s ≡ true) ↔ P → (t ≡ true) ↔ Q → ((s || t) ≡ true) ↔ (P ⊎ Q)
    or_iff true t h g = (λ e. inl (h.0 refl), λ x. refl)
    or_iff false t h g = (λ e. inr (g.0 e), back)
      where
        back : P ⊎ Q → t ≡ true
        back (inl p) = absurd (false≢true (h.1 p))
        back (inr q) = g.1 q

module _ (n : ℕ) (f : ℕ → Bool) (P : ℕ → Type 0) (h : (i : ℕ) → (f i ≡ true) ↔ P i) where
  some_iff : ((first_true n f <? n) ≡ true) ↔ ((i : ℕ) × (i < n) × P i)
  some_iff = (there, back)
    where
      there : (first_true n f <? n) ≡ true → (i : ℕ) × (i < n) × P i
      there e = let l = ltb-true (first_true n f) n e in (first_true n f, l, (h (first_true n f)).0 (first_true_lem n f l))

      back : (i : ℕ) × (i < n) × P i → (first_true n f <? n) ≡ true
      back x = lt-ltb (first_true n f) n (omega (arith, upto, x.1))
        where
          upto : ¬ (x.0 < first_true n f)
          upto l = false≢true (sym (first_before n f x.0 l) ∙ (h x.0).1 x.2)

-- The law of the tests.
pub says : (t : Test) → (holds t ≡ true) ↔ Says t
says (over x most) = (ltb-true most x, lt-ltb most x)
says (under x least) = (ltb-true x least, lt-ltb x least)
says (reaches x limit) = (leb-true limit x, le-leb limit x)
says (is x y) = (eqb-true x y, eq-eqb x y)
says (differs x needed) = not_iff (x =? needed) (eqb-true x needed, eq-eqb x needed)
says (either t u) = or_iff (holds t) (holds u) (says t) (says u)
says (both t u) = and_iff (holds t) (holds u) (says t) (says u)
says (unless t) = not_iff (holds t) (says t)
says (somewhere n t) = some_iff n (λ i. holds (t i)) (λ i. Says (t i)) (λ i. says (t i))

-- and where it does not hold, it does not say so
pub says_not : (t : Test) → (holds t ≡ false) ↔ (¬ Says t)
says_not t = (λ e p. false≢true (sym e ∙ (says t).1 p), fails (holds t) (says t))

-- 'index of the first': that index is it exactly when its test says so and no earlier one does
pub first_index : (n : ℕ) (t : ℕ → Test) (i : ℕ) → i < n
    → (first_of n t ≡ i) ↔ (Says (t i) × ((j : ℕ) → j < i → ¬ Says (t j)))
first_index n t i l = (there, back)
  where
    there : first_of n t ≡ i → Says (t i) × ((j : ℕ) → j < i → ¬ Says (t j))
    there e = (
      (says (t i)).0 (ap (λ (k : ℕ). holds (t k)) (sym e) ∙ first_true_lem n (λ k. holds (t k)) (omega arith)),
      λ j m. (says_not (t j)).0 (first_before n (λ k. holds (t k)) j (omega arith)),
    )

    back : Says (t i) × ((j : ℕ) → j < i → ¬ Says (t j)) → first_of n t ≡ i
    back x = sym (first_is n (λ k. holds (t k)) i l ((says (t i)).1 x.0) (λ j m. (says_not (t j)).1 (x.1 j m)))

-- 'somewhere, with the first index': it says so with this index exactly when this one says so and no earlier one does
pub first_somewhere : (n : ℕ) (t : ℕ → Test) (i : ℕ)
    → (Says (somewhere n t) × (first_of n t ≡ i)) ↔ ((i < n) × Says (t i) × ((j : ℕ) → j < i → ¬ Says (t j)))
first_somewhere n t i = (there, λ y. ((i, y.0, y.1), (first_index n t i y.0).1 (y.1, y.2)))
  where
    there : Says (somewhere n t) × (first_of n t ≡ i) → (i < n) × Says (t i) × ((j : ℕ) → j < i → ¬ Says (t j))
    there x =
        let l = subst (λ (k : ℕ). k < n) x.1 (ltb-true (first_of n t) n ((says (somewhere n t)).1 x.0)) in
        let f = (first_index n t i l).0 x.1 in
        (l, f.0, f.1)

-- What a loop that looks for it has: the index where it stopped, or the end.
module _ (n : ℕ) (t : ℕ → Test) where
  pub first_here : (i : ℕ) → i < n → ((j : ℕ) → j < i → ¬ Says (t j)) → Says (t i) → i ≡ first_of n t
  first_here i l h p = sym ((first_index n t i l).1 (p, h))

  pub first_nowhere : (i : ℕ) → i ≡ n → ((j : ℕ) → j < i → ¬ Says (t j)) → i ≡ first_of n t
  first_nowhere i e h = e ∙ first_none n (λ k. holds (t k)) (λ j l. (says_not (t j)).1 (h j (omega arith)))

-- What the library's own look at the entries of a list finds, where it asks of an entry what a test says.
module _ (f : ℕ → Bool) (t : ℕ → Test) (same : (x : ℕ) → holds (t x) ≡ f x) where
  pub any_is : (xs : List ℕ) → holds (somewhere (length xs) (λ i. t (get_or xs i 0))) ≡ list_any f xs
  any_is xs =
      let s = somewhere (length xs) (λ i. t (get_or xs i 0)) in
      or_is (list_any f) f refl (λ x ys. refl) xs 0 (holds s)
      (λ e. let found = (says s).0 e in (found.0, found.1, sym (same _) ∙ (says (t _)).1 found.2))
      (λ e i l. sym (same _) ∙ (says_not (t _)).1 (λ p. (says_not s).0 e (i, l, p)))

  pub position_is : (xs : List ℕ) → first_of (length xs) (λ i. t (get_or xs i 0)) ≡ position_or_len f xs
  unfolding first_true
  position_is =
      is_position_or_len (λ (xs : List ℕ). first_of (length xs) (λ i. t (get_or xs i 0))) f refl
      (λ x xs. ap₂ (λ (b : Bool) (n : ℕ). if b then 0 else n) (same x) (sym (one-add (first_of (length xs) (λ i. t (get_or xs i 0))))))
