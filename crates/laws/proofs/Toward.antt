-- A store of what u holds undoes no agreement with u: so stores may come in any order, and nothing is asked of two of them being apart.
-- Assumes nothing.
use mathlib.Core.Path.{◌≡◌, refl, sym, ap, ap₂, ◌∙◌, subst}
use mathlib.Core.Bool.{Bool, true, false}
use mathlib.Core.List.{List, [], ◌∷◌, ◌++◌}
use mathlib.Core.Logic.{◌⊎◌, inl, inr, ⊎_elim}
use Prim.Native.Nat.{ℕ, zero, suc, ◌+◌, ◌*◌, ◌<◌, ◌≤◌}
use native.Mathlib.Nat.{not-suc-le-zero, le_of_suc-le-suc, eq-or-lt_of_le, mul-one, zero-add, suc-add}
use native.Mathlib.Numerals.{add-one}
use native.Mathlib.Omega.{arith}
use lib.Dec.{T, eqb, eqb→eq, eqb_refl}
use lib.ListN.{length, get_or, set, take, length-set}
use lib.Seq.{ext_get_or, get_or-set_same, get_or-set_other, set-append_left}
use Rattle.laws.specs.Toward.{Alike, Brings, Below, At, stores}

pub same_or_not : (x y : ℕ) → (x ≡ y) ⊎ (x ≡ y → ⊥)
same_or_not x y = go (eqb x y) (eqb→eq x y) (λ e. subst (λ (z : ℕ). T (eqb x z)) e (eqb_refl x))
  where
    go : (t : Bool) → (T t → x ≡ y) → (x ≡ y → T t) → (x ≡ y) ⊎ (x ≡ y → ⊥)
    go true a b = inl (a tt)
    go false a b = inr b

module _ (u : List ℕ) where
  -- nothing stored yet
  pub brings_none : (P : ℕ → ℕ → Type 0) (xs : List ℕ) → Brings u (Below 0 P) xs xs
  brings_none P xs = record { same = refl; keeps = λ x a. a; puts = λ x p. absurd (not-suc-le-zero p.1) }

  -- one store
  pub brings_set : (xs : List ℕ) (i v : ℕ) → i < length xs → v ≡ get_or u i 0 → Brings u (At i) xs (set xs i v)
  brings_set xs i v l e = record {
    same = length-set xs i v;
    keeps = λ x a. ⊎_elim (λ q. there x q) (λ ne. get_or-set_other xs i x v 0 ne ∙ a) (same_or_not x i);
    puts = there;
  }
    where
      there : (x : ℕ) → x ≡ i → Alike u (set xs i v) x
      there x q = subst (λ (x : ℕ). Alike u (set xs i v) x) (sym q) (get_or-set_same xs i v 0 l ∙ e)

  -- the next of a row of fillings
  pub brings_more : (P : ℕ → ℕ → Type 0) (n : ℕ) (xs ys zs : List ℕ) → Brings u (Below n P) xs ys → Brings u (P n) ys zs → Brings u (Below (n + 1) P) xs zs
  brings_more P n xs ys zs a b = record {
    same = b.same ∙ a.same;
    keeps = λ x h. b.keeps x (a.keeps x h);
    puts = λ x p. ⊎_elim (λ e. b.puts x (subst (λ (k : ℕ). P k x) e p.2)) (λ l. b.keeps x (a.puts x (p.0, l, p.2))) (eq-or-lt_of_le (le_of_suc-le-suc (subst (λ (m : ℕ). p.0 < m) (add-one n) p.1)));
  }

  -- the same filling, said of indices that it has
  pub brings_on : (P Q : ℕ → Type 0) (xs ys : List ℕ) → ((x : ℕ) → Q x → P x) → Brings u P xs ys → Brings u Q xs ys
  brings_on P Q xs ys h b = record { same = b.same; keeps = b.keeps; puts = λ x q. b.puts x (h x q) }

  -- a buffer that was brought to u wherever it was not like it is u
  pub brings_all : (P : ℕ → Type 0) (xs ys : List ℕ) → length xs ≡ length u → ((x : ℕ) → x < length u → P x ⊎ Alike u xs x) → Brings u P xs ys → ys ≡ u
  brings_all P xs ys e every b =
      ext_get_or 0 ys u (b.same ∙ e) (λ x l. ⊎_elim (b.puts x) (b.keeps x) (every x (subst (λ (n : ℕ). x < n) (b.same ∙ e) l)))

  -- stores of what u holds, a step apart
  pub brings_stores : (base step n : ℕ) (v : ℕ → ℕ) (xs : List ℕ) → ((j : ℕ) → j < n → (base + j * step < length xs) × (v j ≡ get_or u (base + j * step) 0))
      → Brings u (Below n (λ j. At (base + j * step))) xs (stores base step n v xs)
  unfolding stores
  brings_stores base step zero v xs good = brings_none (λ j. At (base + j * step)) xs
  brings_stores base step (suc n) v xs good =
      let h = good n (omega arith) in
      let b = brings_stores base step n v xs (λ j l. good j (omega arith)) in
      subst (λ (m : ℕ). Brings u (Below m (λ j. At (base + j * step))) xs (set (stores base step n v xs) (base + n * step) (v n))) (add-one n)
      (brings_more (λ j. At (base + j * step)) n xs (stores base step n v xs) (set (stores base step n v xs) (base + n * step) (v n)) b
      (brings_set (stores base step n v xs) (base + n * step) (v n) (omega (arith, b.same)) h.1))

pub length_stores : (base step n : ℕ) (v : ℕ → ℕ) (xs : List ℕ) → length (stores base step n v xs) ≡ length xs
unfolding stores
length_stores base step zero v xs = refl
length_stores base step (suc n) v xs = length-set (stores base step n v xs) (base + n * step) (v n) ∙ length_stores base step n v xs

-- one store more
pub stores_more : (base step n : ℕ) (v : ℕ → ℕ) (xs : List ℕ) → set (stores base step n v xs) (base + n * step) (v n) ≡ stores base step (n + 1) v xs
unfolding stores
stores_more base step n v xs = rw add-one refl

pub stores_next : (base n : ℕ) (v : ℕ → ℕ) (xs : List ℕ) → set (stores base 1 n v xs) (base + n) (v n) ≡ stores base 1 (n + 1) v xs
stores_next base n v xs = ap (λ (i : ℕ). set (stores base 1 n v xs) (base + i) (v n)) (sym (mul-one n)) ∙ stores_more base 1 n v xs

-- a part that was lent and stored into: what stands before it stays
before_set : (a : ℕ) (xs ys : List ℕ) (j v : ℕ) → a ≤ length xs → set (take a xs ++ ys) (a + j) v ≡ take a xs ++ set ys j v
before_set zero xs ys j v l = ap (λ (i : ℕ). set ys i v) (zero-add j)
before_set (suc a) [] ys j v l = absurd (not-suc-le-zero l)
before_set (suc a) (x ∷ xs) ys j v l = rw (suc-add a j) (ap (λ (t : List ℕ). x ∷ t) (before_set a xs ys j v (le_of_suc-le-suc l)))

pub lent_set : (a : ℕ) (xs ys zs : List ℕ) (j v : ℕ) → a ≤ length xs → j < length ys → take a xs ++ (set ys j v ++ zs) ≡ set (take a xs ++ (ys ++ zs)) (a + j) v
lent_set a xs ys zs j v l h = ap (λ (t : List ℕ). take a xs ++ t) (sym (set-append_left ys zs j v h)) ∙ sym (before_set a xs (ys ++ zs) j v l)

pub lent_stores : (a : ℕ) (xs ys zs : List ℕ) (b n : ℕ) (v : ℕ → ℕ) → a ≤ length xs → b + n ≤ length ys
    → take a xs ++ (stores b 1 n v ys ++ zs) ≡ stores (a + b) 1 n v (take a xs ++ (ys ++ zs))
unfolding stores
lent_stores a xs ys zs b zero v l h = refl
lent_stores a xs ys zs b (suc n) v l h =
    lent_set a xs (stores b 1 n v ys) zs (b + n * 1) (v n) l (omega (arith, length_stores b 1 n v ys))
    ∙ ap₂ (λ (t : List ℕ) (i : ℕ). set t i (v n)) (lent_stores a xs ys zs b n v l (omega arith)) (omega arith)
