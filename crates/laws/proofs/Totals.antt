-- Demand 3 at one place, over the numbers that the blocks add there: with wrapping the word of the total, with saturation the clamped total
-- where the numbers have one sign, in every order. Assumes nothing.
use mathlib.Core.Path.{◌≡◌, refl, sym, ◌∙◌, ap, ap₂, subst}
use mathlib.Core.List.{List, [], ◌∷◌, Permᴰ}
use Prim.Native.Nat.{ℕ, zero, suc, ◌+◌, ◌-◌, ◌*◌, ◌%◌, ◌^◌, ◌<◌, ◌≤◌, min}
use native.Mathlib.Nat.{suc-mul}
use native.Mathlib.Omega.{arith}
use lib.IntN.{ℤ, pos, negsuc, nat_abs, sub_ℕ, ◌+ℤ◌, +ℤ_assoc, +ℤ_comm, +ℤ_idr, pos-+ℤ-pos}
use lib.ListN.{length}
use lib.Signed.{◌≤ℤ◌, ◌<ℤ◌}
use lib.Dec.{leb→le, ltb→lt}
use Rattle.laws.specs.Integers.{int32, word32, clamp}
use Rattle.laws.specs.Totals.{total, clamped_each, All, NoneNegative, NonePositive, Wraps}
use Rattle.laws.proofs.Differences.{Norm, plus, minus, norm, is_pos, is_neg, sub_eq, sub_add, up, down, as_diff}
use Rattle.laws.proofs.Integers.{word_is, int_is, clamp_is, word_lt, word_int, wrap_wrap, wraps}

-- a word after the numbers: wrapped after each, and clamped after each
unfoldable pub wrapped_by : (w : ℕ) → List ℤ → ℕ
wrapped_by w [] = w
wrapped_by w (z ∷ zs) = wrapped_by (word32 (int32 w +ℤ z)) zs

unfoldable pub clamped_by : (w : ℕ) → List ℤ → ℕ
clamped_by w [] = w
clamped_by w (z ∷ zs) = clamped_by (word32 (clamp (int32 w +ℤ z))) zs

pub fed_wrapped : (c : ℕ) (zs : List ℤ) → c < 2 ^ 32 → wrapped_by c zs ≡ word32 (int32 c +ℤ total zs)
unfolding wrapped_by total
fed_wrapped c [] h = sym (word_int c h) ∙ ap word32 (sym (+ℤ_idr (int32 c)))
fed_wrapped c (z ∷ zs) h =
    fed_wrapped (word32 (int32 c +ℤ z)) zs (word_lt (int32 c +ℤ z))
    ∙ wrap_wrap (int32 c +ℤ z) (total zs)
    ∙ ap word32 (+ℤ_assoc (int32 c) z (total zs))

pub total_perm : {zs ws : List ℤ} → Permᴰ zs ws → total zs ≡ total ws
unfolding total
total_perm Permᴰ.nil = refl
total_perm (Permᴰ.cons e d) = ap₂ ◌+ℤ◌ e (total_perm d)
total_perm (Permᴰ.swap {a = a} {b = b} {l = l} e f) =
    sym (+ℤ_assoc a b (total l)) ∙ ap (λ (x : ℤ). x +ℤ total l) (+ℤ_comm a b) ∙ +ℤ_assoc b a (total l)
    ∙ ap₂ (λ (x y : ℤ). y +ℤ (x +ℤ total l)) e f
total_perm (Permᴰ.trans d e) = total_perm d ∙ total_perm e

abbrev top : ℕ
top = 2 ^ 32 - 1

-- the number e above the lowest
abbrev above : ℕ → ℤ
above e = sub_ℕ e (2 ^ 31)

same : (x y : ℕ) → x ≡ y → above x ≡ above y
same x y e = ap above e

step_is : (e p n : ℕ) → clamp (above e +ℤ sub_ℕ p n) ≡ above (min top ((e + p) - n))
step_is e p n = ap clamp (sub_add e (2 ^ 31) p n) ∙ clamp_is (e + p) n

-- a number in range is its word's
pub int_word : (e : ℕ) → e < 2 ^ 32 → int32 (word32 (above e)) ≡ above e
int_word e h =
    let w = (e + 2 ^ 31) % 2 ^ 32 in
    let k : w ≡ word32 (above e) = word_is w e (2 ^ 31) (omega arith) (omega arith) in
    ap int32 (sym k) ∙ int_is w (omega arith) ∙ same ((w + 2 ^ 31) % 2 ^ 32) e (omega arith)

clamp_range : (z : ℤ) → (e : ℕ) × (clamp z ≡ above e) × (e < 2 ^ 32)
clamp_range z =
    let k : sub_ℕ (up z) (down z) ≡ above 0 +ℤ sub_ℕ (up z + 2 ^ 31) (down z) =
    sub_eq (up z) (down z) (0 + (up z + 2 ^ 31)) (2 ^ 31 + down z) (omega arith) ∙ sym (sub_add 0 (2 ^ 31) (up z + 2 ^ 31) (down z)) in
    (min top ((0 + (up z + 2 ^ 31)) - down z), ap clamp (as_diff z ∙ k) ∙ step_is 0 (up z + 2 ^ 31) (down z), omega arith)

-- the word of a clamped number has that number
pub clamp_word : (z : ℤ) → int32 (word32 (clamp z)) ≡ clamp z
clamp_word z = let r = clamp_range z in ap (λ (x : ℤ). int32 (word32 x)) r.1 ∙ int_word r.0 r.2 ∙ sym r.1

-- in the order fed: the total clamped after each block
pub fed_clamped : (c : ℕ) (zs : List ℤ) → c < 2 ^ 32 → int32 (clamped_by c zs) ≡ clamped_each (int32 c) zs
unfolding clamped_by clamped_each
fed_clamped c [] h = refl
fed_clamped c (z ∷ zs) h =
    fed_clamped (word32 (clamp (int32 c +ℤ z))) zs (word_lt (clamp (int32 c +ℤ z)))
    ∙ ap (λ (x : ℤ). clamped_each x zs) (clamp_word (int32 c +ℤ z))

-- none negative: the total is a natural number
unfoldable size : List ℤ → ℕ
size [] = 0
size (z ∷ zs) = nat_abs z + size zs

total_up : (zs : List ℤ) → NoneNegative zs → total zs ≡ sub_ℕ (size zs) 0
unfolding total size All
total_up [] h = sym (is_pos 0 0 0 refl)
total_up (pos n ∷ zs) h = ap₂ ◌+ℤ◌ (sym (is_pos n 0 n (omega arith))) (total_up zs h.1) ∙ sub_add n 0 (size zs) 0
total_up (negsuc n ∷ zs) h = absurd h.0.le

each_up : (e : ℕ) (zs : List ℤ) → e < 2 ^ 32 → NoneNegative zs → clamped_each (above e) zs ≡ above (min top (e + size zs))
unfolding clamped_each size All
each_up e [] k h = same e (min top (e + 0)) (omega arith)
each_up e (pos n ∷ zs) k h =
    ap (λ (x : ℤ). clamped_each x zs) (ap (λ (y : ℤ). clamp (above e +ℤ y)) (sym (is_pos n 0 n (omega arith))) ∙ step_is e n 0)
    ∙ each_up (min top ((e + n) - 0)) zs (omega arith) h.1
    ∙ same (min top (min top ((e + n) - 0) + size zs)) (min top (e + (n + size zs))) (omega arith)
each_up e (negsuc n ∷ zs) k h = absurd h.0.le

pub clamped_up : (c : ℕ) (zs : List ℤ) → c < 2 ^ 32 → NoneNegative zs → clamped_each (int32 c) zs ≡ clamp (int32 c +ℤ total zs)
clamped_up c zs k h =
    let e = (c + 2 ^ 31) % 2 ^ 32 in
    ap (λ (x : ℤ). clamped_each x zs) (int_is c k) ∙ each_up e zs (omega arith) h
    ∙ sym (ap₂ (λ (x y : ℤ). clamp (x +ℤ y)) (int_is c k) (total_up zs h) ∙ step_is e (size zs) 0 ∙ same (min top ((e + size zs) - 0)) (min top (e + size zs)) (omega arith))

-- none positive
neg_is : (z : ℤ) → z ≤ℤ pos 0 → z ≡ sub_ℕ 0 (nat_abs z)
neg_is (pos zero) h = sym (is_pos 0 0 0 refl)
neg_is (pos (suc n)) h = absurd (no n (leb→le (suc n) 0 h.le))
  where
    no : (n : ℕ) → suc n ≤ 0 → ⊥
    no n h = omega arith
neg_is (negsuc n) h = sym (is_neg 0 (suc n) n (omega arith))

total_down : (zs : List ℤ) → NonePositive zs → total zs ≡ sub_ℕ 0 (size zs)
unfolding total size All
total_down [] h = sym (is_pos 0 0 0 refl)
total_down (z ∷ zs) h = ap₂ ◌+ℤ◌ (neg_is z h.0) (total_down zs h.1) ∙ sub_add 0 (nat_abs z) 0 (size zs)

each_down : (e : ℕ) (zs : List ℤ) → e < 2 ^ 32 → NonePositive zs → clamped_each (above e) zs ≡ above (e - size zs)
unfolding clamped_each size All
each_down e [] k h = same e (e - 0) (omega arith)
each_down e (z ∷ zs) k h =
    ap (λ (x : ℤ). clamped_each x zs) (ap (λ (y : ℤ). clamp (above e +ℤ y)) (neg_is z h.0) ∙ step_is e 0 (nat_abs z))
    ∙ each_down (min top ((e + 0) - nat_abs z)) zs (omega arith) h.1
    ∙ same (min top ((e + 0) - nat_abs z) - size zs) (e - (nat_abs z + size zs)) (omega arith)

pub clamped_down : (c : ℕ) (zs : List ℤ) → c < 2 ^ 32 → NonePositive zs → clamped_each (int32 c) zs ≡ clamp (int32 c +ℤ total zs)
clamped_down c zs k h =
    let e = (c + 2 ^ 31) % 2 ^ 32 in
    ap (λ (x : ℤ). clamped_each x zs) (int_is c k) ∙ each_down e zs (omega arith) h
    ∙ sym (ap₂ (λ (x y : ℤ). clamp (x +ℤ y)) (int_is c k) (total_down zs h) ∙ step_is e 0 (size zs) ∙ same (min top ((e + 0) - size zs)) (e - size zs) (omega arith))

each_perm : (P : ℤ → Type 0) {zs ws : List ℤ} → Permᴰ zs ws → All P zs → All P ws
unfolding All
each_perm P Permᴰ.nil h = tt
each_perm P (Permᴰ.cons e d) h = (subst P e h.0, each_perm P d h.1)
each_perm P (Permᴰ.swap e f) h = (subst P f h.1.0, (subst P e h.0, h.1.1))
each_perm P (Permᴰ.trans d e) h = each_perm P e (each_perm P d h)

-- where no number is negative, or none is positive, the sum is the clamped total, in every order ws of the blocks
pub fed_up : (c : ℕ) (zs ws : List ℤ) → c < 2 ^ 32 → NoneNegative zs → Permᴰ zs ws → int32 (clamped_by c ws) ≡ clamp (int32 c +ℤ total zs)
fed_up c zs ws k h d =
    fed_clamped c ws k ∙ clamped_up c ws k (each_perm (λ z. pos 0 ≤ℤ z) d h) ∙ ap (λ (t : ℤ). clamp (int32 c +ℤ t)) (sym (total_perm d))

pub fed_down : (c : ℕ) (zs ws : List ℤ) → c < 2 ^ 32 → NonePositive zs → Permᴰ zs ws → int32 (clamped_by c ws) ≡ clamp (int32 c +ℤ total zs)
fed_down c zs ws k h d =
    fed_clamped c ws k ∙ clamped_down c ws k (each_perm (λ z. z ≤ℤ pos 0) d h) ∙ ap (λ (t : ℤ). clamp (int32 c +ℤ t)) (sym (total_perm d))

-- with wrapping, in every order, the sum differs from start plus total by a multiple of 2^32
pub fed_wraps : (c : ℕ) (zs ws : List ℤ) → c < 2 ^ 32 → Permᴰ zs ws → Wraps (int32 (wrapped_by c ws)) (int32 c +ℤ total zs)
fed_wraps c zs ws k d = rw (fed_wrapped c ws k, ← total_perm d) (wraps (int32 c +ℤ total zs))

-- counts from 0 to m: their total is a count from 0 to m for each,
abbrev pub Counts : (m : ℕ) → List ℤ → Type 0
Counts m zs = All (λ z. (n : ℕ) × (z ≡ pos n) × (n ≤ m)) zs

pub total_counts : (m : ℕ) (zs : List ℤ) → Counts m zs → (n : ℕ) × (total zs ≡ pos n) × (n ≤ length zs * m)
unfolding total All
total_counts m [] h = (0, refl, omega arith)
total_counts m (z ∷ zs) h =
    let r = total_counts m zs h.1 in (
      h.0.0 + r.0,
      ap₂ ◌+ℤ◌ h.0.1 r.1 ∙ pos-+ℤ-pos h.0.0 r.0,
      omega (arith, h.0.2, r.2, suc-mul (length zs) m),
    )

-- and where the start and so much is below 2^31, the sum never wraps: it is start plus total
below : (e : ℕ) → Norm e (2 ^ 31) → above e <ℤ pos (2 ^ 31) → e < 2 ^ 32
below e (plus d s) h = let l = ltb→lt d (2 ^ 31) (subst (λ (z : ℤ). z <ℤ pos (2 ^ 31)) (is_pos e (2 ^ 31) d s) h).lt in omega arith
below e (minus d s) h = omega arith

pub fed_exact : (c n m : ℕ) (zs : List ℤ) → c < 2 ^ 32 → total zs ≡ pos n → n ≤ m → (int32 c +ℤ pos m) <ℤ pos (2 ^ 31) → int32 (wrapped_by c zs) ≡ int32 c +ℤ total zs
fed_exact c n m zs k e l h =
    let s = (c + 2 ^ 31) % 2 ^ 32 in
    let most = below (s + m) (norm (s + m) (2 ^ 31)) (subst (λ (z : ℤ). z <ℤ pos (2 ^ 31)) (plus_is m) h) in
    ap int32 (fed_wrapped c zs k)
    ∙ ap (λ (z : ℤ). int32 (word32 z)) (ap (λ (z : ℤ). int32 c +ℤ z) e ∙ plus_is n)
    ∙ int_word (s + n) (omega arith)
    ∙ sym (ap (λ (z : ℤ). int32 c +ℤ z) e ∙ plus_is n)
  where
    plus_is : (n : ℕ) → int32 c +ℤ pos n ≡ above ((c + 2 ^ 31) % 2 ^ 32 + n)
    plus_is n = ap₂ ◌+ℤ◌ (int_is c k) (sym (is_pos n 0 n (omega arith))) ∙ sub_add ((c + 2 ^ 31) % 2 ^ 32) (2 ^ 31) n 0
