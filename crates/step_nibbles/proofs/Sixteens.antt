-- The sums under the four planes, by weight, are the sum of the products; sums of digits from one end on and from there on are one sum.
-- Assumes nothing.
use mathlib.Core.Path.{◌≡◌, sym, ap, ap₂, ◌∙◌}
use mathlib.Core.List.{List}
use Prim.Native.Nat.{ℕ, ◌+◌, ◌*◌, ◌<◌, ◌≤◌}
use native.Mathlib.Omega.{arith}
use lib.Bits.{bit_and}
use lib.ListN.{get_or}
use Rattle.laws.specs.Bits.{sum_n}
use Rattle.laws.proofs.Bits.{sum_cong, sum_split}
use Rattle.step_products.specs.Sums.{Dots}
use Rattle.step_products.specs.declared.Dot.{Dot}
use Rattle.step_nibbles.specs.Planes.{Planes, Small}
use Rattle.step_nibbles.proofs.Terms.{bit_at, by_weight, terms, under_spread, sums_by_weight}

module _ (x y p : List ℕ) (i j : ℕ) (planes : Planes y p) (end : j + 16 ≤ 512) (small-x : Small 16 i x) (small-y : Small 16 j y) where
  abbrev a : ℕ → ℕ
  a k = get_or x (i + k) 0

  abbrev b : ℕ → ℕ
  b k = get_or y (j + k) 0

  -- from base on stands the plane of bit n
  abbrev under : (base k : ℕ) → ℕ
  under base k = bit_and (a k) (get_or p (base + k) 0)

  term : (n base k : ℕ) → n < 4 → base ≡ n * 512 + j → k < 16 → under base k ≡ a k * bit_at n (b k)
  term n base k h e l =
      ap (λ (q : ℕ). bit_and (a k) (get_or p q 0)) {x = base + k} {y = n * 512 + (j + k)} (omega arith)
      ∙ ap (bit_and (a k)) (planes n (j + k) h (omega arith))
      ∙ under_spread (a k) n (b k) (small-x k l)

  pub products_are : by_weight (sum_n 16 (under j)) (sum_n 16 (under (512 + j))) (sum_n 16 (under (1024 + j))) (sum_n 16 (under (1536 + j))) ≡ sum_n 16 (λ k. a k * b k)
  products_are =
      sums_by_weight 16 (under j) (under (512 + j)) (under (1024 + j)) (under (1536 + j)) (λ k. a k * b k)
      (λ k l.
      rw (term 0 j k (omega arith) (omega arith) l, term 1 (512 + j) k (omega arith) (omega arith) l, term 2 (1024 + j) k (omega arith) (omega arith) l, term 3 (1536 + j) k (omega arith) (omega arith) l)
      (terms (a k) (b k) (small-y k l)))

-- m digits more
pub dots_more : (n m : ℕ) (a b a' b' : ℕ → ℕ) (r s : Dot) → Dots n a b r → Dots m a' b' s
    → ((k : ℕ) → k < m → (a' k ≡ a (n + k)) × (b' k ≡ b (n + k)))
    → Dots (n + m) a b (record { products = r.products + s.products; a = r.a + s.a; b = r.b + s.b })
dots_more n m a b a' b' r s d e h =
    record {
      products = ap₂ ◌+◌ d.products (e.products ∙ sum_cong m (λ k. a' k * b' k) (λ k. a (n + k) * b (n + k)) (λ k l. ap₂ ◌*◌ (h k l).0 (h k l).1)) ∙ sym (sum_split n m (λ k. a k * b k));
      of_a = ap₂ ◌+◌ d.of_a (e.of_a ∙ sum_cong m a' (λ k. a (n + k)) (λ k l. (h k l).0)) ∙ sym (sum_split n m a);
      of_b = ap₂ ◌+◌ d.of_b (e.of_b ∙ sum_cong m b' (λ k. b (n + k)) (λ k l. (h k l).1)) ∙ sym (sum_split n m b);
      products_le = omega (arith, d.products_le, e.products_le);
      a_le = omega (arith, d.a_le, e.a_le);
      b_le = omega (arith, d.b_le, e.b_le);
    }
