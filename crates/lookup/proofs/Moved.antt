-- Bytes that a read put behind those that had come, where only a part of the buffer was lent to it. Assumes nothing.
use Rattle.std.proofs.Common.{◌≡◌, ℕ, ◌-◌, ◌≤◌, List, ◌++◌, arith, sym, ap, ◌∙◌, length, take, drop}
use Rattle.std.proofs.lemmas.List.{take-append-le, take-take}
use lib.Seq.{take-add}
use Rattle.std.specs.declared.option.Option.{Option}
use Rattle.std.specs.Io.KnownBytes.{Consumes}
use Rattle.std.proofs.KnownBytes.{Consumes-trans}

module _ (n whole : ℕ) (xs ys after : List ℕ) (within : n ≤ whole) (same : take n ys ≡ take n (take whole xs)) where
  stay : take n ys ≡ take n xs
  stay = same ∙ take-take n whole xs within

  joined : (m : ℕ) → n ≤ m → m ≤ length ys → take n xs ++ take (m - n) (drop n ys) ≡ take m (ys ++ after)
  joined m more fits =
      ap (λ (l : List ℕ). l ++ take (m - n) (drop n ys)) (sym stay)
      ∙ sym (take-add n (m - n) ys)
      ∙ ap (λ (k : ℕ). take k ys) (omega arith)
      ∙ sym (take-append-le m ys after fits)

  pub moved_joined : (a b c : Option (List ℕ)) (m : ℕ) → n ≤ m → m ≤ length ys
      → Consumes a b (take n xs) → Consumes b c (take (m - n) (drop n ys)) → Consumes a c (take m (ys ++ after))
  moved_joined a b c m more fits p q = rw (← joined m more fits) (Consumes-trans a b c (take n xs) (take (m - n) (drop n ys)) p q)
