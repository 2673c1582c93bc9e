-- Lines printed for whole records and then for what came after them are the lines of both. Assumes nothing.
use Rattle.std.proofs.Common.{◌≡◌, ℕ, ◌%◌, ◌^◌, ◌<◌, List, ◌++◌, None, Some, IfSome, ap, sym, subst, ◌∙◌, length}
use Rattle.std.specs.declared.option.Option.{Option}
use Rattle.std.specs.Io.KnownBytes.{Appends, Consumes}
use Rattle.std.proofs.KnownBytes.{Appends-trans}
use Rattle.lookup_text.specs.Text.{printed}
use Rattle.lookup_text.proofs.Promises.{printed_joined}

module _ (o p q : Option (List ℕ)) (xs ys : List ℕ) (whole : length xs % 4 ≡ 0) where
  pub answered_more : Appends o p (printed xs) → Appends p q (printed ys) → Appends o q (printed (xs ++ ys))
  answered_more f s = rw (printed_joined xs ys whole) (Appends-trans o p q (printed xs) (printed ys) f s)

  pub answered_all : (a b : Option (List ℕ)) → Consumes a b xs → IfSome b (λ all. all ≡ ys) → Appends o p (printed xs) → Appends p q (printed ys)
      → IfSome a (λ bytes. length bytes < 2 ^ 64 → Appends o q (printed bytes))
  answered_all None b c e f s = tt
  answered_all (Some x) None c e f s = absurd c
  answered_all (Some x) (Some y) c e f s =
      λ few. subst (λ (l : List ℕ). Appends o q (printed l)) (sym (c ∙ ap (λ (l : List ℕ). xs ++ l) e)) (answered_more f s)
