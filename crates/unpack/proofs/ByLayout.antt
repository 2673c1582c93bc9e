-- The answer of a kind and a role is that of its layout. Assumes nothing.
use mathlib.Core.Path.{◌≡◌, sym, ap₂, ◌∙◌}
use mathlib.Core.List.{List}
use Prim.Native.Nat.{ℕ}
use lib.ListN.{length}
use Rattle.kinds.specs.Kinds.{Legal}
use Rattle.answers.specs.Calls.{first, judgement}
use Rattle.kinds.proofs.Table.{layout_at}
use Rattle.kinds.proofs.Judged.{judged_is}
use Rattle.buffers.proofs.Placed.{words_needed_lem, entries_needed_lem}
use Rattle.buffers.specs.Buffers.{words_needed, entries_needed}
use Rattle.unpack.specs.UnpackCall.{length_refusals, unpack_call}
use Rattle.unpack.specs.Workers.{unpack_call_in}

pub unpack_is : (k r : ℕ) → Legal k r → (ws m : List ℕ) → judgement (unpack_call_in (layout_at k r) ws m) ≡ judgement (unpack_call k r ws m)
unpack_is k r ok ws m =
    ap₂ (λ (a b : ℕ). first (length_refusals (length ws) a (length m) b) tt) (words_needed_lem k r ok) (entries_needed_lem k r ok)
    ∙ sym (judged_is k r (length_refusals (length ws) (words_needed k r) (length m) (entries_needed k r)) tt ok)
