-- The answer of a kind and a role is that of its layout. Assumes nothing.
use mathlib.Core.Path.{◌≡◌, sym, ap, ap₂, ◌∙◌}
use mathlib.Core.List.{List}
use Prim.Native.Nat.{ℕ}
use lib.ListN.{length}
use Rattle.answers.specs.Calls.{first, judgement}
use Rattle.kinds.specs.Kinds.{bits_at, Legal}
use Rattle.kinds.proofs.Table.{layout_at, bits_are}
use Rattle.kinds.proofs.Judged.{judged_is}
use Rattle.buffers.specs.Buffers.{words_needed, entries_needed}
use Rattle.buffers.proofs.Placed.{words_needed_lem, entries_needed_lem}
use Rattle.pack.specs.PackCall.{matrix_refusals, pack_call}
use Rattle.pack.specs.Workers.{pack_call_in}

pub pack_is : (k r : ℕ) → Legal k r → (m ws : List ℕ) → judgement (pack_call_in (layout_at k r) m ws) ≡ judgement (pack_call k r m ws)
pack_is k r ok m ws =
    ap₂ (λ (a b : ℕ). first (matrix_refusals m a (length ws) b (layout_at k r).bits) tt) (entries_needed_lem k r ok) (words_needed_lem k r ok)
    ∙ ap (λ (b : ℕ). first (matrix_refusals m (entries_needed k r) (length ws) (words_needed k r) b) tt) (sym (bits_are k r ok))
    ∙ sym (judged_is k r (matrix_refusals m (entries_needed k r) (length ws) (words_needed k r) (bits_at k r)) tt ok)
