-- What std's move within a slice leaves. Assumes nothing.
use Rattle.std.proofs.Common.{◌≡◌, ℕ, zero, suc, ◌+◌, ◌≤◌, List, arith, sym, ap₂, ◌∙◌, length, drop, set, length-drop}
use Rattle.std.proofs.Math.Seq.{paste, paste-zero, paste-suc}
use lib.Seq.{get_or-drop}
use Rattle.laws.specs.Lists.{fills}
use Rattle.stream.specs.Moved.{moved}

pub pasted_moved : (from count : ℕ) (bytes : List ℕ) → from + count ≤ length bytes → paste bytes 0 (drop from bytes) count ≡ moved from count bytes
unfolding fills
pasted_moved from zero bytes h = sym (paste-zero bytes 0 (drop from bytes))
pasted_moved from (suc n) bytes h =
    sym (paste-suc bytes 0 (drop from bytes) n 0 (omega arith) (omega (arith, length-drop from bytes)))
    ∙ ap₂ (λ (l : List ℕ) (b : ℕ). set l (0 + n) b) (pasted_moved from n bytes (omega arith)) (get_or-drop from bytes n 0)
