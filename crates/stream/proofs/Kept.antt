-- The bytes that are kept stand at the start of the buffer. Assumes nothing.
use Rattle.std.proofs.Common.{◌≡◌, ℕ, ◌+◌, ◌<◌, ◌≤◌, List, arith, sym, ap, ◌∙◌, length, take, drop, get_or, length-drop, length-take-le}
use lib.Seq.{ext_get_or, get_or-take, get_or-drop}
use native.Mathlib.Nat.{zero-add}
use Rattle.laws.proofs.Lists.{length_fills, fills_in}
use Rattle.stream.specs.Moved.{moved}

pub kept_front : (from count : ℕ) (bytes : List ℕ) → from + count ≤ length bytes → take count (moved from count bytes) ≡ take count (drop from bytes)
kept_front from count bytes h =
    let byte : ℕ → ℕ = λ i. get_or bytes (from + i) 0 in
    let room : count ≤ length (moved from count bytes) = omega (arith, h, length_fills 0 count byte bytes) in
    let left : count ≤ length (drop from bytes) = omega (arith, h, length-drop from bytes) in
    let long = length-take-le count (moved from count bytes) room in
    ext_get_or 0 (take count (moved from count bytes)) (take count (drop from bytes)) (long ∙ sym (length-take-le count (drop from bytes) left))
    (λ i l.
    let small : i < count = omega (arith, l, long) in
    get_or-take count (moved from count bytes) i 0 small
    ∙ ap (λ (k : ℕ). get_or (moved from count bytes) k 0) (sym (zero-add i))
    ∙ fills_in 0 byte bytes 0 count i (omega (arith, h)) small
    ∙ sym (get_or-drop from bytes i 0)
    ∙ sym (get_or-take count (drop from bytes) i 0 small))
