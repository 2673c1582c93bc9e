-- What document 01, demand 2 and document 02, K9, promise of unpacking, a sentence above its statement. Assumes nothing.
use mathlib.Core.Path.{◌≡◌, sym, ap, ◌∙◌, subst}
use mathlib.Core.List.{List}
use Prim.Native.Nat.{ℕ, ◌<◌}
use lib.ListN.{length, get_or}
use Rattle.kinds.specs.Kinds.{columns_at, rows_at, Legal}
use Rattle.kinds.specs.Places.{Place, with_word_and_bit}
use Rattle.kinds.specs.Rule.{rows_of, columns_of, holder_of}
use Rattle.answers.specs.Refusals.{given}
use Rattle.places.specs.PlaceCalls.{place_answer}
use Rattle.kinds.proofs.Table.{layout_at, sane, rows_are, columns_are}
use Rattle.places.proofs.ByRule.{rule_placed}
use Rattle.buffers.specs.Buffers.{held_in, index, unpacked_of, entries_needed}
use Rattle.buffers.proofs.Placed.{index_in, bits_there, legal, placed, laid, index_is, element_is, at_rule, entries_needed_lem}
use Rattle.buffers.proofs.Round as round

-- the entry at the row and column of an element's place is what stands in its lane from the place's bit of the place's word up;
pub unpacked_at : (k r : ℕ) (ws : List ℕ) (lane i : ℕ) (x : Place) → place_answer k r lane i ≡ given x
    → get_or (unpacked_of k r ws) (index_in k r x) 0 ≡ bits_there k r ws lane x
unpacked_at k r ws lane i x e =
    let ok = legal k r lane i x e in
    let p = placed k r lane i x e in
    ap (λ (z : ℕ). get_or (unpacked_of k r ws) z 0) (sym (index_is k r ok (x.0, x.1)) ∙ ap (λ (z : Place). index (columns_of (layout_at k r)) (z.0, z.1)) p.2)
    ∙ round.unpacked_at (layout_at k r) (laid k r ok) ws lane i p.0 p.1
    ∙ element_is k r ok ws lane i
    ∙ ap (bits_there k r ws lane) (sym p.2)

-- and no other matrix has that property.
pub unpacked_only : (k r : ℕ) → Legal k r → (ws m : List ℕ) → length m ≡ entries_needed k r
    → ((lane i : ℕ) (x : Place) → place_answer k r lane i ≡ given x → get_or m (index_in k r x) 0 ≡ bits_there k r ws lane x)
    → m ≡ unpacked_of k r ws
unpacked_only k r ok ws m n at = round.unpacked_only (layout_at k r) (laid k r ok) ws m (n ∙ sym (entries_needed_lem k r ok)) (at_rule k r ok ws m at)

-- 'No boat reaches another boat's row': the entries of a row depend only on the bits of the elements whose places lie in that row.
pub own_row : (k r : ℕ) → Legal k r → (ws ws' : List ℕ) (row : ℕ) → row < rows_at k r
    → ((lane i column w b : ℕ) → place_answer k r lane i ≡ given (row, column, w, b)
    → held_in k r ws lane w b ≡ held_in k r ws' lane w b)
    → (column : ℕ) → column < columns_at k r
    → get_or (unpacked_of k r ws) (index (columns_at k r) (row, column)) 0
    ≡ get_or (unpacked_of k r ws') (index (columns_at k r) (row, column)) 0
own_row k r ok ws ws' row hr same column hc =
    let f = layout_at k r in
    let o = sane k r ok in
    let hr' : row < rows_of f = subst (λ (n : ℕ). row < n) (rows_are k r ok) hr in
    let hc' : column < columns_of f = subst (λ (n : ℕ). column < n) (columns_are k r ok) hc in
    let l = (holder_of f (row, column)).0 in
    let i = (holder_of f (row, column)).1 in
    let x = with_word_and_bit f.bits i (row, column) in
    let e : place_answer k r l i ≡ given x
    = rule_placed k r ok l i (round.lane_in f o row column hr' hc') (round.element_in_lem f o row column hr' hc') ∙ ap (λ (z : ℕ × ℕ). given (with_word_and_bit f.bits i z)) (round.place_back f o row column hr' hc') in
    unpacked_at k r ws l i x e ∙ same l i column x.2 x.3 e ∙ sym (unpacked_at k r ws' l i x e)
