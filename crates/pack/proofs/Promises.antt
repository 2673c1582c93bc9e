-- What document 01, demand 2 and document 02, K9, promise of packing, a sentence above its statement. Assumes nothing.
use mathlib.Core.Path.{◌≡◌, sym, ap, ap₂, ◌∙◌, subst}
use mathlib.Core.List.{List}
use Prim.Native.Nat.{ℕ, ◌+◌, ◌*◌, ◌<◌}
use lib.ListN.{length, get_or}
use Rattle.laws.specs.Fields.{field, joined}
use Rattle.kinds.specs.Kinds.{lanes, bits_at, columns_at, elements_at, words_at, Legal}
use Rattle.kinds.specs.Places.{Place}
use Rattle.kinds.specs.Rule.{columns_of, place_in}
use Rattle.answers.specs.Refusals.{given}
use Rattle.places.specs.PlaceCalls.{place_answer}
use Rattle.kinds.proofs.Table.{layout_at, bits_are, words_are, elements_are, columns_are}
use Rattle.answers.proofs.Shows.{passes}
use Rattle.buffers.specs.Buffers.{index, unpacked_of, packed_of, Fitting, words_needed, entries_needed}
use Rattle.buffers.proofs.Placed.{index_in, bits_there, placed, laid, index_is, element_is, at_rule, words_needed_lem, entries_needed_lem}
use Rattle.buffers.proofs.Round as round
use Rattle.pack.specs.PackCall.{pack_call, pack_answer}

-- An accepted call had a legal kind and role, the lengths that they need, and entries that fit.
pub pack_accepted : (k r : ℕ) (m ws : List ℕ) → pack_answer k r m ws ≡ given tt
    → Legal k r × (length m ≡ entries_needed k r) × (length ws ≡ words_needed k r) × Fitting (bits_at k r) m
unfolding pack_answer
pack_accepted k r m ws e =
    let p = passes (pack_call k r m ws).refusals tt e in
    (record { low = search p; high = search p; role = search p }, search p, search p, search p)

-- what stands in a lane from the bit of an element's place up, in that place's word, is the entry at its row and column;
pub packed_at : (k r : ℕ) (m ws : List ℕ) → pack_answer k r m ws ≡ given tt → (lane i : ℕ) (x : Place)
    → place_answer k r lane i ≡ given x
    → bits_there k r (packed_of k r m) lane x ≡ get_or m (index_in k r x) 0
packed_at k r m ws a lane i x e =
    let c = pack_accepted k r m ws a in
    let ok = c.0 in
    let p = placed k r lane i x e in
    sym (element_is k r ok (packed_of k r m) lane i ∙ ap (bits_there k r (packed_of k r m) lane) (sym p.2))
    ∙ round.packed_at (layout_at k r) (laid k r ok) m (subst (λ (b : ℕ). Fitting b m) (bits_are k r ok) c.3) (c.1 ∙ sym (entries_needed_lem k r ok)) lane i p.0 p.1
    ∙ ap (λ (z : ℕ). get_or m z 0) (ap (λ (z : Place). index (columns_of (layout_at k r)) (z.0, z.1)) (sym p.2) ∙ index_is k r ok (x.0, x.1))

-- and no other words have that property.
pub packed_only : (k r : ℕ) → Legal k r → (m ws : List ℕ) → length m ≡ entries_needed k r → length ws ≡ words_needed k r
    → Fitting 32 ws
    → ((lane i : ℕ) (x : Place) → place_answer k r lane i ≡ given x → bits_there k r ws lane x ≡ get_or m (index_in k r x) 0)
    → ws ≡ packed_of k r m
packed_only k r ok m ws nm nw fw at =
    round.packed_only (layout_at k r) (laid k r ok) m ws (nm ∙ sym (entries_needed_lem k r ok)) fw (nw ∙ sym (words_needed_lem k r ok))
    (λ lane i hl hi. sym (at_rule k r ok ws m (λ lane i x e. sym (at lane i x e)) lane i hl hi))

-- The words of a lane are those of one number, whose fields are the entries at its places.
pub words_of_number : (k r : ℕ) (m ws : List ℕ) → pack_answer k r m ws ≡ given tt
    → (lane n : ℕ) → lane < lanes → n < words_at k r
    → get_or (packed_of k r m) (lane * words_at k r + n) 0
    ≡ field 32 n (joined (bits_at k r) (elements_at k r) (λ i. get_or m (index (columns_at k r) (place_in (layout_at k r) lane i)) 0))
words_of_number k r m ws a lane n hl hn =
    let c = pack_accepted k r m ws a in
    let ok = c.0 in
    let f = layout_at k r in
    let hn' : n < f.words = subst (λ (w : ℕ). n < w) (words_are k r ok) hn in
    ap (λ (w : ℕ). get_or (packed_of k r m) (lane * w + n) 0) (words_are k r ok)
    ∙ round.packed_word f (laid k r ok) m lane n hl hn'
    ∙ round.word_number f (laid k r ok) m (subst (λ (b : ℕ). Fitting b m) (bits_are k r ok) c.3) (c.1 ∙ sym (entries_needed_lem k r ok)) lane n hl hn'
    ∙ ap₂ (λ (b e : ℕ). field 32 n (joined b e (λ i. get_or m (index (columns_of f) (place_in f lane i)) 0))) (sym (bits_are k r ok)) (sym (elements_are k r ok))
    ∙ ap (λ (w : ℕ). field 32 n (joined (bits_at k r) (elements_at k r) (λ i. get_or m (index w (place_in f lane i)) 0))) (sym (columns_are k r ok))

-- Packed and unpacked, for every accepted pack;
pub pack_unpack : (k r : ℕ) (m ws : List ℕ) → pack_answer k r m ws ≡ given tt → unpacked_of k r (packed_of k r m) ≡ m
pack_unpack k r m ws a =
    let c = pack_accepted k r m ws a in
    let ok = c.0 in
    round.pack_unpack (layout_at k r) (laid k r ok) m (subst (λ (b : ℕ). Fitting b m) (bits_are k r ok) c.3) (c.1 ∙ sym (entries_needed_lem k r ok))

-- unpacked and packed, for every warp of 32-bit words of the right length.
pub unpack_pack : (k r : ℕ) → Legal k r → (ws : List ℕ) → length ws ≡ words_needed k r → Fitting 32 ws
    → packed_of k r (unpacked_of k r ws) ≡ ws
unpack_pack k r ok ws n fit = round.unpack_pack (layout_at k r) (laid k r ok) ws fit (n ∙ sym (words_needed_lem k r ok))
