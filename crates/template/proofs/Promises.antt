-- What document 01 promises of template records, a sentence above its statement. Assumes nothing.
use mathlib.Core.Path.{◌≡◌, sym, ap, ◌∙◌}
use mathlib.Core.List.{List}
use Prim.Native.Nat.{ℕ, ◌+◌, ◌*◌}
use native.Mathlib.Omega.{arith}
use lib.ListN.{length, get_or}
use Rattle.answers.specs.Refusals.{given}
use Rattle.places.specs.PlaceCalls.{place_answer}
use Rattle.kinds.specs.Places.{Place}
use Rattle.kinds.proofs.Table.{layout_at}
use Rattle.buffers.specs.Buffers.{held_in, element_at, index, unpacked_of, Fitting}
use Rattle.buffers.proofs.Placed.{bits_there, placed}
use Rattle.buffers.proofs.Round as round
use Rattle.unpack.proofs.Promises.{unpacked_at}
use Rattle.pack.proofs.Promises.{unpack_pack}
use Rattle.template.specs.Templates.{template_kind, template_role, template_words, template_record}
use Rattle.template.proofs.Records.{template_legal, template_laid}

-- 'A record is read into lane words and written back without loss': for every record of 256 bytes,
pub record_back : (bytes : List ℕ) → length bytes ≡ 256 → Fitting 8 bytes → template_record (template_words bytes) ≡ bytes
record_back bytes n fit = round.pack_unpack (layout_at template_kind template_role) template_laid bytes fit n

-- and for every 64 words of 32 bits.
pub words_back : (ws : List ℕ) → length ws ≡ 64 → Fitting 32 ws → template_words (template_record ws) ≡ ws
words_back = unpack_pack template_kind template_role template_legal

-- 'B of kind 3, row-major': the words that were read, unpacked as B of kind 3, give the record's bytes,
pub record_is_matrix : (bytes : List ℕ) → length bytes ≡ 256 → Fitting 8 bytes
    → unpacked_of 3 1 (template_words bytes) ≡ bytes
record_is_matrix = record_back

-- 'row k column c at byte 8k + c': what stands in the words read at the word and bit of the place at row k, column c is that byte,
pub read_at : (bytes : List ℕ) → length bytes ≡ 256 → Fitting 8 bytes → (lane i k c w b : ℕ)
    → place_answer 3 1 lane i ≡ given (k, c, w, b)
    → held_in 3 1 (template_words bytes) lane w b ≡ get_or bytes (8 * k + c) 0
unfolding element_at
read_at bytes n fit lane i k c w b e =
    let p = placed 3 1 lane i (k, c, w, b) e in
    ap (bits_there 3 1 (template_words bytes) lane) p.2
    ∙ round.packed_at (layout_at 3 1) template_laid bytes fit n lane i p.0 p.1
    ∙ ap (λ (z : ℕ). get_or bytes z 0) (ap (λ (z : Place). index 8 (z.0, z.1)) (sym p.2) ∙ omega arith)

-- and the byte of the record written is what stands there in the words.
pub written_at : (ws : List ℕ) (lane i k c w b : ℕ) → place_answer 3 1 lane i ≡ given (k, c, w, b)
    → get_or (template_record ws) (8 * k + c) 0 ≡ held_in 3 1 ws lane w b
written_at ws lane i k c w b e = ap (λ (z : ℕ). get_or (template_record ws) z 0) (omega arith) ∙ unpacked_at 3 1 ws lane i (k, c, w, b) e
