-- Document 01, 'Template records'. Assumes nothing.
use Rattle.std.specs.Prelude.{ℕ, List, [], ◌∷◌, length}
use Rattle.answers.specs.Tests.{differs}
use Rattle.answers.specs.Calls.{◌at◌when◌, Call}
use Rattle.buffers.specs.Buffers.{unpacked_of, packed_of, words_needed}

-- B of kind 3, row-major, row k column c at byte 8k + c: a record's bytes are that matrix.
abbrev pub template_kind : ℕ
template_kind = 3

abbrev pub template_role : ℕ
template_role = 1

-- 256-byte records, read into lane words and written back
abbrev pub template_words : (bytes : List ℕ) → List ℕ
template_words bytes = packed_of template_kind template_role bytes

abbrev pub template_record : (words : List ℕ) → List ℕ
template_record ws = unpacked_of template_kind template_role ws

-- Only 5 can refuse this: reading counts record, then words; writing counts words, then record.
abbrev pub read_call : (bytes words : List ℕ) → Call (List ℕ)
read_call bytes words = record {
  refusals = 5 at 0 when differs (length bytes) 256 ∷ 5 at 1 when differs (length words) (words_needed template_kind template_role) ∷ [];
  gives = template_words bytes;
}

abbrev pub write_call : (words bytes : List ℕ) → Call (List ℕ)
write_call words bytes = record {
  refusals = 5 at 0 when differs (length words) (words_needed template_kind template_role) ∷ 5 at 1 when differs (length bytes) 256 ∷ [];
  gives = template_record words;
}
