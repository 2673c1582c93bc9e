-- The bytes of a turn behind those that were kept, what is kept of both, and the lines of a file turn by turn. Assumes nothing.
use Rattle.std.proofs.Common.{◌≡◌, ℕ, ◌+◌, ◌-◌, ◌/◌, ◌%◌, ◌≤◌, List, ◌++◌, arith, sym, ap, ap₂, subst, ◌∙◌, append_assoc, length, take, drop, length-append, length-drop, length-take-le, take-append-drop}
use Rattle.std.proofs.lemmas.List.{drop-take}
use lib.Seq.{take-add, drop-append-add}
use Rattle.std.specs.declared.option.Option.{Option}
use Rattle.std.specs.Io.KnownBytes.{Appends}
use Rattle.std.proofs.KnownBytes.{Appends-trans}
use Rattle.records.specs.Records.{record_bytes}
use Rattle.replay_text.specs.Text.{printed, printed_from}
use Rattle.replay_text.proofs.Promises.{joined, part_absent}
use Rattle.stream.specs.Moved.{moved}
use Rattle.stream.proofs.Kept.{kept_front}
use Rattle.replay.specs.Turns.{begun, part_of}

-- what was kept, and what came behind it
pub held_is : (at held : ℕ) (old new : List ℕ) → at ≤ held → take at new ≡ take at old → take at old ++ take (held - at) (drop at new) ≡ take held new
held_is at held old new more same =
    ap (λ (l : List ℕ). l ++ take (held - at) (drop at new)) (sym same) ∙ sym (take-add at (held - at) new) ∙ ap (λ (m : ℕ). take m new) (omega arith)

-- what is moved to the start is the part of a record
pub kept_is : (held : ℕ) (new : List ℕ) → held ≤ length new
    → take (held % record_bytes) (moved (held - held % record_bytes) (held - (held - held % record_bytes)) new) ≡ part_of (take held new)
kept_is held new h =
    let few = held % record_bytes in
    let from = held - few in
    ap (λ (m : ℕ). take few (moved from m new)) (omega arith)
    ∙ kept_front from few new (omega (arith, h))
    ∙ sym (drop-take from few new)
    ∙ ap (λ (m : ℕ). drop from (take m new)) (omega arith)
    ∙ ap (λ (m : ℕ). drop (m - m % record_bytes) (take held new)) (sym (length-take-le held new h))

-- A file is its whole records and a part.
module _ (file more : List ℕ) where
  abbrev whole : List ℕ
  whole = take (length file - length file % record_bytes) file

  split : whole ++ part_of file ≡ file
  split = take-append-drop (length file - length file % record_bytes) file

  long : length whole ≡ length file - length file % record_bytes
  long = length-take-le (length file - length file % record_bytes) file (omega arith)

  behind : file ++ more ≡ whole ++ (part_of file ++ more)
  behind = ap (λ (l : List ℕ). l ++ more) (sym split) ∙ append_assoc whole (part_of file) more

  none : length whole % record_bytes ≡ 0
  none = omega (arith, long)

  printed_more : printed (file ++ more) ≡ printed file ++ printed_from (length file / record_bytes) (part_of file ++ more)
  printed_more =
      ap printed behind
      ∙ joined 0 whole (part_of file ++ more) none
      ∙ ap₂ (λ (l r : List ℕ). l ++ r)
      (sym (part_absent whole (part_of file) none (omega (arith, length-drop (length file - length file % record_bytes) file))) ∙ ap printed split)
      (ap (λ (m : ℕ). printed_from m (part_of file ++ more)) (omega (arith, long)))

  part_more : part_of (part_of file ++ more) ≡ part_of (file ++ more)
  part_more =
      let rest = part_of file ++ more in
      let at : length (whole ++ rest) - length (whole ++ rest) % record_bytes ≡ length whole + (length rest - length rest % record_bytes) =
      omega (arith, length-append whole rest, none) in
      sym (ap part_of behind ∙ ap (λ (m : ℕ). drop m (whole ++ rest)) at ∙ drop-append-add whole rest (length rest - length rest % record_bytes))

  -- the lines of one turn behind those of the turns before, and what is kept then
  module _ (come : ℕ) (input : List ℕ) (came : length file ≡ come) (kept : begun come input ≡ part_of file) where
    pub lines_more : (o p q : Option (List ℕ)) → Appends o p (printed file) → Appends p q (printed_from (come / record_bytes) (begun come input ++ more))
        → Appends o q (printed (file ++ more))
    lines_more o p q f s =
        rw printed_more
        (Appends-trans o p q (printed file) _ f
        (subst (λ (l : List ℕ). Appends p q l) (ap₂ (λ (m : ℕ) (l : List ℕ). printed_from (m / record_bytes) (l ++ more)) (sym came) kept) s))

    pub kept_more : (after : List ℕ) → after ≡ part_of (begun come input ++ more) → after ≡ part_of (file ++ more)
    kept_more after e = e ∙ ap (λ (l : List ℕ). part_of (l ++ more)) kept ∙ part_more
