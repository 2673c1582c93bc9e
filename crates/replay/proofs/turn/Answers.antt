-- The bytes of the turn stand behind those that were kept, and what is kept of both moves to the start. Assumes nothing.
use Rattle.std.proofs.Common.{rules, arith, ◌-◌, ◌%◌, ◌≤◌, ℕ, ap, sym, ◌∙◌, length, take, drop, length-take-le, length-drop}
use Rattle.std.specs.Io.KnownBytes.{Appends, Consumes}
use Rattle.records.specs.Records.{record_bytes}
use Rattle.replay.specs.Turns.{part_of}
use Rattle.replay.proofs.Turns.{held_is, kept_is}
use Rattle.replay.proofs.turn.Goals as goal

pub returns-clause-lines : goal.returns-clause-lines
returns-clause-lines g c =
    let held = c.in_ok-held.held in
    let at = c.args.come % record_bytes in
    let new = c.read_behind.new.input in
    let more : at ≤ held = search rules in
    let within : held ≤ length new = search rules in
    let moved : Consumes (g.R.Read.remaining c.args.from.now) (g.R.Read.remaining c.read_behind.new.from) (take (held - at) (drop at new)) = search rules in
    let written : Appends (g.W.Write.contents c.args.out.now) (g.W.Write.contents c.write_all.new.self) (take c.put_lines-end.result c.put_lines-end.new.out) = search rules in
    let all = held_is at held c.args.input.now new more c.read_behind.ensures.input_unchanged in (
      take (held - at) (drop at new),
      length-take-le (held - at) (drop at new) (omega (arith, within, length-drop at new)),
      moved,
      rw (all, ← c.put_lines-end.ensures.put.says) written,
      ap (λ (m : ℕ). take m c.keep.new.input) (omega (arith, more))
          ∙ ap (take (held % record_bytes)) c.keep.ensures
          ∙ kept_is held new within
          ∙ ap part_of (sym all),
    )
