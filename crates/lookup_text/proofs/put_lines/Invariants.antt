-- The lines of the records so far were pushed, at most 13 bytes for each. Assumes nothing.
use Rattle.std.proofs.Common.{◌*◌, ◌≤◌, take}
use Rattle.std.specs.List.{flat_map}
use Rattle.text.specs.Text.{Pushed}
use Rattle.lookup_text.proofs.Laws.{record_line}
use Rattle.lookup_text.proofs.put_lines.Given as goal

abbrev pub invariant-loop-kind : goal.invariant-loop-kind
invariant-loop-kind l = Pushed (flat_map record_line (take l.kind-index l.whole)) l.initial.text l.text × (l.text.len ≤ 13 * l.kind-index)
