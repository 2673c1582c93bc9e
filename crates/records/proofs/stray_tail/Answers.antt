-- The words that a kind needs of a part have room in it. Assumes nothing.
use Rattle.std.proofs.Common.{rules}
use Rattle.records.proofs.Laws.{room_A, room_B, room_C}
use Rattle.records.proofs.stray_tail.Goals as goal

pub stray_behind-requires : goal.stray_behind-requires
stray_behind-requires c = let room = room_A _ c.requires.2 in search rules

pub stray_behind-requires-2 : goal.stray_behind-requires-2
stray_behind-requires-2 c = let room = room_B _ c.requires.2 in search rules

pub stray_behind-requires-3 : goal.stray_behind-requires-3
stray_behind-requires-3 c = let room = room_C _ c.requires.2 in search rules

pub stray_behind-requires-4 : goal.stray_behind-requires-4
stray_behind-requires-4 c = let room = room_C _ c.requires.2 in search rules
