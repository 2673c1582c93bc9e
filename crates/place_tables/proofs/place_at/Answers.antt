-- The entry of the eight is the list's. Assumes nothing.
use Rattle.place_tables.specs.Tables.{place_entry, holder_entry, place_table}
use Rattle.place_tables.proofs.Entries.{entry_is}
use Rattle.place_tables.proofs.place_at.Goals as goal

pub returns : goal.returns
unfolding place_table
returns c = entry_is place_entry holder_entry c.args.n _ c.requires c.places-eight.ensures
