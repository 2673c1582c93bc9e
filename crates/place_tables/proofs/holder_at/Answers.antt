-- The entry of the eight is the list's. Assumes nothing.
use Rattle.place_tables.specs.Tables.{place_entry, holder_entry, holder_table}
use Rattle.place_tables.proofs.Entries.{entry_is}
use Rattle.place_tables.proofs.holder_at.Goals as goal

pub returns : goal.returns
unfolding holder_table
returns c = entry_is holder_entry place_entry c.args.n _ c.requires c.holders-eight.ensures
