-- The lines of the rows so far are written.
use Rattle.std.proofs.Common.{◌*◌}
use Rattle.listing.specs.Told.{Adds, table_lines}
use Rattle.listing.proofs.numbers.Output.put_rows.Given as goal

abbrev pub invariant-loop-index : goal.invariant-loop-index
invariant-loop-index l = Adds l.initial.self l.self (table_lines l.table l.index) (77 * l.index)
