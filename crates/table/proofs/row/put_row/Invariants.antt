-- The loop's invariant: what is left to store, stored, makes the whole (`put_step`, `put_none`).
use mathlib.Core.Path.{◌≡◌}
use lib.ListN.{drop}
use Rattle.canon.specs.Table.{put_from}
use Rattle.table.proofs.row.put_row.Given as goal

abbrev pub invariant-loop-k : goal.invariant-loop-k
invariant-loop-k l = put_from l.cells.room l.cells.row l.k (drop l.k l.word-items) l.table ≡ put_from l.cells.room l.cells.row 0 l.word-items l.initial.table
