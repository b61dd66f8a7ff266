-- The loop's invariant: what is left of the row, put into the bytes, makes the whole (`give_turn`, `give_end`).
use mathlib.Core.Path.{◌≡◌}
use Prim.Native.Nat.{ℕ, ◌<◌}
use lib.ListN.{get_or}
use Rattle.canon.specs.Table.{cells_from}
use Rattle.table.proofs.Giving.{left_into}
use Rattle.table.proofs.to_bytes.give_row.Given as goal

abbrev pub invariant-loop-k : goal.invariant-loop-k
invariant-loop-k l = let ws = cells_from l.source.room l.table l.source.row 0 16 in record {
  bytes : (i : ℕ) → get_or l.bytes i 0 < 256;
  left : left_into l.slot.room l.slot.row ws l.k l.bytes ≡ left_into l.slot.room l.slot.row ws 0 l.initial.bytes;
}
