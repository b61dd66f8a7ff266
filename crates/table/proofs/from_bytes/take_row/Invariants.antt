-- The loop's invariant: what is left to store, stored, makes the whole (`put_step`, `put_none`), as where a row's words are put.
use mathlib.Core.Path.{◌≡◌}
use mathlib.Core.List.{List}
use Prim.Native.Nat.{ℕ}
use lib.ListN.{drop}
use Rattle.canon.specs.Table.{cells_from, put_from}
use Rattle.words.specs.Words.{whole_words}
use Rattle.table.proofs.from_bytes.take_row.Given as goal

-- the words that are taken
abbrev pub taken : List ℕ → ℕ → ℕ → List ℕ
taken bytes room row = cells_from room (whole_words bytes) row 0 16

abbrev pub invariant-loop-k : goal.invariant-loop-k
invariant-loop-k l = let ws = taken l.bytes l.source.room l.source.row in
    put_from l.slot.room l.slot.row l.k (drop l.k ws) l.table ≡ put_from l.slot.room l.slot.row 0 ws l.initial.table
