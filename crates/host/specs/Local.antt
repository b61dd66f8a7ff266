-- A build in a local table, whose rows are given back to the lent one.
use Rattle.std.specs.Prelude.{List, ℕ, zero, suc}
use Rattle.table.specs.Rows.{row_in, table_with}

-- the table u with the first n rows of t
unfoldable pub with_rows : List ℕ → ℕ → List ℕ → List ℕ
with_rows t zero u = u
with_rows t (suc n) u = table_with (with_rows t n u) n (row_in t n)
