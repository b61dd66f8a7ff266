-- What the code does, call by call; proofs/ carries it to Text.
use Rattle.std.specs.Prelude.{List, [], ◌++◌, ◌≡◌, ℕ, zero, suc, ◌+◌, ◌≤◌, length}
use Rattle.table.specs.Rows.{row_in}
use Rattle.listing.specs.Text.{row_line, written}
use Rattle.listing.specs.declared.numbers.Output.{Output}

-- so many more bytes fit
abbrev pub HasRoom : Output → ℕ → Type 0
HasRoom o n = o.len + n ≤ length o.bytes.now

-- a text of at most so many bytes is written, in the same lent bytes, after what was there
pub record Adds (old new : Output) (text : List ℕ) (most : ℕ) : Type 0 where
  pub same : new.bytes.ghost_name ≡ old.bytes.ghost_name
  pub bytes : new.bytes.now ≡ written old.bytes.now old.len text
  pub len : new.len ≡ old.len + length text
  pub size : length new.bytes.now ≡ length old.bytes.now
  pub short : length text ≤ most

-- the lines of the first n rows of a table
unfoldable pub table_lines : List ℕ → ℕ → List ℕ
table_lines t zero = []
table_lines t (suc n) = table_lines t n ++ row_line n (row_in t n)
