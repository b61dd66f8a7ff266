-- Tables as they were before the order for columns: "rows of 16 words", one after another. Nothing is built or asked by these definitions:
-- the laws say by them that every question answers as before.
use Rattle.std.specs.Prelude.{◌≡◌, Bool, ◌||◌, List, [], ◌∷◌, ◌++◌, map, ℕ, ◌*◌, ◌<◌, ltb, length, take, drop}
use Rattle.canon.specs.Row.{Info, row_of}
use Rattle.canon.specs.Table.{capacity, row_at}
use Rattle.canon.specs.Description.{built}
use Rattle.canon.specs.Answer.{Leaf, Answer, at_position, unless, bad_row}
use Rattle.canon.specs.Question.{reading, asking, asking_two}

-- the row i
unfoldable pub old_row_at : List ℕ → ℕ → List ℕ
old_row_at t i = take 16 (drop (16 * i) t)

-- the table t with these rows in front
unfoldable pub old_put_rows : List (List ℕ) → List ℕ → List ℕ
old_put_rows [] t = t
old_put_rows (r ∷ rs) t = r ++ old_put_rows rs (drop 16 t)

-- the first n rows of u, in columns, are those of t, in rows
pub record SameRows (n : ℕ) (u t : List ℕ) : Type 0 where
  pub size : length u ≡ length t
  pub rows : (i : ℕ) → i < n → i < capacity (length t) → row_at u i ≡ old_row_at t i

-- u holds in columns what t holds in rows, and the same words behind them
pub record Turned (u t : List ℕ) : Type 0 where
  pub size : length u ≡ length t
  pub rows : (i : ℕ) → i < capacity (length t) → row_at u i ≡ old_row_at t i
  pub rest : drop (16 * capacity (length t)) u ≡ drop (16 * capacity (length t)) t

-- A build: "earlier rows are written, every other word keeps its value"

unfoldable pub old_table_after : List ℕ → List ℕ → List ℕ
old_table_after ws t = old_put_rows (map row_of (built ws t).types) t

-- The questions

-- refusal 8: "n above 1,024, or 16n words not there"
unfoldable pub old_no_table : List ℕ → ℕ → Bool
old_no_table t n = ltb 1024 n || ltb (length t) (16 * n)

unfoldable pub old_read : List ℕ → ℕ → ℕ → Leaf Info
old_read t n w = reading (old_row_at t) n w

unfoldable pub old_ask : {A : Type 0} → List ℕ → ℕ → Bool → Bool → List ℕ → (List Info → Answer A) → Answer A
old_ask t n bad_maximum short ws k = asking (old_no_table t n) (old_read t n) bad_maximum short ws k

unfoldable pub old_ask_two : {A : Type 0} → List ℕ → ℕ → List ℕ → List ℕ → (List Info → List Info → Answer A) → Answer A
old_ask_two t n vs ws k = asking_two (old_no_table t n) (old_read t n) vs ws k

unfoldable pub old_type_answer : List ℕ → ℕ → ℕ → Answer Info
old_type_answer t n w = unless (old_no_table t n) bad_row (at_position 0 (old_read t n w))
