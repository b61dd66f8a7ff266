-- A row that the table has is of its cells; one that it has not is of no words, and nothing is put there. The two halves of the
-- tests of a row are its good form.
use mathlib.Core.Path.{◌≡◌, refl, ap}
use mathlib.Core.Bool.{false, ◌&&◌, and_assoc}
use mathlib.Core.List.{List, []}
use Prim.Native.Nat.{ℕ, zero, suc, ◌^◌, ◌≤◌, ◌<◌}
use native.Mathlib.Omega.{arith}
use lib.Arith.{digits_div, digits_mod}
use lib.ListN.{length, get_or}
use borrow.Author.Tests.{lt-ltb, le-ltb}
use Rattle.canon.specs.Layout.{Both}
use Rattle.canon.specs.Row.{word, good_abi, is_good}
use Rattle.canon.specs.Table.{capacity, place, cell, cells_from, row_at, put_from}
use Rattle.canon.specs.Question.{no_table}
use Rattle.canon.proofs.Cells.{rows_there, cell_of}
use Rattle.flat_types.specs.Lists.{halves, whole}
use Rattle.table.specs.Rows.{row_in, table_with, good_first_words, good_later_words}

pub length_cells : (room : ℕ) (t : List ℕ) (row k n : ℕ) → length (cells_from room t row k n) ≡ n
unfolding cells_from
length_cells room t row k zero = refl
length_cells room t row k (suc n) = ap suc (length_cells room t row (suc k) n)

-- two words in one number are found again
pub halves_whole : (b : Both ℕ) → b.in32 < 2 ^ 32 → halves (whole b) ≡ b
halves_whole b h = rw (digits_mod b.in64 h, digits_div b.in64 h)

module _ (t : List ℕ) (room j : ℕ) (e : room ≡ capacity (length t)) where
  pub row_there : j < room → row_in t j ≡ cells_from room t j 0 16
  unfolding row_in
  row_there h = rw (← e, lt-ltb j room h)

  pub row_missing : room ≤ j → row_in t j ≡ []
  unfolding row_in
  row_missing h = rw (← e, le-ltb j room h)

  pub put_there : (ws : List ℕ) → j < room → table_with t j ws ≡ put_from room j 0 ws t
  unfolding table_with
  put_there ws h = rw (← e, lt-ltb j room h)

  pub put_missing : (ws : List ℕ) → room ≤ j → table_with t j ws ≡ t
  unfolding table_with
  put_missing ws h = rw (← e, le-ltb j room h)

-- so are its words
module _ (t : List ℕ) (j k : ℕ) where
  pub word_there : j < capacity (length t) → k < 16 → word (row_in t j) k ≡ get_or t (place (capacity (length t)) j k) 0
  unfolding cell
  word_there h l = rw (row_there t (capacity (length t)) j refl h) (cell_of (capacity (length t)) t j k l)

  pub word_missing : capacity (length t) ≤ j → word (row_in t j) k ≡ 0
  word_missing h = rw (row_missing t (capacity (length t)) j refl h)

-- a row of a table that is there is of its cells
pub row_is : (t : List ℕ) (n j : ℕ) → no_table t n ≡ false → j < n → row_in t j ≡ row_at t j
row_is t n j e h = row_there t (capacity (length t)) j refl (omega (arith, rows_there t n e))

-- the good form, half by half
pub good_halves : (r : List ℕ) → is_good r ≡ good_first_words r && good_later_words r
unfolding is_good good_abi good_first_words good_later_words
good_halves r = simp and_assoc
