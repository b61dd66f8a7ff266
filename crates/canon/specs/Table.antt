-- A table in a lent buffer, by its cells: `place` says where a word of a row stands, and the row i is the entry i of every run. `column` is a
-- run as the paper has it; a law ties the two.
use Rattle.std.specs.Prelude.{List, [], ◌∷◌, ℕ, zero, suc, ◌+◌, ◌*◌, ◌/◌, min, length, get_or, set, take, drop}

-- "at most 1,024 rows of 16 words, fewer if the lent buffer is shorter", "the number of whole rows, at most 1,024"
unfoldable pub capacity : ℕ → ℕ
capacity n = min 1024 (n / 16)

-- the place of a word of a row, in a table with room for so many rows: "sixteen runs, one per word of the row, each as long as the
-- table's capacity"
unfoldable pub place : ℕ → ℕ → ℕ → ℕ
place room row word = word * room + row

unfoldable pub cell : ℕ → List ℕ → ℕ → ℕ → ℕ
cell room t row word = get_or t (place room row word) 0

-- the words of a row from k on, so many
unfoldable pub cells_from : ℕ → List ℕ → ℕ → ℕ → ℕ → List ℕ
cells_from room t row k zero = []
cells_from room t row k (suc n) = cell room t row k ∷ cells_from room t row (suc k) n

abbrev pub row_at : List ℕ → ℕ → List ℕ
row_at t row = cells_from (capacity (length t)) t row 0 16

-- the table t with the words ws in a row's cells, from the word k on; every other word as it was
unfoldable pub put_from : ℕ → ℕ → ℕ → List ℕ → List ℕ → List ℕ
put_from room row k [] t = t
put_from room row k (w ∷ ws) t = put_from room row (suc k) ws (set t (place room row k) w)

-- with these rows from the row i on
unfoldable pub put_rows : ℕ → ℕ → List (List ℕ) → List ℕ → List ℕ
put_rows room i [] t = t
put_rows room i (r ∷ rs) t = put_rows room (suc i) rs (put_from room i 0 r t)

-- the run of the word k: "one per word of the row, each as long as the table's capacity"
unfoldable pub column : List ℕ → ℕ → List ℕ
column t k = take (capacity (length t)) (drop (k * capacity (length t)) t)
