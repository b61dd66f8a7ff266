-- A row put into bytes word by word is the row put into their words.
use mathlib.Core.Path.{◌≡◌, refl, sym, ap, ◌∙◌}
use mathlib.Core.Bool.{Bool, true, false, cond}
use mathlib.Core.List.{List, [], ◌∷◌}
use Prim.Native.Nat.{ℕ, zero, suc, ◌/◌, ◌≤◌, ◌<◌}
use native.Mathlib.Omega.{arith}
use lib.Dec.{ltb}
use lib.ListN.{length, get_or, drop, set, length-set}
use Rattle.canon.specs.Table.{capacity, place, cell, cells_from, put_from}
use Rattle.canon.proofs.Cells.{length_put_from, put_step, put_none}
use Rattle.words.specs.Words.{whole_words, put_words}
use Rattle.words.proofs.Laws.{length_whole, set_below, whole_small, put_all, put_same, puts_over}
use Rattle.table.specs.Rows.{row_in, table_with}
use Rattle.table.proofs.Reading.{length_cells, row_there, row_missing, put_there, put_missing}
use Rattle.table.proofs.Putting.{put_nothing}

module _ (room row : ℕ) (ws : List ℕ) where
  -- what is left of the row from the word k on, put into the bytes
  abbrev pub left_into : ℕ → List ℕ → List ℕ
  left_into k b = put_words 0 (put_from room row k (drop k ws) (whole_words b)) b

  pub give_turn :
      (k k' w : ℕ) (b b' : List ℕ) → ((j : ℕ) → get_or b j 0 < 256) → w < 4294967296 → k < length ws → k' ≡ suc k → w ≡ get_or ws k 0 →
      b' ≡ put_words 0 (set (whole_words b) (place room row k) w) b →
      left_into k' b' ≡ left_into k b
  give_turn k k' w b b' bytes small h e word put =
      ap (left_into k') put
      ∙ ap (λ (v : List ℕ). put_words 0 (rest v) (put_words 0 one b)) (put_all one b (set_below 4294967296 (whole_words b) (place room row k) w small (whole_small b bytes)) long)
      ∙ puts_over (rest one) one b bytes long (length_put_from room row k' (drop k' ws) one ∙ long)
      ∙ ap (λ (x : ℕ). put_words 0 (rest (set (whole_words b) (place room row k) x)) b) word
      ∙ sym (ap (λ (v : List ℕ). put_words 0 v b) (put_step room row k k' ws (whole_words b) h e))
    where
      one : List ℕ
      one = set (whole_words b) (place room row k) w

      rest : List ℕ → List ℕ
      rest v = put_from room row k' (drop k' ws) v

      long : length one ≡ length b / 4
      long = length-set (whole_words b) (place room row k) w ∙ length_whole b

  give_end : (k : ℕ) (b : List ℕ) → ((j : ℕ) → get_or b j 0 < 256) → length ws ≤ k → left_into k b ≡ b
  give_end k b bytes h = ap (λ (v : List ℕ). put_words 0 v b) (put_none room row k ws (whole_words b) h) ∙ put_same b bytes

-- the end of the loop
pub give_stored :
    (t b : List ℕ) (from to row at j : ℕ) → from ≡ capacity (length t) → to ≡ capacity (length b / 4) → row ≡ j → at ≡ j → row < from → at < to →
    (k : ℕ) (u : List ℕ) → 16 ≤ k → ((i : ℕ) → get_or u i 0 < 256) →
    left_into to at (cells_from from t row 0 16) k u ≡ left_into to at (cells_from from t row 0 16) 0 b →
    u ≡ put_words 0 (table_with (whole_words b) j (row_in t j)) b
give_stored t b from to row at j has takes e f h l k u full bytes kept =
    let ws = cells_from from t row 0 16 in
    sym (give_end to at ws k u bytes (omega (arith, length_cells from t row 0 16)))
    ∙ kept
    ∙ ap (λ (v : List ℕ). put_words 0 v b) (sym (put_there (whole_words b) to at (takes ∙ ap capacity (sym (length_whole b))) ws l))
    ∙ rw (← row_there t from row has h, e, f)

module _ (t b : List ℕ) (j : ℕ) where
  unchanged : ((i : ℕ) → get_or b i 0 < 256) → table_with (whole_words b) j (row_in t j) ≡ whole_words b → b ≡ put_words 0 (table_with (whole_words b) j (row_in t j)) b
  unchanged bytes e = sym (ap (λ (v : List ℕ). put_words 0 v b) e ∙ put_same b bytes)

  pub give_full : ((i : ℕ) → get_or b i 0 < 256) → capacity (length b / 4) ≤ j → b ≡ put_words 0 (table_with (whole_words b) j (row_in t j)) b
  give_full bytes h = unchanged bytes (put_missing (whole_words b) _ j (ap capacity (sym (length_whole b))) (row_in t j) h)

  pub give_none : ((i : ℕ) → get_or b i 0 < 256) → capacity (length t) ≤ j → b ≡ put_words 0 (table_with (whole_words b) j (row_in t j)) b
  give_none bytes h = unchanged bytes (ap (table_with (whole_words b) j) (row_missing t _ j refl h) ∙ put_nothing (whole_words b) j)

-- The numbers of what is put are below a bound where those of both tables are

abbrev Below : ℕ → List ℕ → Type 0
Below n ws = (i : ℕ) → get_or ws i 0 < n

cells_below : (n room : ℕ) (t : List ℕ) (row k m : ℕ) → Below n t → Below n (cells_from room t row k m)
unfolding cells_from cell
cells_below n room t row k zero h i = omega (arith, h 0)
cells_below n room t row k (suc m) h zero = h (place room row k)
cells_below n room t row k (suc m) h (suc i) = cells_below n room t row (suc k) m h i

put_below : (n room row k : ℕ) (ws t : List ℕ) → Below n ws → Below n t → Below n (put_from room row k ws t)
unfolding put_from
put_below n room row k [] t h l = l
put_below n room row k (w ∷ ws) t h l = put_below n room row (suc k) ws (set t (place room row k) w) (λ i. h (suc i)) (set_below n t (place room row k) w (h 0) l)

pub given_below :
    (n : ℕ) (t u : List ℕ) (j : ℕ) → ((i : ℕ) → get_or t i 0 < n) → ((i : ℕ) → get_or u i 0 < n) → (i : ℕ) → get_or (table_with u j (row_in t j)) i 0 < n
unfolding table_with row_in
given_below n t u j h l = go (ltb j (capacity (length u))) (ltb j (capacity (length t)))
  where
    row : (b : Bool) → Below n (cond b (cells_from (capacity (length t)) t j 0 16) [])
    row true = cells_below n (capacity (length t)) t j 0 16 h
    row false = λ i. omega (arith, h 0)

    go : (a b : Bool) → Below n (cond a (put_from (capacity (length u)) j 0 (cond b (cells_from (capacity (length t)) t j 0 16) []) u) u)
    go true b = put_below n (capacity (length u)) j 0 (cond b (cells_from (capacity (length t)) t j 0 16) []) u (row b) l
    go false b = l
