-- A table after a row was put into it: its length, the row and the others.
use mathlib.Core.Path.{◌≡◌, refl, sym, ap, ◌∙◌}
use mathlib.Core.Bool.{Bool, true, false, cond}
use mathlib.Core.List.{List, [], ◌∷◌}
use Prim.Native.Nat.{ℕ, ◌+◌, ◌≤◌, ◌<◌}
use native.Mathlib.Nat.{add-zero}
use native.Mathlib.Omega.{arith}
use lib.Dec.{ltb}
use lib.ListN.{length, get_or, set, drop}
use Rattle.canon.specs.Table.{capacity, place, cell, row_at, put_from, put_rows}
use Rattle.canon.proofs.Cells.{place_apart, room_fits, length_put_from, put_step, put_none, kept, row_cell, cell_of, cells_same}
use Rattle.table.specs.Rows.{table_with}
use Rattle.table.proofs.Reading.{put_there}

-- a turn of the loop that stores a row, and its end: what is left to store, stored, makes the whole
module _ (room row k : ℕ) (ws t : List ℕ) where
  pub store_turn :
      (p v : ℕ) → k < length ws → p ≡ place room row k → v ≡ get_or ws k 0 →
      put_from room row (k + 1) (drop (k + 1) ws) (set t p v) ≡ put_from room row k (drop k ws) t
  store_turn p v h e f = rw (e, f) (sym (put_step room row k (k + 1) ws t h (omega arith)))

  pub store_end :
      (u : List ℕ) (j : ℕ) → room ≡ capacity (length u) → row ≡ j → row < room → length ws ≤ k →
      put_from room row k (drop k ws) t ≡ put_from room row 0 ws u → t ≡ table_with u j ws
  store_end u j e f h l kept = sym (put_none room row k ws t l) ∙ kept ∙ rw (← f) (sym (put_there u room row e ws h))

-- a row of no words changes nothing
pub put_nothing : (t : List ℕ) (j : ℕ) → table_with t j [] ≡ t
unfolding table_with put_from
put_nothing t j = go (ltb j (capacity (length t)))
  where
    go : (b : Bool) → cond b t t ≡ t
    go true = refl
    go false = refl

pub length_with : (t : List ℕ) (j : ℕ) (ws : List ℕ) → length (table_with t j ws) ≡ length t
unfolding table_with
length_with t j ws = go (ltb j (capacity (length t)))
  where
    go : (b : Bool) → length (cond b (put_from (capacity (length t)) j 0 ws t) t) ≡ length t
    go true = length_put_from (capacity (length t)) j 0 ws t
    go false = refl

module _ (t : List ℕ) (j : ℕ) (ws : List ℕ) (full : length ws ≡ 16) (h : j < capacity (length t)) where
  abbrev room : ℕ
  room = capacity (length t)

  same_room : capacity (length (table_with t j ws)) ≡ room
  same_room = ap capacity (length_with t j ws)

  put_cell : (k : ℕ) → k < 16 → cell room (table_with t j ws) j k ≡ get_or ws k 0
  unfolding put_rows
  put_cell k l =
      rw (put_there t room j refl ws h)
      (ap (λ (i : ℕ). cell room (put_from room j 0 ws t) i k) (sym (add-zero j))
      ∙ row_cell room (length t) (room_fits (length t)).1 j (ws ∷ []) t 0 k (full, tt) (omega arith) refl (omega arith) l)

  kept_cell : (i k : ℕ) → i < room → (i ≡ j → ⊥) → k < 16 → cell room (table_with t j ws) i k ≡ cell room t i k
  unfolding cell
  kept_cell i k p apart l =
      rw (put_there t room j refl ws h)
      (kept room j 0 ws t (place room i k) (λ x q e. apart (place_apart room i k j (0 + x) p h e).0))

  pub row_put : (u : List ℕ) (r : ℕ) → ws ≡ row_at u r → row_at (table_with t j ws) j ≡ row_at u r
  row_put u r e =
      rw same_room
      (cells_same room (capacity (length u)) (table_with t j ws) u j r 0 16
      (λ k l. put_cell k (omega arith) ∙ ap (λ (x : List ℕ). get_or x k 0) e ∙ cell_of (capacity (length u)) u r k (omega arith)))

  pub row_kept : (i : ℕ) → i < room → (i ≡ j → ⊥) → row_at (table_with t j ws) i ≡ row_at t i
  row_kept i p apart = rw same_room (cells_same room room (table_with t j ws) t i i 0 16 (λ k l. kept_cell i k p apart (omega arith)))
