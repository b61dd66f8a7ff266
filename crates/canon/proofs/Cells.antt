-- Laws of a table's cells. The first three alone know where a cell stands.
use mathlib.Core.Path.{◌≡◌, refl, sym, ap, ap₂, ◌∙◌}
use mathlib.Core.Bool.{Bool, true, false}
use mathlib.Core.List.{List, [], ◌∷◌, ◌++◌}
use Prim.Native.Nat.{ℕ, zero, suc, ◌+◌, ◌*◌, ◌≤◌, ◌<◌}
use native.Mathlib.Nat.{div-mul-le_self, add-zero, zero-add, mul-le-mul_right, suc-mul}
use native.Mathlib.Omega.{arith}
use lib.Dec.{ltb}
use lib.ListN.{length, get_or, set, drop, length-set, drop_of_length-le}
use lib.Seq.{get_or-set_same, get_or-set_other, drop-cons}
use borrow.Author.Tests.{ltb-true, ltb-false}
use Rattle.canon.specs.Table.{capacity, place, cell, cells_from, put_from, put_rows}
use Rattle.canon.specs.Placement.{Every}
use Rattle.canon.specs.Question.{no_table}

-- a cell of a run stands before every later run
run_before : (room row word later : ℕ) → row < room → word < later → word * room + row < later * room
run_before room row word later h k = omega (arith, mul-le-mul_right room k, suc-mul word room)

pub place_fits : (room row word n : ℕ) → row < room → word < 16 → 16 * room ≤ n → place room row word < n
unfolding place
place_fits room row word n h k l = omega (arith, run_before room row word 16 h k)

pub place_apart :
    (room row word row' word' : ℕ) → row < room → row' < room →
    place room row word ≡ place room row' word' →
    (row ≡ row') × (word ≡ word')
unfolding place
place_apart room row word row' word' p q e = go (ltb word word') (ltb word' word) refl refl
  where
    go : (a b : Bool) → ltb word word' ≡ a → ltb word' word ≡ b → (row ≡ row') × (word ≡ word')
    go true b f g = absurd (omega (arith, run_before room row word word' p (ltb-true word word' f)))
    go false true f g = absurd (omega (arith, run_before room row' word' word q (ltb-true word' word g)))
    go false false f g =
        let same : word ≡ word' = omega (arith, ltb-false word word' f, ltb-false word' word g) in
        (omega (arith, ap (λ (w : ℕ). w * room) same), same)

pub room_fits : (n : ℕ) → (capacity n ≤ 1024) × (16 * capacity n ≤ n)
unfolding capacity
room_fits n = (omega arith, omega (arith, div-mul-le_self n 16))

-- a table that is there has room for its rows
pub rows_there : (t : List ℕ) (n : ℕ) → no_table t n ≡ false → n ≤ capacity (length t)
unfolding no_table
rows_there t n e = ltb-false (capacity (length t)) n e

-- and they are 1,024 at most
pub rows_most : (t : List ℕ) (n : ℕ) → no_table t n ≡ false → n ≤ 1024
rows_most t n e = omega (arith, rows_there t n e, (room_fits (length t)).0)

-- stores keep the length

pub length_put_from : (room row k : ℕ) (ws t : List ℕ) → length (put_from room row k ws t) ≡ length t
unfolding put_from
length_put_from room row k [] t = refl
length_put_from room row k (w ∷ ws) t = length_put_from room row (suc k) ws (set t (place room row k) w) ∙ length-set t (place room row k) w

pub length_put_rows : (room i : ℕ) (rs : List (List ℕ)) (t : List ℕ) → length (put_rows room i rs t) ≡ length t
unfolding put_rows
length_put_rows room i [] t = refl
length_put_rows room i (r ∷ rs) t = length_put_rows room (suc i) rs (put_from room i 0 r t) ∙ length_put_from room i 0 r t

-- one row more, as a loop writes them
pub put_rows_snoc :
    (room i : ℕ) (rs : List (List ℕ)) (r t : List ℕ) →
    put_rows room i (rs ++ r ∷ []) t ≡ put_from room (i + length rs) 0 r (put_rows room i rs t)
unfolding put_rows
put_rows_snoc room i [] r t = rw (add-zero i)
put_rows_snoc room i (x ∷ rs) r t =
    put_rows_snoc room (suc i) rs r (put_from room i 0 x t)
    ∙ ap (λ (n : ℕ). put_from room n 0 r (put_rows room (suc i) rs (put_from room i 0 x t))) (omega arith)

-- one word more of a row
pub put_step :
    (room row k k' : ℕ) (ws t : List ℕ) → k < length ws → k' ≡ suc k →
    put_from room row k (drop k ws) t ≡ put_from room row k' (drop k' ws) (set t (place room row k) (get_or ws k 0))
unfolding put_from
put_step room row k k' ws t h e = rw (e, drop-cons ws k 0 h)

pub put_none : (room row k : ℕ) (ws t : List ℕ) → length ws ≤ k → put_from room row k (drop k ws) t ≡ t
unfolding put_from
put_none room row k ws t h = rw (drop_of_length-le ws {i = k} h)

-- what is not a cell of the row from k on is kept
pub kept :
    (room row k : ℕ) (ws t : List ℕ) (p : ℕ) →
    ((i : ℕ) → i < length ws → p ≡ place room row (k + i) → ⊥) →
    get_or (put_from room row k ws t) p 0 ≡ get_or t p 0
unfolding put_from
kept room row k [] t p apart = refl
kept room row k (w ∷ ws) t p apart =
    kept room row (suc k) ws (set t (place room row k) w) p
    (λ i h e. apart (suc i) (omega arith) (e ∙ ap (place room row) (omega arith)))
    ∙ get_or-set_other t (place room row k) p w 0 (λ e. apart 0 (omega arith) (e ∙ ap (place room row) (omega arith)))

-- what is no cell of these rows is kept
pub rows_kept :
    (room i : ℕ) (rs : List (List ℕ)) (t : List ℕ) (p : ℕ) →
    Every (λ r. length r ≡ 16) rs →
    ((j w : ℕ) → j < length rs → w < 16 → p ≡ place room (i + j) w → ⊥) →
    get_or (put_rows room i rs t) p 0 ≡ get_or t p 0
unfolding put_rows
rows_kept room i [] t p full apart = refl
rows_kept room i (r ∷ rs) t p full apart =
    rows_kept room (suc i) rs (put_from room i 0 r t) p full.1
    (λ j w h l e. apart (suc j) w (omega arith) l (e ∙ ap (λ (n : ℕ). place room n w) (omega arith)))
    ∙ kept room i 0 r t p
    (λ k h e. apart 0 k (omega arith) (omega (arith, full.0)) (e ∙ ap (λ (n : ℕ). place room n (0 + k)) (omega arith) ∙ ap (place room (i + 0)) (omega arith)))

module _ (room n : ℕ) (fits : 16 * room ≤ n) where
  -- a stored cell holds its word
  stored :
      (row k : ℕ) (ws t : List ℕ) (i : ℕ) → row < room → length t ≡ n → i < length ws → k + length ws ≤ 16 →
      cell room (put_from room row k ws t) row (k + i) ≡ get_or ws i 0
  unfolding put_from cell
  stored row k [] t i p e h l = absurd (omega arith)
  stored row k (x ∷ ws) t zero p e h l =
      kept room row (suc k) ws (set t (place room row k) x) (place room row (k + 0))
      (λ i q a. let b = place_apart room row (k + 0) row (suc k + i) p p a in omega (arith, b.1))
      ∙ ap (λ (w : ℕ). get_or (set t (place room row k) x) (place room row w) 0) (add-zero k)
      ∙ get_or-set_same t (place room row k) x 0 (place_fits room row k (length t) p (omega arith) (omega arith))
  stored row k (x ∷ ws) t (suc i) p e h l =
      ap (λ (w : ℕ). get_or (put_from room row (suc k) ws (set t (place room row k) x)) (place room row w) 0) (omega arith)
      ∙ stored row (suc k) ws (set t (place room row k) x) i p (length-set t (place room row k) x ∙ e) (omega arith) (omega arith)

  -- the row j of those that were written
  pub row_cell :
      (i : ℕ) (rs : List (List ℕ)) (t : List ℕ) (j w : ℕ) →
      Every (λ r. length r ≡ 16) rs → i + length rs ≤ room → length t ≡ n → j < length rs → w < 16 →
      cell room (put_rows room i rs t) (i + j) w ≡ get_or (get_or rs j []) w 0
  unfolding put_rows cell
  row_cell i [] t j w full l e h k = absurd (omega arith)
  row_cell i (r ∷ rs) t zero w full l e h k =
      rows_kept room (suc i) rs (put_from room i 0 r t) (place room (i + 0) w) full.1
      (λ j v q u a. let b = place_apart room (i + 0) w (suc i + j) v (omega arith) (omega arith) a in omega (arith, b.0))
      ∙ ap (λ (z : ℕ). get_or (put_from room i 0 r t) (place room z w) 0) (add-zero i)
      ∙ ap (λ (z : ℕ). get_or (put_from room i 0 r t) (place room i z) 0) (omega arith)
      ∙ stored i 0 r t w (omega arith) e (omega (arith, full.0)) (omega (arith, full.0))
  row_cell i (r ∷ rs) t (suc j) w full l e h k =
      ap (λ (z : ℕ). get_or (put_rows room (suc i) rs (put_from room i 0 r t)) (place room z w) 0) (omega arith)
      ∙ row_cell (suc i) rs (put_from room i 0 r t) j w full.1 (omega arith) (length_put_from room i 0 r t ∙ e) (omega arith) k

-- A row's cells as a list

pub cells_at : (room : ℕ) (t : List ℕ) (row k n i : ℕ) → i < n → get_or (cells_from room t row k n) i 0 ≡ cell room t row (k + i)
unfolding cells_from
cells_at room t row k zero i h = absurd (omega arith)
cells_at room t row k (suc n) zero h = ap (cell room t row) (omega arith)
cells_at room t row k (suc n) (suc i) h = cells_at room t row (suc k) n i (omega arith) ∙ ap (cell room t row) (omega arith)

pub cell_of : (room : ℕ) (t : List ℕ) (row k : ℕ) → k < 16 → get_or (cells_from room t row 0 16) k 0 ≡ cell room t row k
cell_of room t row k h = cells_at room t row 0 16 k h ∙ ap (cell room t row) (zero-add k)

-- rows whose cells agree are one row
pub cells_same :
    (room room' : ℕ) (t t' : List ℕ) (row row' k n : ℕ) →
    ((i : ℕ) → i < k + n → cell room t row i ≡ cell room' t' row' i) →
    cells_from room t row k n ≡ cells_from room' t' row' k n
unfolding cells_from
cells_same room room' t t' row row' k zero h = refl
cells_same room room' t t' row row' k (suc n) h =
    ap₂ ◌∷◌ (h k (omega arith)) (cells_same room room' t t' row row' (suc k) n (λ i l. h i (omega arith)))

cells_are :
    (room : ℕ) (t : List ℕ) (row k n : ℕ) (ws : List ℕ) → length ws ≡ n →
    ((w : ℕ) → w < n → cell room t row (k + w) ≡ get_or ws w 0) →
    cells_from room t row k n ≡ ws
unfolding cells_from
cells_are room t row k zero [] e h = refl
cells_are room t row k zero (w ∷ ws) e h = absurd (omega arith)
cells_are room t row k (suc n) [] e h = absurd (omega arith)
cells_are room t row k (suc n) (w ∷ ws) e h =
    let first : k ≡ k + 0 = omega arith in
    ap₂ ◌∷◌ (ap (cell room t row) first ∙ h 0 (omega arith))
    (cells_are room t row (suc k) n ws (omega arith)
    (λ v q. let e : suc k + v ≡ k + suc v = omega arith in ap (cell room t row) e ∙ h (suc v) (omega arith)))

pub row_at_lem :
    (room n : ℕ) (rs : List (List ℕ)) (t : List ℕ) (j : ℕ) → 16 * room ≤ n →
    Every (λ r. length r ≡ 16) rs → length rs ≤ room → length t ≡ n → j < length rs →
    cells_from room (put_rows room 0 rs t) j 0 16 ≡ get_or rs j []
row_at_lem room n rs t j fits full l e h =
    cells_are room (put_rows room 0 rs t) j 0 16 (get_or rs j []) (every_at rs j full h)
    (λ w k. ap₂ (cell room (put_rows room 0 rs t)) (sym (zero-add j)) (zero-add w) ∙ row_cell room n fits 0 rs t j w full (omega arith) e h k)
  where
    every_at : (rs : List (List ℕ)) (j : ℕ) → Every (λ r. length r ≡ 16) rs → j < length rs → length (get_or rs j []) ≡ 16
    every_at [] j full h = absurd (omega arith)
    every_at (r ∷ rs) zero full h = full.0
    every_at (r ∷ rs) (suc j) full h = every_at rs j full.1 (omega arith)

-- a row after those that were put is as it was
pub rows_after :
    (room : ℕ) (rs : List (List ℕ)) (t : List ℕ) (i : ℕ) → Every (λ r. length r ≡ 16) rs → i < room → length rs ≤ i →
    cells_from room (put_rows room 0 rs t) i 0 16 ≡ cells_from room t i 0 16
unfolding cell
rows_after room rs t i full h l =
    cells_same room room (put_rows room 0 rs t) t i i 0 16
    (λ k q. rows_kept room 0 rs t (place room i k) full (λ j w p _ e. let b = place_apart room i k (0 + j) w h (omega arith) e in omega (arith, b.0)))
