-- A column read at i gives what word and row give. Where a table in columns holds what one in rows held, every question answers as before,
-- and so it is again after a build.
use mathlib.Core.Path.{◌≡◌, refl, sym, ap, ◌∙◌, fun_ext}
use mathlib.Core.Bool.{Bool, false, ◌||◌}
use mathlib.Core.List.{List, [], ◌∷◌, ◌++◌, map}
use Prim.Native.Nat.{ℕ, zero, suc, ◌+◌, ◌*◌, ◌-◌, ◌/◌, ◌%◌, ◌≤◌, ◌<◌, min}
use native.Mathlib.Decide.{dec_le}
use native.Mathlib.Nat.{div-mul-le_self, mod-lt, div-add-mod', div-lt_iff_lt-mul}
use native.Mathlib.Omega.{arith}
use lib.Dec.{ltb, eqb}
use lib.ListN.{length, get_or, take, drop, length-map, length-append, length-drop, take-append-drop}
use lib.Seq.{get_or-take, get_or-drop, length-take-le, take_at, drop_at, drop-drop, drop-append-add, ext_get_or}
use borrow.Author.Tests.{lt-ltb, le-ltb}
use Rattle.canon.specs.Answer.{Leaf, Answer, ok, at_position, then, unless, too_long, bad_count, no_room, bad_row}
use Rattle.canon.specs.Placement.{Every}
use Rattle.canon.specs.Row.{Info, row_of, word}
use Rattle.canon.specs.Table.{capacity, place, cell, cells_from, row_at, put_rows, column}
use Rattle.canon.specs.Description.{built, table_after}
use Rattle.canon.specs.Layout.{Memory}
use Rattle.canon.specs.Question.{read, infos, too_many, no_table, ask, ask_two, type_answer, layouts_in, placed, placing, any_borrow, borrow_answer}
use Rattle.canon.specs.Signature.{Side, flat_all, at_most, flatten_answer, start_of, async_start_answer, return_of, async_return_answer}
use Rattle.canon.specs.Before.{old_row_at, old_put_rows, SameRows, Turned, old_table_after, old_no_table, old_read, old_ask, old_ask_two, old_type_answer}
use Rattle.canon.proofs.Cells.{room_fits, rows_there, length_put_rows, row_at_lem, rows_after, cell_of}
use Rattle.canon.proofs.Built.{built_sound, every_sixteen, row_built}
use Rattle.canon.proofs.Questions.{rows_alike, asked_alike}
use Rattle.canon.proofs.Capped.{rows_front}

-- Columns

pub column_at : (t : List ℕ) (k i : ℕ) → i < capacity (length t) → k < 16 → get_or (column t k) i 0 ≡ word (row_at t i) k
unfolding column cell place
column_at t k i h l =
    get_or-take (capacity (length t)) (drop (k * capacity (length t)) t) i 0 h
    ∙ get_or-drop (k * capacity (length t)) t i 0
    ∙ sym (cell_of (capacity (length t)) t i k l)

-- of a table that a build wrote: the word k of each type's row
pub column_built :
    (ws t : List ℕ) (k i : ℕ) → k < 16 → i < length (built ws t).types →
    get_or (column (table_after ws t) k) i 0 ≡ word (get_or (map row_of (built ws t).types) i []) k
unfolding table_after
column_built ws t k i l h =
    let same = length_put_rows (capacity (length t)) 0 (map row_of (built ws t).types) t in
    column_at (table_after ws t) k i (rw same (omega (arith, (built_sound ws t).fits))) l ∙ ap (λ (r : List ℕ). word r k) (row_built ws t i h)

-- and the entries from there on are as they were
pub column_kept :
    (ws t : List ℕ) (k i : ℕ) → k < 16 → length (built ws t).types ≤ i → i < capacity (length t) →
    get_or (column (table_after ws t) k) i 0 ≡ get_or (column t k) i 0
unfolding table_after
column_kept ws t k i l h p =
    let types = (built ws t).types in
    let same = length_put_rows (capacity (length t)) 0 (map row_of types) t in
    let kept : row_at (table_after ws t) i ≡ row_at t i = rw same (rows_after (capacity (length t)) (map row_of types) t i (every_sixteen types) p (omega (arith, length-map types row_of))) in
    column_at (table_after ws t) k i (rw same p) l ∙ ap (λ (r : List ℕ). word r k) kept ∙ sym (column_at t k i p l)

-- The test of n

-- n is above the capacity exactly when it is above 1,024 or 16n words are not there
pub test_before : (t : List ℕ) (n : ℕ) → no_table t n ≡ old_no_table t n
unfolding no_table old_no_table capacity
test_before t n =
    elim (dec_le n (min 1024 (length t / 16))) [
      | yes h ↦ rw (le-ltb (min 1024 (length t / 16)) n h, le-ltb 1024 n (omega arith), le-ltb (length t) (16 * n) (omega (arith, div-mul-le_self (length t) 16)))
      | no h ↦ over (dec_le n 1024) h
    ]
  where
    over : Dec (n ≤ 1024) → (n ≤ min 1024 (length t / 16) → ⊥) → ltb (min 1024 (length t / 16)) n ≡ ltb 1024 n || ltb (length t) (16 * n)
    over (yes l) h = rw (lt-ltb (min 1024 (length t / 16)) n (omega arith), le-ltb 1024 n l, lt-ltb (length t) (16 * n) (omega arith))
    over (no l) h = rw (lt-ltb (min 1024 (length t / 16)) n (omega arith), lt-ltb 1024 n (omega arith))

-- Every question

module _ (n : ℕ) (u t : List ℕ) (same : SameRows n u t) where
  -- reading a column at i gives what word and row gave
  pub column_before : (k i : ℕ) → k < 16 → i < n → i < capacity (length t) → get_or (column u k) i 0 ≡ word (old_row_at t i) k
  column_before k i l h p = column_at u k i (rw same.size p) l ∙ ap (λ (r : List ℕ). word r k) (same.rows i h p)

  tested : no_table u n ≡ old_no_table t n
  tested = unfold no_table in ap (λ (words : ℕ). ltb (capacity words) n) same.size ∙ test_before t n

  pub read_before : no_table u n ≡ false → read u n ≡ old_read t n
  unfolding read old_read
  read_before e =
      fun_ext (λ w. rows_alike (row_at u) (old_row_at t) n w (λ i h. same.rows i h (omega (arith, rows_there u n e, ap capacity same.size))))

  asked_before :
      {A : Type 0} (f : (ℕ → Leaf Info) → Answer A) →
      unless (no_table u n) bad_row (f (read u n)) ≡ unless (old_no_table t n) bad_row (f (old_read t n))
  asked_before f = asked_alike (no_table u n) (old_no_table t n) f tested read_before

  pub ask_before : {A : Type 0} (b s : Bool) (ws : List ℕ) (k : List Info → Answer A) → ask u n b s ws k ≡ old_ask t n b s ws k
  unfolding ask old_ask
  ask_before b s ws k = ap (unless (too_many ws) too_long) (asked_before (λ look. unless b bad_count (unless s no_room (then (infos look 0 ws) k))))

  pub ask_two_before : {A : Type 0} (vs ws : List ℕ) (k : List Info → List Info → Answer A) → ask_two u n vs ws k ≡ old_ask_two t n vs ws k
  unfolding ask_two old_ask_two
  ask_two_before vs ws k =
      ap (unless (too_many vs || too_many ws) too_long)
      (asked_before (λ look. then (infos look 0 vs) (λ is'. then (infos look (length vs) ws) (λ js. k is' js))))

  pub type_before : (w : ℕ) → type_answer u n w ≡ old_type_answer t n w
  unfolding type_answer old_type_answer
  type_before w = asked_before (λ look. at_position 0 (look w))

  -- Each question of 01 is one of these three. Those not named below are made of one that is: size and alignment of the type question, a
  -- placement's answer and buffer of `placing`, lowering and lifting of `flatten_answer`.

  pub placing_before :
      (m : Memory) (ws : List ℕ) (room : ℕ) →
      placing m u n ws room ≡ old_ask t n false (ltb room (length ws)) ws (λ is'. placed (layouts_in m is'))
  unfolding placing
  placing_before m ws room = ask_before false (ltb room (length ws)) ws (λ is'. placed (layouts_in m is'))

  pub flatten_before :
      (m : Memory) (max : ℕ) (ws : List ℕ) →
      flatten_answer m max u n ws ≡ old_ask t n (ltb 16 max) false ws (λ is'. ok (at_most max (flat_all m is')))
  unfolding flatten_answer
  flatten_before m max ws = ask_before (ltb 16 max) false ws (λ is'. ok (at_most max (flat_all m is')))

  pub borrow_before : (ws : List ℕ) → borrow_answer u n ws ≡ old_ask t n false false ws (λ is'. ok (any_borrow is'))
  unfolding borrow_answer
  borrow_before ws = ask_before false false ws (λ is'. ok (any_borrow is'))

  pub start_before :
      (lower : Side) (vs : List ℕ) (lift : Side) (ws : List ℕ) →
      async_start_answer u n lower vs lift ws
      ≡ old_ask_two t n vs ws (λ is' js. ok (start_of lower (flat_all lower.memory is') lift (flat_all lift.memory js)))
  unfolding async_start_answer
  start_before lower vs lift ws =
      ask_two_before vs ws (λ is' js. ok (start_of lower (flat_all lower.memory is') lift (flat_all lift.memory js)))

  pub return_before :
      (lift : Side) (vs : List ℕ) (lower : Side) (ws : List ℕ) →
      async_return_answer u n lift vs lower ws
      ≡ old_ask_two t n vs ws (λ is' js. ok (return_of lift (flat_all lift.memory is') lower (flat_all lower.memory js) (eqb (length ws) 0)))
  unfolding async_return_answer
  return_before lift vs lower ws =
      ask_two_before vs ws (λ is' js. ok (return_of lift (flat_all lift.memory is') lower (flat_all lower.memory js) (eqb (length ws) 0)))

-- Rows that were put, before and now

abbrev Full : List (List ℕ) → Type 0
Full rs = Every (λ r. length r ≡ 16) rs

old_length : (rs : List (List ℕ)) (t : List ℕ) → Full rs → 16 * length rs ≤ length t → length (old_put_rows rs t) ≡ length t
unfolding old_put_rows
old_length [] t full h = refl
old_length (r ∷ rs) t full h =
    length-append r (old_put_rows rs (drop 16 t))
    ∙ omega (arith, full.0, length-drop 16 t, old_length rs (drop 16 t) full.1 (omega (arith, length-drop 16 t)))

-- behind n words, where the rows take no more
old_behind : (rs : List (List ℕ)) (t : List ℕ) (n : ℕ) → Full rs → 16 * length rs ≤ n → drop n (old_put_rows rs t) ≡ drop n t
unfolding old_put_rows
old_behind [] t n full h = refl
old_behind (r ∷ rs) t n full h =
    let here : n ≡ length r + (n - 16) = omega (arith, full.0) in
    let there : 16 + (n - 16) ≡ n = omega arith in
    ap (λ (k : ℕ). drop k (r ++ old_put_rows rs (drop 16 t))) here
    ∙ drop-append-add r (old_put_rows rs (drop 16 t)) (n - 16)
    ∙ old_behind rs (drop 16 t) (n - 16) full.1 (omega arith)
    ∙ drop-drop (n - 16) 16 t
    ∙ ap (λ (k : ℕ). drop k t) there

old_row : (rs : List (List ℕ)) (t : List ℕ) (j : ℕ) → Full rs → j < length rs → old_row_at (old_put_rows rs t) j ≡ get_or rs j []
unfolding old_row_at old_put_rows
old_row [] t j full h = absurd (omega arith)
old_row (r ∷ rs) t zero full h = take_at r (old_put_rows rs (drop 16 t)) 16 full.0
old_row (r ∷ rs) t (suc j) full h =
    let here : 16 * suc j ≡ length r + 16 * j = omega (arith, full.0) in
    ap (λ (k : ℕ). take 16 (drop k (r ++ old_put_rows rs (drop 16 t)))) here
    ∙ ap (take 16) (drop-append-add r (old_put_rows rs (drop 16 t)) (16 * j))
    ∙ old_row rs (drop 16 t) j full.1 (omega arith)

rows_behind :
    (room n : ℕ) (rs : List (List ℕ)) (t : List ℕ) → Full rs → length rs ≤ room → 16 * room ≤ n → n ≤ length t → drop n (put_rows room 0 rs t) ≡ drop n t
rows_behind room n rs t full few fits h =
    let front = length-take-le n t h in
    ap (λ (l : List ℕ). drop n (put_rows room 0 rs l)) (sym (take-append-drop n t))
    ∙ ap (drop n) (sym (rows_front room 0 rs (take n t) (drop n t) full (omega arith) (omega (arith, front))))
    ∙ drop_at (put_rows room 0 rs (take n t)) (drop n t) n (length_put_rows room 0 rs (take n t) ∙ front)

-- A build

module _ (u t : List ℕ) (turned : Turned u t) (rs : List (List ℕ)) (full : Full rs) (few : length rs ≤ capacity (length t)) where
  abbrev room : ℕ
  room = capacity (length t)

  abbrev after : List ℕ
  after = put_rows room 0 rs u

  old_size : length (old_put_rows rs t) ≡ length t
  old_size = old_length rs t full (omega (arith, (room_fits (length t)).1))

  new_size : length after ≡ length t
  new_size = length_put_rows room 0 rs u ∙ turned.size

  fits : 16 * room ≤ length u
  fits = omega (arith, (room_fits (length t)).1, turned.size)

  row_turned : (i : ℕ) → i < room → row_at after i ≡ old_row_at (old_put_rows rs t) i
  unfolding old_row_at
  row_turned i h =
      rw new_size
      (elim (dec_le (suc i) (length rs)) [
        | yes l ↦ row_at_lem room (length u) rs u i fits full few refl l ∙ sym (old_row rs t i full l)
        | no l ↦ rows_after room rs u i full h (omega arith) ∙ old_kept l
      ])
    where
      old_kept : (suc i ≤ length rs → ⊥) → cells_from room u i 0 16 ≡ old_row_at (old_put_rows rs t) i
      old_kept l =
          ap (λ (words : ℕ). cells_from (capacity words) u i 0 16) (sym turned.size)
          ∙ turned.rows i h
          ∙ ap (take 16) (sym (old_behind rs t (16 * i) full (omega arith)))

  rows_turned : Turned after (old_put_rows rs t)
  rows_turned =
      record {
        size = new_size ∙ sym old_size;
        rows = λ i h. row_turned i (omega (arith, ap capacity old_size));
        rest =
            rw old_size
            (rows_behind room (16 * room) rs u full few (omega arith) fits
            ∙ turned.rest
            ∙ sym (old_behind rs t (16 * room) full (omega arith)));
      }

-- the table after a build, refused or not, holds in columns what the old one held in rows, and the same words behind them
pub build_before : (ws u t : List ℕ) → Turned u t → Turned (table_after ws u) (old_table_after ws t)
unfolding table_after old_table_after
build_before ws u t turned =
    let types = (built ws t).types in
    rw turned.size
    (rows_turned u t turned (map row_of types) (every_sixteen types) (omega (arith, length-map types row_of, (built_sound ws t).fits)))

-- Where questions answer as before: on two tables of the same rows, and on what one build wrote into one buffer, before and now

pub turned_rows : (n : ℕ) (u t : List ℕ) → Turned u t → SameRows n u t
turned_rows n u t turned = record { size = turned.size; rows = λ i h p. turned.rows i p }

pub built_rows : (n : ℕ) (ws t : List ℕ) → n ≤ length (built ws t).types → SameRows n (table_after ws t) (old_table_after ws t)
unfolding table_after old_table_after
built_rows n ws t le =
    let types = (built ws t).types in
    let few : 16 * length (map row_of types) ≤ length t = omega (arith, length-map types row_of, (built_sound ws t).fits, (room_fits (length t)).1) in
    record {
      size = length_put_rows (capacity (length t)) 0 (map row_of types) t ∙ sym (old_length (map row_of types) t (every_sixteen types) few);
      rows = λ i h p. row_built ws t i (omega arith) ∙ sym (old_row (map row_of types) t i (every_sixteen types) (omega (arith, length-map types row_of)));
    }

-- Every table in rows has one in columns, and one alone: so what a build leaves is the old table, turned

-- the first n rows
rows_in : ℕ → List ℕ → List (List ℕ)
rows_in zero t = []
rows_in (suc n) t = take 16 t ∷ rows_in n (drop 16 t)

rows_full : (n : ℕ) (t : List ℕ) → 16 * n ≤ length t → Full (rows_in n t)
unfolding rows_in
rows_full zero t h = tt
rows_full (suc n) t h = (length-take-le 16 t (omega arith), rows_full n (drop 16 t) (omega (arith, length-drop 16 t)))

length_rows : (n : ℕ) (t : List ℕ) → length (rows_in n t) ≡ n
unfolding rows_in
length_rows zero t = refl
length_rows (suc n) t = ap suc (length_rows n (drop 16 t))

rows_back : (n : ℕ) (t : List ℕ) → old_put_rows (rows_in n t) t ≡ t
unfolding old_put_rows rows_in
rows_back zero t = refl
rows_back (suc n) t = ap (λ (l : List ℕ). take 16 t ++ l) (rows_back n (drop 16 t)) ∙ take-append-drop 16 t

pub turned_some : (t : List ℕ) → (u : List ℕ) × Turned u t
turned_some t = (
  put_rows room 0 rs t,
  record {
    size = size;
    rows = λ i h. rw size (held i h);
    rest = rows_behind room (16 * room) rs t full (omega (arith, long)) (omega arith) fits;
  },
)
  where
    room : ℕ
    room = capacity (length t)

    rs : List (List ℕ)
    rs = rows_in room t

    size : length (put_rows room 0 rs t) ≡ length t
    size = length_put_rows room 0 rs t

    fits : 16 * room ≤ length t
    fits = (room_fits (length t)).1

    full : Full rs
    full = rows_full room t fits

    long : length rs ≡ room
    long = length_rows room t

    held : (i : ℕ) → i < room → cells_from room (put_rows room 0 rs t) i 0 16 ≡ old_row_at t i
    held i h =
        row_at_lem room (length t) rs t i fits full (omega (arith, long)) refl (omega (arith, long))
        ∙ sym (old_row rs t i full (omega (arith, long)))
        ∙ ap (λ (l : List ℕ). old_row_at l i) (rows_back room t)

cell_turned : (u t : List ℕ) → Turned u t → (i k : ℕ) → i < capacity (length t) → k < 16 → cell (capacity (length t)) u i k ≡ word (old_row_at t i) k
cell_turned u t turned i k h l =
    sym (cell_of (capacity (length t)) u i k l)
    ∙ ap (λ (words : ℕ). word (cells_from (capacity words) u i 0 16) k) (sym turned.size)
    ∙ ap (λ (r : List ℕ). word r k) (turned.rows i h)

-- a word stands in a cell, which quotient and remainder of its place name, or behind them all
turned_at : (t u v : List ℕ) → Turned u t → Turned v t → (p : ℕ) → get_or u p 0 ≡ get_or v p 0
unfolding cell place
turned_at t u v first second p = elim (dec_le (16 * room) p) [ yes h ↦ behind h | no h ↦ inside h ]
  where
    room : ℕ
    room = capacity (length t)

    behind : 16 * room ≤ p → get_or u p 0 ≡ get_or v p 0
    behind h =
        let here : p ≡ 16 * room + (p - 16 * room) = omega arith in
        let at : (l : List ℕ) → get_or l p 0 ≡ get_or (drop (16 * room) l) (p - 16 * room) 0 = λ l. ap (λ (n : ℕ). get_or l n 0) here ∙ sym (get_or-drop (16 * room) l (p - 16 * room) 0) in
        at u ∙ ap (λ (l : List ℕ). get_or l (p - 16 * room) 0) (first.rest ∙ sym second.rest) ∙ sym (at v)

    inside : (16 * room ≤ p → ⊥) → get_or u p 0 ≡ get_or v p 0
    inside h =
        let row : p % room < room = mod-lt p (omega arith) in
        let few : p / room < 16 = (div-lt_iff_lt-mul {k = room} {x = p} {y = 16} (omega arith)).1 (omega arith) in
        let at : (l : List ℕ) → get_or l p 0 ≡ get_or l (p / room * room + p % room) 0 = λ l. ap (λ (n : ℕ). get_or l n 0) (sym (div-add-mod' p room)) in
        at u ∙ cell_turned u t first (p % room) (p / room) row few ∙ sym (cell_turned v t second (p % room) (p / room) row few) ∙ sym (at v)

pub turned_one : (t u v : List ℕ) → Turned u t → Turned v t → u ≡ v
turned_one t u v first second = ext_get_or 0 u v (first.size ∙ sym second.size) (λ p h. turned_at t u v first second p)
