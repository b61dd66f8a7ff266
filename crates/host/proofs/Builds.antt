-- Builds over bytes. A table longer than any build can use is left as its first bytes are, and the rest stays. The rows of a local table, given
-- back, make what a build in the lent table itself makes.
use mathlib.Core.Path.{◌≡◌, refl, sym, ap, ◌∙◌}
use mathlib.Core.Bool.{Bool, true, false, cond}
use mathlib.Core.List.{List, [], ◌++◌, map}
use Prim.Native.Nat.{ℕ, zero, suc, ◌*◌, ◌/◌, ◌%◌, ◌≤◌, ◌<◌, min}
use native.Mathlib.Nat.{zero-add}
use native.Mathlib.Omega.{arith}
use lib.ListN.{length, get_or, take, drop, length-take, length-map, take-append-drop}
use lib.Seq.{take-suc, take_all, length-take-le}
use borrow.Author.Tests.{le-ltb}
use Rattle.build.specs.Means.{accepted}
use Rattle.build.proofs.Accepts.{accepted_types}
use Rattle.canon.specs.Answer.{Answer, unless, too_long, truncated}
use Rattle.canon.specs.Description.{Built, answered, built, build_answer, table_after}
use Rattle.canon.specs.Cost.{rows_read, reported, build_reads}
use Rattle.canon.specs.Placement.{Every}
use Rattle.canon.specs.Row.{row_of}
use Rattle.canon.specs.Table.{capacity, put_from, put_rows}
use Rattle.canon.proofs.Built.{every_sixteen, built_sound}
use Rattle.canon.proofs.Capped.{build_first, built_enough}
use Rattle.canon.proofs.Cells.{room_fits, length_put_rows, put_rows_snoc, row_at_lem}
use Rattle.table.specs.Rows.{row_in, table_with}
use Rattle.table.proofs.Giving.{given_below}
use Rattle.table.proofs.Putting.{length_with}
use Rattle.table.proofs.Reading.{row_there, put_there}
use Rattle.words.specs.Words.{whole_words, put_words}
use Rattle.words.proofs.Laws.{length_whole, whole_take, whole_small, put_all, puts_front, puts_over}
use Rattle.host.specs.Bytes.{too_many_bytes, cut_bytes, build_bytes, reads_of_bytes, table_bytes}
use Rattle.host.specs.Local.{with_rows}
use Rattle.host.specs.Numbers.{build_number, build_call}
use Rattle.host.proofs.Decoded.{table_put}

-- A description of whole words, not too many of them
pub whole_build :
    (w t : List ℕ) {r : ℕ} {l : List ℕ} → length w ≤ 65536 → length w % 4 ≤ 0 →
    (r ≡ build_call (whole_words w) (whole_words t)) × (l ≡ put_words 0 (table_after (whole_words w) (whole_words t)) t) →
    (r ≡ build_number (build_bytes w t) (reads_of_bytes w t)) × (l ≡ table_bytes w t)
unfolding build_bytes reads_of_bytes table_bytes build_reads unless
whole_build w t few whole h = rw (le-ltb 65536 (length w) few, le-ltb 0 (length w % 4) whole) h

-- The first 65,536 bytes of a table

pub first_answer : (w t : List ℕ) → build_bytes w (take 65536 t) ≡ build_bytes w t
unfolding build_bytes
first_answer w t =
    ap (λ (a : Answer ℕ). unless (too_many_bytes w) too_long (unless (cut_bytes w) truncated a))
    (ap (build_answer (whole_words w)) (whole_take 16384 t) ∙ build_first (whole_words w) (whole_words t))

pub first_reads : (w t : List ℕ) → reads_of_bytes w (take 65536 t) ≡ reads_of_bytes w t
unfolding reads_of_bytes
first_reads w t = ap (λ (a : Answer ℕ). reported a (rows_read (whole_words w))) (first_answer w t)

pub first_table : (w t : List ℕ) → ((i : ℕ) → get_or t i 0 < 256) → table_bytes w (take 65536 t) ++ drop 65536 t ≡ table_bytes w t
unfolding table_bytes
first_table w t bytes = go (too_many_bytes w) (cut_bytes w)
  where
    front : List ℕ
    front = take 65536 t

    after : List ℕ
    after = table_after (whole_words w) (whole_words front)

    same : after ≡ table_after (whole_words w) (take 16384 (whole_words t))
    same = ap (table_after (whole_words w)) (whole_take 16384 t)

    long : length after ≡ length (take 16384 (whole_words t))
    long = unfold table_after in length_put_rows _ 0 _ (whole_words front) ∙ ap length (whole_take 16384 t)

    put : put_words 0 after front ++ drop 65536 t ≡ put_words 0 (table_after (whole_words w) (whole_words t)) t
    put =
        let n = length-take 16384 (whole_words t) in
        sym (puts_front 0 after front (drop 65536 t) (omega (arith, long, n, length_whole t, length-take 65536 t)))
        ∙ ap (put_words 0 after) (take-append-drop 65536 t)
        ∙ ap (λ (ws : List ℕ). put_words 0 ws t) (sym (take_all (length t / 4) after (omega (arith, long, n, length_whole t))))
        ∙ table_put after t bytes (whole_words w) long same

    go : (a b : Bool) → cond a front (cond b front (put_words 0 after front)) ++ drop 65536 t ≡ cond a t (cond b t (put_words 0 (table_after (whole_words w) (whole_words t)) t))
    go true b = take-append-drop 65536 t
    go false true = take-append-drop 65536 t
    go false false = put

-- Rows of a local table

length_rows : (t : List ℕ) (n : ℕ) (u : List ℕ) → length (with_rows t n u) ≡ length u
unfolding with_rows
length_rows t zero u = refl
length_rows t (suc n) u = length_with (with_rows t n u) n (row_in t n) ∙ length_rows t n u

module _ (t b : List ℕ) (small : (i : ℕ) → get_or t i 0 < 4294967296) (bytes : (i : ℕ) → get_or b i 0 < 256) where
  rows_small : (n i : ℕ) → get_or (with_rows t n (whole_words b)) i 0 < 4294967296
  unfolding with_rows
  rows_small zero = whole_small b bytes
  rows_small (suc n) = given_below 4294967296 t (with_rows t n (whole_words b)) n small (rows_small n)

  pub rows_turn :
      (i i' : ℕ) (c c' : List ℕ) → i' ≡ suc i → c ≡ put_words 0 (with_rows t i (whole_words b)) b → c' ≡ put_words 0 (table_with (whole_words c) i (row_in t i)) c →
      c' ≡ put_words 0 (with_rows t i' (whole_words b)) b
  unfolding with_rows
  rows_turn i i' c c' n e f =
      f
      ∙ ap (λ (x : List ℕ). put_words 0 (table_with (whole_words x) i (row_in t i)) x) e
      ∙ ap (λ (v : List ℕ). put_words 0 (table_with v i (row_in t i)) (put_words 0 u b)) (put_all u b (rows_small i) long)
      ∙ puts_over (table_with u i (row_in t i)) u b bytes long (length_with u i (row_in t i) ∙ long)
      ∙ ap (λ (k : ℕ). put_words 0 (with_rows t k (whole_words b)) b) (sym n)
    where
      u : List ℕ
      u = with_rows t i (whole_words b)

      long : length u ≡ length b / 4
      long = length_rows t i (whole_words b) ∙ length_whole b

-- rows that were written are given

rows_given :
    (rs : List (List ℕ)) (t u : List ℕ) → Every (λ r. length r ≡ 16) rs → length rs ≤ capacity (length t) → length rs ≤ capacity (length u) →
    (n : ℕ) → n ≤ length rs → with_rows (put_rows (capacity (length t)) 0 rs t) n u ≡ put_rows (capacity (length u)) 0 (take n rs) u
unfolding with_rows put_rows
rows_given rs t u full h l zero m = refl
rows_given rs t u full h l (suc n) m = more (rows_given rs t u full h l n (omega arith))
  where
    after : List ℕ
    after = put_rows (capacity (length t)) 0 rs t

    given : List ℕ
    given = put_rows (capacity (length u)) 0 (take n rs) u

    row : row_in after n ≡ get_or rs n []
    row =
        row_there after (capacity (length t)) n (ap capacity (sym (length_put_rows (capacity (length t)) 0 rs t))) (omega arith)
        ∙ row_at_lem (capacity (length t)) (length t) rs t n (room_fits (length t)).1 full h refl (omega arith)

    more : with_rows after n u ≡ given → table_with (with_rows after n u) n (row_in after n) ≡ put_rows (capacity (length u)) 0 (take (suc n) rs) u
    more e =
        ap (λ (v : List ℕ). table_with v n (row_in after n)) e
        ∙ put_there given (capacity (length u)) n (ap capacity (sym (length_put_rows (capacity (length u)) 0 (take n rs) u))) (row_in after n) (omega arith)
        ∙ ap (λ (r : List ℕ). put_from (capacity (length u)) n 0 r given) row
        ∙ ap (λ (k : ℕ). put_from (capacity (length u)) k 0 (get_or rs n []) given) (sym (zero-add (length (take n rs)) ∙ length-take-le n rs (omega arith)))
        ∙ sym (put_rows_snoc (capacity (length u)) 0 (take n rs) (get_or rs n []) u)
        ∙ ap (λ (xs : List (List ℕ)). put_rows (capacity (length u)) 0 xs u) (sym (take-suc rs n [] (omega arith)))

-- the room of the first words of a local table
pub local_room : (r n : ℕ) (l : List ℕ) → r ≡ 16 * min 32 (capacity n) → length l ≡ 512 → capacity (length (take r l)) ≡ min 32 (capacity n)
unfolding capacity
local_room r n l e f = rw (length-take r l) (omega arith)

-- A build of at most 64 words

module _ (ws t b : List ℕ) (short : length ws ≤ 64) (fits : capacity (length t) ≡ min 32 (capacity (length b / 4))) where
  room : capacity (length t) ≡ min 32 (capacity (length (whole_words b)))
  room = fits ∙ ap (λ (n : ℕ). min 32 (capacity n)) (sym (length_whole b))

  same : built ws t ≡ built ws (whole_words b)
  same = built_enough 32 ws t (whole_words b) (omega arith) room

  pub local_answer : build_answer ws t ≡ build_answer ws (whole_words b)
  unfolding build_answer
  local_answer = ap (λ (x : Built). answered (length x.types) x.stopped) same

  pub local_reads : build_reads ws t ≡ build_reads ws (whole_words b)
  unfolding build_reads
  local_reads = ap (λ (a : Answer ℕ). reported a (rows_read ws)) local_answer

  pub local_rows : with_rows (table_after ws t) (accepted (build_answer ws t)) (whole_words b) ≡ table_after ws (whole_words b)
  unfolding table_after
  local_rows =
      let types = (built ws t).types in
      let rs = map row_of types in
      let few : length rs ≤ capacity (length t) = omega (arith, length-map types row_of, (built_sound ws t).fits) in
      ap (λ (n : ℕ). with_rows (put_rows (capacity (length t)) 0 rs t) n (whole_words b)) (accepted_types ws t)
      ∙ rows_given rs t (whole_words b) (every_sixteen types) few (omega (arith, room)) (length types) (omega (arith, length-map types row_of))
      ∙ ap (λ (xs : List (List ℕ)). put_rows (capacity (length (whole_words b))) 0 xs (whole_words b)) (take_all (length types) rs (omega (arith, length-map types row_of)))
      ∙ ap (λ (x : Built). put_rows (capacity (length (whole_words b))) 0 (map row_of x.types) (whole_words b)) same
