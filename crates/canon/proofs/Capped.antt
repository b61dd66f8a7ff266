-- A table, a buffer or a list that is longer than any call can use answers as its first words do: no cell and no offset stands beyond the word
-- 16,384, and one reference more than 16,384 is too many already. A shorter list needs no more words than it has, nor do its buffers. Nor can a build
-- use more rows than one for two words.
use mathlib.Core.Path.{◌≡◌, refl, sym, ap, ap₂, ◌∙◌, fun_ext}
use mathlib.Core.Bool.{Bool, true, false, cond, ◌||◌}
use mathlib.Core.List.{List, [], ◌∷◌, ◌++◌, map, append_assoc}
use mathlib.Core.Option.{some}
use Prim.Native.Nat.{ℕ, zero, suc, ◌+◌, ◌*◌, ◌≤◌, ◌<◌, min}
use native.Mathlib.Decide.{dec_le}
use native.Mathlib.Omega.{arith}
use lib.Dec.{ltb}
use lib.ListN.{length, take, drop, set, length-set, length-take, length-drop, length-map, take-append-drop}
use lib.Seq.{take_all, get_or-take, set-append_left}
use borrow.Author.Tests.{ltb-true, ltb-false, lt-ltb, le-ltb}
use Rattle.canon.specs.Answer.{Leaf, is, no as refuses, Answer, ok, refused, then, unless, too_long, bad_count, no_room, bad_row}
use Rattle.canon.specs.Layout.{Memory}
use Rattle.canon.specs.Row.{Info, row_of}
use Rattle.canon.specs.Table.{capacity, place, cell, cells_from, row_at, put_from, put_rows}
use Rattle.canon.specs.Description.{kind_of, Defined, define, follow, build_from, most_words, build, built, build_answer, table_after}
use Rattle.canon.specs.Question.{read, infos, too_many, no_table, ask, ask_two, layouts_in, placing, placement_answer, buffer_after}
use Rattle.canon.specs.Cost.{rows_among, reported, placement_reads}
use Rattle.canon.specs.Gaps.{Padded, padded, padding, lent_after, after_answer}
use Rattle.canon.specs.Types.{Ty}
use Rattle.canon.proofs.Tests.{neither}
use Rattle.canon.proofs.Cells.{place_fits, room_fits, rows_there, length_put_from}
use Rattle.canon.proofs.Built.{define_some, every_sixteen, built_sound}
use Rattle.canon.specs.Placement.{Every}
use Rattle.canon.proofs.Costs.{long_placement}
use Rattle.canon.proofs.Questions.{past_test, rows_alike, asked_alike}
use Rattle.canon.proofs.Gaps.{placing_of, padding_placing, padding_gaps}

-- Tests

-- a capped number is below what is at most the cap exactly when the number itself is
pub below_first : (c a b : ℕ) → b ≤ c → ltb (min c a) b ≡ ltb a b
below_first c a b h =
    elim (dec_le b a) [
      | yes l ↦ le-ltb (min c a) b (omega arith) ∙ sym (le-ltb a b l)
      | no l ↦ lt-ltb (min c a) b (omega arith) ∙ sym (lt-ltb a b (omega arith))
    ]

-- Rows

room_first : (t : List ℕ) → capacity (length (take 16384 t)) ≡ capacity (length t)
unfolding capacity
room_first t = rw (length-take 16384 t) (omega arith)

pub table_first : (t : List ℕ) (n : ℕ) → no_table (take 16384 t) n ≡ no_table t n
unfolding no_table
table_first t n = rw (room_first t)

cells_first : (t : List ℕ) (row k n : ℕ) → row < 1024 → k + n ≤ 16 → cells_from 1024 (take 16384 t) row k n ≡ cells_from 1024 t row k n
unfolding cells_from cell
cells_first t row k zero r h = refl
cells_first t row k (suc n) r h =
    ap₂ ◌∷◌ (get_or-take 16384 t (place 1024 row k) 0 (place_fits 1024 row k 16384 r (omega arith) (omega arith))) (cells_first t row (suc k) n r (omega arith))

row_first : (t : List ℕ) (row : ℕ) → row < 1024 → row_at (take 16384 t) row ≡ row_at t row
row_first t row h =
    elim (dec_le (length t) 16384) [
      | yes l ↦ ap (λ (u : List ℕ). row_at u row) (take_all 16384 t l)
      | no l ↦ let full : capacity (length t) ≡ 1024 = unfold capacity in omega arith in rw (room_first t, full) (cells_first t row 0 16 h (omega arith))
    ]

pub read_first : (t : List ℕ) (n : ℕ) → n ≤ 1024 → read (take 16384 t) n ≡ read t n
unfolding read
read_first t n h = fun_ext (λ w. rows_alike (row_at (take 16384 t)) (row_at t) n w (λ i l. row_first t i (omega arith)))

asked_first :
    {A : Type 0} (t : List ℕ) (n : ℕ) (f : (ℕ → Leaf Info) → Answer A) →
    unless (no_table (take 16384 t) n) bad_row (f (read (take 16384 t) n)) ≡ unless (no_table t n) bad_row (f (read t n))
asked_first t n f =
    asked_alike (no_table (take 16384 t) n) (no_table t n) f (table_first t n)
    (λ e. read_first t n (omega (arith, rows_there t n (sym (table_first t n) ∙ e), (room_fits (length t)).0)))

-- Questions

few_length : (ws : List ℕ) → too_many ws ≡ false → length ws ≤ 16384
few_length ws h = ltb-false most_words (length ws) h

-- so many words of a list tell what it answers: all of them, or one too many
abbrev pub Enough : ℕ → List ℕ → Type 0
Enough c ws = min 16385 (length ws) ≤ c

module _ (c : ℕ) (ws : List ℕ) (enough : Enough c ws) where
  many_first : too_many (take c ws) ≡ too_many ws
  many_first =
      elim (dec_le (length ws) 16384) [
        | yes l ↦ rw (take_all c ws (omega arith))
        | no l ↦ rw (length-take c ws) (lt-ltb most_words (min c (length ws)) (omega arith) ∙ sym (lt-ltb most_words (length ws) (omega arith)))
      ]

  list_first : too_many ws ≡ false → take c ws ≡ ws
  list_first h = take_all c ws (omega (arith, few_length ws h))

  -- the room of a buffer is asked for after the length of the list
  ask_room :
      {A : Type 0} (t : List ℕ) (n : ℕ) (b s s' : Bool) (k : List Info → Answer A) → (too_many ws ≡ false → s ≡ s') →
      ask (take 16384 t) n b s (take c ws) k ≡ ask t n b s' ws k
  unfolding ask
  ask_room t n b s s' k h =
      rw many_first
      (past_test (too_many ws) too_long
      (λ few. rw (h few, list_first few) (asked_first t n (λ look. unless b bad_count (unless s' no_room (then (infos look 0 ws) k))))))

pub ask_first :
    {A : Type 0} (t : List ℕ) (n : ℕ) (b s : Bool) (ws : List ℕ) (k : List Info → Answer A) →
    ask (take 16384 t) n b s (take 16385 ws) k ≡ ask t n b s ws k
ask_first t n b s ws k = ask_room 16385 ws (omega arith) t n b s s k (λ few. refl)

pub ask_two_first :
    {A : Type 0} (t : List ℕ) (n : ℕ) (vs ws : List ℕ) (k : List Info → List Info → Answer A) →
    ask_two (take 16384 t) n (take 16385 vs) (take 16385 ws) k ≡ ask_two t n vs ws k
unfolding ask_two
ask_two_first t n vs ws k =
    rw (many_first 16385 vs (omega arith), many_first 16385 ws (omega arith))
    (past_test (too_many vs || too_many ws) too_long
    (λ few.
    let both = neither (too_many vs) (too_many ws) few in
    rw (list_first 16385 vs (omega arith) both.0, list_first 16385 ws (omega arith) both.1)
    (asked_first t n (λ look. then (infos look 0 vs) (λ is'. then (infos look (length vs) ws) (λ js. k is' js))))))

-- A build

pub build_first : (ws t : List ℕ) → build_answer ws (take 16384 t) ≡ build_answer ws t
unfolding build_answer
build_first ws t = rw (room_first t)

-- two words at least make a definition: more room than one row for two words is never used
pub enough_room : (r s : ℕ) (ts : List Ty) (ws : List ℕ) → length ws ≤ 2 * r → length ws ≤ 2 * s → build_from r ts ws ≡ build_from s ts ws
unfolding build_from
enough_room zero zero ts ws h l = refl
enough_room zero (suc s) ts [] h l = refl
enough_room zero (suc s) ts (w ∷ ws) h l = absurd (omega arith)
enough_room (suc r) zero ts [] h l = refl
enough_room (suc r) zero ts (w ∷ ws) h l = absurd (omega arith)
enough_room (suc r) (suc s) ts [] h l = refl
enough_room (suc r) (suc s) ts (w ∷ ws) h l = go (define ts w ws) refl (λ us vs. enough_room r s us vs)
  where
    go :
        (o : Leaf Defined) → define ts w ws ≡ o →
        ((us : List Ty) (vs : List ℕ) → length vs ≤ 2 * r → length vs ≤ 2 * s → build_from r us vs ≡ build_from s us vs) →
        follow ts ws o (λ us vs. build_from r us vs) ≡ follow ts ws o (λ us vs. build_from s us vs)
    go (is d) e more =
        let n = define_some ts (kind_of w) ws d e in
        more (ts ++ d.type ∷ []) (drop d.length ws) (omega (arith, length-drop d.length ws)) (omega (arith, length-drop d.length ws))
    go (refuses x) e more = refl

-- so a table with room for n rows, if there are so many, builds 2 * n words as the whole one does
pub built_enough :
    (n : ℕ) (ws u t : List ℕ) → length ws ≤ 2 * n → capacity (length u) ≡ min n (capacity (length t)) → built ws u ≡ built ws t
unfolding build
built_enough n ws u t h e =
    ap (cond (ltb most_words (length ws)) (record { types = []; stopped = some too_long }))
    (ap (λ (r : ℕ). build_from r [] ws) e ∙ enough)
  where
    enough : build_from (min n (capacity (length t))) [] ws ≡ build_from (capacity (length t)) [] ws
    enough =
        elim (dec_le n (capacity (length t))) [
          | yes l ↦ enough_room (min n (capacity (length t))) (capacity (length t)) [] ws (omega arith) (omega arith)
          | no l ↦ let q : min n (capacity (length t)) ≡ capacity (length t) = omega arith in ap (λ (r : ℕ). build_from r [] ws) q
        ]

-- stores into the front of a buffer leave what is behind it

put_front :
    (room row k : ℕ) (ws t u : List ℕ) → row < room → 16 * room ≤ length t → k + length ws ≤ 16 →
    put_from room row k ws t ++ u ≡ put_from room row k ws (t ++ u)
unfolding put_from
put_front room row k [] t u r fits h = refl
put_front room row k (w ∷ ws) t u r fits h =
    put_front room row (suc k) ws (set t (place room row k) w) u r (rw (length-set t (place room row k) w) fits) (omega arith)
    ∙ ap (put_from room row (suc k) ws) (sym (set-append_left t u (place room row k) w (place_fits room row k (length t) r (omega arith) fits)))

pub rows_front :
    (room i : ℕ) (rs : List (List ℕ)) (t u : List ℕ) → Every (λ r. length r ≡ 16) rs → i + length rs ≤ room → 16 * room ≤ length t →
    put_rows room i rs t ++ u ≡ put_rows room i rs (t ++ u)
unfolding put_rows
rows_front room i [] t u full h fits = refl
rows_front room i (r ∷ rs) t u full h fits =
    rows_front room (suc i) rs (put_from room i 0 r t) u full.1 (omega arith) (rw (length_put_from room i 0 r t) fits)
    ∙ ap (put_rows room (suc i) rs) (put_front room i 0 r t u (omega arith) fits (omega (arith, full.0)))

pub table_after_first : (ws t : List ℕ) → table_after ws (take 16384 t) ++ drop 16384 t ≡ table_after ws t
unfolding table_after
table_after_first ws t =
    let types = (built ws t).types in
    let fits = rw (room_first t) at (room_fits (length (take 16384 t))).1 in
    rw (room_first t)
    (rows_front (capacity (length t)) 0 (map row_of types) (take 16384 t) (drop 16384 t) (every_sixteen types) (omega (arith, length-map types row_of, (built_sound ws t).fits)) fits
    ∙ ap (put_rows (capacity (length t)) 0 (map row_of types)) (take-append-drop 16384 t))

-- A placement

behind_first : {A : Type 0} (n c : ℕ) (l : List A) → n ≤ c → drop n (take c l) ++ drop c l ≡ drop n l
behind_first zero c l h = take-append-drop c l
behind_first (suc n) zero l h = absurd (omega arith)
behind_first (suc n) (suc c) [] h = refl
behind_first (suc n) (suc c) (x ∷ l) h = behind_first n c l (omega arith)

-- a buffer whose first c words have room for what is written
pub buffer_front :
    {A : Type 0} (words : A → List ℕ) (c : ℕ) (a : Answer A) (out : List ℕ) → ((p : A) → a ≡ ok p → length (words p) ≤ c) →
    buffer_after words a (take c out) ++ drop c out ≡ buffer_after words a out
unfolding buffer_after
buffer_front words c (ok p) out few =
    append_assoc (words p) (drop (length (words p)) (take c out)) (drop c out)
    ∙ ap (λ (l : List ℕ). words p ++ l) (behind_first (length (words p)) c out (few p refl))
buffer_front words c (refused x i) out few = take-append-drop c out

-- as many words of either buffer are enough too
module _ (c : ℕ) (ws : List ℕ) (enough : Enough c ws) (m : Memory) (t : List ℕ) (n : ℕ) (room : ℕ) where
  pub padding_first : padding m (take 16384 t) n (take c ws) (min c room) ≡ padding m t n ws room
  unfolding padding
  padding_first =
      ask_room c ws enough t n false (ltb (min c room) (length (take c ws))) (ltb room (length ws)) (λ is'. padded (layouts_in m is'))
      (λ few. rw (list_first c ws enough few) (below_first c room (length ws) (omega (arith, few_length ws few))))

  placing_first : placing m (take 16384 t) n (take c ws) (min c room) ≡ placing m t n ws room
  placing_first = sym (padding_placing m (take 16384 t) n (take c ws) (min c room)) ∙ ap placing_of padding_first ∙ padding_placing m t n ws room

  pub placement_first : placement_answer m (take 16384 t) n (take c ws) (min c room) ≡ placement_answer m t n ws room
  unfolding placement_answer
  placement_first = rw placing_first

  pub placement_reads_first : placement_reads m (take 16384 t) n (take c ws) (min c room) ≡ placement_reads m t n ws room
  unfolding placement_reads
  placement_reads_first = rw placement_first (go (too_many ws) refl)
    where
      go : (many : Bool) → too_many ws ≡ many → reported (placement_answer m t n ws room) (rows_among (take c ws)) ≡ reported (placement_answer m t n ws room) (rows_among ws)
      go true e = rw (long_placement m t n ws room (ltb-true most_words (length ws) e))
      go false e = ap (λ (vs : List ℕ). reported (placement_answer m t n ws room) (rows_among vs)) (list_first c ws enough e)

  pub after_first : after_answer m (take 16384 t) n (take c ws) (min c room) ≡ after_answer m t n ws room
  unfolding after_answer
  after_first = rw padding_first

  -- a word for each reference is put into a buffer and no more
  pub lent_first :
      (words : Padded → List ℕ) (out : List ℕ) → ((q : Padded) → padding m t n ws room ≡ ok q → length (words q) ≡ length ws) →
      lent_after words m (take 16384 t) n (take c ws) (min c room) (take c out) ++ drop c out ≡ lent_after words m t n ws room out
  lent_first words out counted =
      rw padding_first
      (buffer_front words c (padding m t n ws room) out
      (λ q e. omega (arith, few_length ws (padding_gaps m t n ws room q e).1.few, counted q e)))
