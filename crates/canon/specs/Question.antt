-- Questions put to a table (01): reading a reference, type, size and alignment, placement, borrow.
use Rattle.std.specs.Prelude.{Bool, false, cond, ◌||◌, List, [], ◌∷◌, ◌++◌, map, ℕ, suc, ◌-◌, leb, ltb, length, drop}
use Rattle.std.proofs.Math.Option.{Option, none, some}
use Rattle.std.proofs.Math.ListN.{get_elem?}
use Rattle.canon.specs.Types.{Ty, plain}
use Rattle.canon.specs.Layout.{Memory, Layout, round_up, end_after, starts, record_layout, record_size, largest_number}
use Rattle.canon.specs.Row.{Info, info_layout, info_of, row_info, is_good}
use Rattle.canon.specs.Table.{capacity, row_at}
use Rattle.canon.specs.Description.{most_words}
use Rattle.canon.specs.Answer.{Leaf, is, no, Answer, ok, refused, at_position, then, unless, too_long, bad_ref, bad_count, too_large, no_room, bad_row}

-- what a word below 64 stands for
unfoldable pub plain_info : Option Ty → Leaf Info
plain_info none = no bad_ref
plain_info (some t) = is (info_of t)

-- refusal 8: "a row or info read is not well formed"
unfoldable pub read_row : List ℕ → Leaf Info
read_row r = cond (is_good r) (is (row_info r)) (no bad_row)

-- what one reference gives among n rows, of which `row` gives each: "BadRef before BadRow"
abbrev pub reading : (ℕ → List ℕ) → ℕ → ℕ → Leaf Info
reading row n w = cond (leb 64 w) (cond (ltb (w - 64) n) (read_row (row (w - 64))) (no bad_ref)) (plain_info (get_elem? plain w))

-- what it gives in a table t of n rows
unfoldable pub read : List ℕ → ℕ → ℕ → Leaf Info
read t n w = reading (row_at t) n w

-- "each reference in order", the first at position p; look is what one reference gives
unfoldable pub infos : (ℕ → Leaf Info) → ℕ → List ℕ → Answer (List Info)
infos look p [] = ok []
infos look p (w ∷ ws) = then (at_position p (look w)) (λ i. then (infos look (suc p) ws) (λ is'. ok (i ∷ is')))

-- the tests before the references

-- refusal 1: "more than 16,384 words or references"
abbrev pub too_many : List ℕ → Bool
too_many ws = ltb most_words (length ws)

-- refusal 8: "n above the capacity"
unfoldable pub no_table : List ℕ → ℕ → Bool
no_table t n = ltb (capacity (length t)) n

-- a question on one list: "TooLong, n, maximum, NoRoom, then each reference"; missing is whether n is refused
abbrev pub asking : {A : Type 0} → Bool → (ℕ → Leaf Info) → Bool → Bool → List ℕ → (List Info → Answer A) → Answer A
asking missing look bad_maximum short ws k =
    unless (too_many ws) too_long
    (unless missing bad_row
    (unless bad_maximum bad_count
    (unless short no_room
    (then (infos look 0 ws) k))))

-- put to a table t of n rows
unfoldable pub ask : {A : Type 0} → List ℕ → ℕ → Bool → Bool → List ℕ → (List Info → Answer A) → Answer A
ask t n bad_maximum short ws k = asking (no_table t n) (read t n) bad_maximum short ws k

-- "Two lists are tested in the order named, TooLong of both first, and positions count on from one into the other"
abbrev pub asking_two : {A : Type 0} → Bool → (ℕ → Leaf Info) → List ℕ → List ℕ → (List Info → List Info → Answer A) → Answer A
asking_two missing look vs ws k =
    unless (too_many vs || too_many ws) too_long
    (unless missing bad_row
    (then (infos look 0 vs) (λ is'. then (infos look (length vs) ws) (λ js. k is' js))))

-- put to a table t of n rows
unfoldable pub ask_two : {A : Type 0} → List ℕ → ℕ → List ℕ → List ℕ → (List Info → List Info → Answer A) → Answer A
ask_two t n vs ws k = asking_two (no_table t n) (read t n) vs ws k

-- "Type: the five numbers of `CanonicalAbiInfo`, flat words, borrow and depth of one reference"
unfoldable pub type_answer : List ℕ → ℕ → ℕ → Answer Info
type_answer t n w = unless (no_table t n) bad_row (at_position 0 (read t n w))

-- signature.rs, size_align
unfoldable pub size_align_answer : Memory → List ℕ → ℕ → ℕ → Answer Layout
size_align_answer m t n w = then (type_answer t n w) (λ i. ok (info_layout m i))

-- Placement

-- "TooLarge names the first member whose start or end passes, 0 if only the size does"; none where all fits. The first member here
-- has the position p and comes after an end e
unfoldable pub first_over : ℕ → ℕ → List Layout → Option ℕ
first_over p e [] = none
first_over p e (f ∷ fs) =
    cond (ltb largest_number (round_up e f.align) || ltb largest_number (end_after e f)) (some p) (first_over (suc p) (end_after e f) fs)

unfoldable pub or_size : Option ℕ → ℕ → Option ℕ
or_size (some p) size = some p
or_size none size = cond (ltb largest_number size) (some 0) none

unfoldable pub refused_at : List Layout → Option ℕ
refused_at fs = or_size (first_over 0 0 fs) (record_size fs)

-- "one offset per reference", "answers size and alignment"
pub record Placing : Type 0 where
  pub layout : Layout
  pub offsets : List ℕ

unfoldable pub judged : Option ℕ → Placing → Answer Placing
judged none p = ok p
judged (some i) p = refused too_large i

unfoldable pub placed : List Layout → Answer Placing
placed fs = judged (refused_at fs) (record { layout = record_layout fs; offsets = starts 0 fs })

abbrev pub layouts_in : Memory → List Info → List Layout
layouts_in m is' = map (info_layout m) is'

-- of references into lent buffers of which the shorter has `room` words
unfoldable pub placing : Memory → List ℕ → ℕ → List ℕ → ℕ → Answer Placing
placing m t n ws room = ask t n false (ltb room (length ws)) ws (λ is'. placed (layouts_in m is'))

unfoldable pub placement_answer : Memory → List ℕ → ℕ → List ℕ → ℕ → Answer Layout
placement_answer m t n ws room = then (placing m t n ws room) (λ p. ok p.layout)

-- a lent buffer afterwards, of an answer that gives it these words: "later words kept", and a refusal "writes nothing"
unfoldable pub buffer_after : {A : Type 0} → (A → List ℕ) → Answer A → List ℕ → List ℕ
buffer_after words (ok p) out = words p ++ drop (length (words p)) out
buffer_after words (refused x p) out = out

unfoldable pub offsets_after : Memory → List ℕ → ℕ → List ℕ → ℕ → List ℕ → List ℕ
offsets_after m t n ws room out = buffer_after (λ (p : Placing). p.offsets) (placing m t n ws room) out

-- `contains_borrow_resource`: "yes when any parameter reference reaches a Borrow"
unfoldable pub any_borrow : List Info → Bool
any_borrow [] = false
any_borrow (i ∷ is') = i.reach.borrow || any_borrow is'

unfoldable pub borrow_answer : List ℕ → ℕ → List ℕ → Answer Bool
borrow_answer t n ws = ask t n false false ws (λ is'. ok (any_borrow is'))
