-- Questions: what is read has the standard's alignments; a placement question is refused as too large exactly when its memory admits no
-- placement; appending references moves no offset before them; on a table that a build wrote every question answers for the types themselves,
-- and what a placement accepts for 64 it accepts for 32.
use mathlib.Core.Path.{◌≡◌, refl, sym, ap, ◌∙◌}
use mathlib.Core.Logic.{◌↔◌}
use mathlib.Core.Bool.{Bool, true, false, cond, ◌||◌, ◌&&◌}
use mathlib.Core.List.Forall₂.{cons as pair}
use mathlib.Core.List.Forall₂.{nil as empty}
use mathlib.Core.List.{List, [], ◌∷◌, ◌++◌, map, map-append, Forall₂}
use mathlib.Core.Option.{Option, none, some}
use Prim.Native.Nat.{ℕ, suc, ◌+◌, ◌-◌, ◌≤◌, ◌<◌}
use native.Mathlib.Decide.{dec_le}
use native.Mathlib.Omega.{arith}
use lib.Dec.{leb, ltb}
use lib.ListN.{length, take, drop, get_elem?, length-map}
use lib.Seq.{take_at}
use borrow.Author.Tests.{ltb-true, ltb-false, leb-false, le-ltb}
use Rattle.canon.specs.Answer.{Leaf, is, no as refuses, Answer, ok, refused, at_position, then, unless, map_option2, map_option, too_long, bad_ref, too_large, no_room, bad_row}
use Rattle.canon.specs.Types.{Ty, Core, plain}
use Rattle.canon.specs.Layout.{Memory, mem32, mem64, Layout, within, round_up, end_after, starts, last_end, record_size, record_layout, layout, largest_number}
use Rattle.canon.specs.Flat.{flatten, flat_count}
use Rattle.canon.specs.Reach.{good_reach, reach}
use Rattle.canon.specs.Row.{Info, info_layout, info_of, row_abi, row_info, row_of, word, unused_zero, good_abi, is_discriminant, is_good}
use Rattle.canon.specs.Table.{capacity, row_at}
use Rattle.canon.specs.Description.{reference, most_words, built, table_after}
use Rattle.canon.specs.Question.{plain_info, read_row, reading, read, infos, too_many, no_table, ask, ask_two, type_answer, first_over, or_size, refused_at, layouts_in, Placing, judged, placed, placing, buffer_after, offsets_after, any_borrow}
use Rattle.canon.specs.Signature.{flat_all}
use Rattle.canon.proofs.Tests.{impossible, both_true}
use Rattle.canon.proofs.Tightest.{Aligned}
use Rattle.canon.proofs.Alignments.{layout_aligned}
use Rattle.canon.proofs.Wider.{◌≼◌, both_aligned, starts_wider, record_wider, layout_wider, starts_append}
use Rattle.canon.proofs.Refusals.{Tightest, placed_fits, placed_large, placed_six, placed_is, placed_tightest}
use Rattle.canon.proofs.Cells.{rows_most, length_put_rows}
use Rattle.canon.proofs.Rows.{flat_back}
use Rattle.canon.proofs.Built.{type_info, built_sound, reads_built}
use Rattle.canon.proofs.Rounding.{Alignment, abi_tested}
use Rattle.canon.specs.Placement.{NoPlacement, NoneLater}

-- Two tables

-- two answers behind one test agree where they agree when it is passed
pub past_test : {A : Type 0} (b : Bool) (x : ℕ) {u v : Answer A} → (b ≡ false → u ≡ v) → unless b x u ≡ unless b x v
unfolding unless
past_test true x h = refl
past_test false x h = h refl

-- a reference gives the same in two tables whose first n rows, f and g, are the same
pub rows_alike : (f g : ℕ → List ℕ) (n w : ℕ) → ((i : ℕ) → i < n → f i ≡ g i) → reading f n w ≡ reading g n w
rows_alike f g n w h = ap (λ (row : Leaf Info). cond (leb 64 w) row (plain_info (get_elem? plain w))) (go (ltb (w - 64) n) refl)
  where
    go : (b : Bool) → ltb (w - 64) n ≡ b → cond b (read_row (f (w - 64))) (refuses bad_ref) ≡ cond b (read_row (g (w - 64))) (refuses bad_ref)
    go true e = ap read_row (h (w - 64) (ltb-true (w - 64) n e))
    go false e = refl

-- whatever is asked behind the test of a table is the same of two, where the tests agree and, once passed, what is read
pub asked_alike :
    {A : Type 0} (b c : Bool) {look look' : ℕ → Leaf Info} (f : (ℕ → Leaf Info) → Answer A) → b ≡ c → (b ≡ false → look ≡ look') →
    unless b bad_row (f look) ≡ unless c bad_row (f look')
asked_alike b c {look' = look'} f e h = past_test b bad_row (λ p. ap f (h p)) ∙ ap (λ (d : Bool). unless d bad_row (f look')) e

-- What is read is aligned

-- what holds of every type's info and of every good row's info holds of what is read
pub read_has :
    (P : Info → Type 0) → ((t : Ty) → P (info_of t)) → ((r : List ℕ) → is_good r ≡ true → P (row_info r)) →
    (t : List ℕ) (n w : ℕ) (i : Info) → read t n w ≡ is i → P i
unfolding read read_row plain_info
read_has P typed rowed t n w i h = go (leb 64 w) (ltb (w - 64) n) (is_good (row_at t (w - 64))) refl (get_elem? plain w) h
  where
    go :
        (b c g : Bool) → is_good (row_at t (w - 64)) ≡ g → (o : Option Ty) →
        cond b (cond c (cond g (is (row_info (row_at t (w - 64)))) (refuses 8)) (refuses bad_ref)) (plain_info o) ≡ is i → P i
    go true true true good o e = let p : row_info (row_at t (w - 64)) ≡ i = cc in rw (← p) (rowed (row_at t (w - 64)) good)
    go true true false good o e = impossible (cc)
    go true false g good o e = impossible (cc)
    go false c g good none e = impossible (cc)
    go false c g good (some u) e = let p : info_of u ≡ i = cc in rw (← p) (typed u)

info_aligned : (m : Memory) (u : Ty) → Alignment (within m (info_of u).abi.layouts).align
info_aligned mem32 u = layout_aligned mem32 u
info_aligned mem64 u = layout_aligned mem64 u

module _ (r : List ℕ) (good : is_good r ≡ true) where
  after_kind : good_abi (row_abi r) && (unused_zero (row_abi r).flats (word r 6) && (unused_zero (row_abi r).flats (word r 7) && (is_discriminant (word r 8) && good_reach (word r 15)))) ≡ true
  unfolding is_good
  after_kind = (both_true (leb (word r 0) 10) _ (both_true (leb 1 (word r 0)) _ good).1).1

  pub row_tested : good_abi (row_abi r) ≡ true
  row_tested = (both_true (good_abi (row_abi r)) _ after_kind).0

  pub after_abi : unused_zero (row_abi r).flats (word r 6) && (unused_zero (row_abi r).flats (word r 7) && (is_discriminant (word r 8) && good_reach (word r 15))) ≡ true
  after_abi = (both_true (good_abi (row_abi r)) _ after_kind).1

pub read_aligned : (m : Memory) (t : List ℕ) (n w : ℕ) (i : Info) → read t n w ≡ is i → Alignment (within m i.abi.layouts).align
read_aligned m =
    read_has (λ i. Alignment (within m i.abi.layouts).align) (info_aligned m) (λ r good. abi_tested (row_abi r) (row_tested r good) m)

-- a reference that gives something is below 1088: 64, and a row for each of 1,024
pub read_below : (t : List ℕ) (n w : ℕ) (i : Info) → no_table t n ≡ false → read t n w ≡ is i → w < 1088
unfolding read
read_below t n w i e h = go (leb 64 w) (ltb (w - 64) n) refl refl h
  where
    go :
        (b c : Bool) → leb 64 w ≡ b → ltb (w - 64) n ≡ c →
        cond b (cond c (read_row (row_at t (w - 64))) (refuses bad_ref)) (plain_info (get_elem? plain w)) ≡ is i → w < 1088
    go true true p q h = omega (arith, ltb-true (w - 64) n q, rows_most t n e)
    go true false p q h = impossible (cc)
    go false c p q h = omega (arith, leb-false 64 w p)

-- answers that go on

pub then_then : {A B C : Type 0} (a : Answer A) (k : A → Answer B) (l : B → Answer C) → then (then a k) l ≡ then a (λ x. then (k x) l)
unfolding then
then_then (ok a) k l = refl
then_then (refused x p) k l = refl

pub then_ext : {A B : Type 0} (a : Answer A) (k l : A → Answer B) → ((x : A) → k x ≡ l x) → then a k ≡ then a l
unfolding then
then_ext (ok a) k l e = e a
then_ext (refused x p) k l e = refl

pub then_refused : {A B : Type 0} (f : A → B) (a : Answer A) (x i : ℕ) → then a (λ y. ok (f y)) ≡ refused x i → a ≡ refused x i
unfolding then
then_refused f (ok y) x i e = impossible (cc)
then_refused f (refused y j) x i e = cc

-- the infos of a list, one after another
pub first_ok :
    (p : ℕ) (l : Leaf Info) (a : Answer (List Info)) (is' : List Info) →
    then (at_position p l) (λ i. then a (λ js. ok (i ∷ js))) ≡ ok is' →
    (i : Info) × (js : List Info) × (l ≡ is i) × (a ≡ ok js) × (is' ≡ i ∷ js)
unfolding then at_position
first_ok p (refuses x) a is' e = impossible (cc)
first_ok p (is i) (refused x q) is' e = impossible (cc)
first_ok p (is i) (ok js) is' e = (i, js, refl, refl, cc)

-- what holds of no infos, and of one more that is looked up, holds of the list
infos_keep :
    (P : List Info → Type 0) (look : ℕ → Leaf Info) → P [] → ((w : ℕ) (i : Info) (js : List Info) → look w ≡ is i → P js → P (i ∷ js)) →
    (p : ℕ) (ws : List ℕ) (is' : List Info) → infos look p ws ≡ ok is' → P is'
unfolding infos
infos_keep P look first more p [] is' e = let q : [] ≡ is' = cc in rw (← q) first
infos_keep P look first more p (w ∷ ws) is' e =
    let r = first_ok p (look w) (infos look (suc p) ws) is' e in
    rw r.4 (more w r.0 r.1 r.2 (infos_keep P look first more (suc p) ws r.1 r.3))

pub infos_aligned : (m : Memory) (t : List ℕ) (n p : ℕ) (ws : List ℕ) (is' : List Info) → infos (read t n) p ws ≡ ok is' → Aligned (layouts_in m is')
infos_aligned m t n = infos_keep (λ js. Aligned (layouts_in m js)) (read t n) tt (λ w i js e v. (read_aligned m t n w i e, v))

-- as many infos as references
pub infos_length : (look : ℕ → Leaf Info) (p : ℕ) (ws : List ℕ) (is' : List Info) → infos look p ws ≡ ok is' → length is' ≡ length ws
unfolding infos
infos_length look p [] is' e = let q : [] ≡ is' = cc in rw (← q)
infos_length look p (w ∷ ws) is' e =
    let r = first_ok p (look w) (infos look (suc p) ws) is' e in
    rw r.4 (ap suc (infos_length look (suc p) ws r.1 r.3))

-- A placement question that passes every earlier check, and reads these infos
pub record Reads (t : List ℕ) (n : ℕ) (ws : List ℕ) (room : ℕ) (is' : List Info) : Type 0 where
  pub few : too_many ws ≡ false
  pub table : no_table t n ≡ false
  pub fits : length ws ≤ room
  pub gives : infos (read t n) 0 ws ≡ ok is'

pub placing_reads : {t : List ℕ} {n : ℕ} {ws : List ℕ} {room : ℕ} {is' : List Info} (m : Memory) → Reads t n ws room is' → placing m t n ws room ≡ placed (layouts_in m is')
unfolding placing ask unless then
placing_reads {ws = ws} {room = room} m r = rw (r.few, r.table, le-ltb room (length ws) r.fits, r.gives)

-- a refusal's position is no more than the number of references, so no more than 16,384

over_within : (p e : ℕ) (fs : List Layout) (i : ℕ) → first_over p e fs ≡ some i → i ≤ p + length fs
unfolding first_over
over_within p e [] i h = impossible (cc)
over_within p e (f ∷ fs) i h = go (ltb largest_number (round_up e f.align) || ltb largest_number (end_after e f)) h (over_within (suc p) (end_after e f) fs i)
  where
    go : (b : Bool) → cond b (some p) (first_over (suc p) (end_after e f) fs) ≡ some i → (first_over (suc p) (end_after e f) fs ≡ some i → i ≤ suc p + length fs) → i ≤ p + suc (length fs)
    go true g more = let q : p ≡ i = cc in omega arith
    go false g more = omega (arith, more g)

placed_within : (fs : List Layout) (x i : ℕ) → placed fs ≡ refused x i → i ≤ length fs
unfolding placed judged refused_at or_size
placed_within fs x i h = go (first_over 0 0 fs) refl h
  where
    p : Placing
    p = record { layout = record_layout fs; offsets = starts 0 fs }

    size : (b : Bool) → judged (cond b (some 0) none) p ≡ refused x i → i ≤ length fs
    size true g = let q : 0 ≡ i = cc in omega arith
    size false g = impossible (cc)

    go : (o : Option ℕ) → first_over 0 0 fs ≡ o → judged (or_size o (record_size fs)) p ≡ refused x i → i ≤ length fs
    go none e g = size (ltb largest_number (record_size fs)) g
    go (some j) e g = let q : j ≡ i = cc in omega (arith, over_within 0 0 fs j e)

infos_within : (look : ℕ → Leaf Info) (p : ℕ) (ws : List ℕ) (x i : ℕ) → infos look p ws ≡ refused x i → i ≤ p + length ws
unfolding infos then at_position
infos_within look p [] x i e = impossible (cc)
infos_within look p (w ∷ ws) x i e = go (look w) (infos look (suc p) ws) e (infos_within look (suc p) ws)
  where
    go :
        (l : Leaf Info) (a : Answer (List Info)) → then (at_position p l) (λ j. then a (λ js. ok (j ∷ js))) ≡ refused x i →
        ((y k : ℕ) → a ≡ refused y k → k ≤ suc p + length ws) → i ≤ p + suc (length ws)
    go (refuses y) a g more = let q : p ≡ i = cc in omega arith
    go (is j) (ok js) g more = impossible (cc)
    go (is j) (refused y k) g more = let q : k ≡ i = cc in omega (arith, more y k refl)

pub placing_within : (m : Memory) (t : List ℕ) (n : ℕ) (ws : List ℕ) (room x i : ℕ) → placing m t n ws room ≡ refused x i → i ≤ most_words
unfolding placing ask unless then
placing_within m t n ws room x i = go (too_many ws) (no_table t n) (ltb room (length ws)) (infos (read t n) 0 ws) refl refl
  where
    go :
        (many missing short : Bool) (a : Answer (List Info)) → too_many ws ≡ many → infos (read t n) 0 ws ≡ a →
        unless many too_long (unless missing bad_row (unless short no_room (then a (λ is'. placed (layouts_in m is'))))) ≡ refused x i → i ≤ most_words
    go true missing short a e f h = let q : 0 ≡ i = cc in omega arith
    go false true short a e f h = let q : 0 ≡ i = cc in omega arith
    go false false true a e f h = let q : 0 ≡ i = cc in omega arith
    go false false false (refused y k) e f h =
        let q : k ≡ i = cc in
        omega (arith, infos_within (read t n) 0 ws y k f, ltb-false most_words (length ws) e)
    go false false false (ok is') e f h =
        omega (arith, placed_within (layouts_in m is') x i h, length-map is' (info_layout m), infos_length (read t n) 0 ws is' f, ltb-false most_words (length ws) e)

pub placing_six :
    {t : List ℕ} {n : ℕ} {ws : List ℕ} {room : ℕ} {is' : List Info} (m : Memory) → Reads t n ws room is' →
    ((i : ℕ) × (placing m t n ws room ≡ refused too_large i)) ↔ NoPlacement (layouts_in m is')
placing_six {t} {n} {ws} {room} {is'} m r =
    rw (placing_reads m r) (placed_six (layouts_in m is') (infos_aligned m t n 0 ws is' r.gives))

pub placing_tightest :
    {t : List ℕ} {n : ℕ} {ws : List ℕ} {room : ℕ} {is' : List Info} (m : Memory) (p : Placing) → Reads t n ws room is' →
    placing m t n ws room ≡ ok p → Tightest (layouts_in m is') p
placing_tightest {t} {n} {ws} {room} {is'} m p r e =
    placed_tightest (layouts_in m is') p (infos_aligned m t n 0 ws is' r.gives) (sym (placing_reads m r) ∙ e)

-- whatever is placed passed those checks, and its offsets are the starts of what it reads
pub placing_starts :
    (m : Memory) (t : List ℕ) (n : ℕ) (ws : List ℕ) (room : ℕ) (p : Placing) → placing m t n ws room ≡ ok p →
    (is' : List Info) × Reads t n ws room is' × (p.offsets ≡ starts 0 (layouts_in m is'))
unfolding placing ask unless then
placing_starts m t n ws room p = go (too_many ws) (no_table t n) (ltb room (length ws)) (infos (read t n) 0 ws) refl refl refl refl
  where
    go :
        (many missing short : Bool) (a : Answer (List Info)) →
        too_many ws ≡ many → no_table t n ≡ missing → ltb room (length ws) ≡ short → infos (read t n) 0 ws ≡ a →
        unless many too_long (unless missing bad_row (unless short no_room (then a (λ is'. placed (layouts_in m is'))))) ≡ ok p →
        (is' : List Info) × Reads t n ws room is' × (p.offsets ≡ starts 0 (layouts_in m is'))
    go true missing short a f g h i e = impossible (cc)
    go false true short a f g h i e = impossible (cc)
    go false false true a f g h i e = impossible (cc)
    go false false false (refused x q) f g h i e = impossible (cc)
    go false false false (ok is') f g h i e = (
      is',
      record { few = f; table = g; fits = ltb-false room (length ws) h; gives = i },
      ap (λ (q : Placing). q.offsets) (sym (placed_is _ p (infos_aligned m t n 0 ws is' i) e).0),
    )

-- as many offsets as references

every_start : (fs : List Layout) (e : ℕ) → length (starts e fs) ≡ length fs
unfolding starts
every_start [] e = refl
every_start (f ∷ fs) e = ap suc (every_start fs _)

pub starts_length : (e : ℕ) (fs : List Layout) → length (starts e fs) ≡ length fs
starts_length e fs = every_start fs e

pub offsets_length : (m : Memory) (t : List ℕ) (n : ℕ) (ws : List ℕ) (room : ℕ) (p : Placing) → placing m t n ws room ≡ ok p → length p.offsets ≡ length ws
offsets_length m t n ws room p e =
    let a = placing_starts m t n ws room p e in
    ap length a.2 ∙ starts_length 0 (layouts_in m a.0) ∙ length-map a.0 (info_layout m) ∙ infos_length (read t n) 0 ws a.0 a.1.gives

-- the buffer begins with them
pub offsets_written :
    (m : Memory) (t : List ℕ) (n : ℕ) (ws : List ℕ) (room : ℕ) (out : List ℕ) (p : Placing) → placing m t n ws room ≡ ok p →
    take (length ws) (offsets_after m t n ws room out) ≡ p.offsets
unfolding offsets_after buffer_after
offsets_written m t n ws room out p e =
    rw e (take_at p.offsets (drop (length p.offsets) out) (length ws) (offsets_length m t n ws room p e))

-- appending references moves no offset before them

infos_append :
    (look : ℕ → Leaf Info) (p : ℕ) (ws vs : List ℕ) (js : List Info) → infos look p (ws ++ vs) ≡ ok js →
    (is' ks : List Info) × (infos look p ws ≡ ok is') × (js ≡ is' ++ ks)
unfolding infos then at_position
infos_append look p [] vs js e = ([], js, refl, refl)
infos_append look p (w ∷ ws) vs js e =
    let r = first_ok p (look w) (infos look (suc p) (ws ++ vs)) js e in
    go r.0 r.1 r.2 r.4 (infos_append look (suc p) ws vs r.1 r.3)
  where
    go :
        (i : Info) (js' : List Info) → look w ≡ is i → js ≡ i ∷ js' →
        (is' ks : List Info) × (infos look (suc p) ws ≡ ok is') × (js' ≡ is' ++ ks) →
        (is' ks : List Info) × (infos look p (w ∷ ws) ≡ ok is') × (js ≡ is' ++ ks)
    go i js' f g l = (i ∷ l.0, l.1, rw (f, l.2), g ∙ ap (λ (x : List Info). i ∷ x) l.3)

pub offsets_begin :
    (m : Memory) (t : List ℕ) (n : ℕ) (ws vs : List ℕ) (room room' : ℕ) (p q : Placing) →
    placing m t n ws room ≡ ok p → placing m t n (ws ++ vs) room' ≡ ok q → (os : List ℕ) × (q.offsets ≡ p.offsets ++ os)
offsets_begin m t n ws vs room room' p q e f =
    let a = placing_starts m t n ws room p e in
    let b = placing_starts m t n (ws ++ vs) room' q f in
    let l = infos_append (read t n) 0 ws vs b.0 b.1.gives in
    let same : a.0 ≡ l.0 = cc in
    go l.0 l.1 p.offsets (a.2 ∙ ap (λ (js : List Info). starts 0 (layouts_in m js)) same)
    (b.2 ∙ ap (λ (js : List Info). starts 0 (layouts_in m js)) l.3)
  where
    go :
        (is' ks : List Info) (os : List ℕ) {qs : List ℕ} → os ≡ starts 0 (layouts_in m is') → qs ≡ starts 0 (layouts_in m (is' ++ ks)) →
        (more : List ℕ) × (qs ≡ os ++ more)
    go is' ks os {qs} g h = (
      starts (last_end 0 (layouts_in m is')) (layouts_in m ks),
      rw (g, h, map-append (info_layout m) is' ks) (starts_append 0 (layouts_in m is') (layouts_in m ks)),
    )

-- Tables that a build wrote

pub table_there : (ws t : List ℕ) (n : ℕ) → n ≤ length (built ws t).types → no_table (table_after ws t) n ≡ false
unfolding no_table table_after
table_there ws t n le =
    rw (length_put_rows (capacity (length t)) 0 (map row_of (built ws t).types) t)
    (le-ltb (capacity (length t)) n (omega (arith, (built_sound ws t).fits)))

-- the types that a question's references name
unfoldable pub named : List Ty → List ℕ → Option (List Ty)
named ts [] = some []
named ts (w ∷ ws) = map_option2 ◌∷◌ (reference ts w) (named ts ws)

infos_named : (ts : List Ty) (p : ℕ) (ws : List ℕ) (us : List Ty) → named ts ws ≡ some us → infos (type_info ts) p ws ≡ ok (map info_of us)
unfolding named infos then at_position plain_info
infos_named ts p [] us e = let q : [] ≡ us = cc in rw (← q)
infos_named ts p (w ∷ ws) us e = go (reference ts w) refl (named ts ws) refl e (infos_named ts (suc p) ws)
  where
    go :
        (o : Option Ty) → reference ts w ≡ o → (l : Option (List Ty)) → named ts ws ≡ l → map_option2 ◌∷◌ o l ≡ some us →
        ((vs : List Ty) → named ts ws ≡ some vs → infos (type_info ts) (suc p) ws ≡ ok (map info_of vs)) →
        then (at_position p (type_info ts w)) (λ i. then (infos (type_info ts) (suc p) ws) (λ js. ok (i ∷ js))) ≡ ok (map info_of us)
    go none f l g h more = impossible (cc)
    go (some u) f none g h more = impossible (cc)
    go (some u) f (some vs) g h more = let q : u ∷ vs ≡ us = cc in rw (f, more vs g, ← q)

-- references that name these types in a table of the first n definitions of ws
pub record Names (ws t : List ℕ) (n : ℕ) (refs : List ℕ) (us : List Ty) : Type 0 where
  pub rows : n ≤ length (built ws t).types
  pub few : too_many refs ≡ false
  pub types : named (take n (built ws t).types) refs ≡ some us

names_infos : {ws t : List ℕ} {n : ℕ} {refs : List ℕ} {us : List Ty} (p : ℕ) → Names ws t n refs us → infos (read (table_after ws t) n) p refs ≡ ok (map info_of us)
names_infos {ws} {t} {n} {refs} {us} p h =
    rw (reads_built ws t n h.rows) (infos_named (take n (built ws t).types) p refs us h.types)

pub type_built :
    (ws t : List ℕ) (n w : ℕ) (u : Ty) → n ≤ length (built ws t).types → reference (take n (built ws t).types) w ≡ some u →
    type_answer (table_after ws t) n w ≡ ok (info_of u)
unfolding type_answer unless at_position plain_info
type_built ws t n w u le e = rw (table_there ws t n le, reads_built ws t n le, e)

pub ask_built :
    {A : Type 0} {ws t : List ℕ} {n : ℕ} {refs : List ℕ} {us : List Ty} (k : List Info → Answer A) → Names ws t n refs us →
    ask (table_after ws t) n false false refs k ≡ k (map info_of us)
unfolding ask unless then
ask_built {ws = ws} {t = t} {n = n} k h = rw (h.few, table_there ws t n h.rows, names_infos 0 h)

pub ask_two_built :
    {A : Type 0} {ws t : List ℕ} {n : ℕ} {vs refs : List ℕ} {us us' : List Ty} (k : List Info → List Info → Answer A) →
    Names ws t n vs us → Names ws t n refs us' →
    ask_two (table_after ws t) n vs refs k ≡ k (map info_of us) (map info_of us')
unfolding ask_two unless then
ask_two_built {ws = ws} {t = t} {n = n} {vs = vs} k g h =
    rw (g.few, h.few, table_there ws t n g.rows, names_infos 0 g, names_infos (length vs) h)

-- what the answers then speak of

pub layouts_typed : (m : Memory) (us : List Ty) → layouts_in m (map info_of us) ≡ map (layout m) us
layouts_typed m [] = refl
layouts_typed mem32 (u ∷ us) = ap (λ (l : List Layout). layout mem32 u ∷ l) (layouts_typed mem32 us)
layouts_typed mem64 (u ∷ us) = ap (λ (l : List Layout). layout mem64 u ∷ l) (layouts_typed mem64 us)

-- the flat lists of all, none if one type has no flat count
abbrev pub flat_types : Memory → List Ty → Option (List Core)
flat_types m [] = some []
flat_types m (u ∷ us) = map_option2 ◌++◌ (map_option (λ n. flatten m u) (flat_count u)) (flat_types m us)

pub flats_typed : (m : Memory) (us : List Ty) → flat_all m (map info_of us) ≡ flat_types m us
unfolding flat_all
flats_typed m [] = refl
flats_typed m (u ∷ us) = rw (flat_back m u, flats_typed m us)

abbrev pub borrow_types : List Ty → Bool
borrow_types [] = false
borrow_types (u ∷ us) = (reach u).borrow || borrow_types us

pub borrows_typed : (us : List Ty) → any_borrow (map info_of us) ≡ borrow_types us
unfolding any_borrow
borrows_typed [] = refl
borrows_typed (u ∷ us) = ap (λ (b : Bool). (reach u).borrow || b) (borrows_typed us)

-- One placement in both memories

-- how the answer for 32 and the answer for 64 stand to each other
pub data Beside : Answer Placing → Answer Placing → Type 0 where
  both_placed : {p q : Placing} → p.layout ≼ q.layout → NoneLater p.offsets q.offsets → Beside (ok p) (ok q)
  wide_too_large : {p : Placing} {i : ℕ} → Beside (ok p) (refused too_large i)
  both_refused : {x i j : ℕ} → Beside (refused x i) (refused x j)

-- what 64 accepts, 32 accepts, with no later offset
pub beside_accepted : {a b : Answer Placing} {q : Placing} → Beside a b → b ≡ ok q → (p : Placing) × (a ≡ ok p) × (p.layout ≼ q.layout) × NoneLater p.offsets q.offsets
beside_accepted {q = q} (both_placed {p = p} {q = q'} r s) e = let f : q' ≡ q = cc in rw (← f) (p, refl, r, s)
beside_accepted wide_too_large e = impossible (cc)
beside_accepted both_refused e = impossible (cc)

-- what 32 refuses, 64 refuses with the same number
pub beside_refused : {a b : Answer Placing} {x i : ℕ} → Beside a b → a ≡ refused x i → (j : ℕ) × (b ≡ refused x j)
beside_refused (both_placed r s) e = impossible (cc)
beside_refused wide_too_large e = impossible (cc)
beside_refused (both_refused {j = j}) e = (j, cc)

placed_beside : {fs gs : List Layout} → Forall₂ ◌≼◌ fs gs → Beside (placed fs) (placed gs)
placed_beside {fs} {gs} p =
    elim (dec_le (record_size fs) largest_number) [
      | no n ↦ rw ((placed_large fs (omega arith)).1, (placed_large gs (omega (arith, (record_wider p).size))).1) both_refused
      | yes h ↦ rw (placed_fits fs (both_aligned p).0 h) (elim (dec_le (record_size gs) largest_number) [
        | no n ↦ rw (placed_large gs (omega arith)).1 wide_too_large
        | yes k ↦ rw (placed_fits gs (both_aligned p).1 k) (both_placed (record_wider p) (starts_wider p))
      ])
    ]

-- the tests before know no memory
unless_beside : (b : Bool) (x : ℕ) {a c : Answer Placing} → Beside a c → Beside (unless b x a) (unless b x c)
unfolding unless
unless_beside true x r = both_refused
unless_beside false x r = r

infos_wider : (ts : List Ty) (p : ℕ) (ws : List ℕ) (is' : List Info) → infos (type_info ts) p ws ≡ ok is' → Forall₂ ◌≼◌ (layouts_in mem32 is') (layouts_in mem64 is')
unfolding plain_info
infos_wider ts =
    infos_keep (λ js. Forall₂ ◌≼◌ (layouts_in mem32 js) (layouts_in mem64 js)) (type_info ts) empty (λ w i js e v. pair (each (reference ts w) i e) v)
  where
    each : (o : Option Ty) (i : Info) → plain_info o ≡ is i → info_layout mem32 i ≼ info_layout mem64 i
    each none i e = impossible (cc)
    each (some u) i e = let q : info_of u ≡ i = cc in rw (← q) (layout_wider u)

pub placing_beside :
    (ws t : List ℕ) (n : ℕ) (refs : List ℕ) (room room' : ℕ) → n ≤ length (built ws t).types → ltb room (length refs) ≡ ltb room' (length refs) →
    Beside (placing mem32 (table_after ws t) n refs room) (placing mem64 (table_after ws t) n refs room')
unfolding placing ask unless then
placing_beside ws t n refs room room' rows alike =
    rw (alike, reads_built ws t n rows)
    (unless_beside (too_many refs) too_long
    (unless_beside (no_table (table_after ws t) n) bad_row (unless_beside (ltb room' (length refs)) no_room (go (infos (type_info ts) 0 refs) refl))))
  where
    ts : List Ty
    ts = take n (built ws t).types

    go : (a : Answer (List Info)) → infos (type_info ts) 0 refs ≡ a → Beside (then a (λ is'. placed (layouts_in mem32 is'))) (then a (λ is'. placed (layouts_in mem64 is')))
    go (refused x p) e = both_refused
    go (ok is') e = placed_beside (infos_wider ts 0 refs is' e)
