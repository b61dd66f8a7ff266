-- Gaps: as many as members, each below the member's alignment, and with the sizes they make up the record; and a placement with its gaps is the
-- placement.
use mathlib.Core.Path.{◌≡◌, refl, sym, ap, ◌∙◌}
use mathlib.Core.Bool.{Bool, true, false}
use mathlib.Core.List.Forall₂.{cons as pair}
use mathlib.Core.List.Forall₂.{nil as empty}
use mathlib.Core.List.{List, [], ◌∷◌, ◌++◌, Forall₂}
use Prim.Native.Nat.{ℕ, zero, suc, ◌+◌, ◌-◌, ◌<◌}
use native.Mathlib.Nat.{div-mul-le_self, dvd-zero}
use native.Mathlib.Omega.{arith}
use lib.Dec.{ltb}
use lib.ListN.{length, get_or, length-map}
use borrow.Author.Tests.{le-ltb}
use Rattle.canon.specs.Answer.{Answer, ok, refused, then, unless, too_long, bad_row, no_room}
use Rattle.canon.specs.Layout.{Memory, Layout, round_up, end_after, greatest_align, starts, ends, last_end, record_size}
use Rattle.canon.specs.Row.{Info, info_layout}
use Rattle.canon.specs.Question.{read, infos, too_many, no_table, ask, Placing, placed, placing, placement_answer, layouts_in, buffer_after, offsets_after}
use Rattle.canon.specs.Gaps.{skipped_to, gaps, gap_after, total, sizes_of, Padded, with_gaps, padded, padding, offsets_of, gaps_of, lent_after}
use Rattle.canon.proofs.Tests.{impossible}
use Rattle.canon.proofs.Rounding.{le_round_up, round_up_least, Alignment, alignment_pos}
use Rattle.canon.proofs.Tightest.{Aligned, greatest_align_alignment, le_record_size}
use Rattle.canon.proofs.Questions.{then_then, Reads, infos_length, placing_starts, offsets_length}

-- Of one rounding

pub skipped_adds : (x a : ℕ) → 0 < a → x + skipped_to x a ≡ round_up x a
skipped_adds x a h = omega (arith, le_round_up x a h)

pub skipped_below : (x a : ℕ) → 0 < a → skipped_to x a < a
unfolding round_up
skipped_below x a h = omega (arith, div-mul-le_self (x + (a - 1)) a)

-- Of members

-- as many as members, wherever the first begins
every_length : (fs : List Layout) (e : ℕ) → length (gaps e fs) ≡ length fs
unfolding gaps
every_length [] e = refl
every_length (f ∷ fs) e = ap suc (every_length fs _)

pub gaps_length : (e : ℕ) (fs : List Layout) → length (gaps e fs) ≡ length fs
gaps_length e fs = every_length fs e

-- each is below its member's alignment
every_below : (fs : List Layout) (e : ℕ) → Aligned fs → Forall₂ (λ g f. g < f.align) (gaps e fs) fs
unfolding gaps
every_below [] e w = empty
every_below (f ∷ fs) e w = pair (skipped_below e f.align (alignment_pos w.0)) (every_below fs _ w.1)

pub gaps_below : (e : ℕ) (fs : List Layout) → Aligned fs → Forall₂ (λ g f. g < f.align) (gaps e fs) fs
gaps_below e fs w = every_below fs e w

-- nothing is skipped before the first of all
pub first_gap : (f : Layout) (fs : List Layout) → Alignment f.align → get_or (gaps 0 (f ∷ fs)) 0 0 ≡ 0
unfolding gaps
first_gap f fs a = omega (arith, round_up_least 0 f.align 0 (alignment_pos a) (omega arith) (dvd-zero f.align))

-- member k starts its gap after the end before it
pub gap_between : (e : ℕ) (fs : List Layout) → Aligned fs → (k : ℕ) → k < length fs → get_or (starts e fs) k 0 ≡ get_or (e ∷ ends e fs) k 0 + get_or (gaps e fs) k 0
unfolding gaps starts ends
gap_between e [] w k h = absurd (omega arith)
gap_between e (f ∷ fs) w zero h = sym (skipped_adds e f.align (alignment_pos w.0))
gap_between e (f ∷ fs) w (suc k) h = gap_between (end_after e f) fs w.1 k (omega arith)

-- which is the start and the size of the member before
pub gap_next :
    (e : ℕ) (fs : List Layout) → Aligned fs → (k : ℕ) → suc k < length fs →
    get_or (starts e fs) (suc k) 0 ≡ get_or (starts e fs) k 0 + get_or (sizes_of fs) k 0 + get_or (gaps e fs) (suc k) 0
unfolding gaps starts
gap_next e [] w k h = absurd (omega arith)
gap_next e (f ∷ []) w k h = absurd (omega arith)
gap_next e (f ∷ g ∷ fs) w zero h = sym (skipped_adds (end_after e f) g.align (alignment_pos w.1.0))
gap_next e (f ∷ g ∷ fs) w (suc k) h = gap_next (end_after e f) (g ∷ fs) w.1 k (omega arith)

pub gaps_append : (e : ℕ) (fs hs : List Layout) → gaps e (fs ++ hs) ≡ gaps e fs ++ gaps (last_end e fs) hs
unfolding gaps last_end
gaps_append e [] hs = refl
gaps_append e (f ∷ fs) hs = ap (λ (l : List ℕ). skipped_to e f.align ∷ l) (gaps_append (end_after e f) fs hs)

-- after an end e, gaps and sizes come to the last end
gaps_reach : (e : ℕ) (fs : List Layout) → Aligned fs → e + total (gaps e fs) + total (sizes_of fs) ≡ last_end e fs
unfolding gaps last_end total
gaps_reach e [] w = omega arith
gaps_reach e (f ∷ fs) w = omega (arith, skipped_adds e f.align (alignment_pos w.0), gaps_reach (end_after e f) fs w.1)

-- "Gaps plus member sizes equal the record's size"
pub gaps_total : (fs : List Layout) → Aligned fs → total (gaps 0 fs) + total (sizes_of fs) + gap_after fs ≡ record_size fs
unfolding gap_after
gaps_total fs w = omega (arith, gaps_reach 0 fs w, le_record_size fs w)

-- the gap after the last is below the record's alignment
pub after_below : (fs : List Layout) → Aligned fs → gap_after fs < greatest_align fs
unfolding gap_after record_size
after_below fs w = skipped_below (last_end 0 fs) (greatest_align fs) (alignment_pos (greatest_align_alignment fs w))

-- Of a placement with its gaps

-- the placement in it
abbrev pub placing_of : Answer Padded → Answer Placing
placing_of a = then a (λ q. ok q.placing)

pub padded_placed : (fs : List Layout) → placing_of (padded fs) ≡ placed fs
unfolding padded then
padded_placed fs = go (placed fs)
  where
    go : (a : Answer Placing) → placing_of (then a (λ p. ok (with_gaps fs p))) ≡ a
    go (ok p) = refl
    go (refused x i) = refl

pub padded_is : (fs : List Layout) (q : Padded) → padded fs ≡ ok q → q ≡ with_gaps fs q.placing
unfolding padded then
padded_is fs q e = go (placed fs) e
  where
    go : (a : Answer Placing) → then a (λ p. ok (with_gaps fs p)) ≡ ok q → q ≡ with_gaps fs q.placing
    go (ok p) e = let f : with_gaps fs p ≡ q = cc in rw (← f)
    go (refused x i) e = impossible (cc)

pub padded_ok : (fs : List Layout) (q : Padded) → padded fs ≡ ok q → placed fs ≡ ok q.placing
unfolding then
padded_ok fs q e = sym (padded_placed fs) ∙ ap placing_of e

module _ (m : Memory) (t : List ℕ) (n : ℕ) (ws : List ℕ) (room : ℕ) where
  -- the placement in it is the one that is answered without gaps
  pub padding_placing : placing_of (padding m t n ws room) ≡ placing m t n ws room
  unfolding padding placing ask unless then
  padding_placing = go (too_many ws) (no_table t n) (ltb room (length ws)) (infos (read t n) 0 ws)
    where
      go :
          (many missing short : Bool) (a : Answer (List Info)) →
          placing_of (unless many too_long (unless missing bad_row (unless short no_room (then a (λ is'. padded (layouts_in m is'))))))
          ≡ unless many too_long (unless missing bad_row (unless short no_room (then a (λ is'. placed (layouts_in m is')))))
      go true missing short a = refl
      go false true short a = refl
      go false false true a = refl
      go false false false (refused x i) = refl
      go false false false (ok is') = padded_placed (layouts_in m is')

  -- so its layout and its offsets are those
  pub placement_padded : placement_answer m t n ws room ≡ then (padding m t n ws room) (λ q. ok q.placing.layout)
  unfolding placement_answer then
  placement_padded = rw (← padding_placing) (then_then (padding m t n ws room) (λ q. ok q.placing) (λ p. ok p.layout))

  pub offsets_padded : (out : List ℕ) → offsets_after m t n ws room out ≡ lent_after offsets_of m t n ws room out
  unfolding offsets_after then buffer_after
  offsets_padded out = rw (← padding_placing) (go (padding m t n ws room))
    where
      go : (a : Answer Padded) → buffer_after (λ (p : Placing). p.offsets) (placing_of a) out ≡ buffer_after offsets_of a out
      go (ok q) = refl
      go (refused x i) = refl

  -- what is accepted is accepted with gaps
  pub padding_from : (p : Placing) → placing m t n ws room ≡ ok p → (q : Padded) × (padding m t n ws room ≡ ok q) × (q.placing ≡ p)
  unfolding then
  padding_from p e = go (padding m t n ws room) refl (padding_placing ∙ e)
    where
      go : (a : Answer Padded) → padding m t n ws room ≡ a → placing_of a ≡ ok p → (q : Padded) × (padding m t n ws room ≡ ok q) × (q.placing ≡ p)
      go (ok q) f g = (q, f, cc)
      go (refused x i) f g = impossible (cc)

pub padding_reads : {t : List ℕ} {n : ℕ} {ws : List ℕ} {room : ℕ} {is' : List Info} (m : Memory) → Reads t n ws room is' → padding m t n ws room ≡ padded (layouts_in m is')
unfolding padding ask unless then
padding_reads {ws = ws} {room = room} m r = rw (r.few, r.table, le-ltb room (length ws) r.fits, r.gives)

-- whatever is accepted with gaps is accepted, and its gaps are those of what it reads
module _ (m : Memory) (t : List ℕ) (n : ℕ) (ws : List ℕ) (room : ℕ) (q : Padded) (accepted : padding m t n ws room ≡ ok q) where
  padding_ok : placing m t n ws room ≡ ok q.placing
  unfolding then
  padding_ok = sym (padding_placing m t n ws room) ∙ ap placing_of accepted

  pub padding_gaps : (is' : List Info) × Reads t n ws room is' × (q ≡ with_gaps (layouts_in m is') q.placing)
  padding_gaps =
      let a = placing_starts m t n ws room q.placing padding_ok in
      (a.0, a.1, padded_is (layouts_in m a.0) q (sym (padding_reads m a.1) ∙ accepted))

  -- there is a word for each reference in both buffers

  pub offsets_counted : length (offsets_of q) ≡ length ws
  offsets_counted = offsets_length m t n ws room q.placing padding_ok

  pub gaps_counted : length (gaps_of q) ≡ length ws
  gaps_counted =
      let a = padding_gaps in
      ap (λ (p : Padded). length p.before) a.2
      ∙ gaps_length 0 (layouts_in m a.0) ∙ length-map a.0 (info_layout m) ∙ infos_length (read t n) 0 ws a.0 a.1.gives
