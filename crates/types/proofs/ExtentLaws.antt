-- One memory's step is the image of the exact end: over aligned layouts the extent is the one that canon's end reaches.
use mathlib.Core.Path.{◌≡◌, refl, sym, ap, ◌∙◌}
use mathlib.Core.Bool.{Bool, true, false, cond, ◌||◌}
use mathlib.Core.List.{List, [], ◌∷◌}
use Prim.Native.Nat.{ℕ, ◌+◌, ◌-◌, ◌≤◌, max, min}
use native.Mathlib.Nat.{add-zero}
use native.Mathlib.Decide.{dec_le}
use native.Mathlib.Omega.{arith}
use lib.Dec.{ltb}
use borrow.Author.Tests.{ltb-false, lt-ltb, le-ltb}
use Rattle.canon.specs.Answer.{is, no as refuses, too_large}
use Rattle.canon.specs.Layout.{Memory, mem32, mem64, Both, both, within, Layout, greatest_align, last_end, record_size, largest_number, round_up}
use Rattle.canon.specs.Placement.{four_gib}
use Rattle.canon.proofs.Rounding.{le_round_up, alignment_pos, Alignment}
use Rattle.canon.proofs.Tests.{impossible}
use Rattle.canon.proofs.Tightest.{Aligned, greatest_align_alignment}
use Rattle.types.specs.declared.extent.Extent.{Extent}
use Rattle.types.specs.declared.extent.Step.{Step}
use Rattle.types.specs.Extents.{rounded, extent_at, start_extent, member_of, closing, close_of, is_large, layout_of, fitted_of}
use Rattle.types.proofs.RoundLaws.{rounded_aligned, rounded_between, round_up_stays}

-- what holds in each memory holds in both
pub both_same : {A : Type 0} {f g : Memory → A} → ((m : Memory) → f m ≡ g m) → both f ≡ both g
both_same h = rw (h mem32, h mem64)

-- an end up to 4 GiB is the exact one
pub reach_is : (e a : ℕ) → e ≤ four_gib → extent_at e a ≡ record { end = e; align = a }
unfolding extent_at
reach_is e a h = let p : min e four_gib ≡ e = omega arith in rw p

-- rounding a stopped end is stopping the rounded one
round_stops : {a : ℕ} (e : ℕ) → Alignment a → round_up (min e four_gib) a ≡ min (round_up e a) four_gib
round_stops {a} e w =
    elim (dec_le e four_gib) [
      | yes h ↦
          let p : min e four_gib ≡ e = omega arith in
          rw p (omega (arith, round_up_stays e w h))
      | no h ↦
          let p : min e four_gib ≡ four_gib = omega arith in
          rw p (omega (
            arith,
            le_round_up e a (alignment_pos w),
            le_round_up four_gib a (alignment_pos w),
            round_up_stays four_gib w (omega arith),
          ))
    ]

reach_align : (e a : ℕ) → (extent_at e a).align ≡ a
unfolding extent_at
reach_align e a = refl

-- the step from an exact end to an exact start, and on to another end
abbrev pub step_reach : ℕ → ℕ → ℕ → ℕ → Step
step_reach e s end a = record { start = min s four_gib; skipped = min s four_gib - min e four_gib; extent = extent_at end a }

-- one member more: canon's start and canon's end, at most 4 GiB
pub member_reach_lem :
    (e a : ℕ) (f : Layout) →
    Alignment f.align →
    member_of (extent_at e a) f ≡ step_reach e (round_up e f.align) (round_up e f.align + f.size) (max a f.align)
unfolding member_of extent_at
member_reach_lem e a f w =
    let stopped : min (min e four_gib) four_gib ≡ min e four_gib = omega arith in
    let start : rounded (min e four_gib) f.align ≡ min (round_up e f.align) four_gib = rounded_aligned (min e four_gib) w ∙ round_stops e w in
    let end : min (min (round_up e f.align) four_gib + f.size) four_gib ≡ min (round_up e f.align + f.size) four_gib = omega arith in
    rw (stopped, start, end)

pub closing_reach : (e a : ℕ) → Alignment a → closing (extent_at e a) ≡ step_reach e (round_up e a) (round_up e a) a
unfolding closing
closing_reach e a w =
    let one : max a a ≡ a = omega arith in
    ap (λ (b : ℕ). member_of (extent_at e a) (record { size = 0; align = b })) (reach_align e a)
    ∙ rw (member_reach_lem e a (record { size = 0; align = a }) w, add-zero (round_up e a), one)

pub close_reach : (e a : ℕ) → Alignment a → close_of (extent_at e a) ≡ extent_at (round_up e a) a
close_reach e a w = ap (λ (s : Step). s.extent) (closing_reach e a w)

-- where a member's end fits, so does its start: it is its size before the end
pub member_fits : (x : Extent) (f : Layout) → (member_of x f).extent.end ≤ largest_number → (member_of x f).start + f.size ≡ (member_of x f).extent.end
unfolding member_of extent_at
member_fits x f h = omega arith

-- what fits once closed fitted before
pub close_fits : (x : Extent) → (close_of x).end ≤ largest_number → x.end ≤ largest_number
unfolding closing member_of extent_at
close_fits x h = omega (arith, (rounded_between (min x.end four_gib) x.align).0)

-- members one after another
unfoldable pub members_of : Extent → List Layout → Extent
members_of x [] = x
members_of x (f ∷ fs) = members_of (member_of x f).extent fs

members_exact : (e a : ℕ) (fs : List Layout) → 1 ≤ a → Aligned fs → members_of (extent_at e a) fs ≡ extent_at (last_end e fs) (max a (greatest_align fs))
unfolding members_of last_end greatest_align
members_exact e a [] h w = ap (extent_at e) (omega arith)
members_exact e a (f ∷ fs) h w =
    ap (λ (s : Step). members_of s.extent fs) (member_reach_lem e a f w.0)
    ∙ members_exact (round_up e f.align + f.size) (max a f.align) fs (omega arith) w.1
    ∙ ap (extent_at (last_end (round_up e f.align + f.size) fs)) (omega arith)

-- from the start: the last end and the greatest alignment
pub members_reach : (fs : List Layout) → Aligned fs → members_of start_extent fs ≡ extent_at (last_end 0 fs) (greatest_align fs)
members_reach fs w =
    ap (λ (x : Extent). members_of x fs) (sym (reach_is 0 1 (omega arith)))
    ∙ members_exact 0 1 fs (omega arith) w
    ∙ ap (extent_at (last_end 0 fs)) (omega (arith, alignment_pos (greatest_align_alignment fs w)))

-- closed: the size
pub record_reach : (fs : List Layout) → Aligned fs → close_of (members_of start_extent fs) ≡ extent_at (record_size fs) (greatest_align fs)
unfolding record_size
record_reach fs w = ap close_of (members_reach fs w) ∙ close_reach (last_end 0 fs) (greatest_align fs) (greatest_align_alignment fs w)

-- too large exactly when the exact end is
pub reach_large : (e a : ℕ) → is_large (extent_at e a) ≡ ltb largest_number e
unfolding extent_at
reach_large e a =
    elim (dec_le e largest_number) [
      | yes h ↦ le-ltb largest_number (min e four_gib) (omega arith) ∙ sym (le-ltb largest_number e h)
      | no h ↦ lt-ltb largest_number (min e four_gib) (omega arith) ∙ sym (lt-ltb largest_number e (omega arith))
    ]

-- the layouts of two exact ends, where both fit
pub fitted_reach :
    (f : Memory → Layout) →
    fitted_of (both (λ m. extent_at (f m).size (f m).align))
    ≡ cond (ltb largest_number (f mem32).size || ltb largest_number (f mem64).size) (refuses too_large) (is (both f))
unfolding fitted_of
fitted_reach f =
    rw (reach_large (f mem32).size (f mem32).align, reach_large (f mem64).size (f mem64).align)
    (go (ltb largest_number (f mem32).size) (ltb largest_number (f mem64).size) refl refl)
  where
    go :
        (b c : Bool) →
        ltb largest_number (f mem32).size ≡ b →
        ltb largest_number (f mem64).size ≡ c →
        cond (b || c) (refuses too_large) (is (both (λ m. layout_of (extent_at (f m).size (f m).align)))) ≡ cond (b || c) (refuses too_large) (is (both f))
    go true c p q = refl
    go false true p q = refl
    go false false p q =
        let p' : (f mem32).size ≤ largest_number = ltb-false _ _ p in
        let q' : (f mem64).size ≤ largest_number = ltb-false _ _ q in
        rw (reach_is (f mem32).size (f mem32).align (omega arith), reach_is (f mem64).size (f mem64).align (omega arith))

-- what fits in both memories fits in each
pub fitted_fits : (es : Both Extent) (ls : Both Layout) → is ls ≡ fitted_of es → (m : Memory) → (within m es).end ≤ largest_number
unfolding fitted_of
fitted_fits es ls h = go (is_large es.in32) (is_large es.in64) refl refl h
  where
    go :
        (b c : Bool) →
        is_large es.in32 ≡ b →
        is_large es.in64 ≡ c →
        is ls ≡ cond (b || c) (refuses too_large) (is (both (λ m. layout_of (within m es)))) →
        (m : Memory) →
        (within m es).end ≤ largest_number
    go true c p q h m = impossible (cc)
    go false true p q h m = impossible (cc)
    go false false p q h mem32 = ltb-false _ _ p
    go false false p q h mem64 = ltb-false _ _ q
