-- Placement: after any members the code's state is canon's last end, starts, gaps and first member over, and closing it is canon's answer.
use mathlib.Core.Path.{◌≡◌, refl, sym, ap, ◌∙◌}
use mathlib.Core.Bool.{Bool, true, false, cond, ◌||◌, or-true}
use mathlib.Core.List.{List, [], ◌∷◌, ◌++◌, map-append}
use mathlib.Core.Option.{Option, none, some}
use Prim.Native.Nat.{ℕ, suc, ◌+◌, ◌-◌, ◌%◌, ◌≤◌, ◌<◌, max, min}
use native.Mathlib.Nat.{add-zero, zero-add, mod-eq_of_lt}
use native.Mathlib.Numerals.{add-one}
use native.Mathlib.Decide.{dec_le}
use native.Mathlib.Omega.{arith}
use lib.Dec.{ltb}
use lib.ListN.{length, take, set, length-append}
use lib.Seq.{take-suc-set}
use borrow.Author.Tests.{lt-ltb, le-ltb}
use Rattle.canon.specs.Answer.{ok, then}
use Rattle.canon.specs.Layout.{Memory, within, Layout, round_up, starts, last_end, greatest_align, record_size, largest_number}
use Rattle.canon.specs.Row.{Info}
use Rattle.canon.specs.Question.{first_over, or_size, refused_at, Placing, judged, placed, layouts_in}
use Rattle.canon.specs.Gaps.{skipped_to, gaps, gap_after, Padded, padded, offsets_of, gaps_of}
use Rattle.canon.proofs.Rounding.{Alignment, le_round_up, alignment_pos}
use Rattle.canon.proofs.Tightest.{Aligned, le_record_size, greatest_align_alignment}
use Rattle.canon.proofs.Wider.{starts_append}
use Rattle.canon.proofs.Refusals.{placed_is}
use Rattle.canon.proofs.Gaps.{gaps_append, padded_ok, padded_is}
use Rattle.canon.specs.Placement.{four_gib}
use Rattle.types.specs.Extents.{extent_at, member_of, closing, is_large}
use Rattle.types.specs.declared.extent.Extent.{Extent}
use Rattle.types.specs.declared.extent.Step.{Step}
use Rattle.types.proofs.ExtentLaws.{reach_is, reach_large, step_reach, member_reach_lem, closing_reach}
use Rattle.questions.specs.Steps.{start_place, next_place, finished, finished_gap, layout_part, after_part, staged_offsets, staged_gaps}
use Rattle.questions.specs.declared.placed.Placed.{Placed}
use Rattle.questions.specs.declared.placing.Staged as code

-- One member more at the end

pub aligned_more : (fs : List Layout) (f : Layout) → Aligned fs → Alignment f.align → Aligned (fs ++ f ∷ [])
aligned_more [] f w a = (a, tt)
aligned_more (g ∷ fs) f w a = (w.0, aligned_more fs f w.1 a)

pub layouts_more : (m : Memory) (is' : List Info) (i : Info) → layouts_in m (is' ++ i ∷ []) ≡ layouts_in m is' ++ within m i.abi.layouts ∷ []
layouts_more m [] i = refl
layouts_more m (j ∷ is') i = ap (λ (l : List Layout). within m j.abi.layouts ∷ l) (layouts_more m is' i)

align_more : (fs : List Layout) (f : Layout) → greatest_align (fs ++ f ∷ []) ≡ max (greatest_align fs) f.align
unfolding greatest_align
align_more [] f = omega arith
align_more (g ∷ fs) f = let h = align_more fs f in omega arith

end_more : (e : ℕ) (fs : List Layout) (f : Layout) → last_end e (fs ++ f ∷ []) ≡ round_up (last_end e fs) f.align + f.size
unfolding last_end
end_more e [] f = refl
end_more e (g ∷ fs) f = end_more (round_up e g.align + g.size) fs f

-- the first of two
abbrev or_else : Option ℕ → Option ℕ → Option ℕ
or_else none b = b
or_else (some p) b = some p

over_more : (p e : ℕ) (fs : List Layout) (f : Layout) → first_over p e (fs ++ f ∷ []) ≡ or_else (first_over p e fs) (first_over (p + length fs) (last_end e fs) (f ∷ []))
unfolding first_over last_end
over_more p e [] f = rw (add-zero p)
over_more p e (g ∷ fs) f =
    go (ltb largest_number (round_up e g.align) || ltb largest_number (round_up e g.align + g.size)) (round_up e g.align + g.size)
    (over_more (suc p) (round_up e g.align + g.size) fs f)
  where
    go :
        (b : Bool) (l : ℕ) →
        first_over (suc p) l (fs ++ f ∷ []) ≡ or_else (first_over (suc p) l fs) (first_over (suc p + length fs) (last_end l fs) (f ∷ [])) →
        cond b (some p) (first_over (suc p) l (fs ++ f ∷ []))
        ≡ or_else (cond b (some p) (first_over (suc p) l fs)) (first_over (p + suc (length fs)) (last_end l fs) (f ∷ []))
    go true l h = refl
    go false l h = h ∙ ap (λ (q : ℕ). or_else (first_over (suc p) l fs) (first_over q (last_end l fs) (f ∷ []))) (omega arith)

-- The state after these members, k of them: the first that passes is known where one does
pub record Stands (p : Placed) (fs : List Layout) (k : ℕ) : Type 0 where
  pub count : length fs ≡ k
  pub aligned : Aligned fs
  pub extent : p.extent ≡ extent_at (last_end 0 fs) (greatest_align fs)
  pub within : last_end 0 fs ≤ largest_number → first_over 0 0 fs ≡ none
  pub beyond : largest_number < last_end 0 fs → first_over 0 0 fs ≡ some p.over.0

-- offsets and gaps staged so far: they count only while all fits
abbrev pub Staged : List ℕ → List ℕ → List Layout → Type 0
Staged os gs fs = last_end 0 fs ≤ largest_number → (os ≡ starts 0 fs) × (gs ≡ gaps 0 fs)

pub nothing_stands : Stands start_place [] 0
unfolding last_end first_over greatest_align
nothing_stands =
    record { count = refl; aligned = tt; extent = sym (reach_is 0 1 (omega arith)); within = λ h. refl; beyond = λ h. absurd (omega arith) }

module _ (p : Placed) (fs : List Layout) (k : ℕ) (s : Stands p fs k) where
  large : is_large p.extent ≡ ltb largest_number (last_end 0 fs)
  large = ap is_large s.extent ∙ reach_large (last_end 0 fs) (greatest_align fs)

  module _ (f : Layout) (a : Alignment f.align) (q : Placed) (e : q ≡ next_place p f (record { 0 = k })) where
    abbrev more : List Layout
    more = fs ++ f ∷ []

    abbrev end : ℕ
    end = last_end 0 more

    moves : member_of p.extent f
        ≡ step_reach (last_end 0 fs) (round_up (last_end 0 fs) f.align) (round_up (last_end 0 fs) f.align + f.size) (max (greatest_align fs) f.align)
    moves = ap (λ (x : Extent). member_of x f) s.extent ∙ member_reach_lem (last_end 0 fs) (greatest_align fs) f a

    extent_is : q.extent ≡ extent_at end (greatest_align more)
    unfolding next_place
    extent_is =
        ap (λ (x : Placed). x.extent) e ∙ ap (λ (x : Step). x.extent) moves
        ∙ rw (end_more 0 fs f, align_more fs f)

    over_is : q.over ≡ cond (ltb largest_number (last_end 0 fs)) p.over (record { 0 = k })
    unfolding next_place
    over_is = ap (λ (x : Placed). x.over) e ∙ ap (λ (b : Bool). cond b p.over (record { 0 = k })) large

    grown : last_end 0 fs ≤ round_up (last_end 0 fs) f.align
    grown = le_round_up (last_end 0 fs) f.align (alignment_pos a)

    earlier : end ≤ largest_number → last_end 0 fs ≤ largest_number
    earlier h = let g = rw end_more at h in omega (arith, grown)

    none_over : end ≤ largest_number → first_over 0 0 more ≡ none
    unfolding first_over
    none_over h =
        let g : round_up (last_end 0 fs) f.align + f.size ≤ largest_number = rw end_more at h in
        over_more 0 0 fs f
        ∙ rw (s.within (earlier h), le-ltb largest_number (round_up (last_end 0 fs) f.align) (omega arith), le-ltb largest_number (round_up (last_end 0 fs) f.align + f.size) g)

    -- the last of them alone, or one before it
    some_over : largest_number < end → first_over 0 0 more ≡ some q.over.0
    unfolding first_over
    some_over h =
        elim (dec_le (last_end 0 fs) largest_number) [
          | yes l ↦
              over_more 0 0 fs f
              ∙ rw (
                s.within l,
                lt-ltb largest_number (round_up (last_end 0 fs) f.align + f.size) (rw end_more at h),
                or-true (ltb largest_number (round_up (last_end 0 fs) f.align)),
                s.count,
                zero-add k,
                over_is,
                le-ltb largest_number (last_end 0 fs) l,
              )
          | no l ↦ over_more 0 0 fs f ∙ rw (s.beyond (omega arith), over_is, lt-ltb largest_number (last_end 0 fs) (omega arith))
        ]

    pub stands_more : Stands q more (k + 1)
    stands_more =
        record {
          count = rw (length-append fs (f ∷ []), s.count);
          aligned = aligned_more fs f s.aligned a;
          extent = extent_is;
          within = none_over;
          beyond = some_over;
        }

    -- its offset is its start
    starts_at : end ≤ largest_number → q.offset ≡ round_up (last_end 0 fs) f.align
    unfolding next_place
    starts_at h =
        let g : round_up (last_end 0 fs) f.align + f.size ≤ largest_number = rw end_more at h in
        let n : min (round_up (last_end 0 fs) f.align) four_gib ≡ round_up (last_end 0 fs) f.align = omega arith in
        ap (λ (x : Placed). x.offset) e ∙ ap (λ (x : Step). x.start % four_gib) moves
        ∙ rw n (mod-eq_of_lt (omega arith))

    -- and its gap is what it skips
    gap_at : end ≤ largest_number → q.gap ≡ skipped_to (last_end 0 fs) f.align
    unfolding next_place
    gap_at h =
        let g : round_up (last_end 0 fs) f.align + f.size ≤ largest_number = rw end_more at h in
        ap (λ (x : Placed). x.gap) e ∙ ap (λ (x : Step). x.skipped) moves
        ∙ omega (arith, grown)

    pub staged_last : (os gs : List ℕ) → Staged os gs fs → Staged (os ++ q.offset ∷ []) (gs ++ q.gap ∷ []) more
    unfolding starts gaps
    staged_last os gs t g =
        let so_far = t (earlier g) in (
          rw (starts_append 0 fs (f ∷ []), so_far.0, starts_at g),
          rw (gaps_append 0 fs (f ∷ []), so_far.1, gap_at g),
        )

    abbrev last : code.Staged
    last = record { offset = q.offset; gap = q.gap }

    pub staged_more :
        (stage : List code.Staged) → Staged (staged_offsets (take k stage)) (staged_gaps (take k stage)) fs → k < length stage →
        Staged (staged_offsets (take (k + 1) (set stage k last))) (staged_gaps (take (k + 1) (set stage k last))) more
    staged_more stage t l =
        rw (
          add-one k,
          take-suc-set stage k last l,
          map-append (λ (s : code.Staged). s.offset) (take k stage) (last ∷ []),
          map-append (λ (s : code.Staged). s.gap) (take k stage) (last ∷ []),
        )
        (staged_last (staged_offsets (take k stage)) (staged_gaps (take k stage)) t)

  -- Closed, it is canon's answer

  closes : closing p.extent ≡ step_reach (last_end 0 fs) (record_size fs) (record_size fs) (greatest_align fs)
  unfolding record_size
  closes = ap closing s.extent ∙ closing_reach (last_end 0 fs) (greatest_align fs) (greatest_align_alignment fs s.aligned)

  pub finish_is : (finished p ≡ layout_part (padded fs)) × (finished_gap p ≡ after_part (padded fs))
  unfolding finished_gap finished padded placed judged refused_at or_size then
  finish_is =
      elim (dec_le (last_end 0 fs) largest_number) [
        | no l ↦ rw (large, lt-ltb largest_number (last_end 0 fs) (omega arith), s.beyond (omega arith)) (refl, refl)
        | yes l ↦ elim (dec_le (record_size fs) largest_number) [
          | yes h ↦
              let gap : min (record_size fs) four_gib - min (last_end 0 fs) four_gib ≡ gap_after fs = unfold gap_after in omega arith in
              rw (large, le-ltb largest_number (last_end 0 fs) l, s.within l, closes, gap, reach_is (record_size fs) (greatest_align fs) (omega arith), le-ltb largest_number (record_size fs) h) (refl, refl)
          | no h ↦ rw (large, le-ltb largest_number (last_end 0 fs) l, s.within l, closes, reach_large (record_size fs) (greatest_align fs), lt-ltb largest_number (record_size fs) (omega arith)) (refl, refl)
        ]
      ]

  -- an accepted placement is of canon's starts and gaps, and all of them fit
  pub placed_starts : (q : Padded) → padded fs ≡ ok q → (offsets_of q ≡ starts 0 fs) × (gaps_of q ≡ gaps 0 fs) × (last_end 0 fs ≤ largest_number)
  placed_starts q e =
      let r = placed_is fs q.placing s.aligned (padded_ok fs q e) in (
        sym (ap (λ (y : Placing). y.offsets) r.0),
        ap (λ (y : Padded). y.before) (padded_is fs q e),
        omega (arith, r.1, le_record_size fs s.aligned),
      )
