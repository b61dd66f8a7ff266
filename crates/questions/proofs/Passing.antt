-- A placement's loop over references: what was read so far stands as canon places it, and the rows that were read back are counted.
use mathlib.Core.Path.{◌≡◌, refl, ap, ap₂, ◌∙◌}
use mathlib.Core.List.{List, [], ◌∷◌, ◌++◌}
use Prim.Native.Nat.{ℕ, ◌+◌, ◌≤◌, ◌<◌}
use native.Mathlib.Omega.{arith}
use lib.ListN.{length, get_or, take, drop, length-take}
use lib.Seq.{take_all}
use Rattle.std.specs.Prelude.{Result, Ok, Err}
use Rattle.canon.specs.Answer.{is, no, Answer, ok, refused, then}
use Rattle.canon.specs.Cost.{rows_among, reported}
use Rattle.canon.specs.Gaps.{gaps, Padded, offsets_of, gaps_of}
use Rattle.canon.specs.Layout.{Memory, Layout, starts, last_end, largest_number}
use Rattle.canon.specs.Question.{read, infos, layouts_in, buffer_after}
use Rattle.canon.specs.Row.{Info, info_layout}
use Rattle.canon.proofs.Costs.{rows_among_most, rows_next}
use Rattle.canon.proofs.Questions.{read_aligned}
use Rattle.canon.proofs.Rounding.{Alignment}
use Rattle.canon.proofs.Tests.{impossible}
use Rattle.types.specs.Means.{number_of}
use Rattle.types.specs.declared.refusal.Refusal.{Refusal}
use Rattle.table.specs.Means.{answer, member_place}
use Rattle.table.specs.declared.info.MemberPosition.{MemberPosition}
use Rattle.table.specs.declared.refused.Refused.{Refused}
use Rattle.questions.specs.Means.{whole_means, whole_reads, after_means}
use Rattle.questions.specs.Steps.{member_layout, start_place, next_place, finished, finished_gap, padded_refs, layout_part, Answers, Places}
use Rattle.questions.specs.declared.answer.Whole.{Whole}
use Rattle.questions.specs.declared.placed.Placed.{Placed}
use Rattle.questions.proofs.References.{part_is, Read, begins, goes_on, stops, ends}
use Rattle.questions.proofs.Members.{layouts_more, Stands, nothing_stands, stands_more, finish_is, placed_starts}

-- Before place k these references were read, their members stand, and so many rows were read back
pub record Passed (m : Memory) (t : List ℕ) (n : ℕ) (ws : List ℕ) (k : ℕ) (p : Placed) (reads : ℕ) : Type 0 where
  pub done : List Info
  pub read_so : Read (read t n) ws k done
  pub stands : Stands p (layouts_in m done) k
  pub counted : reads ≡ rows_among (take k ws)

unfoldable pub none_passed : (m : Memory) (t : List ℕ) (n : ℕ) (ws : List ℕ) → Passed m t n ws 0 start_place 0
unfolding rows_among
none_passed m t n ws = record { done = []; read_so = begins (read t n) ws; stands = nothing_stands; counted = refl }

module _ (m : Memory) (t : List ℕ) (n : ℕ) (ws : List ℕ) (k : ℕ) (p : Placed) (reads : ℕ) (s : Passed m t n ws k p reads) where
  -- a count is no more than the references
  pub few_passed : k ≤ length ws → reads ≤ length ws
  few_passed h = rw s.counted (omega (arith, rows_among_most (take k ws), length-take k ws))

  -- one that gives a layout
  module _ (f : Layout) (e : is f ≡ member_layout m t n (get_or ws k 0)) (l : k < length ws) where
    abbrev pub found : (i : Info) × (read t n (get_or ws k 0) ≡ is i) × (info_layout m i ≡ f)
    found = part_is (info_layout m) (read t n (get_or ws k 0)) f e

    pub found_aligned : Alignment f.align
    found_aligned = rw found.2 at (read_aligned m t n (get_or ws k 0) found.0 found.1)

    unfoldable pub one_passed :
        (c : ℕ) (q : Placed) → c ≡ rows_among (get_or ws k 0 ∷ []) → q ≡ next_place p f (record { 0 = k }) → Passed m t n ws (k + 1) q (reads + c)
    one_passed c q h g =
        record {
          done = s.done ++ found.0 ∷ [];
          read_so = goes_on (read t n) ws k s.done found.0 s.read_so found.1 l;
          stands = rw (layouts_more m s.done found.0, found.2) (stands_more p (layouts_in m s.done) k s.stands f found_aligned q g);
          counted = omega (arith, s.counted, h, rows_next ws k l);
        }

  -- one that is refused
  pub one_refused :
      (why : Refusal) → no (number_of why) ≡ member_layout m t n (get_or ws k 0) → k < length ws →
      Answers m t n ws (Err (record { why = why; at = record { 0 = k } })) × ((q : Padded) → padded_refs m t n ws ≡ ok q → ⊥)
  unfolding then
  one_refused why e l =
      let g = stops (read t n) ws (info_layout m) k s.done (number_of why) s.read_so e l in (
        record { answer = rw g; reads = rw g; after = rw g },
        λ q f. let h = rw g at f in cc,
      )

  -- no more
  module _ (l : length ws ≤ k) where
    pub all_read : infos (read t n) 0 ws ≡ ok s.done
    all_read = ends (read t n) ws k s.done s.read_so l

    pub all_passed :
        (r : Result Whole (Refused MemberPosition)) →
        answer member_place whole_means r ≡ finished p → whole_reads r ≡ reported (finished p) reads → after_means r ≡ finished_gap p →
        Answers m t n ws r
    unfolding then
    all_passed r v c g =
        let f = finish_is p (layouts_in m s.done) k s.stands in
        let all = s.counted ∙ ap rows_among (take_all k ws l) in
        record {
          answer = rw all_read (v ∙ f.0);
          reads = rw all_read (c ∙ ap₂ (λ (x : Answer Layout) (n : ℕ). reported x n) f.0 all);
          after = rw all_read (g ∙ f.1);
        }

    pub all_starts :
        (q : Padded) → padded_refs m t n ws ≡ ok q →
        (offsets_of q ≡ starts 0 (layouts_in m s.done)) × (gaps_of q ≡ gaps 0 (layouts_in m s.done)) × (last_end 0 (layouts_in m s.done) ≤ largest_number)
    unfolding then
    all_starts q e = placed_starts p (layouts_in m s.done) k s.stands q (rw all_read at e)

-- What is written: nothing where it refuses, else what was placed in front of each buffer

untouched : (words : Padded → List ℕ) (a : Answer Padded) (x p : ℕ) (out : List ℕ) → refused x p ≡ layout_part a → out ≡ buffer_after words a out
unfolding then buffer_after
untouched words (ok q) x p out e = impossible (cc)
untouched words (refused y q) x p out e = refl

pub places_none :
    (m : Memory) (t : List ℕ) (n : ℕ) (ws out gs : List ℕ) (e : Refused MemberPosition) →
    Answers m t n ws (Err e) → Places m t n ws out gs (Err e) out gs
places_none m t n ws out gs e answers =
    record { answers = answers; offsets = untouched offsets_of _ _ _ out answers.answer; gaps = untouched gaps_of _ _ _ gs answers.answer }

answered : (a : Answer Padded) (f : Layout) → ok f ≡ layout_part a → (q : Padded) × (a ≡ ok q)
unfolding then
answered (ok q) f e = (q, refl)
answered (refused x p) f e = impossible (cc)

written :
    (words : Padded → List ℕ) (a : Answer Padded) (q : Padded) (os out after : List ℕ) (n : ℕ) →
    a ≡ ok q → words q ≡ os → length os ≡ n → after ≡ os ++ drop n out → after ≡ buffer_after words a out
unfolding buffer_after
written words a q os out after n e f l w = rw (e, f, l) w

module _ (m : Memory) (t : List ℕ) (n : ℕ) (ws : List ℕ) (w : Whole) (answers : Answers m t n ws (Ok w)) where
  pub placed_so : (q : Padded) × (padded_refs m t n ws ≡ ok q)
  placed_so = answered (padded_refs m t n ws) (whole_means w) answers.answer

  pub places_all :
      (os hs out gs out' gs' : List ℕ) →
      offsets_of placed_so.0 ≡ os → gaps_of placed_so.0 ≡ hs → length os ≡ length ws → length hs ≡ length ws →
      out' ≡ os ++ drop (length ws) out → gs' ≡ hs ++ drop (length ws) gs → Places m t n ws out gs (Ok w) out' gs'
  places_all os hs out gs out' gs' f g k l e h =
      record {
        answers = answers;
        offsets = written offsets_of _ placed_so.0 os out out' (length ws) placed_so.1 f k e;
        gaps = written gaps_of _ placed_so.0 hs gs gs' (length ws) placed_so.1 g l h;
      }
