-- The steps of the inner functions, as the code takes them; proofs/ carries them to canon.
use Rattle.std.specs.Prelude.{cond, ◌||◌, List, map, ◌≡◌, ℕ, ◌%◌, ◌<◌, ◌≤◌, length, get_or, Result, Option, Some, None, IsSome, unwrap_or}
use Rattle.canon.specs.Answer.{Leaf, is, and_then, Answer, ok, refused, then, too_large}
use Rattle.canon.specs.Layout.{Memory, Layout, starts, last_end, largest_number}
use Rattle.canon.specs.Row.{Info, flat_of, info_layout}
use Rattle.canon.specs.Question.{read, infos, layouts_in, buffer_after}
use Rattle.canon.specs.Cost.{rows_among, reported}
use Rattle.canon.specs.Gaps as canon_gaps
use Rattle.canon.specs.Gaps.{Padded, padded, offsets_of, gaps_of}
use Rattle.canon.proofs.Tightest.{Aligned}
use Rattle.canon.specs.Placement.{four_gib}
use Rattle.types.specs.Extents.{start_extent, member_of, closing, is_large, layout_of}
use Rattle.types.specs.Means.{layout_means}
use Rattle.types.specs.declared.extent.Extent.{Extent}
use Rattle.types.specs.declared.extent.Layout as code
use Rattle.flat_types.specs.Lists.{packed}
use Rattle.flat_types.specs.Places.{append_to}
use Rattle.table.specs.Means.{answer, member_place}
use Rattle.table.specs.declared.info.MemberPosition.{MemberPosition}
use Rattle.table.specs.declared.refused.Refused.{Refused}
use Rattle.questions.specs.Gathers.{Together, Two, together_two}
use Rattle.questions.specs.Means.{whole_means, whole_reads, after_means}
use Rattle.questions.specs.declared.answer.Whole.{Whole}
use Rattle.questions.specs.declared.placed.Placed.{Placed}
use Rattle.questions.specs.declared.placing.Staged.{Staged}

-- what a question takes of what is read
abbrev pub part : {A : Type 0} → (Info → A) → Leaf Info → Leaf A
part f l = and_then l (λ i. is (f i))

-- Lists

-- what one info gives
abbrev pub alone : Memory → Info → Together
alone m i = record { flat = packed (flat_of m i); borrow = i.reach.borrow }

-- and one more
abbrev pub with_more : Together → Together → Together
with_more g h = record { flat = append_to 16 g.flat h.flat; borrow = g.borrow || h.borrow }

-- what two lists give after the tests before them
abbrev pub two_refs : List ℕ → ℕ → Memory → List ℕ → Memory → List ℕ → Answer Two
two_refs t n a vs b ws = then (infos (read t n) 0 vs) (λ is'. then (infos (read t n) (length vs) ws) (λ js. ok (together_two a is' b js)))

-- Placement

abbrev pub member_layout : Memory → List ℕ → ℕ → ℕ → Leaf Layout
member_layout m t n w = part (info_layout m) (read t n w)

abbrev pub start_place : Placed
start_place = record { extent = start_extent; offset = 0; gap = 0; over = record { 0 = 0 } }

-- one member more at a position; it is remembered while the members before it fit
unfoldable pub next_place : Placed → Layout → MemberPosition → Placed
next_place p f k =
    record {
      extent = (member_of p.extent f).extent;
      offset = (member_of p.extent f).start % four_gib;
      gap = (member_of p.extent f).skipped;
      over = cond (is_large p.extent) p.over k;
    }

abbrev closed : Extent → Answer Layout
closed x = cond (is_large x) (refused too_large 0) (ok (layout_of x))

unfoldable pub finished : Placed → Answer Layout
finished p = cond (is_large p.extent) (refused too_large p.over.0) (closed (closing p.extent).extent)

-- what closing it skips, where it is not refused
unfoldable pub finished_gap : Placed → Answer ℕ
finished_gap p = then (finished p) (λ f. ok (closing p.extent).skipped)

-- the placement of references after the tests before them, with its gaps
abbrev pub padded_refs : Memory → List ℕ → ℕ → List ℕ → Answer Padded
padded_refs m t n ws = then (infos (read t n) 0 ws) (λ is'. padded (layouts_in m is'))

abbrev pub layout_part : Answer Padded → Answer Layout
layout_part a = then a (λ q. ok q.placing.layout)

abbrev pub after_part : Answer Padded → Answer ℕ
after_part a = then a (λ q. ok q.after)

-- it is answered, with the rows that were read back and the gap after the last
pub record Answers (m : Memory) (t : List ℕ) (n : ℕ) (ws : List ℕ) (r : Result Whole (Refused MemberPosition)) : Type 0 where
  pub answer : answer member_place whole_means r ≡ layout_part (padded_refs m t n ws)
  pub reads : whole_reads r ≡ reported (layout_part (padded_refs m t n ws)) (rows_among ws)
  pub after : after_means r ≡ after_part (padded_refs m t n ws)

-- and the buffers are what it leaves there
pub record Places (m : Memory) (t : List ℕ) (n : ℕ) (ws out gs : List ℕ) (r : Result Whole (Refused MemberPosition)) (out' gs' : List ℕ) : Type 0 where
  pub answers : Answers m t n ws r
  pub offsets : out' ≡ buffer_after offsets_of (padded_refs m t n ws) out
  pub gaps : gs' ≡ buffer_after gaps_of (padded_refs m t n ws) gs

-- staged: the offset and the gap of each member

abbrev pub staged_offsets : List Staged → List ℕ
staged_offsets ss = map (λ (s : Staged). s.offset) ss

abbrev pub staged_gaps : List Staged → List ℕ
staged_gaps ss = map (λ (s : Staged). s.gap) ss

pub record Stages (stage : List Staged) (q : Padded) : Type 0 where
  pub offsets : offsets_of q ≡ staged_offsets stage
  pub gaps : gaps_of q ≡ staged_gaps stage

-- The memo: for each reference the layout that was read, if it was

abbrev pub at_place : List (Option code.Layout) → ℕ → Option code.Layout
at_place memo w = get_or memo w None

-- what is there is what the reference gives
abbrev pub Remembers : (ℕ → Leaf Layout) → List (Option code.Layout) → Type 0
Remembers look memo = (w : ℕ) (f : code.Layout) → at_place memo w ≡ Some f → look w ≡ is (layout_means f)

-- after a reference was looked up: nothing is forgotten, and where it gives a layout it is there
pub record Recalled (look : ℕ → Leaf Layout) (w : ℕ) (before after : List (Option code.Layout)) : Type 0 where
  pub holds : Remembers look after
  pub keeps : (v : ℕ) → IsSome (at_place before v) → IsSome (at_place after v)
  pub found : (f : Layout) → look w ≡ is f → IsSome (at_place after w)

-- the layout that is there; what stands for one that is not is never asked for
abbrev pub layout_at : List (Option code.Layout) → ℕ → Layout
layout_at memo w = layout_means (unwrap_or (at_place memo w) (record { size = 0; align = 0 }))

-- the layouts of references that are all there
abbrev pub known : List (Option code.Layout) → List ℕ → List Layout
known memo ws = map (λ (w : ℕ). layout_at memo w) ws

-- all are there, and they fit one after another
pub record AllKnown (memo : List (Option code.Layout)) (ws : List ℕ) : Type 0 where
  pub there : (k : ℕ) → k < length ws → IsSome (at_place memo (get_or ws k 0))
  pub aligned : Aligned (known memo ws)
  pub fits : last_end 0 (known memo ws) ≤ largest_number

-- and the placement has their offsets and gaps
pub record Ready (memo : List (Option code.Layout)) (ws : List ℕ) (q : Padded) : Type 0 where
  pub all : AllKnown memo ws
  pub offsets : offsets_of q ≡ starts 0 (known memo ws)
  pub gaps : gaps_of q ≡ canon_gaps.gaps 0 (known memo ws)
