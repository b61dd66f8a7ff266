-- A placement's tests before any reference is read, in their order, and what it answers and writes behind them.
use mathlib.Core.Path.{◌≡◌}
use mathlib.Core.Bool.{true, false}
use mathlib.Core.List.{List}
use Prim.Native.Nat.{ℕ, ◌≤◌, ◌<◌}
use lib.ListN.{length}
use borrow.Author.Tests.{lt-ltb, le-ltb}
use Rattle.std.specs.Prelude.{Result, Err}
use Rattle.canon.specs.Answer.{refused, then, unless, too_long, no_room, bad_row}
use Rattle.canon.specs.Cost.{placement_reads}
use Rattle.canon.specs.Gaps.{room_of, padding, gaps_after, after_answer}
use Rattle.canon.specs.Layout.{Memory}
use Rattle.canon.specs.Question.{ask, no_table, too_many, placement_answer, buffer_after, offsets_after}
use Rattle.canon.proofs.Gaps.{placement_padded, offsets_padded}
use Rattle.types.specs.Means.{number_of}
use Rattle.table.specs.Means.{answer, member_place}
use Rattle.table.specs.declared.info.MemberPosition.{MemberPosition}
use Rattle.table.specs.declared.refused.Refused.{Refused}
use Rattle.questions.specs.Means.{whole_means, whole_reads, after_means}
use Rattle.questions.specs.Steps.{Places}
use Rattle.questions.specs.declared.answer.Whole.{Whole}

module _ (m : Memory) (t : List ℕ) (n : ℕ) (ws out gs : List ℕ) where
  abbrev room : ℕ
  room = room_of out gs

  -- what a placement promises
  pub record Promised (r : Result Whole (Refused MemberPosition)) (out' gs' : List ℕ) : Type 0 where
    pub answer : answer member_place whole_means r ≡ placement_answer m t n ws room
    pub out_after : out' ≡ offsets_after m t n ws room out
    pub reads : whole_reads r ≡ placement_reads m t n ws room
    pub gaps_after : gs' ≡ gaps_after m t n ws room gs
    pub after : after_means r ≡ after_answer m t n ws room

  refused_so : (e : Refused MemberPosition) → padding m t n ws room ≡ refused (number_of e.why) e.at.0 → Promised (Err e) out gs
  unfolding placement_reads after_answer then buffer_after
  refused_so e p =
      record {
        answer = rw (placement_padded m t n ws room, p);
        out_after = rw (offsets_padded m t n ws room out, p);
        reads = rw (placement_padded m t n ws room, p);
        gaps_after = rw p;
        after = rw p;
      }

  pub too_long_so : (e : Refused MemberPosition) → number_of e.why ≡ too_long → e.at.0 ≡ 0 → too_many ws ≡ true → Promised (Err e) out gs
  unfolding padding ask unless
  too_long_so e f g many = refused_so e (rw (many, f, g))

  module _ (few : too_many ws ≡ false) where
    pub bad_row_so : (e : Refused MemberPosition) → number_of e.why ≡ bad_row → e.at.0 ≡ 0 → no_table t n ≡ true → Promised (Err e) out gs
    unfolding padding ask unless
    bad_row_so e f g missing = refused_so e (rw (few, missing, f, g))

    module _ (there : no_table t n ≡ false) where
      pub no_room_so : (e : Refused MemberPosition) → number_of e.why ≡ no_room → e.at.0 ≡ 0 → room < length ws → Promised (Err e) out gs
      unfolding padding ask unless
      no_room_so e f g short = refused_so e (rw (few, there, lt-ltb room (length ws) short, f, g))

      -- the references are read
      pub placed_so :
          (r : Result Whole (Refused MemberPosition)) (out' gs' : List ℕ) → length ws ≤ room → Places m t n ws out gs r out' gs' → Promised r out' gs'
      unfolding placement_reads after_answer padding ask unless
      placed_so r out' gs' fits p =
          let f = le-ltb room (length ws) fits in
          record {
            answer = rw (placement_padded m t n ws room, few, there, f) p.answers.answer;
            out_after = rw (offsets_padded m t n ws room out, few, there, f) p.offsets;
            reads = rw (placement_padded m t n ws room, few, there, f) p.answers.reads;
            gaps_after = rw (few, there, f) p.gaps;
            after = rw (few, there, f) p.answers.after;
          }
