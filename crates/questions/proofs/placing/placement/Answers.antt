-- The tests before the references, in their order (`Promised`).
use Rattle.std.proofs.Common.{arith, ◌<◌, ◌≤◌, ap, ℕ, length}
use Rattle.canon.specs.Gaps.{room_of}
use Rattle.types.specs.Means.{memory_of, number_of}
use Rattle.table.specs.declared.info.MemberPosition.{MemberPosition}
use Rattle.table.specs.declared.refused.Refused.{Refused}
use Rattle.questions.proofs.Asking.{too_long_so, bad_row_so, no_room_so, placed_so}
use Rattle.questions.proofs.placing.placement.Goals.{then-out-references-via-then-out-references, then-out-references-via-else-out-references+then-gaps-references}
use Rattle.questions.proofs.placing.placement.Goals as goal

abbrev why_of : Refused MemberPosition → ℕ
why_of e = number_of e.why

abbrev place_of : Refused MemberPosition → ℕ
place_of e = e.at.0

pub returns-in_default : goal.returns-in_default
returns-in_default c =
    let a = c.args in
    let e = c.refused.ensures in
    let p = too_long_so (memory_of a.memory) a.table.now a.n a.references.now a.out.now a.gaps.now c.refused.result (ap why_of e) (ap place_of e) c.in_default.ensures in
    record { answer = p.answer; out_after = p.out_after; reads = p.reads; gaps_after = p.gaps_after; after = p.after }

pub returns-in_default-of : goal.returns-in_default-of
returns-in_default-of c =
    let a = c.args in
    let e = c.refused-in_default-of.ensures in
    let p =
    bad_row_so (memory_of a.memory) a.table.now a.n a.references.now a.out.now a.gaps.now c.in-Some.ensures.0 c.refused-in_default-of.result (ap why_of e) (ap place_of e)
    c.in_default-of.ensures in
    record { answer = p.answer; out_after = p.out_after; reads = p.reads; gaps_after = p.gaps_after; after = p.after }

pub returns-then-out-references : goal.returns-then-out-references
returns-then-out-references c =
    let a = c.args in
    let few = c.in-Some.ensures in
    let short : room_of a.out.now a.gaps.now < length a.references.now = elim c.then-out-references.branch [
      | then-out-references-via-then-out-references w ↦ omega (arith, w.if-out-references.true, ap length few.1)
      | then-out-references-via-else-out-references+then-gaps-references w ↦ omega (arith, w.if-gaps-references.true, ap length few.1)
    ] in
    let e = c.refused-then-out-references.ensures in
    let p =
    no_room_so (memory_of a.memory) a.table.now a.n a.references.now a.out.now a.gaps.now few.0 c.in-Some-of.ensures.0 c.refused-then-out-references.result (ap why_of e)
    (ap place_of e) short in
    record { answer = p.answer; out_after = p.out_after; reads = p.reads; gaps_after = p.gaps_after; after = p.after }

pub returns : goal.returns
returns c =
    let a = c.args in
    let few = c.in-Some.ensures in
    let there = c.in-Some-of.ensures in
    let fits : length a.references.now ≤ room_of a.out.now a.gaps.now =
    omega (arith, c.if-out-references.false, c.if-gaps-references.false, ap length few.1) in
    let p =
    placed_so (memory_of a.memory) a.table.now a.n a.references.now a.out.now a.gaps.now few.0 there.0 c.place_all.result c.place_all.new.out c.place_all.new.gaps fits
    (rw (few.1, there.1, there.2) at c.place_all.ensures) in
    record { answer = p.answer; out_after = p.out_after; reads = p.reads; gaps_after = p.gaps_after; after = p.after }
