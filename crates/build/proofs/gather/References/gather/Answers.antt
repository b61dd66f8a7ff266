-- One turn, a reference that is refused, the end.
use native.Mathlib.Omega.{arith}
use Rattle.canon.proofs.Costs.{rows_among_most}
use Rattle.build.proofs.Folding.{turn, stop, over, reads_on, reads_over}
use Rattle.build.proofs.gather.References.gather.Goals as goal

pub returns-in_err-more-clause-value : goal.returns-in_err-more-clause-value
returns-in_err-more-clause-value g c =
    let l = c.loop-reference in
    let told = stop _ _ l.reference-index _ l.invariant.1 _ c.in_err-more.ensures.value c.loop-reference-test.true in
    grind (arith, told)

pub overflow_add-reads : goal.overflow_add-reads
overflow_add-reads g c =
    let a = c.args in
    let l = c.loop-reference in
    omega (arith, l.invariant.2, c.in_ok-more.ensures.reads, reads_on a.self.words.now l.reference-index c.loop-reference-test.true, rows_among_most a.self.words.now, a.self.few)

pub loop-reference-preserved : goal.loop-reference-preserved
loop-reference-preserved g c =
    let a = c.args in
    let l = c.loop-reference in (
      omega arith,
      turn _ _ l.reference-index _ l.invariant.1 _ c.in_ok-more.ensures.value c.loop-reference-test.true,
      omega (arith, l.invariant.2, c.in_ok-more.ensures.reads, reads_on a.self.words.now l.reference-index c.loop-reference-test.true),
    )

pub returns-clause-value : goal.returns-clause-value
returns-clause-value g c = let l = c.loop-reference in over _ _ l.reference-index _ l.invariant.1 c.loop-reference-test.false

pub returns-clause-reads : goal.returns-clause-reads
returns-clause-reads g c =
    let l = c.loop-reference in
    omega (arith, l.invariant.2, reads_over c.args.self.words.now l.reference-index c.loop-reference-test.false)
