-- The words so far are those of the stage, the others as they were (`copy_turn`).
use Rattle.std.proofs.Common.{arith, refl}
use native.Mathlib.Nat.{le_antisymm}
use lib.Seq.{take_all}
use Rattle.questions.specs.declared.placing.Staged.{Staged}
use Rattle.questions.proofs.Memos.{copy_turn}
use Rattle.questions.proofs.placing.copy.Goals as goal

pub loop-k-init : goal.loop-k-init
loop-k-init c = record { offsets = refl; befores = refl }

pub loop-k-preserved : goal.loop-k-preserved
loop-k-preserved c =
    let a = c.args in
    let l = c.loop-k in
    let none : Staged = record { offset = 0; gap = 0 } in
    record {
      offsets = rw l.invariant.offsets (copy_turn (λ (s : Staged). s.offset) a.stage.now none a.out.now l.k (omega arith) (omega arith));
      befores = rw l.invariant.befores (copy_turn (λ (s : Staged). s.gap) a.stage.now none a.gaps.now l.k (omega arith) (omega arith));
    }

pub returns-clause-out_after : goal.returns-clause-out_after
returns-clause-out_after c =
    let l = c.loop-k in
    rw (← le_antisymm l.auto.k-end c.loop-k-test.false, ← take_all l.k c.args.stage.now c.loop-k-test.false) l.invariant.offsets

pub returns-clause-gaps_after : goal.returns-clause-gaps_after
returns-clause-gaps_after c =
    let l = c.loop-k in
    rw (← le_antisymm l.auto.k-end c.loop-k-test.false, ← take_all l.k c.args.stage.now c.loop-k-test.false) l.invariant.befores
