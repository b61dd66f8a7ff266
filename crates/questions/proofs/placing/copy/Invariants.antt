-- The words so far are those of the stage, the others as they were (`copy_turn`).
use Rattle.std.proofs.Common.{◌≡◌, ◌++◌, take, drop}
use Rattle.questions.specs.Steps.{staged_offsets, staged_gaps}
use Rattle.questions.proofs.placing.copy.Given as goal

abbrev pub invariant-loop-k : goal.invariant-loop-k
invariant-loop-k l = record {
  offsets : l.out ≡ staged_offsets (take l.k l.stage) ++ drop l.k l.fn.out;
  befores : l.gaps ≡ staged_gaps (take l.k l.stage) ++ drop l.k l.fn.gaps;
}
