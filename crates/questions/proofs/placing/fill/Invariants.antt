-- What was read so far stands, and its offsets and gaps are staged (`Passed`, `staged_more`).
use Rattle.std.proofs.Common.{take}
use Rattle.canon.specs.Question.{layouts_in}
use Rattle.types.specs.Means.{memory_of}
use Rattle.questions.specs.Steps.{staged_offsets, staged_gaps}
use Rattle.questions.proofs.Members.{Staged}
use Rattle.questions.proofs.Passing.{Passed}
use Rattle.questions.proofs.placing.fill.Given as goal

abbrev pub invariant-loop-k : goal.invariant-loop-k
invariant-loop-k l =
    (passed : Passed (memory_of l.memory) l.rows.table.now l.rows.n l.references.words.now l.k l.placed l.reads)
    × Staged (staged_offsets (take l.k l.stage)) (staged_gaps (take l.k l.stage)) (layouts_in (memory_of l.memory) passed.done)
