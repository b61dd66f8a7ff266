-- What was read so far stands, and the memo has it (`Passed`, `Recalled`).
use Rattle.std.proofs.Common.{ℕ, ◌<◌, get_or}
use Rattle.std.specs.Prelude.{IsSome}
use Rattle.types.specs.Means.{memory_of}
use Rattle.questions.specs.Steps.{member_layout, at_place, Remembers}
use Rattle.questions.proofs.Passing.{Passed}
use Rattle.questions.proofs.placing.judge.Given as goal

abbrev pub invariant-loop-k : goal.invariant-loop-k
invariant-loop-k l = record {
  passed : Passed (memory_of l.memory) l.rows.table.now l.rows.n l.references.words.now l.k l.placed l.reads;
  remembers : Remembers (member_layout (memory_of l.memory) l.rows.table.now l.rows.n) l.memo;
  there : (j : ℕ) → j < l.k → IsSome (at_place l.memo (get_or l.references.words.now j 0));
}
