-- These infos have been read, and what was gathered is what they give together (`goes_on`, `with_more_lem`).
use Rattle.std.proofs.Common.{◌≡◌, List}
use Rattle.canon.specs.Row.{Info}
use Rattle.canon.specs.Question.{read}
use Rattle.types.specs.Means.{memory_of}
use Rattle.questions.specs.Gathers.{together}
use Rattle.questions.specs.Means.{gathering_means}
use Rattle.questions.proofs.References.{Read}
use Rattle.questions.proofs.list.gather_all.Given as goal

abbrev pub invariant-loop-k : goal.invariant-loop-k
invariant-loop-k l =
    (done : List Info) × Read (read l.rows.table.now l.rows.n) l.references.words.now l.k done × (gathering_means l.all ≡ together (memory_of l.memory) done)
