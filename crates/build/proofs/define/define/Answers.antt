-- The head, then the row of its kind.
use mathlib.Core.Path.{sym, ap, ◌∙◌}
use native.Mathlib.Omega.{arith}
use Rattle.canon.specs.Cost.{rows_among}
use Rattle.head.proofs.Laws.{head_spans}
use Rattle.build.proofs.DefinitionLaws.{references_behind_lem}
use Rattle.build.proofs.define.define.Goals as goal

pub kind_row-requires : goal.kind_row-requires
kind_row-requires c =
    let a = c.args in ((head_spans a.words.now a.at _ (sym c.in_ok-heading.ensures)).1, omega arith)

pub returns-clause-reads : goal.returns-clause-reads
returns-clause-reads c =
    let a = c.args in
    c.map.ensures.reads ∙ c.in_ok-kind_row.ensures.reads ∙ ap rows_among (references_behind_lem a.words.now a.at _ (sym c.in_ok-heading.ensures))
