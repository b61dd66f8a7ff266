-- As many rows are read back as of the key and of the value.
use mathlib.Core.List.{[], ◌∷◌}
use native.Mathlib.Omega.{arith}
use Rattle.canon.proofs.Costs.{rows_among_most, rows_append}
use Rattle.build.proofs.members.map_row.Goals as goal

pub overflow_add-result : goal.overflow_add-result
overflow_add-result c =
    let a = c.args in
    omega (arith, c.in_ok-key.ensures.reads, c.in_ok-value.ensures.reads, rows_among_most (a.key ∷ []), rows_among_most (a.value ∷ []))

pub returns-clause-reads : goal.returns-clause-reads
returns-clause-reads c =
    let a = c.args in
    omega (arith, c.in_ok-key.ensures.reads, c.in_ok-value.ensures.reads, rows_append (a.key ∷ []) (a.value ∷ []))
