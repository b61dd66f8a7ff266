-- What is read, in one memory: its flat words as they stand, and its borrow (`read_alone`).
use mathlib.Core.Path.{◌≡◌, refl, sym, ap, ap₂, ◌∙◌}
use mathlib.Core.Bool.{Bool}
use Rattle.std.specs.Prelude.{Result}
use Rattle.canon.specs.Answer.{is, and_then}
use Rattle.canon.specs.Pack.{Packed}
use Rattle.canon.specs.Row.{word, row_info}
use Rattle.canon.specs.Question.{read}
use Rattle.types.specs.Means.{leaf, memory_of}
use Rattle.types.specs.declared.refusal.Refusal.{Refusal}
use Rattle.table.specs.Means.{reach_means, info_means}
use Rattle.table.specs.Rows.{row_in}
use Rattle.table.specs.declared.info.DefinitionIndex.{DefinitionIndex}
use Rattle.table.specs.declared.info.Info.{Info}
use Rattle.table.specs.declared.reach.Reach.{Reach}
use Rattle.questions.proofs.References.{read_plain}
use Rattle.questions.proofs.WellFormed.{read_alone}
use Rattle.questions.proofs.list.read_next.Goals as goal

pub returns-then-reference-lt-FIRST_DEFINITION : goal.returns-then-reference-lt-FIRST_DEFINITION
unfolding and_then
returns-then-reference-lt-FIRST_DEFINITION c =
    let a = c.args in
    let i = c.in_ok-info.info in
    let e : read a.rows.table.now a.rows.n a.reference ≡ is (info_means i) =
    read_plain a.rows.table.now a.rows.n a.reference c.if-reference-lt-FIRST_DEFINITION.true
    ∙ sym c.plain_info.ensures ∙ ap (λ (r : Result Info Refusal). leaf info_means r) c.in_ok-info.was in
    rw e
    (ap₂ (λ (p : Packed) (b : Bool). is (record { flat = p; borrow = b })) c.in_memory.ensures c.is_borrow.ensures
    ∙ ap is (read_alone (memory_of a.memory) a.rows.table.now a.rows.n a.reference i.flat.count (info_means i) e refl))

pub returns : goal.returns
unfolding and_then
returns c =
    let a = c.args in
    let r = row_in a.rows.table.now c.in_ok-index.index.0 in
    let e : read a.rows.table.now a.rows.n a.reference ≡ is (row_info r) =
    sym c.good_row.ensures
    ∙ ap (λ (x : Result DefinitionIndex Refusal). leaf (λ (j : DefinitionIndex). row_info (row_in a.rows.table.now j.0)) x) c.in_ok-index.was in
    let b = c.is_borrow-2.ensures ∙ ap (λ (x : Reach). (reach_means x).borrow) c.row_reach.ensures in
    rw e
    (ap₂ (λ (p : Packed) (x : Bool). is (record { flat = p; borrow = x })) c.row_flat.ensures b
    ∙ ap is (read_alone (memory_of a.memory) a.rows.table.now a.rows.n a.reference (word r 5) (row_info r) e refl))
