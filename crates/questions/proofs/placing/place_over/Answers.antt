-- What was staged is copied where all is accepted (`places_all`); else nothing is written (`places_none`).
use Rattle.std.proofs.Common.{rules, ◌≡◌, ◌∙◌, length, take}
use lib.ListN.{length-map}
use lib.Seq.{length-take-le}
use Rattle.std.specs.Prelude.{Err}
use Rattle.types.specs.Means.{memory_of}
use Rattle.questions.specs.Steps.{staged_offsets, staged_gaps}
use Rattle.questions.specs.declared.placing.Staged.{Staged}
use Rattle.questions.proofs.Passing.{places_none, placed_so, places_all}
use Rattle.questions.proofs.placing.place_over.Goals as goal

pub returns-in_err-whole : goal.returns-in_err-whole
returns-in_err-whole c =
    let a = c.args in
    let e : c.from_residual.result ≡ Err c.in_err-whole.field-0.0 = search rules in
    rw e
    (places_none (memory_of a.memory) a.rows.table.now a.rows.n a.references.words.now a.out.now a.gaps.now c.in_err-whole.field-0.0
    (rw c.in_err-whole.was at c.fill.ensures.answers))

pub returns : goal.returns
returns c =
    let a = c.args in
    let stage = c.fill.new.stage in
    let refs = a.references.words.now in
    let answers = rw c.in_ok-whole.was at c.fill.ensures.answers in
    let m = memory_of a.memory in
    let p = placed_so m a.rows.table.now a.rows.n refs c.in_ok-whole.whole answers in
    let stages = c.fill.ensures.stages p.0 p.1 in
    let all = length-take-le (length refs) stage (search rules) in
    places_all m a.rows.table.now a.rows.n refs c.in_ok-whole.whole answers
    (staged_offsets (take (length refs) stage)) (staged_gaps (take (length refs) stage)) _ _ _ _
    stages.offsets stages.gaps
    (length-map (take (length refs) stage) (λ (s : Staged). s.offset) ∙ all)
    (length-map (take (length refs) stage) (λ (s : Staged). s.gap) ∙ all)
    (rw all at c.copy.ensures.out_after) (rw all at c.copy.ensures.gaps_after)
