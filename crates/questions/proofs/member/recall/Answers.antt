-- What is known is what the reference gives; what was not is put at its place, which is there (`gives_layout`).
use Rattle.std.proofs.Common.{arith, ◌≡◌, refl, sym, ap, ◌∙◌}
use Rattle.std.specs.Prelude.{Result, Option, Some, None, unwrap_or}
use Rattle.canon.specs.Answer.{is}
use Rattle.canon.proofs.Costs.{below_mark_read}
use Rattle.types.specs.Means.{leaf, memory_of, layout_means}
use Rattle.types.specs.declared.extent.Layout as code
use Rattle.types.specs.declared.refusal.Refusal.{Refusal}
use Rattle.questions.specs.Means.{member_means}
use Rattle.questions.specs.Steps.{member_layout, at_place}
use Rattle.questions.specs.declared.member.Member.{Member}
use Rattle.questions.proofs.Memos.{gives_layout, recalled_new, there_below}
use Rattle.questions.proofs.member.recall.Goals as goal

there : (c : goal.After-reads_of) → at_place c.args.memo.now c.args.reference ≡ Some c.in-Some-Some.layout
there c =
    sym (c.get.ensures.lookup.4 (omega arith) None)
    ∙ ap (λ (o : Option (Option code.Layout)). unwrap_or o None) (sym c.copied.ensures ∙ c.in-Some-Some.is ∙ ap Some c.in-Some-Some.field-0-is)

pub returns-in-Some-Some-clause-result_value : goal.returns-in-Some-Some-clause-result_value
returns-in-Some-Some-clause-result_value c = sym (c.requires c.args.reference c.in-Some-Some.layout (there c))

pub returns-in-Some-Some-clause-member_reads : goal.returns-in-Some-Some-clause-member_reads
returns-in-Some-Some-clause-member_reads c =
    let a = c.args in
    c.reads_of.ensures ∙ below_mark_read a.reference (omega (arith, there_below a.memo.now a.reference (rw (there c) refl)))

pub bounds-memo-at : goal.bounds-memo-at
bounds-memo-at c =
    let a = c.args in
    let f = layout_means c.in_ok-member.member.layout in
    let e : is f ≡ member_layout (memory_of a.memory) a.rows.table.now a.rows.n a.reference =
    sym (ap (λ (r : Result Member Refusal). leaf member_means r) c.in_ok-member.was) ∙ c.read_member.ensures.result_value in
    gives_layout (memory_of a.memory) a.rows.table.now a.rows.n a.reference a.rows.there f e

pub returns-clause-recalled : goal.returns-clause-recalled
returns-clause-recalled c =
    let a = c.args in
    let f = c.in_ok-member.member.layout in
    let e : is (layout_means f) ≡ member_layout (memory_of a.memory) a.rows.table.now a.rows.n a.reference =
    sym (ap (λ (r : Result Member Refusal). leaf member_means r) c.in_ok-member.was) ∙ c.read_member.ensures.result_value in
    let g = gives_layout (memory_of a.memory) a.rows.table.now a.rows.n a.reference a.rows.there (layout_means f) e in
    recalled_new (member_layout (memory_of a.memory) a.rows.table.now a.rows.n) a.reference a.memo.now c.requires f (sym e) (omega arith)
