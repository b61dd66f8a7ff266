-- What was read so far stands, and its offsets and gaps are staged (`Passed`, `staged_more`).
use Rattle.std.proofs.Common.{rules, arith, ◌≡◌, refl, sym, ap, ◌∙◌, [], ◌∷◌, get_or}
use native.Mathlib.Nat.{le_antisymm}
use Rattle.std.specs.Prelude.{Result, Ok, Err}
use Rattle.canon.proofs.Costs.{rows_among_most}
use Rattle.canon.specs.Layout.{starts}
use Rattle.canon.specs.Gaps.{gaps}
use Rattle.canon.specs.Question.{layouts_in}
use Rattle.types.specs.Means.{leaf, memory_of, layout_means}
use Rattle.types.specs.declared.refusal.Refusal.{Refusal}
use Rattle.questions.specs.Means.{member_means}
use Rattle.questions.specs.declared.member.Member.{Member}
use Rattle.questions.proofs.Members.{layouts_more, staged_more}
use Rattle.questions.proofs.Passing.{none_passed, few_passed, found, found_aligned, one_passed, one_refused, all_passed, all_starts}
use Rattle.questions.proofs.placing.fill.Goals as goal

pub loop-k-init : goal.loop-k-init
unfolding starts gaps none_passed
loop-k-init c =
    let a = c.args in
    (none_passed (memory_of a.memory) a.rows.table.now a.rows.n a.references.words.now, λ h. (refl, refl))

refused : (c : goal.After-from_residual) → (x : Refusal) × (c.read_member.result ≡ Err x) × (c.from_residual.result ≡ Err (record { why = x; at = record { 0 = c.loop-k.k } }))
refused c = search rules

pub returns-in_err-member : goal.returns-in_err-member
returns-in_err-member c =
    let a = c.args in
    let l = c.loop-k in
    let e = refused c in
    let g =
    one_refused (memory_of a.memory) a.rows.table.now a.rows.n a.references.words.now l.k l.placed l.reads l.invariant.0 e.0
    (sym (ap (λ (r : Result Member Refusal). leaf member_means r) e.1) ∙ c.read_member.ensures.result_value) c.loop-k-test.true in
    record { answers = rw e.2 g.0; stages = λ q f. absurd (g.1 q f) }

pub overflow_add-reads : goal.overflow_add-reads
overflow_add-reads c =
    let a = c.args in
    let l = c.loop-k in
    let e : c.read_member.result ≡ Ok c.in_ok-member.member = search rules in
    record {
      fits = omega (
        arith,
        few_passed (memory_of a.memory) a.rows.table.now a.rows.n a.references.words.now l.k l.placed l.reads l.invariant.0 l.auto.k-end,
        a.references.few,
        rows_among_most (get_or a.references.words.now l.k 0 ∷ []),
        rw e at c.read_member.ensures.member_reads,
      );
    }

pub loop-k-preserved : goal.loop-k-preserved
unfolding one_passed
loop-k-preserved c =
    let a = c.args in
    let l = c.loop-k in
    let m = memory_of a.memory in
    let t = a.rows.table.now in
    let ws = a.references.words.now in
    let e : c.read_member.result ≡ Ok c.in_ok-member.member = search rules in
    let f = layout_means c.in_ok-member.member.layout in
    let p = l.invariant.0 in
    let gives = sym (ap (λ (r : Result Member Refusal). leaf member_means r) e) ∙ c.read_member.ensures.result_value in
    let test = c.loop-k-test.true in
    let found-al = found_aligned m t a.rows.n ws l.k l.placed l.reads p f gives test in
    let i = found m t a.rows.n ws l.k l.placed l.reads p f gives test in (
      one_passed m t a.rows.n ws l.k l.placed l.reads p f gives test c.in_ok-member.member.reads c.next-placed.result (rw e at c.read_member.ensures.member_reads) c.next-placed.ensures,
      rw (layouts_more m p.done i.0, i.2)
          (staged_more l.placed (layouts_in m p.done) l.k p.stands f found-al c.next-placed.result c.next-placed.ensures l.stage l.invariant.1 (omega (arith, test, c.requires))),
    )

pub returns-clause-answers : goal.returns-clause-answers
returns-clause-answers c =
    let a = c.args in
    let l = c.loop-k in
    let f = c.finish.ensures in
    all_passed (memory_of a.memory) a.rows.table.now a.rows.n a.references.words.now l.k l.placed l.reads l.invariant.0 c.loop-k-test.false
    c.finish.result f.value f.reads f.after

pub returns-clause-stages : goal.returns-clause-stages
returns-clause-stages c q e =
    let a = c.args in
    let l = c.loop-k in
    let b = all_starts (memory_of a.memory) a.rows.table.now a.rows.n a.references.words.now l.k l.placed l.reads l.invariant.0 c.loop-k-test.false q e in
    let staged = l.invariant.1 b.2 in
    rw (← le_antisymm l.auto.k-end c.loop-k-test.false) (record { offsets = b.0 ∙ sym staged.0; gaps = b.1 ∙ sym staged.1 })
