-- What was read so far stands, and the memo has it (`Passed`, `Recalled`).
use Rattle.std.proofs.Common.{rules, arith, ◌≡◌, sym, ap, ◌∙◌, [], ◌∷◌, get_or}
use native.Mathlib.Nat.{le_antisymm}
use borrow.Author.Count.{below_more}
use Rattle.std.specs.Prelude.{Result, Ok, Err}
use Rattle.canon.proofs.Costs.{rows_among_most}
use Rattle.types.specs.Means.{leaf, memory_of, layout_means}
use Rattle.types.specs.declared.refusal.Refusal.{Refusal}
use Rattle.questions.specs.Means.{member_means}
use Rattle.questions.specs.declared.member.Member.{Member}
use Rattle.questions.proofs.Memos.{known_all}
use Rattle.questions.proofs.Passing.{none_passed, few_passed, one_passed, one_refused, all_read, all_passed, all_starts}
use Rattle.questions.proofs.placing.judge.Goals as goal

pub loop-k-init : goal.loop-k-init
loop-k-init c =
    let a = c.args in
    record {
      passed = none_passed (memory_of a.memory) a.rows.table.now a.rows.n a.references.words.now;
      remembers = c.requires;
      there = λ j h. absurd (omega arith);
    }

refused : (c : goal.After-from_residual) → (x : Refusal) × (c.recall.result ≡ Err x) × (c.from_residual.result ≡ Err (record { why = x; at = record { 0 = c.loop-k.k } }))
refused c = search rules

pub returns-in_err-member : goal.returns-in_err-member
returns-in_err-member c =
    let a = c.args in
    let l = c.loop-k in
    let e = refused c in
    let g =
    one_refused (memory_of a.memory) a.rows.table.now a.rows.n a.references.words.now l.k l.placed l.reads l.invariant.passed e.0
    (sym (ap (λ (r : Result Member Refusal). leaf member_means r) e.1) ∙ c.recall.ensures.result_value) c.loop-k-test.true in
    record { answers = rw e.2 g.0; ready = λ q f. absurd (g.1 q f) }

pub overflow_add-reads : goal.overflow_add-reads
overflow_add-reads c =
    let a = c.args in
    let l = c.loop-k in
    let e : c.recall.result ≡ Ok c.in_ok-member.member = search rules in
    record {
      fits = omega (
        arith,
        few_passed (memory_of a.memory) a.rows.table.now a.rows.n a.references.words.now l.k l.placed l.reads l.invariant.passed l.auto.k-end,
        a.references.few,
        rows_among_most (get_or a.references.words.now l.k 0 ∷ []),
        rw e at c.recall.ensures.member_reads,
      );
    }

pub loop-k-preserved : goal.loop-k-preserved
loop-k-preserved c =
    let a = c.args in
    let l = c.loop-k in
    let m = c.in_ok-member.member in
    let e : c.recall.result ≡ Ok m = search rules in
    let gives = sym (ap (λ (r : Result Member Refusal). leaf member_means r) e) ∙ c.recall.ensures.result_value in
    let recalled = c.recall.ensures.recalled in
    record {
      passed =
          one_passed (memory_of a.memory) a.rows.table.now a.rows.n a.references.words.now l.k l.placed l.reads l.invariant.passed
          (layout_means m.layout) gives c.loop-k-test.true m.reads c.next-placed.result (rw e at c.recall.ensures.member_reads) c.next-placed.ensures;
      remembers = recalled.holds;
      there = below_more _ _ (λ j h. recalled.keeps _ (l.invariant.there j h)) (recalled.found (layout_means m.layout) (sym gives));
    }

pub returns-clause-answers : goal.returns-clause-answers
returns-clause-answers c =
    let a = c.args in
    let l = c.loop-k in
    let f = c.finish.ensures in
    all_passed (memory_of a.memory) a.rows.table.now a.rows.n a.references.words.now l.k l.placed l.reads l.invariant.passed c.loop-k-test.false
    c.finish.result f.value f.reads f.after

pub returns-clause-ready : goal.returns-clause-ready
returns-clause-ready c q e =
    let a = c.args in
    let l = c.loop-k in
    let m = memory_of a.memory in
    let t = a.rows.table.now in
    let ws = a.references.words.now in
    let p = l.invariant.passed in
    let b = all_starts m t a.rows.n ws l.k l.placed l.reads p c.loop-k-test.false q e in
    let there = rw (le_antisymm l.auto.k-end c.loop-k-test.false) at l.invariant.there in
    let read = all_read m t a.rows.n ws l.k l.placed l.reads p c.loop-k-test.false in
    let same = known_all m t a.rows.n l.memo l.invariant.remembers 0 ws p.done read there in
    record {
      all = record { there = there; aligned = rw same p.stands.aligned; fits = rw same b.2 };
      offsets = rw same b.0;
      gaps = rw same b.1;
    }
