-- What the first pass remembers the second writes (`places_all`); where it refuses nothing is written (`places_none`).
use Rattle.std.proofs.Common.{rules, ◌≡◌, ◌∙◌}
use lib.ListN.{length-map}
use Rattle.std.specs.Prelude.{Err}
use Rattle.canon.specs.Layout.{starts}
use Rattle.canon.specs.Gaps as canon_gaps
use Rattle.canon.proofs.Questions.{starts_length}
use Rattle.canon.proofs.Gaps.{gaps_length}
use Rattle.types.specs.Means.{memory_of}
use Rattle.questions.specs.Steps.{member_layout, known}
use Rattle.questions.proofs.Memos.{remembers_none}
use Rattle.questions.proofs.Passing.{places_none, placed_so, places_all}
use Rattle.questions.proofs.placing.place_long.Goals as goal

pub judge-requires : goal.judge-requires
judge-requires c = remembers_none (member_layout (memory_of c.args.memory) c.args.rows.table.now c.args.rows.n) 1088

pub returns-in_err-whole : goal.returns-in_err-whole
returns-in_err-whole c =
    let a = c.args in
    let e : c.from_residual.result ≡ Err c.in_err-whole.field-0.0 = search rules in
    rw e
    (places_none (memory_of a.memory) a.rows.table.now a.rows.n a.references.words.now a.out.now a.gaps.now c.in_err-whole.field-0.0
    (rw c.in_err-whole.was at c.judge.ensures.answers))

pub write-requires-clause-known : goal.write-requires-clause-known
write-requires-clause-known c =
    let a = c.args in
    let p = placed_so (memory_of a.memory) a.rows.table.now a.rows.n a.references.words.now c.in_ok-whole.whole (rw c.in_ok-whole.was at c.judge.ensures.answers) in
    (c.judge.ensures.ready p.0 p.1).all

pub returns : goal.returns
returns c =
    let a = c.args in
    let refs = a.references.words.now in
    let m = memory_of a.memory in
    let answers = rw c.in_ok-whole.was at c.judge.ensures.answers in
    let p = placed_so m a.rows.table.now a.rows.n refs c.in_ok-whole.whole answers in
    let ready = c.judge.ensures.ready p.0 p.1 in
    let fs = known c.judge.new.memo refs in
    places_all m a.rows.table.now a.rows.n refs c.in_ok-whole.whole answers
    (starts 0 fs) (canon_gaps.gaps 0 fs) _ _ _ _
    ready.offsets ready.gaps
    (starts_length 0 fs ∙ length-map refs _)
    (gaps_length 0 fs ∙ length-map refs _)
    c.write.ensures.out_after c.write.ensures.gaps_after
