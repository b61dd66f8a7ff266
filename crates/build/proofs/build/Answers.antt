-- The loop's invariant is `Running`: canon's own recursion, with the rows so far in the table. Each way out is a law of it.
use mathlib.Core.Path.{◌≡◌, sym, ◌∙◌}
use Prim.Native.Nat.{◌+◌}
use Rattle.std.specs.Prelude.{Ok, Err}
use Rattle.std.proofs.lemmas.Grind.{common_steps}
use Rattle.std.proofs.lemmas.Result.{err_from_is_err_and}
use native.Mathlib.Omega.{arith}
use lib.ListN.{get_or, drop, length-drop}
use Rattle.canon.specs.Description.{kind_of}
use Rattle.canon.proofs.Costs.{behind_most}
use Rattle.build.proofs.DefinitionLaws.{moves_on}
use Rattle.build.proofs.RunLaws.{too_long_lem, begins, running_most, all_read, ends, no_room_lem, stops, goes_on}
use Rattle.build.proofs.build.Goals as goal

pub returns-then-words-gt-MAX_WORDS : goal.returns-then-words-gt-MAX_WORDS
returns-then-words-gt-MAX_WORDS c =
    let a = c.args in
    let r = too_long_lem a.words.now a.table.now c.if-words-gt-MAX_WORDS.true in
    (r.answer, r.table, r.reads)

pub loop-at-init : goal.loop-at-init
loop-at-init c = let a = c.args in begins a.words.now a.table.now

pub returns-then-room-rows : goal.returns-then-room-rows
returns-then-room-rows c =
    let r = no_room_lem c.loop-at.invariant (omega arith) (omega arith) (omega arith) in
    (r.answer, r.table, r.reads)

pub returns-in_err-defined : goal.returns-in_err-defined
returns-in_err-defined c =
    let e = c.in_err-defined.field-0.0 in
    let why : c.define.result ≡ Err e.why = grind (arith, common_steps) in
    let index : e.at.0 ≡ c.loop-at.rows = grind (arith, common_steps) in
    let r = stops c.loop-at.invariant _ (sym (rw why at c.define.ensures.value)) (omega arith) (omega arith) (omega arith) in
    let p = err_from_is_err_and c.from_residual.result c.from_residual.ensures.1 in
    rw (p.1, p.2, index) (r.answer, r.table, r.reads)

pub overflow_add-reads : goal.overflow_add-reads
overflow_add-reads c =
    let a = c.args in
    let l = c.loop-at in
    let made : c.define.result ≡ Ok c.in_ok-defined.defined = grind (arith, common_steps) in
    omega (arith, running_most l.invariant, behind_most (kind_of (get_or a.words.now l.at 0)) (drop (l.at + 1) a.words.now), length-drop (l.at + 1) a.words.now, rw made at c.define.ensures.reads, c.if-words-gt-MAX_WORDS.false)

pub loop-at-smaller : goal.loop-at-smaller
loop-at-smaller c =
    let l = c.loop-at in
    let made : c.define.result ≡ Ok c.in_ok-defined.defined = grind (arith, common_steps) in
    omega (arith, moves_on _ c.args.words.now l.at _ (sym (rw made at c.define.ensures.value)), c.loop-at-test.true)

pub loop-at-preserved : goal.loop-at-preserved
loop-at-preserved c =
    let l = c.loop-at in
    let made : c.define.result ≡ Ok c.in_ok-defined.defined = grind (arith, common_steps) in
    rw c.put_row.ensures (goes_on l.invariant _ _ (sym (rw made at c.define.ensures.value)) (rw made at c.define.ensures.reads) c.loop-at-test.true (omega (arith, c.if-room-rows.false)))

pub returns : goal.returns
returns c =
    let r = ends c.loop-at.invariant (omega arith) (omega arith) in
    (r.answer, r.table, all_read c.loop-at.invariant (omega arith) ∙ r.reads)
