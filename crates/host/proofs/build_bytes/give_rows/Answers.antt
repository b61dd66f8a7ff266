-- The loop's invariant: the rows so far are given (`rows_turn`).
use Rattle.std.proofs.Common.{◌+◌, sym, arith, rules}
use Rattle.words.proofs.Laws.{put_same}
use Rattle.host.specs.Local.{with_rows}
use Rattle.host.proofs.Builds.{rows_turn}
use Rattle.host.proofs.build_bytes.give_rows.Goals as goal

pub loop-i-init : goal.loop-i-init
unfolding with_rows
loop-i-init c = sym (put_same _ (λ i. search rules))

pub loop-i-preserved : goal.loop-i-preserved
loop-i-preserved c =
    let a = c.args in
    let l = c.loop-i in
    let gave = c.give_row in
    rows_turn a.table.now a.bytes.now (λ i. search rules) (λ i. search rules) l.i (l.i + 1) l.bytes gave.new.bytes (omega arith) l.invariant gave.ensures
