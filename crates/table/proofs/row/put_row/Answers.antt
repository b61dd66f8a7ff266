-- The words of the row in its cells; nothing where there is no room.
use mathlib.Core.Path.{refl, sym, ap, ◌∙◌}
use lib.ListN.{length}
use native.Mathlib.Omega.{arith}
use Rattle.table.proofs.Reading.{put_missing}
use Rattle.table.proofs.Putting.{store_turn, store_end}
use Rattle.table.proofs.row.put_row.Goals as goal

pub loop-k-preserved : goal.loop-k-preserved
loop-k-preserved c =
    let l = c.loop-k in
    store_turn c.in-Some.cells.room c.in-Some.cells.row l.k c.row_words.result l.table _ _ (omega (arith, ap length c.row_words.ensures)) c.place.ensures.is refl ∙ l.invariant

pub returns : goal.returns
returns c =
    let l = c.loop-k in
    let s = c.in-Some.ensures in
    rw (← c.row_words.ensures)
    (store_end c.in-Some.cells.room c.in-Some.cells.row l.k c.row_words.result l.table c.args.table.now c.args.index.0 s.0 s.1 c.in-Some.cells.there (omega (arith, ap length c.row_words.ensures)) l.invariant)

pub returns-in_default : goal.returns-in_default
returns-in_default c = sym (put_missing c.args.table.now _ c.args.index.0 refl _ c.in_default.ensures)
