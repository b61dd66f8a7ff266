-- The loop's invariant: the first k have their new names (`picking_more`).
use Rattle.words.specs.Words.{whole_words}
use Rattle.host.specs.Picked.{Keeps}
use Rattle.host.proofs.Picked.{Picking}
use Rattle.host.proofs.pick.LentRows.pick_rows.Given as goal

abbrev pub invariant-loop-k : goal.invariant-loop-k
invariant-loop-k l = record {
  keeps : Keeps l.slot l.initial.picked l.picked;
  picking : Picking l.slot l.k l.picked l.name-items (whole_words l.self.table.now) l.self.rows (whole_words l.list);
}
