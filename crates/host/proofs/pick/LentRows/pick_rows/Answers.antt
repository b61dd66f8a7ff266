-- The loop's invariant: the first k have their new names (`picking_more`).
use Rattle.std.proofs.Common.{◌≡◌, ◌/◌, length, sym, ap, ◌∙◌, arith, length-take}
use lib.Seq.{take_at}
use Rattle.canon.specs.Question.{read}
use Rattle.canon.proofs.Cells.{room_fits}
use Rattle.words.specs.Words.{whole_words}
use Rattle.words.proofs.Laws.{length_whole}
use Rattle.host.proofs.Picked.{keeps_on, picking_more, picking_all}
use Rattle.host.proofs.pick.LentRows.pick_rows.Goals as goal

pub overflow_cast-k : goal.overflow_cast-k
overflow_cast-k c =
    let a = c.args in
    omega (arith, c.requires.0, length-take (length a.list.now / 4) a.names.now, (room_fits (length a.picked.now)).0)

pub overflow_add-slot : goal.overflow_add-slot
overflow_add-slot c =
    let a = c.args in
    omega (arith, c.requires.0, length-take (length a.list.now / 4) a.names.now, (room_fits (length a.picked.now)).0)

pub loop-k-preserved : goal.loop-k-preserved
loop-k-preserved c =
    let a = c.args in
    let l = c.loop-k in
    let r = c.pick_row in record {
      keeps = keeps_on a.slot l.k a.picked.now l.picked _ l.invariant.keeps r.ensures.keeps;
      picking =
          picking_more a.slot l.k l.picked l.name-items (whole_words a.self.table.now) a.self.rows (whole_words a.list.now) l.invariant.picking _ r.result (omega arith) r.ensures.keeps r.ensures.upper_bound.0
          (r.ensures.upper_bound.1 ∙ ap (read (whole_words a.self.table.now) a.self.rows) c.word_at.ensures);
    }

pub returns : goal.returns
returns c =
    let a = c.args in
    let l = c.loop-k in
    let n = length-take (length a.list.now / 4) a.names.now in
    let all : l.k ≡ length a.list.now / 4 = omega (arith, n, l.auto) in
    let count : length l.name-items ≡ length a.list.now / 4 = omega (arith, n, l.auto) in record {
      names =
          rw (take_at l.name-items _ (length a.list.now / 4) count, ← all)
          (picking_all a.slot l.k l.picked l.name-items (whole_words a.self.table.now) a.self.rows (whole_words a.list.now) l.invariant.picking (all ∙ sym (length_whole a.list.now)) (all ∙ sym count));
      keeps = l.invariant.keeps;
    }
