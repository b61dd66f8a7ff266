-- Each case of a reference, by its law.
use Rattle.std.proofs.Common.{List, ℕ, ◌+◌, length, ap, ◌∙◌, arith}
use Rattle.canon.proofs.Cells.{room_fits}
use Rattle.words.specs.Words.{whole_words}
use Rattle.host.specs.Picked.{read_picked}
use Rattle.host.proofs.Picked.{same_kept, plain_picked, none_picked, row_picked, others_kept}
use Rattle.host.proofs.pick.LentRows.pick_row.Goals as goal

pub returns-then-reference-lt-FIRST_DEFINITION : goal.returns-then-reference-lt-FIRST_DEFINITION
returns-then-reference-lt-FIRST_DEFINITION c =
    let a = c.args in
    record {
      upper_bound = (omega arith, plain_picked (whole_words a.self.table.now) a.self.rows a.reference a.picked.now a.slot c.if-reference-lt-FIRST_DEFINITION.true);
      keeps = same_kept a.slot a.picked.now;
    }

pub overflow_add-result : goal.overflow_add-result
overflow_add-result c = omega (arith, (room_fits (length c.args.picked.now)).0)

pub returns-then-index-self : goal.returns-then-index-self
returns-then-index-self c =
    let a = c.args in
    let t = whole_words a.self.table.now in
    let low = c.if-reference-lt-FIRST_DEFINITION.false in
    let high = c.if-index-self.true in
    let after = c.take_row.ensures in record {
      upper_bound = (omega arith, ap (λ (q : List ℕ). read_picked q (64 + a.slot)) after ∙ row_picked t a.self.rows a.reference a.picked.now a.slot a.self.there c.requires low high);
      keeps = rw after (others_kept t a.self.rows a.reference a.picked.now a.slot a.self.there c.requires low high);
    }

pub returns : goal.returns
returns c =
    let a = c.args in
    record {
      upper_bound = (omega arith, none_picked (whole_words a.self.table.now) a.self.rows a.reference a.picked.now a.slot c.if-reference-lt-FIRST_DEFINITION.false c.if-index-self.false);
      keeps = same_kept a.slot a.picked.now;
    }
