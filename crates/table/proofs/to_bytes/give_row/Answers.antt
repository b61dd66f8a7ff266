-- The row's words in its cells of the bytes, where both tables have room; nothing else.
use mathlib.Core.Path.{sym, ap, ◌∙◌}
use Prim.Native.Nat.{ℕ, ◌+◌}
use native.Mathlib.Omega.{arith}
use lib.ListN.{get_or, set}
use Rattle.canon.specs.Table.{cell, cells_from}
use Rattle.canon.proofs.Cells.{cell_of}
use Rattle.words.specs.Words.{whole_words, put_words}
use Rattle.table.proofs.Giving.{give_turn, give_stored, give_full, give_none}
use Rattle.table.proofs.Reading.{length_cells}
use Rattle.table.proofs.to_bytes.give_row.Goals as goal

pub loop-k-preserved : goal.loop-k-preserved
unfolding cell
loop-k-preserved c =
    let t = c.args.table.now in
    let l = c.loop-k in
    let from = c.in-Some.source in
    let to = c.in-Some-of.slot in
    let ws = cells_from from.room t from.row 0 16 in
    record {
      bytes = λ i. (c.type_inv.bytes i).fits;
      left =
          give_turn to.room to.row ws l.k (l.k + 1) (get_or t c.place-in-loop-k.result 0) l.bytes _ l.invariant.bytes (c.type_inv.table c.place-in-loop-k.result).fits
          (omega (arith, length_cells from.room t from.row 0 16)) (omega arith)
          (ap (λ (i : ℕ). get_or t i 0) c.place-in-loop-k.ensures.is ∙ sym (cell_of from.room t from.row l.k (omega arith)))
          (c.put_word_at.ensures ∙ ap (λ (p : ℕ). put_words 0 (set (whole_words l.bytes) p (get_or t c.place-in-loop-k.result 0)) l.bytes) c.place.ensures.is)
          ∙ l.invariant.left;
    }

pub returns : goal.returns
returns c =
    let l = c.loop-k in
    let from = c.in-Some in
    let to = c.in-Some-of in
    give_stored c.args.table.now c.args.bytes.now from.source.room to.slot.room from.source.row to.slot.row c.args.index.0 from.ensures.0 to.ensures.0 from.ensures.1 to.ensures.1
    from.source.there to.slot.there l.k l.bytes (omega arith) l.invariant.bytes l.invariant.left

pub returns-in_default : goal.returns-in_default
returns-in_default c = give_none c.args.table.now c.args.bytes.now c.args.index.0 (λ i. (c.type_inv.bytes i).fits) c.in_default.ensures

pub returns-in_default-of : goal.returns-in_default-of
returns-in_default-of c = give_full c.args.table.now c.args.bytes.now c.args.index.0 (λ i. (c.type_inv.bytes i).fits) c.in_default-of.ensures
