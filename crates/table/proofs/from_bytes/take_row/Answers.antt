-- The row's words in its cells, where both tables have room; nothing else.
use mathlib.Core.Path.{◌≡◌, refl, sym, ap, ◌∙◌}
use Prim.Native.Nat.{ℕ, ◌≤◌}
use native.Mathlib.Omega.{arith}
use lib.ListN.{length, get_or}
use Rattle.canon.specs.Table.{capacity, cell}
use Rattle.canon.proofs.Cells.{cell_of}
use Rattle.words.specs.Words.{whole_words}
use Rattle.words.proofs.Laws.{length_whole, chunk_word}
use Rattle.table.proofs.Reading.{length_cells, row_there, row_missing, put_missing}
use Rattle.table.proofs.Putting.{put_nothing, store_turn, store_end}
use Rattle.table.proofs.from_bytes.take_row.Invariants.{taken}
use Rattle.table.proofs.from_bytes.take_row.Goals as goal

pub loop-k-preserved : goal.loop-k-preserved
unfolding cell
loop-k-preserved c =
    let all = whole_words c.args.bytes.now in
    let l = c.loop-k in
    let from = c.in-Some.source in
    let to = c.in-Some-of.slot in
    let word = chunk_word c.args.bytes.now c.place.result _ c.as_chunks.ensures.front (omega (arith, c.place.ensures.within, c.in-Some.ensures.2, c.as_chunks.ensures.front_len)) refl in
    store_turn to.room to.row l.k (taken c.args.bytes.now from.room from.row) l.table _ _ (omega (arith, length_cells from.room all from.row 0 16)) c.place-in-loop-k.ensures.is
    (c.from_le_bytes.ensures ∙ word ∙ ap (λ (i : ℕ). get_or all i 0) c.place.ensures.is ∙ sym (cell_of from.room all from.row l.k (omega arith)))
    ∙ l.invariant

pub returns : goal.returns
returns c =
    let all = whole_words c.args.bytes.now in
    let l = c.loop-k in
    let from = c.in-Some.source in
    let to = c.in-Some-of.slot in
    let at = c.in-Some.ensures in
    let there : from.room ≡ capacity (length all) = at.0 ∙ ap capacity (c.as_chunks.ensures.front_len ∙ sym (length_whole c.args.bytes.now)) in
    rw (← at.1, row_there all from.room from.row there from.there)
    (store_end to.room to.row l.k (taken c.args.bytes.now from.room from.row) l.table c.args.table.now c.args.to.0 c.in-Some-of.ensures.0 c.in-Some-of.ensures.1 to.there
    (omega (arith, length_cells from.room all from.row 0 16)) l.invariant)

pub returns-in_default : goal.returns-in_default
returns-in_default c =
    let all = whole_words c.args.bytes.now in
    let none : capacity (length all) ≤ c.args.from.0 = rw (length_whole c.args.bytes.now, ← c.as_chunks.ensures.front_len) c.in_default.ensures in
    rw (row_missing all _ c.args.from.0 refl none) (sym (put_nothing c.args.table.now c.args.to.0))

pub returns-in_default-of : goal.returns-in_default-of
returns-in_default-of c = sym (put_missing c.args.table.now _ c.args.to.0 refl _ c.in_default-of.ensures)
