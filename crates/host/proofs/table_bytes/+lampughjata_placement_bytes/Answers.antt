-- A longer table is cut: its length falls, and no answer reads beyond the cut.
use mathlib.Core.Path.{sym, ap, ◌∙◌}
use mathlib.Core.List.{List}
use Prim.Native.Nat.{ℕ}
use native.Mathlib.Omega.{arith}
use lib.ListN.{length-take}
use lib.Seq.{length-take-le}
use Rattle.canon.specs.Gaps.{room_of, offsets_of, gaps_of}
use Rattle.canon.proofs.Gaps.{offsets_padded}
use Rattle.words.specs.Words.{whole_words, put_words}
use Rattle.words.proofs.Laws.{whole_take}
use Rattle.host.specs.Numbers.{memory_at}
use Rattle.host.proofs.Decoded.{call_cut, lent_cut}
use Rattle.host.proofs.table_bytes.+lampughjata_placement_bytes.Goals as goal

pub slice_bounds-lampughjata_placement_bytes-end : goal.slice_bounds-lampughjata_placement_bytes-end
slice_bounds-lampughjata_placement_bytes-end t c = sym (length-take-le 65536 c.args.table.now (omega arith))

pub lampughjata_placement_bytes-requires : goal.lampughjata_placement_bytes-requires
lampughjata_placement_bytes-requires t c = (omega (arith, length-take 65536 c.args.table.now, c.decreases, c.if-table-gt-TABLE_BYTES.true), tt)

pub returns-then-table-gt-TABLE_BYTES : goal.returns-then-table-gt-TABLE_BYTES
returns-then-table-gt-TABLE_BYTES t c =
    let a = c.args in
    let call = c.lampughjata_placement_bytes.ensures in
    let cut = whole_take 16384 a.table.now in
    let m = memory_at a.memory in
    let table = whole_words a.table.now in
    let ws = whole_words a.references.now in
    let os = whole_words a.offsets.now in
    let gs = whole_words a.gaps.now in
    let room = room_of os gs in record {
      value = call.value ∙ rw cut (call_cut m table a.rows ws room);
      offsets_after =
          call.offsets_after
          ∙ rw cut
          (ap (λ (x : List ℕ). put_words 0 x a.offsets.now)
          (offsets_padded m _ a.rows ws room os ∙ lent_cut offsets_of m table a.rows ws room os ∙ sym (offsets_padded m table a.rows ws room os)));
      gaps_after = call.gaps_after ∙ rw cut (ap (λ (x : List ℕ). put_words 0 x a.gaps.now) (lent_cut gaps_of m table a.rows ws room gs));
    }
