-- The decoded fronts are the first words of the bytes; the rest changes no answer and stays.
use Rattle.std.proofs.Common.{List, ℕ, length, sym, ap, ◌∙◌, arith, rules}
use Rattle.canon.specs.Gaps.{room_of, offsets_of, gaps_of}
use Rattle.canon.proofs.Capped.{Enough}
use Rattle.canon.proofs.Gaps.{offsets_padded, offsets_counted, gaps_counted}
use Rattle.words.specs.Words.{whole_words, put_words}
use Rattle.words.proofs.Laws.{length_whole}
use Rattle.host.specs.Numbers.{memory_at}
use Rattle.host.proofs.Decoded.{front, room_first, call_first, lent_put}
use Rattle.host.proofs.table_bytes.place_decoded.Goals as goal

pub returns : goal.returns
returns g c =
    let a = c.args in
    let k = g.row.N in
    let m = memory_at a.memory in
    let t = whole_words a.table.now in
    let ws = whole_words a.references.now in
    let os = whole_words a.offsets.now in
    let gs = whole_words a.gaps.now in
    let enough : Enough k ws = omega (arith, c.requires, length_whole a.references.now) in
    let rows = front _ 16384 c.decoded.ensures in
    let few = front _ k c.decoded-2.ensures in
    let out = front _ k c.decoded-3.ensures in
    let gaps = front _ k c.decoded-4.ensures in
    let room = room_first k os gs in
    let shared = room_of os gs in
    let offsets = offsets_padded m t a.rows ws shared os in
    let done = c.place_into.ensures in (
      done.value ∙ rw (rows, few, out, gaps, room) (call_first k ws enough m t a.rows shared),
      done.offset_bytes_after
          ∙ lent_put _ a.offsets.now (λ i. search rules) k offsets_of m t a.rows ws shared enough (done.offsets_after.1 ∙ ap length out)
          (offsets_counted m t a.rows ws shared) (done.offsets_after.0 ∙ rw (rows, few, out, gaps, room) (offsets_padded _ _ _ _ _ _))
          ∙ ap (λ (u : List ℕ). put_words 0 u a.offsets.now) (sym offsets),
      done.gap_bytes_after
          ∙ lent_put _ a.gaps.now (λ i. search rules) k gaps_of m t a.rows ws shared enough (done.gaps_after.1 ∙ ap length gaps)
          (gaps_counted m t a.rows ws shared) (done.gaps_after.0 ∙ rw (rows, few, out, gaps, room)),
    )
