-- The picked rows answer as the lent table does, and the first words of the buffers have room for every offset and gap.
use Rattle.std.proofs.Common.{◌≤◌, length, sym, ap, ◌∙◌, arith, rules}
use Rattle.canon.specs.Answer.{then}
use Rattle.canon.specs.Question.{placement_answer, buffer_after, offsets_after}
use Rattle.canon.specs.Gaps.{room_of, offsets_of, gaps_of}
use Rattle.canon.proofs.Gaps.{offsets_padded, offsets_counted, gaps_counted}
use Rattle.words.specs.Words.{whole_words}
use Rattle.words.proofs.Laws.{length_whole, put_same}
use Rattle.host.specs.Numbers.{memory_at}
use Rattle.host.proofs.ShortLists.{room_16, placing_missing, padding_missing, call_alike, lent_alike}
use Rattle.host.proofs.Decoded.{front, front_put, room_first}
use Rattle.host.proofs.table_bytes.place_picked.Goals as goal

pub returns-in_default : goal.returns-in_default
unfolding placement_answer offsets_after then buffer_after
returns-in_default c =
    let a = c.args in
    let m = memory_at a.memory in
    let t = whole_words a.table.now in
    let ws = whole_words a.references.now in
    let room = room_of (whole_words a.offsets.now) (whole_words a.gaps.now) in
    let few : length ws ≤ 16 = omega (arith, c.requires, length_whole a.references.now) in
    let none = placing_missing m t a.rows ws room few c.in_default.ensures in
    let nothing = padding_missing m t a.rows ws room few c.in_default.ensures in (
      rw none c.refused.ensures,
      rw none (sym (put_same a.offsets.now (λ i. search rules))),
      rw nothing (sym (put_same a.gaps.now (λ i. search rules))),
    )

pub pick_rows-names-requires : goal.pick_rows-names-requires
pick_rows-names-requires c = (rw room_16 (omega (arith, c.requires)), c.requires)

pub returns : goal.returns
returns c =
    let picks = c.pick_rows-names.ensures in
    let a = c.args in
    let lent = c.in-Some.lent in
    let same = c.in-Some.ensures in
    let m = memory_at a.memory in
    let t = whole_words lent.table.now in
    let ws = whole_words a.references.now in
    let os = whole_words a.offsets.now in
    let gs = whole_words a.gaps.now in
    let out = front _ 16 c.decoded.ensures in
    let gaps = front _ 16 c.decoded-2.ensures in
    let room = room_first 16 os gs in
    let few : length ws ≤ 16 = omega (arith, c.requires, length_whole a.references.now) in
    let shared = room_of os gs in
    let offsets = offsets_padded m t lent.rows ws shared os in
    let done = c.place_into.ensures in
    rw (← same.0, ← same.1) (
      done.value ∙ rw (out, gaps, room) (call_alike _ t 16 lent.rows (rw picks.keeps.size room_16) lent.there _ _ ws picks.names few m shared),
      done.offset_bytes_after
          ∙ front_put 16 _ a.offsets.now (λ i. search rules) (done.offsets_after.1 ∙ ap length out)
          (lent_alike _ t 16 lent.rows (rw picks.keeps.size room_16) lent.there _ _ ws picks.names few offsets_of m shared os _
          (offsets_counted m t lent.rows ws shared) (done.offsets_after.0 ∙ rw (out, gaps, room) (offsets_padded _ _ _ _ _ _))
          ∙ sym offsets),
      done.gap_bytes_after
          ∙ front_put 16 _ a.gaps.now (λ i. search rules) (done.gaps_after.1 ∙ ap length gaps)
          (lent_alike _ t 16 lent.rows (rw picks.keeps.size room_16) lent.there _ _ ws picks.names few gaps_of m shared gs _
          (gaps_counted m t lent.rows ws shared) (done.gaps_after.0 ∙ rw (out, gaps, room))),
    )
