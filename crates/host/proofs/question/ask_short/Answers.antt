-- The picked rows answer as the lent table does.
use Rattle.std.proofs.Common.{sym, ◌∙◌, arith}
use Rattle.words.specs.Words.{whole_words}
use Rattle.words.proofs.Laws.{length_whole}
use Rattle.host.proofs.Picked.{names_kept}
use Rattle.host.proofs.ShortLists.{room_32, question_missing, question_alike}
use Rattle.host.proofs.question.ask_short.Goals as goal

pub returns-in_default : goal.returns-in_default
returns-in_default c =
    let a = c.args in
    c.refused.ensures
    ∙ sym (question_missing a.question (whole_words a.table.now) a.rows (whole_words a.first.now) (whole_words a.second.now)
    (omega (arith, c.requires.0, length_whole a.first.now)) (omega (arith, c.requires.1, length_whole a.second.now)) c.in_default.ensures)

pub pick_rows-firsts-requires : goal.pick_rows-firsts-requires
pick_rows-firsts-requires c = (rw room_32 (omega (arith, c.requires.0)), c.requires.0)

pub pick_rows-seconds-requires : goal.pick_rows-seconds-requires
pick_rows-seconds-requires c = (rw (c.pick_rows-firsts.ensures.keeps.size, room_32) (omega (arith, c.requires.1)), c.requires.1)

pub returns : goal.returns
returns c =
    let a = c.args in
    let lent = c.in-Some.lent in
    let same = c.in-Some.ensures in
    let t = whole_words lent.table.now in
    let vs = whole_words a.first.now in
    let ws = whole_words a.second.now in
    let first = c.pick_rows-firsts.ensures in
    let second = c.pick_rows-seconds.ensures in
    rw (← same.0, ← same.1)
    (c.ask.ensures
    ∙ question_alike _ t 32 lent.rows (rw (second.keeps.size, first.keeps.size) room_32) lent.there _ _ _ vs _ ws
    (names_kept _ 16 _ _ _ t lent.rows vs first.names second.keeps (omega (arith, c.requires.0)))
    second.names
    (omega (arith, c.requires.0, length_whole a.first.now))
    (omega (arith, c.requires.1, length_whole a.second.now))
    a.question)
