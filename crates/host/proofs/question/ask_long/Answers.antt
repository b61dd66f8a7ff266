-- The decoded fronts are the first words of the bytes; the rest changes no answer.
use Rattle.std.proofs.Common.{◌∙◌}
use Rattle.words.specs.Words.{whole_words}
use Rattle.host.proofs.Decoded.{front, question_first}
use Rattle.host.proofs.question.ask_long.Goals as goal

pub returns : goal.returns
returns c =
    let a = c.args in
    c.ask.ensures
    ∙ rw (front _ 16384 c.decoded.ensures, front _ 16385 c.decoded-2.ensures, front _ 16385 c.decoded-3.ensures)
    (question_first a.question (whole_words a.table.now) a.rows (whole_words a.first.now) (whole_words a.second.now))
