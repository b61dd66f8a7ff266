-- A chunk is a whole word (`chunk_word`), and past the last there is none.
use Rattle.std.proofs.Common.{arith, rules, ◌∙◌}
use Rattle.words.proofs.Laws.{chunk_word}
use Rattle.words.proofs.reading.word_at.Goals as goal

pub returns-in-Some : goal.returns-in-Some
returns-in-Some c =
    let l = c.in-Some.ensures.lookup in
    let e = c.as_chunks.ensures in
    c.from_le_bytes.ensures ∙ chunk_word c.args.bytes.now c.args.k c.in-Some.field-0.now e.front (omega (arith, l, e.front_len)) (search (rules, l))
