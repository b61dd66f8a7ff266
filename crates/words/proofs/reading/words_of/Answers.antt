-- One word more (`read_turn`): a chunk is a whole word (`chunk_word`).
use Rattle.std.proofs.Common.{◌<◌, ◌/◌, ◌∙◌, [], arith, get_or-take, length, length-take}
use Rattle.words.proofs.Laws.{chunk_word, read_turn}
use Rattle.words.proofs.reading.words_of.Goals as goal

pub loop-k-preserved : goal.loop-k-preserved
loop-k-preserved c =
    let e = c.as_chunks.ensures in
    let l = c.loop-k in
    let n = c.min-n.result in
    let t = length-take n c.as_chunks.result.0.now in
    let h : l.k < length c.args.bytes.now / 4 = omega (arith, t) in
    read_turn c.args.bytes.now c.args.words.now h (omega (arith, t)) l.invariant
    (c.from_le_bytes.ensures ∙ chunk_word c.args.bytes.now l.k _ e.front h (get_or-take n _ l.k [] (omega (arith, t))))
