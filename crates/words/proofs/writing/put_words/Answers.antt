-- What is left of the words, put from here on, gives what all of them give.
use Rattle.std.proofs.Common.{◌/◌, arith, get_or-take, length, length-take}
use Rattle.words.proofs.Laws.{write_turn, write_end}
use Rattle.words.proofs.writing.put_words.Goals as goal

pub loop-k-preserved : goal.loop-k-preserved
loop-k-preserved c =
    let l = c.loop-k in
    let n = c.min-n.result in
    let ws = c.args.words.now in
    let t = length-take n ws in
    rw (c.put_word.ensures, get_or-take n ws l.k 0 (omega (arith, t)), write_turn (length c.args.bytes.now / 4) ws l.bytes l.k (omega (arith, t))) l.invariant

pub returns : goal.returns
returns c =
    let ws = c.args.words.now in
    let l = c.loop-k in
    rw (write_end (length c.args.bytes.now / 4) ws l.bytes l.k (omega (arith, length-take c.min-n.result ws))) at l.invariant
