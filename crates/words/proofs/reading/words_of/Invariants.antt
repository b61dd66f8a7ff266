-- The words so far, then what the buffer had (`read_turn`).
use Rattle.std.proofs.Common.{◌≡◌, ◌++◌, take, drop}
use Rattle.words.specs.Words.{whole_words}
use Rattle.words.proofs.reading.words_of.Given as goal

abbrev pub invariant-loop-k : goal.invariant-loop-k
invariant-loop-k l = l.words ≡ take l.k (whole_words l.bytes) ++ drop l.k l.initial.words
