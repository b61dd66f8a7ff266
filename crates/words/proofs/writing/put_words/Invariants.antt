-- What is left of the words, put from here on, gives what all of them give.
use Rattle.std.proofs.Common.{◌≡◌, ◌/◌, length, take, drop}
use Rattle.words.specs.Words.{put_words}
use Rattle.words.proofs.writing.put_words.Given as goal

abbrev pub invariant-loop-k : goal.invariant-loop-k
invariant-loop-k l = put_words l.k (drop l.k (take (length l.initial.bytes / 4) l.words)) l.bytes ≡ put_words 0 (take (length l.initial.bytes / 4) l.words) l.initial.bytes
