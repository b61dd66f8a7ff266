-- There are no more entries than words; each is taken off the list.
use Rattle.std.proofs.Common.{length, ◌+◌, ◌≤◌}
use Rattle.replay.proofs.replay.Given as goal

abbrev pub invariant-loop-list : goal.invariant-loop-list
invariant-loop-list l = record {
  entries : l.entries + length l.list ≤ length l.words;
  compared : l.tally.compared ≤ l.entries;
  different : l.tally.different ≤ l.entries;
}

abbrev pub decreases-loop-list : goal.decreases-loop-list
decreases-loop-list l = length l.list
