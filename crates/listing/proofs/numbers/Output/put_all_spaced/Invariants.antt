-- The numbers so far are written.
use Rattle.std.proofs.Common.{take, ◌*◌}
use Rattle.listing.specs.Text.{spaced_all}
use Rattle.listing.specs.Told.{Adds}
use Rattle.listing.proofs.numbers.Output.put_all_spaced.Given as goal

abbrev pub invariant-loop-n : goal.invariant-loop-n
invariant-loop-n l = Adds l.initial.self l.self (spaced_all (take l.n-index l.n-items)) (11 * l.n-index)
