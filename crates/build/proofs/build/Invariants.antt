-- The loop's invariant is `Running`: canon's own recursion, with the rows so far in the table. Each way out is a law of it.
use Prim.Native.Nat.{◌-◌}
use lib.ListN.{length}
use Rattle.build.proofs.RunLaws.{Running}
use Rattle.build.proofs.build.Given as goal

abbrev pub invariant-loop-at : goal.invariant-loop-at
invariant-loop-at l = Running l.words l.initial.table l.table l.rows l.at l.reads

abbrev pub decreases-loop-at : goal.decreases-loop-at
decreases-loop-at l = length l.words - l.at
