-- The words that were gathered are those of two lists, and decide.
use Rattle.std.proofs.Common.{rules}
use Rattle.signature.proofs.Asking.{two_given, two_refused, two_whole}
use Rattle.signature.proofs.two.asked.Goals as goal

pub invariant_of-made : goal.invariant_of-made
invariant_of-made g c = record { clean = (two_whole _ _ _ _ _ _ _ c.in_ok-a.ensures).0 }

pub invariant_of-made-2 : goal.invariant_of-made-2
invariant_of-made-2 g c = record { clean = (two_whole _ _ _ _ _ _ _ c.in_ok-a.ensures).1 }

pub returns-in_err-a : goal.returns-in_err-a
returns-in_err-a g c k m = rw (← two_refused _ _ _ _ _ _ k m.same _ _ c.in_err-a.ensures) (search rules)

pub returns : goal.returns
returns g c k m = two_given _ _ _ _ _ _ k m.same _ _ c.in_ok-a.ensures (m.makes _ _ _ c.made.ensures)
