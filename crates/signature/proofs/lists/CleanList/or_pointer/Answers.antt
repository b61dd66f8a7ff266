-- What was kept of the list, or a pointer.
use Rattle.std.proofs.Common.{rules}
use Rattle.signature.proofs.Maxima.{pointer_kept}
use Rattle.signature.proofs.lists.CleanList.or_pointer.Goals as goal

pub returns : goal.returns
returns c = pointer_kept _ _ _ _ c.at_most.ensures (search rules)
