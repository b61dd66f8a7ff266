-- What was kept of the results, or nothing.
use Rattle.signature.proofs.Maxima.{results_kept}
use Rattle.signature.proofs.lists.CleanList.or_nothing.Goals as goal

pub returns : goal.returns
returns c = results_kept _ _ _ c.at_most.ensures c.unwrap_or.ensures
