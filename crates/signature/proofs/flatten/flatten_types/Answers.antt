-- The words that were gathered are those of a list, and within the maximum where it is.
use Rattle.signature.proofs.Asking.{flatten_given, gathered_whole}
use Rattle.signature.proofs.flatten.flatten_types.Goals as goal

pub invariant_of-at_most : goal.invariant_of-at_most
invariant_of-at_most c = record { clean = gathered_whole _ _ _ _ _ c.in_ok-all.ensures }

pub returns : goal.returns
returns c = flatten_given _ _ _ _ _ _ _ c.if-max-gt-MAX_FLAT_TYPES.false c.in_ok-all.ensures c.at_most.ensures
