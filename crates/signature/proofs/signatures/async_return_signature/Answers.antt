-- A return is made of the two lists (`return_packed`), and of whether lower has references.
use Rattle.std.proofs.Common.{rules}
use lib.Dec.{eqb}
use lib.ListN.{length}
use Rattle.canon.specs.Signature.{return_of, async_return_answer}
use Rattle.signature.specs.Means.{side_means}
use Rattle.signature.proofs.Maxima.{return_packed}
use Rattle.signature.proofs.signatures.async_return_signature.Goals as goal

pub returns : goal.returns
unfolding async_return_answer
returns c =
    let lift = side_means c.args.lift in
    let lower = side_means c.args.lower in
    let empty = eqb (length c.args.lowered.now) 0 in
    c.asked.ensures (λ o q. return_of lift o lower q empty) (record { makes = λ p q s h. search rules; same = return_packed lift lower empty })
