-- A start is made of the two lists (`start_packed`).
use Rattle.std.proofs.Common.{rules}
use Rattle.canon.specs.Signature.{start_of, async_start_answer}
use Rattle.signature.specs.Means.{side_means}
use Rattle.signature.proofs.Maxima.{start_packed}
use Rattle.signature.proofs.signatures.async_start_signature.Goals as goal

pub returns : goal.returns
unfolding async_start_answer
returns c =
    let lower = side_means c.args.lower in
    let lift = side_means c.args.lift in
    c.asked.ensures (λ o q. start_of lower o lift q) (record { makes = λ p q s h. search rules; same = start_packed lower lift })
