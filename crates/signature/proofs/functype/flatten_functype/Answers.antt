-- The signature is made of the two lists (`functype_packed`).
use Rattle.std.proofs.Common.{rules}
use Rattle.canon.specs.Functype.{functype_of, functype_answer}
use Rattle.signature.specs.Means.{context_means, side_means}
use Rattle.signature.proofs.Maxima.{functype_packed}
use Rattle.signature.proofs.functype.flatten_functype.Goals as goal

pub returns : goal.returns
unfolding functype_answer
returns c =
    let context = context_means c.args.context in
    let side = side_means c.args.side in
    let callback = c.args.callback in
    c.asked.ensures (functype_of context side callback) (record { makes = λ p q s h. search rules; same = functype_packed context side callback })
