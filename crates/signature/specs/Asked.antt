-- What is made of the two flat lists of a question.
use Rattle.std.specs.Prelude.{◌≡◌, List}
use Rattle.std.proofs.Math.Option.{Option}
use Rattle.canon.specs.Signature as canon
use Rattle.canon.specs.Types.{Core}
use Rattle.flat_types.specs.Lists.{unpacked, packed, flat}
use Rattle.signature.specs.Means.{signature_means}
use Rattle.signature.specs.Packs.{packed_signature}
use Rattle.signature.specs.declared.lists.CleanList.{CleanList}
use Rattle.signature.specs.declared.signatures.Signature.{Signature}

-- a call makes of two lists the signature k of what their words stand for, and what the words of a list leave out plays no part in k
pub record Makes (post : CleanList → CleanList → Signature → Type 0) (k : Option (List Core) → Option (List Core) → canon.Signature) : Type 0 where
  pub makes : (p q : CleanList) (s : Signature) → post p q s → signature_means s ≡ packed_signature (k (flat p.list) (flat q.list))
  pub same : (o q : Option (List Core)) → k (unpacked (packed o)) (unpacked (packed q)) ≡ k o q
