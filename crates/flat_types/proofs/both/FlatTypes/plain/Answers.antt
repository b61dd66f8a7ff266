-- String by itself, nothing past the last, each scalar at its place in the constant (`scalar_code`).
use mathlib.Core.Path.{◌≡◌, refl}
use native.Mathlib.Omega.{arith}
use lib.ListN.{get_elem?}
use Rattle.canon.specs.Answer.{map_option}
use Rattle.canon.specs.Flat.{flatten}
use Rattle.canon.specs.Layout.{Memory, mem32, mem64, within}
use Rattle.canon.specs.Pack.{pack}
use Rattle.canon.specs.Types.{plain}
use Rattle.flat_types.specs.Lists.{packed_to, packed, halves}
use Rattle.flat_types.proofs.Halves.{twice_is}
use Rattle.flat_types.proofs.Listing.{holds, holds_none}
use Rattle.flat_types.proofs.References.{code_at, scalar_code, past, code_small}
use Rattle.flat_types.proofs.both.FlatTypes.plain.Goals as goal

-- the constant's words, in each memory
pair : (m : Memory) → record { number = 2; types = within m (halves 21474836480) } ≡ packed (map_option (flatten m) (get_elem? plain 12))
unfolding packed_to pack flatten
pair mem32 = refl
pair mem64 = refl

pub returns-in-12 : goal.returns-in-12
returns-in-12 c = rw c.in-12.is pair

pub returns-in-0-to-17 : goal.returns-in-0-to-17
returns-in-0-to-17 c =
    let k = c.args.reference in
    holds (λ m. map_option (flatten m) (get_elem? plain k)) (λ m. code_at k) (twice_is (code_at k)) (code_small k) (λ m. scalar_code m k (omega arith) (λ e. omega arith))

pub returns-in_default : goal.returns-in_default
unfolding packed_to
returns-in_default c =
    let e = past plain c.args.reference (omega arith) in
    holds_none (λ m. map_option (flatten m) (get_elem? plain c.args.reference)) (λ m. rw e)
