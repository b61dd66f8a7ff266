-- One I32 for each group, and no list above sixteen.
use mathlib.Core.Path.{refl}
use mathlib.Core.Option.{some}
use native.Mathlib.Omega.{arith}
use Rattle.canon.specs.Flat.{flags_flat}
use Rattle.flat_types.proofs.Listing.{holds, holds_none, flags_none, flags_is}
use Rattle.flat_types.proofs.both.FlatTypes.flags.Goals as goal

pub returns-then-groups-gt-MAX_FLAT_TYPES : goal.returns-then-groups-gt-MAX_FLAT_TYPES
returns-then-groups-gt-MAX_FLAT_TYPES c =
    let n = c.args.count in
    holds_none (λ m. some (flags_flat n)) (λ m. flags_none n (omega (arith, c.flag_groups-groups.ensures)))

pub returns : goal.returns
returns c =
    let n = c.args.count in
    holds (λ m. some (flags_flat n)) (λ m. 0) refl (omega arith) (λ m. flags_is n _ (omega (arith, c.flag_groups-groups.ensures)) (omega arith))
