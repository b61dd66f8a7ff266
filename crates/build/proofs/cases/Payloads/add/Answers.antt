-- The widest in both memories, the types joined, and what either reaches.
use mathlib.Core.Path.{◌≡◌}
use Rattle.canon.specs.Reach.{join_reach}
use Rattle.canon.proofs.Reaches.{word_back}
use Rattle.flat_types.specs.Lists.{both_words}
use Rattle.flat_types.specs.Places.{joined}
use Rattle.table.specs.Means.{info_means, reach_means}
use Rattle.build.specs.Steps.{info_flat, add_payload}
use Rattle.build.proofs.Wording.{flat_kept}
use Rattle.build.proofs.cases.Payloads.add.Goals as goal

pub returns : goal.returns
unfolding add_payload
returns c =
    let a = c.args in
    let words : both_words c.join.result ≡ joined (both_words a.self.flat) (info_flat (info_means a.payload)) = rw (flat_kept a.payload) c.join.ensures in
    let reached : reach_means c.join-2.result ≡ join_reach (reach_means a.self.reach) (reach_means a.payload.reach) = rw c.join-2.ensures (word_back _) in
    λ i. record { layouts = c.widest.ensures i; flat = words i; reach = reached i }
