-- The step in both memories, the types behind those so far, and what either reaches.
use mathlib.Core.Path.{◌≡◌, ap, ◌∙◌}
use Rattle.canon.specs.Layout.{Both, both, within}
use Rattle.canon.specs.Reach.{join_reach}
use Rattle.canon.proofs.Reaches.{word_back}
use Rattle.types.specs.declared.extent.Step.{Step}
use Rattle.flat_types.specs.Lists.{both_words}
use Rattle.flat_types.specs.Places.{append_to}
use Rattle.table.specs.Means.{info_means, reach_means}
use Rattle.build.specs.Steps.{info_flat, add_member}
use Rattle.build.proofs.Wording.{flat_kept}
use Rattle.build.proofs.members.Members.add.Goals as goal

pub returns : goal.returns
unfolding add_member
returns c =
    let a = c.args in
    let ends = c.extents.ensures ∙ ap (λ (b : Both Step). both (λ m. (within m b).extent)) c.member.ensures in
    let words : both_words c.append.result ≡ append_to 16 (both_words a.self.flat) (info_flat (info_means a.member)) = rw (flat_kept a.member) c.append.ensures in
    let reached : reach_means c.join.result ≡ join_reach (reach_means a.self.reach) (reach_means a.member.reach) = rw c.join.ensures (word_back _) in
    λ i. record { extents = ends i; flat = words i; reach = reached i }
