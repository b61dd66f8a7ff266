-- Two steps, closed: refused, or a pair whose entry they are.
use mathlib.Core.Path.{◌≡◌, sym, ap, ◌∙◌}
use native.Mathlib.Omega.{arith}
use Rattle.canon.specs.Answer.{is, no, and_then}
use Rattle.canon.specs.Layout.{mem32, mem64, Both, both}
use Rattle.canon.specs.Reach.{join_reach}
use Rattle.canon.proofs.Reaches.{word_back}
use Rattle.types.specs.Extents.{close_of}
use Rattle.types.specs.Means.{number_of, leaf, each}
use Rattle.types.specs.declared.extent.Step.{Step}
use Rattle.types.specs.declared.extent.Extent.{Extent}
use Rattle.table.specs.Means.{info_means, reach_means}
use Rattle.build.specs.Kinds.{value_step, entry_row}
use Rattle.build.specs.Means.{limited_means}
use Rattle.build.specs.Steps.{pair_of, pair_words, limited_of, fit_row}
use Rattle.build.proofs.Wording.{then_is}
use Rattle.build.proofs.ElementLaws.{entry_steps, value_fits}
use Rattle.build.proofs.members.entry_row.Goals as goal
use Rattle.build.proofs.members.entry_row.Goals.{After-within_limits}

-- the second step is the value's, and what is tested is its extents closed
second_is :
    (c : After-within_limits) →
    each c.member-second.result ≡ both (λ m. value_step m (info_means c.args.key) (info_means c.args.value))
second_is c = (entry_steps (info_means c.args.key) (info_means c.args.value) c.member.ensures c.extents-first.ensures c.member-second.ensures c.extents.ensures c.close.ensures).0

limited_is :
    (c : After-within_limits) →
    leaf limited_means c.within_limits.result
    ≡ limited_of (both (λ m. close_of (value_step m (info_means c.args.key) (info_means c.args.value)).extent)) (reach_means c.join.result)
limited_is c =
    c.within_limits.ensures
    ∙ ap (λ (es : Both Extent). limited_of es (reach_means c.join.result)) (entry_steps (info_means c.args.key) (info_means c.args.value) c.member.ensures c.extents-first.ensures c.member-second.ensures c.extents.ensures c.close.ensures).1

pub overflow_cast-inner : goal.overflow_cast-inner
overflow_cast-inner c =
    let a = c.args in
    let at = (goal.at.overflow_cast-inner c).After-within_limits in
    let fits = value_fits (info_means a.key) (info_means a.value) _ _ (sym (ap (leaf limited_means) c.in_ok-entry.was) ∙ limited_is at) in
    omega (arith, ap (λ (b : Both Step). b.in32.start) (second_is at), fits mem32)

pub overflow_cast-inner-2 : goal.overflow_cast-inner-2
overflow_cast-inner-2 c =
    let a = c.args in
    let at = (goal.at.overflow_cast-inner-2 c).After-within_limits in
    let fits = value_fits (info_means a.key) (info_means a.value) _ _ (sym (ap (leaf limited_means) c.in_ok-entry.was) ∙ limited_is at) in
    omega (arith, ap (λ (b : Both Step). b.in64.start) (second_is at), fits mem64)

pub returns-in_err-entry : goal.returns-in_err-entry
unfolding entry_row fit_row and_then
returns-in_err-entry c =
    let a = c.args in
    let reached : reach_means c.join.result ≡ join_reach (reach_means a.key.reach) (reach_means a.value.reach) = rw (c.join.ensures, word_back) in
    let told : no (number_of c.in_err-entry.field-0.0) ≡ entry_row (info_means a.key) (info_means a.value) =
    simp (← reached, ← limited_is (goal.at.returns-in_err-entry c).After-within_limits, c.in_err-entry.was) in
    grind (arith, told)

pub returns : goal.returns
unfolding entry_row fit_row
returns c =
    let a = c.args in
    let at = (goal.at.returns c).After-within_limits in
    let v = second_is at in
    let entry = limited_means c.in_ok-entry.entry in
    let reached : reach_means c.join.result ≡ join_reach (reach_means a.key.reach) (reach_means a.value.reach) = rw (c.join.ensures, word_back) in
    let limited = sym (ap (leaf limited_means) c.in_ok-entry.was) ∙ limited_is at in
    ap is c.pair_row.ensures
    ∙ (λ i. is (pair_words 5
    (pair_of (record { disc = 0; offset = (v i).in32.start; entry = entry.layouts.in32 }) (record { disc = 0; offset = (v i).in64.start; entry = entry.layouts.in64 }))
    entry.reach))
    ∙ sym (then_is _ entry _ (sym (rw reached at limited)))
