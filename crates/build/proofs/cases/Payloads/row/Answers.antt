-- The discriminant in front, in both memories; a payload starts close behind it.
use mathlib.Core.Path.{refl, ap, ◌∙◌}
use native.Mathlib.Omega.{arith}
use Rattle.canon.specs.Layout.{Both, both, within}
use Rattle.canon.specs.Row.{no_layout}
use Rattle.canon.specs.Types.{kind_word}
use Rattle.head.specs.Means.{kind_means}
use Rattle.types.specs.Means.{layout_means}
use Rattle.types.specs.declared.extent.Step.{Step}
use Rattle.types.proofs.VariantLaws.{variant_fits}
use Rattle.build.specs.Steps.{pair_of, in_each, payloads_row}
use Rattle.build.proofs.Wording.{fit_same}
use Rattle.build.proofs.cases.Payloads.row.Goals as goal

pub overflow_cast-inner : goal.overflow_cast-inner
overflow_cast-inner c =
    let a = c.args in
    omega (arith, ap (λ (b : Both Step). b.in32.start) c.variant-step.ensures, variant_fits a.size (layout_means a.self.layouts.in32))

pub overflow_cast-inner-2 : goal.overflow_cast-inner-2
overflow_cast-inner-2 c =
    let a = c.args in
    omega (arith, ap (λ (b : Both Step). b.in64.start) c.variant-step.ensures, variant_fits a.size (layout_means a.self.layouts.in64))

pub returns : goal.returns
unfolding payloads_row
returns c =
    let d = c.byte_size.ensures in
    let v = c.variant-step.ensures in
    c.fit_row.ensures
    ∙ fit_same (kind_word (kind_means c.args.kind))
    (c.extents.ensures ∙ ap (λ (b : Both Step). both (λ m. (within m b).extent)) v)
    (ap in_each c.with_discriminant.ensures)
    (λ i. pair_of (record { disc = d i; offset = (v i).in32.start; entry = no_layout }) (record { disc = d i; offset = (v i).in64.start; entry = no_layout }))
    refl
