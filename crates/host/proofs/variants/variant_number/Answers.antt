use mathlib.Core.Path.{ap, ◌∙◌}
use Rattle.host.specs.Numbers.{leaf_number, chosen, abi_words, inner_words}
use Rattle.host.proofs.Packs.{first_five, past_five}
use Rattle.host.proofs.variants.variant_number.Goals as goal

pub returns-then-k-lt-FIRST_INNER : goal.returns-then-k-lt-FIRST_INNER
returns-then-k-lt-FIRST_INNER g c =
    c.info_number.ensures
    ∙ ap (leaf_number (λ a. chosen _ (abi_words a))) c.variant.ensures
    ∙ first_five _ _ c.cases_of-state.ensures c.if-k-lt-FIRST_INNER.true

pub returns-else-k-lt-FIRST_INNER : goal.returns-else-k-lt-FIRST_INNER
returns-else-k-lt-FIRST_INNER g c =
    c.inner_number.ensures
    ∙ ap (leaf_number (λ v. chosen _ (inner_words v))) c.new.ensures
    ∙ past_five _ _ c.cases_of-state.ensures c.if-k-lt-FIRST_INNER.false
