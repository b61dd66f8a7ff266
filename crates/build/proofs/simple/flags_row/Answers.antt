-- The row of the layout of so many flags.
use mathlib.Core.Path.{sym, ap, ◌∙◌}
use Rattle.canon.specs.Answer.{is}
use Rattle.canon.specs.Layout.{mem32, mem64, both}
use Rattle.canon.specs.Reach.{no_reach, word_reach, deeper}
use Rattle.canon.specs.Row.{no_inner, row_words}
use Rattle.types.specs.Leaves.{flags_answer}
use Rattle.types.specs.Means.{abi_means, layouts_means}
use Rattle.build.specs.Steps.{pair_of}
use Rattle.build.specs.Kinds.{flags_row}
use Rattle.build.proofs.Wording.{then_is}
use Rattle.build.proofs.simple.flags_row.Goals as goal

pub returns : goal.returns
unfolding flags_row word_reach deeper
returns c =
    let words = c.flags-2.ensures in
    ap is c.row_of.ensures
    ∙ (λ j. is (row_words 6 (layouts_means (c.layouts.ensures j)) (pair_of (words mem32 j) (words mem64 j)) (both (λ m. no_inner)) (deeper no_reach)))
    ∙ sym (then_is (flags_answer c.args.count) (abi_means c.in_ok-abi.abi) _ (sym c.in_ok-abi.ensures))
