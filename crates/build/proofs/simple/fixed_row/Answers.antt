-- Both extents and the repeated types.
use mathlib.Core.Path.{◌≡◌, refl, sym, ap, ◌∙◌}
use Rattle.canon.specs.Answer.{map_option}
use Rattle.canon.specs.Layout.{Memory, mem32, mem64, both}
use Rattle.canon.specs.Flat.{copies}
use Rattle.canon.specs.Pack.{Packed}
use Rattle.canon.specs.Row.{no_inner}
use Rattle.flat_types.specs.Lists.{unpacked, packed, memory_words, words_in}
use Rattle.table.specs.Means.{info_means}
use Rattle.build.specs.Steps.{pair_of, info_flat}
use Rattle.build.specs.Kinds.{fixed_row}
use Rattle.build.proofs.Wording.{flat_kept, fit_same}
use Rattle.build.proofs.simple.fixed_row.Goals as goal

pub returns : goal.returns
unfolding fixed_row
returns c =
    let a = c.args in
    let words : (m : Memory) → words_in m c.repeat-2.result ≡ packed (map_option (copies a.count) (unpacked (memory_words m (info_flat (info_means a.element))))) =
    λ m. c.repeat-2.ensures m ∙ ap (λ (p : Packed). packed (map_option (copies a.count) (unpacked (memory_words m p)))) (sym (flat_kept a.element)) in
    c.fit_row.ensures ∙ fit_same {ns = both (λ m. no_inner)} 10 c.repeat.ensures (λ j. pair_of (words mem32 j) (words mem64 j)) refl refl
