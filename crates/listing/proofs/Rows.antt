-- The flat count that is read of a row is its word.
use Rattle.std.proofs.Common.{◌≡◌, ℕ, List, sym, ap, ◌∙◌}
use Rattle.canon.specs.Row as canon
use Rattle.canon.specs.Row.{count_word, row_info, word}
use Rattle.canon.proofs.Rows.{count_word_count_of}
use Rattle.table.specs.Means.{info_means}
use Rattle.table.specs.declared.info.Info.{Info}

pub count_read : (r : List ℕ) (n : Info) → info_means n ≡ row_info r → n.flat.count ≡ word r 5
count_read r n e = sym (count_word_count_of n.flat.count) ∙ ap (λ (a : canon.Info). count_word a.abi.flats) e ∙ count_word_count_of (word r 5)
