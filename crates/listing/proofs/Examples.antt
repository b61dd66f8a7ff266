-- 01's example whole, from the bytes to the text; `-` for no flat count, and a refusal after an earlier row; a length not divisible by four.
use mathlib.Core.Path.{◌≡◌, refl}
use mathlib.Core.List.{List, [], ◌∷◌}
use Prim.Native.Nat.{ℕ}
use Rattle.canon.specs.Layout.{greatest_align, starts, ends, last_end, record_size, greatest_size, payload_offset, variant_size, layout, numbers, round_up}
use Rattle.canon.specs.Flat.{join_lists, join_all, concat, copies, flatten, add_flat, max_flat, times_flat, sum_flat, greatest_flat, flat_count}
use Rattle.canon.specs.Pack.{pack}
use Rattle.canon.specs.Row.{row_of}
use Rattle.canon.specs.Description.{reference, case_of, members_of, cases_of, kind_of, type_of, is_too_large, checked, bodied, build_from, build}
use Rattle.canon.specs.Reach.{join_reach, deeper, reach, is_too_deep}
use Rattle.words.specs.Words.{word_at, words_of, whole_words}
use Rattle.listing.specs.Text.{digits, spaced, spaced_all, flat_text, row_line, row_lines, end_line, described, printed}

-- 3 2 1 4 4 4 6 64 8 65
abbrev three : List ℕ
three =
    3 ∷ 0 ∷ 0 ∷ 0 ∷ 2 ∷ 0 ∷ 0 ∷ 0 ∷ 1 ∷ 0 ∷ 0 ∷ 0 ∷ 4 ∷ 0 ∷ 0 ∷ 0 ∷
    4 ∷ 0 ∷ 0 ∷ 0 ∷ 4 ∷ 0 ∷ 0 ∷ 0 ∷ 6 ∷ 0 ∷ 0 ∷ 0 ∷ 64 ∷ 0 ∷ 0 ∷ 0 ∷
    8 ∷ 0 ∷ 0 ∷ 0 ∷ 65 ∷ 0 ∷ 0 ∷ 0 ∷ []

-- 10 6 17 8 70: seventeen U32, and a reference to a definition that is not there
abbrev stopped : List ℕ
stopped =
    10 ∷ 0 ∷ 0 ∷ 0 ∷ 6 ∷ 0 ∷ 0 ∷ 0 ∷ 17 ∷ 0 ∷ 0 ∷ 0 ∷ 8 ∷ 0 ∷ 0 ∷ 0 ∷
    70 ∷ 0 ∷ 0 ∷ 0 ∷ []

pub examples_hold :
    (printed three ≡
    48 ∷ 32 ∷ 51 ∷ 32 ∷ 56 ∷ 32 ∷ 52 ∷ 32 ∷ 49 ∷ 54 ∷ 32 ∷ 56 ∷ 32 ∷ 50 ∷ 10 ∷ 49 ∷
    32 ∷ 49 ∷ 32 ∷ 49 ∷ 54 ∷ 32 ∷ 52 ∷ 32 ∷ 50 ∷ 52 ∷ 32 ∷ 56 ∷ 32 ∷ 53 ∷ 10 ∷ 50 ∷
    32 ∷ 56 ∷ 32 ∷ 50 ∷ 48 ∷ 32 ∷ 52 ∷ 32 ∷ 51 ∷ 50 ∷ 32 ∷ 56 ∷ 32 ∷ 54 ∷ 10 ∷ 111 ∷
    107 ∷ 32 ∷ 51 ∷ 10 ∷ [])
    × (printed stopped ≡
    48 ∷ 32 ∷ 49 ∷ 48 ∷ 32 ∷ 54 ∷ 56 ∷ 32 ∷ 52 ∷ 32 ∷ 54 ∷ 56 ∷ 32 ∷ 52 ∷ 32 ∷ 45 ∷
    10 ∷ 114 ∷ 101 ∷ 102 ∷ 117 ∷ 115 ∷ 101 ∷ 100 ∷ 32 ∷ 52 ∷ 32 ∷ 49 ∷ 10 ∷ [])
    × (printed (1 ∷ []) ≡ 114 ∷ 101 ∷ 102 ∷ 117 ∷ 115 ∷ 101 ∷ 100 ∷ 32 ∷ 50 ∷ 32 ∷ 48 ∷ 10 ∷ [])
    × (printed [] ≡ 111 ∷ 107 ∷ 32 ∷ 48 ∷ 10 ∷ [])
unfolding
    round_up greatest_align starts ends last_end record_size greatest_size payload_offset variant_size layout numbers
    join_lists join_all concat copies flatten add_flat max_flat times_flat sum_flat greatest_flat flat_count join_reach deeper reach pack row_of reference case_of members_of cases_of
    kind_of type_of is_too_large is_too_deep checked bodied build_from build word_at words_of whole_words digits spaced spaced_all flat_text row_line row_lines end_line described printed
examples_hold = (refl, refl, refl, refl)
