-- Reading and writing one row of a table, for every index: a row that the table has no room for is of no words, and none are written.
use Rattle.std.specs.Prelude.{Bool, cond, ◌&&◌, List, [], ◌≡◌, ℕ, ltb, leb, length}
use Rattle.canon.specs.Layout.{Memory, Both, within}
use Rattle.canon.specs.Pack.{Packed}
use Rattle.canon.specs.Reach.{good_reach}
use Rattle.canon.specs.Row.{word, row_abi, good_layout, good_count, unused_zero, is_discriminant}
use Rattle.canon.specs.Table.{capacity, row_at, put_from}
use Rattle.flat_types.specs.Lists.{halves}
use Rattle.flat_types.specs.declared.both.FlatTypes.{FlatTypes}

unfoldable pub row_in : List ℕ → ℕ → List ℕ
row_in t j = cond (ltb j (capacity (length t))) (row_at t j) []

unfoldable pub table_with : List ℕ → ℕ → List ℕ → List ℕ
table_with t j ws = cond (ltb j (capacity (length t))) (put_from (capacity (length t)) j 0 ws t) t

-- words 5 to 7 of a row, as they stand: the flat words, and with the count in one memory

abbrev pub row_flats : List ℕ → Both ℕ
row_flats r = record { in32 = word r 6; in64 = word r 7 }

abbrev pub row_packed : Memory → List ℕ → Packed
row_packed m r = record { number = word r 5; types = within m (row_flats r) }

-- the flat types of these words
pub record RowTypes (f : FlatTypes) (r : List ℕ) : Type 0 where
  pub count : f.count ≡ word r 5
  pub flats : halves f.words ≡ row_flats r

-- The good form in two halves, in the order of 01's rules: together they are canon's `is_good` (proofs/Reading.good_halves)

-- "kind is 1 to 10; alignments are 1, 2, 4 or 8; each size is a multiple of its alignment"
unfoldable pub good_first_words : List ℕ → Bool
good_first_words r = leb 1 (word r 0) && (leb (word r 0) 10 && (good_layout (row_abi r).layouts.in32 && good_layout (row_abi r).layouts.in64))

-- "flat count is 0 to 16 or 255; unused flat bits are zero; word 8 is 0, 1, 2 or 4", and a good reach
unfoldable pub good_later_words : List ℕ → Bool
good_later_words r =
    (good_count (row_abi r).flats && (unused_zero (row_abi r).flats (word r 6) && unused_zero (row_abi r).flats (word r 7)))
    && (is_discriminant (word r 8) && good_reach (word r 15))
