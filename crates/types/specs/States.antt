-- The states of a record and of a variant, step by step as the code takes them. proofs/RecordLaws and proofs/VariantLaws carry them to 01's answers.
use Rattle.std.specs.Prelude.{Bool, false, ◌||◌, not, List, [], ◌∷◌, ℕ, ◌+◌, min}
use Rattle.std.proofs.Math.Option.{Option, none, some}
use Rattle.canon.specs.Answer.{Leaf, is, bad_row, and_then}
use Rattle.canon.specs.Layout.{Both, both, within, Layout}
use Rattle.canon.specs.Flat.{add_flat, max_flat}
use Rattle.canon.specs.Row.{Abi, good_abi}
use Rattle.types.specs.declared.extent.Extent.{Extent}
use Rattle.types.specs.declared.record.RecordState.{RecordState}
use Rattle.types.specs.declared.variant.VariantState.{VariantState}
use Rattle.types.specs.Leaves.{VariantAbi, given, discriminant_answer}
use Rattle.types.specs.Means.{count_means, layouts_means, each}
use Rattle.types.specs.Extents.{start_extent, member_of, close_of, widest, variant_step, fitted_of}

-- the info of what ends so in the two memories
unfoldable pub fitted_abi : Both Extent → Option ℕ → Leaf Abi
fitted_abi es c = and_then (fitted_of es) (λ ls. is (record { layouts = ls; flats = c }))

-- A record

pub record FieldState : Type 0 where
  pub extents : Both Extent
  pub flats : Option ℕ
  pub bad : Bool

abbrev pub record_means : RecordState → FieldState
record_means s = record { extents = each s.extents; flats = count_means s.flat; bad = s.bad }

abbrev pub no_fields : FieldState
no_fields = record { extents = both (λ m. start_extent); flats = some 0; bad = false }

unfoldable pub add_field : FieldState → Abi → FieldState
add_field s i =
    record {
      extents = both (λ m. (member_of (within m s.extents) (within m i.layouts)).extent);
      flats = add_flat s.flats i.flats;
      bad = s.bad || not (good_abi i);
    }

unfoldable pub add_fields : FieldState → List Abi → FieldState
add_fields s [] = s
add_fields s (i ∷ is') = add_fields (add_field s i) is'

-- `CanonicalAbiInfo::record`: 8, then 6
unfoldable pub close_fields : FieldState → Leaf Abi
close_fields s = given (not s.bad) bad_row (fitted_abi (both (λ m. close_of (within m s.extents))) s.flats)

-- A variant

pub record CaseState : Type 0 where
  pub payloads : Both Layout
  pub flats : Option ℕ
  pub count : ℕ
  pub bad : Bool

abbrev pub cases_means : VariantState → CaseState
cases_means s =
    record {
      payloads = layouts_means s.layouts;
      flats = count_means s.flat;
      count = s.count;
      bad = s.bad;
    }

-- a count that stops where the discriminant grows no more
abbrev pub one_more : ℕ → ℕ
one_more n = min (n + 1) 65537

abbrev pub no_cases : CaseState
no_cases = record { payloads = both (λ m. record { size = 0; align = 1 }); flats = some 0; count = 0; bad = false }

unfoldable pub add_case : CaseState → Option Abi → CaseState
add_case s none = record { payloads = s.payloads; flats = s.flats; count = one_more s.count; bad = s.bad }
add_case s (some i) =
    record {
      payloads = both (λ m. widest (within m s.payloads) (within m i.layouts));
      flats = max_flat s.flats i.flats;
      count = one_more s.count;
      bad = s.bad || not (good_abi i);
    }

unfoldable pub add_cases : CaseState → List (Option Abi) → CaseState
add_cases s [] = s
add_cases s (c ∷ cs) = add_cases (add_case s c) cs

-- with a discriminant of d bytes
unfoldable pub sized_cases : ℕ → CaseState → Leaf VariantAbi
sized_cases d s =
    and_then
    (fitted_of (both (λ m. (variant_step d (within m s.payloads)).extent)))
    (λ ls.
    is
    (record {
      disc = d;
      offsets = both (λ m. (variant_step d (within m s.payloads)).start);
      abi = record { layouts = ls; flats = add_flat (some 1) s.flats };
    }))

-- `VariantInfo::new`: 8, then 5, then 6
unfoldable pub close_cases : CaseState → Leaf VariantAbi
close_cases s = given (not s.bad) bad_row (and_then (discriminant_answer s.count) (λ d. sized_cases d s))
