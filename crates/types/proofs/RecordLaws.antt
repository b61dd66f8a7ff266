-- A record after any fields is 01's: in each memory the last end and the greatest alignment, the sum of the flat counts, and any bad info.
use mathlib.Core.Path.{◌≡◌, refl, sym, ap, ◌∙◌}
use mathlib.Core.Bool.{Bool, true, false, ◌||◌, ◌&&◌, not, or-false}
use mathlib.Core.List.{List, [], ◌∷◌}
use Rattle.canon.specs.Layout.{Memory, both, within, record_layout, record_numbers, largest_number}
use Rattle.canon.specs.Flat.{sum_flat}
use Rattle.canon.specs.Row.{Abi, good_abi}
use Rattle.canon.proofs.Tightest.{Aligned}
use Rattle.canon.proofs.FlatFolds.{sums, sums_sum}
use Rattle.canon.proofs.Sizes.{record_decides}
use Rattle.canon.proofs.Tests.{both_true}
use Rattle.canon.proofs.Rounding.{abi_tested}
use Rattle.types.specs.Leaves.{given, all_good, abi_layouts, flats_of, record_answer}
use Rattle.types.specs.States.{fitted_abi, FieldState, no_fields, add_field, add_fields, close_fields}
use Rattle.types.proofs.ExtentLaws.{both_same, members_of, record_reach}
use Rattle.types.proofs.AnswerLaws.{fitted_answer}

-- good infos are aligned
pub all_aligned : (is' : List Abi) → all_good is' ≡ true → (m : Memory) → Aligned (abi_layouts m is')
unfolding all_good
all_aligned [] e m = tt
all_aligned (i ∷ is') e m = (abi_tested i (both_true (good_abi i) _ e).0 m, all_aligned is' (both_true (good_abi i) _ e).1 m)

-- a bad info is remembered
pub one_bad : (a g h : Bool) → ((a || not g) || not h) ≡ (a || not (g && h))
one_bad true g h = refl
one_bad false true h = refl
one_bad false false h = refl

-- the state's parts after the fields
after : (s : FieldState) (is' : List Abi) →
    add_fields s is'
    ≡ record {
      extents = both (λ m. members_of (within m s.extents) (abi_layouts m is'));
      flats = sums s.flats (flats_of is');
      bad = s.bad || not (all_good is');
    }
unfolding add_fields add_field members_of sums all_good
after s [] = ap (λ (b : Bool). record { extents = s.extents; flats = s.flats; bad = b }) (sym (or-false s.bad))
after s (i ∷ is') =
    after (add_field s i) is'
    ∙ ap (λ (b : Bool). record {
      extents = both (λ m. members_of (within m (add_field s i).extents) (abi_layouts m is'));
      flats = sums (add_field s i).flats (flats_of is');
      bad = b;
    }) (one_bad s.bad (good_abi i) (all_good is'))

-- `RecordState` and `CanonicalAbiInfo::record`: the record of these infos
pub record_answer_lem : (is' : List Abi) → close_fields (add_fields no_fields is') ≡ record_answer is'
unfolding close_fields fitted_abi record_answer given
record_answer_lem is' = ap close_fields (after no_fields is') ∙ go (all_good is') refl
  where
    state : Bool → FieldState
    state b =
        record {
          extents = both (λ m. members_of (within m no_fields.extents) (abi_layouts m is'));
          flats = sums no_fields.flats (flats_of is');
          bad = not b;
        }

    go : (b : Bool) → all_good is' ≡ b → close_fields (state (all_good is')) ≡ record_answer is'
    go true h =
        rw (
          h,
          both_same (λ m. record_reach (abi_layouts m is') (all_aligned is' h m)),
          sums_sum (flats_of is'),
        )
        (fitted_answer (λ ls. record { layouts = ls; flats = sum_flat (flats_of is') }) (λ m. record_numbers (abi_layouts m is'))
        (λ m. record_layout (abi_layouts m is'))
        (λ m. record_decides largest_number (abi_layouts m is') (all_aligned is' h m)))
    go false h = rw h
