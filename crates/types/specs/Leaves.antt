-- What 01 asks of the leaves (its modules 1 to 3): where an answer is given, the standard's numbers; where not, the refusal that comes first.
use Rattle.std.specs.Prelude.{Bool, true, ◌&&◌, cond, not, List, [], ◌∷◌, ◌++◌, map, ℕ, leb, eqb, length}
use Rattle.std.proofs.Math.Option.{Option, none, some}
use Rattle.canon.specs.Answer.{Leaf, is, no, bad_count, too_large, bad_row}
use Rattle.canon.specs.Layout.{
  Memory,
  mem32,
  mem64,
  Both,
  both,
  within,
  Layout,
  square,
  starts,
  ends,
  record_layout,
  record_numbers,
  discriminant,
  payload_offset,
  variant_layout,
  variant_numbers,
  grouped,
  flags_layout,
  fixed_layout,
  largest_number,
  round_up,
  end_after,
  most_flags,
}
use Rattle.canon.specs.Gaps.{skipped_to}
use Rattle.canon.specs.Flat.{sum_flat, variant_count, flags_count, times_flat}
use Rattle.canon.specs.Row.{Abi, is_alignment, good_abi}
use Rattle.canon.specs.Description.{some_above}

-- a test, and the number of the refusal where it fails
unfoldable pub given : {A : Type 0} → Bool → ℕ → Leaf A → Leaf A
given b x l = cond b l (no x)

-- refusal 6: "a start, end or size above 4294967295"
unfoldable pub fitting : {A : Type 0} → List ℕ → A → Leaf A
fitting ns a = cond (some_above largest_number ns) (no too_large) (is a)

-- the numbers of both memories. 01: "6 in either memory"
abbrev pub in_either : (Memory → List ℕ) → List ℕ
in_either f = f mem32 ++ f mem64

-- `align_to`: "the rounded value with the bytes it skipped"
pub record Rounding : Type 0 where
  pub value : ℕ
  pub skipped : ℕ

abbrev pub rounding_to : ℕ → ℕ → Rounding
rounding_to x a = record { value = round_up x a; skipped = skipped_to x a }

-- "An alignment other than 1, 2, 4 or 8 gives 8; else a rounded value above 4294967295 gives 6"
unfoldable pub align_to : ℕ → ℕ → Leaf Rounding
align_to x a = given (is_alignment a) bad_row (fitting (round_up x a ∷ []) (rounding_to x a))

-- `scalar`: "alignment equal to size, flat 1"
abbrev pub scalar_abi : ℕ → Abi
scalar_abi n = record { layouts = both (λ m. square n); flats = some 1 }

-- `grouped`: "four bytes for each started group of 32 labels, alignment 4, flat one I32 for each"
abbrev pub grouped_abi : ℕ → Abi
grouped_abi k = record { layouts = both (λ m. grouped k); flats = some k }

-- `next_field32` and `next_field64`, as order 10 amends 01: "answer the offset with the bytes skipped before it, and hand the moved end back"
pub record Field : Type 0 where
  pub offset : ℕ
  pub end : ℕ
  pub skipped : ℕ

unfoldable pub field_after : ℕ → Layout → Leaf Field
field_after e f =
    fitting
    (starts e (f ∷ []) ++ ends e (f ∷ []))
    (record { offset = round_up e f.align; end = end_after e f; skipped = skipped_to e f.align })

-- "8 for a bad info, before 6"
unfoldable pub next_field : Memory → Abi → ℕ → Leaf Field
next_field m i e = given (good_abi i) bad_row (field_after e (within m i.layouts))

-- Several infos

unfoldable pub all_good : List Abi → Bool
all_good [] = true
all_good (i ∷ is') = good_abi i && all_good is'

abbrev pub abi_layouts : Memory → List Abi → List Layout
abi_layouts m is' = map (λ (i : Abi). within m i.layouts) is'

abbrev pub flats_of : List Abi → List (Option ℕ)
flats_of is' = map (λ (i : Abi). i.flats) is'

-- `record` and `record_static`: "tests all for 8, then 6 in either memory"
abbrev pub record_abi : List Abi → Abi
record_abi is' = record { layouts = both (λ m. record_layout (abi_layouts m is')); flats = sum_flat (flats_of is') }

unfoldable pub record_answer : List Abi → Leaf Abi
record_answer is' =
    given (all_good is') bad_row (fitting (in_either (λ m. record_numbers (abi_layouts m is'))) (record_abi is'))

-- `DiscriminantSize::from_count`. Refusal 5: "variant or enum with n = 0"
unfoldable pub discriminant_answer : ℕ → Leaf ℕ
discriminant_answer n = given (not (eqb n 0)) bad_count (is (discriminant n))

-- `VariantInfo` and the info beside it
pub record VariantAbi : Type 0 where
  pub disc : ℕ
  pub offsets : Both ℕ
  pub abi : Abi

-- the infos of the payloads; a case may hold none
unfoldable pub payloads_of : List (Option Abi) → List Abi
payloads_of [] = []
payloads_of (none ∷ cs) = payloads_of cs
payloads_of (some i ∷ cs) = i ∷ payloads_of cs

-- of n cases with these payloads
abbrev pub variant_abi : ℕ → List Abi → VariantAbi
variant_abi n is' =
    record {
      disc = discriminant n;
      offsets = both (λ m. payload_offset n (abi_layouts m is'));
      abi = record { layouts = both (λ m. variant_layout n (abi_layouts m is')); flats = variant_count (flats_of is') };
    }

-- `VariantInfo::new`: "Refusals 8 for a bad info, then 5, then 6"
unfoldable pub variant_answer : List (Option Abi) → Leaf VariantAbi
variant_answer cs =
    given (all_good (payloads_of cs)) bad_row
    (given (not (eqb (length cs) 0)) bad_count
    (fitting
    (in_either (λ m. variant_numbers (length cs) (abi_layouts m (payloads_of cs))))
    (variant_abi (length cs) (payloads_of cs))))

-- `CanonicalAbiInfo::variant`
unfoldable pub info_alone : Leaf VariantAbi → Leaf Abi
info_alone (is v) = is v.abi
info_alone (no x) = no x

-- `enum_`: "a variant without payloads"
unfoldable pub enum_answer : ℕ → Leaf Abi
enum_answer n =
    given (not (eqb n 0)) bad_count
    (is (record { layouts = both (λ m. variant_layout n []); flats = variant_count [] }))

-- `flags`. Refusal 5: "flags above 512"
unfoldable pub flags_answer : ℕ → Leaf Abi
flags_answer n = given (leb n most_flags) bad_count (is (record { layouts = both (λ m. flags_layout n); flats = flags_count n }))

-- `fixed_length_list`: "size times count, element's alignment, flat product"
unfoldable pub fixed_answer : Abi → ℕ → Leaf Abi
fixed_answer i n =
    given (good_abi i) bad_row
    (fitting
    (in_either (λ m. (fixed_layout (within m i.layouts) n).size ∷ []))
    (record { layouts = both (λ m. fixed_layout (within m i.layouts) n); flats = times_flat i.flats n }))
