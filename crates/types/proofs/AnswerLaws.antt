-- What each function of an info finds call by call is 01's answer.
use mathlib.Core.Path.{◌≡◌, refl, sym, ap, ◌∙◌}
use mathlib.Core.Bool.{Bool, true, false, cond, not, ◌||◌}
use mathlib.Core.List.{List, [], ◌∷◌}
use mathlib.Core.Option.{some}
use Prim.Native.Nat.{ℕ, ◌+◌, ◌-◌, ◌*◌, ◌≤◌, max, min}
use native.Mathlib.Omega.{arith}
use lib.Dec.{eqb, ltb}
use borrow.Author.Tests.{ltb-false}
use Rattle.canon.specs.Answer.{Leaf, is, no, bad_count, too_large, and_then}
use Rattle.canon.specs.Layout.{
  Memory,
  mem32,
  mem64,
  Both,
  both,
  within,
  Layout,
  square,
  starts,
  ends,
  discriminant,
  greatest_align,
  greatest_size,
  payload_offset,
  variant_size,
  variant_layout,
  largest_number,
  round_up,
}
use Rattle.canon.specs.Placement.{four_gib}
use Rattle.canon.specs.Flat.{add_flat, greatest_flat, times_flat}
use Rattle.canon.specs.Row.{Abi, is_alignment, good_abi}
use Rattle.canon.specs.Description.{some_above}
use Rattle.canon.proofs.Alignments.{discriminant_alignment}
use Rattle.canon.proofs.Sizes.{above_append, last_decides}
use Rattle.canon.proofs.Rounding.{Alignment, by1, by2, by4, by8, alignment_test, abi_tested}
use Rattle.types.specs.Leaves.{
  scalar_abi,
  given,
  fitting,
  in_either,
  Field,
  field_after,
  discriminant_answer,
  enum_answer,
  fixed_answer,
}
use Rattle.types.specs.Means.{each, layouts_means, abi_means}
use Rattle.types.specs.Extents.{extent_at, member_of, is_large, fitted_of}
use Rattle.types.specs.States.{fitted_abi}
use Rattle.types.specs.declared.extent.Layout as code
use Rattle.types.specs.declared.both.Both as held
use Rattle.types.specs.declared.extent.Step.{Step}
use Rattle.types.specs.declared.info.CanonicalAbiInfo.{CanonicalAbiInfo}
use Rattle.types.proofs.ExtentLaws.{reach_is, reach_large, member_reach_lem, fitted_reach}

-- what is made of two exact ends, where the sizes alone decide
pub fitted_answer :
    {A : Type 0} (k : Both Layout → A) (ns : Memory → List ℕ) (f : Memory → Layout) →
    ((m : Memory) → some_above largest_number (ns m) ≡ ltb largest_number (f m).size) →
    and_then (fitted_of (both (λ m. extent_at (f m).size (f m).align))) (λ ls. is (k ls)) ≡ fitting (in_either ns) (k (both f))
unfolding fitting and_then
fitted_answer {A} k ns f h =
    rw (fitted_reach f, above_append largest_number (ns mem32) (ns mem64), h mem32, h mem64)
    (go (ltb largest_number (f mem32).size || ltb largest_number (f mem64).size))
  where
    go : (b : Bool) → and_then (cond b (no too_large) (is (both f))) (λ ls. is (k ls)) ≡ cond b (no too_large) (is (k (both f)))
    go true = refl
    go false = refl

-- `fixed_length_list`
pub fixed_answer_lem :
    (i : Abi) (n : ℕ) →
    good_abi i ≡ true →
    fixed_answer i n ≡ fitted_abi (both (λ m. extent_at ((within m i.layouts).size * n) (within m i.layouts).align)) (times_flat i.flats n)
unfolding fitted_abi fixed_answer given
fixed_answer_lem i n e =
    rw e
    (sym (fitted_answer (λ ls. record { layouts = ls; flats = times_flat i.flats n }) (λ m. (within m i.layouts).size * n ∷ [])
    (λ m. record { size = (within m i.layouts).size * n; align = (within m i.layouts).align })
    (λ m. last_decides largest_number [] ((within m i.layouts).size * n) tt)))

-- a good info is aligned in either memory
pub good_aligned :
    (i : CanonicalAbiInfo) (m : Memory) (b : held.Both code.Layout) (f : code.Layout) →
    good_abi (abi_means i) ≡ true →
    layouts_means b ≡ (abi_means i).layouts →
    f ≡ within m (each b) →
    is_alignment f.align ≡ true
good_aligned i mem32 b f e h p = alignment_test (simp (p, ap (λ (l : Both Layout). l.in32.align) h) (abi_tested (abi_means i) e mem32))
good_aligned i mem64 b f e h p = alignment_test (simp (p, ap (λ (l : Both Layout). l.in64.align) h) (abi_tested (abi_means i) e mem64))

-- `next_field32` and `next_field64`: the field is a member of an extent that begins at the end

abbrev step_field : Step → Field
step_field s = record { offset = s.start; end = s.extent.end; skipped = s.skipped }

pub field_step :
    (e : ℕ) (f : Layout) →
    Alignment f.align →
    e ≤ largest_number →
    field_after e f
    ≡ cond (is_large (member_of (record { end = e; align = 1 }) f).extent) (no too_large)
    (is (step_field (member_of (record { end = e; align = 1 }) f)))
unfolding field_after fitting starts ends
field_step e f w h =
    rw (
      last_decides largest_number (round_up e f.align ∷ []) (round_up e f.align + f.size) (omega arith, tt),
      ← reach_is e 1 (omega arith),
      member_reach_lem e 1 f w,
      reach_large (round_up e f.align + f.size) (max 1 f.align),
    )
    (go (ltb largest_number (round_up e f.align + f.size)) refl)
  where
    go :
        (b : Bool) →
        ltb largest_number (round_up e f.align + f.size) ≡ b →
        cond {A = Leaf Field} b (no too_large)
        (is (record { offset = round_up e f.align; end = round_up e f.align + f.size; skipped = round_up e f.align - e }))
        ≡ cond b (no too_large)
        (is
        (record {
          offset = min (round_up e f.align) four_gib;
          end = (extent_at (round_up e f.align + f.size) (max 1 f.align)).end;
          skipped = min (round_up e f.align) four_gib - min e four_gib;
        }))
    go true p = refl
    go false p =
        let l : round_up e f.align + f.size ≤ largest_number = ltb-false _ _ p in
        let o : min (round_up e f.align) four_gib ≡ round_up e f.align = omega arith in
        let end : min e four_gib ≡ e = omega arith in
        rw (o, end, reach_is (round_up e f.align + f.size) (max 1 f.align) (omega arith))

-- `enum_`

-- a discriminant, and what follows it
pub discriminant_then : {B : Type 0} (n : ℕ) (k : ℕ → Leaf B) → and_then (discriminant_answer n) k ≡ given (not (eqb n 0)) bad_count (k (discriminant n))
unfolding and_then discriminant_answer given
discriminant_then {B} n k = go (not (eqb n 0))
  where
    go : (b : Bool) → and_then (cond b (is (discriminant n)) (no bad_count)) k ≡ cond b (k (discriminant n)) (no bad_count)
    go true = refl
    go false = refl

no_payload : {d : ℕ} → Alignment d → round_up (round_up d 1 + 0) (max d 1) ≡ d
unfolding round_up
no_payload by1 = refl
no_payload by2 = refl
no_payload by4 = refl
no_payload by8 = refl

no_payload_align : {d : ℕ} → Alignment d → max d 1 ≡ d
no_payload_align by1 = refl
no_payload_align by2 = refl
no_payload_align by4 = refl
no_payload_align by8 = refl

enum_layout : (n : ℕ) → variant_layout n [] ≡ square (discriminant n)
unfolding variant_size payload_offset greatest_align greatest_size
enum_layout n = rw (no_payload (discriminant_alignment n), no_payload_align (discriminant_alignment n))

pub enum_answer_lem : (n : ℕ) → enum_answer n ≡ and_then (discriminant_answer n) (λ d. is (scalar_abi d))
unfolding enum_answer add_flat greatest_flat
enum_answer_lem n =
    ap (λ (f : Layout). given (not (eqb n 0)) bad_count (is (record { layouts = both (λ m. f); flats = some 1 }))) (enum_layout n)
    ∙ sym (discriminant_then n (λ d. is (scalar_abi d)))
