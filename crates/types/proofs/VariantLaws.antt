-- A variant after any cases is 01's: in each memory the greatest payload after the discriminant, the greatest flat count,
-- the number of cases as far as it matters, and any bad info.
use mathlib.Core.Path.{◌≡◌, refl, sym, ap, ◌∙◌}
use mathlib.Core.Bool.{Bool, true, false, ◌||◌, not, or-false}
use mathlib.Core.List.{List, [], ◌∷◌}
use mathlib.Core.Option.{Option, none, some}
use Prim.Native.Nat.{ℕ, ◌+◌, ◌-◌, ◌≤◌, ◌<◌, max, min}
use native.Mathlib.Nat.{zero-add}
use native.Mathlib.Omega.{arith}
use lib.Dec.{leb, eqb}
use lib.ListN.{length}
use borrow.Author.Tests.{lt-leb, leb-true, leb-false, ne_eqb}
use Rattle.canon.specs.Answer.{bad_count}
use Rattle.canon.specs.Layout.{
  mem32,
  mem64,
  both,
  within,
  Layout,
  discriminant,
  greatest_align,
  greatest_size,
  payload_offset,
  variant_align,
  variant_size,
  variant_layout,
  variant_numbers,
  largest_number,
}
use Rattle.canon.specs.Placement.{four_gib}
use Rattle.canon.specs.Flat.{greatest_flat, variant_count}
use Rattle.canon.specs.Row.{Abi, good_abi}
use Rattle.canon.proofs.Rounding.{round_up_least, alignment_pos, alignment_dvd, Alignment, by8}
use Rattle.canon.proofs.Tightest.{Aligned, greatest_align_alignment}
use Rattle.canon.proofs.Alignments.{discriminant_alignment, variant_alignment, payload_agrees}
use Rattle.canon.proofs.FlatFolds.{greats, greats_greatest}
use Rattle.canon.proofs.Sizes.{variant_decides}
use Rattle.types.specs.Leaves.{
  given,
  fitting,
  in_either,
  all_good,
  abi_layouts,
  flats_of,
  discriminant_answer,
  payloads_of,
  variant_abi,
  variant_answer,
}
use Rattle.types.specs.Means.{bytes_of}
use Rattle.types.specs.declared.discriminant.DiscriminantSize.{DiscriminantSize}
use Rattle.types.specs.declared.discriminant.DiscriminantSize.TheVariants.{Size1, Size2, Size4}
use Rattle.types.specs.Extents.{extent_at, member_of, widest, variant_step}
use Rattle.types.specs.States.{CaseState, one_more, no_cases, add_case, add_cases, sized_cases, close_cases}
use Rattle.types.proofs.RoundLaws.{alignment_most, rounded_between}
use Rattle.types.proofs.ExtentLaws.{both_same, reach_is, member_reach_lem, close_reach}
use Rattle.types.proofs.AnswerLaws.{fitted_answer, discriminant_then}
use Rattle.types.proofs.RecordLaws.{all_aligned, one_bad}

-- the greatest of payloads

abbrev pub greatest : List Layout → Layout
greatest fs = record { size = greatest_size fs; align = greatest_align fs }

unfoldable pub widest_of : Layout → List Layout → Layout
widest_of f [] = f
widest_of f (g ∷ gs) = widest_of (widest f g) gs

widest_from : (f : Layout) (gs : List Layout) → 1 ≤ f.align → widest_of f gs ≡ widest f (greatest gs)
unfolding widest_of greatest_size greatest_align
widest_from f [] h = sized (omega arith) (omega arith)
  where
    sized : f.size ≡ max f.size 0 → f.align ≡ max f.align 1 → f ≡ record { size = max f.size 0; align = max f.align 1 }
    sized p q = rw (sym p, sym q)
widest_from f (g ∷ gs) h = widest_from (widest f g) gs (omega arith) ∙ same (omega arith) (omega arith)
  where
    same :
        max (max f.size g.size) (greatest_size gs) ≡ max f.size (max g.size (greatest_size gs)) →
        max (max f.align g.align) (greatest_align gs) ≡ max f.align (max g.align (greatest_align gs)) →
        widest (widest f g) (greatest gs) ≡ widest f (record { size = max g.size (greatest_size gs); align = max g.align (greatest_align gs) })
    same p q = rw (p, q)

positive : (fs : List Layout) → 1 ≤ greatest_align fs
unfolding greatest_align
positive [] = omega arith
positive (f ∷ fs) = omega (arith, positive fs)

pub widest_greatest : (fs : List Layout) → widest_of (record { size = 0; align = 1 }) fs ≡ greatest fs
widest_greatest fs = widest_from (record { size = 0; align = 1 }) fs (omega arith) ∙ same (omega arith) (omega (arith, positive fs))
  where
    same : max 0 (greatest_size fs) ≡ greatest_size fs → max 1 (greatest_align fs) ≡ greatest_align fs
        → widest (record { size = 0; align = 1 }) (greatest fs) ≡ greatest fs
    same p q = rw (p, q)

-- one memory: canon's payload offset, size and alignment
pub variant_reach :
    (n : ℕ) (fs : List Layout) →
    Aligned fs →
    variant_step (discriminant n) (greatest fs)
    ≡ record { start = payload_offset n fs; skipped = payload_offset n fs - discriminant n; extent = extent_at (variant_size n fs) (variant_align n fs) }
unfolding variant_step variant_size payload_offset
variant_reach n fs w =
    let a : Alignment (variant_align n fs) = variant_alignment n fs w in
    let offset : payload_offset n fs ≤ 8 = small in
    let start : min (payload_offset n fs) four_gib ≡ payload_offset n fs = omega arith in
    let before : min (discriminant n) four_gib ≡ discriminant n = omega (arith, alignment_most (discriminant_alignment n)) in
    let one : max (variant_align n fs) (variant_align n fs) ≡ variant_align n fs = omega arith in
    rw (
      ← reach_is (discriminant n) (variant_align n fs) (omega (arith, alignment_most (discriminant_alignment n))),
      member_reach_lem (discriminant n) (variant_align n fs) (record { size = greatest_size fs; align = variant_align n fs }) a,
      payload_agrees n fs w,
      start,
      before,
      one,
      close_reach (payload_offset n fs + greatest_size fs) (variant_align n fs) a,
    )
  where
    small : payload_offset n fs ≤ 8
    small =
        let a = greatest_align_alignment fs w in
        round_up_least (discriminant n) (greatest_align fs) 8 (alignment_pos a) (alignment_most (discriminant_alignment n)) (alignment_dvd a by8 (alignment_most a))

-- a payload starts close behind its discriminant
pub variant_fits : (s : DiscriminantSize) (f : Layout) → (variant_step (bytes_of s) f).start ≤ largest_number
unfolding variant_step member_of
variant_fits s f = omega (arith, bytes_small s, (rounded_between (min (bytes_of s) four_gib) (max (bytes_of s) f.align)).1)
  where
    bytes_small : (s : DiscriminantSize) → bytes_of s ≤ 4
    bytes_small Size1 = omega arith
    bytes_small Size2 = omega arith
    bytes_small Size4 = omega arith

-- the number of cases

unfoldable counted : ℕ → List (Option Abi) → ℕ
counted k [] = k
counted k (c ∷ cs) = counted (one_more k) cs

counted_length : (k : ℕ) (cs : List (Option Abi)) → k ≤ 65537 → counted k cs ≡ min (k + length cs) 65537
unfolding counted
counted_length k [] h = omega arith
counted_length k (c ∷ cs) h = counted_length (one_more k) cs (omega arith) ∙ omega arith

-- a count that stops at 65,537 tells all discriminants apart
pub discriminant_stops : (n : ℕ) → discriminant_answer (min n 65537) ≡ discriminant_answer n
unfolding discriminant_answer
discriminant_stops n = go (leb n 65536) refl
  where
    go : (b : Bool) → leb n 65536 ≡ b → discriminant_answer (min n 65537) ≡ discriminant_answer n
    go true h = let e : min n 65537 ≡ n = omega (arith, leb-true n 65536 h) in ap discriminant_answer e
    go false h =
        let l : 65536 < n = leb-false n 65536 h in
        let e : min n 65537 ≡ 65537 = omega arith in
        rw e (simp (lt-leb n 256 (omega arith), lt-leb n 65536 l, ne_eqb n 0 (λ z. omega arith)))

-- the state's parts after the cases
after : (s : CaseState) (cs : List (Option Abi)) →
    add_cases s cs
    ≡ record {
      payloads = both (λ m. widest_of (within m s.payloads) (abi_layouts m (payloads_of cs)));
      flats = greats s.flats (flats_of (payloads_of cs));
      count = counted s.count cs;
      bad = s.bad || not (all_good (payloads_of cs));
    }
unfolding add_cases add_case widest_of greats counted payloads_of all_good
after s [] = ap (λ (b : Bool). record { payloads = s.payloads; flats = s.flats; count = s.count; bad = b }) (sym (or-false s.bad))
after s (none ∷ cs) = after (add_case s none) cs
after s (some i ∷ cs) =
    after (add_case s (some i)) cs
    ∙ ap (λ (b : Bool). record {
      payloads = both (λ m. widest_of (within m (add_case s (some i)).payloads) (abi_layouts m (payloads_of cs)));
      flats = greats (add_case s (some i)).flats (flats_of (payloads_of cs));
      count = counted (one_more s.count) cs;
      bad = b;
    }) (one_bad s.bad (good_abi i) (all_good (payloads_of cs)))

-- good payloads after the discriminant of n cases
sized_answer :
    (n k : ℕ) (b : Bool) (is' : List Abi) →
    all_good is' ≡ true →
    sized_cases (discriminant n)
    (record { payloads = both (λ m. greatest (abi_layouts m is')); flats = greatest_flat (flats_of is'); count = k; bad = b })
    ≡ fitting (in_either (λ m. variant_numbers n (abi_layouts m is'))) (variant_abi n is')
unfolding sized_cases
sized_answer n k b is' h =
    rw (variant_reach n (abi_layouts mem32 is') (all_aligned is' h mem32), variant_reach n (abi_layouts mem64 is') (all_aligned is' h mem64))
    (fitted_answer
    (λ ls. record { disc = discriminant n; offsets = both (λ m. payload_offset n (abi_layouts m is')); abi = record { layouts = ls; flats = variant_count (flats_of is') } })
    (λ m. variant_numbers n (abi_layouts m is'))
    (λ m. variant_layout n (abi_layouts m is'))
    (λ m. variant_decides largest_number n (abi_layouts m is') (all_aligned is' h m)))

-- `VariantState` and `VariantInfo::new`: the variant of these cases
pub variant_answer_lem : (cs : List (Option Abi)) → close_cases (add_cases no_cases cs) ≡ variant_answer cs
unfolding close_cases variant_answer given
variant_answer_lem cs = ap close_cases (after no_cases cs) ∙ go (all_good (payloads_of cs)) refl
  where
    state : Bool → CaseState
    state b =
        record {
          payloads = both (λ m. widest_of (within m no_cases.payloads) (abi_layouts m (payloads_of cs)));
          flats = greats no_cases.flats (flats_of (payloads_of cs));
          count = counted no_cases.count cs;
          bad = not b;
        }

    go : (b : Bool) → all_good (payloads_of cs) ≡ b → close_cases (state (all_good (payloads_of cs))) ≡ variant_answer cs
    go true h =
        rw (
          h,
          both_same (λ m. widest_greatest (abi_layouts m (payloads_of cs))),
          greats_greatest (flats_of (payloads_of cs)),
          counted_length 0 cs (omega arith),
          zero-add (length cs),
          discriminant_stops (length cs),
        )
        (discriminant_then (length cs) _
        ∙ ap (given (not (eqb (length cs) 0)) bad_count) (sized_answer (length cs) _ _ (payloads_of cs) h))
    go false h = rw h
