-- What a host reads off the answers that hold several numbers (docs/HOST.md), over the calls' promises: each number in its bits, nothing of an accepted
-- answer in those of a refusal, and nothing of a refusal in those of an accepted answer.
use mathlib.Core.Path.{◌≡◌, refl}
use mathlib.Core.Bool.{Bool, true, false, cond}
use mathlib.Core.List.{List, [], ◌∷◌}
use Prim.Native.Nat.{ℕ, ◌/◌, ◌%◌, ◌^◌, ◌≤◌}
use native.Mathlib.Omega.{arith}
use lib.ListN.{length}
use borrow.Author.Tests.{ltb-false}
use contract.Lifetimes.{Lfts}
use denote.Bor.{Bor}
use denote.Ref.{MutBor, at_last}
use Rattle.canon.specs.Answer.{Leaf, is, no, Answer, ok, refused, then, unless, too_long, truncated, too_large, bad_row}
use Rattle.canon.specs.Layout.{Memory, Layout, round_up, largest_number}
use Rattle.canon.specs.Row.{is_alignment}
use Rattle.canon.specs.Description.{most_words, some_above, built, build_answer}
use Rattle.canon.specs.Question.{Placing, placing, placement_answer}
use Rattle.canon.specs.Cost.{rows_read, reported, build_reads, placement_reads}
use Rattle.canon.specs.Gaps.{Padded, room_of, padding, after_answer}
use Rattle.canon.proofs.Built.{built_sound}
use Rattle.canon.proofs.Cells.{room_fits}
use Rattle.canon.proofs.Costs.{build_few, placement_few}
use Rattle.canon.proofs.Questions.{placing_within}
use Rattle.canon.proofs.Gaps.{skipped_below, placing_of, padding_placing}
use Rattle.canon.proofs.Rounding.{alignment_pos, alignment_tested}
use Rattle.canon.proofs.Tests.{impossible, neither}
use Rattle.types.specs.Leaves.{Rounding, given, fitting, rounding_to, align_to}
use Rattle.types.proofs.RoundLaws.{alignment_most}
use Rattle.words.specs.Words.{whole_words}
use Rattle.build.specs.Means.{accepted}
use Rattle.build.proofs.Accepts.{accepted_types}
use Rattle.host.specs.Numbers.{memory_at, refusal_number, leaf_number, rounding_number, build_number, build_call, placement_number, placement_call}
use Rattle.host.specs.Bytes.{too_many_bytes, cut_bytes, build_bytes, reads_of_bytes}
use Rattle.host.specs.Short.{ShortLayout, ShortGap, IfAnswered}
use Rattle.host.proofs.Short.{placement_short, after_short}
use Rattle.host.proofs.leaves.lampughjata_align_to.Reads as align-to
use Rattle.host.proofs.tables.lampughjata_build.Reads as build
use Rattle.host.proofs.tables.lampughjata_placement.Reads as placement
use Rattle.host.proofs.build_bytes.lampughjata_build_bytes.Reads as build-bytes
use Rattle.host.proofs.table_bytes.lampughjata_placement_bytes.Reads as placement-bytes

-- a refusal: its number from bit 56 on, its place below bit 32, and 0 between, where a report stands
abbrev Refusal : ℕ → ℕ → ℕ → Type 0
Refusal x i r = (r / 2 ^ 56 ≡ x) × (r % 2 ^ 32 ≡ i) × (r / 2 ^ 32 % 2 ^ 24 ≡ 0)

abbrev pub BuildBits : Answer ℕ → ℕ → ℕ → Type 0
BuildBits (ok n) reads r = (r / 2 ^ 56 ≡ 0) × (r % 2 ^ 32 ≡ n) × (r / 2 ^ 32 ≡ reads)
BuildBits (refused x i) reads r = Refusal x i r

abbrev pub PlacementBits : Answer Layout → ℕ → Answer ℕ → ℕ → Type 0
PlacementBits (ok f) reads (ok gap) r =
    (r / 2 ^ 56 ≡ 0) × (r % 2 ^ 32 ≡ f.size) × (r / 2 ^ 32 % 2 ^ 4 ≡ f.align) × (r / 2 ^ 36 % 2 ^ 4 ≡ gap) × (r / 2 ^ 40 ≡ reads)
PlacementBits (ok f) reads (refused x i) r = ⊥
PlacementBits (refused x i) reads gap r = Refusal x i r

abbrev pub AnsweredBits : Memory → List ℕ → ℕ → List ℕ → ℕ → ℕ → Type 0
AnsweredBits m t n ws room r = PlacementBits (placement_answer m t n ws room) (placement_reads m t n ws room) (after_answer m t n ws room) r

abbrev pub RoundingBits : Leaf Rounding → ℕ → Type 0
RoundingBits (is u) r = (r / 2 ^ 56 ≡ 0) × (r % 2 ^ 32 ≡ u.value) × (r / 2 ^ 32 ≡ u.skipped)
RoundingBits (no x) r = Refusal x 0 r

refusal_read : (x i : ℕ) → i ≤ most_words → Refusal x i (refusal_number x i)
refusal_read x i h = (omega arith, omega arith, omega arith)

-- Builds

build_read : (ws t : List ℕ) → BuildBits (build_answer ws t) (build_reads ws t) (build_call ws t)
build_read ws t = go (build_answer ws t) (accepted_types ws t)
  where
    most : length (built ws t).types ≤ 1024
    most = omega (arith, (built_sound ws t).fits, (room_fits (length t)).0)

    go : (a : Answer ℕ) → accepted a ≡ length (built ws t).types → BuildBits a (build_reads ws t) (build_number a (build_reads ws t))
    go (ok n) e = let few = build_few ws t in (omega (arith, few, e, most), omega (arith, few, e, most), omega (arith, few, e, most))
    go (refused x i) e = refusal_read x i (omega (arith, e, most))

bytes_read : (b t : List ℕ) → BuildBits (build_bytes b t) (reads_of_bytes b t) (build_number (build_bytes b t) (reads_of_bytes b t))
unfolding build_bytes reads_of_bytes build_reads unless
bytes_read b t = go (too_many_bytes b) (cut_bytes b)
  where
    told : Bool → Bool → Answer ℕ
    told many cut = unless many too_long (unless cut truncated (build_answer (whole_words b) (whole_words t)))

    reads : Bool → Bool → ℕ
    reads many cut = reported (told many cut) (rows_read (whole_words b))

    go : (many cut : Bool) → BuildBits (told many cut) (reads many cut) (build_number (told many cut) (reads many cut))
    go true cut = refusal_read too_long 0 (omega arith)
    go false true = refusal_read truncated 0 (omega arith)
    go false false = build_read (whole_words b) (whole_words t)

module _ (κs : Lfts 2) (ws : Bor (List ℕ)) (t : MutBor (List ℕ)) (r : ℕ) (l : List ℕ) where
  pub build_bits : build.Post κs (ws, (t, tt)) r (ws, (at_last t l, tt)) → BuildBits (build_answer ws.now t.now) (build_reads ws.now t.now) r
  build_bits promise = rw promise.0 (build_read ws.now t.now)

  pub build_bytes_bits : build-bytes.Post κs (ws, (t, tt)) r (ws, (at_last t l, tt)) → BuildBits (build_bytes ws.now t.now) (reads_of_bytes ws.now t.now) r
  build_bytes_bits promise = rw promise.0 (bytes_read ws.now t.now)

-- Placements

placement_read :
    (m : Memory) (t : List ℕ) (n : ℕ) (ws : List ℕ) (room : ℕ) →
    AnsweredBits m t n ws room (placement_call m t n ws room)
unfolding placement_answer after_answer then
placement_read m t n ws room =
    go (placing m t n ws room) (padding m t n ws room) refl (padding_placing m t n ws room) (placement_short m t n ws room) (after_short m t n ws room)
  where
    reads : ℕ
    reads = placement_reads m t n ws room

    layouts : Answer Placing → Answer Layout
    layouts a = then a (λ p. ok p.layout)

    afters : Answer Padded → Answer ℕ
    afters b = then b (λ q. ok q.after)

    go :
        (a : Answer Placing) (b : Answer Padded) → placing m t n ws room ≡ a → placing_of b ≡ placing m t n ws room →
        IfAnswered ShortLayout (layouts a) → IfAnswered ShortGap (afters b) →
        PlacementBits (layouts a) reads (afters b) (placement_number (layouts a) reads (afters b))
    go (ok p) (ok q) e f short gap =
        let few = placement_few m t n ws room in (
          omega (arith, few, short.0, short.1, gap),
          omega (arith, short.0, short.1),
          omega (arith, short.0, short.1),
          omega (arith, short.0, short.1, gap),
          omega (arith, few, short.0, short.1, gap),
        )
    go (ok p) (refused x i) e f short gap = impossible (cc)
    go (refused x i) b e f short gap = refusal_read x i (placing_within m t n ws room x i e)

module _ (κs : Lfts 4) (memory : ℕ) (t : Bor (List ℕ)) (n : ℕ) (refs : Bor (List ℕ)) (o g : MutBor (List ℕ)) (r : ℕ) (l k : List ℕ) where
  pub placement_bits :
      placement.Post κs (memory, (t, (n, (refs, (o, (g, tt)))))) r (memory, (t, (n, (refs, (at_last o l, (at_last g k, tt)))))) →
      AnsweredBits (memory_at memory) t.now n refs.now (room_of o.now g.now) r
  placement_bits promise = rw promise.0 (placement_read (memory_at memory) t.now n refs.now (room_of o.now g.now))

  pub placement_bytes_bits :
      placement-bytes.Post κs (memory, (t, (n, (refs, (o, (g, tt)))))) r (memory, (t, (n, (refs, (at_last o l, (at_last g k, tt)))))) →
      AnsweredBits (memory_at memory) (whole_words t.now) n (whole_words refs.now) (room_of (whole_words o.now) (whole_words g.now)) r
  placement_bytes_bits promise =
      rw promise.0 (placement_read (memory_at memory) (whole_words t.now) n (whole_words refs.now) (room_of (whole_words o.now) (whole_words g.now)))

-- The rounding leaf

rounding_read : (a b : ℕ) → RoundingBits (align_to a b) (leaf_number rounding_number (align_to a b))
unfolding align_to given fitting
rounding_read a b = go (is_alignment b) (some_above largest_number (round_up a b ∷ [])) refl refl
  where
    go :
        (aligned large : Bool) → is_alignment b ≡ aligned → some_above largest_number (round_up a b ∷ []) ≡ large →
        RoundingBits (cond aligned (cond large (no too_large) (is (rounding_to a b))) (no bad_row))
        (leaf_number rounding_number (cond aligned (cond large (no too_large) (is (rounding_to a b))) (no bad_row)))
    go false large e f = refusal_read bad_row 0 (omega arith)
    go true true e f = refusal_read too_large 0 (omega arith)
    go true false e f =
        let w = alignment_tested b e in
        let below = skipped_below a b (alignment_pos w) in
        let fits : round_up a b ≤ largest_number = ltb-false largest_number (round_up a b) (neither _ _ f).0 in
        (omega (arith, below, alignment_most w, fits), omega (arith, fits), omega (arith, below, alignment_most w, fits))

pub align_to_bits : (a b r : ℕ) → align-to.Post tt (a, (b, tt)) r (a, (b, tt)) → RoundingBits (align_to a b) r
align_to_bits a b r promise = rw promise (rounding_read a b)
