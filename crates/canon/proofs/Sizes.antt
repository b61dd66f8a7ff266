-- Too large in 01's words (a start, an end or the size) comes to the size alone.
use mathlib.Core.Path.{◌≡◌, refl, sym}
use mathlib.Core.Bool.{Bool, true, false, ◌||◌, or-false}
use mathlib.Core.List.{List, [], ◌∷◌, ◌++◌}
use Prim.Native.Nat.{ℕ, ◌+◌, ◌≤◌}
use native.Mathlib.Omega.{arith}
use lib.Dec.{ltb}
use borrow.Author.Tests.{ltb-true, lt-ltb}
use Rattle.canon.specs.Types.{Ty, scalar, string, record_of, variant_of, list_of, tuple_of, map_of, flags_of, enum_of, option_of, result_of, fixed_of, count}
use Rattle.canon.specs.Layout.{Memory, mem32, mem64, Layout, largest_number, starts, ends, last_end, record_size, record_numbers, greatest_size, payload_offset, variant_size, variant_numbers, layout, members, payload, payloads, numbers, round_up}
use Rattle.canon.specs.Description.{some_above, is_too_large}
use Rattle.canon.proofs.Rounding.{le_round_up, alignment_pos}
use Rattle.canon.proofs.Tightest.{Aligned, le_last_end, le_record_size}
use Rattle.canon.proofs.Alignments.{layout_aligned, members_aligned, payload_aligned, payloads_aligned, variant_alignment, aligned_append}
use Rattle.canon.proofs.Despecialize.{entry_of}
use Rattle.canon.specs.Placement.{Every}

pub above_append : (n : ℕ) (xs ys : List ℕ) → some_above n (xs ++ ys) ≡ (some_above n xs || some_above n ys)
above_append n [] ys = refl
above_append n (x ∷ xs) ys = go (ltb n x) (above_append n xs ys)
  where
    go : (b : Bool) → some_above n (xs ++ ys) ≡ (some_above n xs || some_above n ys) → (b || some_above n (xs ++ ys))
        ≡ ((b || some_above n xs) || some_above n ys)
    go true e = refl
    go false e = e

-- where the last number of a list is at least each of them, it decides
pub last_decides : (n : ℕ) (xs : List ℕ) (y : ℕ) → Every (λ x. x ≤ y) xs → some_above n (xs ++ y ∷ []) ≡ ltb n y
last_decides n [] y w = or-false (ltb n y)
last_decides n (x ∷ xs) y w = go (ltb n x) refl (last_decides n xs y w.1)
  where
    go : (b : Bool) → ltb n x ≡ b → some_above n (xs ++ y ∷ []) ≡ ltb n y → (b || some_above n (xs ++ y ∷ [])) ≡ ltb n y
    go true h e = sym (lt-ltb n y (omega (arith, ltb-true n x h, w.0)))
    go false h e = e

every_append : (P : ℕ → Type 0) (xs ys : List ℕ) → Every P xs → Every P ys → Every P (xs ++ ys)
every_append P [] ys v w = w
every_append P (x ∷ xs) ys v w = (v.0, every_append P xs ys v.1 w)

starts_below : (e y : ℕ) (fs : List Layout) → Aligned fs → last_end e fs ≤ y → Every (λ x. x ≤ y) (starts e fs)
unfolding starts last_end
starts_below e y [] w h = tt
starts_below e y (f ∷ fs) w h =
    (omega (arith, le_last_end (round_up e f.align + f.size) fs w.1), starts_below (round_up e f.align + f.size) y fs w.1 h)

ends_below : (e y : ℕ) (fs : List Layout) → Aligned fs → last_end e fs ≤ y → Every (λ x. x ≤ y) (ends e fs)
unfolding ends last_end
ends_below e y [] w h = tt
ends_below e y (f ∷ fs) w h =
    (omega (arith, le_last_end (round_up e f.align + f.size) fs w.1), ends_below (round_up e f.align + f.size) y fs w.1 h)

-- of a record: the size
pub record_decides : (n : ℕ) (fs : List Layout) → Aligned fs → some_above n (record_numbers fs) ≡ ltb n (record_size fs)
record_decides n fs w =
    let l : last_end 0 fs ≤ record_size fs = le_record_size fs w in
    last_decides n (starts 0 fs ++ ends 0 fs) (record_size fs)
    (every_append _ (starts 0 fs) (ends 0 fs) (starts_below 0 (record_size fs) fs w l) (ends_below 0 (record_size fs) fs w l))

-- of a variant: the size
pub variant_decides : (n k : ℕ) (fs : List Layout) → Aligned fs → some_above n (variant_numbers k fs) ≡ ltb n (variant_size k fs)
unfolding variant_size
variant_decides n k fs w =
    let l : payload_offset k fs + greatest_size fs ≤ variant_size k fs = le_round_up _ _ (alignment_pos (variant_alignment k fs w)) in
    last_decides n (payload_offset k fs ∷ (payload_offset k fs + greatest_size fs) ∷ []) (variant_size k fs) (omega arith, (l, tt))

-- what has to fit: of a map its entry, of every other kind the type
abbrev pub largest_part : Ty → Ty
largest_part (scalar s) = scalar s
largest_part string = string
largest_part (record_of ts) = record_of ts
largest_part (variant_of cs) = variant_of cs
largest_part (list_of t) = list_of t
largest_part (tuple_of ts) = tuple_of ts
largest_part (map_of k v) = entry_of k v
largest_part (flags_of n) = flags_of n
largest_part (enum_of n) = enum_of n
largest_part (option_of t) = option_of t
largest_part (result_of ok err) = result_of ok err
largest_part (fixed_of t n) = fixed_of t n

pair_fits : (m : Memory) → ltb largest_number (layout m string).size ≡ false
unfolding layout
pair_fits mem32 = refl
pair_fits mem64 = refl

one_above : (n x : ℕ) → some_above n (x ∷ []) ≡ ltb n x
one_above n x = last_decides n [] x tt

pub too_large_size : (m : Memory) (t : Ty) → is_too_large m t ≡ ltb largest_number (layout m (largest_part t)).size
unfolding is_too_large numbers layout
too_large_size m (scalar s) = one_above largest_number (layout m (scalar s)).size
too_large_size m string = one_above largest_number (layout m string).size
too_large_size m (record_of ts) = record_decides largest_number (members m ts) (members_aligned m ts)
too_large_size m (variant_of cs) = variant_decides largest_number (count cs) (payloads m cs) (payloads_aligned m cs)
too_large_size m (list_of t) = one_above largest_number (layout m (list_of t)).size
too_large_size m (tuple_of ts) = record_decides largest_number (members m ts) (members_aligned m ts)
too_large_size m (map_of k v) =
    rw (pair_fits m) (record_decides largest_number (layout m k ∷ layout m v ∷ []) (layout_aligned m k, (layout_aligned m v, tt)))
too_large_size m (flags_of n) = one_above largest_number (layout m (flags_of n)).size
too_large_size m (enum_of n) = variant_decides largest_number n [] tt
too_large_size m (option_of t) = variant_decides largest_number 2 (layout m t ∷ []) (layout_aligned m t, tt)
too_large_size m (result_of ok err) =
    variant_decides largest_number 2 (payload m ok ++ payload m err)
    (aligned_append (payload m ok) (payload m err) (payload_aligned m ok) (payload_aligned m err))
too_large_size m (fixed_of t n) = one_above largest_number (layout m (fixed_of t n)).size
