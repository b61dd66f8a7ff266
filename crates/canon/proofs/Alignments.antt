-- Every alignment is 1, 2, 4 or 8 and divides its size; 01's payload offset is the standard's.
use mathlib.Core.Path.{◌≡◌, refl}
use mathlib.Core.Bool.{Bool, true, false, cond}
use mathlib.Core.List.{List, [], ◌∷◌, ◌++◌}
use Prim.Native.Nat.{ℕ, ◌+◌, ◌∣◌, max}
use native.Mathlib.Nat.{dvd_refl, dvd-add, one-dvd, dvd-mul_right, dvd-mul_right_of_dvd}
use lib.Dec.{leb}
use Rattle.canon.specs.Types.{Scalar, facts, bool, s8, u8, s16, u16, s32, u32, s64, u64, float32, float64, char, own, borrowed, future, stream, error_context, Ty, scalar, string, record_of, variant_of, list_of, tuple_of, map_of, flags_of, enum_of, option_of, result_of, fixed_of, Members, ∅, ◌◂◌, Case, bare, holding, Cases, ∎, ◌▸◌, count}
use Rattle.canon.specs.Layout.{Memory, mem32, mem64, Layout, square, ptr_size, greatest_align, record_size, discriminant, variant_align, payload_offset, variant_size, groups, grouped, flags_layout, layout, members, payload, payloads, round_up}
use Rattle.canon.proofs.Rounding.{dvd_round_up, max_alignment, Alignment, by1, by2, by4, by8}
use Rattle.canon.proofs.Tightest.{Aligned, greatest_align_alignment}

scalar_alignment : (s : Scalar) → Alignment (facts s).size
scalar_alignment bool = by1
scalar_alignment s8 = by1
scalar_alignment u8 = by1
scalar_alignment s16 = by2
scalar_alignment u16 = by2
scalar_alignment s32 = by4
scalar_alignment u32 = by4
scalar_alignment s64 = by8
scalar_alignment u64 = by8
scalar_alignment float32 = by4
scalar_alignment float64 = by8
scalar_alignment char = by4
scalar_alignment own = by4
scalar_alignment borrowed = by4
scalar_alignment future = by4
scalar_alignment stream = by4
scalar_alignment error_context = by4

ptr_alignment : (m : Memory) → Alignment (ptr_size m)
ptr_alignment mem32 = by4
ptr_alignment mem64 = by8

pub discriminant_alignment : (n : ℕ) → Alignment (discriminant n)
discriminant_alignment n = go (leb n 256) (leb n 65536)
  where
    go : (b c : Bool) → Alignment (cond b 1 (cond c 2 4))
    go true c = by1
    go false true = by2
    go false false = by4

-- each law of a flags type, from its four shapes
pub flags_by : (P : Layout → Type 0) (n : ℕ) → P (record { size = 0; align = 1 }) → P (square 1) → P (square 2) → P (grouped (groups n)) → P (flags_layout n)
flags_by P n p0 p1 p2 pg = go (leb n 0) (leb n 8) (leb n 16)
  where
    go : (a b c : Bool) → P (cond a (record { size = 0; align = 1 }) (cond b (square 1) (cond c (square 2) (grouped (groups n)))))
    go true b c = p0
    go false true c = p1
    go false false true = p2
    go false false false = pg

pub variant_alignment : (n : ℕ) (fs : List Layout) → Aligned fs → Alignment (variant_align n fs)
variant_alignment n fs w = max_alignment (discriminant_alignment n) (greatest_align_alignment fs w)

pub aligned_append : (fs gs : List Layout) → Aligned fs → Aligned gs → Aligned (fs ++ gs)
aligned_append [] gs v w = w
aligned_append (f ∷ fs) gs v w = (v.0, aligned_append fs gs v.1 w)

module _ (m : Memory) where
  mutual
    unfolding layout

    pub layout_aligned : (t : Ty) → Alignment (layout m t).align
    layout_aligned (scalar s) = scalar_alignment s
    layout_aligned string = ptr_alignment m
    layout_aligned (record_of ts) = greatest_align_alignment (members m ts) (members_aligned ts)
    layout_aligned (variant_of cs) = variant_alignment (count cs) (payloads m cs) (payloads_aligned cs)
    layout_aligned (list_of t) = ptr_alignment m
    layout_aligned (tuple_of ts) = greatest_align_alignment (members m ts) (members_aligned ts)
    layout_aligned (map_of k v) = ptr_alignment m
    layout_aligned (flags_of n) = flags_by (λ f. Alignment f.align) n by1 by1 by2 by4
    layout_aligned (enum_of n) = variant_alignment n [] tt
    layout_aligned (option_of t) = variant_alignment 2 (layout m t ∷ []) (layout_aligned t, tt)
    layout_aligned (result_of ok err) =
        variant_alignment 2 (payload m ok ++ payload m err) (aligned_append (payload m ok) (payload m err) (payload_aligned ok) (payload_aligned err))
    layout_aligned (fixed_of t n) = layout_aligned t

    pub members_aligned : (ts : Members) → Aligned (members m ts)
    members_aligned ∅ = tt
    members_aligned (t ◂ ts) = (layout_aligned t, members_aligned ts)

    pub payload_aligned : (c : Case) → Aligned (payload m c)
    payload_aligned bare = tt
    payload_aligned (holding t) = (layout_aligned t, tt)

    pub payloads_aligned : (cs : Cases) → Aligned (payloads m cs)
    payloads_aligned ∎ = tt
    payloads_aligned (c ▸ cs) = aligned_append (payload m c) (payloads m cs) (payload_aligned c) (payloads_aligned cs)

pair_whole : (m : Memory) → ptr_size m ∣ ptr_size m + ptr_size m
pair_whole m = dvd-add (ptr_size m) (dvd_refl (ptr_size m)) (dvd_refl (ptr_size m))

-- a type's size is a multiple of its alignment
pub layout_whole : (m : Memory) (t : Ty) → (layout m t).align ∣ (layout m t).size
unfolding layout record_size variant_size
layout_whole m (scalar s) = dvd_refl (facts s).size
layout_whole m string = pair_whole m
layout_whole m (record_of ts) = dvd_round_up _ (greatest_align (members m ts))
layout_whole m (variant_of cs) = dvd_round_up _ (variant_align (count cs) (payloads m cs))
layout_whole m (list_of t) = pair_whole m
layout_whole m (tuple_of ts) = dvd_round_up _ (greatest_align (members m ts))
layout_whole m (map_of k v) = pair_whole m
layout_whole m (flags_of n) = flags_by (λ f. f.align ∣ f.size) n (one-dvd 0) (dvd_refl 1) (dvd_refl 2) (dvd-mul_right 4 (groups n))
layout_whole m (enum_of n) = dvd_round_up _ (variant_align n [])
layout_whole m (option_of t) = dvd_round_up _ (variant_align 2 (layout m t ∷ []))
layout_whole m (result_of ok err) = dvd_round_up _ (variant_align 2 (payload m ok ++ payload m err))
layout_whole m (fixed_of t n) = dvd-mul_right_of_dvd _ (layout_whole m t) n

-- 01 rounds the payload's start to the variant's alignment, the standard to the payloads' alone: the place is the same
agree : {d a : ℕ} → Alignment d → Alignment a → round_up d (max d a) ≡ round_up d a
unfolding round_up
agree by1 by1 = refl
agree by1 by2 = refl
agree by1 by4 = refl
agree by1 by8 = refl
agree by2 by1 = refl
agree by2 by2 = refl
agree by2 by4 = refl
agree by2 by8 = refl
agree by4 by1 = refl
agree by4 by2 = refl
agree by4 by4 = refl
agree by4 by8 = refl
agree by8 by1 = refl
agree by8 by2 = refl
agree by8 by4 = refl
agree by8 by8 = refl

pub payload_agrees : (n : ℕ) (fs : List Layout) → Aligned fs → round_up (discriminant n) (variant_align n fs) ≡ payload_offset n fs
unfolding payload_offset
payload_agrees n fs w = agree (discriminant_alignment n) (greatest_align_alignment fs w)
