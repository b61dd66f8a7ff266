-- Lists, fixed lists, flags and maps: the layout is written at once, or is an exact product, or is the entry's record.
use mathlib.Core.Path.{◌≡◌, refl, ap, ◌∙◌}
use mathlib.Core.Bool.{false}
use mathlib.Core.List.{List, [], ◌∷◌}
use mathlib.Core.Option.{some}
use Prim.Native.Nat.{ℕ, ◌+◌, ◌≤◌}
use native.Mathlib.Omega.{arith}
use lib.Dec.{ltb}
use borrow.Author.Tests.{ltb-false, le-leb}
use Rattle.canon.specs.Answer.{Leaf, is, no, map_option, and_then}
use Rattle.canon.specs.Types.{Ty, list_of, map_of, flags_of, fixed_of, k_fixed, kind_word}
use Rattle.canon.specs.Layout.{Memory, mem32, mem64, Both, both, Layout, starts, last_end, greatest_align, record_size, record_layout, flags_layout, fixed_layout, most_flags, largest_number, layout, within}
use Rattle.canon.specs.Layout.{round_up}
use Rattle.canon.specs.Flat.{copies, flatten, flat_count}
use Rattle.canon.specs.Pack.{Packed, pack}
use Rattle.canon.specs.Description.{checked}
use Rattle.canon.specs.Row.{no_inner, Info, info_of, type_flat, info_layout}
use Rattle.canon.specs.Reach.{Reach, join_reach, deeper, reach}
use Rattle.canon.proofs.Tests.{impossible}
use Rattle.canon.proofs.Alignments.{flags_by, layout_aligned}
use Rattle.canon.proofs.Tightest.{Aligned, le_record_size}
use Rattle.types.specs.Extents.{start_extent, member_of, close_of, fitted_of}
use Rattle.types.specs.declared.extent.Extent.{Extent}
use Rattle.types.specs.declared.extent.Step.{Step}
use Rattle.types.specs.Leaves.{given, flags_answer}
use Rattle.types.proofs.ExtentLaws.{members_of, member_reach_lem, member_fits, close_fits, members_reach, record_reach, fitted_fits}
use Rattle.flat_types.specs.Lists.{unpacked, packed, memory_words}
use Rattle.flat_types.proofs.Rows.{both_in, repeat_words, flags_words}
use Rattle.table.specs.Means.{deeper_answer}
use Rattle.build.specs.Steps.{info_flat, LimitedIs, limited_of}
use Rattle.build.specs.Kinds.{list_row, fixed_row, flags_row, value_step, entry_row}
use Rattle.build.proofs.Wording.{fit_same}
use Rattle.build.proofs.FitLaws.{row_leaf, each, type_counted, row_words_lem, row_fits, row_by_reach, fit_row_lem}

-- two pointers, whatever the element
pub list_row_lem : (t : Ty) (n : ℕ) → list_row (info_of t) ≡ row_leaf (checked n (some (list_of t)))
unfolding list_row layout flatten flat_count reach pack
list_row_lem t n = row_by_reach (list_of t) n (each _ (omega arith) (omega arith)) (reach t) _ refl (row_words_lem (list_of t))

fixed_words : (t : Ty) (c : ℕ) → both (λ m. packed (map_option (copies c) (unpacked (memory_words m (info_flat (info_of t)))))) ≡ both (λ m. type_flat m (fixed_of t c))
unfolding flatten flat_count
fixed_words t c = λ i. record { in32 = one mem32 i; in64 = one mem64 i }
  where
    one : (m : Memory) → packed (map_option (copies c) (unpacked (memory_words m (info_flat (info_of t))))) ≡ type_flat m (fixed_of t c)
    one m =
        ap (λ (p : Packed). packed (map_option (copies c) (unpacked p))) (both_in (flat_count t) (λ i. flatten i t) (type_counted mem32 t) m)
        ∙ repeat_words (flat_count t) (flatten m t) (type_counted m t) c

pub fixed_row_lem : (t : Ty) (c n : ℕ) → fixed_row c (info_of t) ≡ row_leaf (checked n (some (fixed_of t c)))
unfolding fixed_row layout reach
fixed_row_lem t c n =
    fit_same {ns = both (λ m. no_inner)} (kind_word k_fixed) refl (fixed_words t c) refl refl
    ∙ fit_row_lem (fixed_of t c) (λ m. fixed_layout (layout m t) c) (reach t) _ n refl (λ m. refl) (λ h. row_words_lem (fixed_of t c))

flags_fits : (n : ℕ) → n ≤ most_flags → (flags_layout n).size ≤ largest_number
flags_fits n h = flags_by (λ f. f.size ≤ largest_number) n (omega arith) (omega arith) (omega arith) (omega arith)

pub flags_row_lem : (c n : ℕ) → ltb most_flags c ≡ false → flags_row c ≡ row_leaf (checked n (some (flags_of c)))
unfolding flags_row flags_answer given and_then layout flatten flat_count reach deeper
flags_row_lem c n h =
    rw (le-leb c most_flags (ltb-false most_flags c h), flags_words c)
    (ap is (row_words_lem (flags_of c)) ∙ row_fits (flags_of c) n (λ m. flags_fits c (ltb-false most_flags c h)) (omega arith))

-- where the entry fits, the value starts after the key
value_start :
    (f g : Layout) → Aligned (f ∷ g ∷ []) → record_size (f ∷ g ∷ []) ≤ largest_number →
    (member_of (member_of start_extent f).extent g).start ≡ round_up (round_up 0 f.align + f.size) g.align
unfolding members_of last_end greatest_align
value_start f g w h =
    ap (λ (x : Extent). (member_of x g).start) (members_reach (f ∷ []) (w.0, tt))
    ∙ ap (λ (s : Step). s.start) (member_reach_lem (last_end 0 (f ∷ [])) (greatest_align (f ∷ [])) g w.1.0)
    ∙ omega (arith, le_record_size (f ∷ g ∷ []) w)

-- what is within the limits fits
limited_fits : (es : Both Extent) (parts : Reach) (c : LimitedIs) → is c ≡ limited_of es parts → is c.layouts ≡ fitted_of es
unfolding limited_of and_then
limited_fits es parts c = go (deeper_answer parts) (fitted_of es)
  where
    go : (d : Leaf Reach) (l : Leaf (Both Layout)) → is c ≡ and_then d (λ r. and_then l (λ ls. is (record { layouts = ls; reach = r }))) → is c.layouts ≡ l
    go (is r) (is ls) e = let q : c ≡ record { layouts = ls; reach = r } = cc in ap is (ap (λ (x : LimitedIs). x.layouts) q)
    go (is r) (no x) e = impossible (cc)
    go (no x) l e = impossible (cc)

-- a key and a value placed in both memories at once, and the end of the whole
pub entry_steps :
    (k v : Info) {key : Both Step} {first : Both Extent} {value : Both Step} {second closed : Both Extent} →
    key ≡ both (λ m. member_of start_extent (info_layout m k)) →
    first ≡ both (λ m. (within m key).extent) →
    value ≡ both (λ m. member_of (within m first) (info_layout m v)) →
    second ≡ both (λ m. (within m value).extent) →
    closed ≡ both (λ m. close_of (within m second)) →
    (value ≡ both (λ m. value_step m k v)) × (closed ≡ both (λ m. close_of (value_step m k v).extent))
entry_steps k v p q r s t = let e = r ∙ rw (q, p) in (e, t ∙ rw (s, e))

-- where an entry fits, its value starts below 4 GiB
pub value_fits :
    (k v : Info) (parts : Reach) (c : LimitedIs) → is c ≡ limited_of (both (λ m. close_of (value_step m k v).extent)) parts → (m : Memory) → (value_step m k v).start ≤ largest_number
value_fits k v parts c e =
    let es = both (λ m. close_of (value_step m k v).extent) in
    let whole = fitted_fits es c.layouts (limited_fits es parts c e) in
    each (λ m. (value_step m k v).start ≤ largest_number) (starts_below mem32 (whole mem32)) (starts_below mem64 (whole mem64))
  where
    starts_below : (m : Memory) → (close_of (value_step m k v).extent).end ≤ largest_number → (value_step m k v).start ≤ largest_number
    starts_below m h =
        let ends = close_fits (value_step m k v).extent h in
        omega (arith, member_fits (member_of start_extent (info_layout m k)).extent (info_layout m v) ends)

module _ (k v : Ty) where
  abbrev entry : Memory → List Layout
  entry m = layout m k ∷ layout m v ∷ []

  aligned : (m : Memory) → Aligned (entry m)
  aligned m = (layout_aligned m k, (layout_aligned m v, tt))

  pub map_row_lem : (n : ℕ) → entry_row (info_of k) (info_of v) ≡ row_leaf (checked n (some (map_of k v)))
  unfolding entry_row members_of starts layout flatten flat_count reach pack
  map_row_lem n =
      rw (record_reach (entry mem32) (aligned mem32), record_reach (entry mem64) (aligned mem64))
      (fit_row_lem (map_of k v) (λ m. record_layout (entry m)) (join_reach (reach k) (reach v)) _ n refl (λ m. refl) (λ h.
      rw (
        value_start (layout mem32 k) (layout mem32 v) (aligned mem32) (h mem32),
        value_start (layout mem64 k) (layout mem64 v) (aligned mem64) (h mem64),
      )
      (row_words_lem (map_of k v))))
