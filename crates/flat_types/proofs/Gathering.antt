-- A signature's list in one memory, from the infos of its types (canon's `flat_all`), and a pointer behind.
use mathlib.Core.Path.{◌≡◌, refl, sym, ap, ap₂, ◌∙◌}
use mathlib.Core.Bool.{true}
use mathlib.Core.List.{List, [], ◌∷◌, ◌++◌}
use mathlib.Core.Option.{Option, none, some}
use Prim.Native.Nat.{◌+◌, ◌≤◌}
use native.Mathlib.Decide.{dec_le}
use native.Mathlib.Omega.{arith}
use lib.ListN.{length, length-append}
use borrow.Author.Tests.{lt-leb}
use Rattle.canon.specs.Answer.{map_option, map_option2}
use Rattle.canon.specs.Layout.{Memory, mem32, mem64, within}
use Rattle.canon.specs.Flat.{ptr_type}
use Rattle.canon.specs.Pack.{Packed, code, pack, unpack}
use Rattle.canon.specs.Row.{Info, count_of, good_count, unused_zero, flat_of}
use Rattle.canon.specs.Signature.{flat_all}
use Rattle.canon.specs.Types.{Core}
use Rattle.canon.proofs.Packing.{length_unpack}
use Rattle.canon.proofs.FlatFolds.{flat_all_more}
use Rattle.flat_types.specs.Lists.{unpacked, packed_to, packed}
use Rattle.flat_types.specs.Places.{append_to}
use Rattle.flat_types.proofs.Listing.{list_some, list_none, packed_some, packed_none, append_lists, good_words_lem, good_list}

-- the words of a good row or info are those of canon's list
pub good_packed :
    (m : Memory) (i : Info) (p : Packed) →
    i.abi.flats ≡ count_of p.number →
    within m i.flat_words ≡ p.types →
    good_count i.abi.flats ≡ true →
    unused_zero i.abi.flats p.types ≡ true →
    p ≡ packed (flat_of m i)
unfolding flat_of
good_packed m i p e f g u = good_words_lem p (rw e at g) (rw e at u) ∙ rw (e, f) (ap packed (good_list p (rw e at g)))

-- one list behind another, both as they are written: what is lost because it is too long would be lost later
pub append_packed : (o p : Option (List Core)) → append_to 16 (packed o) (packed p) ≡ packed (map_option2 ◌++◌ o p)
unfolding packed_to append_to
append_packed none p = rw (lt-leb (255 + (packed p).number) 16 (omega arith))
append_packed (some k) none = rw (lt-leb ((packed (some k)).number + 255) 16 (omega arith))
append_packed (some k) (some l) =
    elim (dec_le (length k) 16) [
      | no i ↦ rw (packed_none 16 k (omega arith), packed_none 16 (k ++ l) (omega (arith, length-append k l)), lt-leb (255 + (packed (some l)).number) 16 (omega arith))
      | yes i ↦ elim (dec_le (length l) 16) [
        | no j ↦ rw (packed_none 16 l (omega arith), packed_none 16 (k ++ l) (omega (arith, length-append k l)), lt-leb ((packed (some k)).number + 255) 16 (omega arith))
        | yes j ↦ rw (packed_some 16 k i, packed_some 16 l j) (append_lists 16 k l (omega arith))
      ]
    ]

-- from left to right, one more at the end
pub flat_more :
    (m : Memory) (is' : List Info) (i : Info) →
    append_to 16 (packed (flat_all m is')) (packed (flat_of m i)) ≡ packed (flat_all m (is' ++ i ∷ []))
flat_more m is' i = append_packed (flat_all m is') (flat_of m i) ∙ ap packed (sym (flat_all_more m is' i))

-- A pointer behind a list of at most 16

abbrev pub one_pointer : Memory → Packed
one_pointer m = record { number = 1; types = code (ptr_type m) }

one_pointer_lem : (m : Memory) → one_pointer m ≡ record { number = 1; types = pack (ptr_type m ∷ []) }
unfolding pack
one_pointer_lem mem32 = refl
one_pointer_lem mem64 = refl

pub pointer_words : (m : Memory) (l : List Core) → length l ≤ 16 → append_to 17 (packed (some l)) (one_pointer m) ≡ packed_to 17 (some (l ++ ptr_type m ∷ []))
pointer_words m l h = ap₂ (append_to 17) (packed_some 16 l h) (one_pointer_lem m) ∙ append_lists 17 l (ptr_type m ∷ []) (omega arith)

pub pointer_packed : (m : Memory) (p : Packed) → p ≡ packed (unpacked p) → append_to 17 p (one_pointer m) ≡ packed_to 17 (map_option (λ l. l ++ ptr_type m ∷ []) (unpacked p))
unfolding append_to packed_to
pointer_packed m p e =
    elim (dec_le p.number 16) [
      | no i ↦ rw (lt-leb (p.number + 1) 17 (omega arith), list_none p (omega arith))
      | yes i ↦
          let f = list_some p i in
          rw f (ap (λ (q : Packed). append_to 17 q (one_pointer m)) (e ∙ ap packed f) ∙ pointer_words m (unpack p.number p.types) (omega (arith, length_unpack p.number p.types)))
    ]
