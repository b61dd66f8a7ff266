-- The rule of a maximum over a list's words, async return's rule of the pointer, and signatures over words.
use mathlib.Core.Path.{◌≡◌, refl, sym, ap, ◌∙◌}
use mathlib.Core.Bool.{Bool, true, false, not}
use mathlib.Core.List.{List, [], ◌∷◌, ◌++◌}
use mathlib.Core.Option.{Option, none, some}
use Prim.Native.Nat.{ℕ, ◌≤◌, ◌<◌}
use native.Mathlib.Decide.{dec_le}
use native.Mathlib.Omega.{arith}
use lib.ListN.{length, length-append}
use borrow.Author.Tests.{le-leb, lt-leb}
use Rattle.std.specs.Prelude as prelude
use Rattle.std.specs.Prelude.{Some, None, MatchOption, is_some, unwrap_or}
use Rattle.canon.specs.Layout.{Memory, mem32, mem64}
use Rattle.canon.specs.Flat.{ptr_type}
use Rattle.canon.specs.Pack.{Packed, code, pack}
use Rattle.canon.specs.Signature.{Flattened, listed, in_memory, at_most, or_pointer, Side, lifting_max, params_max, start_of, behind_pointer, list_or_none, return_of}
use Rattle.canon.specs.Functype.{Context, functype_of}
use Rattle.canon.specs.Types.{Core}
use Rattle.canon.proofs.Signatures.{maximum_small, or_pointer_short, functype_alike}
use Rattle.canon.proofs.Tests.{impossible}
use Rattle.flat_types.specs.Lists.{unpacked, packed_to, packed, words}
use Rattle.flat_types.specs.Places.{append_to}
use Rattle.flat_types.specs.declared.list.FlatList.{FlatList}
use Rattle.flat_types.proofs.Listing.{packed_some, packed_none, list_packed}
use Rattle.flat_types.proofs.Gathering.{pointer_words}
use Rattle.signature.specs.Means.{flattened_means}
use Rattle.signature.specs.Packs.{packed_list, packed_flat}

-- within the maximum a list's words are kept, and beyond it the list lies in memory

pub is_listed : (o : Option (List Core)) (max : ℕ) (w : Packed) → w ≡ packed o → max ≤ 16 → w.number ≤ max → some w ≡ packed_flat (at_most max o)
unfolding at_most packed_to
is_listed none max w e h s = absurd (omega (arith, rw e at s))
is_listed (some l) max w e h s =
    elim (dec_le (length l) 16) [
      | no i ↦ absurd (omega (arith, rw (e ∙ packed_none 16 l (omega arith)) at s))
      | yes i ↦ rw (le-leb (length l) max (rw (e ∙ packed_some 16 l i) at s)) (ap some (e ∙ packed_some 16 l i))
    ]

pub is_beyond : (o : Option (List Core)) (max : ℕ) (w : Packed) → w ≡ packed o → max ≤ 16 → max < w.number → none ≡ packed_flat (at_most max o)
unfolding at_most packed_to
is_beyond none max w e h s = refl
is_beyond (some l) max w e h s =
    elim (dec_le (length l) 16) [
      | no i ↦ rw (lt-leb (length l) max (omega arith))
      | yes i ↦ rw (lt-leb (length l) max (rw (e ∙ packed_some 16 l i) at s))
    ]

-- What is kept tells what canon keeps: nothing is where it lies in memory

pub memory_kept : (f : Flattened) → none ≡ packed_flat f → f ≡ in_memory
memory_kept (listed l) e = impossible (cc)
memory_kept in_memory e = refl

-- A list or a pointer

pub pointer_alone : (m : Memory) → append_to 17 (record { number = 0; types = 0 }) (record { number = 1; types = code (ptr_type m) }) ≡ packed_list (ptr_type m ∷ [])
unfolding append_to pack
pointer_alone mem32 = refl
pointer_alone mem64 = refl

-- the list that was kept, or a pointer
pub pointer_kept :
    (m : Memory) (f : Flattened) (r : prelude.Option FlatList) (x : FlatList) → flattened_means r ≡ packed_flat f →
    MatchOption r (words x ≡ append_to 17 (record { number = 0; types = 0 }) (record { number = 1; types = code (ptr_type m) })) (λ y. x ≡ y) → words x ≡ packed_list (or_pointer m f)
unfolding or_pointer
pointer_kept m (listed l) (Some y) x e h = rw h (cc)
pointer_kept m (listed l) None x e h = impossible (cc)
pointer_kept m in_memory (Some y) x e h = impossible (cc)
pointer_kept m in_memory None x e h = h ∙ pointer_alone m

-- a pointer behind the parameters, of which there are at most 16
pub pointer_behind :
    (m : Memory) (max : ℕ) (o : Option (List Core)) (w r : Packed) → max ≤ 16 → w ≡ packed_list (or_pointer m (at_most max o)) →
    r ≡ append_to 17 w (record { number = 1; types = code (ptr_type m) }) → r ≡ packed_list (or_pointer m (at_most max o) ++ ptr_type m ∷ [])
pointer_behind m max o w r small e f =
    let l = or_pointer m (at_most max o) in
    let short = or_pointer_short m max 16 o small (omega arith) in
    f
    ∙ rw (e ∙ sym (packed_some 16 l short))
    (pointer_words m l short ∙ packed_some 17 (l ++ ptr_type m ∷ []) (omega (arith, short, length-append l (ptr_type m ∷ []))))

-- Whether lower's results go behind a pointer, and what they are if not

pub behind_is : (f : Flattened) (r : prelude.Option FlatList) (b empty : Bool) → flattened_means r ≡ packed_flat f → is_some r ≡ not b → b ≡ behind_pointer false empty f
unfolding behind_pointer
behind_is (listed l) (Some x) false empty e h = refl
behind_is (listed l) (Some x) true empty e h = impossible (cc)
behind_is (listed l) None b empty e h = impossible (cc)
behind_is in_memory (Some x) b empty e h = impossible (cc)
behind_is in_memory None false empty e h = impossible (cc)
behind_is in_memory None true empty e h = refl

pub results_kept :
    (f : Flattened) (r : prelude.Option FlatList) (x : FlatList) → flattened_means r ≡ packed_flat f → x ≡ unwrap_or r (record { count = 0; types = 0 }) →
    words x ≡ packed_list (list_or_none f)
unfolding pack
results_kept (listed l) (Some y) x e h = rw h (cc)
results_kept (listed l) None x e h = impossible (cc)
results_kept in_memory (Some y) x e h = impossible (cc)
results_kept in_memory None x e h = rw h refl

-- What was gathered

-- the words of a list are those of what they stand for
pub whole_packed : (o : Option (List Core)) (w : Packed) → w ≡ packed o → w ≡ packed (unpacked w)
unfolding packed_to unpacked
whole_packed o w e = rw e (go o)
  where
    go : (o : Option (List Core)) → packed o ≡ packed (unpacked (packed o))
    go none = refl
    go (some l) =
        elim (dec_le (length l) 16) [
          | yes h ↦ rw (list_packed l h)
          | no h ↦ rw (packed_none 16 l (omega arith))
        ]

-- under a maximum of up to 16 types they stand for the list itself
pub at_most_packed : (max : ℕ) (o : Option (List Core)) → max ≤ 16 → at_most max (unpacked (packed o)) ≡ at_most max o
unfolding packed_to unpacked at_most
at_most_packed max none small = refl
at_most_packed max (some l) small =
    elim (dec_le (length l) 16) [
      | yes h ↦ rw (list_packed l h)
      | no h ↦ rw (packed_none 16 l (omega arith), lt-leb (length l) max (omega arith))
    ]

-- a signature over what the words stand for is one over the lists

pub start_packed :
    (lower lift : Side) (o q : Option (List Core)) →
    start_of lower (unpacked (packed o)) lift (unpacked (packed q)) ≡ start_of lower o lift q
unfolding start_of
start_packed lower lift o q =
    rw (at_most_packed (params_max lower.async) o (maximum_small lower.async 4 16 (omega arith) (omega arith)), at_most_packed 16 q (omega arith))

pub return_packed :
    (lift lower : Side) (empty : Bool) (o q : Option (List Core)) →
    return_of lift (unpacked (packed o)) lower (unpacked (packed q)) empty ≡ return_of lift o lower q empty
unfolding return_of
return_packed lift lower empty o q =
    rw (at_most_packed (lifting_max lift.async) o (maximum_small lift.async 16 1 (omega arith) (omega arith)), at_most_packed 1 q (omega arith))

pub functype_packed :
    (c : Context) (s : Side) (callback : Bool) (o q : Option (List Core)) →
    functype_of c s callback (unpacked (packed o)) (unpacked (packed q)) ≡ functype_of c s callback o q
functype_packed c s callback o q =
    functype_alike c s callback _ _ _ _ (λ max small. at_most_packed max o small) (λ max small. at_most_packed max q small)
