-- The promises over words, carried to canon's lists: where unused bits are zero, each step answers the words of the list that canon gives.
use mathlib.Core.Path.{◌≡◌, refl, sym, ap, ap₂, ◌∙◌}
use mathlib.Core.Bool.{true}
use mathlib.Core.List.{List, [], ◌∷◌, ◌++◌}
use mathlib.Core.Option.{Option}
use Prim.Native.Nat.{ℕ}
use Rattle.canon.specs.Answer.{map_option, map_option2}
use Rattle.canon.specs.Layout.{Memory, mem32, mem64, within}
use Rattle.canon.specs.Flat.{ptr_type, join_lists, add_flat, max_flat}
use Rattle.canon.specs.Pack.{Packed, unpack}
use Rattle.canon.specs.Row.{count_of, good_count, unused_zero, row_flat}
use Rattle.canon.specs.Types.{Core, I32}
use Rattle.canon.proofs.FlatFolds.{Counted, counted_append, counted_join}
use Rattle.canon.proofs.Tests.{both_true}
use Rattle.types.specs.Means.{memory_of}
use Rattle.flat_types.specs.Lists.{unpacked, packed_to, packed, halves, both_words, memory_words, words_in, flat_in, Holds, words, flat, good_flat, good_words}
use Rattle.flat_types.specs.Places.{append_to, joined}
use Rattle.flat_types.specs.declared.both.FlatTypes.{FlatTypes}
use Rattle.flat_types.specs.declared.list.FlatList.{FlatList}
use Rattle.types.specs.declared.memory.Memory as declared
use Rattle.flat_types.proofs.Listing.{counted_unpack, good_given, good_words_lem}
use Rattle.flat_types.proofs.Rows.{words_given, append_words, join_words, both_in, in_both, append_row, join_row}
use Rattle.flat_types.proofs.Gathering.{append_packed, pointer_packed}
use Rattle.flat_types.proofs.both.FlatTypes.append.Reads as append
use Rattle.flat_types.proofs.both.FlatTypes.join.Reads as join
use Rattle.flat_types.proofs.both.FlatTypes.with_discriminant.Reads as with-discriminant
use Rattle.flat_types.proofs.both.FlatTypes.in_memory.Reads as in_memory
use Rattle.flat_types.proofs.list.FlatList.append.Reads as list-append
use Rattle.flat_types.proofs.list.FlatList.with_pointer.Reads as with-pointer

-- Both memories

-- the list in one memory, whatever the count says
abbrev types : FlatTypes → Memory → List Core
types f m = unpack f.count (within m (halves f.words))

module _ (f : FlatTypes) (good : good_flat f ≡ true) where
  count_good : good_count (count_of f.count) ≡ true
  unfolding good_flat
  count_good = (both_true (good_count (count_of f.count)) _ good).0

  zero_good : (m : Memory) → unused_zero (count_of f.count) (within m (halves f.words)) ≡ true
  unfolding good_flat
  zero_good mem32 = (both_true (unused_zero (count_of f.count) (halves f.words).in32) _ (both_true (good_count (count_of f.count)) _ good).1).0
  zero_good mem64 = (both_true (unused_zero (count_of f.count) (halves f.words).in32) _ (both_true (good_count (count_of f.count)) _ good).1).1

  counted : (m : Memory) → Counted (count_of f.count) (types f m)
  counted m = counted_unpack f.count (within m (halves f.words)) count_good

  pub good_memory : (m : Memory) → words_in m f ≡ packed (flat_in m f)
  good_memory m = good_words_lem (words_in m f) count_good (zero_good m)

  good_row : (m : Memory) → words_in m f ≡ row_flat (count_of f.count) (types f m)
  good_row m = good_memory m ∙ ap packed (good_given (words_in m f) count_good) ∙ sym (words_given (count_of f.count) (types f m) (counted m))

module _ (f g r : FlatTypes) (p : good_flat f ≡ true) (q : good_flat g ≡ true) where
  abbrev a : Option ℕ
  a = count_of f.count

  abbrev b : Option ℕ
  b = count_of g.count

  pub append_holds : append.Post tt (f, (g, tt)) r (f, (g, tt)) → Holds r (λ m. map_option2 ◌++◌ (flat_in m f) (flat_in m g))
  append_holds post m =
      ap (memory_words m)
      (post ∙ ap₂ (append_to 16) (in_both (both_words f) a (types f) (good_row f p)) (in_both (both_words g) b (types g) (good_row g q))
      ∙ append_row a b (types f) (types g) (counted f p) (counted g q))
      ∙ both_in (add_flat a b) (λ i. types f i ++ types g i) (counted_append a b (types f mem32) (types g mem32) (counted f p mem32) (counted g q mem32)) m
      ∙ sym (append_words a b (types f m) (types g m) (counted f p m) (counted g q m))
      ∙ ap₂ (λ (x y : Packed). packed (map_option2 ◌++◌ (unpacked x) (unpacked y))) (sym (good_row f p m)) (sym (good_row g q m))

  pub join_holds : join.Post tt (f, (g, tt)) r (f, (g, tt)) → Holds r (λ m. map_option2 join_lists (flat_in m f) (flat_in m g))
  join_holds post m =
      ap (memory_words m)
      (post ∙ ap₂ joined (in_both (both_words f) a (types f) (good_row f p)) (in_both (both_words g) b (types g) (good_row g q))
      ∙ join_row a b (types f) (types g) (counted f p) (counted g q))
      ∙ both_in (max_flat a b) (λ i. join_lists (types f i) (types g i)) (counted_join a b (types f mem32) (types g mem32) (counted f p mem32) (counted g q mem32)) m
      ∙ sym (join_words a b (types f m) (types g m) (counted f p m) (counted g q m))
      ∙ ap₂ (λ (x y : Packed). packed (map_option2 join_lists (unpacked x) (unpacked y))) (sym (good_row f p m)) (sym (good_row g q m))

-- a discriminant is one I32 in front
pub with_discriminant_holds :
    (f r : FlatTypes) → good_flat f ≡ true → with-discriminant.Post tt (f, tt) r (f, tt) → Holds r (λ m. map_option (λ l. I32 ∷ l) (flat_in m f))
unfolding good_flat good_count unused_zero unpacked unpack
with_discriminant_holds f r q post m = append_holds (record { count = 1; words = 0 }) f r refl q post m ∙ go m (flat_in m f)
  where
    go : (m : Memory) (o : Option (List Core)) → packed (map_option2 ◌++◌ (flat_in m (record { count = 1; words = 0 })) o) ≡ packed (map_option (λ l. I32 ∷ l) o)
    go mem32 o = refl
    go mem64 o = refl

pub in_memory_holds :
    (f : FlatTypes) (m : declared.Memory) (r : FlatList) → good_flat f ≡ true → in_memory.Post tt (f, (m, tt)) r (f, (m, tt)) → words r ≡ packed (flat_in (memory_of m) f)
in_memory_holds f m r good post = post ∙ good_memory f good (memory_of m)

-- One memory

good_packed : (p : Packed) → good_words p ≡ true → p ≡ packed (unpacked p)
unfolding good_words
good_packed p good = let g = both_true (good_count (count_of p.number)) (unused_zero (count_of p.number) p.types) good in good_words_lem p g.0 g.1

pub list_append_holds :
    (f g r : FlatList) → good_words (words f) ≡ true → good_words (words g) ≡ true →
    list-append.Post tt (f, (g, tt)) r (f, (g, tt)) → words r ≡ packed (map_option2 ◌++◌ (flat f) (flat g))
list_append_holds f g r p q post = post ∙ ap₂ (append_to 16) (good_packed (words f) p) (good_packed (words g) q) ∙ append_packed (flat f) (flat g)

pub with_pointer_holds :
    (f : FlatList) (m : declared.Memory) (r : FlatList) → good_words (words f) ≡ true →
    with-pointer.Post tt (f, (m, tt)) r (f, (m, tt)) → words r ≡ packed_to 17 (map_option (λ l. l ++ ptr_type (memory_of m) ∷ []) (flat f))
with_pointer_holds f m r good post = post ∙ pointer_packed (memory_of m) (words f) (good_packed (words f) good)
