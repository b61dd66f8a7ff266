-- What each step answers, of the counts and words of one list or two.
use mathlib.Core.Path.{◌≡◌, refl, sym, ap, ◌∙◌}
use mathlib.Core.Bool.{Bool, true, false, cond, ◌&&◌}
use mathlib.Core.List.{List, [], ◌∷◌, ◌++◌}
use mathlib.Core.Option.{Option, none, some, get_or}
use Prim.Native.Nat.{ℕ, zero, suc, ◌+◌, ◌*◌, ◌/◌, ◌^◌, ◌≤◌, ◌<◌, max}
use native.Mathlib.Nat.{div-one, div-add-mod'}
use native.Mathlib.Decide.{dec_le}
use native.Mathlib.Omega.{arith}
use lib.Bits.{bit_or, or_add_and, and_le_r, or_zero_l, or_shr}
use lib.Dec.{leb, eqb}
use lib.ListN.{length, length-append}
use borrow.Author.Tests.{le-leb, lt-leb, leb-true, ne_eqb, eqb-true}
use Rattle.canon.specs.Answer.{map_option}
use Rattle.canon.specs.Layout.{Memory, mem32, mem64, both, within, groups}
use Rattle.canon.specs.Flat.{copies, flags_flat}
use Rattle.canon.specs.Pack.{Packed, pack, unpack}
use Rattle.canon.specs.Row.{count_of, good_count, unused_zero}
use Rattle.canon.specs.Types.{Core, I32}
use Rattle.canon.proofs.Packing.{pack_lt, pack_append, unpack_pack, length_unpack}
use Rattle.canon.proofs.FlatFolds.{length_copies, Counted}
use Rattle.canon.proofs.Counts.{flags_length}
use Rattle.flat_types.specs.Lists.{unpacked, no_list, packed_to, packed, halves, whole, Holds, good_flat}
use Rattle.flat_types.specs.Places.{append_word, append_to}
use Rattle.flat_types.specs.declared.both.FlatTypes.{FlatTypes}
use Rattle.flat_types.proofs.Masks.{pow4, pack_unpack, pack_fits, append_word_lem}
use Rattle.flat_types.proofs.Halves.{half}

-- both memories' lists, from one law over the memory
pub holds :
    {n v : ℕ} (lists : Memory → Option (List Core)) (w : Memory → ℕ) →
    v ≡ whole (both w) →
    w mem32 < 2 ^ 32 →
    ((m : Memory) → record { number = n; types = w m } ≡ packed (lists m)) →
    Holds (record { count = n; words = v }) lists
holds {n} lists w e h law m = ap (λ (x : ℕ). record { number = n; types = x }) (ap (λ (x : ℕ). within m (halves x)) e ∙ half w h m) ∙ law m

pub holds_none : (lists : Memory → Option (List Core)) → ((m : Memory) → no_list ≡ packed (lists m)) → Holds (record { count = 255; words = 0 }) lists
holds_none lists p mem32 = p mem32
holds_none lists p mem64 = p mem64

abbrev types : Packed → List Core
types p = unpack p.number p.types

length_types : (p : Packed) → length (types p) ≡ p.number
length_types p = length_unpack p.number p.types

pub list_some : (p : Packed) → p.number ≤ 16 → unpacked p ≡ some (types p)
unfolding unpacked
list_some p h = rw (le-leb p.number 16 h)

pub list_none : (p : Packed) → 16 < p.number → unpacked p ≡ none
unfolding unpacked
list_none p h = rw (lt-leb p.number 16 h)

pub packed_some : (max : ℕ) (l : List Core) → length l ≤ max → packed_to max (some l) ≡ record { number = length l; types = pack l }
unfolding packed_to
packed_some max l h = rw (le-leb (length l) max h)

pub packed_none : (max : ℕ) (l : List Core) → max < length l → packed_to max (some l) ≡ no_list
unfolding packed_to
packed_none max l h = rw (lt-leb (length l) max h)

-- what is written is read again
pub list_packed : (l : List Core) → length l ≤ 16 → unpacked (packed (some l)) ≡ some l
list_packed l h = rw (packed_some 16 l h, list_some (record { number = length l; types = pack l }) h, unpack_pack l)

-- an answer of n types in the word w
answer : (max n w : ℕ) (l : List Core) → length l ≡ n → n ≤ max → w ≡ pack l → record { number = n; types = w } ≡ packed_to max (some l)
answer max n w l e h p = rw (packed_some max l (omega arith), e, p)

module _ (p : Packed) (g : List Core → List Core) where
  pub one_none : (max : ℕ) → 16 < p.number → no_list ≡ packed_to max (map_option g (unpacked p))
  unfolding packed_to
  one_none max h = rw (list_none p h)

  pub one_is : (max n w : ℕ) → p.number ≤ 16 → length (g (types p)) ≡ n → n ≤ max → w ≡ pack (g (types p)) → record { number = n; types = w } ≡ packed_to max (map_option g (unpacked p))
  one_is max n w h e b f = rw (list_some p h) (answer max n w (g (types p)) e b f)

-- one list behind another, as many as max
pub append_lists :
    (max : ℕ) (k l : List Core) →
    max ≤ 32 →
    append_to max (record { number = length k; types = pack k }) (record { number = length l; types = pack l }) ≡ packed_to max (some (k ++ l))
unfolding append_to packed_to
append_lists max k l h = rw (length-append k l) (go (leb (length k + length l) max) refl)
  where
    go :
        (b : Bool) → leb (length k + length l) max ≡ b →
        cond b (record { number = length k + length l; types = append_word (length k) (pack k) (pack l) }) no_list
        ≡ cond b (record { number = length k + length l; types = pack (k ++ l) }) no_list
    go false e = refl
    go true e =
        let f = leb-true (length k + length l) max e in
        ap (λ (x : ℕ). record { number = length k + length l; types = x })
        (append_word_lem (length k) (length l) (pack k) (pack l) (pack_lt k) (pack_lt l) (omega arith) ∙ sym (pack_append k l))

module _ (p : Packed) (n : ℕ) where
  repeat_length : length (copies n (types p)) ≡ p.number * n
  repeat_length = length_copies n (types p) ∙ ap (λ (x : ℕ). x * n) (length_types p)

  -- too many types, of the element or of all copies
  pub repeat_none : (p.number ≤ 16 → 16 < p.number * n) → no_list ≡ packed (map_option (copies n) (unpacked p))
  repeat_none more =
      elim (dec_le p.number 16) [
        | no h ↦ one_none p (copies n) 16 (omega arith)
        | yes h ↦ rw (list_some p h) (sym (packed_none 16 (copies n (types p)) (omega (arith, repeat_length, more h))))
      ]

  pub repeat_fits : p.number * n ≤ 16 → pack (copies n (types p)) < 2 ^ 32
  repeat_fits h = pack_fits (copies n (types p)) 16 (omega (arith, repeat_length))

  pub repeat_is : (w : ℕ) → p.number ≤ 16 → p.number * n ≤ 16 → w ≡ pack (copies n (types p)) → record { number = p.number * n; types = w } ≡ packed (map_option (copies n) (unpacked p))
  repeat_is w h k e = one_is p (copies n) 16 (p.number * n) w h repeat_length k e

-- Flags: one I32 for each group, whose word is 0

flags_zero : (k : ℕ) → pack (copies k (I32 ∷ [])) ≡ 0
unfolding pack copies
flags_zero zero = refl
flags_zero (suc k) = omega (arith, flags_zero k)

pub flags_none : (n : ℕ) → 16 < groups n → no_list ≡ packed (some (flags_flat n))
flags_none n h = sym (packed_none 16 (flags_flat n) (omega (arith, flags_length n)))

pub flags_is : (n k : ℕ) → k ≡ groups n → k ≤ 16 → record { number = k; types = 0 } ≡ packed (some (flags_flat n))
flags_is n k e h = answer 16 k 0 (flags_flat n) (flags_length n ∙ sym e) h (sym (flags_zero (groups n)))

-- The good form of a row's words

good_count_lem : (o : Option ℕ) → get_or o 0 ≤ 16 → good_count o ≡ true
unfolding good_count
good_count_lem none h = refl
good_count_lem (some n) h = le-leb n 16 h

bad_count_lem : (o : Option ℕ) → 16 < get_or o 0 → good_count o ≡ false
unfolding good_count
bad_count_lem none h = absurd (omega arith)
bad_count_lem (some n) h = lt-leb n 16 h

-- no bit of either is no bit of both
either_zero : (a b : ℕ) → eqb (bit_or a b) 0 ≡ eqb a 0 && eqb b 0
either_zero zero b = rw (or_zero_l b)
either_zero (suc a) b = rw (ne_eqb (bit_or (suc a) b) 0 (λ e. omega (arith, or_add_and (suc a) b, and_le_r (suc a) b)), ne_eqb (suc a) 0 (λ e. omega arith))

module _ (f : FlatTypes) (n : ℕ) (e : n ≡ get_or (count_of f.count) 0) where
  pub bad_flat : 16 < n → false ≡ good_flat f
  unfolding good_flat
  bad_flat h = rw (bad_count_lem (count_of f.count) (omega arith))

  pub good_flat_lem : n ≤ 16 → eqb (bit_or (halves f.words).in32 (halves f.words).in64 / 4 ^ n) 0 ≡ good_flat f
  unfolding good_flat unused_zero
  good_flat_lem h =
      rw (good_count_lem (count_of f.count) (omega arith), ← e, ← pow4 n, or_shr (halves f.words).in32 (halves f.words).in64 (n * 2))
      (either_zero ((halves f.words).in32 / 2 ^ (n * 2)) ((halves f.words).in64 / 2 ^ (n * 2)))

-- Words with unused bits zero are those of their list

pub counted_unpack : (c w : ℕ) → good_count (count_of c) ≡ true → Counted (count_of c) (unpack c w)
unfolding good_count
counted_unpack c w = go (eqb c 255)
  where
    go : (b : Bool) → good_count (cond b none (some c)) ≡ true → Counted (cond b none (some c)) (unpack c w)
    go true g n e = let z : ◌≡◌ {A = ℕ} 0 1 = cc in absurd (omega arith)
    go false g n e = let f : c ≡ n = cc in omega (arith, leb-true c 16 g, length_unpack c w)

module _ (p : Packed) (g : good_count (count_of p.number) ≡ true) where
  good_cases : (b : Bool) → eqb p.number 255 ≡ b → good_count (cond b none (some p.number)) ≡ true → unpacked p ≡ cond b none (some (types p))
  unfolding good_count
  good_cases true e h = list_none p (omega (arith, eqb-true p.number 255 e))
  good_cases false e h = list_some p (leb-true p.number 16 h)

  -- the list, where there is a count
  pub good_given : unpacked p ≡ map_option (λ _. types p) (count_of p.number)
  good_given = good_cases (eqb p.number 255) refl g ∙ go (eqb p.number 255)
    where
      go : (b : Bool) → cond b none (some (types p)) ≡ map_option (λ _. types p) (cond b none (some p.number))
      go true = refl
      go false = refl

  pub good_list : unpacked p ≡ map_option (λ n. unpack n p.types) (count_of p.number)
  good_list = good_cases (eqb p.number 255) refl g ∙ go (eqb p.number 255)
    where
      go : (b : Bool) → cond b none (some (types p)) ≡ map_option (λ n. unpack n p.types) (cond b none (some p.number))
      go true = refl
      go false = refl

  pub good_words_lem : unused_zero (count_of p.number) p.types ≡ true → p ≡ packed (unpacked p)
  unfolding unused_zero good_count packed_to
  good_words_lem u = go (eqb p.number 255) refl g u
    where
      go : (b : Bool) → eqb p.number 255 ≡ b → good_count (cond b none (some p.number)) ≡ true → eqb (p.types / 4 ^ get_or (cond b none (some p.number)) 0) 0 ≡ true → p ≡ packed (unpacked p)
      go true e h u =
          let n = eqb-true p.number 255 e in
          let w : p.types ≡ 0 = sym (div-one p.types) ∙ eqb-true (p.types / 1) 0 u in
          rw (list_none p (omega arith)) (λ i. record { number = n i; types = w i })
      go false e h u =
          let n = leb-true p.number 16 h in
          let q : p.types / 4 ^ p.number ≡ 0 = eqb-true (p.types / 4 ^ p.number) 0 u in
          let w : p.types ≡ pack (types p) = sym (pack_unpack p.number p.types ∙ omega (arith, rw q at (div-add-mod' p.types (4 ^ p.number)))) in
          rw (list_some p n) (answer 16 p.number p.types (types p) (length_types p) n w)
