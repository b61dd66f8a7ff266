-- The references without a definition.
use mathlib.Core.Path.{◌≡◌, refl, ap, ◌∙◌}
use mathlib.Core.Bool.{cond, ◌||◌}
use mathlib.Core.List.{List, [], ◌∷◌}
use mathlib.Core.Option.{Option, none, some}
use Prim.Native.Nat.{ℕ, zero, suc, ◌*◌, ◌/◌, ◌%◌, ◌^◌, ◌≤◌, ◌<◌}
use native.Mathlib.Omega.{arith}
use lib.Dec.{eqb, ltb}
use lib.ListN.{length, get_elem?}
use Rattle.canon.specs.Answer.{is, map_option}
use Rattle.canon.specs.Types.{Ty, plain}
use borrow.Author.Tests.{ne_eqb}
use Rattle.canon.specs.Layout.{Memory, mem32, mem64, both, within, square, layout}
use Rattle.canon.specs.Flat.{flatten, flat_count}
use Rattle.canon.specs.Reach.{reach}
use Rattle.canon.specs.Pack.{Packed}
use Rattle.canon.specs.Row.{count_word, count_of, info_of, row_flat, type_flat}
use Rattle.canon.proofs.Rows.{count_of_count_word, flat_count_small}
use Rattle.canon.specs.Question.{plain_info}
use Rattle.canon.proofs.Reaches.{word_back}
use Rattle.flat_types.specs.Lists.{halves, packed, words_in}
use Rattle.flat_types.proofs.References.{same_below}
use Rattle.flat_types.proofs.Rows.{plain_words_lem}
use Rattle.std.specs.Prelude.{Some}
use Rattle.types.specs.Means.{abi_means}
use Rattle.types.specs.declared.info.CanonicalAbiInfo.{CanonicalAbiInfo}
use Rattle.table.specs.Means.{Plain, PlainLayouts, reach_means, reach_of, info_means}
use Rattle.table.specs.declared.info.Info.{Info}

-- what the arms of plain.rt have

abbrev pub scalar : ℕ → CanonicalAbiInfo
scalar n = record { size32 = n; align32 = n; size64 = n; align64 = n; flat_count = Some 1 }

abbrev pub pair : CanonicalAbiInfo
pair = record { size32 = 8; align32 = 4; size64 = 16; align64 = 8; flat_count = Some 2 }

unfoldable pub arm : ℕ → CanonicalAbiInfo
arm k = cond (ltb k 3) (scalar 1) (cond (ltb k 5) (scalar 2) (cond (eqb k 7 || (eqb k 8 || eqb k 10)) (scalar 8) (cond (eqb k 12) pair (scalar 4))))

arm_laid : (k : ℕ) (a : CanonicalAbiInfo) → k ≤ 17 → a ≡ arm k → PlainLayouts k (abi_means a).layouts
unfolding arm layout
arm_laid k a h e mem32 = rw e (same_below 18 (λ i. map_option (layout mem32) (get_elem? plain i)) (λ i. some (abi_means (arm i)).layouts.in32) refl k (omega arith))
arm_laid k a h e mem64 = rw e (same_below 18 (λ i. map_option (layout mem64) (get_elem? plain i)) (λ i. some (abi_means (arm i)).layouts.in64) refl k (omega arith))

pub arm_is : (k : ℕ) (a : CanonicalAbiInfo) → k ≤ 17 → a ≡ arm k → Plain k (abi_means a)
unfolding arm flat_count
arm_is k a h e = (arm_laid k a h e, rw e (same_below 18 (λ i. map_option flat_count (get_elem? plain i)) (λ i. some (abi_means (arm i)).flats) refl k (omega arith)))

-- or a scalar's size by its HALVINGS

abbrev pub halved : ℕ → ℕ
halved k = 8 / 2 ^ (22888584895 / 2 ^ (2 * k) % 4)

abbrev but_string : {A : Type 0} → (ℕ → Option A) → ℕ → Option A
but_string f k = cond (eqb k 12) none (f k)

pub halved_is : (k : ℕ) → k ≤ 17 → (k ≡ 12 → ⊥) → PlainLayouts k (both (λ m. square (halved k)))
unfolding layout
halved_is k h s mem32 = rw (ne_eqb k 12 s) at (same_below 18 (but_string (λ i. map_option (layout mem32) (get_elem? plain i))) (but_string (λ i. some (square (halved i)))) refl k (omega arith))
halved_is k h s mem64 = rw (ne_eqb k 12 s) at (same_below 18 (but_string (λ i. map_option (layout mem64) (get_elem? plain i))) (but_string (λ i. some (square (halved i)))) refl k (omega arith))

-- only Borrow is a borrow, and none goes deep
reached : (k : ℕ) → k ≤ 17 → map_option reach (get_elem? plain k) ≡ some (record { borrow = eqb k 14; depth = 0 })
unfolding reach
reached k h = same_below 18 (λ i. map_option reach (get_elem? plain i)) (λ i. some (record { borrow = eqb i 14; depth = 0 })) refl k (omega arith)

-- there is a type for each
pub there : (k : ℕ) → k ≤ 17 → (t : Ty) × (get_elem? plain k ≡ some t)
there k h = go (get_elem? plain k) (none_there plain k (omega arith))
  where
    none_there : (ts : List Ty) (j : ℕ) → j < length ts → get_elem? ts j ≡ none → ⊥
    none_there [] j l e = omega arith
    none_there (u ∷ ts) zero l e = let z : ◌≡◌ {A = ℕ} 0 1 = cc in omega arith
    none_there (u ∷ ts) (suc j) l e = none_there ts j (omega arith) e

    go : (o : Option Ty) → (o ≡ none → ⊥) → (t : Ty) × (o ≡ some t)
    go none n = absurd (n refl)
    go (some t) n = (t, refl)

pub string_is : {k : ℕ} → k ≡ 12 → Plain k (record { layouts = record { in32 = record { size = 8; align = 4 }; in64 = record { size = 16; align = 8 } }; flats = some 2 })
unfolding layout flat_count
string_is {k} e = (wide, rw e)
  where
    wide : (m : Memory) → map_option (layout m) (get_elem? plain k) ≡ some (within m (record { in32 = record { size = 8; align = 4 }; in64 = record { size = 16; align = 8 } }))
    wide mem32 = rw e
    wide mem64 = rw e

-- an info is a type's where its layouts, its flat words and its reach are
pub info_is :
    (i : Info) (t : Ty) →
    ((m : Memory) → layout m t ≡ within m (info_means i).abi.layouts) →
    ((m : Memory) → words_in m i.flat ≡ row_flat (flat_count t) (flatten m t)) →
    reach t ≡ reach_means i.reach →
    info_means i ≡ info_of t
info_is i t l f b =
    let n : i.flat.count ≡ count_word (flat_count t) = ap (λ (p : Packed). p.number) (f mem32) in
    let w32 : (halves i.flat.words).in32 ≡ (type_flat mem32 t).types = ap (λ (p : Packed). p.types) (f mem32) in
    let w64 : (halves i.flat.words).in64 ≡ (type_flat mem64 t).types = ap (λ (p : Packed). p.types) (f mem64) in
    let c : count_of i.flat.count ≡ flat_count t = ap count_of n ∙ count_of_count_word (flat_count t) (flat_count_small t) in
    simp (l mem32, l mem64, c, w32, w64, b)

-- and then it is what the reference of that type gives
pub plain_is :
    (i : Info) (k : ℕ) →
    k ≤ 17 →
    ((m : Memory) → map_option (layout m) (get_elem? plain k) ≡ some (within m (info_means i).abi.layouts)) →
    ((m : Memory) → words_in m i.flat ≡ packed (map_option (flatten m) (get_elem? plain k))) →
    i.reach ≡ reach_of (record { borrow = eqb k 14; depth = 0 }) →
    is (info_means i) ≡ plain_info (get_elem? plain k)
unfolding plain_info
plain_is i k h l f b = go (get_elem? plain k) refl (there k h)
  where
    go : (o : Option Ty) → get_elem? plain k ≡ o → (t : Ty) × (get_elem? plain k ≡ some t) → is (info_means i) ≡ plain_info o
    go none e r = let z : ◌≡◌ {A = ℕ} 0 1 = cc r.1 in absurd (omega arith)
    go (some t) e r =
        ap is
        (info_is i t (λ m. let q : some (layout m t) ≡ some (within m (info_means i).abi.layouts) = rw e at (l m) in cc)
        (λ m. f m ∙ plain_words_lem m k t e)
        (let q : some (reach t) ≡ some (record { borrow = eqb k 14; depth = 0 }) = rw e at (reached k h) in
        let w : reach_means i.reach ≡ record { borrow = eqb k 14; depth = 0 } = ap reach_means b ∙ word_back (record { borrow = eqb k 14; depth = 0 }) in
        cc))
