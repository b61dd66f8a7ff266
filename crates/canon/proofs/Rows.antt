-- The row of a definition that is not too deep is of good form, and every row reads back as its type.
use mathlib.Core.Path.{◌≡◌, refl, sym, ap}
use mathlib.Core.Bool.{Bool, true, false, cond}
use mathlib.Core.Option.{Option, none, some}
use Prim.Native.Nat.{ℕ, ◌≤◌}
use native.Mathlib.Nat.{mod-eq-zero_of_dvd, div-eq_of_lt}
use native.Mathlib.Omega.{arith}
use lib.Dec.{leb, eqb}
use lib.ListN.{length}
use borrow.Author.Tests.{eqb-true, le-leb, eq-eqb, ne_eqb}
use Rattle.canon.specs.Answer.{map_option}
use Rattle.canon.specs.Types.{Ty, scalar, string, record_of, variant_of, list_of, tuple_of, map_of, flags_of, enum_of, option_of, result_of, fixed_of, count}
use Rattle.canon.specs.Layout.{Memory, mem32, mem64, discriminant, layout}
use Rattle.canon.specs.Flat.{flatten, flat_count}
use Rattle.canon.specs.Reach.{deeper, reach, depth, deepest}
use Rattle.canon.specs.Pack.{unpack}
use Rattle.canon.specs.Row.{row_kind, count_word, count_of, flat_word, inner, row_of, row_abi, info_of, row_info, flat_of, good_layout, good_count, unused_zero, good_abi, is_discriminant, is_good}
use Rattle.canon.proofs.Rounding.{alignment_test}
use Rattle.canon.proofs.Alignments.{layout_aligned, layout_whole}
use Rattle.canon.proofs.Packing.{pack_lt, unpack_pack}
use Rattle.canon.proofs.FlatFolds.{Small}
use Rattle.canon.proofs.Reaches.{word_back, good_word}
use Rattle.canon.proofs.Counts.{counted}

pub layout_good : (m : Memory) (t : Ty) → good_layout (layout m t) ≡ true
unfolding good_layout
layout_good m t =
    rw (alignment_test (layout_aligned m t)) (eq-eqb _ 0 (mod-eq-zero_of_dvd (layout m t).align (layout_whole m t)))

-- the count of a type, none or at most 16
count_small : (t : Ty) (n : ℕ) → flat_count t ≡ some n → n ≤ 16
count_small t n e = ((counted mem32 t n).0 e).1

pub flat_count_small : (t : Ty) → Small (flat_count t)
flat_count_small t = go (flat_count t) refl
  where
    go : (c : Option ℕ) → flat_count t ≡ c → Small c
    go none e = tt
    go (some n) e = count_small t n e

count_good : (c : Option ℕ) → Small c → good_count c ≡ true
unfolding good_count
count_good none w = refl
count_good (some n) w = le-leb n 16 w

pub count_of_count_word : (c : Option ℕ) → Small c → count_of (count_word c) ≡ c
count_of_count_word none w = refl
count_of_count_word (some n) w = rw (ne_eqb n 255 (λ e. omega arith))

pub count_word_count_of : (w : ℕ) → count_word (count_of w) ≡ w
count_word_count_of w = go (eqb w 255) refl
  where
    go : (b : Bool) → eqb w 255 ≡ b → count_word (cond b none (some w)) ≡ w
    go true h = sym (eqb-true w 255 h)
    go false h = refl

unused_good : (m : Memory) (t : Ty) → unused_zero (flat_count t) (flat_word (flat_count t) (flatten m t)) ≡ true
unfolding unused_zero
unused_good m t = go (flat_count t) refl
  where
    go : (c : Option ℕ) → flat_count t ≡ c → unused_zero c (flat_word c (flatten m t)) ≡ true
    go none e = refl
    go (some n) e =
        let l : length (flatten m t) ≡ n = ((counted m t n).0 e).0 in
        rw (← l) (eq-eqb _ 0 (div-eq_of_lt (pack_lt (flatten m t))))

discriminant_good : (n : ℕ) → is_discriminant (discriminant n) ≡ true
unfolding is_discriminant
discriminant_good n = go (leb n 256) (leb n 65536)
  where
    go : (b c : Bool) → is_discriminant (cond b 1 (cond c 2 4)) ≡ true
    go true c = refl
    go false true = refl
    go false false = refl

inner_good : (t : Ty) → is_discriminant (inner mem32 t).disc ≡ true
unfolding is_discriminant
inner_good (scalar s) = refl
inner_good string = refl
inner_good (record_of ts) = refl
inner_good (variant_of cs) = discriminant_good (count cs)
inner_good (list_of t) = refl
inner_good (tuple_of ts) = refl
inner_good (map_of k v) = refl
inner_good (flags_of n) = refl
inner_good (enum_of n) = discriminant_good n
inner_good (option_of t) = discriminant_good 2
inner_good (result_of ok err) = discriminant_good 2
inner_good (fixed_of t n) = refl

kind_small : (t : Ty) → row_kind t ≤ 10
kind_small (scalar s) = omega arith
kind_small string = omega arith
kind_small (record_of ts) = omega arith
kind_small (variant_of cs) = omega arith
kind_small (list_of t) = omega arith
kind_small (tuple_of ts) = omega arith
kind_small (map_of k v) = omega arith
kind_small (flags_of n) = omega arith
kind_small (enum_of n) = omega arith
kind_small (option_of t) = omega arith
kind_small (result_of ok err) = omega arith
kind_small (fixed_of t n) = omega arith

-- a type that a definition spells: its kind word is not 0
abbrev pub Definition : Ty → Type 0
Definition t = 1 ≤ row_kind t

pub definition_deep : (t : Ty) → Definition t → 1 ≤ depth t
unfolding reach deeper
definition_deep (scalar s) d = absurd (omega arith)
definition_deep string d = absurd (omega arith)
definition_deep (record_of ts) d = omega arith
definition_deep (variant_of cs) d = omega arith
definition_deep (list_of t) d = omega arith
definition_deep (tuple_of ts) d = omega arith
definition_deep (map_of k v) d = omega arith
definition_deep (flags_of n) d = omega arith
definition_deep (enum_of n) d = omega arith
definition_deep (option_of t) d = omega arith
definition_deep (result_of ok err) d = omega arith
definition_deep (fixed_of t n) d = omega arith

pub row_good : (t : Ty) → Definition t → depth t ≤ deepest → is_good (row_of t) ≡ true
unfolding is_good row_of good_abi
row_good t d shallow =
    let l32 : good_layout (row_abi (row_of t)).layouts.in32 ≡ true = layout_good mem32 t in
    let l64 : good_layout (row_abi (row_of t)).layouts.in64 ≡ true = layout_good mem64 t in
    simp (
      le-leb 1 (row_kind t) d,
      le-leb (row_kind t) 10 (kind_small t),
      l32,
      l64,
      count_of_count_word (flat_count t) (flat_count_small t),
      count_good (flat_count t) (flat_count_small t),
      unused_good mem32 t,
      unused_good mem64 t,
      inner_good t,
      good_word (reach t) (definition_deep t d) shallow,
    )

pub row_back : (t : Ty) → row_info (row_of t) ≡ info_of t
unfolding row_of
row_back t = rw (count_of_count_word (flat_count t) (flat_count_small t), word_back (reach t))

-- the flat list that a question takes from it is the type's own

listed : (m : Memory) (t : Ty) (c : Option ℕ) → flat_count t ≡ c → map_option (λ n. unpack n (flat_word c (flatten m t))) c ≡ map_option (λ n. flatten m t) c
listed m t none e = refl
listed m t (some n) e = ap some (rw (← ((counted m t n).0 e).0) (unpack_pack (flatten m t)))

pub flat_back : (m : Memory) (t : Ty) → flat_of m (info_of t) ≡ map_option (λ n. flatten m t) (flat_count t)
unfolding flat_of
flat_back mem32 t = listed mem32 t (flat_count t) refl
flat_back mem64 t = listed mem64 t (flat_count t) refl
