-- Rounding up gives the least multiple at or after; the four alignments, what tests them, and that they divide one another.
use mathlib.Core.Path.{◌≡◌, refl}
use mathlib.Core.Logic.{⊎_elim}
use mathlib.Core.Bool.{true}
use Prim.Native.Nat.{ℕ, suc, ◌+◌, ◌-◌, ◌*◌, ◌/◌, ◌≤◌, ◌<◌, ◌∣◌, max}
use native.Mathlib.Nat.{lt-div-mul-add, div-mul_cancel, div-lt_iff_lt-mul, mul-le-mul_right, dvd-mul_left, dvd_of_mod-eq-zero, max-eq_left, max-eq_right, lt_of_not-le}
use native.Mathlib.Decide.{dec_le}
use native.Mathlib.Omega.{arith}
use lib.Dec.{eqb}
use borrow.Author.Tests.{eqb-true}
use Rattle.canon.specs.Layout.{Memory, mem32, mem64, within, Layout, round_up}
use Rattle.canon.specs.Row.{Abi, is_alignment, good_layout, good_abi}
use Rattle.canon.proofs.Tests.{both_true, either_true}

pub le_round_up : (x a : ℕ) → 0 < a → x ≤ round_up x a
unfolding round_up
le_round_up x a h = omega (arith, lt-div-mul-add {a = x + (a - 1)} h)

pub dvd_round_up : (x a : ℕ) → a ∣ round_up x a
unfolding round_up
dvd_round_up x a = dvd-mul_left a ((x + (a - 1)) / a)

pub round_up_least : (x a y : ℕ) → 0 < a → x ≤ y → a ∣ y → round_up x a ≤ y
unfolding round_up
round_up_least x a y h le d =
    let e : y / a * a ≡ y = div-mul_cancel a d in
    let lt : x + (a - 1) < suc (y / a) * a = omega arith in
    let q : (x + (a - 1)) / a < suc (y / a) = (div-lt_iff_lt-mul h).1 lt in
    let m : (x + (a - 1)) / a * a ≤ y / a * a = mul-le-mul_right a (omega arith) in
    omega arith

-- 01: "alignments are 1, 2, 4 or 8"
pub data Alignment : ℕ → Type 0 where
  by1 : Alignment 1
  by2 : Alignment 2
  by4 : Alignment 4
  by8 : Alignment 8

-- these pass the test, and nothing else does
pub alignment_test : {a : ℕ} → Alignment a → is_alignment a ≡ true
unfolding is_alignment
alignment_test by1 = refl
alignment_test by2 = refl
alignment_test by4 = refl
alignment_test by8 = refl

is_one : {b : ℕ} (a : ℕ) → Alignment b → eqb a b ≡ true → Alignment a
is_one {b} a w h = rw (eqb-true a b h) w

pub alignment_tested : (a : ℕ) → is_alignment a ≡ true → Alignment a
unfolding is_alignment
alignment_tested a h =
    ⊎_elim (is_one a by1)
    (λ q. ⊎_elim (is_one a by2)
    (λ r. ⊎_elim (is_one a by4) (is_one a by8) ((either_true (eqb a 4) (eqb a 8)).0 r)) ((either_true (eqb a 2) _).0 q))
    ((either_true (eqb a 1) _).0 h)

layout_tested : (f : Layout) → good_layout f ≡ true → Alignment f.align
unfolding good_layout
layout_tested f h = alignment_tested f.align (both_true (is_alignment f.align) _ h).0

-- a good info is aligned in both memories
pub abi_tested : (a : Abi) → good_abi a ≡ true → (m : Memory) → Alignment (within m a.layouts).align
unfolding good_abi
abi_tested a h mem32 = layout_tested a.layouts.in32 (both_true (good_layout a.layouts.in32) _ h).0
abi_tested a h mem64 = layout_tested a.layouts.in64 (both_true _ _ (both_true (good_layout a.layouts.in32) _ h).1).0

pub alignment_pos : {a : ℕ} → Alignment a → 0 < a
alignment_pos by1 = omega arith
alignment_pos by2 = omega arith
alignment_pos by4 = omega arith
alignment_pos by8 = omega arith

-- of two alignments the smaller divides the greater
pub alignment_dvd : {a b : ℕ} → Alignment a → Alignment b → a ≤ b → a ∣ b
alignment_dvd by1 by1 h = dvd_of_mod-eq-zero 1 refl
alignment_dvd by1 by2 h = dvd_of_mod-eq-zero 1 refl
alignment_dvd by1 by4 h = dvd_of_mod-eq-zero 1 refl
alignment_dvd by1 by8 h = dvd_of_mod-eq-zero 1 refl
alignment_dvd by2 by1 h = absurd (omega arith)
alignment_dvd by2 by2 h = dvd_of_mod-eq-zero 2 refl
alignment_dvd by2 by4 h = dvd_of_mod-eq-zero 2 refl
alignment_dvd by2 by8 h = dvd_of_mod-eq-zero 2 refl
alignment_dvd by4 by1 h = absurd (omega arith)
alignment_dvd by4 by2 h = absurd (omega arith)
alignment_dvd by4 by4 h = dvd_of_mod-eq-zero 4 refl
alignment_dvd by4 by8 h = dvd_of_mod-eq-zero 4 refl
alignment_dvd by8 by1 h = absurd (omega arith)
alignment_dvd by8 by2 h = absurd (omega arith)
alignment_dvd by8 by4 h = absurd (omega arith)
alignment_dvd by8 by8 h = dvd_of_mod-eq-zero 8 refl

-- the greater of two alignments is one
pub max_alignment : {a b : ℕ} → Alignment a → Alignment b → Alignment (max a b)
max_alignment {a} {b} p q =
    elim (dec_le a b) [
      | yes h ↦ rw (max-eq_right h) q
      | no h ↦ let l : b ≤ a = omega (arith, lt_of_not-le h) in rw (max-eq_left l) p
    ]
