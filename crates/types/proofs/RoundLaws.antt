-- The four alignments: a bit of one number each, a mask each; the unit of any number, its lowest bit; and rounding to that, by quotient and remainder, with
-- what is skipped.
use mathlib.Core.Path.{◌≡◌, refl, ◌∙◌}
use mathlib.Core.Bool.{Bool, true, false, cond}
use Prim.Native.Nat.{ℕ, zero, suc, ◌+◌, ◌-◌, ◌*◌, ◌/◌, ◌%◌, ◌^◌, ◌≤◌, ◌<◌, ◌∣◌}
use native.Mathlib.Nat.{div-add-mod, div-mul-le_self, div-mul_cancel, lt-div-mul-add, mod-lt, dvd-mul_left, dvd_of_mod-eq-zero, dvd_trans, le_refl, le_antisymm, mul-le-mul_right}
use native.Mathlib.Decide.{dec_le}
use native.Mathlib.Omega.{arith}
use lib.Dec.{eqb}
use lib.Bits.{bit_and, bit_or, bit_xor, and_mask, and_high, or_add_and, and_block, xor_block, and_self, xor_self, and_lt}
use borrow.Author.Tests.{ne_eqb}
use Rattle.canon.specs.Row.{is_alignment}
use Rattle.canon.specs.Layout.{round_up}
use Rattle.canon.specs.Placement.{four_gib}
use Rattle.canon.proofs.Rounding.{le_round_up, round_up_least, Alignment, by1, by2, by4, by8, alignment_pos, alignment_dvd, alignment_tested}
use Rattle.types.specs.Extents.{unit_of, rounded, rounded_up}

-- each alignment is a bit of 278
pub alignment_bit : (a : ℕ) → a ≤ 8 → eqb (278 / 2 ^ a % 2) 1 ≡ is_alignment a
unfolding is_alignment
alignment_bit zero h = refl
alignment_bit (suc zero) h = refl
alignment_bit (suc (suc zero)) h = refl
alignment_bit (suc (suc (suc zero))) h = refl
alignment_bit (suc (suc (suc (suc zero)))) h = refl
alignment_bit (suc (suc (suc (suc (suc zero))))) h = refl
alignment_bit (suc (suc (suc (suc (suc (suc zero)))))) h = refl
alignment_bit (suc (suc (suc (suc (suc (suc (suc zero))))))) h = refl
alignment_bit (suc (suc (suc (suc (suc (suc (suc (suc zero)))))))) h = refl
alignment_bit (suc (suc (suc (suc (suc (suc (suc (suc (suc n))))))))) h = absurd (omega arith)

pub alignment_small : (a : ℕ) → 8 < a → is_alignment a ≡ false
unfolding is_alignment
alignment_small a h =
    simp (ne_eqb a 1 (λ e. omega arith), ne_eqb a 2 (λ e. omega arith), ne_eqb a 4 (λ e. omega arith), ne_eqb a 8 (λ e. omega arith))

-- the mask of what is left over
pub mask_rest : {a : ℕ} (x : ℕ) → Alignment a → bit_and x (a - 1) ≡ x % a
mask_rest x by1 = and_mask x 0
mask_rest x by2 = and_mask x 1
mask_rest x by4 = and_mask x 2
mask_rest x by8 = and_mask x 3

pub alignment_most : {a : ℕ} → Alignment a → a ≤ 8
alignment_most by1 = omega arith
alignment_most by2 = omega arith
alignment_most by4 = omega arith
alignment_most by8 = omega arith

-- 4 GiB is a multiple of every alignment, so that rounding up does not pass it
pub round_up_stays : {a : ℕ} (x : ℕ) → Alignment a → x ≤ four_gib → round_up x a ≤ four_gib
round_up_stays {a} x w h =
    let d : a ∣ four_gib = dvd_trans _ (alignment_dvd w by8 (alignment_most w)) (dvd_of_mod-eq-zero 8 refl) in
    round_up_least x a four_gib (alignment_pos w) h d

-- Rounding to any number goes by its unit, which is an alignment

unit_aligned : {a : ℕ} → Alignment a → unit_of a ≡ a
unfolding unit_of
unit_aligned by1 = refl
unit_aligned by2 = refl
unit_aligned by4 = refl
unit_aligned by8 = refl

pub unit_alignment : (a : ℕ) → Alignment (unit_of a)
unfolding unit_of
unit_alignment a = go (eqb (a % 8) 0) (eqb (a % 4) 0) (eqb (a % 2) 0)
  where
    go : (b c d : Bool) → Alignment (cond b 8 (cond c 4 (cond d 2 1)))
    go true c d = by8
    go false true d = by4
    go false false true = by2
    go false false false = by1

-- it is the lowest bit of the number with the bit 8 set: all above the four lowest bits falls out

pub or_eight : (a : ℕ) → bit_or a 8 ≡ a / 16 * 16 + (8 + a % 8)
or_eight a = let eight : bit_and a 8 ≡ a / 8 % 2 * 8 = and_high a 1 3 in omega (arith, or_add_and a 8)

unit_rest : (a : ℕ) → unit_of (a % 8) ≡ unit_of a
unfolding unit_of
unit_rest a =
    let by8 : a % 8 % 8 ≡ a % 8 = omega arith in
    let by4 : a % 8 % 4 ≡ a % 4 = omega arith in
    let by2 : a % 8 % 2 ≡ a % 2 = omega arith in
    rw (by8, by4, by2)

lowest_four : (r : ℕ) → r < 8 → bit_xor (8 + r) (bit_and (8 + r) (8 + r - 1)) ≡ unit_of r
unfolding unit_of
lowest_four zero h = refl
lowest_four (suc zero) h = refl
lowest_four (suc (suc zero)) h = refl
lowest_four (suc (suc (suc zero))) h = refl
lowest_four (suc (suc (suc (suc zero)))) h = refl
lowest_four (suc (suc (suc (suc (suc zero))))) h = refl
lowest_four (suc (suc (suc (suc (suc (suc zero)))))) h = refl
lowest_four (suc (suc (suc (suc (suc (suc (suc zero))))))) h = refl
lowest_four (suc (suc (suc (suc (suc (suc (suc (suc r)))))))) h = absurd (omega arith)

pub lowest_bit : (a : ℕ) → bit_xor (bit_or a 8) (bit_and (bit_or a 8) (bit_or a 8 - 1)) ≡ unit_of a
lowest_bit a =
    let s = 8 + a % 8 in
    let rest : a % 8 < 8 = mod-lt a (omega arith) in
    let below : s < 2 ^ 4 = omega arith in
    let less : s - 1 < 2 ^ 4 = omega arith in
    let before : a / 16 * 16 + s - 1 ≡ a / 16 * 16 + (s - 1) = omega arith in
    rw (
      or_eight a,
      before,
      and_block 4 (a / 16) (a / 16) s (s - 1) below less,
      and_self (a / 16),
      xor_block 4 (a / 16) (a / 16) s (bit_and s (s - 1)) below (and_lt 4 s (s - 1) below less),
      xor_self (a / 16),
      lowest_four (a % 8) rest,
      unit_rest a,
    )
    (omega arith)

pub unit_pos : (a : ℕ) → 0 < unit_of a
unit_pos a = alignment_pos (unit_alignment a)

pub unit_most : (a : ℕ) → unit_of a ≤ 8
unit_most a = alignment_most (unit_alignment a)

pub rounded_aligned : {a : ℕ} (x : ℕ) → Alignment a → rounded x a ≡ round_up x a
unfolding rounded
rounded_aligned x w = rw (unit_aligned w)

pub rounded_between : (x a : ℕ) → (x ≤ rounded x a) × (rounded x a ≤ x + 7)
unfolding rounded round_up
rounded_between x a = (
  le_round_up x (unit_of a) (unit_pos a),
  omega (arith, div-mul-le_self (x + (unit_of a - 1)) (unit_of a), alignment_most (unit_alignment a)),
)

pub skipped_most : (x a : ℕ) → (rounded_up x a).skipped ≤ 7
skipped_most x a = omega (arith, (rounded_between x a).1)

-- rounding to any number keeps 4 GiB, where an end stops
pub rounded_keeps : (a : ℕ) → rounded four_gib a ≡ four_gib
unfolding rounded
rounded_keeps a = le_antisymm (round_up_stays four_gib (unit_alignment a) (le_refl four_gib)) (rounded_between four_gib a).0

-- The whole units, or one more where a rest is left, are the least multiple at or after

whole_units : (x u : ℕ) → 0 < u → x % u ≡ 0 → x / u * u ≡ round_up x u
whole_units x u h e =
    let d : u ∣ x = dvd_of_mod-eq-zero u e in
    div-mul_cancel u d ∙ le_antisymm (le_round_up x u h) (round_up_least x u x h (le_refl x) d)

one_unit_more : (x u : ℕ) → 0 < u → (x % u ≡ 0 → ⊥) → x / u * u + u ≡ round_up x u
unfolding round_up
one_unit_more x u h e =
    let next : (x / u + 1) * u ≡ x / u * u + u = omega arith in
    le_antisymm
    (elim (dec_le (x / u + 1) ((x + (u - 1)) / u)) [
      | yes l ↦ rw (← next) (mul-le-mul_right u l)
      | no l ↦ absurd (e (omega (arith, div-add-mod x u, le_round_up x u h, below (omega arith))))
    ])
    (round_up_least x u (x / u * u + u) h (omega (arith, lt-div-mul-add {a = x} h)) (rw (← next) (dvd-mul_left u (x / u + 1))))
  where
    below : (x + (u - 1)) / u ≤ x / u → round_up x u ≤ x / u * u
    below l = mul-le-mul_right u l

-- What a rest lacks to a whole unit is skipped, and nothing where there is none
pub none_skipped : (x u : ℕ) → 0 < u → x % u ≡ 0 → 0 ≡ round_up x u - x
none_skipped x u h e = omega (arith, whole_units x u h e, div-add-mod x u)

pub lack_skipped : (x u : ℕ) → 0 < u → (x % u ≡ 0 → ⊥) → u - x % u ≡ round_up x u - x
lack_skipped x u h e = omega (arith, mod-lt x h, one_unit_more x u h e, div-add-mod x u)

-- with it the whole units and the rest are filled up
pub filled : (x u s : ℕ) → 0 < u → s ≡ round_up x u - x → x / u * u + (x % u + s) ≡ round_up x u
filled x u s h e = omega (arith, le_round_up x u h, div-add-mod x u)

pub tested_pos : (a : ℕ) → is_alignment a ≡ true → 0 < a
tested_pos a h = alignment_pos (alignment_tested a h)

-- what `round_up` needs of the unit, and what a test of an alignment gives
pub ruleset rounding = (unit_pos, unit_most, none_skipped, lack_skipped, filled)

pub ruleset aligned = (alignment_tested, tested_pos, mask_rest, rounded_aligned)
