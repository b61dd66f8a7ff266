-- Masks and shifts of a word, in terms of the list that it packs.
use mathlib.Core.Path.{◌≡◌, refl, sym, ◌∙◌}
use mathlib.Core.List.{List}
use Prim.Native.Nat.{ℕ, zero, suc, ◌+◌, ◌-◌, ◌*◌, ◌/◌, ◌%◌, ◌^◌, ◌≤◌, ◌<◌}
use native.Mathlib.Nat.{pow-suc, suc-mul, mod-one, mod-lt, mod-eq_of_lt, add_comm, one-mul, pow-le-pow_right, mul-lt-mul_of_pos_right}
use native.Mathlib.Omega.{arith}
use lib.Arith.{mod-mul}
use lib.Bits.{bit_and, bit_or, and_mask, or_shifted_r}
use lib.ListN.{length}
use lib.Pow.{pow_pos, pow-add, shl_exact}
use Rattle.canon.specs.Pack.{pack, unpack}
use Rattle.canon.specs.Types.{Core}
use Rattle.canon.proofs.Packing.{pack_lt, code_decode}
use Rattle.flat_types.specs.Places.{append_word}

-- two bits for each type
pub pow4 : (n : ℕ) → 2 ^ (n * 2) ≡ 4 ^ n
pow4 zero = refl
pow4 (suc n) = rw (suc-mul n 2, pow-add 2 (n * 2) 2, pow4 n, pow-suc 4 n)

pow4_pos : (n : ℕ) → 0 < 4 ^ n
pow4_pos n = rw (← pow4 n) (pow_pos (n * 2))

-- whatever lies above the first n types is dropped
pub pack_unpack : (n w : ℕ) → pack (unpack n w) ≡ w % 4 ^ n
unfolding pack unpack
pack_unpack zero w = sym (mod-one w)
pack_unpack (suc n) w =
    rw (pack_unpack n (w / 4), code_decode (w % 4) (mod-lt w (omega arith)), pow-suc 4 n, mod-mul w {m = 4 ^ n} {c = 4} (pow4_pos n) (omega arith))

-- so many types fit so many pairs of bits
pub pack_fits : (l : List Core) (n : ℕ) → length l ≤ n → pack l < 4 ^ n
pack_fits l n h = let p : 4 ^ length l ≤ 4 ^ n = pow-le-pow_right (omega arith) h in omega (arith, pack_lt l)

-- up to 16 places are a half
pub places_fit : (n w : ℕ) → n ≤ 16 → w < 4 ^ n → w < 2 ^ 32
places_fit n w h l = let p : 4 ^ n ≤ 4 ^ 16 = pow-le-pow_right (omega arith) h in omega arith

-- the mask of the code
bit : (n : ℕ) → n ≤ 16 → (1 * 2 ^ (n * 2)) % 2 ^ 64 ≡ 4 ^ n
bit n h = shl_exact {a = 1} 1 (n * 2) 64 (omega arith) (omega arith) ∙ one-mul (2 ^ (n * 2)) ∙ pow4 n

pub mask_fits : (n : ℕ) → n ≤ 16 → (1 * 2 ^ (n * 2)) % 2 ^ 64 ≤ 2 ^ 32
mask_fits n h = let p : 4 ^ n ≤ 4 ^ 16 = pow-le-pow_right (omega arith) h in rw (bit n h) p

pub masked : (n w : ℕ) → n ≤ 16 → bit_and w ((1 * 2 ^ (n * 2)) % 2 ^ 64 - 1) ≡ pack (unpack n w)
masked n w h = rw (bit n h, ← pow4 n, and_mask w (n * 2), pow4 n, pack_unpack n w)

-- one list behind the places of another: no bit is met twice
pub or_sum : (n a b : ℕ) → a < 4 ^ n → bit_or a (b * 4 ^ n) ≡ a + b * 4 ^ n
or_sum n a b h = rw (← pow4 n) (or_shifted_r b (n * 2) a (rw (← pow4 n) at h) ∙ add_comm (b * 2 ^ (n * 2)) a)

-- and none is lost
pub moved_fits : (m n k b : ℕ) → b < 4 ^ n → m + n ≤ k → b * 4 ^ m < 4 ^ k
moved_fits m n k b hb h =
    let p : 4 ^ (n + m) ≤ 4 ^ k = pow-le-pow_right (omega arith) (omega arith) in
    let q : b * 4 ^ m < 4 ^ n * 4 ^ m = mul-lt-mul_of_pos_right hb (pow4_pos m) in
    omega (arith, pow-add 4 n m)

pub append_word_lem : (m n a b : ℕ) → a < 4 ^ m → b < 4 ^ n → m + n ≤ 32 → append_word m a b ≡ a + b * 4 ^ m
append_word_lem m n a b ha hb h =
    let fits : b * 4 ^ m < 2 ^ 64 = moved_fits m n 32 b hb h in
    rw (mod-eq_of_lt fits) (or_sum m a b ha)
