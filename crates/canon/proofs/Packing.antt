-- Packing and unpacking are inverse, and unused bits are zero.
use mathlib.Core.Path.{◌≡◌, refl, ap}
use mathlib.Core.List.{List, [], ◌∷◌, ◌++◌, map}
use Prim.Native.Nat.{ℕ, zero, suc, ◌+◌, ◌*◌, ◌/◌, ◌%◌, ◌^◌, ◌<◌}
use native.Mathlib.Nat.{pow-suc, zero-div, mul_comm, div-div-eq-div-mul}
use lib.Arith.{digits_div, digits_mod}
use native.Mathlib.Omega.{arith}
use lib.ListN.{length, get_or}
use Rattle.canon.specs.Pack.{code, pack, decode, unpack}
use Rattle.canon.specs.Types.{Core, I32, I64, F32, F64}

pub code_lt : (c : Core) → code c < 4
code_lt I32 = omega arith
code_lt I64 = omega arith
code_lt F32 = omega arith
code_lt F64 = omega arith

-- unused bits are zero
pub pack_lt : (l : List Core) → pack l < 4 ^ length l
unfolding pack
pack_lt [] = omega arith
pack_lt (c ∷ cs) = omega (arith, pack_lt cs, code_lt c, pow-suc 4 (length cs))

-- the i-th pair of bits
pub pack_at : (l : List Core) (i : ℕ) → pack l / 4 ^ i % 4 ≡ get_or (map code l) i 0
unfolding pack
pack_at [] i = rw (zero-div (4 ^ i))
pack_at (c ∷ cs) zero = omega (arith, code_lt c)
pack_at (c ∷ cs) (suc i) =
    let e : (pack cs * 4 + code c) / 4 ^ suc i ≡ pack cs / 4 ^ i = rw (pow-suc 4 i, mul_comm (4 ^ i) 4, ← (div-div-eq-div-mul (pack cs * 4 + code c) 4 (4 ^ i)), digits_div (pack cs) (code_lt c)) in
    rw e (pack_at cs i)

pub pack_append : (k l : List Core) → pack (k ++ l) ≡ pack k + pack l * 4 ^ length k
unfolding pack
pack_append [] l = omega arith
pack_append (c ∷ k) l = rw (pow-suc 4 (length k)) (omega (arith, pack_append k l))

decode_code : (c : Core) → decode (code c) ≡ c
decode_code I32 = refl
decode_code I64 = refl
decode_code F32 = refl
decode_code F64 = refl

pub unpack_pack : (l : List Core) → unpack (length l) (pack l) ≡ l
unfolding pack unpack
unpack_pack [] = refl
unpack_pack (c ∷ cs) =
    rw (digits_mod (pack cs) (code_lt c), digits_div (pack cs) (code_lt c), decode_code c, unpack_pack cs)

pub code_decode : (x : ℕ) → x < 4 → code (decode x) ≡ x
code_decode zero h = refl
code_decode (suc zero) h = refl
code_decode (suc (suc zero)) h = refl
code_decode (suc (suc (suc zero))) h = refl
code_decode (suc (suc (suc (suc x)))) h = absurd (omega arith)

pub pack_unpack : (n w : ℕ) → w < 4 ^ n → pack (unpack n w) ≡ w
unfolding pack unpack
pack_unpack zero w h = omega arith
pack_unpack (suc n) w h =
    let l : w < 4 ^ n * 4 = rw (← (pow-suc 4 n)) h in
    rw (pack_unpack n (w / 4) (omega arith), code_decode (w % 4) (omega arith)) (omega arith)

pub length_unpack : (n w : ℕ) → length (unpack n w) ≡ n
unfolding unpack
length_unpack zero w = refl
length_unpack (suc n) w = ap suc (length_unpack n (w / 4))
