-- The join of all places at once is the join of the lists, in both memories.
use mathlib.Core.Path.{◌≡◌, refl, ap, ap₂, ◌∙◌}
use mathlib.Core.List.{List, [], ◌∷◌}
use Prim.Native.Nat.{ℕ, zero, suc, ◌+◌, ◌*◌, ◌^◌, ◌≤◌, ◌<◌, min}
use native.Mathlib.Nat.{add-mul, mul_right_comm, pow-suc}
use native.Mathlib.Omega.{arith}
use lib.Bits.{bit_and, bit_or, bit_xor, and_block, or_block, xor_block, and_lt, or_lt, xor_lt, and_le_r, and_zero_r, or_zero_l, or_zero_r, xor_zero_r}
use lib.ListN.{length}
use Rattle.canon.specs.Layout.{Memory, mem32, mem64, both}
use Rattle.canon.specs.Flat.{join, join_lists}
use Rattle.canon.specs.Pack.{code, pack}
use Rattle.canon.specs.Types.{Core, I32, I64, F32, F64}
use Rattle.canon.proofs.Packing.{code_lt}
use Rattle.flat_types.specs.Lists.{whole}
use Rattle.flat_types.specs.Places.{ones, join_over, join_word}
use Rattle.flat_types.proofs.Masks.{pack_fits, places_fit}

-- some bits apart from those above them
block :
    (k lo hi a b p q r s : ℕ) →
    p * 2 < 2 ^ k → q < 2 ^ k → r < 2 ^ k → s < 2 ^ k →
    join_over (lo * 2 ^ k + p) (hi * 2 ^ k + q) (a * 2 ^ k + r) (b * 2 ^ k + s) ≡ join_over lo hi a b * 2 ^ k + join_over p q r s
block k lo hi a b p q r s hp hq hr hs =
    let low : p < 2 ^ k = omega arith in
    let apart = xor_lt k r s hr hs in
    let either = or_lt k r s hr hs in
    let moved : bit_and (bit_xor r s) p * 2 < 2 ^ k = omega (arith, and_le_r (bit_xor r s) p) in
    let differ = or_lt k (bit_xor r s) (bit_and (bit_xor r s) p * 2) apart moved in
    let shared = and_lt k (bit_or (bit_xor r s) (bit_and (bit_xor r s) p * 2)) q differ hq in
    rw (
      or_block k a b r s hr hs,
      xor_block k a b r s hr hs,
      and_block k (bit_xor a b) lo (bit_xor r s) p apart low,
      add-mul (bit_and (bit_xor a b) lo * 2 ^ k) (bit_and (bit_xor r s) p) 2,
      mul_right_comm (bit_and (bit_xor a b) lo) (2 ^ k) 2,
      or_block k (bit_xor a b) (bit_and (bit_xor a b) lo * 2) (bit_xor r s) (bit_and (bit_xor r s) p * 2) apart moved,
      and_block k (bit_or (bit_xor a b) (bit_and (bit_xor a b) lo * 2)) hi (bit_or (bit_xor r s) (bit_and (bit_xor r s) p * 2)) q differ hq,
      and_block k (bit_or a b) (bit_and (bit_or (bit_xor a b) (bit_and (bit_xor a b) lo * 2)) hi) (bit_or r s) (bit_and (bit_or (bit_xor r s) (bit_and (bit_xor r s) p * 2)) q) either shared,
    )
    (xor_block k (bit_or a b) (bit_and (bit_or a b) (bit_and (bit_or (bit_xor a b) (bit_and (bit_xor a b) lo * 2)) hi))
    (bit_or r s) (bit_and (bit_or r s) (bit_and (bit_or (bit_xor r s) (bit_and (bit_xor r s) p * 2)) q))
    either (and_lt k (bit_or r s) (bit_and (bit_or (bit_xor r s) (bit_and (bit_xor r s) p * 2)) q) either shared))

-- in one place that both lists have
code_join : (x y : Core) → join_over 1 2 (code x) (code y) ≡ code (join x y)
code_join I32 I32 = refl
code_join I32 I64 = refl
code_join I32 F32 = refl
code_join I32 F64 = refl
code_join I64 I32 = refl
code_join I64 I64 = refl
code_join I64 F32 = refl
code_join I64 F64 = refl
code_join F32 I32 = refl
code_join F32 I64 = refl
code_join F32 F32 = refl
code_join F32 F64 = refl
code_join F64 I32 = refl
code_join F64 I64 = refl
code_join F64 F32 = refl
code_join F64 F64 = refl

-- past the end of one list
alone : (lo a b : ℕ) → join_over lo 0 a b ≡ bit_or a b
alone lo a b = rw (and_zero_r (bit_or (bit_xor a b) (bit_and (bit_xor a b) lo * 2)), and_zero_r (bit_or a b)) (xor_zero_r (bit_or a b))

-- i places are in both lists
join_pack : (n i : ℕ) (k l : List Core) → i ≡ min (length k) (length l) → i ≤ n → join_over (ones n 4) (ones i 4 * 2) (pack k) (pack l) ≡ pack (join_lists k l)
unfolding pack join_lists
join_pack n i [] l e h = let z : i ≡ 0 = omega arith in rw z (alone (ones n 4) 0 (pack l) ∙ or_zero_l (pack l))
join_pack n i (a ∷ k) [] e h = let z : i ≡ 0 = omega arith in rw z (alone (ones n 4) (pack (a ∷ k)) 0 ∙ or_zero_r (pack (a ∷ k)))
join_pack n zero (a ∷ k) (b ∷ l) e h = absurd (omega arith)
join_pack zero (suc i) (a ∷ k) (b ∷ l) e h = absurd (omega arith)
join_pack (suc n) (suc i) (a ∷ k) (b ∷ l) e h =
    let hi : ones (suc i) 4 * 2 ≡ (ones i 4 * 2) * 4 + 2 = omega arith in
    ap (λ (x : ℕ). join_over (ones n 4 * 4 + 1) x (pack k * 4 + code a) (pack l * 4 + code b)) hi
    ∙ block 2 (ones n 4) (ones i 4 * 2) (pack k) (pack l) 1 2 (code a) (code b) (omega arith) (omega arith) (code_lt a) (code_lt b)
    ∙ ap₂ (λ (x y : ℕ). x * 4 + y) (join_pack n i k l (omega arith) (omega arith)) (code_join a b)

ones_fit : (n : ℕ) → ones n 4 * 2 < 4 ^ n
ones_fit zero = omega arith
ones_fit (suc n) = omega (arith, ones_fit n, pow-suc 4 n)

-- in both memories
pub joined_both :
    (i : ℕ) (ks ls : Memory → List Core) →
    ((m : Memory) → i ≡ min (length (ks m)) (length (ls m))) →
    length (ks mem32) ≤ 16 →
    length (ls mem32) ≤ 16 →
    join_word i (whole (both (λ m. pack (ks m)))) (whole (both (λ m. pack (ls m)))) ≡ whole (both (λ m. pack (join_lists (ks m) (ls m))))
joined_both i ks ls e hk hl =
    let h : i ≤ 16 = omega (arith, e mem32) in
    block 32 (ones 16 4) (ones i 4 * 2) (pack (ks mem64)) (pack (ls mem64)) (ones 16 4) (ones i 4 * 2) (pack (ks mem32)) (pack (ls mem32))
    (omega arith) (places_fit i (ones i 4 * 2) h (ones_fit i)) (pack_fits (ks mem32) 16 hk) (pack_fits (ls mem32) 16 hl)
    ∙ ap₂ (λ (x y : ℕ). x * 2 ^ 32 + y) (join_pack 16 i (ks mem64) (ls mem64) (e mem64) h) (join_pack 16 i (ks mem32) (ls mem32) (e mem32) h)
