-- A word for each memory in one number: what is done to the number is done to both words.
use mathlib.Core.Path.{◌≡◌, refl, sym, ap, ap₂, ◌∙◌}
use Prim.Native.Nat.{ℕ, ◌+◌, ◌-◌, ◌*◌, ◌/◌, ◌%◌, ◌^◌, ◌≤◌, ◌<◌}
use native.Mathlib.Nat.{add-mul, mul_right_comm, mod-lt, mod-eq_of_lt, div-add-mod'}
use native.Mathlib.Omega.{arith}
use lib.Arith.{digits_div, digits_mod}
use lib.Bits.{bit_and, and_block, or_block}
use Rattle.canon.specs.Layout.{Memory, mem32, mem64, both, within}
use Rattle.canon.specs.Pack.{pack, unpack}
use Rattle.flat_types.specs.Lists.{halves, whole}
use Rattle.flat_types.specs.Places.{twice, append_word}
use Rattle.flat_types.proofs.Masks.{masked, mask_fits, places_fit, or_sum, moved_fits}

pub whole_halves : (w : ℕ) → whole (halves w) ≡ w
whole_halves w = div-add-mod' w (2 ^ 32)

pub whole_same : (v w : Memory → ℕ) → ((m : Memory) → v m ≡ w m) → whole (both v) ≡ whole (both w)
whole_same v w e = ap₂ (λ (x y : ℕ). x * 2 ^ 32 + y) (e mem64) (e mem32)

module _ (w : Memory → ℕ) where
  -- each word is found again
  pub half : w mem32 < 2 ^ 32 → (m : Memory) → within m (halves (whole (both w))) ≡ w m
  half h mem32 = digits_mod (w mem64) h
  half h mem64 = digits_div (w mem64) h

  pub whole_fits : w mem32 < 2 ^ 32 → w mem64 < 2 ^ 32 → whole (both w) < 2 ^ 64
  whole_fits p q = omega arith

  -- a product
  pub whole_mul : (e : ℕ) → whole (both w) * e ≡ whole (both (λ m. w m * e))
  whole_mul e = add-mul (w mem64 * 2 ^ 32) (w mem32) e ∙ ap (λ (x : ℕ). x + w mem32 * e) (mul_right_comm (w mem64) (2 ^ 32) e)

-- the same word in both
pub twice_is : (w : ℕ) → w * 4294967297 ≡ twice w
twice_is w = omega arith

-- the mask of the code
pub masked_both : (n w : ℕ) → n ≤ 16 → bit_and w (((1 * 2 ^ (n * 2)) % 2 ^ 64 - 1) * 4294967297) ≡ whole (both (λ m. pack (unpack n (within m (halves w)))))
masked_both n w h = go ((1 * 2 ^ (n * 2)) % 2 ^ 64 - 1) refl
  where
    go : (x : ℕ) → x ≡ (1 * 2 ^ (n * 2)) % 2 ^ 64 - 1 → bit_and w (x * 4294967297) ≡ whole (both (λ m. pack (unpack n (within m (halves w)))))
    go x e =
        let l : x < 2 ^ 32 = omega (arith, mask_fits n h) in
        ap₂ bit_and (sym (whole_halves w)) (twice_is x)
        ∙ and_block 32 (w / 2 ^ 32) x (w % 2 ^ 32) x (mod-lt w (omega arith)) l
        ∙ rw e (whole_same (λ m. bit_and (within m (halves w)) ((1 * 2 ^ (n * 2)) % 2 ^ 64 - 1)) _ (λ m. masked n (within m (halves w)) h))

-- one shift moves both words: where two lists fit a word, none of their bits meet
pub append_both :
    (m n : ℕ) (a b : Memory → ℕ) →
    m + n ≤ 16 →
    ((i : Memory) → a i < 4 ^ m) →
    ((i : Memory) → b i < 4 ^ n) →
    append_word m (whole (both a)) (whole (both b)) ≡ whole (both (λ i. a i + b i * 4 ^ m))
append_both m n a b h p q =
    let fits : (i : Memory) → b i * 4 ^ m < 2 ^ 32 = λ i. moved_fits m n 16 (b i) (q i) h in
    rw (whole_mul b (4 ^ m), mod-eq_of_lt (whole_fits (λ i. b i * 4 ^ m) (fits mem32) (fits mem64)))
    (or_block 32 (a mem64) (b mem64 * 4 ^ m) (a mem32) (b mem32 * 4 ^ m) (places_fit m (a mem32) (omega arith) (p mem32)) (fits mem32)
    ∙ whole_same _ (λ i. a i + b i * 4 ^ m) (λ i. or_sum m (a i) (b i) (p i)))
