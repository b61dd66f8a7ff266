-- Copies of a list by one product.
use mathlib.Core.Path.{◌≡◌, refl, sym, ap, ◌∙◌}
use mathlib.Core.List.{List, [], ◌∷◌, ◌++◌, append_assoc}
use Prim.Native.Nat.{ℕ, zero, suc, ◌+◌, ◌-◌, ◌*◌, ◌/◌, ◌%◌, ◌^◌, ◌≤◌, ◌<◌}
use native.Mathlib.Nat.{zero-add, suc-add, mul-zero, zero-mul, mul-add, mul-one, one-mul, mul_assoc, mul_comm, add_comm, add-sub_of_le, mul-div-le, le-div_iff_mul-le, div-eq_of_lt-le, mod-eq_of_lt, add-mul-mod_self_right}
use native.Mathlib.Omega.{arith}
use lib.ListN.{length}
use Rattle.canon.specs.Layout.{Memory, both, within}
use Rattle.canon.specs.Flat.{copies}
use Rattle.canon.specs.Pack.{pack, unpack}
use Rattle.canon.specs.Types.{Core, F32}
use Rattle.canon.proofs.Packing.{pack_lt, pack_append, length_unpack}
use Rattle.canon.proofs.FlatFolds.{length_copies}
use Rattle.flat_types.specs.Lists.{halves, whole}
use Rattle.flat_types.specs.Places.{ones}
use Rattle.flat_types.proofs.Masks.{pack_unpack, pack_fits}
use Rattle.flat_types.proofs.Halves.{half, whole_same, whole_mul, whole_fits}

copies_nil : (n : ℕ) → copies n [] ≡ []
unfolding copies
copies_nil zero = refl
copies_nil (suc n) = copies_nil n

copies_add : (i j : ℕ) (l : List Core) → copies (i + j) l ≡ copies i l ++ copies j l
unfolding copies
copies_add zero j l = ap (λ (x : ℕ). copies x l) (zero-add j)
copies_add (suc i) j l = ap (λ (x : ℕ). copies x l) (suc-add i j) ∙ ap (λ (x : List Core). l ++ x) (copies_add i j l) ∙ sym (append_assoc l (copies i l) (copies j l))

pack_copies : (n : ℕ) (l : List Core) → pack (copies n l) ≡ pack l * ones n (4 ^ length l)
unfolding pack copies
pack_copies zero l = sym (mul-zero (pack l))
pack_copies (suc n) l =
    pack_append l (copies n l)
    ∙ ap (λ (x : ℕ). pack l + x * 4 ^ length l) (pack_copies n l)
    ∙ ap (λ (x : ℕ). pack l + x) (mul_assoc (pack l) (ones n (4 ^ length l)) (4 ^ length l))
    ∙ add_comm (pack l) (pack l * (ones n (4 ^ length l) * 4 ^ length l))
    ∙ sym (mul-add (pack l) (ones n (4 ^ length l) * 4 ^ length l) 1 ∙ ap (λ (x : ℕ). pack l * (ones n (4 ^ length l) * 4 ^ length l) + x) (mul-one (pack l)))

-- the first of two lists, behind one another
pack_first : (k l : List Core) → pack (unpack (length k) (pack (k ++ l))) ≡ pack k
pack_first k l =
    pack_unpack (length k) (pack (k ++ l))
    ∙ ap (λ (x : ℕ). x % 4 ^ length k) (pack_append k l)
    ∙ add-mul-mod_self_right (pack k) (pack l) (4 ^ length k)
    ∙ mod-eq_of_lt (pack_lt k)

-- as many copies as 16 types hold, of which the first n are kept
first_copies :
    (n : ℕ) (l : List Core) →
    length l * n ≤ 16 →
    pack (unpack (length l * n) (pack l * ones (16 / length l) (4 ^ length l))) ≡ pack (copies n l)
unfolding pack unpack
first_copies n [] h = rw (copies_nil n, zero-mul n)
first_copies n (c ∷ cs) h =
    let l : List Core = c ∷ cs in
    let p : 0 < length l = omega arith in
    let q : n ≤ 16 / length l = (le-div_iff_mul-le p).1 (rw (mul_comm n (length l)) h) in
    let s : copies (16 / length l) l ≡ copies n l ++ copies (16 / length l - n) l
    = ap (λ (x : ℕ). copies x l) (sym (add-sub_of_le q)) ∙ copies_add n (16 / length l - n) l in
    rw (← pack_copies (16 / length l) l, s, ← length_copies n l) (pack_first (copies n l) (copies (16 / length l - n) l))

-- the high bit of each of n places: so many F32
pub high_bits : (n : ℕ) → n ≤ 16 → pack (unpack n 2863311530) ≡ ones n 4 * 2
unfolding pack
high_bits n h =
    (rw (one-mul n) at (first_copies n (F32 ∷ []) (rw (one-mul n) h)))
    ∙ pack_copies n (F32 ∷ [])
    ∙ mul_comm 2 (ones n 4)

-- The words of the code

repeated : (m a n : ℕ) → m * n ≤ 16 → pack (unpack (m * n) (pack (unpack m a) * ones (16 / m) (4 ^ m))) ≡ pack (copies n (unpack m a))
repeated m a n h = let e = length_unpack m a in rw e at (first_copies n (unpack m a) (rw e h))

all_fit : (l : List Core) → pack l * ones (16 / length l) (4 ^ length l) < 2 ^ 32
all_fit l =
    rw (← pack_copies (16 / length l) l)
    (pack_fits (copies (16 / length l) l) 16 (omega (arith, length_copies (16 / length l) l, mul-div-le 16 (length l))))

copies_fit : (m a : ℕ) → pack (unpack m a) * ones (16 / m) (4 ^ m) < 2 ^ 32
copies_fit m a = rw (length_unpack m a) at (all_fit (unpack m a))

-- in both memories at once
module _ (m w : ℕ) where
  abbrev first : Memory → ℕ
  first i = pack (unpack m (within i (halves w)))

  abbrev every : ℕ
  every = ones (16 / m) (4 ^ m)

  pub repeated_fits : whole (both first) * every < 2 ^ 64
  repeated_fits = rw (whole_mul first every) (whole_fits (λ i. first i * every) (copies_fit m (w % 2 ^ 32)) (copies_fit m (w / 2 ^ 32)))

  pub repeated_both : (n : ℕ) → m * n ≤ 16 → whole (both (λ i. pack (unpack (m * n) (within i (halves (whole (both first) * every)))))) ≡ whole (both (λ i. pack (copies n (unpack m (within i (halves w))))))
  repeated_both n h =
      rw (whole_mul first every)
      (whole_same _ _ (λ i. ap (λ (x : ℕ). pack (unpack (m * n) x)) (half (λ j. first j * every) (copies_fit m (w % 2 ^ 32)) i) ∙ repeated m (within i (halves w)) n h))

-- of more than eight types 16 hold one copy
pub one_copy : (n : ℕ) → n ≤ 16 → 8 < n → 1 ≡ ones (16 / n) (4 ^ n)
one_copy n h k = let q : 16 / n ≡ 1 = div-eq_of_lt-le {k = 1} n (omega arith) (omega arith) in rw (q, zero-mul)

-- one more that it is not
pub above : {k n : ℕ} → n ≤ k → (k ≡ n → ⊥) → suc n ≤ k
above h e = omega arith
