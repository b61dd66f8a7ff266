-- The digits that are printed stand for the number.
use Rattle.std.proofs.Common.{◌≡◌, ℕ, ◌+◌, ◌-◌, ◌*◌, ◌%◌, ◌<◌, List, [], ◌∷◌, ◌++◌, refl, ◌∙◌, arith}
use native.Mathlib.Nat.{div-add-mod}
use Rattle.std.proofs.lemmas.Fmt.{decimal_by_steps}
use Rattle.listing.specs.Text.{decimal}
use Rattle.listing.proofs.Writing.{decimal_is}

-- the number that digits stand for, after those before them
pub value : ℕ → List ℕ → ℕ
value before [] = before
value before (d ∷ ds) = value (10 * before + (d - 48)) ds

value_append : (xs ys : List ℕ) (before : ℕ) → value before (xs ++ ys) ≡ value (value before xs) ys
unfolding value
value_append [] ys before = refl
value_append (x ∷ xs) ys before = value_append xs ys (10 * before + (x - 48))

pub decimal_value : (n : ℕ) → n < 4294967296 → value 0 (decimal n) ≡ n
unfolding value
decimal_value n h =
    rw (← decimal_is n h)
    (decimal_by_steps (λ n ds. value 0 ds ≡ n) (λ n h. omega arith)
    (λ n ds h e. value_append ds ((48 + n % 10) ∷ []) 0 ∙ rw e (omega (arith, div-add-mod n 10))) n (omega arith))
