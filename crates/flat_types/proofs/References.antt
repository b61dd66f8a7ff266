-- The flat lists of the references without a definition.
use mathlib.Core.Path.{◌≡◌, refl}
use mathlib.Core.Bool.{cond}
use mathlib.Core.List.{List, [], ◌∷◌}
use mathlib.Core.Option.{none}
use Prim.Native.Nat.{ℕ, zero, suc, ◌*◌, ◌/◌, ◌^◌, ◌≤◌, ◌<◌}
use native.Mathlib.Omega.{arith}
use lib.Bits.{bit_and, and_le_r}
use lib.Dec.{eqb}
use lib.ListN.{length, get_elem?}
use borrow.Author.Tests.{ne_eqb}
use Rattle.canon.specs.Answer.{map_option}
use Rattle.canon.specs.Layout.{Memory}
use Rattle.canon.specs.Flat.{flatten}
use Rattle.canon.specs.Pack.{pack}
use Rattle.canon.specs.Types.{plain}
use Rattle.flat_types.specs.Lists.{no_list, packed_to, packed}

-- A rule for each number below n: one test that computes both sides of it for all of them

abbrev pub up_to : {A : Type 0} → ℕ → (ℕ → A) → List A
up_to zero f = []
up_to (suc n) f = f 0 ∷ up_to n (λ k. f (suc k))

pub same_below : {A : Type 0} (n : ℕ) (f g : ℕ → A) → up_to n f ≡ up_to n g → (k : ℕ) → k < n → f k ≡ g k
same_below zero f g e k h = absurd (omega arith)
same_below (suc n) f g e zero h = cc
same_below (suc n) f g e (suc k) h = same_below n (λ i. f (suc i)) (λ i. g (suc i)) (cc) k (omega arith)

-- the code's constant holds the type of each scalar at its place; String is no scalar

abbrev pub code_at : ℕ → ℕ
code_at k = bit_and (3751936 / 2 ^ (k * 2)) 3

pub scalar_code : (m : Memory) (k : ℕ) → k ≤ 17 → (k ≡ 12 → ⊥) → record { number = 1; types = code_at k } ≡ packed (map_option (flatten m) (get_elem? plain k))
unfolding packed_to pack flatten
scalar_code m k h s =
    rw (ne_eqb k 12 s)
    at (same_below 18 (λ i. cond (eqb i 12) no_list (record { number = 1; types = code_at i })) (λ i. cond (eqb i 12) no_list (packed (map_option (flatten m) (get_elem? plain i)))) refl k (omega arith))

pub past : {A : Type 0} (l : List A) (i : ℕ) → length l ≤ i → get_elem? l i ≡ none
past [] i h = refl
past (x ∷ l) zero h = absurd (omega arith)
past (x ∷ l) (suc i) h = past l i (omega arith)

pub code_small : (k : ℕ) → code_at k < 2 ^ 32
code_small k = omega (arith, and_le_r (3751936 / 2 ^ (k * 2)) 3)
