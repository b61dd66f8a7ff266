-- Which of several numbers k chooses.
use mathlib.Core.Path.{◌≡◌, refl, ◌∙◌}
use mathlib.Core.List.{List, [], ◌∷◌, ◌++◌}
use Prim.Native.Nat.{ℕ, zero, suc, ◌+◌, ◌-◌, ◌≤◌, ◌<◌}
use native.Mathlib.Decide.{dec_le}
use native.Mathlib.Omega.{arith}
use lib.Dec.{lit<}
use lib.ListN.{length, get_or, length-append, get_or-append}
use lib.Seq.{get_or-append-add}
use borrow.Author.Tests.{lt-ltb, le-ltb}
use Rattle.host.specs.Numbers.{chosen}

-- among two lists on end: in the first, and past it

pub chosen_front : (xs ys : List ℕ) (k : ℕ) → k < length xs → chosen k (xs ++ ys) ≡ chosen k xs
unfolding chosen
chosen_front xs ys k h =
    rw (lt-ltb k (length xs) h, lt-ltb k (length (xs ++ ys)) (omega (arith, length-append xs ys))) (get_or-append xs ys 0 k h)

pub chosen_past : (xs ys : List ℕ) (k : ℕ) → length xs ≤ k → 0 < length ys → chosen k (xs ++ ys) ≡ chosen (k - length xs) ys
unfolding chosen
chosen_past xs ys k h some =
    elim (dec_le (length xs + length ys) k) [
      | yes l ↦
          rw (le-ltb k (length (xs ++ ys)) (omega (arith, length-append xs ys)), le-ltb (k - length xs) (length ys) (omega arith))
          (past (length (xs ++ ys) - 1) (length ys - 1) (omega (arith, length-append xs ys)))
      | no l ↦
          rw (lt-ltb k (length (xs ++ ys)) (omega (arith, length-append xs ys)), lt-ltb (k - length xs) (length ys) (omega arith))
          (past k (k - length xs) (omega arith))
    ]
  where
    past : (i j : ℕ) → i ≡ length xs + j → get_or (xs ++ ys) i 0 ≡ get_or ys j 0
    past i j e = rw e (get_or-append-add xs ys j 0)

-- one number, and two

chosen_only : (a k : ℕ) → chosen k (a ∷ []) ≡ a
unfolding chosen
chosen_only a zero = refl
chosen_only a (suc k) = rw (le-ltb (suc k) 1 (omega arith))

pub chosen_first : (a b k : ℕ) → k ≡ 0 → chosen k (a ∷ b ∷ []) ≡ a
chosen_first a b k e = chosen_front (a ∷ []) (b ∷ []) k (omega (arith, e)) ∙ chosen_only a k

pub chosen_second : (a b k : ℕ) → (k ≡ 0 → ⊥) → chosen k (a ∷ b ∷ []) ≡ b
chosen_second a b k n = chosen_past (a ∷ []) (b ∷ []) k (omega (arith, n)) (lit< tt) ∙ chosen_only b (k - 1)
