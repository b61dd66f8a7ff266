-- The flat count of an info is taken as word 5 of a row is: the same numbers are good, and words 1 to 5 of a good row are taken as they stand.
use mathlib.Core.Path.{◌≡◌, refl, ap}
use mathlib.Core.Bool.{Bool, true, false, cond}
use mathlib.Core.List.{List}
use mathlib.Core.Option.{Option, none, some}
use Prim.Native.Nat.{ℕ, min}
use native.Mathlib.Decide.{dec_le}
use native.Mathlib.Omega.{arith}
use lib.Dec.{eqb}
use borrow.Author.Tests.{le-leb, lt-leb, leb-true}
use Rattle.canon.specs.Row.{count_of, row_abi, word, good_layout, good_count, good_abi, is_good}
use Rattle.canon.proofs.Tests.{both_true}
use Rattle.canon.proofs.Questions.{row_tested}
use Rattle.host.specs.Numbers.{info_flat_at, abi_at}

pub same_count : (x : ℕ) → good_count (info_flat_at x) ≡ good_count (count_of x)
unfolding good_count
same_count x = go (eqb x 255)
  where
    go : (b : Bool) → good_count (cond b none (some (min x 17))) ≡ good_count (cond b none (some x))
    go true = refl
    go false =
        elim (dec_le x 16) [
          | yes h ↦ rw (le-leb x 16 h, le-leb (min x 17) 16 (omega arith))
          | no h ↦ rw (lt-leb x 16 (omega arith), lt-leb (min x 17) 16 (omega arith))
        ]

good_count_lem : (x : ℕ) → good_count (count_of x) ≡ true → info_flat_at x ≡ count_of x
unfolding good_count
good_count_lem x = go (eqb x 255)
  where
    go : (b : Bool) → good_count (cond b none (some x)) ≡ true → cond b none (some (min x 17)) ≡ cond b none (some x)
    go true h = refl
    go false h = ap some (omega (arith, leb-true x 16 h))

-- 01, of an info: "the row's rules for words 1 to 5"
pub row_taken : (r : List ℕ) → is_good r ≡ true → abi_at (word r 1) (word r 2) (word r 3) (word r 4) (word r 5) ≡ row_abi r
unfolding good_abi
row_taken r h =
    let a = row_abi r in
    let layouts = both_true (good_layout a.layouts.in32) _ (row_tested r h) in
    let count = both_true (good_layout a.layouts.in64) (good_count a.flats) layouts.1 in
    ap (λ (c : Option ℕ). record { layouts = a.layouts; flats = c }) (good_count_lem (word r 5) count.1)
