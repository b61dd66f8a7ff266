-- A loop over items in lent words: one more, and the end.
use mathlib.Core.Path.{◌≡◌}
use mathlib.Core.List.{[], ◌∷◌}
use Prim.Native.Nat.{ℕ, suc, ◌+◌, ◌-◌, ◌≤◌, ◌<◌}
use native.Mathlib.Numerals.{add-one}
use native.Mathlib.Omega.{arith}
use Rattle.host.specs.Infos.{several}

module _ {A : Type 0} (item : ℕ → A) (j n : ℕ) where
  pub several_more : j < n → several item j (n - j) ≡ item j ∷ several item (j + 1) (n - (j + 1))
  unfolding several
  several_more h = let e : n - j ≡ suc (n - (j + 1)) = omega arith in rw (e, add-one j)

  pub no_more : n ≤ j → several item j (n - j) ≡ []
  unfolding several
  no_more h = let e : n - j ≡ 0 = omega arith in rw e
