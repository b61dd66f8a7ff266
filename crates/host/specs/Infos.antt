-- Infos and cases in lent words (docs/HOST.md). "Words after the last whole info or case are not read."
use Rattle.std.specs.Prelude.{cond, List, [], ◌∷◌, ℕ, zero, suc, ◌+◌, ◌*◌, ◌/◌, eqb, length, get_or}
use Rattle.std.proofs.Math.Option.{Option, none, some}
use Rattle.canon.specs.Row.{Abi}
use Rattle.host.specs.Numbers.{abi_at}

-- an info, "five words": "size32, align32, size64, align64, flat count"
unfoldable pub info_at : List ℕ → ℕ → Abi
info_at w at = abi_at (get_or w at 0) (get_or w (at + 1) 0) (get_or w (at + 2) 0) (get_or w (at + 3) 0) (get_or w (at + 4) 0)

-- a case, "six words": "0 for no payload or any other number for one", then its info
unfoldable pub case_at : List ℕ → ℕ → Option Abi
case_at w at = cond (eqb (get_or w at 0) 0) none (some (info_at w (at + 1)))

-- so many, from the number j on
unfoldable pub several : {A : Type 0} → (ℕ → A) → ℕ → ℕ → List A
several item j zero = []
several item j (suc n) = item j ∷ several item (suc j) n

abbrev pub lent_infos : List ℕ → List Abi
lent_infos w = several (λ j. info_at w (5 * j)) 0 (length w / 5)

abbrev pub lent_cases : List ℕ → List (Option Abi)
lent_cases w = several (λ j. case_at w (6 * j)) 0 (length w / 6)
