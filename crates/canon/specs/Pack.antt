-- A flat list as a number. 01: "two bits each, first lowest, I32 0, I64 1, F32 2, F64 3, unused bits zero".
use Rattle.std.specs.Prelude.{cond, List, [], ◌∷◌, ℕ, zero, suc, ◌+◌, ◌*◌, ◌/◌, ◌%◌, eqb}
use Rattle.canon.specs.Types.{Core, I32, I64, F32, F64}

abbrev pub code : Core → ℕ
code I32 = 0
code I64 = 1
code F32 = 2
code F64 = 3

unfoldable pub pack : List Core → ℕ
pack [] = 0
pack (c ∷ cs) = pack cs * 4 + code c

-- the core type of two bits
abbrev pub decode : ℕ → Core
decode b = cond (eqb b 0) I32 (cond (eqb b 1) I64 (cond (eqb b 2) F32 F64))

-- the first n core types of a packed number
unfoldable pub unpack : ℕ → ℕ → List Core
unpack zero w = []
unpack (suc n) w = decode (w % 4) ∷ unpack n (w / 4)

-- 01: "`Vec<ValType>` becomes a count and packed types"
pub record Packed : Type 0 where
  pub number : ℕ
  pub types : ℕ
