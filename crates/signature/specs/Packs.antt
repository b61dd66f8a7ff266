-- canon's answers with each list as a count and packed types. 01: "`Vec<ValType>` becomes a count and packed types, at most 17".
use Rattle.std.specs.Prelude.{cond, List, ℕ, length}
use Rattle.std.proofs.Math.Option.{Option, none, some}
use Rattle.canon.specs.Answer.{Answer, ok, then, too_long, bad_count, bad_row}
use Rattle.canon.specs.Pack.{Packed, pack}
use Rattle.canon.specs.Question.{too_many, no_table}
use Rattle.canon.specs.Signature.{Flattened, listed, in_memory, Signature}
use Rattle.canon.specs.Types.{Core}

abbrev pub packed_list : List Core → Packed
packed_list l = record { number = length l; types = pack l }

-- none is "memory"
abbrev pub packed_flat : Flattened → Option Packed
packed_flat (listed l) = some (packed_list l)
packed_flat in_memory = none

abbrev pub packed_flattened : Answer Flattened → Answer (Option Packed)
packed_flattened a = then a (λ f. ok (packed_flat f))

pub record PackedSignature : Type 0 where
  pub params : Packed
  pub results : Packed

abbrev pub packed_signature : Signature → PackedSignature
packed_signature s = record { params = packed_list s.params; results = packed_list s.results }

abbrev pub packed_answer : Answer Signature → Answer PackedSignature
packed_answer a = then a (λ s. ok (packed_signature s))

-- The inner functions' words

-- a maximum above 16: "TooLong, n, maximum"
unfoldable pub bad_maximum : List ℕ → ℕ → List ℕ → ℕ
bad_maximum t n ws = cond (too_many ws) too_long (cond (no_table t n) bad_row bad_count)
