-- What this crate's values stand for.
use Rattle.std.specs.Prelude.{List, ℕ, Option, Some, None}
use Rattle.std.proofs.Math.Option as math
use Rattle.std.proofs.Math.Option.{none, some}
use Rattle.canon.specs.Answer.{Answer}
use Rattle.canon.specs.Pack.{Packed}
use Rattle.canon.specs.Signature as canon
use Rattle.canon.specs.Functype as functype
use Rattle.types.specs.Means.{memory_of}
use Rattle.flat_types.specs.Lists.{words}
use Rattle.flat_types.specs.declared.list.FlatList.{FlatList}
use Rattle.signature.specs.Packs.{PackedSignature}
use Rattle.signature.specs.declared.functype.Context.{Context}
use Rattle.signature.specs.declared.functype.Context.TheVariants as context
use Rattle.signature.specs.declared.question.SignatureQuestion.{SignatureQuestion}
use Rattle.signature.specs.declared.question.SignatureQuestion.TheVariants as question
use Rattle.signature.specs.declared.side.Side.{Side}
use Rattle.signature.specs.declared.signatures.Signature.{Signature}

abbrev pub side_means : Side → canon.Side
side_means s = record { memory = memory_of s.memory; async = s.async_ }

abbrev pub context_means : Context → functype.Context
context_means context.Lift = functype.lift
context_means context.Lower = functype.lower

-- a list, or "memory"
abbrev pub flattened_means : Option FlatList → math.Option Packed
flattened_means (Some f) = some (words f)
flattened_means None = none

abbrev pub signature_means : Signature → PackedSignature
signature_means s = record { params = words s.params; results = words s.results }

-- A question as a value

-- what the function of its name answers
abbrev pub question_answer : SignatureQuestion → List ℕ → ℕ → List ℕ → List ℕ → Answer canon.Signature
question_answer (question.AsyncStart lower lift) t n vs ws = canon.async_start_answer t n (side_means lower) vs (side_means lift) ws
question_answer (question.AsyncReturn lift lower) t n vs ws = canon.async_return_answer t n (side_means lift) vs (side_means lower) ws
question_answer (question.Functype c s callback) t n vs ws = functype.functype_answer t n (context_means c) (side_means s) callback vs ws
