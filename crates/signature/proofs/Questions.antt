-- A question as a value, taken apart: the memory of each list, and what is made of the two flat lists.
use Rattle.std.specs.Prelude.{Bool, List}
use Rattle.std.proofs.Math.Option.{Option}
use Rattle.canon.specs.Layout.{Memory}
use Rattle.canon.specs.Signature.{Signature, start_of, return_of}
use Rattle.canon.specs.Functype.{functype_of}
use Rattle.canon.specs.Types.{Core}
use Rattle.types.specs.Means.{memory_of}
use Rattle.signature.specs.Means.{side_means, context_means}
use Rattle.signature.specs.declared.question.SignatureQuestion.{SignatureQuestion}
use Rattle.signature.specs.declared.question.SignatureQuestion.TheVariants as question

abbrev pub first_memory : SignatureQuestion → Memory
first_memory (question.AsyncStart lower lift) = memory_of lower.memory
first_memory (question.AsyncReturn lift lower) = memory_of lift.memory
first_memory (question.Functype c s callback) = memory_of s.memory

abbrev pub second_memory : SignatureQuestion → Memory
second_memory (question.AsyncStart lower lift) = memory_of lift.memory
second_memory (question.AsyncReturn lift lower) = memory_of lower.memory
second_memory (question.Functype c s callback) = memory_of s.memory

abbrev pub made_of : SignatureQuestion → Option (List Core) → Option (List Core) → Bool → Signature
made_of (question.AsyncStart lower lift) o q is_empty = start_of (side_means lower) o (side_means lift) q
made_of (question.AsyncReturn lift lower) o q is_empty = return_of (side_means lift) o (side_means lower) q is_empty
made_of (question.Functype c s callback) o q is_empty = functype_of (context_means c) (side_means s) callback o q
