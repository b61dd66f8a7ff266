-- What each question on lists is answered with, by the numbers that its call takes.
use Rattle.std.specs.Prelude.{List, ℕ}
use Rattle.canon.specs.Question.{borrow_answer}
use Rattle.canon.specs.Signature.{flatten_answer, lowering_answer, lifting_answer}
use Rattle.signature.specs.Means.{question_answer}
use Rattle.signature.specs.Packs.{packed_flattened, packed_answer}
use Rattle.host.specs.Numbers.{memory_at, side_at, answer_number, yes_number, chosen, flattened_number, signature_lists}
use Rattle.host.specs.declared.question.Question.{Question}
use Rattle.host.specs.declared.question.Question.TheVariants as question

abbrev pub question_number : Question → List ℕ → ℕ → List ℕ → List ℕ → ℕ
question_number (question.Flatten m max) t n vs ws = answer_number flattened_number (packed_flattened (flatten_answer (memory_at m) max t n vs))
question_number (question.Lowering m a) t n vs ws = answer_number flattened_number (packed_flattened (lowering_answer (side_at m a) t n vs))
question_number (question.Lifting m a) t n vs ws = answer_number flattened_number (packed_flattened (lifting_answer (side_at m a) t n vs))
question_number (question.Signature asked k) t n vs ws = answer_number (λ s. chosen k (signature_lists s)) (packed_answer (question_answer asked t n vs ws))
question_number question.ContainsBorrow t n vs ws = answer_number yes_number (borrow_answer t n vs)
