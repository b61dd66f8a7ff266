-- The offsets and gaps of the references so far stand before the words that were there (`write_turn`).
use Rattle.std.proofs.Common.{◌≡◌, List, ◌++◌, ℕ, length, take, drop}
use Rattle.questions.specs.Steps.{known}
use Rattle.questions.proofs.Members.{Stands, Staged}
use Rattle.questions.proofs.placing.write.Given as goal

abbrev pub invariant-loop-k : goal.invariant-loop-k
invariant-loop-k l =
    Stands l.placed (take l.k (known l.memo l.references.words.now)) l.k
    × ((os gs : List ℕ)
    × (length os ≡ l.k)
    × (length gs ≡ l.k)
    × (l.out ≡ os ++ drop l.k l.fn.out)
    × (l.gaps ≡ gs ++ drop l.k l.fn.gaps)
    × Staged os gs (take l.k (known l.memo l.references.words.now)))
