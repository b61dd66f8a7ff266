-- What a build and a placement cost (02, order 6): "how many rows it read back".
use Rattle.std.specs.Prelude.{Bool, cond, not, ◌&&◌, List, [], ◌∷◌, ◌++◌, ℕ, zero, suc, ◌+◌, leb, eqb, get_or, take}
use Rattle.std.proofs.Math.Option.{Option, none, some}
use Rattle.canon.specs.Types.{Kind}
use Rattle.canon.specs.Layout.{Memory}
use Rattle.canon.specs.Answer.{Answer, ok, refused}
use Rattle.canon.specs.Description.{mark, kind_of, shape_of, body_length, references_of, build_answer}
use Rattle.canon.specs.Question.{placement_answer}

-- a reference "of the form 64+j": 64 or more, and not the mark, which means "no payload"
abbrev pub is_row : ℕ → Bool
is_row w = leb 64 w && not (eqb w mark)

-- how many of these references are so
unfoldable pub rows_among : List ℕ → ℕ
rows_among [] = 0
rows_among (w ∷ ws) = cond (is_row w) 1 0 + rows_among ws

-- the body of a definition, whose kind word has the words ws behind it: its length and its references;
-- what is no kind has no body

abbrev pub length_behind : Option Kind → List ℕ → ℕ
length_behind none ws = 0
length_behind (some k) ws = body_length (shape_of k) (get_or ws 0 0)

abbrev pub references_behind : Option Kind → List ℕ → List ℕ
references_behind none ws = []
references_behind (some k) ws = references_of (shape_of k) (take (length_behind (some k) ws) ws)

-- the references of one definition after another; first so many words are passed over, the rest of a body whose references were taken
unfoldable pub references_from : ℕ → List ℕ → List ℕ
references_from left [] = []
references_from (suc left) (w ∷ ws) = references_from left ws
references_from zero (w ∷ ws) = references_behind (kind_of w) ws ++ references_from (length_behind (kind_of w) ws) ws

-- "exactly the number of references of the form 64+j in the description"
abbrev pub rows_read : List ℕ → ℕ
rows_read ws = rows_among (references_from 0 ws)

-- "A refused call reports 0"
abbrev pub reported : {A : Type 0} → Answer A → ℕ → ℕ
reported (ok a) n = n
reported (refused x p) n = 0

-- "Let an accepted build report how many rows it read back"
unfoldable pub build_reads : List ℕ → List ℕ → ℕ
build_reads ws t = reported (build_answer ws t) (rows_read ws)

-- "Placement reports likewise for its references"
unfoldable pub placement_reads : Memory → List ℕ → ℕ → List ℕ → ℕ → ℕ
placement_reads m t n ws room = reported (placement_answer m t n ws room) (rows_among ws)
