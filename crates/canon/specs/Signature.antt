-- Core signatures (01, "Questions put to a table"; signature.rs).
use Rattle.std.specs.Prelude.{Bool, true, false, cond, not, List, [], ◌∷◌, ◌++◌, ℕ, leb, ltb, eqb, length}
use Rattle.std.proofs.Math.Option.{Option, none, some}
use Rattle.canon.specs.Types.{Core}
use Rattle.canon.specs.Layout.{Memory}
use Rattle.canon.specs.Flat.{ptr_type}
use Rattle.canon.specs.Row.{Info, flat_of}
use Rattle.canon.specs.Answer.{Answer, ok, map_option2}
use Rattle.canon.specs.Question.{ask, ask_two}

-- "the list, or 'memory' when some flat count is none or the sum exceeds the maximum"
pub data Flattened : Type 0 where
  listed : List Core → Flattened
  in_memory : Flattened

-- the flat lists of all, none if one has none
unfoldable pub flat_all : Memory → List Info → Option (List Core)
flat_all m [] = some []
flat_all m (i ∷ is') = map_option2 ◌++◌ (flat_of m i) (flat_all m is')

unfoldable pub at_most : ℕ → Option (List Core) → Flattened
at_most max none = in_memory
at_most max (some l) = cond (leb (length l) max) (listed l) in_memory

-- `flatten_types`: "a maximum of 0 to 16"
unfoldable pub flatten_answer : Memory → ℕ → List ℕ → ℕ → List ℕ → Answer Flattened
flatten_answer m max t n ws = ask t n (ltb 16 max) false ws (λ is'. ok (at_most max (flat_all m is')))

-- how one side of a call is compiled
pub record Side : Type 0 where
  pub memory : Memory
  pub async : Bool

-- "Lowering: maximum 1, async 0"
abbrev pub lowering_max : Bool → ℕ
lowering_max async = cond async 0 1

-- "Lifting: maximum 1, async 16"
abbrev pub lifting_max : Bool → ℕ
lifting_max async = cond async 16 1

-- "maximum 16, or 4 if lower is async"
abbrev pub params_max : Bool → ℕ
params_max async = cond async 4 16

abbrev pub lowering_answer : Side → List ℕ → ℕ → List ℕ → Answer Flattened
lowering_answer s t n ws = flatten_answer s.memory (lowering_max s.async) t n ws

abbrev pub lifting_answer : Side → List ℕ → ℕ → List ℕ → Answer Flattened
lifting_answer s t n ws = flatten_answer s.memory (lifting_max s.async) t n ws

pub record Signature : Type 0 where
  pub params : List Core
  pub results : List Core

-- "'Memory' gives one pointer of that side's memory"
unfoldable pub or_pointer : Memory → Flattened → List Core
or_pointer m (listed l) = l
or_pointer m in_memory = ptr_type m ∷ []

-- "parameters are the lower side's, maximum 16, or 4 if lower is async; results are the lift side's parameter types, maximum 16"
unfoldable pub start_of : Side → Option (List Core) → Side → Option (List Core) → Signature
start_of lower params lift results =
    record {
      params = or_pointer lower.memory (at_most (params_max lower.async) params);
      results = or_pointer lift.memory (at_most 16 results);
    }

-- "start has lower then lift"
unfoldable pub async_start_answer : List ℕ → ℕ → Side → List ℕ → Side → List ℕ → Answer Signature
async_start_answer t n lower vs lift ws =
    ask_two t n vs ws (λ is' js. ok (start_of lower (flat_all lower.memory is') lift (flat_all lift.memory js)))

-- whether lower's results go behind a pointer: "lower is async and its result list is not empty, or is sync and flattens at maximum 1
-- to 'memory'"
unfoldable pub behind_pointer : Bool → Bool → Flattened → Bool
behind_pointer true is_empty f = not is_empty
behind_pointer false is_empty (listed l) = false
behind_pointer false is_empty in_memory = true

-- lower's flat list; a list behind a pointer is not asked for
abbrev pub list_or_none : Flattened → List Core
list_or_none (listed l) = l
list_or_none in_memory = []

-- "one more lift pointer follows and there are no results. Otherwise results are lower's flat list"
unfoldable pub returned : Memory → Bool → List Core → List Core → Signature
returned lift true params results = record { params = params ++ ptr_type lift ∷ []; results = [] }
returned lift false params results = record { params = params; results = results }

-- "parameters are the lifting of the lift results, or one lift pointer"; is_empty is whether lower has no references
unfoldable pub return_of : Side → Option (List Core) → Side → Option (List Core) → Bool → Signature
return_of lift params lower results is_empty =
    returned lift.memory (behind_pointer lower.async is_empty (at_most 1 results))
    (or_pointer lift.memory (at_most (lifting_max lift.async) params))
    (list_or_none (at_most 1 results))

-- "return lift then lower"
unfoldable pub async_return_answer : List ℕ → ℕ → Side → List ℕ → Side → List ℕ → Answer Signature
async_return_answer t n lift vs lower ws =
    ask_two t n vs ws (λ is' js. ok (return_of lift (flat_all lift.memory is') lower (flat_all lower.memory js) (eqb (length ws) 0)))
