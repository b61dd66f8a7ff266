-- Core signatures of plain calls (02, order 1: "the core signature of a function lifted or lowered without an adapter").
use Rattle.std.specs.Prelude.{Bool, cond, List, [], ◌∷◌, ◌++◌, map, ℕ, ltb, length}
use Rattle.std.proofs.Math.Option.{Option}
use Rattle.canon.specs.Types.{Ty, Core, I32}
use Rattle.canon.specs.Layout.{Memory}
use Rattle.canon.specs.Flat.{ptr_type, concat, flatten}
use Rattle.canon.specs.Answer.{Answer, ok}
use Rattle.canon.specs.Question.{ask_two}
use Rattle.canon.specs.Signature.{Flattened, listed, in_memory, flat_all, at_most, Side, lowering_max, params_max, Signature, or_pointer, list_or_none}

-- "lift and lower"
pub data Context : Type 0 where
  lift : Context
  lower : Context

-- "Async lower takes four flat parameters at most"; every other call takes 16
abbrev pub params_most : Context → Bool → ℕ
params_most lift async = 16
params_most lower async = params_max async

-- what is passed of the parameters themselves: "A flat count of none is above every maximum"
abbrev pub passed : Context → Side → Option (List Core) → List Core
passed c s params = or_pointer s.memory (at_most (params_most c s.async) params)

-- what lies in memory is told by a pointer
abbrev pub pointer_to : Memory → Flattened → List Core
pointer_to m (listed l) = []
pointer_to m in_memory = ptr_type m ∷ []

-- what an async lower returns, and an async lift with a callback; it is no pointer, so it is I32 in either memory
abbrev pub status : List Core
status = I32 ∷ []

-- "Sync lift puts a large result behind a returned pointer"; "async lift returns I32 with a callback and nothing without"
abbrev pub lift_results : Side → Bool → Option (List Core) → List Core
lift_results s callback results = cond s.async (cond callback status []) (or_pointer s.memory (at_most 1 results))

-- "sync lower appends a pointer parameter"; "An async lower whose result flattens to nothing gets no pointer here": 0 is its maximum
abbrev pub lower_params : Side → Option (List Core) → Option (List Core) → List Core
lower_params s params results = passed lower s params ++ pointer_to s.memory (at_most (lowering_max s.async) results)

-- "Async lower .. returns one I32"
abbrev pub lower_results : Bool → Option (List Core) → List Core
lower_results async results = cond async status (list_or_none (at_most 1 results))

-- "sync and async, lift and lower, with and without a callback, either memory"
unfoldable pub functype_of : Context → Side → Bool → Option (List Core) → Option (List Core) → Signature
functype_of lift s callback params results = record { params = passed lift s params; results = lift_results s callback results }
functype_of lower s callback params results = record { params = lower_params s params results; results = lower_results s.async results }

-- "Refusals: those of a question, parameters tested before results"
unfoldable pub functype_answer : List ℕ → ℕ → Context → Side → Bool → List ℕ → List ℕ → Answer Signature
functype_answer t n c s callback vs ws =
    ask_two t n vs ws (λ is' js. ok (functype_of c s callback (flat_all s.memory is') (flat_all s.memory js)))

-- "the standard's function flattening" itself, over types: flatten_functype of CanonicalABI.md, as it is publicly known (docs/DIFFERENCES.md)

-- flatten_types
abbrev pub flatten_types : Memory → List Ty → List Core
flatten_types m ts = concat (map (flatten m) ts)

-- a list longer than the maximum is one pointer
abbrev pub pointer_above : Memory → ℕ → List Core → List Core
pointer_above m most l = cond (ltb most (length l)) (ptr_type m ∷ []) l

-- sync, by context
unfoldable pub flatten_sync : Memory → Context → List Core → List Core → Signature
flatten_sync m lift params results = record { params = pointer_above m 16 params; results = pointer_above m 1 results }
flatten_sync m lower params results =
    cond (ltb 1 (length results))
    (record { params = pointer_above m 16 params ++ ptr_type m ∷ []; results = [] })
    (record { params = pointer_above m 16 params; results = results })

-- async, by context
unfoldable pub flatten_async : Memory → Context → Bool → List Core → List Core → Signature
flatten_async m lift callback params results = record { params = pointer_above m 16 params; results = cond callback (I32 ∷ []) [] }
flatten_async m lower callback params results =
    record { params = pointer_above m 4 params ++ cond (ltb 0 (length results)) (ptr_type m ∷ []) []; results = I32 ∷ [] }

-- flatten_functype
abbrev pub flatten_functype : Memory → Context → Bool → Bool → List Ty → List Ty → Signature
flatten_functype m c async callback ps rs =
    cond async (flatten_async m c callback (flatten_types m ps) (flatten_types m rs)) (flatten_sync m c (flatten_types m ps) (flatten_types m rs))
