-- Core signatures: what a maximum leaves of a list, and plain calls, which are the standard's where no type has a parting.
use mathlib.Core.Path.{◌≡◌, refl, ap, ◌∙◌}
use mathlib.Core.Logic.{◌⊎◌, inl, inr, ⊎_elim}
use mathlib.Core.Bool.{Bool, true, false, cond}
use mathlib.Core.List.{List, [], ◌∷◌, ◌++◌, append-nil}
use mathlib.Core.Option.{Option, none, some}
use Prim.Native.Nat.{ℕ, ◌≤◌, ◌<◌}
use native.Mathlib.Decide.{dec_le}
use native.Mathlib.Omega.{arith}
use lib.Dec.{leb, ltb}
use lib.ListN.{length, length-append}
use borrow.Author.Tests.{le-leb, lt-leb, leb-true, lt-ltb, le-ltb}
use Rattle.canon.specs.Answer.{map_option, map_option2}
use Rattle.canon.specs.Types.{Ty, Core}
use Rattle.canon.specs.Layout.{Memory}
use Rattle.canon.specs.Flat.{ptr_type, concat, flatten, flat_count}
use Rattle.canon.specs.Signature.{Flattened, listed, in_memory, at_most, Side, lifting_max, params_max, lowering_max, Signature, or_pointer, list_or_none, behind_pointer, returned, return_of}
use Rattle.canon.specs.Functype.{Context, lift, lower, passed, pointer_to, functype_of, status, flatten_types, pointer_above, flatten_sync, flatten_async, flatten_functype}
use Rattle.canon.proofs.Counts.{Parting, uncounted}
use Rattle.canon.proofs.Questions.{flat_types}

-- Maxima

-- each of two maxima is one that a list may have
pub maximum_small : (b : Bool) (x y : ℕ) → x ≤ 16 → y ≤ 16 → cond b x y ≤ 16
maximum_small true x y h g = h
maximum_small false x y h g = g

-- what a maximum leaves of a list is short where what stands for "memory" is
pub kept_short :
    (f : Flattened → List Core) (max most : ℕ) (o : Option (List Core)) → ((l : List Core) → f (listed l) ≡ l) → length (f in_memory) ≤ most → max ≤ most →
    length (f (at_most max o)) ≤ most
unfolding at_most
kept_short f max most none keeps short small = short
kept_short f max most (some l) keeps short small = go (leb (length l) max) refl
  where
    go : (b : Bool) → leb (length l) max ≡ b → length (f (cond b (listed l) in_memory)) ≤ most
    go true e = omega (arith, leb-true (length l) max e, ap length (keeps l))
    go false e = short

pub or_pointer_short : (m : Memory) (max most : ℕ) (o : Option (List Core)) → max ≤ most → 1 ≤ most → length (or_pointer m (at_most max o)) ≤ most
unfolding or_pointer
or_pointer_short m max most o small one = kept_short (or_pointer m) max most o (λ l. refl) one small

-- Plain calls

-- two lists of which every maximum leaves the same
abbrev pub Alike : Option (List Core) → Option (List Core) → Type 0
Alike o q = (max : ℕ) → max ≤ 16 → at_most max o ≡ at_most max q

pub functype_alike :
    (c : Context) (s : Side) (callback : Bool) (o o' q q' : Option (List Core)) → Alike o o' → Alike q q' →
    functype_of c s callback o q ≡ functype_of c s callback o' q'
unfolding functype_of
functype_alike lift s callback o o' q q' f g = rw (f 16 (omega arith), g 1 (omega arith))
functype_alike lower s callback o o' q q' f g =
    rw (
      f (params_max s.async) (maximum_small s.async 4 16 (omega arith) (omega arith)),
      g (lowering_max s.async) (maximum_small s.async 0 1 (omega arith) (omega arith)),
      g 1 (omega arith),
    )

-- The standard

-- a list longer than the maximum lies in memory, and what is said of either holds by the test of its length
above : {A : Type 0} (f : Flattened → A) (max : ℕ) (l : List Core) → f (at_most max (some l)) ≡ cond (ltb max (length l)) (f in_memory) (f (listed l))
unfolding at_most
above f max l =
    elim (dec_le (length l) max) [
      | yes h ↦ rw (le-leb (length l) max h, le-ltb max (length l) h)
      | no h ↦ rw (lt-leb (length l) max (omega arith), lt-ltb max (length l) (omega arith))
    ]

-- over lists, whatever the memory
functype_lists :
    (m : Memory) (c : Context) (async callback : Bool) (ps rs : List Core) →
    functype_of c (record { memory = m; async = async }) callback (some ps) (some rs)
    ≡ cond async (flatten_async m c callback ps rs) (flatten_sync m c ps rs)
unfolding functype_of or_pointer flatten_sync flatten_async
functype_lists m lift true callback ps rs = rw (above (or_pointer m) 16 ps)
functype_lists m lift false callback ps rs = rw (above (or_pointer m) 16 ps, above (or_pointer m) 1 rs)
functype_lists m lower true callback ps rs = rw (above (or_pointer m) 4 ps, above (pointer_to m) 0 rs)
functype_lists m lower false callback ps rs =
    rw (above (or_pointer m) 16 ps, above (pointer_to m) 1 rs, above list_or_none 1 rs) (go (ltb 1 (length rs)) (pointer_above m 16 ps))
  where
    go :
        (b : Bool) (params : List Core) →
        ◌≡◌ {A = Signature} (record { params = params ++ cond b (ptr_type m ∷ []) []; results = cond b [] rs })
        (cond b (record { params = params ++ ptr_type m ∷ []; results = [] }) (record { params = params; results = rs }))
    go true params = refl
    go false params = rw (append-nil params)

-- 01's rule and the standard's list part ways in one of the types
abbrev pub AnyParting : List Ty → Type 0
AnyParting [] = ⊥
AnyParting (u ∷ us) = Parting u ⊎ AnyParting us

-- where they do not, what has no flat count is longer than every maximum
counted_or_long :
    (m : Memory) (us : List Ty) → (AnyParting us → ⊥) →
    (flat_types m us ≡ some (flatten_types m us)) ⊎ ((flat_types m us ≡ none) × (16 < length (flatten_types m us)))
unfolding concat
counted_or_long m [] unparted = inl refl
counted_or_long m (u ∷ us) unparted = go (flat_count u) refl (counted_or_long m us (λ p. unparted (inr p)))
  where
    all : Option ℕ → Option (List Core)
    all o = map_option2 ◌++◌ (map_option (λ (n : ℕ). flatten m u) o) (flat_types m us)

    joined : List Core
    joined = flatten m u ++ flatten_types m us

    go :
        (o : Option ℕ) → flat_count u ≡ o → (flat_types m us ≡ some (flatten_types m us)) ⊎ ((flat_types m us ≡ none) × (16 < length (flatten_types m us))) →
        (all o ≡ some joined) ⊎ ((all o ≡ none) × (16 < length joined))
    go none e rest =
        ⊎_elim (λ (h : 16 < length (flatten m u)). inr (refl, omega (arith, length-append (flatten m u) (flatten_types m us)))) (λ p. absurd (unparted (inl p)))
        ((uncounted m u).0 e)
    go (some n) e (inl h) = inl (rw h)
    go (some n) e (inr h) = inr (rw h.0, omega (arith, h.1, length-append (flatten m u) (flatten_types m us)))

types_alike : (m : Memory) (us : List Ty) → (AnyParting us → ⊥) → Alike (flat_types m us) (some (flatten_types m us))
unfolding at_most
types_alike m us unparted max small = go (counted_or_long m us unparted)
  where
    go :
        (flat_types m us ≡ some (flatten_types m us)) ⊎ ((flat_types m us ≡ none) × (16 < length (flatten_types m us))) →
        at_most max (flat_types m us) ≡ at_most max (some (flatten_types m us))
    go (inl h) = rw h
    go (inr h) = rw (h.0, lt-leb (length (flatten_types m us)) max (omega (arith, h.1)))

-- "Add the standard's function flattening", "proved once over memory and side"
pub functype_standard :
    (c : Context) (s : Side) (callback : Bool) (ps rs : List Ty) → (AnyParting ps → ⊥) → (AnyParting rs → ⊥) →
    functype_of c s callback (flat_types s.memory ps) (flat_types s.memory rs) ≡ flatten_functype s.memory c s.async callback ps rs
functype_standard c s callback ps rs first second =
    functype_alike c s callback _ _ _ _ (types_alike s.memory ps first) (types_alike s.memory rs second)
    ∙ functype_lists s.memory c s.async callback (flatten_types s.memory ps) (flatten_types s.memory rs)

-- 01: "at most 17", a pointer behind sixteen parameters; and one result
pub functype_short :
    (c : Context) (s : Side) (callback : Bool) (o q : Option (List Core)) →
    (length (functype_of c s callback o q).params ≤ 17) × (length (functype_of c s callback o q).results ≤ 1)
unfolding functype_of
functype_short lift s callback o q = (omega (arith, or_pointer_short s.memory 16 16 o (omega arith) (omega arith)), go s.async callback)
  where
    go : (async b : Bool) → length (cond async (cond b status []) (or_pointer s.memory (at_most 1 q))) ≤ 1
    go true true = omega arith
    go true false = omega arith
    go false b = or_pointer_short s.memory 1 1 q (omega arith) (omega arith)
functype_short lower s callback o q = (
  omega (arith, length-append (passed lower s o) (pointer_to s.memory (at_most (lowering_max s.async) q)), or_pointer_short s.memory (params_max s.async) 16 o (maximum_small s.async 4 16 (omega arith) (omega arith)) (omega arith), one (at_most (lowering_max s.async) q)),
  go s.async,
)
  where
    one : (f : Flattened) → length (pointer_to s.memory f) ≤ 1
    one (listed l) = omega arith
    one in_memory = omega arith

    go : (async : Bool) → length (cond async status (list_or_none (at_most 1 q))) ≤ 1
    go true = omega arith
    go false = kept_short list_or_none 1 1 q (λ l. refl) (omega arith) (omega arith)

-- "An async lower whose result flattens to nothing gets no pointer here, unlike 01's async return": of a result list that is not empty
pub nothing_returned :
    (lifting lowering : Side) (callback : Bool) (o q : Option (List Core)) → lowering.async ≡ true →
    ((functype_of lower lowering callback o (some [])).params ≡ passed lower lowering o)
    × ((return_of lifting q lowering (some []) false).params ≡ or_pointer lifting.memory (at_most (lifting_max lifting.async) q) ++ ptr_type lifting.memory ∷ [])
unfolding functype_of return_of returned behind_pointer at_most
nothing_returned lifting lowering callback o q e = (rw e (append-nil (or_pointer lowering.memory (at_most 4 o))), rw e)
