-- On a table that a build wrote, of a description ws into a buffer t₀, the questions answer for the types themselves.
use mathlib.Core.Path.{◌≡◌, ap, ◌∙◌}
use mathlib.Core.Bool.{Bool}
use mathlib.Core.List.{List}
use mathlib.Core.Option.{Option}
use Prim.Native.Nat.{ℕ, ◌≤◌}
use native.Mathlib.Omega.{arith}
use lib.Dec.{eqb}
use lib.ListN.{length}
use borrow.Author.Tests.{le-ltb}
use denote.Ref.{Bor}
use contract.Lifetimes.{Lfts}
use Rattle.std.specs.Prelude as prelude
use Rattle.std.specs.Prelude.{Result}
use Rattle.canon.specs.Answer.{Answer, ok, then}
use Rattle.canon.specs.Layout as layout
use Rattle.canon.specs.Pack.{Packed}
use Rattle.canon.specs.Types.{Ty, Core}
use Rattle.canon.specs.Description.{table_after}
use Rattle.canon.specs.Question.{ask_two, borrow_answer, any_borrow}
use Rattle.canon.specs.Signature.{flat_all, at_most, flatten_answer, Side, lowering_max, lifting_max, Signature, start_of, async_start_answer, return_of, async_return_answer}
use Rattle.canon.specs.Functype as functype
use Rattle.canon.specs.Functype.{functype_of, functype_answer, flatten_functype}
use Rattle.canon.proofs.Questions.{Names, ask_built, ask_two_built, flat_types, flats_typed, borrow_types, borrows_typed}
use Rattle.canon.proofs.Signatures.{maximum_small, AnyParting, functype_standard}
use Rattle.types.specs.Means.{memory_of}
use Rattle.types.specs.declared.memory.Memory.{Memory}
use Rattle.flat_types.specs.declared.list.FlatList.{FlatList}
use Rattle.table.specs.Means.{answer, member_place}
use Rattle.table.specs.declared.info.MemberPosition.{MemberPosition}
use Rattle.table.specs.declared.refused.Refused.{Refused}
use Rattle.signature.specs.Means.{context_means, side_means, flattened_means, signature_means}
use Rattle.signature.specs.Packs.{packed_flat, packed_flattened, PackedSignature, packed_signature, packed_answer}
use Rattle.signature.specs.declared.side.Side as declared
use Rattle.signature.specs.declared.functype.Context.{Context}
use Rattle.signature.specs.declared.signatures.Signature as declared_signature
use Rattle.signature.proofs.flatten.flatten_types.Reads as flatten-types
use Rattle.signature.proofs.flatten.flatten_lowering_types.Reads as flatten-lowering-types
use Rattle.signature.proofs.flatten.flatten_lifting_types.Reads as flatten-lifting-types
use Rattle.signature.proofs.flatten.contains_borrow_resource.Reads as contains-borrow-resource
use Rattle.signature.proofs.functype.flatten_functype.Reads as flatten-functype
use Rattle.signature.proofs.signatures.async_start_signature.Reads as async-start-signature
use Rattle.signature.proofs.signatures.async_return_signature.Reads as async-return-signature

-- One list

module _ (κs : Lfts 2) (t : Bor (List ℕ)) (n : ℕ) (refs : Bor (List ℕ)) (ws t₀ : List ℕ) (us : List Ty)
    (table : t.now ≡ table_after ws t₀) (names : Names ws t₀ n refs.now us)
  where
    flatten_typed :
        (m : layout.Memory) (max : ℕ) (a : Answer (Option Packed)) → max ≤ 16 →
        a ≡ packed_flattened (flatten_answer m max t.now n refs.now) → a ≡ ok (packed_flat (at_most max (flat_types m us)))
    unfolding flatten_answer then
    flatten_typed m max a fits h =
        h
        ∙ rw (table, le-ltb 16 max fits)
        (ap packed_flattened (ask_built (λ is'. ok (at_most max (flat_all m is'))) names) ∙ rw (flats_typed m us))

    pub flattened_of_lem :
        (m : Memory) (max : ℕ) (r : Result (prelude.Option FlatList) (Refused MemberPosition)) → max ≤ 16 →
        flatten-types.Post κs (m, (max, (t, (n, (refs, tt))))) r (m, (max, (t, (n, (refs, tt))))) →
        answer member_place flattened_means r ≡ ok (packed_flat (at_most max (flat_types (memory_of m) us)))
    flattened_of_lem m max r fits h = flatten_typed (memory_of m) max (answer member_place flattened_means r) fits h

    pub lowered_of :
        (s : declared.Side) (r : Result (prelude.Option FlatList) (Refused MemberPosition)) →
        flatten-lowering-types.Post κs (s, (t, (n, (refs, tt)))) r (s, (t, (n, (refs, tt)))) →
        answer member_place flattened_means r ≡ ok (packed_flat (at_most (lowering_max s.async_) (flat_types (memory_of s.memory) us)))
    lowered_of s r h =
        flatten_typed (memory_of s.memory) (lowering_max s.async_) (answer member_place flattened_means r)
        (maximum_small s.async_ 0 1 (omega arith) (omega arith)) h

    pub lifted_of :
        (s : declared.Side) (r : Result (prelude.Option FlatList) (Refused MemberPosition)) →
        flatten-lifting-types.Post κs (s, (t, (n, (refs, tt)))) r (s, (t, (n, (refs, tt)))) →
        answer member_place flattened_means r ≡ ok (packed_flat (at_most (lifting_max s.async_) (flat_types (memory_of s.memory) us)))
    lifted_of s r h =
        flatten_typed (memory_of s.memory) (lifting_max s.async_) (answer member_place flattened_means r)
        (maximum_small s.async_ 16 1 (omega arith) (omega arith)) h

    pub borrow_of_lem :
        (r : Result Bool (Refused MemberPosition)) → contains-borrow-resource.Post κs (t, (n, (refs, tt))) r (t, (n, (refs, tt))) →
        answer member_place (λ b. b) r ≡ ok (borrow_types us)
    unfolding borrow_answer
    borrow_of_lem r h = h ∙ rw table (ask_built (λ is'. ok (any_borrow is')) names ∙ rw (borrows_typed us))

-- Two lists

-- whatever is made of the two flat lists is made of the types' own
two_typed :
    (a b : layout.Memory) (of : Option (List Core) → Option (List Core) → Signature) {t : List ℕ} {n : ℕ} {vs refs ws t₀ : List ℕ} {us us' : List Ty} (x : Answer PackedSignature) →
    t ≡ table_after ws t₀ → Names ws t₀ n vs us → Names ws t₀ n refs us' →
    x ≡ packed_answer (ask_two t n vs refs (λ is' js. ok (of (flat_all a is') (flat_all b js)))) → x ≡ ok (packed_signature (of (flat_types a us) (flat_types b us')))
unfolding then
two_typed a b of {us = us} {us' = us'} x table first second h =
    h
    ∙ rw table
    (ap packed_answer (ask_two_built (λ is' js. ok (of (flat_all a is') (flat_all b js))) first second)
    ∙ rw (flats_typed a us, flats_typed b us'))

-- 01's two signatures, of types

abbrev pub start_types : Side → List Ty → Side → List Ty → Signature
start_types lower us lift us' = start_of lower (flat_types lower.memory us) lift (flat_types lift.memory us')

-- lower's references are as many as its types
abbrev pub return_types : Side → List Ty → Side → List Ty → Bool → Signature
return_types lift us lower us' empty = return_of lift (flat_types lift.memory us) lower (flat_types lower.memory us') empty

module _ (κs : Lfts 3) (t : Bor (List ℕ)) (n : ℕ) (a : declared.Side) (vs : Bor (List ℕ)) (b : declared.Side) (refs : Bor (List ℕ)) (ws t₀ : List ℕ) (us us' : List Ty)
    (table : t.now ≡ table_after ws t₀) (first : Names ws t₀ n vs.now us) (second : Names ws t₀ n refs.now us')
    (r : Result declared_signature.Signature (Refused MemberPosition))
  where
    pub start_of_lem :
        async-start-signature.Post κs (t, (n, (a, (vs, (b, (refs, tt)))))) r (t, (n, (a, (vs, (b, (refs, tt)))))) →
        answer member_place signature_means r ≡ ok (packed_signature (start_types (side_means a) us (side_means b) us'))
    unfolding async_start_answer
    start_of_lem h = two_typed (memory_of a.memory) (memory_of b.memory) (λ o q. start_of (side_means a) o (side_means b) q) _ table first second h

    pub return_of_lem :
        async-return-signature.Post κs (t, (n, (a, (vs, (b, (refs, tt)))))) r (t, (n, (a, (vs, (b, (refs, tt)))))) →
        answer member_place signature_means r ≡ ok (packed_signature (return_types (side_means a) us (side_means b) us' (eqb (length refs.now) 0)))
    unfolding async_return_answer
    return_of_lem h =
        two_typed (memory_of a.memory) (memory_of b.memory) (λ o q. return_of (side_means a) o (side_means b) q (eqb (length refs.now) 0)) _ table first second h

-- Plain calls, of types: both lists in the memory of the call

abbrev pub functype_types : functype.Context → Side → Bool → List Ty → List Ty → Signature
functype_types c s callback us us' = functype_of c s callback (flat_types s.memory us) (flat_types s.memory us')

module _ (κs : Lfts 3) (c : Context) (s : declared.Side) (callback : Bool) (t : Bor (List ℕ)) (n : ℕ) (vs refs : Bor (List ℕ)) (ws t₀ : List ℕ) (us us' : List Ty)
    (table : t.now ≡ table_after ws t₀) (first : Names ws t₀ n vs.now us) (second : Names ws t₀ n refs.now us')
    (r : Result declared_signature.Signature (Refused MemberPosition))
    (promise : flatten-functype.Post κs (c, (s, (callback, (t, (n, (vs, (refs, tt))))))) r (c, (s, (callback, (t, (n, (vs, (refs, tt))))))))
  where
    pub functype_of_lem : answer member_place signature_means r ≡ ok (packed_signature (functype_types (context_means c) (side_means s) callback us us'))
    unfolding functype_answer
    functype_of_lem =
        two_typed (memory_of s.memory) (memory_of s.memory) (functype_of (context_means c) (side_means s) callback) _ table first second promise

    -- where no type has a parting, the answer is the standard's
    pub functype_standard_of :
        (AnyParting us → ⊥) → (AnyParting us' → ⊥) →
        answer member_place signature_means r ≡ ok (packed_signature (flatten_functype (memory_of s.memory) (context_means c) s.async_ callback us us'))
    functype_standard_of unparted unparted' =
        functype_of_lem ∙ rw (functype_standard (context_means c) (side_means s) callback us us' unparted unparted')
