-- No second outcome meets a promise: what an answer means tells the answer.
use mathlib.Core.Path.{◌≡◌, refl, sym, ◌∙◌}
use mathlib.Core.Bool.{Bool}
use mathlib.Core.List.{List}
use mathlib.Core.Option as math
use mathlib.Core.Option.{none, some}
use Prim.Native.Nat.{ℕ}
use denote.Ref.{Bor}
use contract.Lifetimes.{Lfts}
use Rattle.std.specs.Prelude.{Option, Some, None, Result}
use Rattle.canon.specs.Pack.{Packed}
use Rattle.flat_types.specs.declared.list.FlatList.{FlatList}
use Rattle.types.specs.declared.memory.Memory.{Memory}
use Rattle.types.proofs.Told.{Tells, told}
use Rattle.table.specs.declared.info.MemberPosition.{MemberPosition}
use Rattle.table.specs.declared.refused.Refused.{Refused}
use Rattle.table.proofs.Told.{answer_told, member_told}
use Rattle.signature.specs.Means.{flattened_means, signature_means}
use Rattle.signature.specs.declared.side.Side.{Side}
use Rattle.signature.specs.declared.functype.Context.{Context}
use Rattle.signature.specs.declared.question.SignatureQuestion.{SignatureQuestion}
use Rattle.signature.specs.declared.signatures.Signature.{Signature}
use Rattle.signature.proofs.flatten.flatten_types.Reads as flatten-types
use Rattle.signature.proofs.flatten.flatten_lowering_types.Reads as flatten-lowering-types
use Rattle.signature.proofs.flatten.flatten_lifting_types.Reads as flatten-lifting-types
use Rattle.signature.proofs.flatten.contains_borrow_resource.Reads as contains-borrow-resource
use Rattle.signature.proofs.functype.flatten_functype.Reads as flatten-functype
use Rattle.signature.proofs.question.signature_of.Reads as signature-of
use Rattle.signature.proofs.signatures.async_start_signature.Reads as async-start-signature
use Rattle.signature.proofs.signatures.async_return_signature.Reads as async-return-signature

abbrev Answered : Type 0 → Type 0
Answered A = Result A (Refused MemberPosition)

flattened_of : math.Option Packed → Option FlatList
flattened_of none = None
flattened_of (some p) = Some (record { count = p.number; types = p.types })

flattened_back : (o : Option FlatList) → flattened_of (flattened_means o) ≡ o
unfolding flattened_of
flattened_back (Some f) = refl
flattened_back None = refl

flattened_told : Tells flattened_means
flattened_told = told flattened_means flattened_of flattened_back

signature_told : Tells signature_means
signature_told =
    told signature_means (λ s. record {
      params = record { count = s.params.number; types = s.params.types };
      results = record { count = s.results.number; types = s.results.types };
    }) (λ s. refl)

pub flatten_types_one :
    (κs : Lfts 2) (m : Memory) (max : ℕ) (t : Bor (List ℕ)) (n : ℕ) (ws : Bor (List ℕ)) (r q : Answered (Option FlatList)) →
    flatten-types.Post κs (m, (max, (t, (n, (ws, tt))))) r (m, (max, (t, (n, (ws, tt))))) →
    flatten-types.Post κs (m, (max, (t, (n, (ws, tt))))) q (m, (max, (t, (n, (ws, tt))))) → r ≡ q
flatten_types_one κs m max t n ws r q g h = answer_told member_told flattened_told r q (g ∙ sym h)

pub flatten_lowering_types_one :
    (κs : Lfts 2) (s : Side) (t : Bor (List ℕ)) (n : ℕ) (ws : Bor (List ℕ)) (r q : Answered (Option FlatList)) →
    flatten-lowering-types.Post κs (s, (t, (n, (ws, tt)))) r (s, (t, (n, (ws, tt)))) →
    flatten-lowering-types.Post κs (s, (t, (n, (ws, tt)))) q (s, (t, (n, (ws, tt)))) → r ≡ q
flatten_lowering_types_one κs s t n ws r q g h = answer_told member_told flattened_told r q (g ∙ sym h)

pub flatten_lifting_types_one :
    (κs : Lfts 2) (s : Side) (t : Bor (List ℕ)) (n : ℕ) (ws : Bor (List ℕ)) (r q : Answered (Option FlatList)) →
    flatten-lifting-types.Post κs (s, (t, (n, (ws, tt)))) r (s, (t, (n, (ws, tt)))) →
    flatten-lifting-types.Post κs (s, (t, (n, (ws, tt)))) q (s, (t, (n, (ws, tt)))) → r ≡ q
flatten_lifting_types_one κs s t n ws r q g h = answer_told member_told flattened_told r q (g ∙ sym h)

pub contains_borrow_resource_one :
    (κs : Lfts 2) (t : Bor (List ℕ)) (n : ℕ) (ws : Bor (List ℕ)) (r q : Answered Bool) →
    contains-borrow-resource.Post κs (t, (n, (ws, tt))) r (t, (n, (ws, tt))) →
    contains-borrow-resource.Post κs (t, (n, (ws, tt))) q (t, (n, (ws, tt))) → r ≡ q
contains_borrow_resource_one κs t n ws r q g h = answer_told member_told (λ x y e. e) r q (g ∙ sym h)

pub async_start_signature_one :
    (κs : Lfts 3) (t : Bor (List ℕ)) (n : ℕ) (a : Side) (vs : Bor (List ℕ)) (b : Side) (ws : Bor (List ℕ)) (r q : Answered Signature) →
    async-start-signature.Post κs (t, (n, (a, (vs, (b, (ws, tt)))))) r (t, (n, (a, (vs, (b, (ws, tt)))))) →
    async-start-signature.Post κs (t, (n, (a, (vs, (b, (ws, tt)))))) q (t, (n, (a, (vs, (b, (ws, tt)))))) → r ≡ q
async_start_signature_one κs t n a vs b ws r q g h = answer_told member_told signature_told r q (g ∙ sym h)

pub async_return_signature_one :
    (κs : Lfts 3) (t : Bor (List ℕ)) (n : ℕ) (a : Side) (vs : Bor (List ℕ)) (b : Side) (ws : Bor (List ℕ)) (r q : Answered Signature) →
    async-return-signature.Post κs (t, (n, (a, (vs, (b, (ws, tt)))))) r (t, (n, (a, (vs, (b, (ws, tt)))))) →
    async-return-signature.Post κs (t, (n, (a, (vs, (b, (ws, tt)))))) q (t, (n, (a, (vs, (b, (ws, tt)))))) → r ≡ q
async_return_signature_one κs t n a vs b ws r q g h = answer_told member_told signature_told r q (g ∙ sym h)

pub flatten_functype_one :
    (κs : Lfts 3) (c : Context) (s : Side) (callback : Bool) (t : Bor (List ℕ)) (n : ℕ) (vs ws : Bor (List ℕ)) (r q : Answered Signature) →
    flatten-functype.Post κs (c, (s, (callback, (t, (n, (vs, (ws, tt))))))) r (c, (s, (callback, (t, (n, (vs, (ws, tt))))))) →
    flatten-functype.Post κs (c, (s, (callback, (t, (n, (vs, (ws, tt))))))) q (c, (s, (callback, (t, (n, (vs, (ws, tt))))))) → r ≡ q
flatten_functype_one κs c s callback t n vs ws r q g h = answer_told member_told signature_told r q (g ∙ sym h)

pub signature_of_one :
    (κs : Lfts 3) (x : SignatureQuestion) (t : Bor (List ℕ)) (n : ℕ) (vs ws : Bor (List ℕ)) (r q : Answered Signature) →
    signature-of.Post κs (x, (t, (n, (vs, (ws, tt))))) r (x, (t, (n, (vs, (ws, tt))))) →
    signature-of.Post κs (x, (t, (n, (vs, (ws, tt))))) q (x, (t, (n, (vs, (ws, tt))))) → r ≡ q
signature_of_one κs x t n vs ws r q g h = answer_told member_told signature_told r q (g ∙ sym h)
