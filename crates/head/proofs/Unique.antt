-- No second outcome meets a promise: a kind's word and a heading are told by what they mean.
use mathlib.Core.Path.{◌≡◌, refl, sym, ap, ◌∙◌}
use mathlib.Core.List.{List}
use Prim.Native.Nat.{ℕ}
use contract.Lifetimes.{Lfts}
use denote.Ref.{Bor}
use Rattle.std.proofs.Common.{Result, Ok, Err}
use Rattle.canon.specs.Answer.{Leaf, is, no}
use Rattle.canon.specs.Types as trees
use Rattle.canon.proofs.Tests.{impossible}
use Rattle.types.specs.declared.refusal.Refusal.{Refusal}
use Rattle.types.proofs.Told.{told, refusal_of, refusal_back}
use Rattle.head.specs.Heads as specs
use Rattle.head.specs.Means.{kind_means, heading_means}
use Rattle.types.specs.Means.{leaf}
use Rattle.head.specs.declared.Kind.{Kind}
use Rattle.head.specs.declared.Kind.TheVariants as kind
use Rattle.head.specs.declared.Heading.{Heading}
use Rattle.head.proofs.kind_word.Reads as kind-word
use Rattle.head.proofs.KindTryFromU32.try_from.Reads as try-from
use Rattle.head.proofs.read_head.Reads as read_head

abbrev kind_back : trees.Kind → Kind
kind_back trees.k_record = kind.Record
kind_back trees.k_variant = kind.Variant
kind_back trees.k_list = kind.List
kind_back trees.k_tuple = kind.Tuple
kind_back trees.k_map = kind.Map
kind_back trees.k_flags = kind.Flags
kind_back trees.k_enum = kind.Enum
kind_back trees.k_option = kind.Option
kind_back trees.k_result = kind.Result
kind_back trees.k_fixed = kind.FixedLengthList

kind_back_lem : (k : Kind) → kind_back (kind_means k) ≡ k
kind_back_lem kind.Record = refl
kind_back_lem kind.Variant = refl
kind_back_lem kind.List = refl
kind_back_lem kind.Tuple = refl
kind_back_lem kind.Map = refl
kind_back_lem kind.Flags = refl
kind_back_lem kind.Enum = refl
kind_back_lem kind.Option = refl
kind_back_lem kind.Result = refl
kind_back_lem kind.FixedLengthList = refl

abbrev back : Leaf specs.Heading → Result Heading Refusal
back (is h) = Ok (record { kind = kind_back h.kind; count = h.count; first = h.first; end = h.end; next = h.next })
back (no x) = Err (refusal_of x)

back_again : (h : Result Heading Refusal) → back (leaf heading_means h) ≡ h
back_again (Ok h) = ap (λ (k : Kind). Ok (record { kind = k; count = h.count; first = h.first; end = h.end; next = h.next })) (kind_back_lem h.kind)
back_again (Err x) = ap Err (refusal_back x)

pub kind_word_one : (k : Kind) (r q : ℕ) → kind-word.Post tt (k, tt) r (k, tt) → kind-word.Post tt (k, tt) q (k, tt) → r ≡ q
kind_word_one k r q g h = g ∙ sym h

pub try_from_one : (word : ℕ) (r q : Result Kind Refusal) → try-from.Post tt (word, tt) r (word, tt) → try-from.Post tt (word, tt) q (word, tt) → r ≡ q
try_from_one word (Ok k) (Ok j) g h =
    let e : kind_means k ≡ kind_means j = cc in
    ap Ok (told kind_means kind_back kind_back_lem k j e)
try_from_one word (Ok k) (Err y) g h = impossible (cc)
try_from_one word (Err x) (Ok j) g h = impossible (cc)
try_from_one word (Err x) (Err y) g h = ap Err (g.1 ∙ sym h.1)

pub read_head_one :
    (κs : Lfts 1) (ws : Bor (List ℕ)) (at : ℕ) (r q : Result Heading Refusal) →
    read_head.Post κs (ws, (at, tt)) r (ws, (at, tt)) →
    read_head.Post κs (ws, (at, tt)) q (ws, (at, tt)) →
    r ≡ q
read_head_one κs ws at r q g h = told (leaf heading_means) back back_again r q (g ∙ sym h)
