-- No second outcome meets a promise, answer and memory: what an answer means tells the answer.
use mathlib.Core.Path.{◌≡◌, refl, sym, ap, ◌∙◌}
use mathlib.Core.Bool.{Bool}
use mathlib.Core.List.{List}
use Prim.Native.Nat.{ℕ}
use denote.Ref.{Bor, MutBor, at_last}
use contract.Lifetimes.{Lfts}
use Rattle.std.specs.Prelude.{Result, Ok, Err}
use Rattle.canon.specs.Answer.{ok, refused}
use Rattle.canon.specs.Layout as canon
use Rattle.canon.proofs.Tests.{impossible}
use Rattle.types.specs.Means.{number_of, layout_means}
use Rattle.types.specs.declared.extent.Layout.{Layout}
use Rattle.types.specs.declared.info.CanonicalAbiInfo.{CanonicalAbiInfo}
use Rattle.types.specs.declared.memory.Memory.{Memory}
use Rattle.types.specs.declared.refusal.Refusal.{Refusal}
use Rattle.types.proofs.Told.{Tells, told, number_told}
use Rattle.types.proofs.Unique.{info_from, info_back}
use Rattle.table.specs.Means.{answer, member_place}
use Rattle.table.specs.declared.info.MemberPosition.{MemberPosition}
use Rattle.table.specs.declared.refused.Refused.{Refused}
use Rattle.table.proofs.Told.{answer_told, member_told}
use Rattle.questions.specs.Means.{type_info_means, whole_means, whole_reads, after_means, gathering_means, two_means}
use Rattle.questions.specs.Gathers.{Together, Two}
use Rattle.questions.specs.declared.answer.TypeInfo.{TypeInfo}
use Rattle.questions.specs.declared.answer.Whole.{Whole}
use Rattle.questions.specs.declared.list.Gathering.{Gathering}
use Rattle.questions.proofs.read.too_many.Reads as too_many
use Rattle.questions.proofs.read.no_table.Reads as no_table
use Rattle.questions.proofs.ask.canonical_abi.Reads as canonical-abi
use Rattle.questions.proofs.member.size_align.Reads as size-align
use Rattle.questions.proofs.list.gather.Reads as gather
use Rattle.questions.proofs.two.gather_two.Reads as gather-two
use Rattle.questions.proofs.placing.placement.Reads as placement

type_info_told : Tells type_info_means
type_info_told =
    told type_info_means
    (λ i. record { abi = info_from i.abi; flat32 = i.flat_words.in32; flat64 = i.flat_words.in64; borrow = i.reach.borrow; depth = i.reach.depth })
    (λ i. ap (λ (a : CanonicalAbiInfo). record i { abi = a }) (info_back i.abi))

layout_told : Tells layout_means
layout_told = told layout_means (λ f. record { size = f.size; align = f.align }) (λ f. refl)

abbrev gathering_of : Together → Gathering
gathering_of g = record { flat = record { count = g.flat.number; types = g.flat.types }; borrow = g.borrow }

gathering_told : Tells gathering_means
gathering_told = told gathering_means gathering_of (λ g. refl)

two_told : Tells two_means
two_told = told two_means (λ (l : Two). (gathering_of l.first, gathering_of l.second)) (λ l. refl)

-- what a placement means, reports and leaves after the last member tells it

refused_told : (e : Refused MemberPosition) (x : Refusal) (p : MemberPosition) → number_of e.why ≡ number_of x → e.at.0 ≡ p.0 → e ≡ record { why = x; at = p }
refused_told e x p f g =
    let why = number_told e.why x f in
    let at = member_told e.at p g in
    λ i. record { why = why i; at = at i }

pub refusal_told :
    (r : Result Whole (Refused MemberPosition)) (x : Refusal) (p : MemberPosition) →
    answer member_place whole_means r ≡ refused (number_of x) p.0 → r ≡ Err (record { why = x; at = p })
refusal_told (Ok w) x p e = impossible (cc)
refusal_told (Err y) x p e = ap Err (refused_told y x p (cc) (cc))

pub whole_told :
    (r : Result Whole (Refused MemberPosition)) (f : canon.Layout) →
    answer member_place whole_means r ≡ ok f → (w : Whole) × (r ≡ Ok w) × (layout_means w.layout ≡ f)
whole_told (Ok w) f e = (w, refl, cc)
whole_told (Err y) f e = impossible (cc)

placement_told :
    (r q : Result Whole (Refused MemberPosition)) →
    answer member_place whole_means r ≡ answer member_place whole_means q → whole_reads r ≡ whole_reads q → after_means r ≡ after_means q → r ≡ q
placement_told (Ok v) (Ok w) e f g =
    let layout = layout_told v.layout w.layout (cc) in
    let after : v.after ≡ w.after = cc in
    λ i. Ok (record { reads = f i; layout = layout i; after = after i })
placement_told (Ok v) (Err y) e f g = impossible (cc)
placement_told (Err x) (Ok w) e f g = impossible (cc)
placement_told (Err x) (Err y) e f g = ap Err (refused_told x y.why y.at (cc) (cc))

pub too_many_one : (κs : Lfts 1) (ws : Bor (List ℕ)) (r q : Bool) → too_many.Post κs (ws, tt) r (ws, tt) → too_many.Post κs (ws, tt) q (ws, tt) → r ≡ q
too_many_one κs ws r q g h = g ∙ sym h

pub no_table_one :
    (κs : Lfts 1) (t : Bor (List ℕ)) (n : ℕ) (r q : Bool) →
    no_table.Post κs (t, (n, tt)) r (t, (n, tt)) → no_table.Post κs (t, (n, tt)) q (t, (n, tt)) → r ≡ q
no_table_one κs t n r q g h = g ∙ sym h

pub canonical_abi_one :
    (κs : Lfts 1) (t : Bor (List ℕ)) (n w : ℕ) (r q : Result TypeInfo (Refused MemberPosition)) →
    canonical-abi.Post κs (t, (n, (w, tt))) r (t, (n, (w, tt))) → canonical-abi.Post κs (t, (n, (w, tt))) q (t, (n, (w, tt))) → r ≡ q
canonical_abi_one κs t n w r q g h = answer_told member_told type_info_told r q (g ∙ sym h)

pub size_align_one :
    (κs : Lfts 1) (m : Memory) (t : Bor (List ℕ)) (n w : ℕ) (r q : Result Layout (Refused MemberPosition)) →
    size-align.Post κs (m, (t, (n, (w, tt)))) r (m, (t, (n, (w, tt)))) → size-align.Post κs (m, (t, (n, (w, tt)))) q (m, (t, (n, (w, tt)))) → r ≡ q
size_align_one κs m t n w r q g h = answer_told member_told layout_told r q (g ∙ sym h)

pub gather_one :
    (κs : Lfts 2) (m : Memory) (t : Bor (List ℕ)) (n : ℕ) (ws : Bor (List ℕ)) (r q : Result Gathering (Refused MemberPosition)) →
    gather.Post κs (m, (t, (n, (ws, tt)))) r (m, (t, (n, (ws, tt)))) → gather.Post κs (m, (t, (n, (ws, tt)))) q (m, (t, (n, (ws, tt)))) → r ≡ q
gather_one κs m t n ws r q g h = answer_told member_told gathering_told r q (g ∙ sym h)

pub gather_two_one :
    (κs : Lfts 3) (t : Bor (List ℕ)) (n : ℕ) (a : Memory) (vs : Bor (List ℕ)) (b : Memory) (ws : Bor (List ℕ)) (r q : Result (Gathering × Gathering) (Refused MemberPosition)) →
    gather-two.Post κs (t, (n, (a, (vs, (b, (ws, tt)))))) r (t, (n, (a, (vs, (b, (ws, tt)))))) →
    gather-two.Post κs (t, (n, (a, (vs, (b, (ws, tt)))))) q (t, (n, (a, (vs, (b, (ws, tt)))))) → r ≡ q
gather_two_one κs t n a vs b ws r q g h = answer_told member_told two_told r q (g ∙ sym h)

pub placement_one :
    (κs : Lfts 4) (m : Memory) (t : Bor (List ℕ)) (n : ℕ) (ws : Bor (List ℕ)) (o g : MutBor (List ℕ)) (r q : Result Whole (Refused MemberPosition)) (l k : List ℕ) (l' k' : List ℕ) →
    placement.Post κs (m, (t, (n, (ws, (o, (g, tt)))))) r (m, (t, (n, (ws, (at_last o l, (at_last g l', tt)))))) →
    placement.Post κs (m, (t, (n, (ws, (o, (g, tt)))))) q (m, (t, (n, (ws, (at_last o k, (at_last g k', tt)))))) → (r ≡ q) × (l ≡ k) × (l' ≡ k')
placement_one κs m t n ws o g r q l k l' k' h i = (
  placement_told r q (h.0 ∙ sym i.0) (h.1.1.0 ∙ sym i.1.1.0) (h.1.1.1.1 ∙ sym i.1.1.1.1),
  h.1.0 ∙ sym i.1.0,
  h.1.1.1.0 ∙ sym i.1.1.1.0,
)
