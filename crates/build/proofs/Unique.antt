-- No second outcome meets a promise: neither another answer nor another word of the table.
use mathlib.Core.Path.{◌≡◌, refl, sym, ap, ap₂, ◌∙◌}
use mathlib.Core.List.{List}
use Prim.Native.Nat.{ℕ}
use contract.Lifetimes.{Lfts}
use denote.Ref.{Bor, MutBor, at_last}
use Rattle.std.specs.Prelude.{Result, Ok, Err}
use Rattle.canon.specs.Answer.{Answer, ok, refused}
use Rattle.types.proofs.Told.{refusal_of, refusal_back}
use Rattle.types.specs.declared.refusal.Refusal.{Refusal}
use Rattle.table.specs.declared.info.DefinitionIndex.{DefinitionIndex}
use Rattle.table.specs.declared.refused.Refused.{Refused}
use Rattle.build.specs.Means.{built_means, built_reads}
use Rattle.build.specs.declared.Built.{Built}
use Rattle.build.proofs.build.Reads as build
use Rattle.build.proofs.accepted.Reads as accepted

-- what an answer means and reports tells the answer
abbrev back : Answer ℕ → ℕ → Result Built (Refused DefinitionIndex)
back (ok n) reads = Ok (record { rows = n; reads = reads })
back (refused x i) reads = Err (record { why = refusal_of x; at = record { 0 = i } })

back_again : (r : Result Built (Refused DefinitionIndex)) → back (built_means r) (built_reads r) ≡ r
back_again (Ok b) = refl
back_again (Err e) = ap (λ (y : Refusal). Err (record { why = y; at = e.at })) (refusal_back e.why)

pub build_one :
    (κs : Lfts 2) (ws : Bor (List ℕ)) (t : MutBor (List ℕ)) (r q : Result Built (Refused DefinitionIndex)) (l k : List ℕ) →
    build.Post κs (ws, (t, tt)) r (ws, (at_last t l, tt)) →
    build.Post κs (ws, (t, tt)) q (ws, (at_last t k, tt)) →
    (r ≡ q) × (l ≡ k)
build_one κs ws t r q l k g h =
    (sym (back_again r) ∙ ap₂ back (g.0 ∙ sym h.0) (g.2 ∙ sym h.2) ∙ back_again q, g.1 ∙ sym h.1)

pub accepted_one :
    (b : Result Built (Refused DefinitionIndex)) (r q : ℕ) →
    accepted.Post tt (b, tt) r (b, tt) → accepted.Post tt (b, tt) q (b, tt) → r ≡ q
accepted_one b r q g h = g ∙ sym h
