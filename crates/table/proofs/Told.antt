-- What the answer of a build or a question means tells the answer.
use mathlib.Core.Path.{refl, ap}
use Prim.Native.Nat.{ℕ}
use Rattle.std.specs.Prelude.{Ok, Err}
use Rattle.canon.proofs.Tests.{impossible}
use Rattle.types.proofs.Told.{Tells, told, number_told}
use Rattle.table.specs.Means.{answer, definition_place, member_place}

-- its value, where a meaning of values does, or its refusal and the position, where the positions are told apart
pub answer_told : {A B P : Type 0} {place : P → ℕ} {f : A → B} → Tells place → Tells f → Tells (answer place f)
answer_told p t (Ok a) (Ok b) e = ap Ok (t a b (cc))
answer_told p t (Ok a) (Err s) e = impossible (cc)
answer_told p t (Err r) (Ok b) e = impossible (cc)
answer_told p t (Err r) (Err s) e =
    let why = number_told r.why s.why (cc) in
    let at = p r.at s.at (cc) in
    λ i. Err (record { why = why i; at = at i })

pub definition_told : Tells definition_place
definition_told = told definition_place (λ n. record { 0 = n }) (λ i. refl)

pub member_told : Tells member_place
member_told = told member_place (λ n. record { 0 = n }) (λ i. refl)
