-- These infos have been read, and what was gathered is what they give together (`goes_on`, `with_more_lem`).
use Rattle.std.proofs.Common.{rules, ◌≡◌, refl, sym, ap, ◌∙◌, [], ◌∷◌, ◌++◌, ◌+◌, get_or}
use mathlib.Core.Path.{ap₂}
use Rattle.std.specs.Prelude.{Result, Ok, Err}
use Rattle.canon.specs.Answer.{ok, then}
use Rattle.canon.specs.Pack.{pack}
use Rattle.canon.specs.Question.{read, any_borrow}
use Rattle.canon.specs.Signature.{flat_all}
use Rattle.types.specs.Means.{leaf, memory_of, number_of}
use Rattle.types.specs.declared.refusal.Refusal.{Refusal}
use Rattle.flat_types.specs.Lists.{packed_to}
use Rattle.questions.specs.Means.{gathering_means}
use Rattle.questions.specs.Steps.{alone, with_more}
use Rattle.questions.specs.declared.list.Gathering.{Gathering}
use Rattle.questions.proofs.References.{part_is, begins, goes_on, stops, ends}
use Rattle.questions.proofs.Positions.{infos_from}
use Rattle.questions.proofs.WellFormed.{with_more_lem}
use Rattle.questions.proofs.list.gather_all.Goals as goal

pub loop-k-init : goal.loop-k-init
unfolding packed_to flat_all any_borrow pack
loop-k-init c = ([], begins (read c.args.rows.table.now c.args.rows.n) c.args.references.words.now, refl)

pub returns-in_err-next : goal.returns-in_err-next
unfolding then
returns-in_err-next c =
    let a = c.args in
    let l = c.loop-k in
    let look = read a.rows.table.now a.rows.n in
    let ws = a.references.words.now in
    let e : (x : Refusal) × (c.read_next.result ≡ Err x) × (c.from_residual.result ≡ Err (record { why = x; at = record { 0 = a.first + l.k } })) = search rules in
    let g =
    stops look ws (alone (memory_of a.memory)) l.k l.invariant.0 (number_of e.0) l.invariant.1
    (sym (ap (λ (r : Result Gathering Refusal). leaf gathering_means r) e.1) ∙ c.read_next.ensures) c.loop-k-test.true in
    rw (e.2, infos_from look a.first ws, g)

pub loop-k-preserved : goal.loop-k-preserved
loop-k-preserved c =
    let a = c.args in
    let l = c.loop-k in
    let m = memory_of a.memory in
    let look = read a.rows.table.now a.rows.n in
    let ws = a.references.words.now in
    let done = l.invariant.0 in
    let e : c.read_next.result ≡ Ok c.in_ok-next.next = search rules in
    let r =
    part_is (alone m) (look (get_or ws l.k 0)) (gathering_means c.in_ok-next.next)
    (sym (ap (λ (r : Result Gathering Refusal). leaf gathering_means r) e) ∙ c.read_next.ensures) in (
      done ++ r.0 ∷ [],
      goes_on look ws l.k done r.0 l.invariant.1 r.1 c.loop-k-test.true,
      c.with-all.ensures ∙ ap₂ with_more l.invariant.2 (sym r.2) ∙ with_more_lem m done r.0,
    )

pub returns : goal.returns
unfolding then
returns c =
    let a = c.args in
    let l = c.loop-k in
    let look = read a.rows.table.now a.rows.n in
    let ws = a.references.words.now in
    rw (infos_from look a.first ws, ends look ws l.k l.invariant.0 l.invariant.1 c.loop-k-test.false) (ap ok l.invariant.2)
