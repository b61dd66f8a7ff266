-- The state so far, with the cases that are left, is that of them all.
use Rattle.std.proofs.Common.{◌≡◌, ◌-◌, ◌*◌}
use Rattle.types.specs.States.{cases_means, no_cases, add_cases}
use Rattle.host.specs.Infos.{case_at, several, lent_cases}
use Rattle.host.proofs.variants.cases_of.Given as goal

abbrev pub invariant-loop-j : goal.invariant-loop-j
invariant-loop-j g l =
    add_cases (cases_means l.state) (several (λ i. case_at (g.W.Lent.words l.words) (6 * i)) l.j (l.j-end - l.j))
    ≡ add_cases no_cases (lent_cases (g.W.Lent.words l.words))
