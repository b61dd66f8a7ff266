-- The state so far, with the infos that are left, is that of them all.
use Rattle.std.proofs.Common.{◌≡◌, ◌-◌, ◌*◌}
use Rattle.types.specs.States.{record_means, no_fields, add_fields}
use Rattle.host.specs.Infos.{info_at, several, lent_infos}
use Rattle.host.proofs.records.fields_of.Given as goal

abbrev pub invariant-loop-j : goal.invariant-loop-j
invariant-loop-j g l =
    add_fields (record_means l.state) (several (λ i. info_at (g.W.Lent.words l.words) (5 * i)) l.j (l.j-end - l.j))
    ≡ add_fields no_fields (lent_infos (g.W.Lent.words l.words))
