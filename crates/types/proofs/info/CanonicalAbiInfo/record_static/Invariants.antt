-- The state so far, with the infos that are left, closes to the record of them all.
use mathlib.Core.Path.{◌≡◌}
use mathlib.Core.List.{map}
use lib.ListN.{drop}
use Rattle.types.specs.Leaves.{record_answer}
use Rattle.types.specs.Means.{abi_means}
use Rattle.types.specs.States.{record_means, add_fields, close_fields}
use Rattle.types.proofs.info.CanonicalAbiInfo.record_static.Given as goal

abbrev pub invariant-loop-field : goal.invariant-loop-field
invariant-loop-field l =
    close_fields (add_fields (record_means l.state) (map abi_means (drop l.field-index l.fields))) ≡ record_answer (map abi_means l.fields)
