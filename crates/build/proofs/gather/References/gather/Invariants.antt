-- What is left of the references, from the state so far, gives the whole, and so do the rows read back.
use Rattle.std.proofs.Common.{◌≡◌, ◌+◌, ◌≤◌, length, drop}
use Rattle.canon.specs.Cost.{rows_among}
use Rattle.build.specs.Steps.{fold_refs}
use Rattle.build.specs.Means.{look_in}
use Rattle.build.proofs.gather.References.gather.Given as goal

abbrev pub invariant-loop-reference : goal.invariant-loop-reference
invariant-loop-reference g l =
    let p = g.P.Parts in
    let next = p.with (look_in l.self.earlier) in
    (l.reference-index ≤ length l.self.words.now)
    × (fold_refs next (drop l.reference-index l.self.words.now) (p.means l.parts) ≡ fold_refs next l.self.words.now (p.means l.fn.start))
    × (l.reads + rows_among (drop l.reference-index l.self.words.now) ≡ rows_among l.self.words.now)
