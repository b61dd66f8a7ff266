-- String, or as many bytes as its halvings leave.
use native.Mathlib.Omega.{arith}
use Rattle.table.proofs.References.{string_is, halved_is}
use Rattle.table.proofs.plain.by_shifts.Goals as goal

pub returns-then-reference-eq-STRING : goal.returns-then-reference-eq-STRING
returns-then-reference-eq-STRING c = rw c.layouts.ensures (string_is c.if-reference-eq-STRING.true).0

pub returns : goal.returns
returns c = halved_is c.args.reference c.requires (omega arith)
