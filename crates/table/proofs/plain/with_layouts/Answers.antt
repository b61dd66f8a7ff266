-- The reference's layouts, flat words and reach make its info (`plain_is`); past the last there is none.
use native.Mathlib.Omega.{arith}
use Rattle.canon.specs.Types.{plain}
use Rattle.canon.specs.Question.{plain_info}
use Rattle.flat_types.proofs.References.{past}
use Rattle.table.proofs.References.{plain_is}
use Rattle.table.proofs.plain.with_layouts.Goals as goal

pub returns-then-reference-gt-LAST : goal.returns-then-reference-gt-LAST
unfolding plain_info
returns-then-reference-gt-LAST g c = rw (past plain c.args.reference (omega arith))

pub returns : goal.returns
returns g c =
    let small = c.if-reference-gt-LAST.false in
    plain_is _ c.args.reference small (c.requires.laid_out small c.layouts.result c.layouts.ensures) c.plain.ensures c.reach.ensures
