-- Each arm has the type's numbers in both memories, and its flat count (`arm_is`).
use native.Mathlib.Omega.{arith}
use Rattle.std.proofs.lemmas.Bool.Decides.{nat_tests}
use Rattle.table.proofs.References.{scalar, pair, arm, arm_is}
use Rattle.table.proofs.plain.abi.Goals as goal

pub returns-in-0-to-2 : goal.returns-in-0-to-2
unfolding arm
returns-in-0-to-2 c = arm_is c.args.reference (scalar 1) c.requires (grind (arith, nat_tests))

pub returns-in-3 : goal.returns-in-3
unfolding arm
returns-in-3 c = arm_is c.args.reference (scalar 2) c.requires (grind (arith, nat_tests))

pub returns-in-7 : goal.returns-in-7
unfolding arm
returns-in-7 c = arm_is c.args.reference (scalar 8) c.requires (grind (arith, nat_tests))

pub returns-in-7-2 : goal.returns-in-7-2
unfolding arm
returns-in-7-2 c = arm_is c.args.reference (scalar 8) c.requires (grind (arith, nat_tests))

pub returns-in-12 : goal.returns-in-12
unfolding arm
returns-in-12 c = arm_is c.args.reference pair c.requires (grind (arith, nat_tests))

pub returns-in_default : goal.returns-in_default
unfolding arm
returns-in_default c = arm_is c.args.reference (scalar 4) c.requires (grind (arith, nat_tests))

pub returns-in_default-2 : goal.returns-in_default-2
unfolding arm
returns-in_default-2 c = arm_is c.args.reference (scalar 4) c.requires (grind (arith, nat_tests))
