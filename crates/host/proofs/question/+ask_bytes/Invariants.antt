-- The measure is the length of the table, which the call of itself cuts.
use lib.ListN.{length}
use Rattle.host.proofs.question.+ask_bytes.Given as goal

abbrev pub decreases-ask_bytes : goal.decreases-ask_bytes
decreases-ask_bytes l = length l.table.now
