-- The measure is the length of the table, which the call of itself cuts.
use lib.ListN.{length}
use Rattle.host.proofs.build_bytes.+lampughjata_build_bytes.Given as goal

abbrev pub decreases-lampughjata_build_bytes : goal.decreases-lampughjata_build_bytes
decreases-lampughjata_build_bytes l = length l.table.now
