-- The measure is the length of the table, which the call of itself cuts.
use lib.ListN.{length}
use Rattle.host.proofs.table_bytes.+lampughjata_placement_bytes.Given as goal

abbrev pub decreases-lampughjata_placement_bytes : goal.decreases-lampughjata_placement_bytes
decreases-lampughjata_placement_bytes l = length l.table.now
