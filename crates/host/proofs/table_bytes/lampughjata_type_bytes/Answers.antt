-- The one row that the reference names.
use Rattle.std.proofs.Common.{◌∙◌, arith}
use Rattle.words.specs.Words.{whole_words}
use Rattle.host.proofs.ShortLists.{room_1, type_missing, type_alike}
use Rattle.host.proofs.table_bytes.lampughjata_type_bytes.Goals as goal

pub returns-in_default : goal.returns-in_default
returns-in_default c = rw (type_missing (whole_words c.args.table.now) c.args.rows c.args.reference c.in_default.ensures) c.refused.ensures

pub pick_row-name-requires : goal.pick_row-name-requires
pick_row-name-requires c = rw room_1 (omega arith)

pub returns : goal.returns
returns c =
    let lent = c.in-Some.lent in
    let same = c.in-Some.ensures in
    let pick = c.pick_row-name.ensures in
    rw (← same.0, ← same.1)
    (c.lampughjata_type.ensures ∙ rw (type_alike _ (whole_words lent.table.now) 1 lent.rows (rw pick.keeps.size room_1) lent.there _ c.args.reference pick.upper_bound.1))
