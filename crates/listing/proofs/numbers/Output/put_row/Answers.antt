-- Three texts, one after another, are the row's line.
use Rattle.std.proofs.Common.{arith}
use Rattle.table.specs.Rows.{row_in}
use Rattle.listing.specs.Text.{row_line}
use Rattle.listing.proofs.Rows.{count_read}
use Rattle.listing.proofs.Writing.{texts}
use Rattle.listing.proofs.numbers.Output.put_row.Goals as goal

pub returns : goal.returns
unfolding row_line
returns c =
    let e = count_read (row_in c.args.table.now c.args.index.0) c.row_info.result c.row_info.ensures in
    grind (arith, texts, e)
