-- The decoded front holds the whole words (`printed_words`).
use Rattle.std.proofs.Common.{rules}
use Rattle.listing.proofs.Telling.{printed_words}
use Rattle.listing.proofs.program.print.Goals as goal

pub returns-else-bytes-gt0 : goal.returns-else-bytes-gt0
returns-else-bytes-gt0 c =
    let w = c.words_of-count in
    let e = printed_words _ _ w.new.words w.result (search rules) c.if-bytes-gt-MAX_BYTES.false c.if-bytes-gt0.false w.ensures.0 w.ensures.1 in
    rw (← e) c.describe.ensures
