-- The loop's invariant: the rows so far are given (`rows_turn`).
use Rattle.std.proofs.Common.{◌≡◌}
use Rattle.words.specs.Words.{whole_words, put_words}
use Rattle.host.specs.Local.{with_rows}
use Rattle.host.proofs.build_bytes.give_rows.Given as goal

abbrev pub invariant-loop-i : goal.invariant-loop-i
invariant-loop-i l = l.bytes ≡ put_words 0 (with_rows l.table l.i (whole_words l.initial.bytes)) l.initial.bytes
