-- A longer table is cut: its length falls, and no question reads beyond the cut.
use mathlib.Core.Path.{sym, ap, ◌∙◌}
use mathlib.Core.List.{List}
use Prim.Native.Nat.{ℕ}
use native.Mathlib.Omega.{arith}
use lib.ListN.{length-take}
use lib.Seq.{length-take-le}
use Rattle.words.specs.Words.{whole_words}
use Rattle.words.proofs.Laws.{whole_take}
use Rattle.host.specs.Questions.{question_number}
use Rattle.host.proofs.Decoded.{question_cut}
use Rattle.host.proofs.question.+ask_bytes.Goals as goal

pub slice_bounds-ask_bytes-end : goal.slice_bounds-ask_bytes-end
slice_bounds-ask_bytes-end t c = sym (length-take-le 65536 c.args.table.now (omega arith))

pub ask_bytes-requires : goal.ask_bytes-requires
ask_bytes-requires t c = (omega (arith, length-take 65536 c.args.table.now, c.decreases, c.if-table-gt-TABLE_BYTES.true), tt)

pub returns-then-table-gt-TABLE_BYTES : goal.returns-then-table-gt-TABLE_BYTES
returns-then-table-gt-TABLE_BYTES t c =
    let a = c.args in
    c.ask_bytes.ensures
    ∙ ap (λ (u : List ℕ). question_number a.question u a.rows (whole_words a.first.now) (whole_words a.second.now)) (whole_take 16384 a.table.now)
    ∙ question_cut a.question (whole_words a.table.now) a.rows (whole_words a.first.now) (whole_words a.second.now)
