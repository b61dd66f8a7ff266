-- Each refusal by its test; a longer table is cut, and the rest of it stays.
use mathlib.Core.Path.{sym, ap, ap₂, ◌∙◌}
use mathlib.Core.List.{List, ◌++◌}
use Prim.Native.Nat.{ℕ}
use native.Mathlib.Omega.{arith}
use lib.ListN.{drop}
use lib.Seq.{length-take-le}
use borrow.Author.Rules.{rules}
use borrow.Author.Tests.{lt-ltb, le-ltb}
use Rattle.canon.specs.Answer.{unless}
use Rattle.host.specs.Bytes.{build_bytes, table_bytes}
use Rattle.host.specs.Numbers.{build_number}
use Rattle.host.proofs.Builds.{whole_build, first_answer, first_reads, first_table}
use Rattle.host.proofs.build_bytes.+lampughjata_build_bytes.Goals as goal

pub returns-then-words-gt-MAX_BYTES : goal.returns-then-words-gt-MAX_BYTES
unfolding build_bytes table_bytes unless
returns-then-words-gt-MAX_BYTES t c =
    let many = c.if-words-gt-MAX_BYTES.true in record {
      value = simp (lt-ltb _ _ many, c.refused.ensures);
      table_after = simp (lt-ltb _ _ many);
    }

pub returns-then-words-gt0 : goal.returns-then-words-gt0
unfolding build_bytes table_bytes unless
returns-then-words-gt0 t c =
    let few = c.if-words-gt-MAX_BYTES.false in
    let cut = c.if-words-gt0.true in record {
      value = simp (le-ltb _ _ few, lt-ltb _ _ cut, c.refused-then-words-gt0.ensures);
      table_after = simp (le-ltb _ _ few, lt-ltb _ _ cut);
    }

pub slice_bounds-lampughjata_build_bytes-end-then-table-gt-TABLE_BYTES : goal.slice_bounds-lampughjata_build_bytes-end-then-table-gt-TABLE_BYTES
slice_bounds-lampughjata_build_bytes-end-then-table-gt-TABLE_BYTES t c = sym (length-take-le 65536 c.args.table.now (omega arith))

pub lampughjata_build_bytes-requires : goal.lampughjata_build_bytes-requires
lampughjata_build_bytes-requires t c = (omega (arith, c.decreases, length-take-le 65536 c.args.table.now (omega arith)), tt)

pub returns-then-table-gt-TABLE_BYTES : goal.returns-then-table-gt-TABLE_BYTES
returns-then-table-gt-TABLE_BYTES t c =
    let w = c.args.words.now in
    let u = c.args.table.now in
    let call = c.lampughjata_build_bytes in record {
      value = call.ensures.value ∙ ap₂ build_number (first_answer w u) (first_reads w u);
      table_after = ap (λ (l : List ℕ). l ++ drop 65536 u) call.ensures.table_after ∙ first_table w u (λ i. search rules);
    }

pub returns-then-words-gt-SHORT_BYTES : goal.returns-then-words-gt-SHORT_BYTES
returns-then-words-gt-SHORT_BYTES t c =
    let done = whole_build c.args.words.now c.args.table.now c.if-words-gt-MAX_BYTES.false c.if-words-gt0.false (c.build_long.ensures.value, c.build_long.ensures.table_after) in
    record { value = done.0; table_after = done.1 }

pub returns : goal.returns
returns t c =
    let done = whole_build c.args.words.now c.args.table.now c.if-words-gt-MAX_BYTES.false c.if-words-gt0.false (c.build_short.ensures.value, c.build_short.ensures.table_after) in
    record { value = done.0; table_after = done.1 }
