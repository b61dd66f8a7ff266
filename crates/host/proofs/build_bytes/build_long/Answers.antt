-- All words are decoded, and as many go back.
use Rattle.std.proofs.Common.{List, ℕ, ◌/◌, length, ap, ap₂, ◌∙◌, arith}
use lib.Seq.{take_all}
use Rattle.canon.specs.Description.{build_answer, table_after}
use Rattle.canon.specs.Cost.{build_reads}
use Rattle.words.specs.Words.{put_words}
use Rattle.words.proofs.Laws.{length_whole}
use Rattle.host.specs.Numbers.{build_number}
use Rattle.host.proofs.Decoded.{front_all}
use Rattle.host.proofs.build_bytes.build_long.Goals as goal

pub returns : goal.returns
returns c =
    let t = c.args.table.now in
    let into = c.build_into in
    let all = front_all c.args.words.now 16384 c.requires.0 c.decoded.ensures in
    let rows = front_all t 16384 c.requires.1 c.decoded-2.ensures in
    let after = into.new.table in record {
      value = into.ensures.value ∙ ap₂ (λ (ws u : List ℕ). build_number (build_answer ws u) (build_reads ws u)) all rows;
      table_after = into.ensures.bytes_after
          ∙ ap (λ (v : List ℕ). put_words 0 v t)
          (take_all (length t / 4) after (omega (arith, into.ensures.table_after.1, ap length rows, length_whole t))
          ∙ into.ensures.table_after.0
          ∙ ap₂ table_after all rows);
    }
