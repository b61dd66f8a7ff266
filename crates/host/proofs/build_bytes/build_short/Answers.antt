-- All words are decoded, and the local table has the lent table's rows, at most 32 of them.
use Rattle.std.proofs.Common.{List, ℕ, replicate, refl, ap, ◌∙◌, arith}
use Rattle.canon.specs.Description.{build_answer, table_after}
use Rattle.canon.specs.Cost.{build_reads}
use Rattle.words.specs.Words.{whole_words, put_words}
use Rattle.words.proofs.Laws.{length_whole}
use Rattle.host.specs.Numbers.{build_number}
use Rattle.host.proofs.Builds.{local_room}
use Rattle.host.proofs.Decoded.{front_all}
use Rattle.host.proofs.build_bytes.build_short.Goals as goal

pub build_rows-requires : goal.build_rows-requires
build_rows-requires c =
    let r = c.local_words-room in
    (rw (front_all c.args.words.now 64 c.requires c.decoded.ensures) (omega (arith, c.requires, length_whole c.args.words.now)), local_room r.result _ (replicate 512 0) r.ensures refl)

pub returns : goal.returns
returns c =
    let t = c.args.table.now in
    let rows = c.build_rows in
    let all = front_all c.args.words.now 64 c.requires c.decoded.ensures in record {
      value = rows.ensures.value ∙ ap (λ (ws : List ℕ). build_number (build_answer ws (whole_words t)) (build_reads ws (whole_words t))) all;
      table_after = rows.ensures.bytes_after ∙ ap (λ (ws : List ℕ). put_words 0 (table_after ws (whole_words t)) t) all;
    }
