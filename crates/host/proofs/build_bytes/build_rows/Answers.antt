-- The rows that the local build wrote are those of a build in the lent table, and as many as it accepted.
use mathlib.Core.Path.{ap, ap₂, ◌∙◌}
use mathlib.Core.List.{List}
use Prim.Native.Nat.{ℕ}
use Rattle.build.specs.Means.{accepted}
use Rattle.words.specs.Words.{whole_words, put_words}
use Rattle.host.specs.Local.{with_rows}
use Rattle.host.specs.Numbers.{build_number}
use Rattle.host.proofs.Builds.{local_answer, local_reads, local_rows}
use Rattle.host.proofs.build_bytes.build_rows.Goals as goal

pub returns : goal.returns
returns c =
    let ws = c.args.words.now in
    let t = c.args.table.now in
    let b = c.args.bytes.now in
    let local = c.build-built in
    let rows = c.accepted in record {
      value = c.built_number.ensures
          ∙ ap₂ build_number (local.ensures.0 ∙ local_answer ws t b c.requires.0 c.requires.1) (local.ensures.2 ∙ local_reads ws t b c.requires.0 c.requires.1);
      bytes_after = c.give_rows.ensures
          ∙ ap (λ (v : List ℕ). put_words 0 v b)
          (ap₂ (λ (u : List ℕ) (n : ℕ). with_rows u n (whole_words b)) local.ensures.1 (rows.ensures ∙ ap accepted local.ensures.0)
          ∙ local_rows ws t b c.requires.0 c.requires.1);
    }
