-- Arm by arm: what the arm's call gives is the row of the kind, and its references are those of the heading.
use mathlib.Core.Path.{sym, ◌∙◌}
use lib.ListN.{get_or}
use Rattle.std.proofs.lemmas.Result.{err_from_is_err_and}
use Rattle.canon.specs.Cost.{rows_among}
use Rattle.head.specs.Heads.{between}
use Rattle.head.specs.Means.{heading_means}
use Rattle.build.specs.Kinds.{list_row, option_row, fixed_row, row_of_kind}
use Rattle.build.specs.Means.{look_in}
use Rattle.build.proofs.Arms.{members_arm, cases_arm, stopped, reference_count, no_word, one_word, two_words}
use Rattle.build.proofs.Wording.{then_is}
use Rattle.build.proofs.define.kind_row.Goals as goal

pub returns-in-Record-clause-value : goal.returns-in-Record-clause-value
unfolding between
returns-in-Record-clause-value c =
    let a = c.args in
    c.members_row.ensures.value ∙ members_arm (look_in a.earlier) a.heading.count _ (get_or a.words.now a.heading.end 0) a.heading.kind c.in-Record.is

pub returns-in-Record-clause-reads : goal.returns-in-Record-clause-reads
unfolding between
returns-in-Record-clause-reads c =
    c.members_row.ensures.reads

pub returns-in-Variant-clause-value : goal.returns-in-Variant-clause-value
unfolding between
returns-in-Variant-clause-value c =
    let a = c.args in
    c.variant_row.ensures.value ∙ cases_arm (look_in a.earlier) a.heading.count _ (get_or a.words.now a.heading.end 0) a.heading.kind c.in-Variant.is

pub returns-in-Variant-clause-reads : goal.returns-in-Variant-clause-reads
unfolding between
returns-in-Variant-clause-reads c =
    c.variant_row.ensures.reads

pub returns-in-Map-clause-value : goal.returns-in-Map-clause-value
unfolding row_of_kind between
returns-in-Map-clause-value c =
    rw c.in-Map.is c.map_row.ensures.value

pub returns-in-Map-clause-reads : goal.returns-in-Map-clause-reads
unfolding between
returns-in-Map-clause-reads c =
    rw (← (two_words _ (rw c.in-Map.is at (reference_count c.args.words.now (heading_means c.args.heading) c.requires.0)))) c.map_row.ensures.reads

pub returns-in_err-member-in-List-clause-value : goal.returns-in_err-member-in-List-clause-value
unfolding row_of_kind between
returns-in_err-member-in-List-clause-value c =
    let p = err_from_is_err_and c.from_residual.result c.from_residual.ensures.1 in
    rw (p.1, p.2, c.in-List.is) (stopped _ list_row c.in_err-member-in-List.ensures.value)

pub returns-in_ok-member-in-List-clause-value : goal.returns-in_ok-member-in-List-clause-value
unfolding row_of_kind between
returns-in_ok-member-in-List-clause-value c =
    rw c.in-List.is (c.and_then.ensures.made ∙ sym (then_is _ _ list_row (sym c.in_ok-member-in-List.ensures.value)))

pub returns-in_ok-member-in-List-clause-reads : goal.returns-in_ok-member-in-List-clause-reads
unfolding between
returns-in_ok-member-in-List-clause-reads c =
    rw (← (one_word _ (rw c.in-List.is at (reference_count c.args.words.now (heading_means c.args.heading) c.requires.0))), ← c.in_ok-member-in-List.ensures.reads) c.and_then.ensures.reads

pub returns-in_err-member-in-Option-clause-value : goal.returns-in_err-member-in-Option-clause-value
unfolding row_of_kind between
returns-in_err-member-in-Option-clause-value c =
    let p = err_from_is_err_and c.from_residual-in_err-member-in-Option.result c.from_residual-in_err-member-in-Option.ensures.1 in
    rw (p.1, p.2, c.in-Option.is) (stopped _ option_row c.in_err-member-in-Option.ensures.value)

pub returns-in_ok-member-in-Option-clause-value : goal.returns-in_ok-member-in-Option-clause-value
unfolding row_of_kind between
returns-in_ok-member-in-Option-clause-value c =
    rw c.in-Option.is (c.and_then-in-Option.ensures.made ∙ sym (then_is _ _ option_row (sym c.in_ok-member-in-Option.ensures.value)))

pub returns-in_ok-member-in-Option-clause-reads : goal.returns-in_ok-member-in-Option-clause-reads
unfolding between
returns-in_ok-member-in-Option-clause-reads c =
    rw (← (one_word _ (rw c.in-Option.is at (reference_count c.args.words.now (heading_means c.args.heading) c.requires.0))), ← c.in_ok-member-in-Option.ensures.reads) c.and_then-in-Option.ensures.reads

pub returns-in_err-flags_row-in-Flags-clause-value : goal.returns-in_err-flags_row-in-Flags-clause-value
unfolding row_of_kind
returns-in_err-flags_row-in-Flags-clause-value c =
    let p = err_from_is_err_and c.from_residual-in_err-flags_row-in-Flags.result c.from_residual-in_err-flags_row-in-Flags.ensures.1 in
    rw (p.1, p.2, c.in-Flags.is) c.in_err-flags_row-in-Flags.ensures

pub returns-in_ok-flags_row-in-Flags-clause-value : goal.returns-in_ok-flags_row-in-Flags-clause-value
unfolding row_of_kind
returns-in_ok-flags_row-in-Flags-clause-value c =
    rw (c.unread.ensures, c.in-Flags.is) c.in_ok-flags_row-in-Flags.ensures

pub returns-in_ok-flags_row-in-Flags-clause-reads : goal.returns-in_ok-flags_row-in-Flags-clause-reads
unfolding rows_among
returns-in_ok-flags_row-in-Flags-clause-reads c =
    rw (← (no_word _ (rw c.in-Flags.is at (reference_count c.args.words.now (heading_means c.args.heading) c.requires.0))), c.unread.ensures)

pub returns-in_err-enum_row-in-Enum-clause-value : goal.returns-in_err-enum_row-in-Enum-clause-value
unfolding row_of_kind
returns-in_err-enum_row-in-Enum-clause-value c =
    let p = err_from_is_err_and c.from_residual-in_err-enum_row-in-Enum.result c.from_residual-in_err-enum_row-in-Enum.ensures.1 in
    rw (p.1, p.2, c.in-Enum.is) c.in_err-enum_row-in-Enum.ensures

pub returns-in_ok-enum_row-in-Enum-clause-value : goal.returns-in_ok-enum_row-in-Enum-clause-value
unfolding row_of_kind
returns-in_ok-enum_row-in-Enum-clause-value c =
    rw (c.unread-in-Enum.ensures, c.in-Enum.is) c.in_ok-enum_row-in-Enum.ensures

pub returns-in_ok-enum_row-in-Enum-clause-reads : goal.returns-in_ok-enum_row-in-Enum-clause-reads
unfolding rows_among
returns-in_ok-enum_row-in-Enum-clause-reads c =
    rw (← (no_word _ (rw c.in-Enum.is at (reference_count c.args.words.now (heading_means c.args.heading) c.requires.0))), c.unread-in-Enum.ensures)

pub returns-in_err-element-in-FixedLengthList-clause-value : goal.returns-in_err-element-in-FixedLengthList-clause-value
unfolding row_of_kind between
returns-in_err-element-in-FixedLengthList-clause-value c =
    let p = err_from_is_err_and c.from_residual-in_err-element-in-FixedLengthList.result c.from_residual-in_err-element-in-FixedLengthList.ensures.1 in
    rw (p.1, p.2, c.in-FixedLengthList.is) (stopped _ (fixed_row (get_or c.args.words.now c.args.heading.end 0)) c.in_err-element-in-FixedLengthList.ensures.value)

pub returns-in_err-row-in-FixedLengthList-clause-value : goal.returns-in_err-row-in-FixedLengthList-clause-value
unfolding row_of_kind between
returns-in_err-row-in-FixedLengthList-clause-value c =
    let p = err_from_is_err_and c.from_residual-in_err-row-in-FixedLengthList.result c.from_residual-in_err-row-in-FixedLengthList.ensures.1 in
    rw (p.1, p.2, c.in-FixedLengthList.is)
    (c.in_err-row-in-FixedLengthList.ensures ∙ sym (then_is _ _ (fixed_row (get_or c.args.words.now c.args.heading.end 0)) (sym c.in_ok-element-in-FixedLengthList.ensures.value)))

pub returns-in_ok-row-in-FixedLengthList-clause-value : goal.returns-in_ok-row-in-FixedLengthList-clause-value
unfolding row_of_kind between
returns-in_ok-row-in-FixedLengthList-clause-value c =
    rw c.in-FixedLengthList.is
    (c.in_ok-row-in-FixedLengthList.ensures ∙ sym (then_is _ _ (fixed_row (get_or c.args.words.now c.args.heading.end 0)) (sym c.in_ok-element-in-FixedLengthList.ensures.value)))

pub returns-in_ok-row-in-FixedLengthList-clause-reads : goal.returns-in_ok-row-in-FixedLengthList-clause-reads
unfolding between
returns-in_ok-row-in-FixedLengthList-clause-reads c =
    rw (← (one_word _ (rw c.in-FixedLengthList.is at (reference_count c.args.words.now (heading_means c.args.heading) c.requires.0)))) c.in_ok-element-in-FixedLengthList.ensures.reads
