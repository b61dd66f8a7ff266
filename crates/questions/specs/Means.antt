-- What this crate's answers stand for: 01's values; of refusals table/Means says it.
use Rattle.std.specs.Prelude.{ℕ, Result, Ok, Err}
use Rattle.canon.specs.Answer.{Answer}
use Rattle.canon.specs.Layout.{Layout}
use Rattle.canon.specs.Row.{Info}
use Rattle.types.specs.Means.{layout_means, abi_means}
use Rattle.flat_types.specs.Lists.{words}
use Rattle.table.specs.Means.{answer, member_place}
use Rattle.table.specs.declared.info.MemberPosition.{MemberPosition}
use Rattle.table.specs.declared.refused.Refused.{Refused}
use Rattle.questions.specs.Gathers.{Together, Two}
use Rattle.questions.specs.declared.answer.TypeInfo.{TypeInfo}
use Rattle.questions.specs.declared.answer.Whole.{Whole}
use Rattle.questions.specs.declared.list.Gathering.{Gathering}
use Rattle.questions.specs.declared.member.Member.{Member}

abbrev pub type_info_means : TypeInfo → Info
type_info_means i = record { abi = abi_means i.abi; flat_words = record { in32 = i.flat32; in64 = i.flat64 }; reach = record { borrow = i.borrow; depth = i.depth } }

abbrev pub whole_means : Whole → Layout
whole_means w = layout_means w.layout

-- 02, order 10: "and the gap after the last"
abbrev pub after_means : Result Whole (Refused MemberPosition) → Answer ℕ
after_means r = answer member_place (λ (w : Whole). w.after) r

-- 02, order 6: "Placement reports likewise"; "A refused call reports 0"
abbrev pub whole_reads : Result Whole (Refused MemberPosition) → ℕ
whole_reads (Ok w) = w.reads
whole_reads (Err e) = 0

abbrev pub gathering_means : Gathering → Together
gathering_means g = record { flat = words g.flat; borrow = g.borrow }

abbrev pub two_means : Gathering × Gathering → Two
two_means (g, h) = record { first = gathering_means g; second = gathering_means h }

-- what is read of one reference for a placement
abbrev pub member_means : Member → Layout
member_means m = layout_means m.layout
