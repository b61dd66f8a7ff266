-- What this crate's values stand for.
use Rattle.std.specs.Prelude.{◌≡◌, ℕ, Option, Some, None, Result, Ok, Err}
use Rattle.std.proofs.Math.Option as math
use Rattle.std.proofs.Math.Option.{none, some}
use Rattle.canon.specs.Answer.{Leaf, Answer, ok, refused}
use Rattle.canon.specs.Layout.{Both}
use Rattle.canon.specs.Pack.{Packed}
use Rattle.canon.specs.Row as row
use Rattle.types.specs.Means.{leaf, each, layout_means, layouts_means}
use Rattle.types.specs.declared.refusal.Refusal.{Refusal}
use Rattle.flat_types.specs.Lists.{both_words}
use Rattle.flat_types.specs.declared.both.FlatTypes.{FlatTypes}
use Rattle.table.specs.Means.{answer, definition_place, info_means, reach_means, row_means}
use Rattle.table.specs.declared.info.DefinitionIndex.{DefinitionIndex}
use Rattle.table.specs.declared.info.Info.{Info}
use Rattle.table.specs.declared.refused.Refused.{Refused}
use Rattle.table.specs.declared.row.Inner.{Inner}
use Rattle.build.specs.Steps.{member_look, pair_of, in_each, LimitedIs, MembersIs, PayloadsIs}
use Rattle.build.specs.Kinds.{DefinedIs}
use Rattle.build.specs.declared.Built.{Built}
use Rattle.build.specs.declared.counted.Counted.{Counted}
use Rattle.build.specs.declared.reference.Earlier.{Earlier}
use Rattle.build.specs.declared.row.Limited.{Limited}
use Rattle.build.specs.declared.members.Members.{Members}
use Rattle.build.specs.declared.cases.Payloads.{Payloads}
use Rattle.build.specs.declared.define.DefinedRow.{DefinedRow}

-- 01: "It answers the count" .. "or the number with the definition's index"
abbrev pub built_means : Result Built (Refused DefinitionIndex) → Answer ℕ
built_means = answer definition_place (λ b. b.rows)

-- 02, order 6: "how many rows it read back"; "A refused call reports 0"
abbrev pub built_reads : Result Built (Refused DefinitionIndex) → ℕ
built_reads (Ok b) = b.reads
built_reads (Err e) = 0

-- how many definitions a build accepted: its count, or the index of its refusal
abbrev pub accepted : Answer ℕ → ℕ
accepted (ok n) = n
accepted (refused x i) = i

-- what was made, whatever was read back for it
abbrev pub value_of : {A : Type 0} → Result (Counted A) Refusal → Result A Refusal
value_of (Ok c) = Ok c.value
value_of (Err x) = Err x

abbrev pub counted : {A B : Type 0} → (A → B) → Result (Counted A) Refusal → Leaf B
counted f r = leaf f (value_of r)

-- for what was not refused, so many rows were read back
abbrev pub ReadBack : {A : Type 0} → Result (Counted A) Refusal → ℕ → Type 0
ReadBack (Ok c) n = c.reads ≡ n
ReadBack (Err x) n = Unit {0}

-- what a reference gives, over the rows before a definition
abbrev pub look_in : Earlier → ℕ → Leaf row.Info
look_in e = member_look e.table.now e.index.0

abbrev pub payload_means : Option Info → math.Option row.Info
payload_means None = none
payload_means (Some i) = some (info_means i)

abbrev pub limited_means : Limited → LimitedIs
limited_means l = record { layouts = layouts_means l.layouts; reach = reach_means l.reach }

abbrev pub flat_means : FlatTypes → Both Packed
flat_means f = in_each (both_words f)

abbrev pub inner_means : Inner → Both row.Inner
inner_means n =
    pair_of (record { disc = n.discriminant; offset = n.offset32; entry = layout_means n.entries.in32 })
    (record { disc = n.discriminant; offset = n.offset64; entry = layout_means n.entries.in64 })

abbrev pub members_means : Members → MembersIs
members_means s = record { extents = each s.extents; flat = both_words s.flat; reach = reach_means s.reach }

abbrev pub payloads_means : Payloads → PayloadsIs
payloads_means s =
    record { layouts = layouts_means s.layouts; flat = both_words s.flat; reach = reach_means s.reach }

abbrev pub defined_means : DefinedRow → DefinedIs
defined_means d = record { row = row_means d.row; next = d.next }
