-- The row of each kind, over what its references give.
use Rattle.std.specs.Prelude.{List, ℕ, ◌*◌, length, get_or}
use Rattle.std.proofs.Math.Option.{some}
use Rattle.canon.specs.Answer.{Leaf, is, map_option, and_then}
use Rattle.canon.specs.Layout.{Memory, both, within}
use Rattle.canon.specs.Flat.{copies, flags_flat}
use Rattle.canon.specs.Row.{no_inner, Info, row_words, info_layout}
use Rattle.canon.specs.Reach.{no_reach, join_reach, deeper}
use Rattle.canon.specs.Types.{Kind, k_record, k_variant, k_list, k_tuple, k_map, k_flags, k_enum, k_option, k_result, k_fixed}
use Rattle.types.specs.Extents.{start_extent, extent_at, member_of, close_of}
use Rattle.types.specs.Leaves.{discriminant_answer, flags_answer}
use Rattle.types.specs.declared.extent.Step.{Step}
use Rattle.flat_types.specs.Lists.{unpacked, packed, memory_words}
use Rattle.table.specs.Means.{deeper_answer}
use Rattle.head.specs.Heads.{Heading, head_at, between}
use Rattle.build.specs.Steps.{fold_refs, pair_words, fit_row, info_flat, no_members, with_member, members_row, no_payloads, add_payload, with_case, payloads_row}

unfoldable pub list_row : Info → Leaf (List ℕ)
list_row i = and_then (deeper_answer i.reach) (λ r. is (pair_words 3 (both (λ m. no_inner)) r))

unfoldable pub fixed_row : ℕ → Info → Leaf (List ℕ)
fixed_row n i =
    fit_row (both (λ m. extent_at ((info_layout m i).size * n) (info_layout m i).align)) i.reach
    (λ ls. row_words 10 ls (both (λ m. packed (map_option (copies n) (unpacked (memory_words m (info_flat i)))))) (both (λ m. no_inner)))

unfoldable pub flags_row : ℕ → Leaf (List ℕ)
flags_row n =
    and_then (flags_answer n) (λ a. is (row_words 6 a.layouts (both (λ m. packed (some (flags_flat n)))) (both (λ m. no_inner)) (deeper no_reach)))

-- a variant's row, and a result's, by the kind's word
unfoldable pub variant_row : ℕ → (ℕ → Leaf Info) → List ℕ → Leaf (List ℕ)
variant_row kind look ws =
    and_then (discriminant_answer (length ws)) (λ d. and_then (fold_refs (with_case look) ws no_payloads) (payloads_row kind d))

unfoldable pub enum_row : ℕ → Leaf (List ℕ)
enum_row n = and_then (discriminant_answer n) (λ d. payloads_row 7 d no_payloads)

unfoldable pub option_row : Info → Leaf (List ℕ)
option_row i = payloads_row 8 1 (add_payload no_payloads i)

-- a map's value, behind its key
abbrev pub value_step : Memory → Info → Info → Step
value_step m k v = member_of (member_of start_extent (info_layout m k)).extent (info_layout m v)

unfoldable pub entry_row : Info → Info → Leaf (List ℕ)
entry_row k v =
    fit_row (both (λ m. close_of (value_step m k v).extent)) (join_reach k.reach v.reach)
    (λ ls. pair_words 5 (both (λ m. record { disc = 0; offset = (value_step m k v).start; entry = within m ls })))

unfoldable pub map_row : (ℕ → Leaf Info) → ℕ → ℕ → Leaf (List ℕ)
map_row look k v = and_then (look k) (λ a. and_then (look v) (λ b. entry_row a b))

-- the row of a kind with the count n and the references ws; a fixed list's length stands behind them
unfoldable pub row_of_kind : (ℕ → Leaf Info) → Kind → ℕ → List ℕ → ℕ → Leaf (List ℕ)
row_of_kind look k_record n ws behind = and_then (fold_refs (with_member look) ws no_members) (members_row 1)
row_of_kind look k_variant n ws behind = variant_row 2 look ws
row_of_kind look k_list n ws behind = and_then (look (get_or ws 0 0)) list_row
row_of_kind look k_tuple n ws behind = and_then (fold_refs (with_member look) ws no_members) (members_row 4)
row_of_kind look k_map n ws behind = map_row look (get_or ws 0 0) (get_or ws 1 0)
row_of_kind look k_flags n ws behind = flags_row n
row_of_kind look k_enum n ws behind = enum_row n
row_of_kind look k_option n ws behind = and_then (look (get_or ws 0 0)) option_row
row_of_kind look k_result n ws behind = variant_row 9 look ws
row_of_kind look k_fixed n ws behind = and_then (look (get_or ws 0 0)) (fixed_row behind)

abbrev pub kind_row : (ℕ → Leaf Info) → List ℕ → Heading → Leaf (List ℕ)
kind_row look ws h = row_of_kind look h.kind h.count (between ws h.first h.end) (get_or ws h.end 0)

-- a definition's row, and the place of the next definition
pub record DefinedIs : Type 0 where
  pub row : List ℕ
  pub next : ℕ

unfoldable pub defined_at : (ℕ → Leaf Info) → List ℕ → ℕ → Leaf DefinedIs
defined_at look ws at =
    and_then (head_at ws at) (λ h. and_then (kind_row look ws h) (λ r. is (record { row = r; next = h.next })))
