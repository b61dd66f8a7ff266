-- The worked examples of document 01 and of order 4, with depths by order 5's rule, as one list under one theorem: words in, the papers' numbers
-- out, through the meaning of descriptions and questions that the promises cite. Theorems beside it: how deep lists may go, in a longer table; rows
-- read back; gaps; plain calls; and the edges.
use mathlib.Core.Path.{◌≡◌, refl}
use mathlib.Core.Bool.{Bool, true, false}
use mathlib.Core.List.{List, [], ◌∷◌, ◌++◌, map}
use Prim.Native.Nat.{ℕ, zero, suc, ◌+◌, ◌-◌}
use lib.ListN.{replicate, set}
use Rattle.canon.specs.Answer.{Answer, ok, refused, at_position, then, unless}
use Rattle.canon.specs.Layout.{Memory, mem32, mem64, Layout, greatest_align, starts, ends, last_end, record_size, greatest_size, payload_offset, variant_size, layout, numbers, round_up}
use Rattle.canon.specs.Flat.{join, join_lists, join_all, concat, copies, flatten, add_flat, max_flat, times_flat, sum_flat, greatest_flat, flat_count}
use Rattle.canon.specs.Reach.{join_reach, deeper, reach_word, word_reach, good_reach, reach, is_too_deep}
use Rattle.canon.specs.Pack.{code, pack, unpack}
use Rattle.canon.specs.Row.{Info, count_word, word, row_of, flat_of, is_alignment, good_layout, good_count, unused_zero, good_abi, is_discriminant, is_good}
use Rattle.canon.specs.Table.{capacity, place, cell, cells_from, row_at, put_from, put_rows}
use Rattle.canon.specs.Description.{reference, mark, case_of, members_of, cases_of, kind_of, type_of, is_too_large, checked, bodied, build_from, build, build_answer, table_after}
use Rattle.canon.specs.Question.{plain_info, read_row, read, infos, no_table, ask, ask_two, type_answer, size_align_answer, any_borrow, borrow_answer, first_over, or_size, refused_at, judged, placed, placing, placement_answer, buffer_after, offsets_after}
use Rattle.canon.specs.Cost.{rows_among, references_from, build_reads, placement_reads}
use Rattle.canon.specs.Gaps.{gaps, gap_after, room_of, padded, padding, gaps_after, after_answer}
use Rattle.canon.specs.Functype.{Context, lift, lower, functype_of, functype_answer, flatten_sync, flatten_async, flatten_functype}
use Rattle.canon.specs.Types.{Ty, Core, I32, I64, F32, F64, scalar, u32, fixed_of}
use Rattle.canon.specs.Signature.{Flattened, listed, in_memory, flat_all, at_most, flatten_answer, lowering_answer, lifting_answer, Side, Signature, or_pointer, start_of, async_start_answer, behind_pointer, returned, return_of, async_return_answer}

-- what is asked of a description's table, most often of its last definition
pub data Query : Type 0 where
  -- size32, align32, size64, align64, flat count (255 for none)
  numbers_of : Query
  -- where the payload stands, for 32 and 64
  payload_of : Query
  -- word 15 of its row; the depth
  depth_of : Query
  flat_list_of : Memory → Query
  -- the offsets of these references, then size and alignment
  places_of : Memory → List ℕ → Query
  -- of a lower side and a lift side, each with its references: the parameters, then the results
  start_of_call : Side → List ℕ → Side → List ℕ → Query
  -- of a lift side and a lower side
  return_of_call : Side → List ℕ → Side → List ℕ → Query

-- an empty table of two rows
abbrev blank : List ℕ
blank = replicate 32 0

abbrev last : ℕ → ℕ
last n = 64 + (n - 1)

abbrev numbers_in : Info → List ℕ
numbers_in i =
    i.abi.layouts.in32.size
    ∷ i.abi.layouts.in32.align
    ∷ i.abi.layouts.in64.size
    ∷ i.abi.layouts.in64.align
    ∷ count_word i.abi.flats
    ∷ []

abbrev codes : Flattened → List ℕ
codes (listed l) = map code l
codes in_memory = []

abbrev both_codes : Signature → List ℕ
both_codes s = map code s.params ++ map code s.results

abbrev question : List ℕ → ℕ → Query → Answer (List ℕ)
question t n numbers_of = then (type_answer t n (last n)) (λ i. ok (numbers_in i))
question t n payload_of = ok (word (row_at t (n - 1)) 9 ∷ word (row_at t (n - 1)) 10 ∷ [])
question t n depth_of = then (type_answer t n (last n)) (λ i. ok (word (row_at t (n - 1)) 15 ∷ i.reach.depth ∷ []))
question t n (flat_list_of m) = then (flatten_answer m 16 t n (last n ∷ [])) (λ f. ok (codes f))
question t n (places_of m ws) = then (placing m t n ws 16) (λ p. ok (p.offsets ++ p.layout.size ∷ p.layout.align ∷ []))
question t n (start_of_call a vs b ws) = then (async_start_answer t n a vs b ws) (λ s. ok (both_codes s))
question t n (return_of_call a vs b ws) = then (async_return_answer t n a vs b ws) (λ s. ok (both_codes s))

-- the build's own refusal, or the question's answer
unfoldable pub asked : List ℕ → Query → Answer (List ℕ)
asked ws q = then (build_answer ws blank) (λ n. question (table_after ws blank) n q)

pub record Example : Type 0 where
  pub words : List ℕ
  pub asks : Query
  pub says : Answer (List ℕ)

abbrev on : List ℕ → Query → Answer (List ℕ) → Example
on ws q a = record { words = ws; asks = q; says = a }

abbrev side : Memory → Side
side m = record { memory = m; async = false }

abbrev async_side : Memory → Side
async_side m = record { memory = m; async = true }

abbrev pub examples : List Example
examples =
    -- P1 empty record
    on (1 ∷ 0 ∷ []) numbers_of (ok (0 ∷ 1 ∷ 0 ∷ 1 ∷ 0 ∷ []))
    -- P2 record(U8, U32)
    ∷ on (1 ∷ 2 ∷ 2 ∷ 6 ∷ []) numbers_of (ok (8 ∷ 4 ∷ 8 ∷ 4 ∷ 2 ∷ []))
    ∷ on (1 ∷ 2 ∷ 2 ∷ 6 ∷ []) (places_of mem32 (2 ∷ 6 ∷ [])) (ok (0 ∷ 4 ∷ 8 ∷ 4 ∷ []))
    ∷ on (1 ∷ 2 ∷ 2 ∷ 6 ∷ []) (places_of mem64 (2 ∷ 6 ∷ [])) (ok (0 ∷ 4 ∷ 8 ∷ 4 ∷ []))
    -- P3 record(U8, String, U8)
    ∷ on (1 ∷ 3 ∷ 2 ∷ 12 ∷ 2 ∷ []) numbers_of (ok (16 ∷ 4 ∷ 32 ∷ 8 ∷ 4 ∷ []))
    ∷ on (1 ∷ 3 ∷ 2 ∷ 12 ∷ 2 ∷ []) (places_of mem32 (2 ∷ 12 ∷ 2 ∷ [])) (ok (0 ∷ 4 ∷ 12 ∷ 16 ∷ 4 ∷ []))
    ∷ on (1 ∷ 3 ∷ 2 ∷ 12 ∷ 2 ∷ []) (places_of mem64 (2 ∷ 12 ∷ 2 ∷ [])) (ok (0 ∷ 8 ∷ 24 ∷ 32 ∷ 8 ∷ []))
    -- P5 option(U8)
    ∷ on (8 ∷ 2 ∷ []) payload_of (ok (1 ∷ 1 ∷ []))
    ∷ on (8 ∷ 2 ∷ []) numbers_of (ok (2 ∷ 1 ∷ 2 ∷ 1 ∷ 2 ∷ []))
    -- P6 result(U64, String)
    ∷ on (9 ∷ 8 ∷ 12 ∷ []) payload_of (ok (8 ∷ 8 ∷ []))
    ∷ on (9 ∷ 8 ∷ 12 ∷ []) numbers_of (ok (16 ∷ 8 ∷ 24 ∷ 8 ∷ 3 ∷ []))
    ∷ on (9 ∷ 8 ∷ 12 ∷ []) (flat_list_of mem32) (ok (0 ∷ 1 ∷ 0 ∷ []))
    ∷ on (9 ∷ 8 ∷ 12 ∷ []) (flat_list_of mem64) (ok (0 ∷ 1 ∷ 1 ∷ []))
    -- P7 variant(Float32, U32), variant(Float32, Float64)
    ∷ on (2 ∷ 2 ∷ 9 ∷ 6 ∷ []) (flat_list_of mem32) (ok (0 ∷ 0 ∷ []))
    ∷ on (2 ∷ 2 ∷ 9 ∷ 6 ∷ []) (flat_list_of mem64) (ok (0 ∷ 0 ∷ []))
    ∷ on (2 ∷ 2 ∷ 9 ∷ 10 ∷ []) (flat_list_of mem32) (ok (0 ∷ 1 ∷ []))
    ∷ on (2 ∷ 2 ∷ 9 ∷ 10 ∷ []) (flat_list_of mem64) (ok (0 ∷ 1 ∷ []))
    -- P8 enums
    ∷ on (7 ∷ 256 ∷ []) numbers_of (ok (1 ∷ 1 ∷ 1 ∷ 1 ∷ 1 ∷ []))
    ∷ on (7 ∷ 257 ∷ []) numbers_of (ok (2 ∷ 2 ∷ 2 ∷ 2 ∷ 1 ∷ []))
    ∷ on (7 ∷ 65536 ∷ []) numbers_of (ok (2 ∷ 2 ∷ 2 ∷ 2 ∷ 1 ∷ []))
    ∷ on (7 ∷ 65537 ∷ []) numbers_of (ok (4 ∷ 4 ∷ 4 ∷ 4 ∷ 1 ∷ []))
    -- P9 flags
    ∷ on (6 ∷ 0 ∷ []) numbers_of (ok (0 ∷ 1 ∷ 0 ∷ 1 ∷ 0 ∷ []))
    ∷ on (6 ∷ 8 ∷ []) numbers_of (ok (1 ∷ 1 ∷ 1 ∷ 1 ∷ 1 ∷ []))
    ∷ on (6 ∷ 9 ∷ []) numbers_of (ok (2 ∷ 2 ∷ 2 ∷ 2 ∷ 1 ∷ []))
    ∷ on (6 ∷ 17 ∷ []) numbers_of (ok (4 ∷ 4 ∷ 4 ∷ 4 ∷ 1 ∷ []))
    -- order 4: one group, two, three and sixteen of them; 513 labels; a record of 512 labels and a U8; 40 labels eight times
    ∷ on (6 ∷ 32 ∷ []) numbers_of (ok (4 ∷ 4 ∷ 4 ∷ 4 ∷ 1 ∷ []))
    ∷ on (6 ∷ 33 ∷ []) numbers_of (ok (8 ∷ 4 ∷ 8 ∷ 4 ∷ 2 ∷ []))
    ∷ on (6 ∷ 64 ∷ []) numbers_of (ok (8 ∷ 4 ∷ 8 ∷ 4 ∷ 2 ∷ []))
    ∷ on (6 ∷ 65 ∷ []) numbers_of (ok (12 ∷ 4 ∷ 12 ∷ 4 ∷ 3 ∷ []))
    ∷ on (6 ∷ 512 ∷ []) numbers_of (ok (64 ∷ 4 ∷ 64 ∷ 4 ∷ 16 ∷ []))
    ∷ on (6 ∷ 513 ∷ []) numbers_of (refused 5 0)
    ∷ on (6 ∷ 512 ∷ 1 ∷ 2 ∷ 64 ∷ 2 ∷ []) numbers_of (ok (68 ∷ 4 ∷ 68 ∷ 4 ∷ 255 ∷ []))
    ∷ on (6 ∷ 40 ∷ 10 ∷ 64 ∷ 8 ∷ []) numbers_of (ok (64 ∷ 4 ∷ 64 ∷ 4 ∷ 16 ∷ []))
    -- P10 U32 fixed at 16, at 17
    ∷ on (10 ∷ 6 ∷ 16 ∷ []) numbers_of (ok (64 ∷ 4 ∷ 64 ∷ 4 ∷ 16 ∷ []))
    ∷ on (10 ∷ 6 ∷ 17 ∷ []) numbers_of (ok (68 ∷ 4 ∷ 68 ∷ 4 ∷ 255 ∷ []))
    -- P11 U16 fixed at 2147483647, at 2147483648; a record of the first and a U8
    ∷ on (10 ∷ 4 ∷ 2147483647 ∷ []) numbers_of (ok (4294967294 ∷ 2 ∷ 4294967294 ∷ 2 ∷ 255 ∷ []))
    ∷ on (10 ∷ 4 ∷ 2147483648 ∷ []) numbers_of (refused 6 0)
    ∷ on (10 ∷ 4 ∷ 2147483647 ∷ 1 ∷ 2 ∷ 64 ∷ 2 ∷ []) numbers_of (refused 6 1)
    -- P12 option of U8 fixed at 4294967294, at 4294967295
    ∷ on (10 ∷ 2 ∷ 4294967294 ∷ 8 ∷ 64 ∷ []) numbers_of (ok (4294967295 ∷ 1 ∷ 4294967295 ∷ 1 ∷ 255 ∷ []))
    ∷ on (10 ∷ 2 ∷ 4294967295 ∷ 8 ∷ 64 ∷ []) numbers_of (refused 6 1)
    -- order 5: an empty record; a list of Borrow, and a record that holds it; a map from U8 to flags; a fixed list of Borrow, of count 0; a result of two marks
    ∷ on (1 ∷ 0 ∷ []) depth_of (ok (2 ∷ 1 ∷ []))
    ∷ on (3 ∷ 14 ∷ []) depth_of (ok (3 ∷ 1 ∷ []))
    ∷ on (3 ∷ 14 ∷ 1 ∷ 2 ∷ 2 ∷ 64 ∷ []) depth_of (ok (5 ∷ 2 ∷ []))
    ∷ on (6 ∷ 8 ∷ 5 ∷ 2 ∷ 64 ∷ []) depth_of (ok (4 ∷ 2 ∷ []))
    ∷ on (10 ∷ 14 ∷ 0 ∷ []) depth_of (ok (3 ∷ 1 ∷ []))
    ∷ on (9 ∷ mark ∷ mark ∷ []) depth_of (ok (2 ∷ 1 ∷ []))
    -- async start, lower async: five U32 give one pointer, four I32 four times
    ∷ on [] (start_of_call (async_side mem64) (6 ∷ 6 ∷ 6 ∷ 6 ∷ 6 ∷ []) (side mem32) []) (ok (1 ∷ []))
    ∷ on [] (start_of_call (async_side mem64) (6 ∷ 6 ∷ 6 ∷ 6 ∷ []) (side mem32) []) (ok (0 ∷ 0 ∷ 0 ∷ 0 ∷ []))
    -- async return, lift sync 64, lower async 32, one U32 each: parameters I32 I64, no results
    ∷ on [] (return_of_call (side mem64) (6 ∷ []) (async_side mem32) (6 ∷ [])) (ok (0 ∷ 1 ∷ []))
    ∷ []

pub examples_hold : map (λ e. asked e.words e.asks) examples ≡ map (λ e. e.says) examples
unfolding
    asked at_position then unless round_up greatest_align starts ends last_end record_size greatest_size payload_offset variant_size layout numbers
    join_lists join_all concat copies flatten add_flat max_flat times_flat sum_flat greatest_flat flat_count join_reach deeper reach_word word_reach good_reach reach pack unpack row_of flat_of is_alignment good_layout
    good_count unused_zero good_abi is_discriminant is_good capacity place cell cells_from put_from put_rows reference case_of members_of cases_of kind_of type_of
    is_too_large is_too_deep checked bodied build_from build build_answer table_after plain_info read_row read infos no_table ask ask_two type_answer first_over or_size refused_at
    judged placed placing flat_all at_most flatten_answer or_pointer start_of async_start_answer behind_pointer returned return_of async_return_answer
examples_hold = refl

-- order 5: lists of lists, of which the first is of U8
abbrev lists : ℕ → List ℕ
lists zero = []
lists (suc zero) = 3 ∷ 2 ∷ []
lists (suc (suc n)) = lists (suc n) ++ 3 ∷ (64 + n) ∷ []

-- what a build answers, in a table of 101 rows, to 100 of them and one definition more
abbrev after100 : List ℕ → Answer ℕ
after100 ws = build_answer (lists 100 ++ ws) (replicate 1616 0)

-- none, an option of U8, a list of the last, one that is too large too, a map with a bad reference behind the last
pub depth_holds :
    map after100 ([] ∷ (8 ∷ 2 ∷ []) ∷ (3 ∷ 163 ∷ []) ∷ (10 ∷ 163 ∷ 4294967295 ∷ []) ∷ (5 ∷ 163 ∷ 18 ∷ []) ∷ [])
    ≡ ok 100 ∷ ok 101 ∷ refused 9 100 ∷ refused 9 100 ∷ refused 4 100 ∷ []
unfolding
    round_up greatest_align greatest_size payload_offset variant_size layout numbers deeper reach capacity reference kind_of type_of is_too_large is_too_deep checked bodied build_from build build_answer
depth_holds = refl

-- Rows read back: the words of 01's program; none; a count of 64; a fixed list of 64 elements, each the first definition; marks beside it in a
-- variant and in a result; a record that has it twice; and what is refused after a row was read
pub reads_hold :
    map (λ (ws : List ℕ). build_reads ws (replicate 64 0))
    ((3 ∷ 2 ∷ 1 ∷ 4 ∷ 4 ∷ 4 ∷ 6 ∷ 64 ∷ 8 ∷ 65 ∷ [])
    ∷ []
    ∷ (6 ∷ 64 ∷ [])
    ∷ (6 ∷ 9 ∷ 10 ∷ 64 ∷ 64 ∷ [])
    ∷ (6 ∷ 9 ∷ 2 ∷ 3 ∷ mark ∷ 64 ∷ mark ∷ 9 ∷ mark ∷ 64 ∷ [])
    ∷ (6 ∷ 9 ∷ 1 ∷ 2 ∷ 64 ∷ 64 ∷ [])
    ∷ (6 ∷ 9 ∷ 8 ∷ 64 ∷ 3 ∷ 18 ∷ [])
    ∷ [])
    ≡ 2 ∷ 0 ∷ 0 ∷ 1 ∷ 2 ∷ 2 ∷ 0 ∷ []
unfolding
    round_up starts ends last_end greatest_align greatest_size payload_offset variant_size record_size layout numbers join_reach deeper reach capacity reference case_of members_of cases_of kind_of type_of is_too_large
    is_too_deep checked bodied build_from build build_answer rows_among references_from build_reads
reads_hold = refl

-- Placements over a table of one byte of flags and of a type of 4294967295 bytes: plain references, the first definition twice, both, one that names
-- no row, and the second definition twice, which is too large
pub placements_hold :
    map (λ (ws : List ℕ). placement_reads mem32 (table_after (6 ∷ 8 ∷ 10 ∷ 2 ∷ 4294967295 ∷ []) (replicate 32 0)) 2 ws 3)
    ((2 ∷ 12 ∷ []) ∷ (64 ∷ 2 ∷ 64 ∷ []) ∷ (65 ∷ []) ∷ (64 ∷ 66 ∷ []) ∷ (65 ∷ 65 ∷ []) ∷ [])
    ≡ 0 ∷ 2 ∷ 1 ∷ 0 ∷ 0 ∷ []
unfolding
    at_position then unless round_up greatest_align starts ends last_end record_size layout numbers copies flatten times_flat flat_count deeper reach_word word_reach good_reach reach pack unpack row_of flat_of is_alignment
    good_layout good_count unused_zero good_abi is_discriminant is_good capacity place cell cells_from put_from put_rows reference kind_of type_of is_too_large is_too_deep checked bodied build_from build table_after
    plain_info read_row read infos no_table ask first_over or_size refused_at judged placed placing placement_answer rows_among placement_reads
placements_hold = refl

-- Gaps before each member, then the one after the last, over a table of a type of no size and alignment 8: record(U8, String, U8) in both memories; that
-- type behind a U8; a U64 and a U8, where the record's alignment decides and not the last member's; and no members
pub gaps_hold :
    map (λ (e : Memory × List ℕ). then (padding e.0 (table_after (10 ∷ 8 ∷ 0 ∷ []) (replicate 16 0)) 1 e.1 3) (λ q. ok (q.before ++ q.after ∷ [])))
    ((mem32, 2 ∷ 12 ∷ 2 ∷ []) ∷ (mem64, 2 ∷ 12 ∷ 2 ∷ []) ∷ (mem32, 2 ∷ 64 ∷ []) ∷ (mem32, 8 ∷ 2 ∷ []) ∷ (mem32, []) ∷ [])
    ≡ ok (0 ∷ 3 ∷ 0 ∷ 3 ∷ []) ∷ ok (0 ∷ 7 ∷ 0 ∷ 7 ∷ []) ∷ ok (0 ∷ 7 ∷ 0 ∷ []) ∷ ok (0 ∷ 0 ∷ 7 ∷ []) ∷ ok (0 ∷ []) ∷ []
unfolding
    at_position then unless round_up greatest_align starts ends last_end record_size layout numbers copies flatten times_flat flat_count deeper reach_word word_reach good_reach reach pack unpack row_of flat_of is_alignment
    good_layout good_count unused_zero good_abi is_discriminant is_good capacity place cell cells_from put_from put_rows reference kind_of type_of is_too_large is_too_deep checked bodied build_from build table_after
    plain_info read_row read infos no_table ask first_over or_size refused_at judged placed gaps gap_after padded padding
gaps_hold = refl

-- Plain calls, over a table of an empty record (64), a fixed list of 17 U32 (65) and a fixed list of no such lists (66): the last two have no flat count

abbrev mixed : List ℕ
mixed = table_after (1 ∷ 0 ∷ 10 ∷ 6 ∷ 17 ∷ 10 ∷ 65 ∷ 0 ∷ []) (replicate 48 0)

abbrev plain_call : Context → Side → Bool → List ℕ → List ℕ → Answer Signature
plain_call c s callback vs ws = functype_answer mixed 3 c s callback vs ws

abbrev signed : List Core → List Core → Answer Signature
signed ps rs = ok (record { params = ps; results = rs })

pub functypes_hold :
    -- (U8, String) to String: a returned pointer, and a pointer parameter; 17 U32 to String: two pointers
    plain_call lift (side mem64) false (2 ∷ 12 ∷ []) (12 ∷ [])
    ∷ plain_call lower (side mem64) false (2 ∷ 12 ∷ []) (12 ∷ [])
    ∷ plain_call lower (side mem32) false (65 ∷ []) (12 ∷ [])
    -- four U32 to U32, and five to nothing, lowered async; five to String, lifted async with a callback and without
    ∷ plain_call lower (async_side mem64) false (6 ∷ 6 ∷ 6 ∷ 6 ∷ []) (6 ∷ [])
    ∷ plain_call lower (async_side mem64) false (6 ∷ 6 ∷ 6 ∷ 6 ∷ 6 ∷ []) []
    ∷ plain_call lift (async_side mem64) true (6 ∷ 6 ∷ 6 ∷ 6 ∷ 6 ∷ []) (12 ∷ [])
    ∷ plain_call lift (async_side mem64) false (6 ∷ 6 ∷ 6 ∷ 6 ∷ 6 ∷ []) (12 ∷ [])
    -- an empty record as result, lowered async: no pointer, but one in async return
    ∷ plain_call lower (async_side mem32) false [] (64 ∷ [])
    ∷ async_return_answer mixed 3 (side mem64) [] (async_side mem32) (64 ∷ [])
    -- a result that is not looked at is tested, and its position counts on
    ∷ plain_call lift (async_side mem32) false (6 ∷ []) (6 ∷ 67 ∷ [])
    ∷ []
    ≡ signed (I32 ∷ I64 ∷ I64 ∷ []) (I64 ∷ [])
    ∷ signed (I32 ∷ I64 ∷ I64 ∷ I64 ∷ []) []
    ∷ signed (I32 ∷ I32 ∷ []) []
    ∷ signed (I32 ∷ I32 ∷ I32 ∷ I32 ∷ I64 ∷ []) (I32 ∷ [])
    ∷ signed (I64 ∷ []) (I32 ∷ [])
    ∷ signed (I32 ∷ I32 ∷ I32 ∷ I32 ∷ I32 ∷ []) (I32 ∷ [])
    ∷ signed (I32 ∷ I32 ∷ I32 ∷ I32 ∷ I32 ∷ []) []
    ∷ signed [] (I32 ∷ [])
    ∷ signed (I64 ∷ []) []
    ∷ refused 4 2
    ∷ []
unfolding
    at_position then unless round_up greatest_align starts ends last_end record_size layout numbers concat copies flatten times_flat sum_flat flat_count join_reach deeper reach_word word_reach good_reach reach pack unpack
    row_of flat_of is_alignment good_layout good_count unused_zero good_abi is_discriminant is_good capacity place cell cells_from put_from put_rows reference members_of kind_of type_of is_too_large is_too_deep checked bodied
    build_from build table_after plain_info read_row read infos no_table ask_two flat_all at_most or_pointer behind_pointer returned return_of async_return_answer functype_of functype_answer
functypes_hold = refl

-- The last of these parts from its flat list, which is empty: what 02 passes through memory, the standard's lines pass as nothing. As a result of an
-- async lower, a sync lift and a sync lower, and as a parameter

abbrev parting : List Ty
parting = fixed_of (fixed_of (scalar u32) 17) 0 ∷ []

pub parting_shown :
    plain_call lower (async_side mem32) false [] (66 ∷ [])
    ∷ plain_call lift (side mem32) false [] (66 ∷ [])
    ∷ plain_call lower (side mem32) false [] (66 ∷ [])
    ∷ plain_call lift (side mem32) false (66 ∷ []) []
    ∷ []
    ≡ signed (I32 ∷ []) (I32 ∷ [])
    ∷ signed [] (I32 ∷ [])
    ∷ signed (I32 ∷ []) []
    ∷ signed (I32 ∷ []) []
    ∷ []
unfolding
    at_position then unless round_up greatest_align starts ends last_end record_size layout numbers concat copies flatten times_flat sum_flat flat_count join_reach deeper reach_word word_reach good_reach reach pack unpack
    row_of flat_of is_alignment good_layout good_count unused_zero good_abi is_discriminant is_good capacity place cell cells_from put_from put_rows reference members_of kind_of type_of is_too_large is_too_deep checked bodied
    build_from build table_after plain_info read_row read infos no_table ask_two flat_all at_most or_pointer functype_of functype_answer
parting_shown = refl

pub parting_standard :
    flatten_functype mem32 lower true false [] parting
    ∷ flatten_functype mem32 lift false false [] parting
    ∷ flatten_functype mem32 lower false false [] parting
    ∷ flatten_functype mem32 lift false false parting []
    ∷ []
    ≡ record { params = []; results = I32 ∷ [] }
    ∷ record { params = []; results = [] }
    ∷ record { params = []; results = [] }
    ∷ record { params = []; results = [] }
    ∷ []
unfolding flatten_sync flatten_async concat flatten copies
parting_standard = refl

-- What 01 and 02 fix at the edges, where no example above looks. Signatures over the table of plain calls: the results of async start in lift's
-- memory; the maxima of both sides, reached and passed; in async return the maxima of lift, and lower's results, one and two; two lists' positions
abbrev sixteen : List ℕ
sixteen = replicate 16 6

pub sides_hold :
    async_start_answer mixed 3 (side mem32) [] (side mem64) (65 ∷ [])
    ∷ async_start_answer mixed 3 (side mem64) sixteen (side mem32) sixteen
    ∷ async_start_answer mixed 3 (side mem64) (6 ∷ sixteen) (side mem32) (6 ∷ sixteen)
    ∷ async_start_answer mixed 3 (side mem64) (6 ∷ 67 ∷ []) (side mem32) (68 ∷ [])
    ∷ async_start_answer mixed 3 (side mem64) (6 ∷ []) (side mem32) (6 ∷ 67 ∷ [])
    ∷ async_return_answer mixed 3 (side mem64) (6 ∷ 6 ∷ []) (side mem32) (6 ∷ 6 ∷ [])
    ∷ async_return_answer mixed 3 (async_side mem64) sixteen (side mem32) (6 ∷ [])
    ∷ async_return_answer mixed 3 (async_side mem64) (6 ∷ sixteen) (async_side mem32) []
    ∷ async_return_answer mixed 3 (side mem64) (6 ∷ 67 ∷ []) (side mem32) (68 ∷ [])
    ∷ async_return_answer mixed 3 (side mem64) (6 ∷ []) (side mem32) (6 ∷ 67 ∷ [])
    ∷ async_return_answer mixed 4 (side mem64) (67 ∷ []) (side mem32) []
    ∷ []
    ≡ signed [] (I64 ∷ [])
    ∷ signed (replicate 16 I32) (replicate 16 I32)
    ∷ signed (I64 ∷ []) (I32 ∷ [])
    ∷ refused 4 1
    ∷ refused 4 2
    ∷ signed (I64 ∷ I64 ∷ []) []
    ∷ signed (replicate 16 I32) (I32 ∷ [])
    ∷ signed (I64 ∷ []) []
    ∷ refused 4 1
    ∷ refused 4 2
    ∷ refused 8 0
    ∷ []
unfolding
    at_position then unless round_up greatest_align starts ends last_end record_size layout numbers concat copies flatten times_flat sum_flat flat_count join_reach deeper reach_word word_reach good_reach reach pack unpack
    row_of flat_of is_alignment good_layout good_count unused_zero good_abi is_discriminant is_good capacity place cell cells_from put_from put_rows reference members_of kind_of type_of is_too_large is_too_deep checked bodied
    build_from build table_after plain_info read_row read infos no_table ask_two flat_all at_most or_pointer start_of async_start_answer behind_pointer returned return_of async_return_answer
sides_hold = refl

-- The position that 6 names: the member that passes, 0 for the size alone; and 7 for the shorter buffer
abbrev edges : List ℕ
edges = table_after (10 ∷ 2 ∷ 4294967295 ∷ 10 ∷ 4 ∷ 2147483647 ∷ []) (replicate 32 0)

abbrev placed_at : List ℕ → List ℕ → List ℕ → Answer Layout
placed_at ws out gs = placement_answer mem32 edges 2 ws (room_of out gs)

pub positions_hold :
    placed_at (2 ∷ 64 ∷ 2 ∷ []) (0 ∷ 0 ∷ 0 ∷ []) (0 ∷ 0 ∷ 0 ∷ [])
    ∷ placed_at (65 ∷ 2 ∷ []) (0 ∷ 0 ∷ []) (0 ∷ 0 ∷ [])
    ∷ placed_at (2 ∷ 2 ∷ []) (0 ∷ 0 ∷ []) (0 ∷ [])
    ∷ placed_at (2 ∷ 2 ∷ []) (0 ∷ []) (0 ∷ 0 ∷ [])
    ∷ []
    ≡ refused 6 1 ∷ refused 6 0 ∷ refused 7 0 ∷ refused 7 0 ∷ []
unfolding
    at_position then unless round_up greatest_align starts ends last_end record_size layout numbers copies flatten times_flat flat_count deeper reach_word word_reach good_reach reach pack unpack row_of flat_of is_alignment
    good_layout good_count unused_zero good_abi is_discriminant is_good capacity place cell cells_from put_from put_rows reference kind_of type_of is_too_large is_too_deep checked bodied build_from build table_after
    plain_info read_row read infos no_table ask first_over or_size refused_at judged placed placing placement_answer
positions_hold = refl

-- The good form, of record(U8, String): with one word changed it is good, or it is not; and with no flat count
abbrev a_row : ℕ → ℕ → List ℕ
a_row k w = set (1 ∷ 12 ∷ 4 ∷ 24 ∷ 8 ∷ 3 ∷ 0 ∷ 20 ∷ 0 ∷ 0 ∷ 0 ∷ 0 ∷ 0 ∷ 0 ∷ 0 ∷ 2 ∷ []) k w

abbrev changed : List (ℕ × ℕ) → List Bool
changed es = map (λ (e : ℕ × ℕ). is_good (a_row e.0 e.1)) es

pub rows_hold :
    (changed ((0, 10) ∷ (2, 1) ∷ (2, 2) ∷ (4, 4) ∷ (4, 8) ∷ (5, 16) ∷ (6, 63) ∷ (7, 63) ∷ (8, 1) ∷ (8, 2) ∷ (8, 4) ∷ (9, 3) ∷ (11, 3) ∷ (14, 3) ∷ (15, 201) ∷ []) ≡ replicate 15 true)
    × (changed
    ((0, 0) ∷ (0, 11) ∷ (1, 14) ∷ (2, 0) ∷ (2, 3) ∷ (2, 12) ∷ (3, 28) ∷ (4, 6) ∷ (5, 2) ∷ (5, 17) ∷ (5, 254) ∷ (5, 255) ∷ (6, 64) ∷ (7, 64) ∷ (8, 3) ∷ (8, 5) ∷ (15, 1) ∷ (15, 202) ∷ [])
    ≡ replicate 18 false)
    × (is_good (set (a_row 5 255) 7 0) ≡ true)
unfolding good_reach is_alignment good_layout good_count unused_zero good_abi is_discriminant is_good
rows_hold = (refl, refl, refl)

-- TooLong comes first: of a description, and of either of two lists, before too many rows; 16,384 words are not too long
abbrev long : ℕ → List ℕ
long n = replicate n 67

pub long_hold :
    (build_answer (long 16385) [] ∷ build_answer (long 16384) [] ∷ [] ≡ refused 1 0 ∷ refused 7 0 ∷ [])
    × (borrow_answer [] 1 (long 16385) ∷ borrow_answer [] 1 (long 16384) ∷ [] ≡ refused 1 0 ∷ refused 8 0 ∷ [])
    × (functype_answer [] 1 lift (side mem32) false (long 16385) [] ∷ functype_answer [] 1 lift (side mem32) false [] (long 16385) ∷ [] ≡ refused 1 0 ∷ refused 1 0 ∷ [])
unfolding unless capacity build_from build build_answer no_table ask ask_two borrow_answer functype_answer
long_hold = (refl, refl, refl)

-- Words 0 to 17: size32, align32, size64, align64, flat count, the flat types for 32 and 64, and 1 for a Borrow; the next word and the mark are bad references
abbrev plain_words : ℕ → Answer (List ℕ)
plain_words w = then (type_answer [] 0 w) (λ i. ok (numbers_in i ++ i.flat_words.in32 ∷ i.flat_words.in64 ∷ reach_word i.reach ∷ []))

abbrev one : ℕ → ℕ → ℕ → Answer (List ℕ)
one size flat borrow = ok (size ∷ size ∷ size ∷ size ∷ 1 ∷ flat ∷ flat ∷ borrow ∷ [])

pub plain_hold :
    map plain_words (0 ∷ 1 ∷ 2 ∷ 3 ∷ 4 ∷ 5 ∷ 6 ∷ 7 ∷ 8 ∷ 9 ∷ 10 ∷ 11 ∷ 12 ∷ 13 ∷ 14 ∷ 15 ∷ 16 ∷ 17 ∷ 18 ∷ mark ∷ [])
    ≡ one 1 0 0 ∷ one 1 0 0 ∷ one 1 0 0 ∷ one 2 0 0 ∷ one 2 0 0 ∷ one 4 0 0 ∷ one 4 0 0 ∷ one 8 1 0 ∷ one 8 1 0 ∷ one 4 2 0 ∷ one 8 3 0 ∷ one 4 0 0
    ∷ ok (8 ∷ 4 ∷ 16 ∷ 8 ∷ 2 ∷ 0 ∷ 5 ∷ 0 ∷ [])
    ∷ one 4 0 0 ∷ one 4 0 1 ∷ one 4 0 0 ∷ one 4 0 0 ∷ one 4 0 0 ∷ refused 4 0 ∷ refused 4 0 ∷ []
unfolding at_position then unless layout flatten flat_count reach pack reach_word capacity plain_info read no_table type_answer
plain_hold = refl

-- "equal types stay, I32 with F32 gives I32, all other pairs I64"
abbrev cores : List Core
cores = I32 ∷ I64 ∷ F32 ∷ F64 ∷ []

pub joins_hold :
    map (λ a. map (λ b. join a b) cores) cores
    ≡ (I32 ∷ I64 ∷ I32 ∷ I64 ∷ [])
    ∷ (I64 ∷ I64 ∷ I64 ∷ I64 ∷ [])
    ∷ (I32 ∷ I64 ∷ F32 ∷ I64 ∷ [])
    ∷ (I64 ∷ I64 ∷ I64 ∷ F64 ∷ [])
    ∷ []
joins_hold = refl

-- A row of every kind, in a table of eleven: record(U8, String), variant(String, _), list(Borrow), tuple(Float32, U64), map(U8, String), 40 flags, 257 cases,
-- option(String), result(_, Borrow), three Strings, and a row that keeps its words
abbrev every_kind : List ℕ
every_kind =
    1 ∷ 2 ∷ 2 ∷ 12 ∷ 2 ∷ 2 ∷ 12 ∷ mark ∷ 3 ∷ 14 ∷ 4 ∷ 2 ∷ 9 ∷ 8 ∷ 5 ∷ 2 ∷ 12 ∷ 6 ∷ 40 ∷ 7 ∷ 257 ∷ 8 ∷ 12 ∷ 9 ∷ mark ∷ 14 ∷ 10 ∷ 12 ∷ 3 ∷ []

pub kinds_hold :
    map (row_at (table_after every_kind (replicate 176 7))) (0 ∷ 1 ∷ 2 ∷ 3 ∷ 4 ∷ 5 ∷ 6 ∷ 7 ∷ 8 ∷ 9 ∷ 10 ∷ [])
    ≡ (1 ∷ 12 ∷ 4 ∷ 24 ∷ 8 ∷ 3 ∷ 0 ∷ 20 ∷ 0 ∷ 0 ∷ 0 ∷ 0 ∷ 0 ∷ 0 ∷ 0 ∷ 2 ∷ [])
    ∷ (2 ∷ 12 ∷ 4 ∷ 24 ∷ 8 ∷ 3 ∷ 0 ∷ 20 ∷ 1 ∷ 4 ∷ 8 ∷ 0 ∷ 0 ∷ 0 ∷ 0 ∷ 2 ∷ [])
    ∷ (3 ∷ 8 ∷ 4 ∷ 16 ∷ 8 ∷ 2 ∷ 0 ∷ 5 ∷ 0 ∷ 0 ∷ 0 ∷ 0 ∷ 0 ∷ 0 ∷ 0 ∷ 3 ∷ [])
    ∷ (4 ∷ 16 ∷ 8 ∷ 16 ∷ 8 ∷ 2 ∷ 6 ∷ 6 ∷ 0 ∷ 0 ∷ 0 ∷ 0 ∷ 0 ∷ 0 ∷ 0 ∷ 2 ∷ [])
    ∷ (5 ∷ 8 ∷ 4 ∷ 16 ∷ 8 ∷ 2 ∷ 0 ∷ 5 ∷ 0 ∷ 4 ∷ 8 ∷ 12 ∷ 4 ∷ 24 ∷ 8 ∷ 2 ∷ [])
    ∷ (6 ∷ 8 ∷ 4 ∷ 8 ∷ 4 ∷ 2 ∷ 0 ∷ 0 ∷ 0 ∷ 0 ∷ 0 ∷ 0 ∷ 0 ∷ 0 ∷ 0 ∷ 2 ∷ [])
    ∷ (7 ∷ 2 ∷ 2 ∷ 2 ∷ 2 ∷ 1 ∷ 0 ∷ 0 ∷ 2 ∷ 2 ∷ 2 ∷ 0 ∷ 0 ∷ 0 ∷ 0 ∷ 2 ∷ [])
    ∷ (8 ∷ 12 ∷ 4 ∷ 24 ∷ 8 ∷ 3 ∷ 0 ∷ 20 ∷ 1 ∷ 4 ∷ 8 ∷ 0 ∷ 0 ∷ 0 ∷ 0 ∷ 2 ∷ [])
    ∷ (9 ∷ 8 ∷ 4 ∷ 8 ∷ 4 ∷ 2 ∷ 0 ∷ 0 ∷ 1 ∷ 4 ∷ 4 ∷ 0 ∷ 0 ∷ 0 ∷ 0 ∷ 3 ∷ [])
    ∷ (10 ∷ 24 ∷ 4 ∷ 48 ∷ 8 ∷ 6 ∷ 0 ∷ 1365 ∷ 0 ∷ 0 ∷ 0 ∷ 0 ∷ 0 ∷ 0 ∷ 0 ∷ 2 ∷ [])
    ∷ replicate 16 7
    ∷ []
unfolding
    round_up greatest_align starts ends last_end record_size greatest_size payload_offset variant_size layout numbers join_lists join_all concat copies flatten add_flat max_flat times_flat sum_flat greatest_flat flat_count
    join_reach deeper reach_word reach pack row_of capacity place cell cells_from put_from put_rows reference case_of members_of cases_of kind_of type_of is_too_large is_too_deep checked bodied build_from build table_after
kinds_hold = refl

-- What a build of two rows refuses: kinds 0 and 11; a count, a reference or a number that is missing; no cases; bad references, among them the mark where none may stand and a
-- definition that is not earlier; a list that is too large in memory 64 alone, and a map's entry; a third definition, whatever it is
pub refusals_hold :
    map (λ (ws : List ℕ). build_answer ws (replicate 47 0))
    ((0 ∷ [])
    ∷ (11 ∷ [])
    ∷ (2 ∷ [])
    ∷ (7 ∷ [])
    ∷ (1 ∷ 2 ∷ 2 ∷ [])
    ∷ (5 ∷ 2 ∷ [])
    ∷ (9 ∷ 2 ∷ [])
    ∷ (10 ∷ 2 ∷ [])
    ∷ (2 ∷ 0 ∷ [])
    ∷ (7 ∷ 0 ∷ [])
    ∷ (3 ∷ 18 ∷ [])
    ∷ (3 ∷ 63 ∷ [])
    ∷ (1 ∷ 1 ∷ mark ∷ [])
    ∷ (3 ∷ mark ∷ [])
    ∷ (5 ∷ 2 ∷ mark ∷ [])
    ∷ (8 ∷ mark ∷ [])
    ∷ (10 ∷ mark ∷ 0 ∷ [])
    ∷ (4 ∷ 0 ∷ 2 ∷ 1 ∷ 65 ∷ [])
    ∷ (4 ∷ 0 ∷ 9 ∷ 64 ∷ 65 ∷ [])
    ∷ (10 ∷ 12 ∷ 268435456 ∷ [])
    ∷ (10 ∷ 2 ∷ 4294967295 ∷ 5 ∷ 2 ∷ 64 ∷ [])
    ∷ (4 ∷ 0 ∷ 4 ∷ 0 ∷ 0 ∷ [])
    ∷ [])
    ≡ refused 3 0 ∷ refused 3 0
    ∷ refused 2 0 ∷ refused 2 0 ∷ refused 2 0 ∷ refused 2 0 ∷ refused 2 0 ∷ refused 2 0
    ∷ refused 5 0 ∷ refused 5 0
    ∷ refused 4 0 ∷ refused 4 0 ∷ refused 4 0 ∷ refused 4 0 ∷ refused 4 0 ∷ refused 4 0 ∷ refused 4 0 ∷ refused 4 1 ∷ refused 4 1
    ∷ refused 6 0 ∷ refused 6 1
    ∷ refused 7 2
    ∷ []
unfolding
    round_up starts ends last_end greatest_align greatest_size payload_offset variant_size record_size layout numbers join_reach deeper reach capacity reference case_of members_of cases_of kind_of type_of is_too_large
    is_too_deep checked bodied build_from build build_answer
refusals_hold = refl

-- Questions put to the first two rows of a table of three: record(Borrow, String), and what is no row. In turn: size and alignment, with a bad row, a bad reference, and too many rows before it; borrows;
-- lowering and lifting, sync and async, and flattening, where 5 comes before a bad reference and after too many rows; offsets and gaps in buffers of three words, and the gap after the last
abbrev lent : List ℕ
lent = table_after (1 ∷ 2 ∷ 14 ∷ 12 ∷ []) (replicate 63 0)

abbrev nines : List ℕ
nines = 9 ∷ 9 ∷ 9 ∷ []

pub questions_hold :
    (size_align_answer mem32 lent 2 64 ∷ size_align_answer mem64 lent 2 64 ∷ size_align_answer mem64 lent 2 65 ∷ size_align_answer mem64 lent 2 66 ∷ size_align_answer mem64 lent 4 67 ∷ []
    ≡ ok (record { size = 12; align = 4 }) ∷ ok (record { size = 24; align = 8 }) ∷ refused 8 0 ∷ refused 4 0 ∷ refused 8 0 ∷ [])
    × (map (borrow_answer lent 2) ([] ∷ (6 ∷ 12 ∷ []) ∷ (6 ∷ 64 ∷ []) ∷ (14 ∷ 6 ∷ []) ∷ (14 ∷ 66 ∷ 65 ∷ []) ∷ (14 ∷ 65 ∷ 66 ∷ []) ∷ [])
    ≡ ok false ∷ ok false ∷ ok true ∷ ok true ∷ refused 4 1 ∷ refused 8 1 ∷ [])
    × (map (lowering_answer (side mem64) lent 2) ((6 ∷ []) ∷ (12 ∷ []) ∷ []) ≡ ok (listed (I32 ∷ [])) ∷ ok in_memory ∷ [])
    × (map (lowering_answer (async_side mem64) lent 2) ([] ∷ (6 ∷ []) ∷ []) ≡ ok (listed []) ∷ ok in_memory ∷ [])
    × (map (lifting_answer (side mem64) lent 2) ((6 ∷ []) ∷ (12 ∷ []) ∷ []) ≡ ok (listed (I32 ∷ [])) ∷ ok in_memory ∷ [])
    × (map (lifting_answer (async_side mem64) lent 2) ((64 ∷ []) ∷ sixteen ∷ (6 ∷ sixteen) ∷ [])
    ≡ ok (listed (I32 ∷ I64 ∷ I64 ∷ [])) ∷ ok (listed (replicate 16 I32)) ∷ ok in_memory ∷ [])
    × (flatten_answer mem32 3 lent 2 (64 ∷ []) ∷ flatten_answer mem32 2 lent 2 (64 ∷ []) ∷ flatten_answer mem32 17 lent 3 (67 ∷ []) ∷ flatten_answer mem32 17 lent 4 (67 ∷ []) ∷ []
    ≡ ok (listed (I32 ∷ I32 ∷ I32 ∷ [])) ∷ ok in_memory ∷ refused 5 0 ∷ refused 8 0 ∷ [])
    × (offsets_after mem32 lent 2 (2 ∷ 12 ∷ []) 3 nines ∷ offsets_after mem64 lent 2 (2 ∷ 12 ∷ []) 3 nines ∷ offsets_after mem32 lent 2 (2 ∷ 66 ∷ []) 3 nines ∷ []
    ≡ (0 ∷ 4 ∷ 9 ∷ []) ∷ (0 ∷ 8 ∷ 9 ∷ []) ∷ nines ∷ [])
    × (gaps_after mem32 lent 2 (2 ∷ 12 ∷ []) 3 nines ∷ gaps_after mem64 lent 2 (2 ∷ 12 ∷ []) 3 nines ∷ gaps_after mem32 lent 2 (2 ∷ 66 ∷ []) 3 nines ∷ []
    ≡ (0 ∷ 3 ∷ 9 ∷ []) ∷ (0 ∷ 7 ∷ 9 ∷ []) ∷ nines ∷ [])
    × (after_answer mem32 lent 2 (12 ∷ 2 ∷ []) 2 ∷ after_answer mem64 lent 2 (12 ∷ 2 ∷ []) 2 ∷ after_answer mem32 lent 2 (2 ∷ 65 ∷ []) 2 ∷ after_answer mem32 lent 2 (2 ∷ 2 ∷ 66 ∷ []) 2 ∷ []
    ≡ ok 3 ∷ ok 7 ∷ refused 8 1 ∷ refused 7 0 ∷ [])
unfolding
    at_position then unless round_up greatest_align starts ends last_end record_size layout numbers concat flatten add_flat sum_flat flat_count join_reach deeper reach_word word_reach good_reach reach pack unpack row_of flat_of
    is_alignment good_layout good_count unused_zero good_abi is_discriminant is_good capacity place cell cells_from put_from put_rows reference members_of kind_of type_of is_too_large is_too_deep checked bodied build_from build
    table_after plain_info read_row read infos no_table ask type_answer size_align_answer any_borrow borrow_answer flat_all at_most flatten_answer first_over or_size refused_at judged placed placing buffer_after offsets_after
    gaps gap_after padded padding after_answer
questions_hold = (refl, refl, refl, refl, refl, refl, refl, refl, refl, refl)
