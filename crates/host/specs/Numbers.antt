-- What a host sees (docs/HOST.md): numbers for memories, sides and flat counts, and one 64-bit number for each answer.
use Rattle.std.specs.Prelude.{Bool, cond, not, List, [], ◌∷◌, ◌++◌, ℕ, ◌+◌, ◌-◌, ◌*◌, ◌^◌, min, leb, ltb, eqb, length, get_or}
use Rattle.std.proofs.Math.Option.{Option, none, some}
use Rattle.canon.specs.Answer.{Leaf, is, no, Answer, ok, refused, then}
use Rattle.canon.specs.Layout.{Memory, mem32, mem64, Layout}
use Rattle.canon.specs.Pack.{Packed}
use Rattle.canon.specs.Row.{Abi, Info, count_word}
use Rattle.canon.specs.Description.{build_answer}
use Rattle.canon.specs.Question.{placement_answer}
use Rattle.canon.specs.Cost.{build_reads, placement_reads}
use Rattle.canon.specs.Gaps.{after_answer}
use Rattle.canon.specs.Signature.{Side}
use Rattle.canon.specs.Functype.{Context, lift, lower}
use Rattle.types.specs.Leaves.{Rounding, Field, VariantAbi}
use Rattle.signature.specs.Packs.{PackedSignature}

-- Numbers that a host passes

-- "A memory is 0 for 32-bit, any other number for 64-bit"
abbrev pub memory_at : ℕ → Memory
memory_at x = cond (eqb x 0) mem32 mem64

-- "Async is 0 for sync, any other number for async"; "A callback is 0 for none, any other number for one"
abbrev pub is_set : ℕ → Bool
is_set x = not (eqb x 0)

abbrev pub side_at : ℕ → ℕ → Side
side_at memory async = record { memory = memory_at memory; async = is_set async }

-- "Lower is 0 for a lift, any other number for a lower"
abbrev pub context_at : ℕ → Context
context_at x = cond (eqb x 0) lift lower

-- of two flat counts: "0 to 254 is the count, 255 and everything above is none"
abbrev pub flat_at : ℕ → Option ℕ
flat_at x = cond (leb x 254) (some x) none

-- of an info, as in word 5 of a row: "0 to 16 is the count, 255 is none, every other number is a bad info"; each bad one stands as 17
abbrev pub info_flat_at : ℕ → Option ℕ
info_flat_at x = cond (eqb x 255) none (some (min x 17))

-- an info: "size32, align32, size64, align64, flat count"
abbrev pub abi_at : ℕ → ℕ → ℕ → ℕ → ℕ → Abi
abi_at size32 align32 size64 align64 flat =
    record {
      layouts = record { in32 = record { size = size32; align = align32 }; in64 = record { size = size64; align = align64 } };
      flats = info_flat_at flat;
    }

-- Answers

-- from bit 56 on "the number, 1 to 9"; "in the low 32 bits the definition's index or the reference's position, 0 for a leaf"
abbrev pub refusal_number : ℕ → ℕ → ℕ
refusal_number x p = 2 ^ 56 * x + p

-- an answer: "the value"
abbrev pub answer_number : {A : Type 0} → (A → ℕ) → Answer A → ℕ
answer_number value (ok a) = value a
answer_number value (refused x p) = refusal_number x p

-- a leaf's refusal has no position: 0
abbrev pub leaf_number : {A : Type 0} → (A → ℕ) → Leaf A → ℕ
leaf_number value (is a) = value a
leaf_number value (no x) = refusal_number x 0

-- Values

abbrev pub itself : ℕ → ℕ
itself n = n

-- the number k of several; any k above is the last one's
unfoldable pub chosen : ℕ → List ℕ → ℕ
chosen k ws = get_or ws (cond (ltb k (length ws)) k (length ws - 1)) 0

-- "k = 0 size32, 1 align32, 2 size64, 3 align64, 4 the flat count"; "none is answered as 255", as in a row
abbrev pub abi_words : Abi → List ℕ
abi_words a =
    a.layouts.in32.size
    ∷ a.layouts.in32.align
    ∷ a.layouts.in64.size
    ∷ a.layouts.in64.align
    ∷ count_word a.flats
    ∷ []

-- "k = 0 to 4 as for `flags`, 5 the bytes of the discriminant, 6 and 7 the payload offsets"
abbrev pub inner_words : VariantAbi → List ℕ
inner_words v = v.disc ∷ v.offsets.in32 ∷ v.offsets.in64 ∷ []

abbrev pub variant_words : VariantAbi → List ℕ
variant_words v = abi_words v.abi ++ inner_words v

-- a rounding: "the value in bits 0 to 31, the bytes skipped in bits 32 to 39"
abbrev pub rounding_number : Rounding → ℕ
rounding_number u = 2 ^ 32 * u.skipped + u.value

-- "k = 0 the offset, 1 the moved end, 2 the bytes skipped"
abbrev pub field_words : Field → List ℕ
field_words f = f.offset ∷ f.end ∷ f.skipped ∷ []

-- "0 or 1"
abbrev pub yes_number : Bool → ℕ
yes_number b = cond b 1 0

-- "k = 0 to 4 as for `flags`, 5 and 6 the flat words, 7 the borrow, 8 the depth"
abbrev pub type_words : Info → List ℕ
type_words i = abi_words i.abi ++ (i.flat_words.in32 ∷ i.flat_words.in64 ∷ yes_number i.reach.borrow ∷ i.reach.depth ∷ [])

-- "the size in bits 0 to 31, the alignment in bits 32 to 39"
abbrev pub layout_number : Layout → ℕ
layout_number f = 2 ^ 32 * f.align + f.size

-- a build: "the count of rows in bits 0 to 31, the rows read back in bits 32 to 55"
abbrev pub build_number : Answer ℕ → ℕ → ℕ
build_number a reads = answer_number (λ n. 2 ^ 32 * reads + n) a

-- what a build of the words ws into a table t answers
abbrev pub build_call : List ℕ → List ℕ → ℕ
build_call ws t = build_number (build_answer ws t) (build_reads ws t)

-- a placement: "the size in bits 0 to 31, the alignment in bits 32 to 35, the gap after the last member in bits 36 to 39, the rows read back in bits 40 to 55"
-- layout and gap are accepted or refused together (canon/proofs/Gaps.placement_padded)
abbrev pub placement_number : Answer Layout → ℕ → Answer ℕ → ℕ
placement_number a reads gap = answer_number itself (then a (λ f. then gap (λ after. ok (2 ^ 40 * reads + 2 ^ 36 * after + layout_number f))))

-- what a placement in the memory m answers, of the references ws to a table t of n rows, into buffers of which the shorter has `room` words
abbrev pub placement_call : Memory → List ℕ → ℕ → List ℕ → ℕ → ℕ
placement_call m t n ws room = placement_number (placement_answer m t n ws room) (placement_reads m t n ws room) (after_answer m t n ws room)

-- a list: "the packed types in bits 0 to 33, two bits each and the first lowest, their count in bits 40 to 47"
abbrev pub list_number : Packed → ℕ
list_number p = 2 ^ 40 * p.number + p.types

-- "memory": "bit 55 alone"
abbrev pub flattened_number : Option Packed → ℕ
flattened_number none = 2 ^ 55
flattened_number (some p) = list_number p

-- the two lists: "k = 0 the parameters, 1 the results"
abbrev pub signature_lists : PackedSignature → List ℕ
signature_lists s = list_number s.params ∷ list_number s.results ∷ []
