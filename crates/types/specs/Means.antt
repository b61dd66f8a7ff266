-- What the code's values stand for: 01's number for each refusal and 01's values for each answer.
use Rattle.std.proofs.Math.Option as math
use Rattle.std.proofs.Math.Option.{none, some}
use Rattle.std.specs.Prelude.{ℕ, Option, Some, None, Result, Ok, Err}
use Rattle.canon.specs.Answer.{Leaf, is, no, too_long, truncated, bad_kind, bad_ref, bad_count, too_large, no_room, bad_row, too_deep}
use Rattle.canon.specs.Layout as canon
use Rattle.canon.specs.Layout.{mem32, mem64}
use Rattle.canon.specs.Row.{Abi}
use Rattle.types.specs.Leaves.{Rounding, Field, VariantAbi}
use Rattle.types.specs.declared.refusal.Refusal.{Refusal}
use Rattle.types.specs.declared.refusal.Refusal.TheVariants.{TooLong, Truncated, BadKind, BadRef, BadCount, TooLarge, NoRoom, BadRow, TooDeep}
use Rattle.types.specs.declared.round.Rounded.{Rounded}
use Rattle.types.specs.declared.discriminant.DiscriminantSize.{DiscriminantSize}
use Rattle.types.specs.declared.discriminant.DiscriminantSize.TheVariants.{Size1, Size2, Size4}
use Rattle.types.specs.declared.memory.Memory.{Memory}
use Rattle.types.specs.declared.memory.Memory.TheVariants.{Memory32, Memory64}
use Rattle.types.specs.declared.extent.Layout.{Layout}
use Rattle.types.specs.declared.both.Both.{Both}
use Rattle.types.specs.declared.info.CanonicalAbiInfo.{CanonicalAbiInfo}
use Rattle.types.specs.declared.info.NextField.{NextField}
use Rattle.types.specs.declared.variant.VariantInfo.{VariantInfo}

-- 01, "Numbers of refusal"
abbrev pub number_of : Refusal → ℕ
number_of TooLong = too_long
number_of Truncated = truncated
number_of BadKind = bad_kind
number_of BadRef = bad_ref
number_of BadCount = bad_count
number_of TooLarge = too_large
number_of NoRoom = no_room
number_of BadRow = bad_row
number_of TooDeep = too_deep

-- an answer: the value's meaning, or the number of the refusal
abbrev pub leaf : {A B : Type 0} → (A → B) → Result A Refusal → Leaf B
leaf f (Ok a) = is (f a)
leaf f (Err r) = no (number_of r)

abbrev pub rounding_of : Rounded ℕ → Rounding
rounding_of r = record { value = r.value; skipped = r.skipped }

-- 01: "flat count" or none
abbrev pub count_means : Option ℕ → math.Option ℕ
count_means (Some n) = some n
count_means None = none

-- `byte_size`
abbrev pub bytes_of : DiscriminantSize → ℕ
bytes_of Size1 = 1
bytes_of Size2 = 2
bytes_of Size4 = 4

-- the memory that a parameter names
abbrev pub memory_of : Memory → canon.Memory
memory_of Memory32 = mem32
memory_of Memory64 = mem64

abbrev pub layout_means : Layout → canon.Layout
layout_means f = record { size = f.size; align = f.align }

-- what is held for each memory
abbrev pub each : {A : Type 0} → Both A → canon.Both A
each b = record { in32 = b.in32; in64 = b.in64 }

abbrev pub layouts_means : Both Layout → canon.Both canon.Layout
layouts_means b = record { in32 = layout_means b.in32; in64 = layout_means b.in64 }

abbrev pub abi_means : CanonicalAbiInfo → Abi
abi_means i =
    record {
      layouts =
          record {
            in32 = record { size = i.size32; align = i.align32 };
            in64 = record { size = i.size64; align = i.align64 };
          };
      flats = count_means i.flat_count;
    }

abbrev pub field_means : NextField → Field
field_means f = record { offset = f.offset; end = f.end; skipped = f.skipped }

abbrev pub variant_means : VariantInfo × CanonicalAbiInfo → VariantAbi
variant_means (v, i) =
    record {
      disc = bytes_of v.size;
      offsets = record { in32 = v.payload_offset32; in64 = v.payload_offset64 };
      abi = abi_means i;
    }
