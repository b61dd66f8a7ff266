-- What a count and a word of packed types stand for, and which are written for a list.
use Rattle.std.specs.Prelude.{◌≡◌, Bool, cond, ◌&&◌, List, ℕ, ◌+◌, ◌*◌, ◌/◌, ◌%◌, ◌^◌, leb, length}
use Rattle.std.proofs.Math.Option.{Option, none, some}
use Rattle.canon.specs.Layout.{Memory, Both, within}
use Rattle.canon.specs.Pack.{Packed, pack, unpack}
use Rattle.canon.specs.Row.{count_of, good_count, unused_zero}
use Rattle.canon.specs.Types.{Core}
use Rattle.flat_types.specs.declared.both.FlatTypes.{FlatTypes}
use Rattle.flat_types.specs.declared.list.FlatList.{FlatList}

-- the first types of the word, as many as are counted, whatever lies above them; none for a count above 16
unfoldable pub unpacked : Packed → Option (List Core)
unpacked p = cond (leb p.number 16) (some (unpack p.number p.types)) none

-- 01, words 5 to 7 of a row: "255 for none", "both words zero if none"
abbrev pub no_list : Packed
no_list = record { number = 255; types = 0 }

-- 01: "two bits each, first lowest", "unused bits zero"; a list of more than max types is none
unfoldable pub packed_to : ℕ → Option (List Core) → Packed
packed_to max none = no_list
packed_to max (some l) = cond (leb (length l) max) (record { number = length l; types = pack l }) no_list

-- 01: "a sum or product above 16 is none"
abbrev pub packed : Option (List Core) → Packed
packed o = packed_to 16 o

-- The words of both memories are one number, the 32-bit memory's in its low half

abbrev pub halves : ℕ → Both ℕ
halves w = record { in32 = w % 2 ^ 32; in64 = w / 2 ^ 32 }

abbrev pub whole : Both ℕ → ℕ
whole b = b.in64 * 2 ^ 32 + b.in32

-- the count and the words of both memories
abbrev pub both_words : FlatTypes → Packed
both_words f = record { number = f.count; types = f.words }

-- the count and one memory's word
abbrev pub memory_words : Memory → Packed → Packed
memory_words m p = record { number = p.number; types = within m (halves p.types) }

abbrev pub words_in : Memory → FlatTypes → Packed
words_in m f = memory_words m (both_words f)

abbrev pub flat_in : Memory → FlatTypes → Option (List Core)
flat_in m f = unpacked (words_in m f)

-- in each memory, the words of its list
abbrev pub Holds : FlatTypes → (Memory → Option (List Core)) → Type 0
Holds f lists = (m : Memory) → words_in m f ≡ packed (lists m)

-- of a list in one memory. 01: "`Vec<ValType>` becomes a count and packed types, at most 17"
abbrev pub words : FlatList → Packed
words f = record { number = f.count; types = f.types }

abbrev pub flat : FlatList → Option (List Core)
flat f = unpacked (words f)

-- 01, a row is well formed: "flat count is 0 to 16 or 255; unused flat bits are zero"
unfoldable pub good_words : Packed → Bool
good_words p = good_count (count_of p.number) && unused_zero (count_of p.number) p.types

-- in both memories
unfoldable pub good_flat : FlatTypes → Bool
good_flat f =
    good_count (count_of f.count)
    && (unused_zero (count_of f.count) (halves f.words).in32
    && unused_zero (count_of f.count) (halves f.words).in64)
