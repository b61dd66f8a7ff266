-- A table's row: the sixteen words that a type gives, their good form, and what a question takes from them (01, "Row").
use Rattle.std.specs.Prelude.{Bool, true, cond, ◌||◌, ◌&&◌, List, [], ◌∷◌, ◌++◌, ℕ, ◌/◌, ◌%◌, ◌^◌, leb, eqb, get_or}
use Rattle.std.proofs.Math.Option
use Rattle.std.proofs.Math.Option.{Option, none, some}
use Rattle.canon.specs.Types.{Ty, scalar, string, record_of, variant_of, list_of, tuple_of, map_of, flags_of, enum_of, option_of, result_of, fixed_of, Core, count, k_record, k_variant, k_list, k_tuple, k_map, k_flags, k_enum, k_option, k_result, k_fixed, kind_word}
use Rattle.canon.specs.Layout.{Memory, Both, both, within, Layout, layout, payload, payloads, starts, record_layout, discriminant, payload_offset}
use Rattle.canon.specs.Flat.{flatten, flat_count}
use Rattle.canon.specs.Reach.{Reach, reach, reach_word, word_reach, good_reach}
use Rattle.canon.specs.Pack.{Packed, pack, unpack}
use Rattle.canon.specs.Answer.{map_option}

-- word 0; 0 for a type that no definition spells
abbrev pub row_kind : Ty → ℕ
row_kind (scalar s) = 0
row_kind string = 0
row_kind (record_of ts) = kind_word k_record
row_kind (variant_of cs) = kind_word k_variant
row_kind (list_of t) = kind_word k_list
row_kind (tuple_of ts) = kind_word k_tuple
row_kind (map_of k v) = kind_word k_map
row_kind (flags_of n) = kind_word k_flags
row_kind (enum_of n) = kind_word k_enum
row_kind (option_of t) = kind_word k_option
row_kind (result_of ok err) = kind_word k_result
row_kind (fixed_of t n) = kind_word k_fixed

-- word 5: "flat count, 255 for none"
abbrev pub count_word : Option ℕ → ℕ
count_word c = Option.get_or c 255

abbrev pub count_of : ℕ → Option ℕ
count_of w = cond (eqb w 255) none (some w)

-- words 6 and 7: "both words zero if none"
abbrev pub flat_word : Option ℕ → List Core → ℕ
flat_word none l = 0
flat_word (some n) l = pack l

-- the count and one memory's word
abbrev pub row_flat : Option ℕ → List Core → Packed
row_flat c l = record { number = count_word c; types = flat_word c l }

abbrev pub type_flat : Memory → Ty → Packed
type_flat m t = row_flat (flat_count t) (flatten m t)

-- words 8 to 14, in one memory: "discriminant size, 0 if the kind has none", "payload offset (variant, enum, option, result) or
-- value offset (map)", "a map's entry size32, align32, size64, align64, otherwise 0"
pub record Inner : Type 0 where
  pub disc : ℕ
  pub offset : ℕ
  pub entry : Layout

abbrev pub no_layout : Layout
no_layout = record { size = 0; align = 0 }

abbrev pub no_inner : Inner
no_inner = record { disc = 0; offset = 0; entry = no_layout }

abbrev pub cases_inner : ℕ → List Layout → Inner
cases_inner n fs = record { disc = discriminant n; offset = payload_offset n fs; entry = no_layout }

-- "Map entry: a tuple of key and value"
abbrev pub map_inner : Layout → Layout → Inner
map_inner k v = record { disc = 0; offset = get_or (starts 0 (k ∷ v ∷ [])) 1 0; entry = record_layout (k ∷ v ∷ []) }

abbrev pub inner : Memory → Ty → Inner
inner m (scalar s) = no_inner
inner m string = no_inner
inner m (record_of ts) = no_inner
inner m (variant_of cs) = cases_inner (count cs) (payloads m cs)
inner m (list_of t) = no_inner
inner m (tuple_of ts) = no_inner
inner m (map_of k v) = map_inner (layout m k) (layout m v)
inner m (flags_of n) = no_inner
inner m (enum_of n) = cases_inner n []
inner m (option_of t) = cases_inner 2 (layout m t ∷ [])
inner m (result_of ok err) = cases_inner 2 (payload m ok ++ payload m err)
inner m (fixed_of t n) = no_inner

-- the sixteen words in their order
abbrev pub row_words : ℕ → Both Layout → Both Packed → Both Inner → Reach → List ℕ
row_words kind layouts flats inners reached =
    kind
    ∷ layouts.in32.size ∷ layouts.in32.align ∷ layouts.in64.size ∷ layouts.in64.align
    ∷ flats.in32.number ∷ flats.in32.types ∷ flats.in64.types
    ∷ inners.in32.disc ∷ inners.in32.offset ∷ inners.in64.offset
    ∷ inners.in32.entry.size ∷ inners.in32.entry.align ∷ inners.in64.entry.size ∷ inners.in64.entry.align
    ∷ reach_word reached ∷ []

unfoldable pub row_of : Ty → List ℕ
row_of t = row_words (row_kind t) (both (λ m. layout m t)) (both (λ m. type_flat m t)) (both (λ m. inner m t)) (reach t)

-- types.rs, the five numbers of `CanonicalAbiInfo`
pub record Abi : Type 0 where
  pub layouts : Both Layout
  pub flats : Option ℕ

-- what a question takes from a type. 01, as order 5 amends it: "the five numbers of `CanonicalAbiInfo`, flat words, borrow and depth"
pub record Info : Type 0 where
  pub abi : Abi
  pub flat_words : Both ℕ
  pub reach : Reach

abbrev pub info_layout : Memory → Info → Layout
info_layout m i = within m i.abi.layouts

abbrev pub info_of : Ty → Info
info_of t =
    record { abi = record { layouts = both (λ m. layout m t); flats = flat_count t }; flat_words = both (λ m. (type_flat m t).types); reach = reach t }

abbrev pub word : List ℕ → ℕ → ℕ
word r k = get_or r k 0

abbrev pub row_abi : List ℕ → Abi
row_abi r =
    record {
      layouts = record { in32 = record { size = word r 1; align = word r 2 }; in64 = record { size = word r 3; align = word r 4 } };
      flats = count_of (word r 5);
    }

abbrev pub row_info : List ℕ → Info
row_info r = record { abi = row_abi r; flat_words = record { in32 = word r 6; in64 = word r 7 }; reach = word_reach (word r 15) }

-- the flat list in one memory, none if the count is none
unfoldable pub flat_of : Memory → Info → Option (List Core)
flat_of m i = map_option (λ n. unpack n (within m i.flat_words)) i.abi.flats

-- The good form. 01: "A row is well formed when"

-- "alignments are 1, 2, 4 or 8"
unfoldable pub is_alignment : ℕ → Bool
is_alignment a = eqb a 1 || (eqb a 2 || (eqb a 4 || eqb a 8))

-- "each size is a multiple of its alignment"
unfoldable pub good_layout : Layout → Bool
good_layout f = is_alignment f.align && eqb (f.size % f.align) 0

-- "flat count is 0 to 16 or 255"
unfoldable pub good_count : Option ℕ → Bool
good_count none = true
good_count (some n) = leb n 16

-- "unused flat bits are zero"
unfoldable pub unused_zero : Option ℕ → ℕ → Bool
unused_zero c w = eqb (w / 4 ^ Option.get_or c 0) 0

-- of an info: "A bad info breaks the row's rules for words 1 to 5"
unfoldable pub good_abi : Abi → Bool
good_abi a = good_layout a.layouts.in32 && (good_layout a.layouts.in64 && good_count a.flats)

-- "word 8 is 0, 1, 2 or 4"
unfoldable pub is_discriminant : ℕ → Bool
is_discriminant d = eqb d 0 || (eqb d 1 || (eqb d 2 || eqb d 4))

-- "kind is 1 to 10", and "Nothing else in a row is tested"
unfoldable pub is_good : List ℕ → Bool
is_good r =
    leb 1 (word r 0)
    && (leb (word r 0) 10
    && (good_abi (row_abi r)
    && (unused_zero (row_abi r).flats (word r 6)
    && (unused_zero (row_abi r).flats (word r 7)
    && (is_discriminant (word r 8)
    && good_reach (word r 15))))))
