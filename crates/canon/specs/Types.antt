-- The Component Model's value types, as trees: 01's eighteen references without a definition and its ten kinds.
use Rattle.std.specs.Prelude.{Bool, true, false, List, [], ◌∷◌, ◌++◌, map, ℕ, suc}

-- the core types that a flat value is made of
pub data Core : Type 0 where
  I32 I64 F32 F64 : Core

-- references 0 to 11 and 13 to 17: one number each
pub data Scalar : Type 0 where
  bool s8 u8 s16 u16 s32 u32 s64 u64 float32 float64 char own borrowed future stream error_context : Scalar

-- of a scalar: its size, which is its alignment too, its core type, and whether it is a Borrow
pub record Facts : Type 0 where
  pub size : ℕ
  pub core : Core
  pub borrow : Bool

abbrev fact : ℕ → Core → Facts
fact n c = record { size = n; core = c; borrow = false }

-- 01: "1, 2, 4 or 8 bytes, alignment equal to size", "Char and references 13 to 17: 4"; "64-bit integers I64, Float32 F32, Float64
-- F64, other scalars I32"
abbrev pub facts : Scalar → Facts
facts bool = fact 1 I32
facts s8 = fact 1 I32
facts u8 = fact 1 I32
facts s16 = fact 2 I32
facts u16 = fact 2 I32
facts s32 = fact 4 I32
facts u32 = fact 4 I32
facts s64 = fact 8 I64
facts u64 = fact 8 I64
facts float32 = fact 4 F32
facts float64 = fact 8 F64
facts char = fact 4 I32
facts own = fact 4 I32
facts borrowed = record { size = 4; core = I32; borrow = true }
facts future = fact 4 I32
facts stream = fact 4 I32
facts error_context = fact 4 I32

mutual
  pub data Ty : Type 0 where
    scalar : Scalar → Ty
    string : Ty
    record_of : Members → Ty
    variant_of : Cases → Ty
    list_of : Ty → Ty
    tuple_of : Members → Ty
    map_of : Ty → Ty → Ty
    flags_of : ℕ → Ty
    enum_of : ℕ → Ty
    option_of : Ty → Ty
    result_of : Case → Case → Ty
    fixed_of : Ty → ℕ → Ty

  -- the types of a record's or a tuple's members, in order
  pub data Members : Type 0 where
    ∅ : Members
    ◌◂◌ : Ty → Members → Members

  -- a case with no payload, or with one
  pub data Case : Type 0 where
    bare : Case
    holding : Ty → Case

  pub data Cases : Type 0 where
    ∎ : Cases
    ◌▸◌ : Case → Cases → Cases

infixr 40 ◌◂◌ ◌▸◌
-- a build accepts no variant of no cases (refusal 5)
abbrev pub count : Cases → ℕ
count ∎ = 0
count (c ▸ cs) = suc (count cs)

-- "0 to 12 mean Bool, S8, .., String; 13 to 17 mean Own, Borrow, Future, Stream, ErrorContext"
abbrev pub plain : List Ty
plain =
    map scalar (bool ∷ s8 ∷ u8 ∷ s16 ∷ u16 ∷ s32 ∷ u32 ∷ s64 ∷ u64 ∷ float32 ∷ float64 ∷ char ∷ [])
    ++ string
    ∷ map scalar (own ∷ borrowed ∷ future ∷ stream ∷ error_context ∷ [])

-- the kinds of definition, and 01's word of each
pub data Kind : Type 0 where
  k_record k_variant k_list k_tuple k_map k_flags k_enum k_option k_result k_fixed : Kind

abbrev pub kind_word : Kind → ℕ
kind_word = elim [ k_record ↦ 1 | k_variant ↦ 2 | k_list ↦ 3 | k_tuple ↦ 4 | k_map ↦ 5 | k_flags ↦ 6 | k_enum ↦ 7 | k_option ↦ 8 | k_result ↦ 9 | k_fixed ↦ 10 ]
