-- The packed shapes are the ten kinds' own, and a body has the words before its references, the references and the numbers.
use mathlib.Core.Path.{◌≡◌, refl}
use Prim.Native.Nat.{ℕ, ◌+◌, ◌*◌, ◌/◌, ◌%◌, ◌^◌, ◌≤◌}
use native.Mathlib.Omega.{arith}
use Rattle.canon.specs.Types.{kind_word}
use Rattle.canon.specs.Description.{Shape, counted, fixed, shape_of, body_length}
use Rattle.head.specs.Heads.{before, many, behind}
use Rattle.canon.specs.Types.{Kind, k_record, k_variant, k_list, k_tuple, k_map, k_flags, k_enum, k_option, k_result, k_fixed}

-- of one kind after the other
pub each_kind :
    (P : Kind → Type 0) →
    P k_record → P k_variant → P k_list → P k_tuple → P k_map → P k_flags → P k_enum → P k_option → P k_result → P k_fixed →
    (k : Kind) → P k
each_kind P a b c d e f g h i j k_record = a
each_kind P a b c d e f g h i j k_variant = b
each_kind P a b c d e f g h i j k_list = c
each_kind P a b c d e f g h i j k_tuple = d
each_kind P a b c d e f g h i j k_map = e
each_kind P a b c d e f g h i j k_flags = f
each_kind P a b c d e f g h i j k_enum = g
each_kind P a b c d e f g h i j k_option = h
each_kind P a b c d e f g h i j k_result = i
each_kind P a b c d e f g h i j k_fixed = j

pub word_small : (k : Kind) → kind_word k ≤ 10
word_small =
    each_kind (λ k. kind_word k ≤ 10)
    (omega arith) (omega arith) (omega arith) (omega arith) (omega arith) (omega arith) (omega arith) (omega arith) (omega arith) (omega arith)

-- The packed shapes

-- the two bits of a kind
abbrev pub bits_of : ℕ → Kind → ℕ
bits_of packed k = packed / 2 ^ (2 * kind_word k) % 4

pub counted_bits : (k : Kind) → bits_of 0b00_00_00_00_00_00_01_00_01_01_00 k ≡ before (shape_of k)
counted_bits = each_kind _ refl refl refl refl refl refl refl refl refl refl

pub number_bits : (k : Kind) → bits_of 0b01_00_00_01_01_00_00_00_00_00_00 k ≡ behind (shape_of k)
number_bits = each_kind _ refl refl refl refl refl refl refl refl refl refl

-- a body but for its counted references
pub length_bits : (k : Kind) → bits_of 0b10_10_01_01_01_10_01_01_01_01_00 k ≡ body_length (shape_of k) 0
length_bits = each_kind _ refl refl refl refl refl refl refl refl refl refl

-- Lengths

pub body_parts : (s : Shape) (n : ℕ) → before s + many s n + behind s ≡ body_length s n
body_parts counted n = omega arith
body_parts (fixed r k) n = omega arith
