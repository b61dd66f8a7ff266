-- The steps over words, all places at once, of one list and of both memories' alike. They tell the answer for words with unused bits
-- too; where these are zero it is the words of canon's lists (proofs/Promises).
use Rattle.std.specs.Prelude.{cond, ℕ, zero, suc, ◌+◌, ◌*◌, ◌%◌, ◌^◌, max, min, leb}
use Rattle.std.specs.Int.Bits.{bit_and, bit_or, bit_xor}
use Rattle.canon.specs.Pack.{Packed}
use Rattle.flat_types.specs.Lists.{no_list}

-- n ones, each b times the one before
abbrev pub ones : ℕ → ℕ → ℕ
ones zero b = 0
ones (suc n) b = ones n b * b + 1

-- a word in each half of 64 bits
abbrev pub twice : ℕ → ℕ
twice w = w * 2 ^ 32 + w

-- one word behind the first n places of another; what passes 64 bits is lost
abbrev pub append_word : ℕ → ℕ → ℕ → ℕ
append_word n a b = bit_or a ((b * 4 ^ n) % 2 ^ 64)

-- one list behind another; more than max types are none
unfoldable pub append_to : ℕ → Packed → Packed → Packed
append_to max p q =
    cond (leb (p.number + q.number) max)
    (record { number = p.number + q.number; types = append_word p.number p.types q.types })
    no_list

-- a variant's discriminant
abbrev pub one_i32 : Packed
one_i32 = record { number = 1; types = 0 }

-- the bits of either, but no high bit where the two differ; lo holds the low bit of each place, hi the high bit of each that both lists have
abbrev pub join_over : ℕ → ℕ → ℕ → ℕ → ℕ
join_over lo hi a b = bit_xor (bit_or a b) (bit_and (bit_or a b) (bit_and (bit_or (bit_xor a b) (bit_and (bit_xor a b) lo * 2)) hi))

-- both lists have the first n of 16 places, in each half
abbrev pub join_word : ℕ → ℕ → ℕ → ℕ
join_word n a b = join_over (twice (ones 16 4)) (twice (ones n 4 * 2)) a b

-- both memories' lists joined
unfoldable pub joined : Packed → Packed → Packed
joined p q =
    cond (leb (max p.number q.number) 16)
    (record { number = max p.number q.number; types = join_word (min p.number q.number) p.types q.types })
    no_list
