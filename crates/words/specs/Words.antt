-- 01: "little-endian words". The bytes after the last whole word are neither read nor written.
use Rattle.std.specs.Prelude.{List, [], ◌∷◌, ℕ, zero, suc, ◌+◌, ◌*◌, ◌/◌, ◌%◌, length, get_or, set}

-- "little-endian": a word of four bytes, the lowest first
abbrev pub word_of : ℕ → ℕ → ℕ → ℕ → ℕ
word_of a b c d = a + 256 * b + 65536 * c + 16777216 * d

-- the word k of bytes
unfoldable pub word_at : List ℕ → ℕ → ℕ
word_at b k = word_of (get_or b (4 * k) 0) (get_or b (4 * k + 1) 0) (get_or b (4 * k + 2) 0) (get_or b (4 * k + 3) 0)

-- "words": so many from the word k on
unfoldable pub words_of : List ℕ → ℕ → ℕ → List ℕ
words_of b k zero = []
words_of b k (suc n) = word_at b k ∷ words_of b (suc k) n

-- all the words of bytes, each of four
unfoldable pub whole_words : List ℕ → List ℕ
whole_words b = words_of b 0 (length b / 4)

-- "little-endian": the bytes with w as the word k
unfoldable pub put_word : ℕ → ℕ → List ℕ → List ℕ
put_word k w b =
    set
    (set
    (set (set b (4 * k) (w % 256)) (4 * k + 1) (w / 256 % 256))
    (4 * k + 2)
    (w / 65536 % 256))
    (4 * k + 3)
    (w / 16777216 % 256)

-- "words": the bytes with these from the word k on
unfoldable pub put_words : ℕ → List ℕ → List ℕ → List ℕ
put_words k [] b = b
put_words k (w ∷ ws) b = put_words (suc k) ws (put_word k w b)
