-- What the program prints, byte by byte (01, "Modules", 7).
use Rattle.std.specs.Prelude.{cond, List, [], ◌∷◌, ◌++◌, map, ℕ, zero, suc, ◌+◌, ◌/◌, ◌%◌, ltb, eqb, length, set}
use Rattle.canon.specs.Answer.{Answer, ok, refused, too_long, truncated}
use Rattle.canon.specs.Description.{Built, build, answered}
use Rattle.canon.specs.Row.{row_of, word}
use Rattle.words.specs.Words.{whole_words}

-- the decimal digits of n, the most significant first and no zero in front; at most k of them
unfoldable pub digits : ℕ → ℕ → List ℕ
digits zero n = []
digits (suc k) n = cond (ltb n 10) ((48 + n) ∷ []) (digits k (n / 10) ++ (48 + n % 10) ∷ [])

-- of a word: a number below 4294967296 has at most ten
abbrev pub decimal : ℕ → List ℕ
decimal n = digits 10 n

abbrev pub newline : List ℕ
newline = 10 ∷ []

-- a number and a space
unfoldable pub spaced : ℕ → List ℕ
spaced n = decimal n ++ 32 ∷ []

unfoldable pub spaced_all : List ℕ → List ℕ
spaced_all [] = []
spaced_all (n ∷ ns) = spaced n ++ spaced_all ns

-- "flat count or `-`"
unfoldable pub flat_text : ℕ → List ℕ
flat_text n = cond (eqb n 255) (45 ∷ []) (decimal n)

-- "index, kind, size32, align32, size64, align64"
abbrev pub row_numbers : ℕ → List ℕ → List ℕ
row_numbers i r = i ∷ word r 0 ∷ word r 1 ∷ word r 2 ∷ word r 3 ∷ word r 4 ∷ []

-- the line of a row's words
unfoldable pub row_line : ℕ → List ℕ → List ℕ
row_line i r = (spaced_all (row_numbers i r) ++ flat_text (word r 5)) ++ newline

-- "one line per row", from the row i on
unfoldable pub row_lines : ℕ → List (List ℕ) → List ℕ
row_lines i [] = []
row_lines i (r ∷ rs) = row_line i r ++ row_lines (suc i) rs

-- "then `ok N` or `refused NUMBER INDEX`"
unfoldable pub end_line : Answer ℕ → List ℕ
end_line (ok n) = (111 ∷ 107 ∷ 32 ∷ decimal n) ++ newline
end_line (refused x i) = ((114 ∷ 101 ∷ 102 ∷ 117 ∷ 115 ∷ 101 ∷ 100 ∷ 32 ∷ spaced x) ++ decimal i) ++ newline

-- "at most 1,024 rows"
abbrev pub most_rows : ℕ
most_rows = 1024

abbrev pub told : Built → List ℕ
told b = row_lines 0 (map row_of b.types) ++ end_line (answered (length b.types) b.stopped)

-- of a description's words: the rows that were made, then the answer
unfoldable pub described : List ℕ → List ℕ
described ws = told (build most_rows ws)

-- "More than 65,536 bytes prints only `refused 1 0`; otherwise a length not divisible by four prints only `refused 2 0`"
unfoldable pub printed : List ℕ → List ℕ
printed bytes =
    cond (ltb 65536 (length bytes)) (end_line (refused too_long 0))
    (cond (eqb (length bytes % 4) 0) (described (whole_words bytes)) (end_line (refused truncated 0)))

-- a buffer with the bytes of a text from a place on; every other byte as it was
unfoldable pub written : List ℕ → ℕ → List ℕ → List ℕ
written out at [] = out
written out at (b ∷ bs) = written (set out at b) (suc at) bs

-- the bytes that 1,024 lines and the last one may take
abbrev pub most_bytes : ℕ
most_bytes = 78878

-- what a buffer of so many bytes takes: the text, or nothing where a text might not fit
unfoldable pub shown : ℕ → List ℕ → List ℕ
shown room bytes = cond (ltb room most_bytes) [] (printed bytes)
