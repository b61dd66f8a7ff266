-- A description in lent bytes (docs/HOST.md): "more than 65,536 bytes is refusal 1 at 0; else, if its length is not a multiple of four, .. 2 at 0".
-- Then the table is one of words; "the bytes after the last whole word are neither read nor written".
use Rattle.std.specs.Prelude.{Bool, cond, List, ◌≡◌, ℕ, ◌%◌, ltb, length}
use Rattle.canon.specs.Answer.{Answer, unless, too_long, truncated}
use Rattle.canon.specs.Description.{build_answer, table_after}
use Rattle.canon.specs.Cost.{rows_read, reported}
use Rattle.canon.specs.Gaps.{room_of, gaps_after}
use Rattle.canon.specs.Layout.{Memory}
use Rattle.canon.specs.Question.{offsets_after}
use Rattle.words.specs.Words.{whole_words, put_words}
use Rattle.host.specs.Numbers.{placement_call}

abbrev pub too_many_bytes : List ℕ → Bool
too_many_bytes b = ltb 65536 (length b)

abbrev pub cut_bytes : List ℕ → Bool
cut_bytes b = ltb 0 (length b % 4)

unfoldable pub build_bytes : List ℕ → List ℕ → Answer ℕ
build_bytes b t = unless (too_many_bytes b) too_long (unless (cut_bytes b) truncated (build_answer (whole_words b) (whole_words t)))

-- "A refused call reports 0"
unfoldable pub reads_of_bytes : List ℕ → List ℕ → ℕ
reads_of_bytes b t = reported (build_bytes b t) (rows_read (whole_words b))

unfoldable pub table_bytes : List ℕ → List ℕ → List ℕ
table_bytes b t = cond (too_many_bytes b) t (cond (cut_bytes b) t (put_words 0 (table_after (whole_words b) (whole_words t)) t))

-- A placement in lent bytes: what it answers, r, and the buffers os and gs after it, os' and gs'
abbrev pub PlacesBytes : Memory → List ℕ → ℕ → List ℕ → List ℕ → List ℕ → ℕ → List ℕ → List ℕ → Type 0
PlacesBytes m t n ws os gs r os' gs' =
    (r ≡ placement_call m (whole_words t) n (whole_words ws) (room_of (whole_words os) (whole_words gs)))
    × (os' ≡ put_words 0 (offsets_after m (whole_words t) n (whole_words ws) (room_of (whole_words os) (whole_words gs)) (whole_words os)) os)
    × (gs' ≡ put_words 0 (gaps_after m (whole_words t) n (whole_words ws) (room_of (whole_words os) (whole_words gs)) (whole_words gs)) gs)
