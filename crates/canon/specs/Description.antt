-- What a description's words mean: the types that it defines, and the refusal if there is one (01, "The description and its words").
use Rattle.std.specs.Prelude.{Bool, false, cond, ◌||◌, ◌&&◌, List, [], ◌∷◌, ◌++◌, map, ℕ, zero, suc, ◌+◌, ◌-◌, leb, ltb, eqb, length, get_or, take, drop}
use Rattle.std.proofs.Math.Option.{Option, none, some}
use Rattle.std.proofs.Math.ListN.{get_elem?}
use Rattle.canon.specs.Types.{Ty, record_of, variant_of, list_of, tuple_of, map_of, flags_of, enum_of, option_of, result_of, fixed_of, plain, Members, ∅, ◌◂◌, Case, bare, holding, Cases, ∎, ◌▸◌, Kind, k_record, k_variant, k_list, k_tuple, k_map, k_flags, k_enum, k_option, k_result, k_fixed, kind_word}
use Rattle.canon.specs.Layout.{Memory, mem32, mem64, most_flags, largest_number, numbers}
use Rattle.canon.specs.Reach.{is_too_deep, reach}
use Rattle.canon.specs.Row.{row_of}
use Rattle.canon.specs.Table.{capacity, put_rows}
use Rattle.canon.specs.Answer.{Leaf, is, no, Answer, ok, refused, map_option, map_option2, too_long, truncated, bad_kind, bad_ref, bad_count, too_large, no_room, too_deep}

-- References

-- "64+j means definition j", here one of ts, those before it: "Definition i may refer only to j < i". "All other words are bad
-- references": none
unfoldable pub reference : List Ty → ℕ → Option Ty
reference ts w = cond (leb 64 w) (get_elem? ts (w - 64)) (get_elem? plain w)

-- "4294967295 means 'no payload', only in a variant or result"
abbrev pub mark : ℕ
mark = 4294967295

unfoldable pub case_of : List Ty → ℕ → Option Case
case_of ts w = cond (eqb w mark) (some bare) (map_option holding (reference ts w))

unfoldable pub members_of : List Ty → List ℕ → Option Members
members_of ts [] = some ∅
members_of ts (w ∷ ws) = map_option2 ◌◂◌ (reference ts w) (members_of ts ws)

unfoldable pub cases_of : List Ty → List ℕ → Option Cases
cases_of ts [] = some ∎
cases_of ts (w ∷ ws) = map_option2 ◌▸◌ (case_of ts w) (cases_of ts ws)

-- One definition: a kind word, then its body

-- the one of these kinds whose word it is
abbrev kind_among : List Kind → ℕ → Option Kind
kind_among [] w = none
kind_among (k ∷ ks) w = cond (eqb w (kind_word k)) (some k) (kind_among ks w)

unfoldable pub kind_of : ℕ → Option Kind
kind_of w = kind_among (k_record ∷ k_variant ∷ k_list ∷ k_tuple ∷ k_map ∷ k_flags ∷ k_enum ∷ k_option ∷ k_result ∷ k_fixed ∷ []) w

-- what follows a kind word: a count n, then n references; or so many references, then so many numbers
pub data Shape : Type 0 where
  counted : Shape
  fixed : ℕ → ℕ → Shape

-- 01: "n, n references", "one reference", "key, value", "n", "ok, err", "reference, count"
abbrev pub shape_of : Kind → Shape
shape_of k_record = counted
shape_of k_variant = counted
shape_of k_list = fixed 1 0
shape_of k_tuple = counted
shape_of k_map = fixed 2 0
shape_of k_flags = fixed 0 1
shape_of k_enum = fixed 0 1
shape_of k_option = fixed 1 0
shape_of k_result = fixed 2 0
shape_of k_fixed = fixed 1 1

-- how many words a body has, where the first of them is n
abbrev pub body_length : Shape → ℕ → ℕ
body_length counted n = 1 + n
body_length (fixed r k) n = r + k

-- the words of a body that are references or marks
abbrev pub references_of : Shape → List ℕ → List ℕ
references_of counted b = drop 1 b
references_of (fixed r k) b = take r b

abbrev is_kind : Kind → Kind → Bool
is_kind j k = eqb (kind_word j) (kind_word k)

-- refusal 5: "variant or enum with n = 0, flags above 512"
abbrev pub is_bad_count : Kind → ℕ → Bool
is_bad_count k n = cond (is_kind k_flags k) (ltb most_flags n) ((is_kind k_variant k || is_kind k_enum k) && eqb n 0)

-- the type that the body b defines after the definitions ts; none for a bad reference
unfoldable pub type_of : List Ty → Kind → List ℕ → Option Ty
type_of ts k_record b = map_option record_of (members_of ts (drop 1 b))
type_of ts k_variant b = map_option variant_of (cases_of ts (drop 1 b))
type_of ts k_list b = map_option list_of (reference ts (get_or b 0 0))
type_of ts k_tuple b = map_option tuple_of (members_of ts (drop 1 b))
type_of ts k_map b = map_option2 map_of (reference ts (get_or b 0 0)) (reference ts (get_or b 1 0))
type_of ts k_flags b = some (flags_of (get_or b 0 0))
type_of ts k_enum b = some (enum_of (get_or b 0 0))
type_of ts k_option b = map_option option_of (reference ts (get_or b 0 0))
type_of ts k_result b = map_option2 result_of (case_of ts (get_or b 0 0)) (case_of ts (get_or b 1 0))
type_of ts k_fixed b = map_option (λ t. fixed_of t (get_or b 1 0)) (reference ts (get_or b 0 0))

abbrev pub some_above : ℕ → List ℕ → Bool
some_above n [] = false
some_above n (x ∷ xs) = ltb n x || some_above n xs

-- refusal 6: "a start, end or size above 4294967295"
unfoldable pub is_too_large : Memory → Ty → Bool
is_too_large m t = some_above largest_number (numbers m t)

-- a definition's type and the number of words after its kind word
pub record Defined : Type 0 where
  pub type : Ty
  pub length : ℕ

-- the last three tests of a definition: "BadRef, TooDeep, TooLarge (in either memory, map entries included)"
unfoldable pub checked : ℕ → Option Ty → Leaf Defined
checked n none = no bad_ref
checked n (some t) =
    cond (is_too_deep (reach t)) (no too_deep)
    (cond (is_too_large mem32 t || is_too_large mem64 t) (no too_large)
    (is (record { type = t; length = n })))

-- "BadKind, Truncated, BadCount", then those three; ws are the words after the kind word
unfoldable pub bodied : List Ty → Option Kind → List ℕ → Leaf Defined
bodied ts none ws = no bad_kind
bodied ts (some k) ws =
    cond (ltb (length ws) (body_length (shape_of k) (get_or ws 0 0))) (no truncated)
    (cond (is_bad_count k (get_or ws 0 0)) (no bad_count)
    (checked (body_length (shape_of k) (get_or ws 0 0)) (type_of ts k (take (body_length (shape_of k) (get_or ws 0 0)) ws))))

abbrev pub define : List Ty → ℕ → List ℕ → Leaf Defined
define ts w ws = bodied ts (kind_of w) ws

-- The whole description

-- the accepted types, in order, and the number of the refusal that ended them
pub record Built : Type 0 where
  pub types : List Ty
  pub stopped : Option ℕ

abbrev pub follow : List Ty → List ℕ → Leaf Defined → (List Ty → List ℕ → Built) → Built
follow ts ws (is d) k = k (ts ++ d.type ∷ []) (drop d.length ws)
follow ts ws (no x) k = record { types = ts; stopped = some x }

-- after the types ts, with room for so many rows more: "for each definition NoRoom", then its own tests
unfoldable pub build_from : ℕ → List Ty → List ℕ → Built
build_from zero ts [] = record { types = ts; stopped = none }
build_from zero ts (w ∷ ws) = record { types = ts; stopped = some no_room }
build_from (suc room) ts [] = record { types = ts; stopped = none }
build_from (suc room) ts (w ∷ ws) = follow ts ws (define ts w ws) (λ ts' ws'. build_from room ts' ws')

-- "A description has 0 to 16,384 words"
abbrev pub most_words : ℕ
most_words = 16384

unfoldable pub build : ℕ → List ℕ → Built
build room ws = cond (ltb most_words (length ws)) (record { types = []; stopped = some too_long }) (build_from room [] ws)

-- "It answers the count" .. "or the number with the definition's index": as many definitions were accepted before it
abbrev pub answered : ℕ → Option ℕ → Answer ℕ
answered n none = ok n
answered n (some x) = refused x n

-- what the words ws say to a lent table t
abbrev pub built : List ℕ → List ℕ → Built
built ws t = build (capacity (length t)) ws

unfoldable pub build_answer : List ℕ → List ℕ → Answer ℕ
build_answer ws t = answered (length (built ws t).types) (built ws t).stopped

-- "earlier entries of each run are written, every other word keeps its value"
unfoldable pub table_after : List ℕ → List ℕ → List ℕ
table_after ws t = put_rows (capacity (length t)) 0 (map row_of (built ws t).types) t
