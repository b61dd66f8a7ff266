-- A question on a table that a build wrote answers the types' own numbers.
use mathlib.Core.Path.{◌≡◌, refl, ap, fun_ext}
use mathlib.Core.Bool.{Bool, true, false, cond, ◌||◌}
use mathlib.Core.List.{List, [], ◌∷◌, ◌++◌, map}
use mathlib.Core.Option.{Option, none, some}
use Prim.Native.Nat.{ℕ, zero, suc, ◌+◌, ◌-◌, ◌*◌, ◌≤◌, ◌<◌}
use native.Mathlib.Omega.{arith}
use lib.Dec.{leb, ltb}
use lib.ListN.{length, get_or, take, drop, get_elem?, length-map, length-append}
use borrow.Author.Tests.{ltb-true, ltb-false}
use Rattle.canon.specs.Answer.{Leaf, is, no as refuses, map_option, map_option2, bad_ref, too_large, too_deep}
use Rattle.canon.specs.Types.{Ty, record_of, variant_of, list_of, tuple_of, map_of, flags_of, enum_of, option_of, result_of, fixed_of, plain, Kind, k_record, k_variant, k_list, k_tuple, k_map, k_flags, k_enum, k_option, k_result, k_fixed}
use Rattle.canon.specs.Layout.{mem32, mem64}
use Rattle.canon.specs.Reach.{reach, depth, deepest, is_too_deep}
use Rattle.canon.specs.Row.{Info, row_of}
use Rattle.canon.specs.Table.{capacity, cells_from, row_at, put_rows}
use Rattle.canon.specs.Description.{reference, case_of, members_of, cases_of, kind_of, shape_of, body_length, is_bad_count, type_of, is_too_large, Defined, checked, bodied, define, follow, build_from, build, built, most_words, table_after}
use Rattle.canon.specs.Question.{plain_info, read_row, read}
use Rattle.canon.proofs.Tests.{impossible}
use Rattle.canon.proofs.Bodies.{body_some}
use Rattle.canon.proofs.Cells.{room_fits, length_put_rows, row_at_lem}
use Rattle.canon.proofs.Rows.{Definition, row_good, row_back}
use Rattle.canon.specs.Placement.{Every}

-- What a description accepts is a definition, neither too deep nor too large

pub record Accepted (t : Ty) : Type 0 where
  pub definition : Definition t
  pub shallow : depth t ≤ deepest
  pub small : is_too_large mem32 t || is_too_large mem64 t ≡ false

lifted : {A : Type 0} (f : A → Ty) (o : Option A) (t : Ty) → ((a : A) → Definition (f a)) → map_option f o ≡ some t → Definition t
lifted f none t d e = impossible (cc)
lifted f (some a) t d e = let p : f a ≡ t = cc in rw (← p) (d a)

lifted2 : {A B : Type 0} (f : A → B → Ty) (o : Option A) (q : Option B) (t : Ty) → ((a : A) (b : B) → Definition (f a b)) → map_option2 f o q ≡ some t → Definition t
lifted2 f none q t d e = impossible (cc)
lifted2 f (some a) q t d e = lifted (f a) q t (d a) e

type_of_definition : (ts : List Ty) (k : Kind) (b : List ℕ) (t : Ty) → type_of ts k b ≡ some t → Definition t
unfolding type_of
type_of_definition ts k_record b t e = lifted record_of (members_of ts (drop 1 b)) t (λ a. omega arith) e
type_of_definition ts k_variant b t e = lifted variant_of (cases_of ts (drop 1 b)) t (λ a. omega arith) e
type_of_definition ts k_list b t e = lifted list_of (reference ts (get_or b 0 0)) t (λ a. omega arith) e
type_of_definition ts k_tuple b t e = lifted tuple_of (members_of ts (drop 1 b)) t (λ a. omega arith) e
type_of_definition ts k_map b t e = lifted2 map_of (reference ts (get_or b 0 0)) (reference ts (get_or b 1 0)) t (λ a c. omega arith) e
type_of_definition ts k_flags b t e = let p : flags_of (get_or b 0 0) ≡ t = cc in rw (← p) (omega arith)
type_of_definition ts k_enum b t e = let p : enum_of (get_or b 0 0) ≡ t = cc in rw (← p) (omega arith)
type_of_definition ts k_option b t e = lifted option_of (reference ts (get_or b 0 0)) t (λ a. omega arith) e
type_of_definition ts k_result b t e = lifted2 result_of (case_of ts (get_or b 0 0)) (case_of ts (get_or b 1 0)) t (λ a c. omega arith) e
type_of_definition ts k_fixed b t e = lifted (λ a. fixed_of a (get_or b 1 0)) (reference ts (get_or b 0 0)) t (λ a. omega arith) e

-- what is defined behind a test passed it
passed_test : (b : Bool) (x : ℕ) (l : Leaf Defined) (d : Defined) → cond b (refuses x) l ≡ is d → (b ≡ false) × (l ≡ is d)
passed_test true x l d e = absurd (impossible (cc))
passed_test false x l d e = (refl, e)

-- what comes through the last tests is neither too deep nor too large, and is the type that was tested, of the body's length
pub checked_is :
    (n : ℕ) (t : Ty) (d : Defined) → checked n (some t) ≡ is d →
    (is_too_deep (reach t) ≡ false) × (is_too_large mem32 t || is_too_large mem64 t ≡ false) × (record { type = t; length = n } ≡ d)
unfolding checked
checked_is n t d h =
    let deep = passed_test (is_too_deep (reach t)) too_deep _ d h in
    let large = passed_test (is_too_large mem32 t || is_too_large mem64 t) too_large (is (record { type = t; length = n })) d deep.1 in
    let same = large.1 in
    (deep.0, large.0, cc)

checked_accepted : (ts : List Ty) (k : Kind) (b : List ℕ) (n : ℕ) (o : Option Ty) (d : Defined) → type_of ts k b ≡ o → checked n o ≡ is d → Accepted d.type
unfolding checked is_too_deep
checked_accepted ts k b n none d e h = impossible (cc)
checked_accepted ts k b n (some t) d e h =
    let c = checked_is n t d h in
    let r : t ≡ d.type = ap (λ (x : Defined). x.type) c.2 in
    rw (← r) (record { definition = type_of_definition ts k b t e; shallow = ltb-false deepest (depth t) c.0; small = c.1 })

define_accepted : (ts : List Ty) (o : Option Kind) (ws : List ℕ) (d : Defined) → bodied ts o ws ≡ is d → Accepted d.type
unfolding bodied
define_accepted ts none ws d h = impossible (cc)
define_accepted ts (some k) ws d h =
    checked_accepted ts k (take (body_length (shape_of k) (get_or ws 0 0)) ws) (body_length (shape_of k) (get_or ws 0 0)) _ d refl
    (passed_test (is_bad_count k (get_or ws 0 0)) _ _ d (passed_test (ltb (length ws) (body_length (shape_of k) (get_or ws 0 0))) _ _ d h).1).1

-- it has a word at least after its kind word

pub checked_length : (n : ℕ) (o : Option Ty) (d : Defined) → checked n o ≡ is d → n ≡ d.length
unfolding checked
checked_length n none d h = impossible (cc)
checked_length n (some t) d h = ap (λ (x : Defined). x.length) (checked_is n t d h).2

pub define_some : (ts : List Ty) (o : Option Kind) (ws : List ℕ) (d : Defined) → bodied ts o ws ≡ is d → 1 ≤ d.length
unfolding bodied
define_some ts none ws d h = impossible (cc)
define_some ts (some k) ws d h =
    omega (
      arith,
      body_some k (get_or ws 0 0),
      checked_length (body_length (shape_of k) (get_or ws 0 0)) _ d
          (passed_test (is_bad_count k (get_or ws 0 0)) _ _ d (passed_test (ltb (length ws) (body_length (shape_of k) (get_or ws 0 0))) _ _ d h).1).1,
    )

-- what a build keeps true at each definition, of the room left and the types so far, holds at its end
pub build_keeps :
    (P : ℕ → List Ty → Type 0) →
    ((room : ℕ) (ts : List Ty) (w : ℕ) (ws : List ℕ) (d : Defined) → define ts w ws ≡ is d → P (suc room) ts → P room (ts ++ d.type ∷ [])) →
    (room : ℕ) (ts : List Ty) (ws : List ℕ) → P room ts → (left : ℕ) × P left (build_from room ts ws).types
unfolding build_from
build_keeps P step zero ts [] h = (zero, h)
build_keeps P step zero ts (w ∷ ws) h = (zero, h)
build_keeps P step (suc room) ts [] h = (suc room, h)
build_keeps P step (suc room) ts (w ∷ ws) h =
    go (define ts w ws) refl (λ ts' ws' h'. build_keeps P step room ts' ws' h')
  where
    go :
        (l : Leaf Defined) → define ts w ws ≡ l →
        ((ts' : List Ty) (ws' : List ℕ) → P room ts' → (left : ℕ) × P left (build_from room ts' ws').types) →
        (left : ℕ) × P left (follow ts ws l (λ ts' ws'. build_from room ts' ws')).types
    go (is d) e more = more (ts ++ d.type ∷ []) (drop d.length ws) (step room ts w ws d e h)
    go (refuses x) e more = (suc room, h)

every_snoc : (P : Ty → Type 0) (ts : List Ty) (t : Ty) → Every P ts → P t → Every P (ts ++ t ∷ [])
every_snoc P [] t v d = (d, tt)
every_snoc P (u ∷ ts) t v d = (v.0, every_snoc P ts t v.1 d)

-- accepted types, and no more than there is room for
pub record Sound (room : ℕ) (ts : List Ty) : Type 0 where
  pub passed : Every Accepted ts
  pub fits : length ts ≤ room

abbrev pub Keeps : ℕ → ℕ → List Ty → Type 0
Keeps room left ts = Every Accepted ts × (left + length ts ≤ room)

pub keeps_step : (room left : ℕ) (ts : List Ty) (w : ℕ) (ws : List ℕ) (d : Defined) → define ts w ws ≡ is d → Keeps room (suc left) ts → Keeps room left (ts ++ d.type ∷ [])
keeps_step room left ts w ws d e h =
    (every_snoc Accepted ts d.type h.0 (define_accepted ts (kind_of w) ws d e), omega (arith, length-append ts (d.type ∷ [])))

pub built_sound : (ws t : List ℕ) → Sound (capacity (length t)) (built ws t).types
unfolding build
built_sound ws t = go (capacity (length t)) (ltb most_words (length ws))
  where
    go : (room : ℕ) (b : Bool) → Sound room (cond b (record { types = []; stopped = some 1 }) (build_from room [] ws)).types
    go room true = record { passed = tt; fits = omega arith }
    go room false =
        let r = build_keeps (Keeps room) (keeps_step room) room [] ws (tt, omega arith) in
        record { passed = r.1.0; fits = omega (arith, r.1.1) }

-- The rows read back

pub every_sixteen : (ts : List Ty) → Every (λ r. length r ≡ 16) (map row_of ts)
unfolding row_of
every_sixteen [] = tt
every_sixteen (t ∷ ts) = (refl, every_sixteen ts)

-- the type that stands at a place
pub record At (ts : List Ty) (j : ℕ) : Type 0 where
  pub type : Ty
  pub found : get_elem? ts j ≡ some type
  pub row : get_or (map row_of ts) j [] ≡ row_of type
  pub passed : Accepted type

pub type_at : (ts : List Ty) (j : ℕ) → Every Accepted ts → j < length ts → At ts j
type_at [] j w h = absurd (omega arith)
type_at (t ∷ ts) zero w h = record { type = t; found = refl; row = refl; passed = w.0 }
type_at (t ∷ ts) (suc j) w h =
    let r = type_at ts j w.1 (omega arith) in
    record { type = r.type; found = r.found; row = r.row; passed = r.passed }

pub found_inside : (ts : List Ty) (i : ℕ) (t : Ty) → get_elem? ts i ≡ some t → i < length ts
found_inside [] i t e = impossible (cc)
found_inside (u ∷ ts) zero t e = omega arith
found_inside (u ∷ ts) (suc i) t e = omega (arith, found_inside ts i t e)

pub at_each : (P : Ty → Type 0) (ts : List Ty) → Every P ts → (k : ℕ) (t : Ty) → get_elem? ts k ≡ some t → P t
at_each P [] w k t e = impossible (cc)
at_each P (u ∷ ts) w zero t e = let f : u ≡ t = cc in rw f at w.0
at_each P (u ∷ ts) w (suc k) t e = at_each P ts w.1 k t e

found_take : (ts : List Ty) (n j : ℕ) → j < n → get_elem? (take n ts) j ≡ get_elem? ts j
found_take [] zero j h = absurd (omega arith)
found_take [] (suc n) j h = refl
found_take (t ∷ ts) zero j h = absurd (omega arith)
found_take (t ∷ ts) (suc n) zero h = refl
found_take (t ∷ ts) (suc n) (suc j) h = found_take ts n j (omega arith)

lost_take : (ts : List Ty) (n j : ℕ) → n ≤ j → get_elem? (take n ts) j ≡ none
lost_take [] zero j h = refl
lost_take [] (suc n) j h = refl
lost_take (t ∷ ts) zero j h = refl
lost_take (t ∷ ts) (suc n) zero h = absurd (omega arith)
lost_take (t ∷ ts) (suc n) (suc j) h = lost_take ts n j (omega arith)

-- what a reference to the types ts gives
abbrev pub type_info : List Ty → ℕ → Leaf Info
type_info ts w = plain_info (reference ts w)

-- the row i of a build's table is the one of its type i
pub row_built : (ws t : List ℕ) (i : ℕ) → i < length (built ws t).types → row_at (table_after ws t) i ≡ get_or (map row_of (built ws t).types) i []
unfolding table_after
row_built ws t i h =
    let ts = (built ws t).types in
    rw (length_put_rows (capacity (length t)) 0 (map row_of ts) t)
    (row_at_lem (capacity (length t)) (length t) (map row_of ts) t i (room_fits (length t)).1 (every_sixteen ts)
    (omega (arith, (built_sound ws t).fits, length-map ts row_of)) refl (omega (arith, length-map ts row_of)))

row_read : (ts : List Ty) (t : List ℕ) (j : ℕ) (room : ℕ) → Sound room ts → 16 * room ≤ length t → j < length ts →
    read_row (cells_from room (put_rows room 0 (map row_of ts) t) j 0 16) ≡ plain_info (get_elem? ts j)
unfolding read_row plain_info
row_read ts t j room s fits h =
    let r = type_at ts j s.passed h in
    rw (
      row_at_lem room (length t) (map row_of ts) t j fits (every_sixteen ts) (omega (arith, length-map ts row_of, s.fits)) refl (omega (arith, length-map ts row_of)),
      r.row,
      r.found,
      row_good r.type r.passed.definition r.passed.shallow,
      row_back r.type,
    )

-- reading any reference of a table whose first rows are those of ts gives what the types say
pub rows_read_lem : (ts : List Ty) (t : List ℕ) (n w : ℕ) → Sound (capacity (length t)) ts → n ≤ length ts →
    read (put_rows (capacity (length t)) 0 (map row_of ts) t) n w ≡ type_info (take n ts) w
unfolding read reference
rows_read_lem ts t n w s le = go (leb 64 w)
  where
    room : ℕ
    room = capacity (length t)

    after : List ℕ
    after = put_rows room 0 (map row_of ts) t

    row : (b : Bool) → ltb (w - 64) n ≡ b → cond b (read_row (cells_from (capacity (length after)) after (w - 64) 0 16)) (refuses bad_ref) ≡ plain_info (get_elem? (take n ts) (w - 64))
    row true h =
        let l : w - 64 < n = ltb-true (w - 64) n h in
        rw (length_put_rows room 0 (map row_of ts) t, found_take ts n (w - 64) l)
        (row_read ts t (w - 64) room s (room_fits (length t)).1 (omega arith))
    row false h = rw (lost_take ts n (w - 64) (ltb-false (w - 64) n h)) (unfold plain_info in refl)

    go : (b : Bool) → cond b (cond (ltb (w - 64) n) (read_row (cells_from (capacity (length after)) after (w - 64) 0 16)) (refuses bad_ref)) (plain_info (get_elem? plain w)) ≡ plain_info (cond b (get_elem? (take n ts) (w - 64)) (get_elem? plain w))
    go true = row (ltb (w - 64) n) refl
    go false = refl

-- so every question that reads a table through `read` asks the first n types themselves
pub reads_built : (ws t : List ℕ) (n : ℕ) → n ≤ length (built ws t).types → read (table_after ws t) n ≡ type_info (take n (built ws t).types)
unfolding table_after
reads_built ws t n le = fun_ext (λ w. rows_read_lem (built ws t).types t n w (built_sound ws t) le)
