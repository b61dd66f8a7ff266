-- The standard's despecialize changes neither layout nor flat list nor flat count: an enum of n is a variant of n bare cases, option and result
-- are variants of two cases, a tuple is a record, a map the list of its entries. Nor does it change what is reached, but for the depth of a map.
use mathlib.Core.Path.{◌≡◌, refl, ap, ◌∙◌}
use mathlib.Core.Bool.{cond}
use mathlib.Core.List.{List, [], ◌++◌, append-nil}
use mathlib.Core.Option.{Option}
use Prim.Native.Nat.{ℕ, zero, suc}
use lib.Dec.{eqb}
use Rattle.canon.specs.Types.{Ty, scalar, string, record_of, variant_of, list_of, tuple_of, map_of, flags_of, enum_of, option_of, result_of, fixed_of, Members, ∅, ◌◂◌, Case, bare, holding, Cases, ∎, ◌▸◌, count, Core, k_map, kind_word}
use Rattle.canon.specs.Layout.{Memory, Layout, layout, payload, payloads, variant_layout}
use Rattle.canon.specs.Flat.{flatten, payload_flat, payload_flats, variant_flat, flat_count, payload_count, payload_counts, variant_count}
use Rattle.canon.specs.Reach.{Reach, no_reach, join_reach, deeper, reach, payload_reach, case_reach}
use Rattle.canon.specs.Row.{row_kind, inner, cases_inner}
use Rattle.canon.proofs.Reaches.{no_reach_join, join_no_reach}

abbrev pub bare_cases : ℕ → Cases
bare_cases zero = ∎
bare_cases (suc n) = bare ▸ bare_cases n

-- 01: "Map entry: a tuple of key and value"
abbrev pub entry_of : Ty → Ty → Ty
entry_of k v = tuple_of (k ◂ v ◂ ∅)

-- CanonicalABI.md, despecialize. 01: "Enum: a variant without payloads. Option: cases none, some. Result: ok, err."
unfoldable pub despecialize : Ty → Ty
despecialize (scalar s) = scalar s
despecialize string = string
despecialize (record_of ts) = record_of ts
despecialize (variant_of cs) = variant_of cs
despecialize (list_of t) = list_of t
despecialize (tuple_of ts) = record_of ts
despecialize (map_of k v) = list_of (entry_of k v)
despecialize (flags_of n) = flags_of n
despecialize (enum_of n) = variant_of (bare_cases n)
despecialize (option_of t) = variant_of (bare ▸ holding t ▸ ∎)
despecialize (result_of ok err) = variant_of (ok ▸ err ▸ ∎)
despecialize (fixed_of t n) = fixed_of t n

-- of bare cases there are n, and nothing else

count_bare : (n : ℕ) → count (bare_cases n) ≡ n
count_bare zero = refl
count_bare (suc n) = ap suc (count_bare n)

payloads_bare : (m : Memory) (n : ℕ) → payloads m (bare_cases n) ≡ []
unfolding payloads
payloads_bare m zero = refl
payloads_bare m (suc n) = payloads_bare m n

payload_flats_bare : (m : Memory) (n : ℕ) → payload_flats m (bare_cases n) ≡ []
unfolding payload_flats
payload_flats_bare m zero = refl
payload_flats_bare m (suc n) = payload_flats_bare m n

payload_counts_bare : (n : ℕ) → payload_counts (bare_cases n) ≡ []
unfolding payload_counts
payload_counts_bare zero = refl
payload_counts_bare (suc n) = payload_counts_bare n

case_reach_bare : (n : ℕ) → case_reach (bare_cases n) ≡ no_reach
unfolding case_reach
case_reach_bare zero = refl
case_reach_bare (suc n) = no_reach_join (case_reach (bare_cases n)) ∙ case_reach_bare n

-- what despecialize spells anew is one of five kinds
unchanged :
    {A : Type 0} (f : Ty → A) →
    ((ts : Members) → f (record_of ts) ≡ f (tuple_of ts)) →
    ((k v : Ty) → f (list_of (entry_of k v)) ≡ f (map_of k v)) →
    ((n : ℕ) → f (variant_of (bare_cases n)) ≡ f (enum_of n)) →
    ((t : Ty) → f (variant_of (bare ▸ holding t ▸ ∎)) ≡ f (option_of t)) →
    ((ok err : Case) → f (variant_of (ok ▸ err ▸ ∎)) ≡ f (result_of ok err)) →
    (t : Ty) → f (despecialize t) ≡ f t
unfolding despecialize
unchanged f tup map enum opt res (scalar s) = refl
unchanged f tup map enum opt res string = refl
unchanged f tup map enum opt res (record_of ts) = refl
unchanged f tup map enum opt res (variant_of cs) = refl
unchanged f tup map enum opt res (list_of t) = refl
unchanged f tup map enum opt res (tuple_of ts) = tup ts
unchanged f tup map enum opt res (map_of k v) = map k v
unchanged f tup map enum opt res (flags_of n) = refl
unchanged f tup map enum opt res (enum_of n) = enum n
unchanged f tup map enum opt res (option_of t) = opt t
unchanged f tup map enum opt res (result_of ok err) = res ok err
unchanged f tup map enum opt res (fixed_of t n) = refl

pub same_layout : (m : Memory) (t : Ty) → layout m (despecialize t) ≡ layout m t
unfolding layout
same_layout m =
    unchanged (layout m) (λ ts. refl) (λ k v. refl) (λ n. rw (count_bare n, payloads_bare m n)) (λ t. refl)
    (λ ok err. ap (λ (l : List Layout). variant_layout 2 (payload m ok ++ l)) (append-nil (payload m err)))

pub same_flat : (m : Memory) (t : Ty) → flatten m (despecialize t) ≡ flatten m t
unfolding flatten
same_flat m =
    unchanged (flatten m) (λ ts. refl) (λ k v. refl) (λ n. ap variant_flat (payload_flats_bare m n)) (λ t. refl)
    (λ ok err. ap (λ (l : List (List Core)). variant_flat (payload_flat m ok ++ l)) (append-nil (payload_flat m err)))

pub same_count : (t : Ty) → flat_count (despecialize t) ≡ flat_count t
unfolding flat_count
same_count =
    unchanged flat_count (λ ts. refl) (λ k v. refl) (λ n. ap variant_count (payload_counts_bare n)) (λ t. refl)
    (λ ok err. ap (λ (l : List (Option ℕ)). variant_count (payload_count ok ++ l)) (append-nil (payload_count err)))

-- of the cases that option and result stand for

pub option_reach : (t : Ty) → case_reach (bare ▸ holding t ▸ ∎) ≡ reach t
unfolding case_reach
option_reach t = no_reach_join (join_reach (reach t) no_reach) ∙ join_no_reach (reach t)

pub result_reach : (ok err : Case) → case_reach (ok ▸ err ▸ ∎) ≡ join_reach (payload_reach ok) (payload_reach err)
unfolding case_reach
result_reach ok err = ap (join_reach (payload_reach ok)) (join_no_reach (payload_reach err))

-- a map's list of entries is a definition deeper than the map
pub same_reach : (t : Ty) → reach (despecialize t) ≡ cond (eqb (row_kind t) (kind_word k_map)) (deeper (reach t)) (reach t)
unfolding despecialize reach
same_reach (scalar s) = refl
same_reach string = refl
same_reach (record_of ts) = refl
same_reach (variant_of cs) = refl
same_reach (list_of t) = refl
same_reach (tuple_of ts) = refl
same_reach (map_of k v) = ap (λ (r : Reach). deeper (deeper (join_reach (reach k) r))) (join_no_reach (reach v))
same_reach (flags_of n) = refl
same_reach (enum_of n) = ap deeper (case_reach_bare n)
same_reach (option_of t) = ap deeper (option_reach t)
same_reach (result_of ok err) = ap deeper (result_reach ok err)
same_reach (fixed_of t n) = refl

-- the words 8 to 14 of a row: a variant's of the variant that the kind stands for, a map's entry of the tuple
pub same_enum : (m : Memory) (n : ℕ) → inner m (despecialize (enum_of n)) ≡ inner m (enum_of n)
unfolding despecialize
same_enum m n = rw (count_bare n, payloads_bare m n)

pub same_option : (m : Memory) (t : Ty) → inner m (despecialize (option_of t)) ≡ inner m (option_of t)
unfolding despecialize layout
same_option m t = refl

pub same_result : (m : Memory) (ok err : Case) → inner m (despecialize (result_of ok err)) ≡ inner m (result_of ok err)
unfolding despecialize layout
same_result m ok err = ap (λ (l : List Layout). cases_inner 2 (payload m ok ++ l)) (append-nil (payload m err))

pub same_entry : (m : Memory) (k v : Ty) → (inner m (map_of k v)).entry ≡ layout m (entry_of k v)
unfolding layout
same_entry m k v = refl
