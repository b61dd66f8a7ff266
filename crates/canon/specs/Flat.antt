-- Flat types of each type (CanonicalABI.md, flatten_type and join), and 01's flat count.
use Rattle.std.specs.Prelude.{Bool, cond, ◌||◌, ◌&&◌, List, [], ◌∷◌, ◌++◌, ℕ, zero, suc, ◌+◌, ◌*◌, max, leb, eqb}
use Rattle.std.proofs.Math.Option.{Option, none, some}
use Rattle.canon.specs.Types.{Ty, scalar, string, record_of, variant_of, list_of, tuple_of, map_of, flags_of, enum_of, option_of, result_of, fixed_of, Core, I32, I64, F32, facts, Members, ∅, ◌◂◌, Case, bare, holding, Cases, ∎, ◌▸◌}
use Rattle.canon.specs.Layout.{Memory, mem32, mem64, groups}
use Rattle.canon.specs.Pack.{code}

-- CanonicalABI.md, ptr_type
abbrev pub ptr_type : Memory → Core
ptr_type mem32 = I32
ptr_type mem64 = I64

-- 01: "pairs two of the pointer type"
abbrev pub pair_flat : Memory → List Core
pair_flat m = ptr_type m ∷ ptr_type m ∷ []

abbrev same : Core → Core → Bool
same a b = eqb (code a) (code b)

-- join: "equal types stay, I32 with F32 gives I32, all other pairs I64"
abbrev pub join : Core → Core → Core
join a b = cond (same a b) a (cond (same a I32 && same b F32 || same a F32 && same b I32) I32 I64)

-- "joined place by place": where one list ends, the other goes on
unfoldable pub join_lists : List Core → List Core → List Core
join_lists [] bs = bs
join_lists (a ∷ as') [] = a ∷ as'
join_lists (a ∷ as') (b ∷ bs) = join a b ∷ join_lists as' bs

-- flatten_variant: the payloads one after another into the list so far
unfoldable pub join_all : List Core → List (List Core) → List Core
join_all acc [] = acc
join_all acc (l ∷ ls) = join_all (join_lists acc l) ls

-- flatten_record
unfoldable pub concat : List (List Core) → List Core
concat [] = []
concat (l ∷ ls) = l ++ concat ls

-- the element's list, n times
unfoldable pub copies : ℕ → List Core → List Core
copies zero l = []
copies (suc n) l = l ++ copies n l

-- 01: "flat one I32 for each" started group of 32 labels; flatten_flags, for 32 labels at most, has one
abbrev pub flags_flat : ℕ → List Core
flags_flat n = copies (groups n) (I32 ∷ [])

-- 01: "A variant gives I32, then cases joined place by place"
abbrev pub variant_flat : List (List Core) → List Core
variant_flat ls = I32 ∷ join_all [] ls

module _ (m : Memory) where
  unfoldable mutual
    pub flatten : Ty → List Core
    flatten (scalar s) = (facts s).core ∷ []
    flatten string = pair_flat m
    flatten (record_of ts) = concat (member_flats ts)
    flatten (variant_of cs) = variant_flat (payload_flats cs)
    flatten (list_of t) = pair_flat m
    flatten (tuple_of ts) = concat (member_flats ts)
    flatten (map_of k v) = pair_flat m
    flatten (flags_of n) = flags_flat n
    flatten (enum_of n) = variant_flat []
    flatten (option_of t) = variant_flat (flatten t ∷ [])
    flatten (result_of ok err) = variant_flat (payload_flat ok ++ payload_flat err)
    flatten (fixed_of t n) = copies n (flatten t)

    pub member_flats : Members → List (List Core)
    member_flats ∅ = []
    member_flats (t ◂ ts) = flatten t ∷ member_flats ts

    pub payload_flat : Case → List (List Core)
    payload_flat bare = []
    payload_flat (holding t) = flatten t ∷ []

    pub payload_flats : Cases → List (List Core)
    payload_flats ∎ = []
    payload_flats (c ▸ cs) = payload_flat c ++ payload_flats cs

-- Flat counts. 01: "a sum or product above 16 is none, and none in a part makes the whole none"

abbrev pub capped : ℕ → Option ℕ
capped n = cond (leb n 16) (some n) none

unfoldable pub add_flat : Option ℕ → Option ℕ → Option ℕ
add_flat none b = none
add_flat (some m) none = none
add_flat (some m) (some n) = capped (m + n)

unfoldable pub max_flat : Option ℕ → Option ℕ → Option ℕ
max_flat none b = none
max_flat (some m) none = none
max_flat (some m) (some n) = some (max m n)

-- "Count 0 gives size 0; its flat count is 0, but none if the element's is none"
unfoldable pub times_flat : Option ℕ → ℕ → Option ℕ
times_flat none n = none
times_flat (some m) n = capped (m * n)

-- "Flat is the sum"
unfoldable pub sum_flat : List (Option ℕ) → Option ℕ
sum_flat [] = some 0
sum_flat (a ∷ as') = add_flat a (sum_flat as')

unfoldable pub greatest_flat : List (Option ℕ) → Option ℕ
greatest_flat [] = some 0
greatest_flat (a ∷ as') = max_flat a (greatest_flat as')

-- "Flat is 1 plus the greatest"
abbrev pub variant_count : List (Option ℕ) → Option ℕ
variant_count as' = add_flat (some 1) (greatest_flat as')

-- as many as there are groups
abbrev pub flags_count : ℕ → Option ℕ
flags_count n = capped (groups n)

-- "flat 1" of a scalar, "flat 2" of a string, list or map
unfoldable mutual
  pub flat_count : Ty → Option ℕ
  flat_count (scalar s) = some 1
  flat_count string = some 2
  flat_count (record_of ts) = sum_flat (member_counts ts)
  flat_count (variant_of cs) = variant_count (payload_counts cs)
  flat_count (list_of t) = some 2
  flat_count (tuple_of ts) = sum_flat (member_counts ts)
  flat_count (map_of k v) = some 2
  flat_count (flags_of n) = flags_count n
  flat_count (enum_of n) = variant_count []
  flat_count (option_of t) = variant_count (flat_count t ∷ [])
  flat_count (result_of ok err) = variant_count (payload_count ok ++ payload_count err)
  flat_count (fixed_of t n) = times_flat (flat_count t) n

  pub member_counts : Members → List (Option ℕ)
  member_counts ∅ = []
  member_counts (t ◂ ts) = flat_count t ∷ member_counts ts

  pub payload_count : Case → List (Option ℕ)
  payload_count bare = []
  payload_count (holding t) = flat_count t ∷ []

  pub payload_counts : Cases → List (Option ℕ)
  payload_counts ∎ = []
  payload_counts (c ▸ cs) = payload_count c ++ payload_counts cs
