-- Size and alignment of each type in one memory (CanonicalABI.md, alignment and elem_size; 01, "Layout rules").
use Rattle.std.specs.Prelude.{cond, List, [], ◌∷◌, ◌++◌, ℕ, ◌+◌, ◌-◌, ◌*◌, ◌/◌, max, leb}
use Rattle.canon.specs.Types.{Ty, scalar, string, record_of, variant_of, list_of, tuple_of, map_of, flags_of, enum_of, option_of, result_of, fixed_of, facts, Members, ∅, ◌◂◌, Case, bare, holding, Cases, ∎, ◌▸◌, count}

-- the memory, by the width of its pointers
pub data Memory : Type 0 where
  mem32 mem64 : Memory

-- what each of the two memories has
pub record Both (A : Type 0) : Type 0 where
  pub in32 : A
  pub in64 : A

abbrev pub both : {A : Type 0} → (Memory → A) → Both A
both f = record { in32 = f mem32; in64 = f mem64 }

abbrev pub within : {A : Type 0} → Memory → Both A → A
within mem32 b = b.in32
within mem64 b = b.in64

-- what a place in memory has to know of a type
pub record Layout : Type 0 where
  pub size : ℕ
  pub align : ℕ

-- as large as it is aligned
abbrev pub square : ℕ → Layout
square n = record { size = n; align = n }

-- CanonicalABI.md, ptr_size
abbrev pub ptr_size : Memory → ℕ
ptr_size mem32 = 4
ptr_size mem64 = 8

-- a pointer and a length. 01: "String, list, map: 8 with alignment 4, or 16 with alignment 8"
abbrev pub pair_layout : Memory → Layout
pair_layout m = record { size = ptr_size m + ptr_size m; align = ptr_size m }

-- align_to: the quotient x / a rounded up, times a
unfoldable pub round_up : ℕ → ℕ → ℕ
round_up x a = (x + (a - 1)) / a * a

-- alignment_record and max_case_alignment: "the greatest of the members', 1 for none"
unfoldable pub greatest_align : List Layout → ℕ
greatest_align [] = 1
greatest_align (f ∷ fs) = max f.align (greatest_align fs)

-- 01: "each member starts at the first multiple of its alignment at or after the end before it"; e is that end
abbrev pub end_after : ℕ → Layout → ℕ
end_after e f = round_up e f.align + f.size

unfoldable pub starts : ℕ → List Layout → List ℕ
starts e [] = []
starts e (f ∷ fs) = round_up e f.align ∷ starts (end_after e f) fs

unfoldable pub ends : ℕ → List Layout → List ℕ
ends e [] = []
ends e (f ∷ fs) = end_after e f ∷ ends (end_after e f) fs

unfoldable pub last_end : ℕ → List Layout → ℕ
last_end e [] = e
last_end e (f ∷ fs) = last_end (end_after e f) fs

-- elem_size_record: "the last end rounded up to it"
unfoldable pub record_size : List Layout → ℕ
record_size fs = round_up (last_end 0 fs) (greatest_align fs)

abbrev pub record_layout : List Layout → Layout
record_layout fs = record { size = record_size fs; align = greatest_align fs }

-- discriminant_type of n cases: "1 byte for n up to 256, 2 up to 65,536, else 4"
abbrev pub discriminant : ℕ → ℕ
discriminant n = cond (leb n 256) 1 (cond (leb n 65536) 2 4)

unfoldable pub greatest_size : List Layout → ℕ
greatest_size [] = 0
greatest_size (f ∷ fs) = max f.size (greatest_size fs)

-- alignment_variant, of n cases whose payloads have the layouts fs: "the greatest of the discriminant's and all payloads'"
abbrev pub variant_align : ℕ → List Layout → ℕ
variant_align n fs = max (discriminant n) (greatest_align fs)

-- elem_size_variant rounds the discriminant's size up to the payloads' alignment alone
unfoldable pub payload_offset : ℕ → List Layout → ℕ
payload_offset n fs = round_up (discriminant n) (greatest_align fs)

-- "payload offset plus greatest payload, rounded up"
unfoldable pub variant_size : ℕ → List Layout → ℕ
variant_size n fs = round_up (payload_offset n fs + greatest_size fs) (variant_align n fs)

abbrev pub variant_layout : ℕ → List Layout → Layout
variant_layout n fs = record { size = variant_size n fs; align = variant_align n fs }

-- refusal 5, as order 4 amends it: "flags above 512"
abbrev pub most_flags : ℕ
most_flags = 512

-- "started group of 32 labels": how many there are of n labels
abbrev pub groups : ℕ → ℕ
groups n = (n + 31) / 32

-- "four bytes for each started group of 32 labels, alignment 4"
abbrev pub grouped : ℕ → Layout
grouped k = record { size = 4 * k; align = 4 }

-- 01: "n = 0 gives 0, 1, flat 0; to 8, one byte; to 16, two; to 32, four": these four bytes are one group, and above there are more
abbrev pub flags_layout : ℕ → Layout
flags_layout n = cond (leb n 0) (record { size = 0; align = 1 }) (cond (leb n 8) (square 1) (cond (leb n 16) (square 2) (grouped (groups n))))

-- 01: "size times count, element's alignment"
abbrev pub fixed_layout : Layout → ℕ → Layout
fixed_layout f n = record { size = f.size * n; align = f.align }

-- 01: "Enum: a variant without payloads. Option: cases none, some. Result: ok, err."
module _ (m : Memory) where
  unfoldable mutual
    pub layout : Ty → Layout
    layout (scalar s) = square (facts s).size
    layout string = pair_layout m
    layout (record_of ts) = record_layout (members ts)
    layout (variant_of cs) = variant_layout (count cs) (payloads cs)
    layout (list_of t) = pair_layout m
    layout (tuple_of ts) = record_layout (members ts)
    layout (map_of k v) = pair_layout m
    layout (flags_of n) = flags_layout n
    layout (enum_of n) = variant_layout n []
    layout (option_of t) = variant_layout 2 (layout t ∷ [])
    layout (result_of ok err) = variant_layout 2 (payload ok ++ payload err)
    layout (fixed_of t n) = fixed_layout (layout t) n

    pub members : Members → List Layout
    members ∅ = []
    members (t ◂ ts) = layout t ∷ members ts

    pub payload : Case → List Layout
    payload bare = []
    payload (holding t) = layout t ∷ []

    pub payloads : Cases → List Layout
    payloads ∎ = []
    payloads (c ▸ cs) = payload c ++ payloads cs

-- 01, refusal 6: "a start, end or size above 4294967295"

abbrev pub largest_number : ℕ
largest_number = 4294967295

-- every start, every end and the size of a record of these members
abbrev pub record_numbers : List Layout → List ℕ
record_numbers fs = starts 0 fs ++ ends 0 fs ++ record_size fs ∷ []

-- where the payload starts and the greatest ends, and the size
abbrev pub variant_numbers : ℕ → List Layout → List ℕ
variant_numbers n fs = payload_offset n fs ∷ (payload_offset n fs + greatest_size fs) ∷ variant_size n fs ∷ []

-- every number that has to fit; of a map its entry's, too: "Map entry: a tuple of key and value"
unfoldable pub numbers : Memory → Ty → List ℕ
numbers m (scalar s) = (layout m (scalar s)).size ∷ []
numbers m string = (layout m string).size ∷ []
numbers m (record_of ts) = record_numbers (members m ts)
numbers m (variant_of cs) = variant_numbers (count cs) (payloads m cs)
numbers m (list_of t) = (layout m (list_of t)).size ∷ []
numbers m (tuple_of ts) = record_numbers (members m ts)
numbers m (map_of k v) = (layout m (map_of k v)).size ∷ record_numbers (layout m k ∷ layout m v ∷ [])
numbers m (flags_of n) = (layout m (flags_of n)).size ∷ []
numbers m (enum_of n) = variant_numbers n []
numbers m (option_of t) = variant_numbers 2 (layout m t ∷ [])
numbers m (result_of ok err) = variant_numbers 2 (payload m ok ++ payload m err)
numbers m (fixed_of t n) = (layout m (fixed_of t n)).size ∷ []
