-- One memory's step, as the code takes it, for every number. The end stops at 4 GiB, so that too large stays too large.
-- Over aligned layouts it is canon's exact end (proofs/ExtentLaws).
use Rattle.std.specs.Prelude.{Bool, cond, ◌||◌, ℕ, ◌+◌, ◌-◌, ◌%◌, max, min, ltb, eqb}
use Rattle.canon.specs.Answer.{Leaf, is, no, too_large}
use Rattle.canon.specs.Layout.{Both, both, within, Layout, round_up, largest_number}
use Rattle.canon.specs.Placement.{four_gib}
use Rattle.types.specs.declared.extent.Extent.{Extent}
use Rattle.types.specs.declared.extent.Step.{Step}
use Rattle.types.specs.declared.round.Rounded.{Rounded}

-- the unit of rounding: the greatest of 8, 4, 2 and 1 that divides the number. So an alignment is its own (proofs/RoundLaws)
unfoldable pub unit_of : ℕ → ℕ
unit_of a = cond (eqb (a % 8) 0) 8 (cond (eqb (a % 4) 0) 4 (cond (eqb (a % 2) 0) 2 1))

-- canon's rounding, to that unit
unfoldable pub rounded : ℕ → ℕ → ℕ
rounded x a = round_up x (unit_of a)

-- "the rounded value with the bytes it skipped"
abbrev pub rounded_up : ℕ → ℕ → Rounded ℕ
rounded_up x a = record { value = rounded x a; skipped = rounded x a - x }

-- the extent of an exact end
unfoldable pub extent_at : ℕ → ℕ → Extent
extent_at e a = record { end = min e four_gib; align = a }

abbrev pub start_extent : Extent
start_extent = record { end = 0; align = 1 }

-- a member at a rounded end, in an extent of the alignment a
abbrev step_at : Rounded ℕ → ℕ → Layout → Step
step_at up a f = record { start = up.value; skipped = up.skipped; extent = extent_at (up.value + f.size) (max a f.align) }

-- one member more, wherever the extent ends
unfoldable pub member_of : Extent → Layout → Step
member_of x f = step_at (rounded_up (min x.end four_gib) f.align) x.align f

-- one more member of no size
unfoldable pub closing : Extent → Step
closing x = member_of x (record { size = 0; align = x.align })

abbrev pub close_of : Extent → Extent
close_of x = (closing x).extent

-- the greater size and the greater alignment
abbrev pub widest : Layout → Layout → Layout
widest f g = record { size = max f.size g.size; align = max f.align g.align }

abbrev closed_step : Step → Step
closed_step s = record { start = s.start; skipped = s.skipped; extent = close_of s.extent }

-- a discriminant of d bytes, payloads of s bytes and the alignment a of both
abbrev variant_at : ℕ → ℕ → ℕ → Step
variant_at d s a = closed_step (member_of (record { end = d; align = a }) (record { size = s; align = a }))

-- a discriminant of d bytes and room for the payloads f. 01: "The payload starts at the discriminant size rounded up to the variant's
-- alignment", "Size is payload offset plus greatest payload, rounded up"
unfoldable pub variant_step : ℕ → Layout → Step
variant_step d f = variant_at d f.size (max d f.align)

-- refusal 6: "a start, end or size above 4294967295"
abbrev pub is_large : Extent → Bool
is_large x = ltb largest_number x.end

abbrev pub layout_of : Extent → Layout
layout_of x = record { size = x.end; align = x.align }

-- a number, and the layout that a closed extent has come to, where they fit
abbrev pub fitted_number : ℕ → Leaf ℕ
fitted_number n = cond (ltb largest_number n) (no too_large) (is n)

abbrev pub fitted_layout : Extent → Leaf Layout
fitted_layout x = cond (is_large x) (no too_large) (is (layout_of x))

-- what closed extents have come to. 01: "in either memory"
unfoldable pub fitted_of : Both Extent → Leaf (Both Layout)
fitted_of es = cond (is_large es.in32 || is_large es.in64) (no too_large) (is (both (λ m. layout_of (within m es))))
