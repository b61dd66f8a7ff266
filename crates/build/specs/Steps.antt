-- The row of each kind from what its references give, step by step as the code takes them.
use Rattle.std.specs.Prelude.{cond, List, [], ◌∷◌, ℕ, ◌-◌, leb, ltb, eqb}
use Rattle.std.proofs.Math.Option.{Option, none, some}
use Rattle.std.proofs.Math.ListN.{get_elem?}
use Rattle.canon.specs.Answer.{Leaf, is, no, bad_ref, and_then}
use Rattle.canon.specs.Layout.{Both, both, within, Layout}
use Rattle.canon.specs.Pack.{Packed}
use Rattle.canon.specs.Description.{mark}
use Rattle.canon.specs.Question.{plain_info}
use Rattle.canon.specs.Row.{count_word, Inner, no_inner, no_layout, Info, row_info, row_words, info_layout}
use Rattle.canon.specs.Types.{plain}
use Rattle.canon.specs.Reach.{Reach, no_reach, join_reach}
use Rattle.types.specs.Extents.{start_extent, member_of, close_of, variant_step, widest, fitted_of}
use Rattle.types.specs.declared.extent.Extent.{Extent}
use Rattle.flat_types.specs.Lists.{whole, memory_words}
use Rattle.flat_types.specs.Places.{append_to, one_i32, joined}
use Rattle.table.specs.Means.{deeper_answer}
use Rattle.table.specs.Rows.{row_in}

-- References

-- what a reference in definition i gives, over the table t
unfoldable pub member_look : List ℕ → ℕ → ℕ → Leaf Info
member_look t i w = cond (leb 64 w) (cond (ltb (w - 64) i) (is (row_info (row_in t (w - 64)))) (no bad_ref)) (plain_info (get_elem? plain w))

-- a payload, or none for the mark
unfoldable pub case_look : (ℕ → Leaf Info) → ℕ → Leaf (Option Info)
case_look look w = cond (eqb w mark) (is none) (and_then (look w) (λ i. is (some i)))

-- one reference after another into a state; the first bad one decides
unfoldable pub fold_refs : {S : Type 0} → (S → ℕ → Leaf S) → List ℕ → S → Leaf S
fold_refs next [] s = is s
fold_refs next (w ∷ ws) s = and_then (next s w) (fold_refs next ws)

-- Rows

abbrev pub pair_of : {A : Type 0} → A → A → Both A
pair_of a b = record { in32 = a; in64 = b }

-- of a list or a map: two pointers
abbrev pub pair_words : ℕ → Both Inner → Reach → List ℕ
pair_words kind ns reached =
    row_words kind
    (pair_of (record { size = 8; align = 4 }) (record { size = 16; align = 8 }))
    (pair_of (record { number = 2; types = 0 }) (record { number = 2; types = 5 }))
    ns reached

-- what a definition is within the limits of depth and size
pub record LimitedIs : Type 0 where
  pub layouts : Both Layout
  pub reach : Reach

-- of closed extents, by what the references reach: "TooDeep, TooLarge"
unfoldable pub limited_of : Both Extent → Reach → Leaf LimitedIs
limited_of es parts = and_then (deeper_answer parts) (λ r. and_then (fitted_of es) (λ ls. is (record { layouts = ls; reach = r })))

-- and its row
unfoldable pub fit_row : Both Extent → Reach → (Both Layout → Reach → List ℕ) → Leaf (List ℕ)
fit_row es parts k = and_then (limited_of es parts) (λ c. is (k c.layouts c.reach))

-- the flat words of an info, both memories' in one number
abbrev pub info_flat : Info → Packed
info_flat i = record { number = count_word i.abi.flats; types = whole i.flat_words }

-- in each memory
abbrev pub in_each : Packed → Both Packed
in_each p = both (λ m. memory_words m p)

abbrev pub no_words : Packed
no_words = record { number = 0; types = 0 }

-- Members

pub record MembersIs : Type 0 where
  pub extents : Both Extent
  pub flat : Packed
  pub reach : Reach

abbrev pub no_members : MembersIs
no_members = record { extents = both (λ m. start_extent); flat = no_words; reach = no_reach }

unfoldable pub add_member : MembersIs → Info → MembersIs
add_member s i =
    record {
      extents = both (λ m. (member_of (within m s.extents) (info_layout m i)).extent);
      flat = append_to 16 s.flat (info_flat i);
      reach = join_reach s.reach i.reach;
    }

-- with what one more reference gives
abbrev pub with_member : (ℕ → Leaf Info) → MembersIs → ℕ → Leaf MembersIs
with_member look s w = and_then (look w) (λ i. is (add_member s i))

unfoldable pub members_row : ℕ → MembersIs → Leaf (List ℕ)
members_row kind s =
    fit_row (both (λ m. close_of (within m s.extents))) s.reach (λ ls. row_words kind ls (in_each s.flat) (both (λ m. no_inner)))

-- Payloads

pub record PayloadsIs : Type 0 where
  pub layouts : Both Layout
  pub flat : Packed
  pub reach : Reach

abbrev pub no_payloads : PayloadsIs
no_payloads = record { layouts = both (λ m. record { size = 0; align = 1 }); flat = no_words; reach = no_reach }

unfoldable pub add_payload : PayloadsIs → Info → PayloadsIs
add_payload s i =
    record {
      layouts = both (λ m. widest (within m s.layouts) (info_layout m i));
      flat = joined s.flat (info_flat i);
      reach = join_reach s.reach i.reach;
    }

unfoldable pub add_if_payload : PayloadsIs → Option Info → PayloadsIs
add_if_payload s none = s
add_if_payload s (some i) = add_payload s i

abbrev pub with_case : (ℕ → Leaf Info) → PayloadsIs → ℕ → Leaf PayloadsIs
with_case look s w = and_then (case_look look w) (λ c. is (add_if_payload s c))

unfoldable pub payloads_row : ℕ → ℕ → PayloadsIs → Leaf (List ℕ)
payloads_row kind d s =
    fit_row (both (λ m. (variant_step d (within m s.layouts)).extent)) s.reach
    (λ ls. row_words kind ls
    (in_each (append_to 16 one_i32 s.flat))
    (both (λ m. record { disc = d; offset = (variant_step d (within m s.layouts)).start; entry = no_layout })))
