-- What a build accepts: every type of it fits both memories, its row stands at its index, and a record's or tuple's layout is the tightest.
use mathlib.Core.Path.{◌≡◌, refl, sym, ap, ◌∙◌}
use mathlib.Core.Bool.{Bool, true, false, ◌||◌}
use mathlib.Core.List.{List}
use mathlib.Core.Option.{Option, none, some}
use Prim.Native.Nat.{ℕ, ◌<◌}
use native.Mathlib.Omega.{arith}
use lib.Dec.{ltb}
use lib.ListN.{length, get_elem?}
use borrow.Author.Tests.{ltb-false}
use Rattle.canon.specs.Types.{Ty, record_of, tuple_of, Members, Kind}
use Rattle.canon.specs.Layout.{Memory, mem32, mem64, within, largest_number, starts, record_size, record_layout, layout, members}
use Rattle.canon.specs.Row.{row_abi, row_of}
use Rattle.canon.specs.Table.{row_at}
use Rattle.canon.specs.Description.{is_too_large, answered, built, build_answer, table_after}
use Rattle.canon.proofs.Tests.{impossible}
use Rattle.canon.proofs.Alignments.{members_aligned}
use Rattle.canon.proofs.Tightest.{greatest_align_least, ours, tightest}
use Rattle.canon.proofs.Sizes.{too_large_size}
use Rattle.canon.proofs.Built.{found_inside, built_sound, At, type_at, row_built}
use Rattle.canon.proofs.Refusals.{Product, a_record, a_tuple, Tightest}
use Rattle.build.specs.Means.{accepted}

-- How many are accepted

pub accepted_types : (ws t : List ℕ) → accepted (build_answer ws t) ≡ length (built ws t).types
unfolding build_answer
accepted_types ws t = go (built ws t).stopped
  where
    go : (o : Option ℕ) → accepted (answered (length (built ws t).types) o) ≡ length (built ws t).types
    go none = refl
    go (some x) = refl

-- Its row

module _ (ws t : List ℕ) (i : ℕ) (u : Ty) (stands : get_elem? (built ws t).types i ≡ some u) where
  inside : i < length (built ws t).types
  inside = found_inside (built ws t).types i u stands

  at : At (built ws t).types i
  at = type_at (built ws t).types i (built_sound ws t).passed inside

  it : at.type ≡ u
  it = let found = at.found in cc

  pub row_is : row_at (table_after ws t) i ≡ row_of u
  row_is = row_built ws t i inside ∙ at.row ∙ ap row_of it

  pub fits_in : (m : Memory) → is_too_large m u ≡ false
  fits_in m = rw (← it) (go m (is_too_large mem32 at.type) (is_too_large mem64 at.type) refl refl at.passed.small)
    where
      go : (m : Memory) (b c : Bool) → is_too_large mem32 at.type ≡ b → is_too_large mem64 at.type ≡ c → b || c ≡ false → is_too_large m at.type ≡ false
      go m true c p q h = impossible (cc)
      go mem32 false c p q h = p
      go mem64 false c p q h = q ∙ h

-- Its layout

pub row_layout : (m : Memory) (t : Ty) → within m (row_abi (row_of t)).layouts ≡ layout m t
unfolding row_of
row_layout mem32 t = refl
row_layout mem64 t = refl

fitting : (us : Members) (m : Memory) → ltb largest_number (record_size (members m us)) ≡ false →
    Tightest (members m us) (record { layout = record_layout (members m us); offsets = starts 0 (members m us) })
fitting us m h =
    let w = members_aligned m us in
    record {
      placement = ours (members m us) w (omega (arith, ltb-false largest_number (record_size (members m us)) h));
      alignment = greatest_align_least (members m us) w;
      none_tighter = λ ss size p. tightest w p;
    }

-- a record or tuple that fits is laid out as tightly as can be
pub product_tightest :
    {k : Kind} {type : Members → Ty} → Product k type → (us : Members) (m : Memory) →
    is_too_large m (type us) ≡ false →
    Tightest (members m us) (record { layout = layout m (type us); offsets = starts 0 (members m us) })
unfolding layout
product_tightest a_record us m h = fitting us m (sym (too_large_size m (record_of us)) ∙ h)
product_tightest a_tuple us m h = fitting us m (sym (too_large_size m (tuple_of us)) ∙ h)
