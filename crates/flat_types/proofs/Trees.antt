-- The words of a record and of a variant from those of their parts, in both memories, if each part's flat count is its flat list's length.
use mathlib.Core.Path.{◌≡◌, ap, ◌∙◌}
use mathlib.Core.List.{List, [], ◌∷◌}
use mathlib.Core.Option.{Option, some}
use Prim.Native.Nat.{ℕ}
use Rattle.canon.specs.Types.{Ty, record_of, variant_of, Members, Cases}
use Rattle.canon.specs.Types.{Core, I32}
use Rattle.canon.specs.Layout.{Memory, mem32, mem64}
use Rattle.canon.specs.Flat.{join_all, add_flat, greatest_flat, flatten, member_flats, payload_flats, flat_count, member_counts, payload_counts}
use Rattle.canon.specs.Pack.{Packed}
use Rattle.canon.proofs.FlatFolds.{Counted, AllCounted, counted_join_all, members_counted, payloads_counted}
use Rattle.flat_types.specs.Places.{one_i32, append_to, joined}
use Rattle.flat_types.proofs.Rows.{row_both, no_row, steps, all_both, record_steps, variant_steps, discriminant_row}

-- words 5 to 7 of a type's row
abbrev pub type_both : Ty → Packed
type_both t = row_both (flat_count t) (λ m. flatten m t)

-- the discriminant in front of the joined payloads
abbrev pub variant_over : List Packed → Packed
variant_over ps = append_to 16 one_i32 (steps joined no_row ps)

variant_over_lem :
    {as' : List (Option ℕ)} (ls : Memory → List (List Core)) → ((m : Memory) → AllCounted as' (ls m)) →
    variant_over (all_both as' (ls mem32) (ls mem64)) ≡ row_both (add_flat (some 1) (greatest_flat as')) (λ m. I32 ∷ join_all [] (ls m))
variant_over_lem {as'} ls p =
    ap (append_to 16 one_i32) (variant_steps ls p)
    ∙ discriminant_row (greatest_flat as') (λ m. join_all [] (ls m)) (λ m. counted_join_all (p m))

module _ (counted : (m : Memory) (t : Ty) → Counted (flat_count t) (flatten m t)) where
  pub record_type : (ts : Members) → steps (append_to 16) no_row (all_both (member_counts ts) (member_flats mem32 ts) (member_flats mem64 ts)) ≡ type_both (record_of ts)
  unfolding flatten flat_count
  record_type ts = record_steps (λ m. member_flats m ts) (λ m. members_counted m (counted m) ts)

  pub variant_type : (cs : Cases) → variant_over (all_both (payload_counts cs) (payload_flats mem32 cs) (payload_flats mem64 cs)) ≡ type_both (variant_of cs)
  unfolding flatten flat_count
  variant_type cs = variant_over_lem (λ m. payload_flats m cs) (λ m. payloads_counted m (counted m) cs)
