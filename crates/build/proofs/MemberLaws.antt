-- Records and tuples: after any members the extents are canon's ends, the flat words those of the members' lists one after another, the reach what
-- they reach together.
use mathlib.Core.Path.{◌≡◌, refl, ap, ◌∙◌}
use mathlib.Core.Option.{some}
use Prim.Native.Nat.{ℕ}
use Rattle.canon.specs.Types.{Ty, record_of, tuple_of, Members, ∅, ◌◂◌, Kind}
use Rattle.canon.specs.Layout.{mem32, mem64, both, within, greatest_align, record_size, record_layout, layout, members}
use Rattle.canon.specs.Flat.{flatten, flat_count, member_flats, member_counts}
use Rattle.canon.specs.Pack.{pack}
use Rattle.canon.specs.Description.{checked}
use Rattle.canon.specs.Row.{row_kind, no_inner, info_of, type_flat, row_words}
use Rattle.canon.specs.Reach.{join_reach, reach, member_reach}
use Rattle.canon.proofs.Reaches.{no_reach_join, join_no_reach, join_reach_assoc}
use Rattle.canon.proofs.Alignments.{members_aligned}
use Rattle.canon.proofs.Refusals.{Product, a_record, a_tuple}
use Rattle.types.specs.Extents.{extent_at}
use Rattle.types.proofs.ExtentLaws as extent
use Rattle.types.proofs.ExtentLaws.{record_reach}
use Rattle.flat_types.specs.Places.{append_to}
use Rattle.flat_types.proofs.Rows.{steps, all_both}
use Rattle.flat_types.proofs.Trees.{record_type}
use Rattle.build.specs.Steps.{pair_of, in_each, fit_row, MembersIs, no_members, add_member, members_row}
use Rattle.build.proofs.FitLaws.{row_leaf, type_counted, type_words_lem, row_words_lem, fit_row_lem}
use Rattle.build.proofs.FoldLaws.{fold_members}
use Rattle.build.proofs.Wording.{fit_same}

after : (s : MembersIs) (us : Members) →
    fold_members add_member s us
    ≡ record {
      extents = both (λ m. extent.members_of (within m s.extents) (members m us));
      flat = steps (append_to 16) s.flat (all_both (member_counts us) (member_flats mem32 us) (member_flats mem64 us));
      reach = join_reach s.reach (member_reach us);
    }
unfolding add_member extent.members_of members member_counts member_flats member_reach
after s ∅ = rw (join_no_reach s.reach)
after s (t ◂ us) =
    after (add_member s (info_of t)) us
    ∙ rw (join_reach_assoc s.reach (reach t) (member_reach us))

-- closed: the record's size and alignment, its flat words, what its members reach
closed : (kind : ℕ) (us : Members) →
    members_row kind (fold_members add_member no_members us)
    ≡ fit_row (both (λ m. extent_at (record_size (members m us)) (greatest_align (members m us)))) (member_reach us)
    (λ ls. row_words kind ls (both (λ m. type_flat m (record_of us))) (both (λ m. no_inner)))
unfolding members_row pack
closed kind us =
    ap (members_row kind) (after no_members us)
    ∙ fit_same {ns = both (λ m. no_inner)} kind
    (λ i. pair_of (record_reach (members mem32 us) (members_aligned mem32 us) i) (record_reach (members mem64 us) (members_aligned mem64 us) i))
    (ap in_each (record_type type_counted us) ∙ type_words_lem (record_of us)) refl (no_reach_join (member_reach us))

pub product_row : {k : Kind} {type : Members → Ty} → Product k type → (us : Members) (n : ℕ) →
    members_row (row_kind (type us)) (fold_members add_member no_members us) ≡ row_leaf (checked n (some (type us)))
unfolding layout flatten flat_count reach
product_row a_record us n =
    closed 1 us ∙ fit_row_lem (record_of us) (λ m. record_layout (members m us)) (member_reach us) _ n refl (λ m. refl) (λ h. row_words_lem (record_of us))
product_row a_tuple us n =
    closed 4 us ∙ fit_row_lem (tuple_of us) (λ m. record_layout (members m us)) (member_reach us) _ n refl (λ m. refl) (λ h. row_words_lem (tuple_of us))
