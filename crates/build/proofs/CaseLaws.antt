-- The four kinds with cases: after any cases the layout is the payloads' greatest size and alignment, the flat words those of the payloads' lists
-- joined, the reach what they reach together.
use mathlib.Core.Path.{◌≡◌, refl, sym, ap, ◌∙◌}
use mathlib.Core.Bool.{true, false}
use mathlib.Core.Option.{some}
use Prim.Native.Nat.{ℕ, ◌-◌}
use lib.Dec.{eqb}
use Rattle.canon.specs.Answer.{is, no, bad_count}
use Rattle.canon.specs.Types.{Ty, variant_of, enum_of, option_of, result_of, Case, bare, holding, Cases, ∎, ◌▸◌, count}
use Rattle.canon.specs.Layout.{Memory, mem32, mem64, both, within, discriminant, payload_offset, variant_align, variant_size, variant_layout, layout, payloads}
use Rattle.canon.specs.Flat.{flatten, flat_count, payload_flats, payload_counts}
use Rattle.canon.specs.Pack.{pack}
use Rattle.canon.specs.Description.{checked}
use Rattle.canon.specs.Row.{row_kind, no_layout, cases_inner, inner, info_of, type_flat, row_words}
use Rattle.canon.specs.Reach.{join_reach, deeper, reach, case_reach}
use Rattle.canon.proofs.Reaches.{no_reach_join, join_no_reach, join_reach_assoc}
use Rattle.canon.proofs.Alignments.{payloads_aligned}
use Rattle.canon.proofs.Despecialize.{same_layout, same_flat, same_count, same_result, option_reach, result_reach, despecialize}
use Rattle.canon.proofs.Sizes.{largest_part}
use Rattle.types.specs.Extents.{extent_at, variant_step}
use Rattle.types.specs.Leaves.{given, discriminant_answer}
use Rattle.types.proofs.VariantLaws.{widest_of, widest_greatest, variant_reach}
use Rattle.flat_types.specs.Places.{joined}
use Rattle.flat_types.proofs.Rows.{steps, all_both}
use Rattle.flat_types.proofs.Trees.{variant_type}
use Rattle.build.specs.Steps.{pair_of, in_each, fit_row, PayloadsIs, no_payloads, add_payload, add_if_payload, payloads_row}
use Rattle.build.proofs.FitLaws.{row_leaf, type_counted, type_words_lem, row_words_lem, fit_row_lem}
use Rattle.build.proofs.FoldLaws.{fold_cases}
use Rattle.build.proofs.Wording.{fit_same}

after : (s : PayloadsIs) (cs : Cases) →
    fold_cases add_if_payload s cs
    ≡ record {
      layouts = both (λ m. widest_of (within m s.layouts) (payloads m cs));
      flat = steps joined s.flat (all_both (payload_counts cs) (payload_flats mem32 cs) (payload_flats mem64 cs));
      reach = join_reach s.reach (case_reach cs);
    }
unfolding add_if_payload add_payload widest_of payloads payload_counts payload_flats case_reach
after s ∎ = rw (join_no_reach s.reach)
after s (bare ▸ cs) = after s cs ∙ rw (no_reach_join (case_reach cs))
after s (holding t ▸ cs) =
    after (add_payload s (info_of t)) cs
    ∙ rw (join_reach_assoc s.reach (reach t) (case_reach cs))

-- after the discriminant of n cases
closed : (kind n : ℕ) (cs : Cases) →
    payloads_row kind (discriminant n) (fold_cases add_if_payload no_payloads cs)
    ≡ fit_row (both (λ m. extent_at (variant_size n (payloads m cs)) (variant_align n (payloads m cs)))) (case_reach cs)
    (λ ls. row_words kind ls (both (λ m. type_flat m (variant_of cs))) (both (λ m. cases_inner n (payloads m cs))))
unfolding payloads_row pack
closed kind n cs =
    ap (payloads_row kind (discriminant n)) (after no_payloads cs)
    ∙ fit_same kind
    (λ i. pair_of (step mem32 i).extent (step mem64 i).extent)
    (ap in_each (variant_type type_counted cs) ∙ type_words_lem (variant_of cs))
    (λ i. pair_of (record { disc = discriminant n; offset = (step mem32 i).start; entry = no_layout }) (record { disc = discriminant n; offset = (step mem64 i).start; entry = no_layout }))
    (no_reach_join (case_reach cs))
  where
    step : (m : Memory) → variant_step (discriminant n) (widest_of (record { size = 0; align = 1 }) (payloads m cs))
        ≡ record {
          start = payload_offset n (payloads m cs);
          skipped = payload_offset n (payloads m cs) - discriminant n;
          extent = extent_at (variant_size n (payloads m cs)) (variant_align n (payloads m cs));
        }
    step m = ap (variant_step (discriminant n)) (widest_greatest (payloads m cs)) ∙ variant_reach n (payloads m cs) (payloads_aligned m cs)

-- a type of n cases, laid out and flattened as the variant of the cases cs
pub record Cased (t : Ty) (n : ℕ) (cs : Cases) : Type 0 where
  pub whole : largest_part t ≡ t
  pub layouts : (m : Memory) → layout m t ≡ variant_layout n (payloads m cs)
  pub flats : (m : Memory) → flatten m t ≡ flatten m (variant_of cs)
  pub counts : flat_count t ≡ flat_count (variant_of cs)
  pub inners : (m : Memory) → inner m t ≡ cases_inner n (payloads m cs)
  pub reached : reach t ≡ deeper (case_reach cs)

pub variant_cased : (cs : Cases) → Cased (variant_of cs) (count cs) cs
unfolding layout reach
variant_cased cs =
    record { whole = refl; layouts = λ m. refl; flats = λ m. refl; counts = refl; inners = λ m. refl; reached = refl }

pub enum_cased : (n : ℕ) → Cased (enum_of n) n ∎
unfolding layout flatten flat_count reach
enum_cased n =
    record { whole = refl; layouts = λ m. refl; flats = λ m. refl; counts = refl; inners = λ m. refl; reached = refl }

pub option_cased : (t : Ty) → Cased (option_of t) 2 (bare ▸ holding t ▸ ∎)
unfolding layout flatten flat_count reach
option_cased t =
    record { whole = refl; layouts = λ m. refl; flats = λ m. refl; counts = refl; inners = λ m. refl; reached = ap deeper (sym (option_reach t)) }

pub result_cased : (ok err : Case) → Cased (result_of ok err) 2 (ok ▸ err ▸ ∎)
unfolding layout despecialize reach
result_cased ok err =
    record {
      whole = refl;
      layouts = λ m. sym (same_layout m (result_of ok err));
      flats = λ m. sym (same_flat m (result_of ok err));
      counts = sym (same_count (result_of ok err));
      inners = λ m. sym (same_result m ok err);
      reached = ap deeper (sym (result_reach ok err));
    }

pub cased_row : {t : Ty} {n : ℕ} {cs : Cases} → Cased t n cs → (len : ℕ) →
    payloads_row (row_kind t) (discriminant n) (fold_cases add_if_payload no_payloads cs) ≡ row_leaf (checked len (some t))
cased_row {t} {n} {cs} c len =
    closed (row_kind t) n cs
    ∙ fit_row_lem t (λ m. variant_layout n (payloads m cs)) (case_reach cs) _ len c.reached (λ m. ap (layout m) c.whole ∙ c.layouts m) (λ h. words ∙ row_words_lem t)
  where
    words :
        row_words (row_kind t) (both (λ m. variant_layout n (payloads m cs))) (both (λ m. type_flat m (variant_of cs))) (both (λ m. cases_inner n (payloads m cs))) (deeper (case_reach cs))
        ≡ row_words (row_kind t) (both (λ m. layout m t)) (both (λ m. type_flat m t)) (both (λ m. inner m t)) (reach t)
    words = simp (c.layouts, c.flats, c.counts, c.inners, c.reached)

-- where there is a case
pub discriminant_is : (n : ℕ) → eqb n 0 ≡ false → discriminant_answer n ≡ is (discriminant n)
unfolding discriminant_answer given
discriminant_is n h = rw h

pub discriminant_none : (n : ℕ) → eqb n 0 ≡ true → discriminant_answer n ≡ no bad_count
unfolding discriminant_answer given
discriminant_none n h = rw h
