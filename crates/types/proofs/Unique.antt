-- No second outcome meets a promise. What an answer means tells the answer, so two answers that mean the same are the same; each theorem is over the
-- check's own reading of a function's contract.
use mathlib.Core.Path.{◌≡◌, refl, sym, ◌∙◌}
use mathlib.Core.Bool.{cond}
use mathlib.Core.List.{List, map}
use Prim.Native.Nat.{ℕ}
use lib.Dec.{eqb}
use seplogic.Ra.Ura.{Ura}
use base.Logic.{SProp, ent}
use prog.Memory.{Memory}
use prog.Routine.{Routine}
use types.Logic.{Logic}
use contract.Lifetimes.{Lfts}
use contract.Monad.{Fun, fact, fact_i, fact_use}
use denote.Ref.{Bor}
use denote.RattleType.{RattleType}
use denote.Param.Laws.{Laws, IsCopy}
use mir.Syntax.{Dict}
use Rattle.std.specs.declared.clone.Clone.{Ghosts}
use denote.Triple.Clauses.{AtExit}
use Rattle.std.specs.Prelude.{Result}
use Rattle.canon.specs.Layout as canon
use Rattle.canon.specs.Row.{Abi}
use Rattle.types.specs.declared.round.Rounded.{Rounded}
use Rattle.types.specs.declared.discriminant.DiscriminantSize.{DiscriminantSize}
use Rattle.types.specs.declared.discriminant.DiscriminantSize.TheVariants.{Size1, Size2, Size4}
use Rattle.types.specs.declared.extent.Layout.{Layout}
use Rattle.types.specs.declared.both.Both.{Both}
use Rattle.types.specs.declared.info.CanonicalAbiInfo.{CanonicalAbiInfo}
use Rattle.types.specs.declared.info.NextField.{NextField}
use Rattle.types.specs.declared.record.RecordState.{RecordState}
use Rattle.types.specs.declared.variant.VariantState.{VariantState}
use Rattle.types.specs.declared.variant.VariantInfo.{VariantInfo}
use Rattle.types.specs.declared.refusal.Refusal.{Refusal}
use Rattle.types.specs.Leaves.{Rounding, Field, VariantAbi, record_answer}
use Rattle.types.specs.Means.{rounding_of, leaf, bytes_of, each, layouts_means, abi_means, field_means, variant_means}
use Rattle.types.specs.States.{FieldState, record_means, CaseState, cases_means}
use Rattle.types.proofs.Told.{Tells, told, leaf_told, count_from, count_back, count_told}
use Rattle.types.proofs.refusal.Refusal.number.Reads as number-reads
use Rattle.types.proofs.round.align_to.Reads as align-to-reads
use Rattle.types.proofs.round.max.Reads as max-reads
use Rattle.types.proofs.flat.add_flat.Reads as add-flat-reads
use Rattle.types.proofs.flat.max_flat.Reads as max-flat-reads
use Rattle.types.proofs.discriminant.DiscriminantSize.from_count.Reads as from-count-reads
use Rattle.types.proofs.discriminant.DiscriminantSize.byte_size.Reads as byte-size-reads
use Rattle.types.proofs.flags.flag_groups.Reads as flag-groups-reads
use Rattle.types.proofs.extent.Extent.is_large.Reads as is-large-reads
use Rattle.types.proofs.extent.Extent.member.Reads as member-reads
use Rattle.types.proofs.extent.Extent.closing.Reads as closing-reads
use Rattle.types.proofs.extent.Extent.close.Reads as close-reads
use Rattle.types.proofs.both.Both.in_memory.Reads as in-memory-reads
use Rattle.types.proofs.both.Both+Layout.is_good.Reads as layouts-good-reads
use Rattle.types.proofs.both.Both+Layout.widest.Reads as layouts-widest-reads
use Rattle.types.proofs.both.Both+Layout.repeat.Reads as layouts-repeat-reads
use Rattle.types.proofs.both.Both+Extent.member.Reads as extents-member-reads
use Rattle.types.proofs.both.Both+Extent.close.Reads as extents-close-reads
use Rattle.types.proofs.both.Both+Extent.variant.Reads as extents-variant-reads
use Rattle.types.proofs.both.Both+Extent.fitted.Reads as extents-fitted-reads
use Rattle.types.proofs.both.Both+Step.extents.Reads as steps-extents-reads
use Rattle.types.proofs.info.CanonicalAbiInfo.layouts.Reads as layouts-reads
use Rattle.types.proofs.info.CanonicalAbiInfo.is_good.Reads as is-good-reads
use Rattle.types.proofs.info.CanonicalAbiInfo.record.Reads as record-reads
use Rattle.types.proofs.info.CanonicalAbiInfo.fixed_length_list.Reads as fixed-length-list-reads
use Rattle.types.proofs.info.CanonicalAbiInfo.next_field32.Reads as next-field32-reads
use Rattle.types.proofs.info.CanonicalAbiInfo.next_field64.Reads as next-field64-reads
use Rattle.types.proofs.info.CanonicalAbiInfo.flags.Reads as flags-reads
use Rattle.types.proofs.info.CanonicalAbiInfo.variant.Reads as variant-info-reads
use Rattle.types.proofs.info.CanonicalAbiInfo.enum_.Reads as enum-reads
use Rattle.types.proofs.record.RecordState.start.Reads as record-start-reads
use Rattle.types.proofs.record.RecordState.field.Reads as field-reads
use Rattle.types.proofs.variant.VariantState.start.Reads as variant-start-reads
use Rattle.types.proofs.variant.VariantState.bare.Reads as bare-reads
use Rattle.types.proofs.variant.VariantState.payload.Reads as payload-reads
use Rattle.types.proofs.variant.VariantInfo.new.Reads as variant-reads
use Rattle.types.specs.contracts.info.CanonicalAbiInfo.record_static as record-static

abbrev size_of : ℕ → DiscriminantSize
size_of n = cond (eqb n 1) Size1 (cond (eqb n 2) Size2 Size4)

size_back : (s : DiscriminantSize) → size_of (bytes_of s) ≡ s
size_back Size1 = refl
size_back Size2 = refl
size_back Size4 = refl

abbrev layouts_from : canon.Both canon.Layout → Both Layout
layouts_from b =
    record {
      in32 = record { size = b.in32.size; align = b.in32.align };
      in64 = record { size = b.in64.size; align = b.in64.align };
    }

abbrev pub info_from : Abi → CanonicalAbiInfo
info_from a =
    record {
      size32 = a.layouts.in32.size;
      align32 = a.layouts.in32.align;
      size64 = a.layouts.in64.size;
      align64 = a.layouts.in64.align;
      flat_count = count_from a.flats;
    }

pub info_back : (i : CanonicalAbiInfo) → info_from (abi_means i) ≡ i
info_back i = rw (count_back i.flat_count)

-- each meaning

size_told : Tells bytes_of
size_told = told bytes_of size_of size_back

rounding_told : Tells rounding_of
rounding_told = told rounding_of from (λ r. refl)
  where
    from : Rounding → Rounded ℕ
    from u = record { value = u.value; skipped = u.skipped }

each_told : {A : Type 0} → Tells (each {A = A})
each_told {A} = told each from (λ b. refl)
  where
    from : canon.Both A → Both A
    from b = record { in32 = b.in32; in64 = b.in64 }

layouts_told : Tells layouts_means
layouts_told = told layouts_means layouts_from (λ b. refl)

pub info_told : Tells abi_means
info_told = told abi_means info_from info_back

field_told : Tells field_means
field_told = told field_means from (λ f. refl)
  where
    from : Field → NextField
    from f = record { offset = f.offset; end = f.end; skipped = f.skipped }

variant_told : Tells variant_means
variant_told = told variant_means from back
  where
    from : VariantAbi → VariantInfo × CanonicalAbiInfo
    from v = (record { size = size_of v.disc; payload_offset32 = v.offsets.in32; payload_offset64 = v.offsets.in64 }, info_from v.abi)

    back : (x : VariantInfo × CanonicalAbiInfo) → from (variant_means x) ≡ x
    back (v, i) = rw (size_back v.size, count_back i.flat_count)

record_told : Tells record_means
record_told = told record_means from (λ s. rw (count_back s.flat))
  where
    from : FieldState → RecordState
    from f = record { extents = record { in32 = f.extents.in32; in64 = f.extents.in64 }; flat = count_from f.flats; bad = f.bad }

cases_told : Tells cases_means
cases_told = told cases_means from (λ s. rw (count_back s.flat))
  where
    from : CaseState → VariantState
    from f =
        record {
          layouts = layouts_from f.payloads;
          flat = count_from f.flats;
          count = f.count;
          bad = f.bad;
        }

-- Each promise. All arguments are by value, so that they are at exit what they were

abbrev Single : {A R : Type 0} → (A → R → A → Type 0) → Type 0
Single {A} {R} Post = (a : A) (r q : R) → Post a r a → Post a q a → r ≡ q

pub number_unique : Single (number-reads.Post tt)
number_unique a r q g h = g ∙ sym h

pub align_to_unique : Single (align-to-reads.Post tt)
align_to_unique a r q g h = leaf_told rounding_told r q (g ∙ sym h)

pub max_unique : Single (max-reads.Post tt)
max_unique a r q g h = g ∙ sym h

pub add_flat_unique : Single (add-flat-reads.Post tt)
add_flat_unique a r q g h = count_told r q (g ∙ sym h)

pub max_flat_unique : Single (max-flat-reads.Post tt)
max_flat_unique a r q g h = count_told r q (g ∙ sym h)

pub from_count_unique : Single (from-count-reads.Post tt)
from_count_unique a r q g h = leaf_told size_told r q (g ∙ sym h)

pub byte_size_unique : Single (byte-size-reads.Post tt)
byte_size_unique a r q g h = g ∙ sym h

pub is_large_unique : Single (is-large-reads.Post tt)
is_large_unique a r q g h = g ∙ sym h

pub member_unique : Single (member-reads.Post tt)
member_unique a r q g h = g ∙ sym h

pub closing_unique : Single (closing-reads.Post tt)
closing_unique a r q g h = g ∙ sym h

pub close_unique : Single (close-reads.Post tt)
close_unique a r q g h = g ∙ sym h

pub in_memory_unique :
    (T : RattleType) (L : Laws T) (C : IsCopy T) (G : Ghosts T.Denot) (D : Dict) (κs : Lfts 1) → Single (in-memory-reads.Post T L C G D κs)
in_memory_unique T L C G D κs a r q g h = g ∙ sym h

pub layouts_good_unique : Single (layouts-good-reads.Post tt)
layouts_good_unique a r q g h = g ∙ sym h

pub layouts_widest_unique : Single (layouts-widest-reads.Post tt)
layouts_widest_unique a r q g h = layouts_told r q (g ∙ sym h)

pub layouts_repeat_unique : Single (layouts-repeat-reads.Post tt)
layouts_repeat_unique a r q g h = each_told r q (g ∙ sym h)

pub extents_member_unique : Single (extents-member-reads.Post tt)
extents_member_unique a r q g h = each_told r q (g ∙ sym h)

pub extents_close_unique : Single (extents-close-reads.Post tt)
extents_close_unique a r q g h = each_told r q (g ∙ sym h)

pub extents_variant_unique : Single (extents-variant-reads.Post tt)
extents_variant_unique a r q g h = each_told r q (g ∙ sym h)

pub extents_fitted_unique : Single (extents-fitted-reads.Post tt)
extents_fitted_unique a r q g h = leaf_told layouts_told r q (g ∙ sym h)

pub steps_extents_unique : Single (steps-extents-reads.Post tt)
steps_extents_unique a r q g h = each_told r q (g ∙ sym h)

pub layouts_unique : Single (layouts-reads.Post tt)
layouts_unique a r q g h = g ∙ sym h

pub is_good_unique : Single (is-good-reads.Post tt)
is_good_unique a r q g h = g ∙ sym h

pub record_unique : Single (record-reads.Post tt)
record_unique a r q g h = leaf_told info_told r q (g ∙ sym h)

pub fixed_length_list_unique : Single (fixed-length-list-reads.Post tt)
fixed_length_list_unique a r q g h = leaf_told info_told r q (g ∙ sym h)

pub next_field32_unique : Single (next-field32-reads.Post tt)
next_field32_unique a r q g h = leaf_told field_told r q (g ∙ sym h)

pub next_field64_unique : Single (next-field64-reads.Post tt)
next_field64_unique a r q g h = leaf_told field_told r q (g ∙ sym h)

pub flag_groups_unique : Single (flag-groups-reads.Post tt)
flag_groups_unique a r q g h = g ∙ sym h

pub flags_unique : Single (flags-reads.Post tt)
flags_unique a r q g h = leaf_told info_told r q (g ∙ sym h)

pub variant_info_unique : Single (variant-info-reads.Post tt)
variant_info_unique a r q g h = leaf_told info_told r q (g ∙ sym h)

pub enum_unique : Single (enum-reads.Post tt)
enum_unique a r q g h = leaf_told info_told r q (g ∙ sym h)

pub record_start_unique : Single (record-start-reads.Post tt)
record_start_unique a r q g h = record_told r q (g ∙ sym h)

pub field_unique : Single (field-reads.Post tt)
field_unique a r q g h = record_told r q (g ∙ sym h)

pub variant_start_unique : Single (variant-start-reads.Post tt)
variant_start_unique a r q g h = cases_told r q (g ∙ sym h)

pub bare_unique : Single (bare-reads.Post tt)
bare_unique a r q g h = cases_told r q (g ∙ sym h)

pub payload_unique : Single (payload-reads.Post tt)
payload_unique a r q g h = cases_told r q (g ∙ sym h)

pub variant_unique : Single (variant-reads.Post tt)
variant_unique a r q g h = leaf_told variant_told r q (g ∙ sym h)

-- `record_static`, over the clauses of its contract: whatever entails its promise of two answers entails that they are one
pub record_static_unique :
    {M : Type 1} {𝓤 : Ura M} (𝓛 : Logic 𝓤) (mem : Memory → SProp 𝓤) (run : Routine → Fun 𝓤) (P : SProp 𝓤) (κs : Lfts 1)
    (fields : Bor (List CanonicalAbiInfo)) (end : AtExit record-static.ended κs) (r q : Result CanonicalAbiInfo Refusal) →
    ent 𝓤 P ((record-static.clauses 𝓛 mem run κs (fields, tt)).ensures tt r end) →
    ent 𝓤 P ((record-static.clauses 𝓛 mem run κs (fields, tt)).ensures tt q end) →
    ent 𝓤 P (fact 𝓤 (r ≡ q))
record_static_unique {𝓤 = 𝓤} 𝓛 mem run P κs fields end r q g h =
    fact_use 𝓤 (Said r) g (λ x. fact_use 𝓤 (Said q) h (λ y. fact_i 𝓤 (r ≡ q) P (leaf_told info_told r q (x ∙ sym y))))
  where
    Said : Result CanonicalAbiInfo Refusal → Type 0
    Said a = leaf abi_means a ≡ record_answer (map abi_means fields.now)
