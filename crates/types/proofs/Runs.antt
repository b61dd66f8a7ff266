-- The states, over the promises of their functions: a record or a variant after any steps from the start is 01's answer for those members or cases.
use mathlib.Core.Path.{◌≡◌, refl, ap, ◌∙◌}
use mathlib.Core.List.{List, [], ◌∷◌, map}
use mathlib.Core.Option.{Option, none, some}
use Rattle.std.specs.Prelude.{Result}
use Rattle.canon.specs.Answer.{map_option}
use Rattle.types.specs.declared.refusal.Refusal.{Refusal}
use Rattle.types.specs.declared.info.CanonicalAbiInfo.{CanonicalAbiInfo}
use Rattle.types.specs.declared.record.RecordState.{RecordState}
use Rattle.types.specs.declared.variant.VariantState.{VariantState}
use Rattle.types.specs.declared.variant.VariantInfo.{VariantInfo}
use Rattle.types.specs.Leaves.{record_answer, variant_answer, info_alone}
use Rattle.types.specs.Means.{leaf, abi_means, variant_means}
use Rattle.types.specs.States.{FieldState, record_means, add_fields, close_fields, CaseState, cases_means, add_cases, close_cases}
use Rattle.types.proofs.RecordLaws.{record_answer_lem}
use Rattle.types.proofs.VariantLaws.{variant_answer_lem}
use Rattle.types.proofs.record.RecordState.start.Reads as record-start
use Rattle.types.proofs.record.RecordState.field.Reads as field
use Rattle.types.proofs.info.CanonicalAbiInfo.record.Reads as record-end
use Rattle.types.proofs.variant.VariantState.start.Reads as variant-start
use Rattle.types.proofs.variant.VariantState.bare.Reads as bare
use Rattle.types.proofs.variant.VariantState.payload.Reads as payload
use Rattle.types.proofs.variant.VariantInfo.new.Reads as variant_end
use Rattle.types.proofs.info.CanonicalAbiInfo.variant.Reads as info-end

-- from a state to another by the fields of these infos
pub data Record : RecordState → List CanonicalAbiInfo → RecordState → Type 0 where
  ends : {s : RecordState} → Record s [] s
  takes :
      {s t u : RecordState} {i : CanonicalAbiInfo} {is' : List CanonicalAbiInfo} →
      field.Post tt (s, (i, tt)) t (s, (i, tt)) →
      Record t is' u →
      Record s (i ∷ is') u

record_steps : {s u : RecordState} {is' : List CanonicalAbiInfo} → Record s is' u → record_means u ≡ add_fields (record_means s) (map abi_means is')
unfolding add_fields
record_steps ends = refl
record_steps (takes {is' = is'} p r) = record_steps r ∙ ap (λ (f : FieldState). add_fields f (map abi_means is')) p

pub record_run :
    {s u : RecordState} {is' : List CanonicalAbiInfo} (r : Result CanonicalAbiInfo Refusal) →
    record-start.Post tt tt s tt →
    Record s is' u →
    record-end.Post tt (u, tt) r (u, tt) →
    leaf abi_means r ≡ record_answer (map abi_means is')
record_run {is' = is'} r begun run ended =
    ended ∙ ap close_fields (record_steps run ∙ ap (λ (f : FieldState). add_fields f (map abi_means is')) begun) ∙ record_answer_lem (map abi_means is')

-- from a state to another by these cases
pub data Variant : VariantState → List (Option CanonicalAbiInfo) → VariantState → Type 0 where
  ends : {s : VariantState} → Variant s [] s
  bares :
      {s t u : VariantState} {cs : List (Option CanonicalAbiInfo)} →
      bare.Post tt (s, tt) t (s, tt) →
      Variant t cs u →
      Variant s (none ∷ cs) u
  holds :
      {s t u : VariantState} {i : CanonicalAbiInfo} {cs : List (Option CanonicalAbiInfo)} →
      payload.Post tt (s, (i, tt)) t (s, (i, tt)) →
      Variant t cs u →
      Variant s (some i ∷ cs) u

variant_steps : {s u : VariantState} {cs : List (Option CanonicalAbiInfo)} → Variant s cs u → cases_means u
    ≡ add_cases (cases_means s) (map (map_option abi_means) cs)
unfolding add_cases
variant_steps ends = refl
variant_steps (bares {cs = cs} p r) = variant_steps r ∙ ap (λ (f : CaseState). add_cases f (map (map_option abi_means) cs)) p
variant_steps (holds {cs = cs} p r) = variant_steps r ∙ ap (λ (f : CaseState). add_cases f (map (map_option abi_means) cs)) p

module _ {s u : VariantState} {cs : List (Option CanonicalAbiInfo)} (begun : variant-start.Post tt tt s tt) (run : Variant s cs u) where
  closed : close_cases (cases_means u) ≡ variant_answer (map (map_option abi_means) cs)
  closed =
      ap close_cases (variant_steps run ∙ ap (λ (f : CaseState). add_cases f (map (map_option abi_means) cs)) begun)
      ∙ variant_answer_lem (map (map_option abi_means) cs)

  pub variant_run : (r : Result (VariantInfo × CanonicalAbiInfo) Refusal) → variant_end.Post tt (u, tt) r (u, tt) → leaf variant_means r ≡ variant_answer (map (map_option abi_means) cs)
  variant_run r ended = ended ∙ closed

  pub variant_info_run : (r : Result CanonicalAbiInfo Refusal) → info-end.Post tt (u, tt) r (u, tt) → leaf abi_means r ≡ info_alone (variant_answer (map (map_option abi_means) cs))
  variant_info_run r ended = ended ∙ ap info_alone closed
