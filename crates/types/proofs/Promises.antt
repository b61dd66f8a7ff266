-- Demand 3 over the promises of `record` and `record_static`: what is answered is the tightest in each memory, and 6 is given exactly when one of
-- the two memories admits no placement.
use mathlib.Core.Path.{◌≡◌, refl, sym, ◌∙◌}
use mathlib.Core.Logic.{◌↔◌}
use mathlib.Core.Bool.{Bool, true, false, cond, ◌||◌}
use mathlib.Core.List.{List, map}
use Prim.Native.Nat.{ℕ}
use native.Mathlib.Omega.{arith}
use lib.Dec.{ltb}
use borrow.Author.Tests.{ltb-true, ltb-false}
use seplogic.Ra.Ura.{Ura}
use base.Logic.{SProp, ent}
use prog.Memory.{Memory as Machine}
use prog.Routine.{Routine}
use types.Logic.{Logic}
use contract.Lifetimes.{Lfts}
use contract.Monad.{Fun, fact, fact_i, fact_use}
use denote.Ref.{Bor}
use denote.Triple.Clauses.{AtExit}
use Rattle.std.specs.Prelude.{Result}
use Rattle.canon.specs.Answer.{Leaf, is, no as refuses, too_large, bad_row}
use Rattle.canon.specs.Layout.{Memory, mem32, mem64, within, Layout, starts, record_size, record_layout, record_numbers, largest_number}
use Rattle.canon.specs.Placement.{NoPlacement}
use Rattle.canon.specs.Row.{Abi}
use Rattle.canon.proofs.Tests.{impossible}
use Rattle.canon.proofs.Tightest.{Aligned, greatest_align_least, ours, tightest}
use Rattle.canon.proofs.Sizes.{above_append, record_decides}
use Rattle.canon.proofs.Refusals.{large_iff, Tightest}
use Rattle.types.specs.declared.info.CanonicalAbiInfo.{CanonicalAbiInfo}
use Rattle.types.specs.declared.refusal.Refusal.{Refusal}
use Rattle.types.specs.declared.record.RecordState.{RecordState}
use Rattle.types.specs.Leaves.{given, fitting, all_good, abi_layouts, record_abi, record_answer}
use Rattle.types.specs.Means.{leaf, abi_means}
use Rattle.types.proofs.RecordLaws.{all_aligned}
use Rattle.types.proofs.Runs.{Record, record_run}
use Rattle.types.proofs.record.RecordState.start.Reads as record-start
use Rattle.types.proofs.info.CanonicalAbiInfo.record.Reads as record-end
use Rattle.types.specs.contracts.info.CanonicalAbiInfo.record_static as record-static

-- a layout with some starts is the tightest
abbrev pub TightestLayout : List Layout → Layout → Type 0
TightestLayout fs f = (ss : List ℕ) × Tightest fs (record { layout = f; offsets = ss })

-- what a record of these infos is answered. The tender: "Ours is a placement; no other starts any member earlier or is smaller; a record or tuple
-- that passes every earlier check is refused as too large exactly when one of the two memories admits none"
pub record Tight (is' : List Abi) (l : Leaf Abi) : Type 0 where
  pub answered : (a : Abi) → l ≡ is a → (m : Memory) → TightestLayout (abi_layouts m is') (within m a.layouts)
  pub refused : (l ≡ refuses too_large) ↔ ((all_good is' ≡ true) × ((m : Memory) × NoPlacement (abi_layouts m is')))

module _ (is' : List Abi) where
  abbrev too_large_in : Memory → Bool
  too_large_in m = ltb largest_number (record_size (abi_layouts m is'))

  -- the answer by its tests: all infos, then the size in each memory
  abbrev tested : Bool → Bool → Bool → Leaf Abi
  tested g b c = cond g (cond (b || c) (refuses too_large) (is (record_abi is'))) (refuses bad_row)

  answer_tested : record_answer is' ≡ tested (all_good is') (too_large_in mem32) (too_large_in mem64)
  unfolding record_answer given fitting
  answer_tested = go (all_good is') refl
    where
      go : (g : Bool) → all_good is' ≡ g → record_answer is' ≡ tested g (too_large_in mem32) (too_large_in mem64)
      go true h =
          rw (
            h,
            above_append largest_number (record_numbers (abi_layouts mem32 is')) (record_numbers (abi_layouts mem64 is')),
            record_decides largest_number (abi_layouts mem32 is') (all_aligned is' h mem32),
            record_decides largest_number (abi_layouts mem64 is') (all_aligned is' h mem64),
          )
      go false h = rw h

  module _ (good : all_good is' ≡ true) (m : Memory) where
    -- what fits is the tightest
    fits : too_large_in m ≡ false → TightestLayout (abi_layouts m is') (record_layout (abi_layouts m is'))
    fits l =
        let w : Aligned (abi_layouts m is') = all_aligned is' good m in (
          starts 0 (abi_layouts m is'),
          record {
            placement = ours (abi_layouts m is') w (omega (arith, ltb-false largest_number (record_size (abi_layouts m is')) l));
            alignment = greatest_align_least (abi_layouts m is') w;
            none_tighter = λ ss size q. tightest w q;
          },
        )

    -- what is too large has no placement
    none : too_large_in m ≡ true → NoPlacement (abi_layouts m is')
    none l = (large_iff (abi_layouts m is') (all_aligned is' good m)).0 (ltb-true _ _ l)

  pub tight : Tight is' (record_answer is')
  tight = rw answer_tested (go (all_good is') (too_large_in mem32) (too_large_in mem64) refl refl refl)
    where
      go : (g b c : Bool) → all_good is' ≡ g → too_large_in mem32 ≡ b → too_large_in mem64 ≡ c → Tight is' (tested g b c)
      go false b c h p q = record { answered = λ a e. impossible (cc); refused = (λ e. impossible (cc), λ n. impossible (let e : false ≡ true = sym h ∙ n.0 in cc)) }
      go true true c h p q = record { answered = λ a e. impossible (cc); refused = (λ e. (h, (mem32, none h mem32 p)), λ n. refl) }
      go true false true h p q = record { answered = λ a e. impossible (cc); refused = (λ e. (h, (mem64, none h mem64 q)), λ n. refl) }
      go true false false h p q =
          record {
            answered = λ a e m. let same : a ≡ record_abi is' = cc in rw same (both_fit m);
            refused = (λ e. impossible (cc), λ n. absurd (n.1.1 _ _ (fits h n.1.0 (both_below n.1.0)).1.placement));
          }
        where
          both_below : (m : Memory) → too_large_in m ≡ false
          both_below mem32 = p
          both_below mem64 = q

          both_fit : (m : Memory) → TightestLayout (abi_layouts m is') (within m (record_abi is').layouts)
          both_fit mem32 = fits h mem32 p
          both_fit mem64 = fits h mem64 q

-- `CanonicalAbiInfo::record`, after any fields from the start
pub record_tight :
    {s u : RecordState} {is' : List CanonicalAbiInfo} (r : Result CanonicalAbiInfo Refusal) →
    record-start.Post tt tt s tt →
    Record s is' u →
    record-end.Post tt (u, tt) r (u, tt) →
    Tight (map abi_means is') (leaf abi_means r)
record_tight {is' = is'} r begun run ended = rw (record_run r begun run ended) (tight (map abi_means is'))

-- `CanonicalAbiInfo::record_static`, of the infos that are lent: whatever entails its promise entails this
pub record_static_tight :
    {M : Type 1} {𝓤 : Ura M} (𝓛 : Logic 𝓤) (mem : Machine → SProp 𝓤) (run : Routine → Fun 𝓤) (P : SProp 𝓤) (κs : Lfts 1)
    (fields : Bor (List CanonicalAbiInfo)) (end : AtExit record-static.ended κs) (r : Result CanonicalAbiInfo Refusal) →
    ent 𝓤 P ((record-static.clauses 𝓛 mem run κs (fields, tt)).ensures tt r end) →
    ent 𝓤 P (fact 𝓤 (Tight (map abi_means fields.now) (leaf abi_means r)))
record_static_tight {𝓤 = 𝓤} 𝓛 mem run P κs fields end r g =
    fact_use 𝓤 (leaf abi_means r ≡ record_answer (map abi_means fields.now)) g
    (λ e. fact_i 𝓤 (Tight (map abi_means fields.now) (leaf abi_means r)) P (rw e (tight (map abi_means fields.now))))
