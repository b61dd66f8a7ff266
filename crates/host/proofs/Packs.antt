-- The numbers of a variant are its info's and three more.
use mathlib.Core.Path.{◌≡◌, refl, sym, ap, ◌∙◌}
use mathlib.Core.List.{List}
use mathlib.Core.Option.{Option}
use Prim.Native.Nat.{ℕ, ◌-◌, ◌≤◌, ◌<◌}
use lib.Dec.{lit<}
use Rattle.canon.specs.Answer.{Leaf, is, no}
use Rattle.canon.specs.Row.{Abi}
use Rattle.types.specs.Leaves.{VariantAbi, info_alone, variant_answer}
use Rattle.types.specs.States.{CaseState, no_cases, add_cases, close_cases}
use Rattle.types.proofs.VariantLaws.{variant_answer_lem}
use Rattle.host.specs.Numbers.{chosen, leaf_number, abi_words, inner_words, variant_words}
use Rattle.host.proofs.Chosen.{chosen_front, chosen_past}

-- the info's numbers of a variant, and the others

of_info : (k : ℕ) (l : Leaf VariantAbi) → k < 5 → leaf_number (λ a. chosen k (abi_words a)) (info_alone l) ≡ leaf_number (λ v. chosen k (variant_words v)) l
unfolding info_alone
of_info k (is v) h = sym (chosen_front (abi_words v.abi) (inner_words v) k h)
of_info k (no x) h = refl

of_inner : (k : ℕ) (l : Leaf VariantAbi) → 5 ≤ k → leaf_number (λ v. chosen (k - 5) (inner_words v)) l ≡ leaf_number (λ v. chosen k (variant_words v)) l
of_inner k (is v) h = sym (chosen_past (abi_words v.abi) (inner_words v) k h (lit< tt))
of_inner k (no x) h = refl

-- of the state that the cases gave
module _ (k : ℕ) (cs : List (Option Abi)) {s : CaseState} (read : s ≡ add_cases no_cases cs) where
  closed : close_cases s ≡ variant_answer cs
  closed = ap close_cases read ∙ variant_answer_lem cs

  pub first_five : k < 5 → leaf_number (λ a. chosen k (abi_words a)) (info_alone (close_cases s)) ≡ leaf_number (λ v. chosen k (variant_words v)) (variant_answer cs)
  first_five h = ap (λ (l : Leaf VariantAbi). leaf_number (λ a. chosen k (abi_words a)) (info_alone l)) closed ∙ of_info k (variant_answer cs) h

  pub past_five : 5 ≤ k → leaf_number (λ v. chosen (k - 5) (inner_words v)) (close_cases s) ≡ leaf_number (λ v. chosen k (variant_words v)) (variant_answer cs)
  past_five h = ap (leaf_number (λ v. chosen (k - 5) (inner_words v))) closed ∙ of_inner k (variant_answer cs) h
