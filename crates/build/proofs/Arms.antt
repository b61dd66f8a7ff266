-- An arm of two kinds: the calls that both share give the row of the kind that took it. And how many references a heading has.
use mathlib.Core.Path.{◌≡◌, refl, ◌∙◌}
use mathlib.Core.Logic.{◌⊎◌, inl, inr}
use mathlib.Core.List.{List, [], ◌∷◌}
use Prim.Native.Nat.{ℕ}
use native.Mathlib.Omega.{arith}
use lib.ListN.{length, get_or}
use Rattle.canon.specs.Answer.{Leaf, no, and_then}
use Rattle.canon.specs.Description.{shape_of}
use Rattle.canon.specs.Row.{Info}
use Rattle.canon.specs.Types.{kind_word}
use Rattle.head.specs.Heads.{Heading, Spans, between, many}
use Rattle.head.specs.Means.{kind_means}
use Rattle.head.specs.declared.Kind.{Kind}
use Rattle.head.specs.declared.Kind.TheVariants as kind
use Rattle.head.proofs.Laws.{between_length}
use Rattle.build.specs.Kinds.{variant_row, row_of_kind}
use Rattle.build.specs.Steps.{fold_refs, no_members, with_member, members_row}

module _ (look : ℕ → Leaf Info) (n : ℕ) (ws : List ℕ) (behind : ℕ) where
  pub members_arm :
      (k : Kind) → (k ≡ kind.Record) ⊎ (k ≡ kind.Tuple) →
      and_then (fold_refs (with_member look) ws no_members) (members_row (kind_word (kind_means k))) ≡ row_of_kind look (kind_means k) n ws behind
  unfolding row_of_kind
  members_arm k (inl e) = rw e
  members_arm k (inr e) = rw e

  pub cases_arm :
      (k : Kind) → (k ≡ kind.Variant) ⊎ (k ≡ kind.Result) →
      variant_row (kind_word (kind_means k)) look ws ≡ row_of_kind look (kind_means k) n ws behind
  unfolding row_of_kind
  cases_arm k (inl e) = rw e
  cases_arm k (inr e) = rw e

-- what is refused at a reference
pub stopped : {A B : Type 0} {l : Leaf A} (x : ℕ) (k : A → Leaf B) → no x ≡ l → no x ≡ and_then l k
unfolding and_then
stopped x k e = rw (← e)

pub reference_count : (ws : List ℕ) (h : Heading) → Spans h (length ws) → length (between ws h.first h.end) ≡ many (shape_of h.kind) h.count
reference_count ws h s = between_length ws h.first h.end (omega (arith, s.numbers, s.inside)) ∙ omega (arith, s.references)

pub no_word : (l : List ℕ) → length l ≡ 0 → [] ≡ l
no_word [] h = refl
no_word (x ∷ l) h = absurd (omega arith)

pub one_word : (l : List ℕ) → length l ≡ 1 → get_or l 0 0 ∷ [] ≡ l
one_word [] h = absurd (omega arith)
one_word (x ∷ []) h = refl
one_word (x ∷ y ∷ l) h = absurd (omega arith)

pub two_words : (l : List ℕ) → length l ≡ 2 → get_or l 0 0 ∷ get_or l 1 0 ∷ [] ≡ l
two_words [] h = absurd (omega arith)
two_words (x ∷ []) h = absurd (omega arith)
two_words (x ∷ y ∷ []) h = refl
two_words (x ∷ y ∷ z ∷ l) h = absurd (omega arith)
