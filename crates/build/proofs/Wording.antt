-- Equal parts make equal rows; what one answer does to the next.
use mathlib.Core.Path.{◌≡◌, refl}
use Prim.Native.Nat.{ℕ}
use Rattle.canon.specs.Answer.{Leaf, is, no, and_then}
use Rattle.canon.specs.Layout.{Both}
use Rattle.canon.specs.Pack.{Packed}
use Rattle.canon.specs.Row.{Inner, row_words}
use Rattle.canon.specs.Reach.{Reach}
use Rattle.canon.proofs.Rows.{count_word_count_of}
use Rattle.types.specs.declared.extent.Extent.{Extent}
use Rattle.flat_types.specs.Lists.{both_words}
use Rattle.flat_types.proofs.Halves.{whole_halves}
use Rattle.table.specs.Means.{info_means}
use Rattle.table.specs.declared.info.Info.{Info}
use Rattle.build.specs.Steps.{fit_row, info_flat}

-- the flat words that an info's meaning keeps are the info's own
pub flat_kept : (i : Info) → info_flat (info_means i) ≡ both_words i.flat
flat_kept i = λ j. record { number = count_word_count_of i.flat.count j; types = whole_halves i.flat.words j }

pub fit_same :
    {es es' : Both Extent} {fs fs' : Both Packed} {ns ns' : Both Inner} {a b : Reach} (kind : ℕ) →
    es ≡ es' → fs ≡ fs' → ns ≡ ns' → a ≡ b →
    fit_row es a (λ ls. row_words kind ls fs ns) ≡ fit_row es' b (λ ls. row_words kind ls fs' ns')
fit_same kind p q r s = λ i. fit_row (p i) (s i) (λ ls. row_words kind ls (q i) (r i))

-- one after another, however they are grouped
pub then_twice : {A B C : Type 0} (l : Leaf A) (f : A → Leaf B) (g : B → Leaf C) → and_then (and_then l f) g ≡ and_then l (λ a. and_then (f a) g)
unfolding and_then
then_twice (is a) f g = refl
then_twice (no x) f g = refl

-- an answer that was matched goes on
pub then_is : {A B : Type 0} (l : Leaf A) (a : A) (k : A → Leaf B) → l ≡ is a → and_then l k ≡ k a
unfolding and_then
then_is l a k e = rw e
