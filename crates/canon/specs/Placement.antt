-- What a placement is, as the tender's third demand words it: a relation over any starts and any size, ours or not.
use mathlib.Core.List.{List, [], ◌∷◌, Forall₂}
use Rattle.std.specs.Prelude.{ℕ, ◌+◌, ◌≤◌, ◌<◌}
use Rattle.std.specs.Int.{◌∣◌}
use Rattle.canon.specs.Layout.{Layout}

-- P holds of each element
abbrev pub Every {ℓ} : {A : Type ℓ} → (A → Type 0) → List A → Type 0
Every P [] = Unit {0}
Every P (x ∷ xs) = P x × Every P xs

abbrev pub four_gib : ℕ
four_gib = 4294967296

-- the members fs lie at these starts, after an end e, and the last of them ends at l: "keeps members in order, starts each on a
-- multiple of its alignment and never before its predecessor's end, keeps every start, end and size below 4 GiB"
pub data Placed : ℕ → List Layout → List ℕ → ℕ → Type 0 where
  done : {e : ℕ} → Placed e [] [] e
  next :
      {e s l : ℕ} {f : Layout} {fs : List Layout} {ss : List ℕ} →
      f.align ∣ s → e ≤ s → s < four_gib → s + f.size < four_gib → Placed (s + f.size) fs ss l → Placed e (f ∷ fs) (s ∷ ss) l

-- "the record's alignment, the least positive number every member's alignment divides (1 for none)"
pub record LeastCommon (fs : List Layout) (a : ℕ) : Type 0 where
  pub positive : 0 < a
  pub common : Every (λ f. f.align ∣ a) fs
  pub least : (b : ℕ) → 0 < b → Every (λ f. f.align ∣ b) fs → a ≤ b

-- "has a size reaching the last end and divisible by the record's alignment"
pub record Placement (fs : List Layout) (starts : List ℕ) (size : ℕ) : Type 0 where
  pub last : ℕ
  pub alignment : ℕ
  pub members : Placed 0 fs starts last
  pub aligned : LeastCommon fs alignment
  pub reaches : last ≤ size
  pub fits : size < four_gib
  pub divides : alignment ∣ size

-- "admits none"
abbrev pub NoPlacement : List Layout → Type 0
NoPlacement fs = (starts : List ℕ) (size : ℕ) → ¬ Placement fs starts size

-- no start of the first list is later than its fellow of the second
abbrev pub NoneLater : List ℕ → List ℕ → Type 0
NoneLater = Forall₂ ◌≤◌
