-- What a call answers: a value or 01's number of the refusal; for a build or a question the position stands beside the number.
use Rattle.std.specs.Prelude.{Bool, true, false, ℕ}
use Rattle.std.proofs.Math.Option.{Option, none, some}

-- 01, "Numbers of refusal"

abbrev pub too_long : ℕ
too_long = 1

abbrev pub truncated : ℕ
truncated = 2

abbrev pub bad_kind : ℕ
bad_kind = 3

abbrev pub bad_ref : ℕ
bad_ref = 4

abbrev pub bad_count : ℕ
bad_count = 5

abbrev pub too_large : ℕ
too_large = 6

abbrev pub no_room : ℕ
no_room = 7

abbrev pub bad_row : ℕ
bad_row = 8

-- 02, order 5
abbrev pub too_deep : ℕ
too_deep = 9

-- 01: "Leaf calls answer the number alone"
pub data Leaf (A : Type 0) : Type 0 where
  is : A → Leaf A
  no : ℕ → Leaf A

-- a refusal stays; a value goes on
unfoldable pub and_then : {A B : Type 0} → Leaf A → (A → Leaf B) → Leaf B
and_then (is a) k = k a
and_then (no x) k = no x

-- 01: "It answers the number with the reference's position, 0 if no reference is at fault"
pub data Answer (A : Type 0) : Type 0 where
  ok : A → Answer A
  refused : ℕ → ℕ → Answer A

-- what stands at a position
unfoldable pub at_position : {A : Type 0} → ℕ → Leaf A → Answer A
at_position p (is a) = ok a
at_position p (no x) = refused x p

-- a refusal stays; an answer goes on
unfoldable pub then : {A B : Type 0} → Answer A → (A → Answer B) → Answer B
then (ok a) k = k a
then (refused x p) k = refused x p

-- a test before any reference is read
unfoldable pub unless : {A : Type 0} → Bool → ℕ → Answer A → Answer A
unless true x a = refused x 0
unless false x a = a

-- what may be missing

abbrev pub map_option : {A B : Type 0} → (A → B) → Option A → Option B
map_option f none = none
map_option f (some a) = some (f a)

abbrev pub map_option2 : {A B C : Type 0} → (A → B → C) → Option A → Option B → Option C
map_option2 f none b = none
map_option2 f (some a) b = map_option (f a) b
