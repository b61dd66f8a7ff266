-- What an answer means tells the answer: the way back from a meaning, and from 01's number to the refusal.
use mathlib.Core.Path.{◌≡◌, refl, sym, ap, ◌∙◌}
use mathlib.Core.Bool.{cond}
use Prim.Native.Nat.{ℕ}
use lib.Dec.{eqb}
use Rattle.std.specs.Prelude.{Option, Some, None, Ok, Err}
use Rattle.std.proofs.Math.Option as math
use Rattle.std.proofs.Math.Option.{none, some}
use Rattle.canon.proofs.Tests.{impossible}
use Rattle.types.specs.declared.refusal.Refusal.{Refusal}
use Rattle.types.specs.declared.refusal.Refusal.TheVariants.{TooLong, Truncated, BadKind, BadRef, BadCount, TooLarge, NoRoom, BadRow, TooDeep}
use Rattle.types.specs.Means.{number_of, leaf, count_means}

-- a meaning that tells its values apart
abbrev pub Tells : {A B : Type 0} → (A → B) → Type 0
Tells {A} f = (x y : A) → f x ≡ f y → x ≡ y

-- what can be read back is told apart
pub told : {A B : Type 0} (f : A → B) (g : B → A) → ((x : A) → g (f x) ≡ x) → Tells f
told f g back x y e = sym (back x) ∙ ap g e ∙ back y

abbrev pub refusal_of : ℕ → Refusal
refusal_of n =
    cond (eqb n 1) TooLong
    (cond (eqb n 2) Truncated
    (cond (eqb n 3) BadKind
    (cond (eqb n 4) BadRef (cond (eqb n 5) BadCount (cond (eqb n 6) TooLarge (cond (eqb n 7) NoRoom (cond (eqb n 8) BadRow TooDeep)))))))

pub refusal_back : (r : Refusal) → refusal_of (number_of r) ≡ r
refusal_back TooLong = refl
refusal_back Truncated = refl
refusal_back BadKind = refl
refusal_back BadRef = refl
refusal_back BadCount = refl
refusal_back TooLarge = refl
refusal_back NoRoom = refl
refusal_back BadRow = refl
refusal_back TooDeep = refl

pub number_told : Tells number_of
number_told = told number_of refusal_of refusal_back

-- an answer tells its value, where a meaning of values does, or its refusal
pub leaf_told : {A B : Type 0} {f : A → B} → Tells f → Tells (leaf f)
leaf_told t (Ok a) (Ok b) e = ap Ok (t a b (cc))
leaf_told t (Ok a) (Err s) e = impossible (cc)
leaf_told t (Err r) (Ok b) e = impossible (cc)
leaf_told t (Err r) (Err s) e = ap Err (number_told r s (cc))

-- a count, or none

abbrev pub count_from : math.Option ℕ → Option ℕ
count_from none = None
count_from (some n) = Some n

pub count_back : (c : Option ℕ) → count_from (count_means c) ≡ c
count_back (Some n) = refl
count_back None = refl

pub count_told : Tells count_means
count_told = told count_means count_from count_back
