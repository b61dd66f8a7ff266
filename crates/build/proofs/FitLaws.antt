-- A row of two extents is a type's row where the layouts, the flat words, the inner words and the reach are the type's, and is refused exactly when
-- canon finds the type too deep or too large.
use mathlib.Core.Path.{◌≡◌, refl, sym, ap, ◌∙◌}
use mathlib.Core.Bool.{Bool, true, false, cond, ◌||◌}
use mathlib.Core.List.{List}
use mathlib.Core.Option.{some}
use Prim.Native.Nat.{ℕ, ◌≤◌}
use lib.Dec.{ltb}
use borrow.Author.Tests.{ltb-false, le-ltb}
use Rattle.canon.specs.Answer.{Leaf, is, no as refuses, too_large, too_deep, and_then}
use Rattle.canon.specs.Types.{Ty}
use Rattle.canon.specs.Layout.{Memory, mem32, mem64, Both, both, Layout, largest_number, layout}
use Rattle.canon.specs.Flat.{flatten, flat_count}
use Rattle.canon.specs.Description.{is_too_large, Defined, checked}
use Rattle.canon.specs.Row.{row_kind, inner, row_of, type_flat, row_words}
use Rattle.canon.specs.Reach.{Reach, deeper, reach, depth, deepest, is_too_deep}
use Rattle.canon.proofs.Counts.{counted}
use Rattle.canon.proofs.FlatFolds.{Counted}
use Rattle.canon.proofs.Sizes.{largest_part, too_large_size}
use Rattle.types.specs.Extents.{extent_at}
use Rattle.types.proofs.ExtentLaws.{both_same, fitted_reach}
use Rattle.flat_types.proofs.Rows.{both_in}
use Rattle.flat_types.proofs.Trees.{type_both}
use Rattle.table.specs.Means.{deeper_answer}
use Rattle.build.specs.Steps.{LimitedIs, limited_of, fit_row, in_each}
use Rattle.build.proofs.Wording.{then_twice}

-- canon's definition as a row
abbrev pub row_leaf : Leaf Defined → Leaf (List ℕ)
row_leaf (is d) = is (row_of d.type)
row_leaf (refuses x) = refuses x

-- of one memory after the other
pub each : (P : Memory → Type 0) → P mem32 → P mem64 → (m : Memory) → P m
each P p q mem32 = p
each P p q mem64 = q

-- a type's flat count, where there is one, is its list's length
pub type_counted : (m : Memory) (t : Ty) → Counted (flat_count t) (flatten m t)
type_counted m t n e = let c = (counted m t n).0 e in (c.0, c.1)

-- words 5 to 7 of a type's row, in each memory
pub type_words_lem : (t : Ty) → in_each (type_both t) ≡ both (λ m. type_flat m t)
type_words_lem t = both_same (λ m. both_in (flat_count t) (λ i. flatten i t) (type_counted mem32 t) m)

-- the sixteen words of a type
pub row_words_lem :
    (t : Ty) →
    row_words (row_kind t) (both (λ m. layout m t)) (both (λ m. type_flat m t)) (both (λ m. inner m t)) (reach t) ≡ row_of t
unfolding row_of
row_words_lem t = refl

-- canon's tests of a type that is spelled, as a row: of its depth, then of both memories

row_if_fits : Ty → Leaf (List ℕ)
row_if_fits t = cond (is_too_large mem32 t || is_too_large mem64 t) (refuses too_large) (is (row_of t))

tested : (t : Ty) (n : ℕ) → row_leaf (checked n (some t)) ≡ cond (is_too_deep (reach t)) (refuses too_deep) (row_if_fits t)
unfolding checked row_if_fits
tested t n = go (is_too_deep (reach t)) (is_too_large mem32 t || is_too_large mem64 t)
  where
    go : (b c : Bool) → row_leaf (cond b (refuses too_deep) (cond c (refuses too_large) (is (record { type = t; length = n })))) ≡ cond b (refuses too_deep) (cond c (refuses too_large) (is (row_of t)))
    go true c = refl
    go false true = refl
    go false false = refl

-- the row of a type, by what its references reach
deep_row :
    (t : Ty) (parts : Reach) (k : Reach → Leaf (List ℕ)) (n : ℕ) →
    reach t ≡ deeper parts →
    k (deeper parts) ≡ row_if_fits t →
    and_then (deeper_answer parts) k ≡ row_leaf (checked n (some t))
unfolding deeper_answer and_then
deep_row t parts k n e h = rw (tested t n, e) (go (is_too_deep (deeper parts)))
  where
    go : (b : Bool) → and_then (cond b (refuses too_deep) (is (deeper parts))) k ≡ cond b (refuses too_deep) (row_if_fits t)
    go true = refl
    go false = h

-- a type whose sizes fit
module _ (t : Ty) (n : ℕ) (fits : (m : Memory) → (layout m (largest_part t)).size ≤ largest_number) where
  row_if_fits_lem : is (row_of t) ≡ row_if_fits t
  unfolding row_if_fits
  row_if_fits_lem = rw (too_large_size mem32 t ∙ le-ltb _ _ (fits mem32), too_large_size mem64 t ∙ le-ltb _ _ (fits mem64))

  -- and that is not too deep
  pub row_fits : depth t ≤ deepest → is (row_of t) ≡ row_leaf (checked n (some t))
  unfolding is_too_deep
  row_fits shallow = row_if_fits_lem ∙ sym (tested t n ∙ rw (le-ltb deepest (depth t) shallow))

  -- and that may be too deep: by what its references reach
  pub row_by_reach :
      (parts : Reach) (words : Reach → List ℕ) →
      reach t ≡ deeper parts →
      words (deeper parts) ≡ row_of t →
      and_then (deeper_answer parts) (λ r. is (words r)) ≡ row_leaf (checked n (some t))
  row_by_reach parts words e w = deep_row t parts (λ r. is (words r)) n e (ap is w ∙ row_if_fits_lem)

-- the extents f are those that canon tests; where they fit, the words are the type's
pub fit_row_lem :
    (t : Ty) (f : Memory → Layout) (parts : Reach) (words : Both Layout → Reach → List ℕ) (n : ℕ) →
    reach t ≡ deeper parts →
    ((m : Memory) → layout m (largest_part t) ≡ f m) →
    (((m : Memory) → (f m).size ≤ largest_number) → words (both f) (deeper parts) ≡ row_of t) →
    fit_row (both (λ m. extent_at (f m).size (f m).align)) parts words ≡ row_leaf (checked n (some t))
unfolding fit_row limited_of row_if_fits and_then
fit_row_lem t f parts words n reached e k =
    then_twice (deeper_answer parts) _ _
    ∙ deep_row t parts _ n reached (rw (fitted_reach f, large mem32, large mem64) (go (ltb largest_number (f mem32).size) (ltb largest_number (f mem64).size) refl refl))
  where
    large : (m : Memory) → is_too_large m t ≡ ltb largest_number (f m).size
    large m = too_large_size m t ∙ ap (λ (l : Layout). ltb largest_number l.size) (e m)

    row : Leaf (Both Layout) → Leaf (List ℕ)
    row l = and_then {A = LimitedIs} (and_then l (λ ls. is (record { layouts = ls; reach = deeper parts }))) (λ c. is (words c.layouts c.reach))

    go : (b c : Bool) → ltb largest_number (f mem32).size ≡ b → ltb largest_number (f mem64).size ≡ c →
        row (cond (b || c) (refuses too_large) (is (both f))) ≡ cond (b || c) (refuses too_large) (is (row_of t))
    go true c p q = refl
    go false true p q = refl
    go false false p q = ap is (k (each (λ m. (f m).size ≤ largest_number) (ltb-false _ _ p) (ltb-false _ _ q)))
