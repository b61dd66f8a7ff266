-- Over a list of references, from a place on: the first of them, then the others. And the references of a body.
use mathlib.Core.Path.{◌≡◌, ap, ◌∙◌}
use mathlib.Core.List.{List, [], ◌∷◌}
use Prim.Native.Nat.{ℕ, ◌+◌, ◌≤◌, ◌<◌}
use native.Mathlib.Numerals.{add-one}
use lib.ListN.{length, get_or, drop, drop_of_length-le}
use lib.Seq.{drop-cons}
use Rattle.canon.specs.Answer.{Leaf, is, no, and_then}
use Rattle.canon.specs.Cost.{rows_among}
use Rattle.canon.proofs.Costs.{rows_append}
use Rattle.build.specs.Steps.{fold_refs}

from : (ws : List ℕ) (i : ℕ) → i < length ws → drop i ws ≡ get_or ws i 0 ∷ drop (i + 1) ws
from ws i h = rw (drop-cons ws i 0 h, add-one i)

pub reads_on : (ws : List ℕ) (i : ℕ) → i < length ws → rows_among (drop i ws) ≡ rows_among (get_or ws i 0 ∷ []) + rows_among (drop (i + 1) ws)
reads_on ws i h = ap rows_among (from ws i h) ∙ rows_append (get_or ws i 0 ∷ []) (drop (i + 1) ws)

pub reads_over : (ws : List ℕ) (i : ℕ) → length ws ≤ i → rows_among (drop i ws) ≡ 0
unfolding rows_among
reads_over ws i h = rw (drop_of_length-le ws {i = i} h)

module _ {S : Type 0} (next : S → ℕ → Leaf S) (ws : List ℕ) (i : ℕ) (s : S) {l : Leaf S} (so_far : fold_refs next (drop i ws) s ≡ l) where
  opened : i < length ws → and_then (next s (get_or ws i 0)) (fold_refs next (drop (i + 1) ws)) ≡ l
  unfolding fold_refs
  opened h = rw (from ws i h) at so_far

  pub turn : (s' : S) → is s' ≡ next s (get_or ws i 0) → i < length ws → fold_refs next (drop (i + 1) ws) s' ≡ l
  unfolding and_then
  turn s' e h = rw (← e) at (opened h)

  pub stop : (x : ℕ) → no x ≡ next s (get_or ws i 0) → i < length ws → no x ≡ l
  unfolding and_then
  stop x e h = rw (← e) at (opened h)

  pub over : length ws ≤ i → is s ≡ l
  unfolding fold_refs
  over h = rw (drop_of_length-le ws {i = i} h) at so_far
