-- A definition at a place of the description is canon's `define` of the words there, its references are those behind the kind word, and the next one
-- stands after it, within the description.
use mathlib.Core.Path.{◌≡◌, refl, ap, ◌∙◌}
use mathlib.Core.Bool.{Bool, true, false, cond}
use mathlib.Core.List.{List}
use mathlib.Core.Option.{Option, none, some}
use Prim.Native.Nat.{ℕ, ◌+◌, ◌-◌, ◌≤◌, ◌<◌}
use native.Mathlib.Nat.{add-zero}
use native.Mathlib.Omega.{arith}
use lib.Dec.{ltb}
use lib.ListN.{length, get_or, take, drop, length-drop}
use lib.Seq.{get_or-drop}
use borrow.Author.Tests.{ltb-false, lt-ltb}
use Rattle.canon.specs.Answer.{Leaf, is, no as refuses, truncated, bad_count, and_then}
use Rattle.canon.specs.Types.{Ty, Kind}
use Rattle.canon.specs.Row.{Info, row_of}
use Rattle.canon.specs.Description.{kind_of, is_bad_count, type_of, Defined, checked, bodied, define}
use Rattle.canon.proofs.Tests.{impossible}
use Rattle.canon.proofs.Built.{checked_length, type_info}
use Rattle.canon.specs.Description.{shape_of, body_length}
use Rattle.canon.specs.Cost.{references_behind}
use Rattle.head.specs.Heads.{Heading, heading, body_at, head_kind, head_at, between}
use Rattle.head.proofs.Laws.{headed, head_spans, head_references}
use Rattle.build.specs.Kinds.{kind_row, DefinedIs, defined_at}
use Rattle.build.proofs.FitLaws.{row_leaf}
use Rattle.build.proofs.BodyLaws.{kind_row_lem}

-- canon's definition at a place, as a row and the place of the next
abbrev pub defined_leaf : ℕ → Leaf Defined → Leaf DefinedIs
defined_leaf at (is d) = is (record { row = row_of d.type; next = at + 1 + d.length })
defined_leaf at (refuses x) = refuses x

-- what a head leads to
abbrev from_head : (ℕ → Leaf Info) → List ℕ → Leaf Heading → Leaf DefinedIs
from_head look ws l = and_then l (λ h. and_then (kind_row look ws h) (λ r. is (record { row = r; next = h.next })))

-- the row's answer with the place of the next
with_next : (at n : ℕ) (o : Option Ty) →
    and_then (row_leaf (checked n o)) (λ r. is (record { row = r; next = at + 1 + n })) ≡ defined_leaf at (checked n o)
unfolding and_then
with_next at n o = go (checked n o) refl
  where
    go : (l : Leaf Defined) → checked n o ≡ l → and_then (row_leaf l) (λ r. is (record { row = r; next = at + 1 + n })) ≡ defined_leaf at l
    go (is d) e = rw (checked_length n o d e)
    go (refuses x) e = refl

module _ (ts : List Ty) (ws : List ℕ) (at : ℕ) (there : at < length ws) where
  body : (k : Kind) → from_head (type_info ts) ws (body_at k ws (at + 1)) ≡ defined_leaf at (bodied ts (some k) (drop (at + 1) ws))
  unfolding body_at bodied and_then
  body k =
      rw (length-drop (at + 1) ws, get_or-drop (at + 1) ws 0 0, add-zero (at + 1))
      (go (ltb (length ws - (at + 1)) (body_length (shape_of k) n)) refl)
    where
      n : ℕ
      n = get_or ws (at + 1) 0

      len : ℕ
      len = body_length (shape_of k) n

      type : Option Ty
      type = type_of ts k (take len (drop (at + 1) ws))

      tested : (b : Bool) →
          and_then (cond b (refuses bad_count) (row_leaf (checked len type))) (λ r. is (record { row = r; next = at + 1 + len }))
          ≡ defined_leaf at (cond b (refuses bad_count) (checked len type))
      tested true = refl
      tested false = with_next at len type

      go : (b : Bool) → ltb (length ws - (at + 1)) len ≡ b →
          from_head (type_info ts) ws (cond b (refuses truncated) (is (heading k ws (at + 1))))
          ≡ defined_leaf at (cond b (refuses truncated) (cond (is_bad_count k n) (refuses bad_count) (checked len type)))
      go true p = refl
      go false p =
          rw (kind_row_lem ts k ws (at + 1) n len refl (omega (arith, ltb-false (length ws - (at + 1)) len p))) (tested (is_bad_count k n))

  pub defined_at_lem : defined_at (type_info ts) ws at ≡ defined_leaf at (define ts (get_or ws at 0) (drop (at + 1) ws))
  unfolding defined_at head_at head_kind bodied and_then
  defined_at_lem = rw (lt-ltb at (length ws) there) (go (kind_of (get_or ws at 0)))
    where
      go : (o : Option Kind) → from_head (type_info ts) ws (head_kind o ws (at + 1)) ≡ defined_leaf at (bodied ts o (drop (at + 1) ws))
      go none = refl
      go (some k) = body k

-- The references of a heading are those that stand behind the kind word
pub references_behind_lem :
    (ws : List ℕ) (at : ℕ) (h : Heading) → head_at ws at ≡ is h →
    between ws h.first h.end ≡ references_behind (kind_of (get_or ws at 0)) (drop (at + 1) ws)
references_behind_lem ws at h e =
    let g = headed ws at h e in
    head_references ws at h e
    ∙ rw (g.known, get_or-drop (at + 1) ws 0 0, add-zero (at + 1), ap (λ (x : Heading). x.count) g.is_heading)

-- A definition moves on

pub moves_on :
    (look : ℕ → Leaf Info) (ws : List ℕ) (at : ℕ) (d : DefinedIs) →
    defined_at look ws at ≡ is d →
    (at < d.next) × (d.next ≤ length ws)
unfolding defined_at and_then
moves_on look ws at d e = head (head_at ws at) refl e
  where
    row : (h : Heading) (l : Leaf (List ℕ)) → head_at ws at ≡ is h →
        and_then l (λ r. is (record { row = r; next = h.next })) ≡ is d → (at < d.next) × (d.next ≤ length ws)
    row h (is r) p e =
        let q : record { row = r; next = h.next } ≡ d = cc in
        rw (← q) (((head_spans ws at h p).0, omega (arith, (head_spans ws at h p).1.inside)))
    row h (refuses x) p e = impossible (cc)

    head : (l : Leaf Heading) → head_at ws at ≡ l → from_head look ws l ≡ is d → (at < d.next) × (d.next ≤ length ws)
    head (is h) p e = row h (kind_row look ws h) p e
    head (refuses x) p e = impossible (cc)
