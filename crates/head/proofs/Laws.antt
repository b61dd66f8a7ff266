-- What a heading says of the words: it stands before the next definition, within the description, and its references are those that canon's `references_of` picks from the body.
use mathlib.Core.Path.{◌≡◌, refl, sym, ap, ◌∙◌}
use mathlib.Core.Bool.{Bool, true, false, cond}
use mathlib.Core.List.{List, [], ◌∷◌}
use mathlib.Core.Option.{Option, none, some}
use Prim.Native.Nat.{ℕ, suc, ◌+◌, ◌-◌, ◌≤◌, ◌<◌}
use native.Mathlib.Nat.{add-zero}
use native.Mathlib.Omega.{arith}
use lib.Dec.{ltb}
use lib.ListN.{length, get_or, take, drop, length-drop}
use lib.Seq.{take-nil, take-take, drop-drop, length-take-le}
use borrow.Author.Tests.{ltb-false}
use Rattle.canon.specs.Answer.{is, no as refuses, truncated}
use Rattle.canon.specs.Description.{kind_of, Shape, counted, fixed, shape_of, body_length, references_of}
use Rattle.canon.specs.Types.{Kind}
use Rattle.canon.proofs.Tests.{impossible}
use Rattle.head.specs.Heads.{Heading, before, many, heading, body_at, head_kind, head_at, between, Spans}
use Rattle.canon.proofs.Bodies.{body_some}
use Rattle.head.proofs.Sizes.{body_parts}

-- a heading that is given is that of its kind's body after the kind word, and the body is there
pub record Headed (ws : List ℕ) (at : ℕ) (h : Heading) : Type 0 where
  pub known : kind_of (get_or ws at 0) ≡ some h.kind
  pub is_heading : heading h.kind ws (at + 1) ≡ h
  pub there : body_length (shape_of h.kind) (get_or ws (at + 1) 0) ≤ length ws - (at + 1)

pub headed : (ws : List ℕ) (at : ℕ) (h : Heading) → head_at ws at ≡ is h → Headed ws at h
unfolding head_at head_kind body_at
headed ws at h = past (ltb at (length ws)) (kind_of (get_or ws at 0)) refl
  where
    body : (k : Kind) (b : Bool) → kind_of (get_or ws at 0) ≡ some k → ltb (length ws - (at + 1)) (body_length (shape_of k) (get_or ws (at + 1) 0)) ≡ b →
        cond b (refuses truncated) (is (heading k ws (at + 1))) ≡ is h → Headed ws at h
    body k true known p e = impossible (cc)
    body k false known p e =
        let q : heading k ws (at + 1) ≡ h = cc in
        rw (← q) (record { known = known; is_heading = refl; there = ltb-false (length ws - (at + 1)) (body_length (shape_of k) (get_or ws (at + 1) 0)) p })

    past : (b : Bool) (o : Option Kind) → kind_of (get_or ws at 0) ≡ o → cond b (head_kind o ws (at + 1)) (refuses truncated) ≡ is h → Headed ws at h
    past false o known e = impossible (cc)
    past true none known e = impossible (cc)
    past true (some k) known e = body k (ltb (length ws - (at + 1)) (body_length (shape_of k) (get_or ws (at + 1) 0))) known refl e

-- the next definition stands after this one and not past the end
pub head_spans : (ws : List ℕ) (at : ℕ) (h : Heading) → head_at ws at ≡ is h → (at < h.next) × Spans h (length ws)
head_spans ws at h e = go (headed ws at h e)
  where
    go : Headed ws at h → (at < h.next) × Spans h (length ws)
    go g =
        let s = shape_of h.kind in
        let n = get_or ws (at + 1) 0 in
        rw (← g.is_heading)
        ((omega (arith, body_some h.kind n), record { references = refl; numbers = omega (arith, body_parts s n); inside = omega (arith, g.there, body_some h.kind n) }))

pub between_length : (ws : List ℕ) (first end : ℕ) → end ≤ length ws → length (between ws first end) ≡ end - first
unfolding between
between_length ws first end h = length-take-le (end - first) (drop first ws) (omega (arith, length-drop first ws))

tail_take : (n m : ℕ) (l : List ℕ) → m ≡ suc n → drop 1 (take m l) ≡ take n (drop 1 l)
tail_take n m [] e = rw e (sym (take-nil n))
tail_take n m (x ∷ l) e = rw e

pub shape_references :
    (s : Shape) (ws : List ℕ) (from n : ℕ) →
    between ws (from + before s) (from + before s + many s n) ≡ references_of s (take (body_length s n) (drop from ws))
unfolding between
shape_references counted ws from n =
    let e : from + 1 + n - (from + 1) ≡ n = omega arith in
    rw e (ap (take n) (sym (drop-drop 1 from ws)) ∙ sym (tail_take n (1 + n) (drop from ws) (omega arith)))
shape_references (fixed r k) ws from n =
    let e : from + 0 + r - (from + 0) ≡ r = omega arith in
    rw (e, add-zero from) (sym (take-take r (r + k) (drop from ws) (omega arith)))

-- the references stand from `first` to before `end`
pub head_references :
    (ws : List ℕ) (at : ℕ) (h : Heading) → head_at ws at ≡ is h →
    between ws h.first h.end ≡ references_of (shape_of h.kind) (take (body_length (shape_of h.kind) h.count) (drop (at + 1) ws))
head_references ws at h e =
    rw (← (headed ws at h e).is_heading) (shape_references (shape_of h.kind) ws (at + 1) (get_or ws (at + 1) 0))
