-- The memo of a placement: what it holds is what references give, and a reference that gives a layout has its place there.
use mathlib.Core.Path.{◌≡◌, refl, sym, ap, ◌∙◌}
use mathlib.Core.Bool.{Bool, true, false}
use mathlib.Core.List.{List, [], ◌∷◌, ◌++◌, map, map-append, append_assoc}
use Prim.Native.Nat.{ℕ, zero, suc, ◌+◌, ◌<◌}
use native.Mathlib.Numerals.{add-one}
use native.Mathlib.Omega.{arith}
use lib.Dec.{eqb}
use lib.ListN.{length, get_or, take, drop, set, replicate, length-map}
use lib.Seq.{get_or-set_same, get_or-set_other, drop-cons, take-suc, length-take-le, set_at}
use borrow.Author.Tests.{eqb-true, eqb-false}
use Rattle.std.specs.Prelude.{Option, Some, None, IsSome, unwrap_or}
use Rattle.canon.specs.Answer.{Leaf, is, no, Answer, ok, refused, at_position, then, and_then}
use Rattle.canon.specs.Layout.{Memory, Layout}
use Rattle.canon.specs.Row.{Info, info_layout}
use Rattle.canon.specs.Question.{read, infos, no_table, layouts_in}
use Rattle.canon.proofs.Tests.{impossible}
use Rattle.canon.proofs.Questions.{read_below}
use Rattle.canon.proofs.Rounding.{Alignment}
use Rattle.canon.proofs.Tightest.{Aligned}
use Rattle.types.specs.Means.{layout_means}
use Rattle.types.specs.declared.extent.Layout as code
use Rattle.questions.specs.Steps.{member_layout, at_place, layout_at, Remembers, Recalled, known}
use Rattle.questions.proofs.References.{part_is}

-- by whether two numbers are the same
by_same : {A : Type 0} (v w : ℕ) → (v ≡ w → A) → ((v ≡ w → ⊥) → A) → A
by_same {A} v w y n = go (eqb v w) refl
  where
    go : (b : Bool) → eqb v w ≡ b → A
    go true e = y (eqb-true v w e)
    go false e = n (eqb-false v w e)

-- what gives a layout has its place in the memo
pub gives_layout : (m : Memory) (t : List ℕ) (n w : ℕ) → no_table t n ≡ false → (f : Layout) → is f ≡ member_layout m t n w → w < 1088
gives_layout m t n w there f h = let r = part_is (info_layout m) (read t n w) f h in read_below t n w r.0 there r.1

-- a layout that a reference gives is put at its place
module _
    (look : ℕ → Leaf Layout) (w : ℕ) (memo : List (Option code.Layout)) (remembers : Remembers look memo)
    (f : code.Layout) (gives : look w ≡ is (layout_means f)) (below : w < length memo) where
  pub recalled_new : Recalled look w memo (set memo w (Some f))
  recalled_new =
      record {
        holds = λ v g h. by_same v w
            (λ e. let s : Some f ≡ Some g = sym (get_or-set_same memo w (Some f) None below) ∙ (rw e at h) in let z : f ≡ g = cc in rw (e, ← z) gives)
            (λ e. remembers v g (rw (get_or-set_other memo w v (Some f) None e) at h));
        keeps = λ v h. by_same v w
            (λ e. rw (e, get_or-set_same memo w (Some f) None below) refl)
            (λ e. rw (get_or-set_other memo w v (Some f) None e) h);
        found = λ g e. rw (get_or-set_same memo w (Some f) None below) refl;
      }

-- a memo of none remembers nothing
pub remembers_none : (look : ℕ → Leaf Layout) (n : ℕ) → Remembers look (replicate n None)
remembers_none look n w f h = let z : None ≡ Some f = sym (nones n w) ∙ h in impossible (cc)
  where
    nones : (n w : ℕ) → ◌≡◌ {A = Option code.Layout} (at_place (replicate n None) w) None
    nones zero w = refl
    nones (suc n) zero = refl
    nones (suc n) (suc w) = nones n w

some_is : {A : Type 0} (o : Option A) (d : A) → IsSome o → o ≡ Some (unwrap_or o d)
some_is None d h = impossible (cc)
some_is (Some x) d h = refl

-- References that are all there: the layouts are those of the infos that were read
pub known_all :
    (m : Memory) (t : List ℕ) (n : ℕ) (memo : List (Option code.Layout)) → Remembers (member_layout m t n) memo →
    (p : ℕ) (ws : List ℕ) (is' : List Info) → infos (read t n) p ws ≡ ok is' →
    ((k : ℕ) → k < length ws → IsSome (at_place memo (get_or ws k 0))) →
    known memo ws ≡ layouts_in m is'
unfolding infos then at_position and_then
known_all m t n memo remembers p [] is' e there = let z : [] ≡ is' = cc in rw (← z)
known_all m t n memo remembers p (w ∷ ws) is' e there =
    go (read t n w) (infos (read t n) (suc p) ws) refl e (remembers w _ (some_is (at_place memo w) _ (there 0 (omega arith))))
    (λ js g. known_all m t n memo remembers (suc p) ws js g (λ k h. there (suc k) (omega arith)))
  where
    go :
        (l : Leaf Info) (a : Answer (List Info)) → infos (read t n) (suc p) ws ≡ a →
        then (at_position p l) (λ i. then a (λ js. ok (i ∷ js))) ≡ ok is' →
        and_then l (λ i. is (info_layout m i)) ≡ is (layout_at memo w) →
        ((js : List Info) → infos (read t n) (suc p) ws ≡ ok js → known memo ws ≡ layouts_in m js) →
        layout_at memo w ∷ known memo ws ≡ layouts_in m is'
    go (no x) a g e h rec = impossible (cc)
    go (is i) (refused x q) g e h rec = impossible (cc)
    go (is i) (ok js) g e h rec =
        let z : i ∷ js ≡ is' = cc in
        let y : info_layout m i ≡ layout_at memo w = cc in
        rw (← z, ← y, rec js g)

-- one more of them
pub known_more : (memo : List (Option code.Layout)) (ws : List ℕ) (k : ℕ) → k < length ws → take (k + 1) (known memo ws) ≡ take k (known memo ws) ++ layout_at memo (get_or ws k 0) ∷ []
known_more memo ws k h = rw (add-one k) (go ws k h)
  where
    go : (ws : List ℕ) (k : ℕ) → k < length ws → take (suc k) (known memo ws) ≡ take k (known memo ws) ++ layout_at memo (get_or ws k 0) ∷ []
    go [] k h = absurd (omega arith)
    go (w ∷ ws) zero h = refl
    go (w ∷ ws) (suc k) h = ap (λ (l : List Layout). layout_at memo w ∷ l) (go ws k (omega arith))

pub known_aligned : (memo : List (Option code.Layout)) (ws : List ℕ) (k : ℕ) → Aligned (known memo ws) → k < length ws → Alignment (layout_at memo (get_or ws k 0)).align
known_aligned memo [] k a h = absurd (omega arith)
known_aligned memo (w ∷ ws) zero a h = a.0
known_aligned memo (w ∷ ws) (suc k) a h = known_aligned memo ws k a.1 (omega arith)

-- what is there has a place
pub there_below : (memo : List (Option code.Layout)) (w : ℕ) → IsSome (at_place memo w) → w < length memo
there_below [] w h = impossible (cc)
there_below (o ∷ memo) zero h = omega arith
there_below (o ∷ memo) (suc w) h = let g = there_below memo w h in omega arith

-- a turn of writing: the next word behind those written, the others as they were
pub write_turn :
    (os out : List ℕ) (x k : ℕ) → length os ≡ k → k < length out →
    set (os ++ drop k out) k x ≡ (os ++ x ∷ []) ++ drop (k + 1) out
write_turn os out x k e h =
    rw (add-one k, drop-cons out k 0 h, append_assoc os (x ∷ []) (drop (suc k) out)) (set_at os (get_or out k 0) (drop (suc k) out) x k e)

-- a turn of copying a part of each that is staged
pub copy_turn :
    {A : Type 0} (part : A → ℕ) (s : List A) (none : A) (d : List ℕ) (i : ℕ) → i < length s → i < length d →
    set (map part (take i s) ++ drop i d) i (part (get_or s i none)) ≡ map part (take (i + 1) s) ++ drop (i + 1) d
copy_turn part s none d i h k =
    write_turn (map part (take i s)) d (part (get_or s i none)) i (length-map (take i s) part ∙ length-take-le i s (omega arith)) k
    ∙ ap (λ (l : List ℕ). l ++ drop (i + 1) d) (sym (ap (map part) (ap (λ (n : ℕ). take n s) (add-one i) ∙ take-suc s i none h) ∙ map-append part (take i s) (get_or s i none ∷ [])))
