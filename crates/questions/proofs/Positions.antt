-- Positions in a list, and in one that comes behind another.
use mathlib.Core.Path.{◌≡◌, refl, ap, ◌∙◌}
use mathlib.Core.List.{List, [], ◌∷◌}
use Prim.Native.Nat.{ℕ, suc, ◌+◌}
use native.Mathlib.Nat.{add-zero}
use native.Mathlib.Omega.{arith}
use lib.ListN.{length}
use Rattle.canon.specs.Answer.{Leaf, is, no, Answer, ok, refused, at_position, then}
use Rattle.canon.specs.Layout.{Memory}
use Rattle.canon.specs.Row.{Info}
use Rattle.canon.specs.Question.{read, infos}
use Rattle.questions.specs.Gathers.{together, together_refs, together_two}
use Rattle.questions.specs.Steps.{two_refs}

-- positions that count on from a list before

abbrev pub moved : {A : Type 0} → ℕ → Answer A → Answer A
moved p (ok a) = ok a
moved p (refused x q) = refused x (p + q)

infos_moved : (look : ℕ → Leaf Info) (p q : ℕ) (ws : List ℕ) → infos look (p + q) ws ≡ moved p (infos look q ws)
unfolding infos then at_position
infos_moved look p q [] = refl
infos_moved look p q (w ∷ ws) = go (look w) (ap (λ (k : ℕ). infos look k ws) (omega arith) ∙ infos_moved look p (suc q) ws)
  where
    tail : (i : Info) (a : Answer (List Info)) → then (moved p a) (λ js. ok (i ∷ js)) ≡ moved p (then a (λ js. ok (i ∷ js)))
    tail i (ok js) = refl
    tail i (refused x r) = refl

    go :
        (l : Leaf Info) → infos look (suc (p + q)) ws ≡ moved p (infos look (suc q) ws) →
        then (at_position (p + q) l) (λ i. then (infos look (suc (p + q)) ws) (λ js. ok (i ∷ js)))
        ≡ moved p (then (at_position q l) (λ i. then (infos look (suc q) ws) (λ js. ok (i ∷ js))))
    go (is i) h = rw h (tail i (infos look (suc q) ws))
    go (no x) h = refl

-- so a list behind p others is read as by itself
pub infos_from : (look : ℕ → Leaf Info) (p : ℕ) (ws : List ℕ) → infos look p ws ≡ moved p (infos look 0 ws)
infos_from look p ws = rw (add-zero p) at (infos_moved look p 0 ws)

pub two_gathered :
    (t : List ℕ) (n : ℕ) (a b : Memory) (vs ws : List ℕ) →
    two_refs t n a vs b ws
    ≡ then (together_refs a t n vs) (λ x. then (moved (length vs) (together_refs b t n ws)) (λ y. ok (record { first = x; second = y })))
unfolding then
two_gathered t n a b vs ws =
    let shifted = infos_from (read t n) (length vs) ws in
    rw shifted (go (infos (read t n) 0 vs) (infos (read t n) 0 ws))
  where
    go :
        (p q : Answer (List Info)) →
        then p (λ is'. then (moved (length vs) q) (λ js. ok (together_two a is' b js)))
        ≡ then (then p (λ is'. ok (together a is')))
        (λ x. then (moved (length vs) (then q (λ js. ok (together b js)))) (λ y. ok (record { first = x; second = y })))
    go (ok is') (ok js) = refl
    go (ok is') (refused x r) = refl
    go (refused x r) q = refl
