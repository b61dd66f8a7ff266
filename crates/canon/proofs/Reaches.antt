-- Laws of what is reached: nothing is the unit, joining from either end gives the same, and word 15 tells it. Two more is one definition deeper,
-- and a definition that is not too deep has a good word.
use mathlib.Core.Path.{◌≡◌, refl, sym, ap, ap₂, ◌∙◌}
use mathlib.Core.Bool.{Bool, true, false, cond, ◌||◌, or-false, or_assoc}
use mathlib.Core.List.{List, [], ◌∷◌, ◌++◌}
use Prim.Native.Nat.{ℕ, ◌+◌, ◌*◌, ◌/◌, ◌%◌, ◌≤◌, max}
use native.Mathlib.Omega.{arith}
use lib.Dec.{eqb}
use borrow.Author.Tests.{eqb-true, eqb-false, le-leb, eq-eqb, ne_eqb}
use Rattle.canon.specs.Reach.{Reach, no_reach, join_reach, deeper, reach_word, word_reach, good_reach, deepest}
use Rattle.canon.specs.Row.{Info}
use Rattle.canon.specs.Question.{any_borrow}

abbrev make : Bool → ℕ → Reach
make b d = record { borrow = b; depth = d }

pub no_reach_join : (r : Reach) → join_reach no_reach r ≡ r
unfolding join_reach
no_reach_join r = ap (make r.borrow) (omega arith)

pub join_no_reach : (r : Reach) → join_reach r no_reach ≡ r
unfolding join_reach
join_no_reach r = ap₂ make (or-false r.borrow) (omega arith)

pub join_reach_assoc : (a b c : Reach) → join_reach a (join_reach b c) ≡ join_reach (join_reach a b) c
unfolding join_reach
join_reach_assoc a b c = ap₂ make (sym (or_assoc a.borrow b.borrow c.borrow)) (omega arith)

-- the word tells both, and no two words tell the same

pub word_back : (r : Reach) → word_reach (reach_word r) ≡ r
unfolding word_reach reach_word
word_back r = go r.borrow
  where
    go : (b : Bool) → word_reach (reach_word (make b r.depth)) ≡ make b r.depth
    go true = ap₂ make (eq-eqb ((1 + 2 * r.depth) % 2) 1 (omega arith)) (omega arith)
    go false = ap₂ make (ne_eqb ((0 + 2 * r.depth) % 2) 1 (λ e. omega arith)) (omega arith)

pub reach_back : (w : ℕ) → reach_word (word_reach w) ≡ w
unfolding reach_word word_reach
reach_back w = go (eqb (w % 2) 1) refl
  where
    go : (b : Bool) → eqb (w % 2) 1 ≡ b → cond b 1 0 + 2 * (w / 2) ≡ w
    go true e = omega (arith, eqb-true (w % 2) 1 e)
    go false e = let even = eqb-false (w % 2) 1 e in omega arith

-- what two words tell together
pub word_join : (v w : ℕ) → max (v % 2) (w % 2) + 2 * max (v / 2) (w / 2) ≡ reach_word (join_reach (word_reach v) (word_reach w))
unfolding reach_word join_reach word_reach
word_join v w = go (eqb (v % 2) 1) (eqb (w % 2) 1) refl refl
  where
    twice : ℕ
    twice = 2 * max (v / 2) (w / 2)

    go : (b c : Bool) → eqb (v % 2) 1 ≡ b → eqb (w % 2) 1 ≡ c → max (v % 2) (w % 2) + twice ≡ cond (b || c) 1 0 + twice
    go true c p q = omega (arith, eqb-true (v % 2) 1 p)
    go false true p q = omega (arith, eqb-true (w % 2) 1 q)
    go false false p q = let e = eqb-false (v % 2) 1 p in let f = eqb-false (w % 2) 1 q in omega arith

-- two more is one definition deeper
pub word_deeper : (w : ℕ) → word_reach (w + 2) ≡ deeper (word_reach w)
unfolding word_reach deeper
word_deeper w = let same : (w + 2) % 2 ≡ w % 2 = omega arith in ap₂ make (ap (λ (x : ℕ). eqb x 1) same) (omega arith)

-- a definition that is not too deep has a good word
pub good_word : (r : Reach) → 1 ≤ r.depth → r.depth ≤ deepest → good_reach (reach_word r) ≡ true
unfolding good_reach reach_word
good_word r deep shallow = go r.borrow
  where
    go : (b : Bool) → good_reach (reach_word (make b r.depth)) ≡ true
    go true = rw (le-leb 2 (1 + 2 * r.depth) (omega arith), le-leb (1 + 2 * r.depth) 201 (omega arith))
    go false = rw (le-leb 2 (0 + 2 * r.depth) (omega arith), le-leb (0 + 2 * r.depth) 201 (omega arith))

-- one info more at the end, as a loop from left to right meets it
pub any_borrow_more : (is' : List Info) (i : Info) → any_borrow (is' ++ i ∷ []) ≡ any_borrow is' || i.reach.borrow
unfolding any_borrow
any_borrow_more [] i = or-false i.reach.borrow
any_borrow_more (j ∷ is') i = ap (λ (b : Bool). j.reach.borrow || b) (any_borrow_more is' i) ∙ sym (or_assoc j.reach.borrow (any_borrow is') i.reach.borrow)
