-- Where a build stops: at the first definition that is refused, among those that it comes to. With that, when a build answers 9 and when 6, and
-- demand 3 of its answer.
use mathlib.Core.Path.{◌≡◌, refl, ap, ◌∙◌}
use mathlib.Core.Logic.{◌⊎◌, ◌↔◌}
use mathlib.Core.Bool.{true}
use mathlib.Core.List.{List, [], ◌∷◌, ◌++◌}
use mathlib.Core.Option.{Option, none, some}
use Prim.Native.Nat.{ℕ, zero, suc, ◌+◌, ◌-◌, ◌≤◌, ◌<◌}
use native.Mathlib.Nat.{le_refl}
use native.Mathlib.Decide.{dec_le}
use native.Mathlib.Omega.{arith}
use lib.ListN.{length, drop, length-append}
use borrow.Author.Tests.{lt-ltb, le-ltb}
use Rattle.canon.specs.Answer.{Leaf, is, no as refuses, ok, refused, too_long, too_large, no_room, too_deep}
use Rattle.canon.specs.Types.{Ty, Members, Kind}
use Rattle.canon.specs.Layout.{mem32, mem64, members}
use Rattle.canon.specs.Reach.{depth, deepest}
use Rattle.canon.specs.Table.{capacity}
use Rattle.canon.specs.Description.{kind_of, is_too_large, Defined, define, Built, follow, build_from, most_words, build, answered, built, build_answer}
use Rattle.canon.proofs.Tests.{impossible}
use Rattle.canon.proofs.Refusals.{Spells, Passes, checked_spells, define_nine, define_six, six_passes, Product, product_passes, refused_six}
use Rattle.canon.proofs.Built.{build_keeps, Sound, keeps_step}
use Rattle.canon.specs.Placement.{NoPlacement}

-- one definition more
pub sound_more : (room : ℕ) (ts : List Ty) (w : ℕ) (ws : List ℕ) (d : Defined) → define ts w ws ≡ is d → Sound room ts → length ts < room → Sound room (ts ++ d.type ∷ [])
sound_more room ts w ws d e s h =
    let k = keeps_step room (room - suc (length ts)) ts w ws d e (s.passed, omega arith) in
    record { passed = k.0; fits = omega (arith, k.1) }

-- a build of the words ws, with room for so many rows, comes to the words vs after the types ts, with room for `left` rows more
pub data Comes (room : ℕ) (ws : List ℕ) : ℕ → List Ty → List ℕ → Type 0 where
  begins : Comes room ws room [] ws
  passes :
      {left : ℕ} {ts : List Ty} {w : ℕ} {vs : List ℕ} {d : Defined} →
      Comes room ws (suc left) ts (w ∷ vs) →
      define ts w vs ≡ is d →
      Comes room ws left (ts ++ d.type ∷ []) (drop d.length vs)

pub comes_build : {room : ℕ} {ws : List ℕ} {left : ℕ} {ts : List Ty} {vs : List ℕ} → Comes room ws left ts vs → build_from left ts vs ≡ build_from room [] ws
unfolding build_from
comes_build begins = refl
comes_build (passes c e) = rw e at (comes_build c)

-- as many rows are left as the types do not take
pub comes_room : {room : ℕ} {ws : List ℕ} {left : ℕ} {ts : List Ty} {vs : List ℕ} → Comes room ws left ts vs → left + length ts ≡ room
comes_room begins = omega arith
comes_room (passes {left} {ts} {d = d} c e) = omega (arith, comes_room c, length-append ts (d.type ∷ []))

-- the types only grow
grows : (left : ℕ) (ts : List Ty) (vs : List ℕ) → length ts ≤ length (build_from left ts vs).types
grows left ts vs =
    (build_keeps (λ room us. length ts ≤ length us)
    (λ room us w ws d e h. omega (arith, length-append us (d.type ∷ []))) left ts vs (le_refl (length ts))).1

short_build : (ws t : List ℕ) → length ws ≤ most_words → built ws t ≡ build_from (capacity (length t)) [] ws
unfolding build
short_build ws t h = rw (le-ltb most_words (length ws) h)

-- a build that comes to the end accepts all
pub comes_all :
    (ws t : List ℕ) {left : ℕ} {ts : List Ty} → Comes (capacity (length t)) ws left ts [] → length ws ≤ most_words → build_answer ws t ≡ ok (length ts)
unfolding build_answer build_from
comes_all ws t {left} {ts} c short = rw (short_build ws t short, ← (comes_build c)) (go left)
  where
    go : (k : ℕ) → answered (length (build_from k ts []).types) (build_from k ts []).stopped ≡ ok (length ts)
    go zero = refl
    go (suc k) = refl

-- at a definition that it comes to, a build is refused exactly as the definition is
module _ (ws t : List ℕ) {left : ℕ} {ts : List Ty} {w : ℕ} {vs : List ℕ} (c : Comes (capacity (length t)) ws (suc left) ts (w ∷ vs)) where
  pub at_definition : (x : ℕ) → length ws ≤ most_words → (build_answer ws t ≡ refused x (length ts)) ↔ (define ts w vs ≡ refuses x)
  unfolding build_answer build_from
  at_definition x short = rw (short_build ws t short, ← (comes_build c)) (go (define ts w vs))
    where
      after : Leaf Defined → Built
      after l = follow ts vs l (λ ts' ws'. build_from left ts' ws')

      never : (n : ℕ) (o : Option ℕ) → length ts < n → answered n o ≡ refused x (length ts) → ⊥
      never n none h e = impossible (cc)
      never n (some y) h e = let p : n ≡ length ts = cc in omega arith

      go : (l : Leaf Defined) → (answered (length (after l).types) (after l).stopped ≡ refused x (length ts)) ↔ (l ≡ refuses x)
      go (is d) =
          let l : length ts < length (after (is d)).types = omega (arith, grows left (ts ++ d.type ∷ []) (drop d.length vs), length-append ts (d.type ∷ [])) in
          (λ e. absurd (never (length (after (is d)).types) (after (is d)).stopped l e), λ e. impossible (cc))
      go (refuses y) = (λ e. let p : y ≡ x = cc in ap refuses p, λ e. let p : y ≡ x = cc in ap (λ (z : ℕ). refused z (length ts)) p)

-- a definition that a build comes to
pub record ComesTo (room : ℕ) (ws : List ℕ) : Type 0 where
  pub left : ℕ
  pub types : List Ty
  pub word : ℕ
  pub rest : List ℕ
  pub comes : Comes room ws (suc left) types (word ∷ rest)

abbrev pub defined : {room : ℕ} {ws : List ℕ} → ComesTo room ws → Leaf Defined
defined d = define d.types d.word d.rest

-- a build that stops for another reason than room stops at a definition
finds :
    {room : ℕ} {ws : List ℕ} (x left : ℕ) (ts : List Ty) (vs : List ℕ) → (x ≡ no_room → ⊥) → Comes room ws left ts vs →
    (build_from left ts vs).stopped ≡ some x → (d : ComesTo room ws) × (defined d ≡ refuses x)
unfolding build_from
finds x zero ts [] n c e = impossible (cc)
finds x zero ts (w ∷ vs) n c e = let p : x ≡ no_room = cc in absurd (n p)
finds x (suc left) ts [] n c e = impossible (cc)
finds {room} {ws} x (suc left) ts (w ∷ vs) n c e = go (define ts w vs) refl e (λ us rest. finds x left us rest n)
  where
    go : (l : Leaf Defined) → define ts w vs ≡ l → (follow ts vs l (λ ts' ws'. build_from left ts' ws')).stopped ≡ some x →
        ((us : List Ty) (rest : List ℕ) → Comes room ws left us rest → (build_from left us rest).stopped ≡ some x → (d : ComesTo room ws) × (defined d ≡ refuses x)) →
        (d : ComesTo room ws) × (defined d ≡ refuses x)
    go (is d) p e more = more (ts ++ d.type ∷ []) (drop d.length vs) (passes c p) e
    go (refuses y) p e more =
        let q : y ≡ x = cc in
        (record { left = left; types = ts; word = w; rest = vs; comes = c }, p ∙ ap refuses q)

stopped_some : (n i x : ℕ) (o : Option ℕ) → answered n o ≡ refused x i → o ≡ some x
stopped_some n i x none e = impossible (cc)
stopped_some n i x (some y) e = let q : y ≡ x = cc in ap some q

-- so a refusal with the index i, but for length and room, is that of the definition after i types
pub stopped_at :
    (ws t : List ℕ) (x i : ℕ) → (x ≡ too_long → ⊥) → (x ≡ no_room → ⊥) →
    (build_answer ws t ≡ refused x i)
    ↔ ((length ws ≤ most_words) × (d : ComesTo (capacity (length t)) ws) × (length d.types ≡ i) × (defined d ≡ refuses x))
unfolding build_answer build
stopped_at ws t x i long room = (
  λ e. elim (dec_le (length ws) most_words) [
    | yes h ↦
        let s = finds x (capacity (length t)) [] ws room begins (stopped_some _ i x _ (rw (short_build ws t h) at e)) in
        let p : build_answer ws t ≡ refused x (length s.0.types) = (at_definition ws t s.0.comes x h).1 s.1 in
        (h, s.0, cc, s.1)
    | no h ↦ let f = rw (lt-ltb most_words (length ws) (omega arith)) at e in let p : x ≡ too_long = cc in absurd (long p)
  ],
  λ s. rw (← s.2) ((at_definition ws t s.1.comes x s.0).1 s.3),
)

-- 9 at i exactly when the words after i types spell a type that is deeper than 100
pub stopped_nine :
    (ws t : List ℕ) (i : ℕ) →
    (build_answer ws t ≡ refused too_deep i)
    ↔ ((length ws ≤ most_words) × (d : ComesTo (capacity (length t)) ws) × (length d.types ≡ i)
    × (u : Ty) × Spells d.types d.word d.rest u × (deepest < depth u))
stopped_nine ws t i =
    let stops = stopped_at ws t too_deep i (λ e. omega arith) (λ e. omega arith) in (
      λ e.
          let s = stops.0 e in
          let p = checked_spells s.1.types s.1.word s.1.rest too_deep (omega arith) s.3 in
          (s.0, s.1, s.2, p.0, p.1, (define_nine p.1).0 s.3),
      λ s. stops.1 (s.0, s.1, s.2, (define_nine s.4).1 s.5),
    )

-- 6 at i exactly when the definition after i types passes every check before and is too large for the 64-bit memory; so never on
-- account of the 32-bit memory alone
pub stopped_six :
    (ws t : List ℕ) (i : ℕ) →
    (build_answer ws t ≡ refused too_large i)
    ↔ ((length ws ≤ most_words) × (d : ComesTo (capacity (length t)) ws) × (length d.types ≡ i)
    × (u : Ty) × Passes d.types d.word d.rest u × (is_too_large mem64 u ≡ true))
stopped_six ws t i =
    let stops = stopped_at ws t too_large i (λ e. omega arith) (λ e. omega arith) in (
      λ e.
          let s = stops.0 e in
          let p = six_passes s.1.types s.1.word s.1.rest s.3 in
          (s.0, s.1, s.2, p.0, p.1, (define_six p.1).0 s.3),
      λ s. stops.1 (s.0, s.1, s.2, (define_six s.4).1 s.5),
    )

-- Demand 3

-- 6 at a record or tuple exactly when it passes the earlier checks and one of the two memories admits no placement
pub build_six :
    (ws t : List ℕ) {left : ℕ} {ts : List Ty} {w : ℕ} {vs : List ℕ} {k : Kind} {type : Members → Ty} →
    Comes (capacity (length t)) ws (suc left) ts (w ∷ vs) →
    Product k type →
    kind_of w ≡ some k →
    length ws ≤ most_words →
    (build_answer ws t ≡ refused too_large (length ts))
    ↔ ((us : Members) × Passes ts w vs (type us) × (NoPlacement (members mem32 us) ⊎ NoPlacement (members mem64 us)))
build_six ws t {ts = ts} {w} {vs} {type = type} c product known short = (
  λ e.
      let d = (at_definition ws t c too_large short).0 e in
      let p = product_passes product known (six_passes ts w vs d).1 in
      (p.0, p.1, (refused_six product p.0 p.1).0 d),
  λ q. (at_definition ws t c too_large short).1 ((refused_six product q.0 q.1).1 q.2),
)
