-- Demand 3: refused as too large exactly when no placement exists, for a record or tuple of a description and for a placement question. What a
-- description defines is refused so exactly when it is too large for the 64-bit memory, and as too deep exactly when its depth is above 100. What
-- is accepted is spelled too, as long as its body.
use mathlib.Core.Path.{◌≡◌, refl, sym, ap, ◌∙◌}
use mathlib.Core.Logic.{◌⊎◌, inl, inr, ⊎_elim, ◌↔◌}
use mathlib.Core.Bool.{Bool, true, false, cond, ◌||◌}
use mathlib.Core.List.{List, [], ◌∷◌, Forall₂}
use mathlib.Core.Option.{Option, none, some}
use Prim.Native.Nat.{ℕ, zero, suc, ◌+◌, ◌≤◌, ◌<◌}
use native.Mathlib.Decide.{dec_le}
use native.Mathlib.Omega.{arith}
use lib.Dec.{ltb}
use lib.ListN.{length, get_or, take, drop}
use borrow.Author.Tests.{ltb-true, ltb-false, lt-ltb, le-ltb}
use Rattle.canon.specs.Answer.{Leaf, is, no as refuses, ok, refused, map_option, truncated, bad_kind, bad_ref, bad_count, too_large, too_deep}
use Rattle.canon.specs.Types.{Ty, record_of, tuple_of, Members, Kind, k_record, k_tuple}
use Rattle.canon.specs.Layout.{Memory, mem32, mem64, Layout, largest_number, end_after, starts, ends, last_end, record_size, record_layout, layout, members, round_up}
use Rattle.canon.specs.Reach.{depth, deepest, is_too_deep}
use Rattle.canon.specs.Description.{kind_of, shape_of, body_length, is_bad_count, members_of, type_of, is_too_large, Defined, checked, bodied, define}
use Rattle.canon.specs.Question.{first_over, or_size, refused_at, Placing, judged, placed}
use Rattle.canon.proofs.Tests.{impossible, neither, either_true}
use Rattle.canon.proofs.Tightest.{Aligned, le_last_end, le_record_size, greatest_align_least, ours, tightest}
use Rattle.canon.proofs.Alignments.{members_aligned}
use Rattle.canon.proofs.Sizes.{too_large_size}
use Rattle.canon.proofs.Built.{checked_is}
use Rattle.canon.specs.Placement.{LeastCommon, Placement, NoPlacement, NoneLater}
use Rattle.canon.proofs.Wider.{◌≼◌, both_aligned, record_wider, members_wider, too_large_either}

-- the size alone decides whether there is a placement
pub large_iff : (fs : List Layout) → Aligned fs → (largest_number < record_size fs) ↔ NoPlacement fs
large_iff fs w = (
  λ h ss size p. omega (arith, (tightest w p).1, p.fits),
  λ n. elim (dec_le (record_size fs) largest_number) [ yes h ↦ absurd (n (starts 0 fs) (record_size fs) (ours fs w (omega arith))) | no h ↦ omega arith ],
)

-- Definitions

-- the words w and ws spell the type t, after the types ts: they pass every check as far as BadRef
pub record Spells (ts : List Ty) (w : ℕ) (ws : List ℕ) (t : Ty) : Type 0 where
  pub kind : Kind
  pub known : kind_of w ≡ some kind
  pub whole : body_length (shape_of kind) (get_or ws 0 0) ≤ length ws
  pub counted : is_bad_count kind (get_or ws 0 0) ≡ false
  pub named : type_of ts kind (take (body_length (shape_of kind) (get_or ws 0 0)) ws) ≡ some t

-- and pass every check before the last
pub record Passes (ts : List Ty) (w : ℕ) (ws : List ℕ) (t : Ty) : Type 0 where
  pub spells : Spells ts w ws t
  pub shallow : depth t ≤ deepest

-- what is spelled comes to the last tests
spells_checked : {ts : List Ty} {w : ℕ} {ws : List ℕ} {t : Ty} → Spells ts w ws t → (n : ℕ) × (define ts w ws ≡ checked n (some t))
unfolding bodied
spells_checked {ws = ws} s = (body_length (shape_of s.kind) (get_or ws 0 0), simp (s.known, le-ltb _ _ s.whole, s.counted, s.named))

-- and only what is spelled: the numbers of the tests before are 5 at most

abbrev SpelledTo : List Ty → ℕ → List ℕ → Leaf Defined → Type 0
SpelledTo ts w ws l = (t : Ty) × (s : Spells ts w ws t) × (checked (body_length (shape_of s.kind) (get_or ws 0 0)) (some t) ≡ l)

late_spells : (ts : List Ty) (w : ℕ) (ws : List ℕ) (l : Leaf Defined) → ((y : ℕ) → y ≤ bad_count → refuses y ≡ l → ⊥) → define ts w ws ≡ l → SpelledTo ts w ws l
unfolding bodied checked
late_spells ts w ws l late e = go (kind_of w) refl e
  where
    body : Kind → ℕ
    body k = body_length (shape_of k) (get_or ws 0 0)

    last :
        (k : Kind) → kind_of w ≡ some k → (short bad : Bool) (o : Option Ty) →
        ltb (length ws) (body k) ≡ short → is_bad_count k (get_or ws 0 0) ≡ bad → type_of ts k (take (body k) ws) ≡ o →
        cond short (refuses truncated) (cond bad (refuses bad_count) (checked (body k) o)) ≡ l → SpelledTo ts w ws l
    last k known true bad o s c n h = absurd (late truncated (omega arith) h)
    last k known false true o s c n h = absurd (late bad_count (omega arith) h)
    last k known false false none s c n h = absurd (late bad_ref (omega arith) h)
    last k known false false (some t) s c n h =
        (t, record { kind = k; known = known; whole = ltb-false (length ws) (body k) s; counted = c; named = n }, h)

    go : (o : Option Kind) → kind_of w ≡ o → bodied ts o ws ≡ l → SpelledTo ts w ws l
    go none known h = absurd (late bad_kind (omega arith) h)
    go (some k) known h = last k known _ _ _ refl refl refl h

-- what is refused with a later number
pub checked_spells : (ts : List Ty) (w : ℕ) (ws : List ℕ) (x : ℕ) → bad_count < x → define ts w ws ≡ refuses x → (t : Ty) × Spells ts w ws t
checked_spells ts w ws x late e =
    let r = late_spells ts w ws (refuses x) (λ y l h. let p : y ≡ x = cc in omega arith) e in
    (r.0, r.1)

-- and what is accepted, which is as long as its body
pub accepted_spells :
    (ts : List Ty) (w : ℕ) (ws : List ℕ) (d : Defined) → define ts w ws ≡ is d →
    (s : Spells ts w ws d.type) × (body_length (shape_of s.kind) (get_or ws 0 0) ≡ d.length)
accepted_spells ts w ws d e =
    let r = late_spells ts w ws (is d) (λ y l h. impossible (cc)) e in
    let same = (checked_is _ r.0 d r.2).2 in
    rw (← same) (r.1, refl)

module _ (n : ℕ) (t : Ty) where
  -- the depth, whatever the size
  checked_nine : (checked n (some t) ≡ refuses too_deep) ↔ (deepest < depth t)
  unfolding checked is_too_deep
  checked_nine = (λ e. elim (dec_le (depth t) deepest) [ yes h ↦ absurd (shallow h e) | no h ↦ omega arith ], λ h. rw (lt-ltb deepest (depth t) h))
    where
      neither : (b : Bool) → cond {A = Leaf Defined} b (refuses too_large) (is (record { type = t; length = n })) ≡ refuses too_deep → ⊥
      neither true e = let p : too_large ≡ too_deep = cc in omega arith
      neither false e = impossible (cc)

      shallow : depth t ≤ deepest → checked n (some t) ≡ refuses too_deep → ⊥
      shallow h e = neither (is_too_large mem32 t || is_too_large mem64 t) (rw (le-ltb deepest (depth t) h) at e)

  -- the last test: the 64-bit memory decides it
  checked_six : depth t ≤ deepest → (checked n (some t) ≡ refuses too_large) ↔ (is_too_large mem64 t ≡ true)
  unfolding checked is_too_deep
  checked_six shallow = rw (le-ltb deepest (depth t) shallow, too_large_either t) (go (is_too_large mem64 t))
    where
      go : (b : Bool) → (cond {A = Leaf Defined} b (refuses too_large) (is (record { type = t; length = n })) ≡ refuses too_large) ↔ (b ≡ true)
      go true = (λ h. refl, λ h. refl)
      go false = (λ h. impossible (cc), λ h. impossible (cc))

module _ {ts : List Ty} {w : ℕ} {ws : List ℕ} {t : Ty} where
  pub define_nine : Spells ts w ws t → (define ts w ws ≡ refuses too_deep) ↔ (deepest < depth t)
  define_nine s = let c = spells_checked s in rw c.1 (checked_nine c.0 t)

  -- every earlier check passed, so the last decides
  pub define_six : Passes ts w ws t → (define ts w ws ≡ refuses too_large) ↔ (is_too_large mem64 t ≡ true)
  define_six p = let c = spells_checked p.spells in rw c.1 (checked_six c.0 t p.shallow)

-- what is refused as too large came to its last test
pub six_passes : (ts : List Ty) (w : ℕ) (ws : List ℕ) → define ts w ws ≡ refuses too_large → (t : Ty) × Passes ts w ws t
six_passes ts w ws e =
    let s = checked_spells ts w ws too_large (omega arith) e in
    elim (dec_le (depth s.0) deepest) [
      | yes h ↦ (s.0, record { spells = s.1; shallow = h })
      | no h ↦
          let nine = (define_nine s.1).1 (omega arith) in
          let p : too_deep ≡ too_large = cc in
          absurd (omega arith)
    ]

-- Records and tuples of a description

members_large : (m : Memory) (t : Ty) (us : Members) → (is_too_large m t ≡ ltb largest_number (record_size (members m us))) → (is_too_large m t ≡ true) ↔ NoPlacement (members m us)
members_large m t us e = (
  λ h. (large_iff (members m us) (members_aligned m us)).0 (ltb-true _ _ (sym e ∙ h)),
  λ n. e ∙ lt-ltb _ _ ((large_iff (members m us) (members_aligned m us)).1 n),
)

-- a kind that is laid out as a record, with the type that it spells
pub data Product : Kind → (Members → Ty) → Type 0 where
  a_record : Product k_record record_of
  a_tuple : Product k_tuple tuple_of

product_size : {k : Kind} {type : Members → Ty} → Product k type → (m : Memory) (us : Members) → is_too_large m (type us) ≡ ltb largest_number (record_size (members m us))
unfolding layout
product_size a_record m us = too_large_size m (record_of us)
product_size a_tuple m us = too_large_size m (tuple_of us)

mapped : {t : Ty} (type : Members → Ty) (o : Option Members) → map_option type o ≡ some t → (us : Members) × (t ≡ type us)
mapped type none h = impossible (cc)
mapped type (some us) h = (us, cc)

product_spells : {k : Kind} {type : Members → Ty} → Product k type → (ts : List Ty) (b : List ℕ) (t : Ty) → type_of ts k b ≡ some t → (us : Members) × (t ≡ type us)
unfolding type_of
product_spells a_record ts b t e = mapped record_of (members_of ts (drop 1 b)) e
product_spells a_tuple ts b t e = mapped tuple_of (members_of ts (drop 1 b)) e

-- what passes as such a kind is such a type
pub product_passes :
    {ts : List Ty} {w : ℕ} {ws : List ℕ} {t : Ty} {k : Kind} {type : Members → Ty} → Product k type → kind_of w ≡ some k → Passes ts w ws t →
    (us : Members) × Passes ts w ws (type us)
product_passes {ts} {w} {ws} {t} {k} product known p =
    let q : p.spells.kind ≡ k = (let e = p.spells.known in cc) in
    let s = product_spells product ts (take (body_length (shape_of k) (get_or ws 0 0)) ws) t (rw q at p.spells.named) in
    (s.0, rw (← s.1) p)

-- where the narrower layouts have no placement, the wider have none
none_wider : {fs gs : List Layout} → Forall₂ ◌≼◌ fs gs → NoPlacement fs → NoPlacement gs
none_wider {fs} {gs} p n =
    (large_iff gs (both_aligned p).1).0 (omega (arith, (large_iff fs (both_aligned p).0).1 n, (record_wider p).size))

-- "one of the two memories admits none" comes to the 64-bit one
pub either_none : (us : Members) → (NoPlacement (members mem32 us) ⊎ NoPlacement (members mem64 us)) ↔ NoPlacement (members mem64 us)
either_none us = (⊎_elim (none_wider (members_wider us)) (λ n. n), inr)

module _
    {ts : List Ty} {w : ℕ} {ws : List ℕ} {k : Kind} {type : Members → Ty} (product : Product k type) (us : Members)
    (passes : Passes ts w ws (type us))
  where
    wide_decides : (define ts w ws ≡ refuses too_large) ↔ NoPlacement (members mem64 us)
    wide_decides =
        let six = define_six passes in
        let large = members_large mem64 (type us) us (product_size product mem64 us) in
        (λ h. large.0 (six.0 h), λ n. six.1 (large.1 n))

    pub refused_six : (define ts w ws ≡ refuses too_large) ↔ (NoPlacement (members mem32 us) ⊎ NoPlacement (members mem64 us))
    refused_six = (λ h. inr (wide_decides.0 h), λ n. wide_decides.1 ((either_none us).0 n))

-- Placement questions

first_fits : (p e : ℕ) (fs : List Layout) → Aligned fs → last_end e fs ≤ largest_number → first_over p e fs ≡ none
unfolding first_over last_end
first_fits p e [] w h = refl
first_fits p e (f ∷ fs) w h =
    let l : round_up e f.align + f.size ≤ last_end (round_up e f.align + f.size) fs = le_last_end _ fs w.1 in
    rw (le-ltb largest_number (round_up e f.align) (omega arith), le-ltb largest_number (round_up e f.align + f.size) (omega arith))
    (first_fits (suc p) (round_up e f.align + f.size) fs w.1 h)

pub placed_fits : (fs : List Layout) → Aligned fs → record_size fs ≤ largest_number → placed fs ≡ ok (record { layout = record_layout fs; offsets = starts 0 fs })
unfolding placed judged refused_at or_size
placed_fits fs w h =
    rw (first_fits 0 0 fs w (omega (arith, le_record_size fs w)), le-ltb largest_number (record_size fs) h)

large_judged : (o : Option ℕ) (size : ℕ) → largest_number < size → (i : ℕ) × (or_size o size ≡ some i)
unfolding or_size
large_judged (some p) size h = (p, refl)
large_judged none size h = (0, rw (lt-ltb largest_number size h))

pub placed_large : (fs : List Layout) → largest_number < record_size fs → (i : ℕ) × (placed fs ≡ refused too_large i)
unfolding placed judged refused_at
placed_large fs h = let j = large_judged (first_over 0 0 fs) (record_size fs) h in (j.0, rw j.1)

-- "TooLarge names the first member whose start or end passes, 0 if only the size does"

-- the member j starts or ends above what fits, where the first comes after an end e
abbrev pub Passing : ℕ → List Layout → ℕ → Type 0
Passing e fs j = (largest_number < get_or (starts e fs) j 0) ⊎ (largest_number < get_or (ends e fs) j 0)

pub data LargeAt (fs : List Layout) : ℕ → Type 0 where
  at_member : {k : ℕ} → Passing 0 fs k → ((j : ℕ) → j < k → Passing 0 fs j → ⊥) → LargeAt fs k
  at_size : ((j : ℕ) → Passing 0 fs j → ⊥) → largest_number < record_size fs → LargeAt fs 0

-- what the first that passes says of the members, of which the first has the position p
abbrev Found : ℕ → ℕ → List Layout → Option ℕ → Type 0
Found p e fs none = (j : ℕ) → Passing e fs j → ⊥
Found p e fs (some i) = (k : ℕ) × (i ≡ p + k) × Passing e fs k × ((j : ℕ) → j < k → Passing e fs j → ⊥)

first_found : (p e : ℕ) (fs : List Layout) → Found p e fs (first_over p e fs)
unfolding first_over starts ends
first_found p e [] = λ j w. ⊎_elim (λ h. omega arith) (λ h. omega arith) w
first_found p e (f ∷ fs) = go (ltb largest_number start || ltb largest_number end) (first_over (suc p) end fs) refl (first_found (suc p) end fs)
  where
    start : ℕ
    start = round_up e f.align

    end : ℕ
    end = end_after e f

    fits : (ltb largest_number start || ltb largest_number end ≡ false) → Passing e (f ∷ fs) 0 → ⊥
    fits h w =
        let both = neither (ltb largest_number start) (ltb largest_number end) h in
        ⊎_elim (λ l. omega (arith, ltb-false largest_number start both.0)) (λ l. omega (arith, ltb-false largest_number end both.1)) w

    go : (b : Bool) (o : Option ℕ) → (ltb largest_number start || ltb largest_number end ≡ b) → Found (suc p) end fs o → Found p e (f ∷ fs) (cond b (some p) o)
    go true o h m =
        let passes : Passing e (f ∷ fs) 0 = ⊎_elim (λ l. inl (ltb-true largest_number start l)) (λ l. inr (ltb-true largest_number end l)) ((either_true (ltb largest_number start) (ltb largest_number end)).0 h) in
        (0, omega arith, passes, λ j l w. omega arith)
    go false none h m = later
      where
        later : (j : ℕ) → Passing e (f ∷ fs) j → ⊥
        later zero w = fits h w
        later (suc j) w = m j w
    go false (some i) h m = (suc m.0, omega (arith, m.1), m.2, before)
      where
        before : (j : ℕ) → j < suc m.0 → Passing e (f ∷ fs) j → ⊥
        before zero l w = fits h w
        before (suc j) l w = m.3 j (omega arith) w

-- there is one such position at most
large_once : {fs : List Layout} {i k : ℕ} → Passing 0 fs k → ((j : ℕ) → j < k → Passing 0 fs j → ⊥) → LargeAt fs i → k ≡ i
large_once {fs} {i} {k} w before (at_member v earlier) =
    elim (dec_le i k) [
      | yes h ↦ elim (dec_le k i) [ yes l ↦ omega arith | no l ↦ absurd (before i (omega arith) v) ]
      | no h ↦ absurd (earlier k (omega arith) w)
    ]
large_once w before (at_size fit l) = absurd (fit _ w)

pub placed_at : (fs : List Layout) (i : ℕ) → (placed fs ≡ refused too_large i) ↔ LargeAt fs i
unfolding placed judged refused_at or_size
placed_at fs i = go (first_over 0 0 fs) (first_found 0 0 fs)
  where
    whole : Placing
    whole = record { layout = record_layout fs; offsets = starts 0 fs }

    -- where every member fits, the size decides
    sized : ((j : ℕ) → Passing 0 fs j → ⊥) → {k : ℕ} → LargeAt fs k → judged (or_size none (record_size fs)) whole ≡ refused too_large k
    sized fit (at_member w before) = absurd (fit _ w)
    sized fit (at_size f l) = rw (lt-ltb largest_number (record_size fs) l)

    go : (o : Option ℕ) → Found 0 0 fs o → (judged (or_size o (record_size fs)) whole ≡ refused too_large i) ↔ LargeAt fs i
    go none m = (
      λ h. elim (dec_le (record_size fs) largest_number) [
        | yes l ↦ let taken = rw (le-ltb largest_number (record_size fs) l) at h in impossible (cc)
        | no l ↦
            let size : largest_number < record_size fs = omega arith in
            let first = rw (lt-ltb largest_number (record_size fs) size) at h in
            let same : 0 ≡ i = cc in
            rw (← same) (at_size m size)
      ],
      sized m,
    )
    go (some k) m = (
      λ h. let same : m.0 ≡ i = (let q : k ≡ i = cc in omega (arith, m.1)) in rw (← same) (at_member m.2 m.3),
      λ h. ap (refused too_large) (omega (arith, m.1, large_once m.2 m.3 h)),
    )

-- refused, whatever position it names, exactly when its own memory admits no placement
pub placed_six : (fs : List Layout) → Aligned fs → ((i : ℕ) × (placed fs ≡ refused too_large i)) ↔ NoPlacement fs
placed_six fs w = (
  λ r. elim (dec_le (record_size fs) largest_number) [
    | yes h ↦ let e = placed_fits fs w h in impossible (cc)
    | no h ↦ (large_iff fs w).0 (omega arith)
  ],
  λ n. placed_large fs ((large_iff fs w).1 n),
)

-- accepted, it is canon's own starts, and all of it fits
pub placed_is :
    (fs : List Layout) (p : Placing) → Aligned fs → placed fs ≡ ok p →
    (record { layout = record_layout fs; offsets = starts 0 fs } ≡ p) × (record_size fs ≤ largest_number)
placed_is fs p w e =
    elim (dec_le (record_size fs) largest_number) [
      | yes h ↦ let f = placed_fits fs w h in (cc, h)
      | no h ↦ let j = (placed_large fs (omega arith)).1 in impossible (cc)
    ]

-- answered: the offsets and the size are a placement, its alignment the record's, and no placement is tighter
pub record Tightest (fs : List Layout) (p : Placing) : Type 0 where
  pub placement : Placement fs p.offsets p.layout.size
  pub alignment : LeastCommon fs p.layout.align
  pub none_tighter : (ss : List ℕ) (size : ℕ) → Placement fs ss size → NoneLater p.offsets ss × (p.layout.size ≤ size)

pub placed_tightest : (fs : List Layout) (p : Placing) → Aligned fs → placed fs ≡ ok p → Tightest fs p
placed_tightest fs p w h =
    let r = placed_is fs p w h in
    rw (← r.0)
    (record { placement = ours fs w (omega (arith, r.1)); alignment = greatest_align_least fs w; none_tighter = λ ss size q. tightest w q })
