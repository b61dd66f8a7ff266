-- A flat count is the flat list's length up to 16, in either memory, but for the one place where 01's rule parts from it.
use mathlib.Core.Path.{◌≡◌, refl, sym, ap, ◌∙◌}
use mathlib.Core.Logic.{◌⊎◌, inl, inr, ⊎_elim, ◌↔◌}
use mathlib.Core.Bool.{Bool, true, false, cond}
use mathlib.Core.List.{List, [], ◌∷◌, ◌++◌}
use mathlib.Core.Option.{Option, none, some}
use Prim.Native.Nat.{ℕ, zero, suc, ◌+◌, ◌*◌, ◌≤◌, ◌<◌, max}
use native.Mathlib.Nat.{mul-suc, one-mul}
use native.Mathlib.Omega.{arith}
use lib.Dec.{leb}
use lib.ListN.{length, length-append}
use borrow.Author.Tests.{le-leb, lt-leb, leb-true, leb-false}
use Rattle.canon.specs.Types.{Ty, scalar, string, record_of, variant_of, list_of, tuple_of, map_of, flags_of, enum_of, option_of, result_of, fixed_of, Members, ∅, ◌◂◌, Case, bare, holding, Cases, ∎, ◌▸◌, Core, I32}
use Rattle.canon.specs.Layout.{Memory, groups, most_flags}
use Rattle.canon.specs.Flat.{join_lists, join_all, concat, flags_flat, flatten, member_flats, payload_flat, payload_flats, capped, add_flat, max_flat, times_flat, sum_flat, greatest_flat, variant_count, flags_count, flat_count, member_counts, payload_count, payload_counts}
use Rattle.canon.proofs.FlatFolds.{length_join, length_copies, max_flat_assoc, zero_max_flat}

-- 01's rule and the flat list part ways at one place: a fixed list of count 0 over an element without a count, met outside a list or map
unfoldable mutual
  pub Parting : Ty → Type 0
  Parting (scalar s) = ⊥
  Parting string = ⊥
  Parting (record_of ts) = PartingIn ts
  Parting (variant_of cs) = PartingAmong cs
  Parting (list_of t) = ⊥
  Parting (tuple_of ts) = PartingIn ts
  Parting (map_of k v) = ⊥
  Parting (flags_of n) = ⊥
  Parting (enum_of n) = ⊥
  Parting (option_of t) = Parting t
  Parting (result_of ok err) = PartingOf ok ⊎ PartingOf err
  Parting (fixed_of t n) = ((n ≡ 0) × (flat_count t ≡ none)) ⊎ Parting t

  pub PartingIn : Members → Type 0
  PartingIn ∅ = ⊥
  PartingIn (t ◂ ts) = Parting t ⊎ PartingIn ts

  pub PartingOf : Case → Type 0
  PartingOf bare = ⊥
  PartingOf (holding t) = Parting t

  pub PartingAmong : Cases → Type 0
  PartingAmong ∎ = ⊥
  PartingAmong (c ▸ cs) = PartingOf c ⊎ PartingAmong cs

-- a count of a list of so many entries: its length up to 16 where there is no parting G, none only where it is longer or has one
abbrev Judged : Option ℕ → ℕ → Type 0 → Type 0
Judged (some n) l G = (l ≡ n) × (n ≤ 16) × (G → ⊥)
Judged none l G = (16 < l) ⊎ G

capped_judged : (n : ℕ) (G : Type 0) → (G → ⊥) → Judged (capped n) n G
capped_judged n G ng = go (leb n 16) refl
  where
    go : (b : Bool) → leb n 16 ≡ b → Judged (cond b (some n) none) n G
    go true h = (refl, leb-true n 16 h, ng)
    go false h = inl (leb-false n 16 h)

-- a part without a count makes the whole longer than 16, too, or has the parting
left_none : {k l : ℕ} {G H : Type 0} → k ≤ l → (16 < k) ⊎ G → (16 < l) ⊎ (G ⊎ H)
left_none le = ⊎_elim (λ h. inl (omega arith)) (λ g. inr (inl g))

right_none : {k l : ℕ} {G H : Type 0} → k ≤ l → (16 < k) ⊎ H → (16 < l) ⊎ (G ⊎ H)
right_none le = ⊎_elim (λ h. inl (omega arith)) (λ g. inr (inr g))

add_judged : (a b : Option ℕ) (k l : ℕ) (G H : Type 0) → Judged a k G → Judged b l H → Judged (add_flat a b) (k + l) (G ⊎ H)
unfolding add_flat
add_judged none b k l G H p q = left_none (omega arith) p
add_judged (some m) none k l G H p q = right_none (omega arith) q
add_judged (some m) (some n) k l G H p q =
    rw (p.0, q.0) (capped_judged (m + n) (G ⊎ H) (⊎_elim p.2 q.2))

max_judged : (a b : Option ℕ) (k l : ℕ) (G H : Type 0) → Judged a k G → Judged b l H → Judged (max_flat a b) (max k l) (G ⊎ H)
unfolding max_flat
max_judged none b k l G H p q = left_none (omega arith) p
max_judged (some m) none k l G H p q = right_none (omega arith) q
max_judged (some m) (some n) k l G H p q = (omega arith, omega arith, ⊎_elim p.2 q.2)

-- n elements of k entries each
times_judged : (a : Option ℕ) (k n : ℕ) (G : Type 0) → Judged a k G → Judged (times_flat a n) (k * n) (((n ≡ 0) × (a ≡ none)) ⊎ G)
unfolding times_flat
times_judged none k zero G p = inr (inl (refl, refl))
times_judged none k (suc n) G p = ⊎_elim (λ (h : 16 < k). inl (rw (mul-suc k n) (omega arith))) (λ g. inr (inr g)) p
times_judged (some m) k n G p =
    rw p.0
    (capped_judged (m * n) _
    (⊎_elim (λ e. let z : ◌≡◌ {A = ℕ} 0 1 = cc e.1 in omega arith) p.2))

-- of lists of lists

abbrev longest : List (List Core) → ℕ
longest [] = 0
longest (l ∷ ls) = max (length l) (longest ls)

length_join_all : (acc : List Core) (ls : List (List Core)) → length (join_all acc ls) ≡ max (length acc) (longest ls)
unfolding join_all
length_join_all acc [] = omega arith
length_join_all acc (l ∷ ls) = omega (arith, length_join_all (join_lists acc l) ls, length_join acc l)

longest_append : (ks ls : List (List Core)) → longest (ks ++ ls) ≡ max (longest ks) (longest ls)
longest_append [] ls = omega arith
longest_append (k ∷ ks) ls = omega (arith, longest_append ks ls)

pub greatest_flat_append : (as' bs : List (Option ℕ)) → greatest_flat (as' ++ bs) ≡ max_flat (greatest_flat as') (greatest_flat bs)
unfolding greatest_flat
greatest_flat_append [] bs = sym (zero_max_flat (greatest_flat bs))
greatest_flat_append (a ∷ as') bs = rw (greatest_flat_append as' bs) (max_flat_assoc a (greatest_flat as') (greatest_flat bs))

-- one payload
alone : (c : Option ℕ) (l : List Core) (G : Type 0) → Judged c (length l) G → Judged (greatest_flat (c ∷ [])) (longest (l ∷ [])) G
unfolding greatest_flat max_flat
alone none l G p = ⊎_elim (λ (h : 16 < length l). inl (omega arith)) inr p
alone (some n) l G p = (omega arith, omega arith, p.2)

-- the payloads of two parts
together :
    (as' bs : List (Option ℕ)) (ks ls : List (List Core)) (G H : Type 0) →
    Judged (greatest_flat as') (longest ks) G →
    Judged (greatest_flat bs) (longest ls) H →
    Judged (greatest_flat (as' ++ bs)) (longest (ks ++ ls)) (G ⊎ H)
together as' bs ks ls G H p q =
    rw (greatest_flat_append as' bs, longest_append ks ls)
    (max_judged (greatest_flat as') (greatest_flat bs) (longest ks) (longest ls) G H p q)

-- the discriminant in front of the cases
variant_judged :
    (as' : List (Option ℕ)) (ls : List (List Core)) (G : Type 0) →
    Judged (greatest_flat as') (longest ls) G →
    Judged (variant_count as') (length (I32 ∷ join_all [] ls)) G
variant_judged as' ls G p =
    let e : length (I32 ∷ join_all [] ls) ≡ 1 + longest ls = omega (arith, length_join_all [] ls) in
    rw e (drop_empty (variant_count as') (1 + longest ls) (add_judged (some 1) (greatest_flat as') 1 (longest ls) ⊥ G (refl, omega arith, λ x. x) p))
  where
    drop_empty : (c : Option ℕ) (l : ℕ) → Judged c l (⊥ ⊎ G) → Judged c l G
    drop_empty none l q = ⊎_elim inl (λ h. inr (⊎_elim (λ x. absurd x) (λ g. g) h)) q
    drop_empty (some n) l q = (q.0, q.1, λ g. q.2 (inr g))

-- 01: "to 32, four, alignment equal to size and flat 1": these are one group
pub one_group : (n : ℕ) → 0 < n → n ≤ 32 → groups n ≡ 1
one_group n h k = omega arith

pub flags_length : (n : ℕ) → length (flags_flat n) ≡ groups n
flags_length n = length_copies (groups n) (I32 ∷ []) ∙ one-mul (groups n)

-- 02: "we stop where it would pass 16"
pub flags_stop : (n : ℕ) → leb (groups n) 16 ≡ leb n most_flags
flags_stop n = go (leb n most_flags) refl
  where
    go : (b : Bool) → leb n most_flags ≡ b → leb (groups n) 16 ≡ b
    go true h = le-leb (groups n) 16 (omega (arith, leb-true n most_flags h))
    go false h = lt-leb (groups n) 16 (omega (arith, leb-false n most_flags h))

flags_judged : (n : ℕ) → Judged (flags_count n) (length (flags_flat n)) ⊥
flags_judged n = rw (flags_length n) (capped_judged (groups n) ⊥ (λ x. x))

module _ (m : Memory) where
  mutual
    unfolding flatten flat_count Parting sum_flat concat greatest_flat

    judged : (t : Ty) → Judged (flat_count t) (length (flatten m t)) (Parting t)
    judged (scalar s) = (refl, omega arith, λ x. x)
    judged string = (refl, omega arith, λ x. x)
    judged (record_of ts) = judged_members ts
    judged (variant_of cs) = variant_judged (payload_counts cs) (payload_flats m cs) (PartingAmong cs) (judged_cases cs)
    judged (list_of t) = (refl, omega arith, λ x. x)
    judged (tuple_of ts) = judged_members ts
    judged (map_of k v) = (refl, omega arith, λ x. x)
    judged (flags_of n) = flags_judged n
    judged (enum_of n) = variant_judged [] [] ⊥ (refl, omega arith, λ x. x)
    judged (option_of t) = variant_judged (flat_count t ∷ []) (flatten m t ∷ []) (Parting t) (alone (flat_count t) (flatten m t) (Parting t) (judged t))
    judged (result_of ok err) =
        variant_judged (payload_count ok ++ payload_count err) (payload_flat m ok ++ payload_flat m err) (PartingOf ok ⊎ PartingOf err)
        (together (payload_count ok) (payload_count err) (payload_flat m ok) (payload_flat m err) (PartingOf ok) (PartingOf err) (judged_case ok) (judged_case err))
    judged (fixed_of t n) = rw (length_copies n (flatten m t)) (times_judged (flat_count t) (length (flatten m t)) n (Parting t) (judged t))

    judged_members : (ts : Members) → Judged (sum_flat (member_counts ts)) (length (concat (member_flats m ts))) (PartingIn ts)
    judged_members ∅ = (refl, omega arith, λ x. x)
    judged_members (t ◂ ts) =
        rw (length-append (flatten m t) (concat (member_flats m ts)))
        (add_judged (flat_count t) (sum_flat (member_counts ts)) (length (flatten m t)) (length (concat (member_flats m ts))) (Parting t) (PartingIn ts) (judged t) (judged_members ts))

    judged_case : (c : Case) → Judged (greatest_flat (payload_count c)) (longest (payload_flat m c)) (PartingOf c)
    judged_case bare = (refl, omega arith, λ x. x)
    judged_case (holding t) = alone (flat_count t) (flatten m t) (Parting t) (judged t)

    judged_cases : (cs : Cases) → Judged (greatest_flat (payload_counts cs)) (longest (payload_flats m cs)) (PartingAmong cs)
    judged_cases ∎ = (refl, omega arith, λ x. x)
    judged_cases (c ▸ cs) =
        together (payload_count c) (payload_counts cs) (payload_flat m c) (payload_flats m cs) (PartingOf c) (PartingAmong cs) (judged_case c) (judged_cases cs)

-- n exactly when the flat list of either memory has n entries, n is at most 16 and there is no parting
pub counted : (m : Memory) (t : Ty) (n : ℕ) → (flat_count t ≡ some n) ↔ ((length (flatten m t) ≡ n) × (n ≤ 16) × (Parting t → ⊥))
counted m t n = (λ e. rw e at (judged m t), back (flat_count t) (judged m t))
  where
    back : (c : Option ℕ) → Judged c (length (flatten m t)) (Parting t) → (length (flatten m t) ≡ n) × (n ≤ 16) × (Parting t → ⊥) → c ≡ some n
    back none p q = absurd (⊎_elim (λ (h : 16 < length (flatten m t)). omega arith) q.2 p)
    back (some k) p q = ap some (omega arith)

-- none exactly when it is longer, or the parting is met
pub uncounted : (m : Memory) (t : Ty) → (flat_count t ≡ none) ↔ ((16 < length (flatten m t)) ⊎ Parting t)
uncounted m t = (λ e. rw e at (judged m t), back (flat_count t) (judged m t))
  where
    back : (c : Option ℕ) → Judged c (length (flatten m t)) (Parting t) → (16 < length (flatten m t)) ⊎ Parting t → c ≡ none
    back none p q = refl
    back (some k) p q = absurd (⊎_elim (λ (h : 16 < length (flatten m t)). omega arith) p.2 q)
