-- Flat counts and flat lists side by side: lengths, and one part more at the end.
use mathlib.Core.Path.{◌≡◌, refl, sym, ap, ◌∙◌}
use mathlib.Core.Bool.{Bool, true, false, cond}
use mathlib.Core.List.{List, [], ◌∷◌, ◌++◌, append_assoc, append-nil}
use mathlib.Core.Option.{Option, none, some}
use Prim.Native.Nat.{ℕ, zero, suc, ◌+◌, ◌*◌, ◌≤◌, ◌<◌, max}
use native.Mathlib.Nat.{add_comm, add-zero}
use native.Mathlib.Omega.{arith}
use lib.Dec.{leb}
use lib.ListN.{length, length-append}
use borrow.Author.Tests.{lt-leb, le-leb, leb-true, leb-false}
use Rattle.canon.specs.Answer.{map_option2}
use Rattle.canon.specs.Types.{Ty, Members, ∅, ◌◂◌, Case, bare, holding, Cases, ∎, ◌▸◌, Core}
use Rattle.canon.specs.Layout.{Memory}
use Rattle.canon.specs.Flat.{join_lists, join_all, copies, capped, add_flat, max_flat, sum_flat, greatest_flat, flatten, member_flats, payload_flat, payload_flats, flat_count, member_counts, payload_count, payload_counts}
use Rattle.canon.specs.Row.{Info, flat_of}
use Rattle.canon.specs.Signature.{flat_all}

-- Lengths

pub length_join : (k l : List Core) → length (join_lists k l) ≡ max (length k) (length l)
unfolding join_lists
length_join [] l = omega arith
length_join (a ∷ k) [] = omega arith
length_join (a ∷ k) (b ∷ l) = omega (arith, length_join k l)

pub length_copies : (n : ℕ) (l : List Core) → length (copies n l) ≡ length l * n
unfolding copies
length_copies zero l = omega arith
length_copies (suc n) l = omega (arith, length-append l (copies n l), length_copies n l)

-- a count, where there is one, is the list's length and at most 16
abbrev pub Counted : Option ℕ → List Core → Type 0
Counted o l = (n : ℕ) → o ≡ some n → (length l ≡ n) × (n ≤ 16)

capped_counted : (l : List Core) (n : ℕ) → length l ≡ n → Counted (capped n) l
capped_counted l n e = go (leb n 16) refl
  where
    go : (b : Bool) → leb n 16 ≡ b → Counted (cond b (some n) none) l
    go true h k f = let g : n ≡ k = cc in omega (arith, leb-true n 16 h)
    go false h k f = let z : ◌≡◌ {A = ℕ} 0 1 = cc in absurd (omega arith)

pub counted_append : (a b : Option ℕ) (k l : List Core) → Counted a k → Counted b l → Counted (add_flat a b) (k ++ l)
unfolding add_flat
counted_append none b k l p q n e = let z : ◌≡◌ {A = ℕ} 0 1 = cc in absurd (omega arith)
counted_append (some i) none k l p q n e = let z : ◌≡◌ {A = ℕ} 0 1 = cc in absurd (omega arith)
counted_append (some i) (some j) k l p q n e =
    capped_counted (k ++ l) (i + j) (omega (arith, length-append k l, p i refl, q j refl)) n e

pub counted_join : (a b : Option ℕ) (k l : List Core) → Counted a k → Counted b l → Counted (max_flat a b) (join_lists k l)
unfolding max_flat
counted_join none b k l p q n e = let z : ◌≡◌ {A = ℕ} 0 1 = cc in absurd (omega arith)
counted_join (some i) none k l p q n e = let z : ◌≡◌ {A = ℕ} 0 1 = cc in absurd (omega arith)
counted_join (some i) (some j) k l p q n e =
    let f : max i j ≡ n = cc in omega (arith, length_join k l, p i refl, q j refl)

-- One part more at the end, as a loop from left to right meets it

add_capped : (a n : ℕ) → add_flat (some a) (capped n) ≡ capped (a + n)
unfolding add_flat
add_capped a n = go (leb n 16) refl
  where
    go : (b : Bool) → leb n 16 ≡ b → add_flat (some a) (cond b (some n) none) ≡ capped (a + n)
    go true h = refl
    go false h = let l : 16 < n = leb-false n 16 h in simp (lt-leb (a + n) 16 (omega arith))

pub add_flat_comm : (a b : Option ℕ) → add_flat a b ≡ add_flat b a
unfolding add_flat
add_flat_comm none none = refl
add_flat_comm none (some n) = refl
add_flat_comm (some m) none = refl
add_flat_comm (some m) (some n) = rw (add_comm m n)

pub add_flat_assoc : (a b c : Option ℕ) → add_flat a (add_flat b c) ≡ add_flat (add_flat a b) c
unfolding add_flat
add_flat_assoc none b c = refl
add_flat_assoc (some i) none c = refl
add_flat_assoc (some i) (some j) none = add_flat_comm none (add_flat (some i) (some j))
add_flat_assoc (some i) (some j) (some k) =
    let e : i + (j + k) ≡ k + (i + j) = omega arith in
    add_capped i (j + k) ∙ ap capped e ∙ sym (add_flat_comm (capped (i + j)) (some k) ∙ add_capped k (i + j))

pub max_flat_assoc : (a b c : Option ℕ) → max_flat a (max_flat b c) ≡ max_flat (max_flat a b) c
unfolding max_flat
max_flat_assoc none b c = refl
max_flat_assoc (some i) none c = refl
max_flat_assoc (some i) (some j) none = refl
max_flat_assoc (some i) (some j) (some k) = ap some (omega arith)

pub max_flat_zero : (a : Option ℕ) → max_flat a (some 0) ≡ a
unfolding max_flat
max_flat_zero none = refl
max_flat_zero (some n) = ap some (omega arith)

pub zero_max_flat : (a : Option ℕ) → max_flat (some 0) a ≡ a
unfolding max_flat
zero_max_flat none = refl
zero_max_flat (some n) = ap some (omega arith)

-- none, or at most 16
abbrev pub Small : Option ℕ → Type 0
Small none = Unit {0}
Small (some n) = n ≤ 16

capped_small : (n : ℕ) → Small (capped n)
capped_small n = go (leb n 16) refl
  where
    go : (b : Bool) → leb n 16 ≡ b → Small (cond b (some n) none)
    go true h = leb-true n 16 h
    go false h = tt

add_flat_small : (a b : Option ℕ) → Small (add_flat a b)
unfolding add_flat
add_flat_small none b = tt
add_flat_small (some m) none = tt
add_flat_small (some m) (some n) = capped_small (m + n)

sum_flat_small : (cs : List (Option ℕ)) → Small (sum_flat cs)
unfolding sum_flat
sum_flat_small [] = omega arith
sum_flat_small (c ∷ cs) = add_flat_small c (sum_flat cs)

add_nothing : (o : Option ℕ) → Small o → add_flat o (some 0) ≡ o
unfolding add_flat
add_nothing none h = refl
add_nothing (some n) h = simp (le-leb (n + 0) 16 (omega arith)) (ap some (add-zero n))

-- the sum from left to right
unfoldable pub sums : Option ℕ → List (Option ℕ) → Option ℕ
sums a [] = a
sums a (c ∷ cs) = sums (add_flat a c) cs

sums_from : (a : Option ℕ) (cs : List (Option ℕ)) → Small a → sums a cs ≡ add_flat a (sum_flat cs)
unfolding sums sum_flat
sums_from a [] w = sym (add_nothing a w)
sums_from a (c ∷ cs) w = sums_from (add_flat a c) cs (add_flat_small a c) ∙ sym (add_flat_assoc a c (sum_flat cs))

pub sums_sum : (cs : List (Option ℕ)) → sums (some 0) cs ≡ sum_flat cs
sums_sum cs =
    sums_from (some 0) cs (omega arith) ∙ add_flat_comm (some 0) (sum_flat cs) ∙ add_nothing (sum_flat cs) (sum_flat_small cs)

-- the greatest from left to right
unfoldable pub greats : Option ℕ → List (Option ℕ) → Option ℕ
greats a [] = a
greats a (c ∷ cs) = greats (max_flat a c) cs

greats_from : (a : Option ℕ) (cs : List (Option ℕ)) → greats a cs ≡ max_flat a (greatest_flat cs)
unfolding greats greatest_flat
greats_from a [] = sym (max_flat_zero a)
greats_from a (c ∷ cs) = greats_from (max_flat a c) cs ∙ sym (max_flat_assoc a c (greatest_flat cs))

pub greats_greatest : (cs : List (Option ℕ)) → greats (some 0) cs ≡ greatest_flat cs
greats_greatest cs = greats_from (some 0) cs ∙ zero_max_flat (greatest_flat cs)

lift2_assoc : (a b c : Option (List Core)) → map_option2 ◌++◌ a (map_option2 ◌++◌ b c) ≡ map_option2 ◌++◌ (map_option2 ◌++◌ a b) c
lift2_assoc none b c = refl
lift2_assoc (some k) none c = refl
lift2_assoc (some k) (some l) none = refl
lift2_assoc (some k) (some l) (some r) = ap some (sym (append_assoc k l r))

lift2_nil : (a : Option (List Core)) → map_option2 ◌++◌ a (some []) ≡ map_option2 ◌++◌ (some []) a
lift2_nil none = refl
lift2_nil (some l) = ap some (append-nil l)

pub flat_all_more : (m : Memory) (is' : List Info) (i : Info) → flat_all m (is' ++ i ∷ []) ≡ map_option2 ◌++◌ (flat_all m is') (flat_of m i)
unfolding flat_all
flat_all_more m [] i = lift2_nil (flat_of m i)
flat_all_more m (j ∷ is') i = ap (λ (x : Option (List Core)). map_option2 ◌++◌ (flat_of m j) x) (flat_all_more m is' i) ∙ lift2_assoc (flat_of m j) (flat_all m is') (flat_of m i)

-- All parts

-- each count of the first list, where there is one, is that of its fellow
pub data AllCounted : List (Option ℕ) → List (List Core) → Type 0 where
  nil : AllCounted [] []
  cons : {a : Option ℕ} {l : List Core} {as' : List (Option ℕ)} {ls : List (List Core)} → Counted a l → AllCounted as' ls → AllCounted (a ∷ as') (l ∷ ls)

pub all_counted_append :
    {as' bs : List (Option ℕ)} {ks ls : List (List Core)} →
    AllCounted as' ks →
    AllCounted bs ls →
    AllCounted (as' ++ bs) (ks ++ ls)
all_counted_append nil q = q
all_counted_append (cons c p) q = cons c (all_counted_append p q)

joined_counted :
    {as' : List (Option ℕ)} {ls : List (List Core)} (a : Option ℕ) (k : List Core) →
    Counted a k →
    AllCounted as' ls →
    Counted (max_flat a (greatest_flat as')) (join_all k ls)
unfolding greatest_flat join_all
joined_counted a k c nil = rw (max_flat_zero a) c
joined_counted a k c (cons {a = b} {l} {as'} {ls} d p) =
    rw (max_flat_assoc a b (greatest_flat as')) (joined_counted (max_flat a b) (join_lists k l) (counted_join a b k l c d) p)

pub counted_join_all : {as' : List (Option ℕ)} {ls : List (List Core)} → AllCounted as' ls → Counted (greatest_flat as') (join_all [] ls)
counted_join_all {as'} p =
    rw (zero_max_flat (greatest_flat as')) at (joined_counted (some 0) [] (λ n e. let f : 0 ≡ n = cc in omega arith) p)

-- of the members of a record and the payloads of a variant, if each type is counted
module _ (m : Memory) (counted : (t : Ty) → Counted (flat_count t) (flatten m t)) where
  pub members_counted : (ts : Members) → AllCounted (member_counts ts) (member_flats m ts)
  unfolding flat_count flatten
  members_counted ∅ = nil
  members_counted (t ◂ ts) = cons (counted t) (members_counted ts)

  pub payload_counted : (c : Case) → AllCounted (payload_count c) (payload_flat m c)
  unfolding flat_count flatten
  payload_counted bare = nil
  payload_counted (holding t) = cons (counted t) nil

  pub payloads_counted : (cs : Cases) → AllCounted (payload_counts cs) (payload_flats m cs)
  unfolding flat_count flatten
  payloads_counted ∎ = nil
  payloads_counted (c ▸ cs) = all_counted_append (payload_counted c) (payloads_counted cs)
