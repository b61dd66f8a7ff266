-- The wider memory is never the smaller: of every type, size, alignment, offsets and all else that has to fit are for 64 at least what they
-- are for 32, so the 64-bit memory alone decides what is too large. Beside it, that appending a member moves none before it.
use mathlib.Core.Path.{◌≡◌, refl, sym, ap, ◌∙◌}
use mathlib.Core.Logic.{inl, inr, ⊎_elim}
use mathlib.Core.Bool.{Bool, true, false, ◌||◌}
use mathlib.Core.List.Forall₂.{cons as pair}
use mathlib.Core.List.Forall₂.{nil as empty}
use mathlib.Core.List.{List, [], ◌∷◌, ◌++◌, Forall₂}
use mathlib.Core.Option.{Option, none, some}
use Prim.Native.Nat.{ℕ, ◌+◌, ◌≤◌, ◌<◌, ◌∣◌}
use native.Mathlib.Nat.{dvd_trans, dvd_refl, le_of_dvd, dvd_of_mod-eq-zero, mul-le-mul_right}
use native.Mathlib.Omega.{arith}
use lib.Dec.{ltb}
use borrow.Author.Tests.{ltb-true, lt-ltb}
use Rattle.canon.specs.Types.{Ty, scalar, string, record_of, variant_of, list_of, tuple_of, map_of, flags_of, enum_of, option_of, result_of, fixed_of, Members, ∅, ◌◂◌, Case, bare, holding, Cases, ∎, ◌▸◌, count}
use Rattle.canon.specs.Layout.{Memory, mem32, mem64, Layout, pair_layout, round_up, end_after, greatest_align, greatest_size, starts, ends, last_end, record_size, record_layout, variant_align, payload_offset, variant_size, variant_layout, layout, members, payload, payloads, record_numbers, variant_numbers, numbers, largest_number}
use Rattle.canon.specs.Placement.{NoneLater}
use Rattle.canon.specs.Row.{Inner, no_inner, cases_inner, map_inner, inner, row_of, word}
use Rattle.canon.specs.Description.{reference, members_of, some_above, is_too_large}
use Rattle.canon.specs.Answer.{map_option2}
use Rattle.canon.proofs.Tests.{impossible, either_true}
use Rattle.canon.proofs.Rounding.{le_round_up, dvd_round_up, round_up_least, alignment_pos, alignment_dvd, Alignment, by4, by8}
use Rattle.canon.proofs.Tightest.{Aligned, greatest_align_alignment}
use Rattle.canon.proofs.Alignments.{layout_aligned, variant_alignment}

infix 20 ◌≼◌
-- no larger, and wherever the other may stand it may stand too; both alignments are the standard's
pub record ◌≼◌ (f g : Layout) : Type 0 where
  pub size : f.size ≤ g.size
  pub align : f.align ∣ g.align
  pub narrow : Alignment f.align
  pub wide : Alignment g.align

align_le : {f g : Layout} → f ≼ g → f.align ≤ g.align
align_le r = le_of_dvd (alignment_pos r.wide) r.align

same : (f : Layout) → Alignment f.align → f ≼ f
same f a = record { size = omega arith; align = dvd_refl f.align; narrow = a; wide = a }

-- One after another

forall₂_append :
    {A : Type 0} {R : A → A → Type 0} {xs ys vs ws : List A} → Forall₂ R xs ys → Forall₂ R vs ws → Forall₂ R (xs ++ vs) (ys ++ ws)
forall₂_append empty q = q
forall₂_append (pair r p) q = pair r (forall₂_append p q)

pub both_aligned : {fs gs : List Layout} → Forall₂ ◌≼◌ fs gs → Aligned fs × Aligned gs
both_aligned empty = (tt, tt)
both_aligned (pair r p) = let a = both_aligned p in ((r.narrow, a.0), (r.wide, a.1))

-- that a divides b is needed, at most is too little: 5 rounded up to 3 is 6, to 5 it is 5
pub round_up_wider : (x y a b : ℕ) → 0 < a → 0 < b → x ≤ y → a ∣ b → round_up x a ≤ round_up y b
round_up_wider x y a b p q h d = round_up_least x a (round_up y b) p (omega (arith, le_round_up y b q)) (dvd_trans a d (dvd_round_up y b))

-- the narrow members laid out after an end d, the wide ones after e
record Along (d e : ℕ) (fs gs : List Layout) : Type 0 where
  starting : NoneLater (starts d fs) (starts e gs)
  ending : NoneLater (ends d fs) (ends e gs)
  last : last_end d fs ≤ last_end e gs

along : (d e : ℕ) {fs gs : List Layout} → d ≤ e → Forall₂ ◌≼◌ fs gs → Along d e fs gs
unfolding starts ends last_end
along d e h empty = record { starting = empty; ending = empty; last = h }
along d e h (pair {a = f} {b = g} r p) =
    let s : round_up d f.align ≤ round_up e g.align = round_up_wider d e _ _ (alignment_pos r.narrow) (alignment_pos r.wide) h r.align in
    let l : end_after d f ≤ end_after e g = omega (arith, r.size) in
    let a = along (end_after d f) (end_after e g) l p in
    record { starting = pair s a.starting; ending = pair l a.ending; last = a.last }

greatest_align_le : {fs gs : List Layout} → Forall₂ ◌≼◌ fs gs → greatest_align fs ≤ greatest_align gs
unfolding greatest_align
greatest_align_le empty = omega arith
greatest_align_le (pair r p) = omega (arith, align_le r, greatest_align_le p)

greatest_size_wider : {fs gs : List Layout} → Forall₂ ◌≼◌ fs gs → greatest_size fs ≤ greatest_size gs
unfolding greatest_size
greatest_size_wider empty = omega arith
greatest_size_wider (pair r p) = omega (arith, r.size, greatest_size_wider p)

module _ {fs gs : List Layout} (p : Forall₂ ◌≼◌ fs gs) where
  narrow_greatest : Alignment (greatest_align fs)
  narrow_greatest = greatest_align_alignment fs (both_aligned p).0

  wide_greatest : Alignment (greatest_align gs)
  wide_greatest = greatest_align_alignment gs (both_aligned p).1

  pub greatest_align_wider : greatest_align fs ∣ greatest_align gs
  greatest_align_wider = alignment_dvd narrow_greatest wide_greatest (greatest_align_le p)

  pub starts_wider : NoneLater (starts 0 fs) (starts 0 gs)
  starts_wider = (along 0 0 (omega arith) p).starting

  pub ends_wider : NoneLater (ends 0 fs) (ends 0 gs)
  ends_wider = (along 0 0 (omega arith) p).ending

  pub record_wider : record_layout fs ≼ record_layout gs
  unfolding record_size
  record_wider =
      record {
        size = round_up_wider _ _ _ _ (alignment_pos narrow_greatest) (alignment_pos wide_greatest) (along 0 0 (omega arith) p).last greatest_align_wider;
        align = greatest_align_wider;
        narrow = narrow_greatest;
        wide = wide_greatest;
      }

  record_numbers_lem : NoneLater (record_numbers fs) (record_numbers gs)
  record_numbers_lem = forall₂_append (forall₂_append starts_wider ends_wider) (pair record_wider.size empty)

  module _ (n : ℕ) where
    pub payload_offset_wider : payload_offset n fs ≤ payload_offset n gs
    unfolding payload_offset
    payload_offset_wider = round_up_wider _ _ _ _ (alignment_pos narrow_greatest) (alignment_pos wide_greatest) (omega arith) greatest_align_wider

    payload_end_wider : payload_offset n fs + greatest_size fs ≤ payload_offset n gs + greatest_size gs
    payload_end_wider = omega (arith, payload_offset_wider, greatest_size_wider p)

    pub variant_wider : variant_layout n fs ≼ variant_layout n gs
    unfolding variant_size
    variant_wider =
        let a = variant_alignment n fs (both_aligned p).0 in
        let b = variant_alignment n gs (both_aligned p).1 in
        let d : variant_align n fs ∣ variant_align n gs = alignment_dvd a b (omega (arith, greatest_align_le p)) in
        record { size = round_up_wider _ _ _ _ (alignment_pos a) (alignment_pos b) payload_end_wider d; align = d; narrow = a; wide = b }

    variant_numbers_lem : NoneLater (variant_numbers n fs) (variant_numbers n gs)
    variant_numbers_lem = pair payload_offset_wider (pair payload_end_wider (pair variant_wider.size empty))

-- Every type

pair_layout_wider : pair_layout mem32 ≼ pair_layout mem64
pair_layout_wider = record { size = omega arith; align = dvd_of_mod-eq-zero 4 refl; narrow = by4; wide = by8 }

mutual
  unfolding layout

  pub layout_wider : (t : Ty) → layout mem32 t ≼ layout mem64 t
  layout_wider (scalar s) = same (layout mem32 (scalar s)) (layout_aligned mem32 (scalar s))
  layout_wider string = pair_layout_wider
  layout_wider (record_of ts) = record_wider (members_wider ts)
  layout_wider (variant_of cs) = variant_wider (payloads_wider cs) (count cs)
  layout_wider (list_of t) = pair_layout_wider
  layout_wider (tuple_of ts) = record_wider (members_wider ts)
  layout_wider (map_of k v) = pair_layout_wider
  layout_wider (flags_of n) = same (layout mem32 (flags_of n)) (layout_aligned mem32 (flags_of n))
  layout_wider (enum_of n) = variant_wider empty n
  layout_wider (option_of t) = variant_wider (pair (layout_wider t) empty) 2
  layout_wider (result_of ok err) = variant_wider (forall₂_append (payload_wider ok) (payload_wider err)) 2
  layout_wider (fixed_of t n) =
      let r = layout_wider t in
      record { size = mul-le-mul_right n r.size; align = r.align; narrow = r.narrow; wide = r.wide }

  pub members_wider : (ts : Members) → Forall₂ ◌≼◌ (members mem32 ts) (members mem64 ts)
  members_wider ∅ = empty
  members_wider (t ◂ ts) = pair (layout_wider t) (members_wider ts)

  payload_wider : (c : Case) → Forall₂ ◌≼◌ (payload mem32 c) (payload mem64 c)
  payload_wider bare = empty
  payload_wider (holding t) = pair (layout_wider t) empty

  payloads_wider : (cs : Cases) → Forall₂ ◌≼◌ (payloads mem32 cs) (payloads mem64 cs)
  payloads_wider ∎ = empty
  payloads_wider (c ▸ cs) = forall₂_append (payload_wider c) (payloads_wider cs)

entry_wider : (k v : Ty) → Forall₂ ◌≼◌ (layout mem32 k ∷ layout mem32 v ∷ []) (layout mem64 k ∷ layout mem64 v ∷ [])
entry_wider k v = pair (layout_wider k) (pair (layout_wider v) empty)

result_wider : (ok err : Case) → Forall₂ ◌≼◌ (payload mem32 ok ++ payload mem32 err) (payload mem64 ok ++ payload mem64 err)
result_wider ok err = forall₂_append (payload_wider ok) (payload_wider err)

-- Its row

-- words 9 to 14
pub record InnerWider (a b : Inner) : Type 0 where
  pub offset : a.offset ≤ b.offset
  pub entry_size : a.entry.size ≤ b.entry.size
  pub entry_align : a.entry.align ≤ b.entry.align

none_inner : InnerWider no_inner no_inner
none_inner = record { offset = omega arith; entry_size = omega arith; entry_align = omega arith }

cases_inner_lem : (n : ℕ) {fs gs : List Layout} → Forall₂ ◌≼◌ fs gs → InnerWider (cases_inner n fs) (cases_inner n gs)
cases_inner_lem n p = record { offset = payload_offset_wider p n; entry_size = omega arith; entry_align = omega arith }

map_inner_lem : {k v k' v' : Layout} → Forall₂ ◌≼◌ (k ∷ v ∷ []) (k' ∷ v' ∷ []) → InnerWider (map_inner k v) (map_inner k' v')
unfolding starts
map_inner_lem p = record { offset = second (starts_wider p); entry_size = (record_wider p).size; entry_align = align_le (record_wider p) }
  where
    second : {a b c d : ℕ} {xs ys : List ℕ} → NoneLater (a ∷ b ∷ xs) (c ∷ d ∷ ys) → b ≤ d
    second (pair r (pair s q)) = s

pub inner_wider : (t : Ty) → InnerWider (inner mem32 t) (inner mem64 t)
inner_wider (scalar s) = none_inner
inner_wider string = none_inner
inner_wider (record_of ts) = none_inner
inner_wider (variant_of cs) = cases_inner_lem (count cs) (payloads_wider cs)
inner_wider (list_of t) = none_inner
inner_wider (tuple_of ts) = none_inner
inner_wider (map_of k v) = map_inner_lem (entry_wider k v)
inner_wider (flags_of n) = none_inner
inner_wider (enum_of n) = cases_inner_lem n empty
inner_wider (option_of t) = cases_inner_lem 2 (pair (layout_wider t) empty)
inner_wider (result_of ok err) = cases_inner_lem 2 (result_wider ok err)
inner_wider (fixed_of t n) = none_inner

-- of a row, what 64 has is at least what 32 has
pub record NeverSmaller (r : List ℕ) : Type 0 where
  pub size : word r 1 ≤ word r 3
  pub align : word r 2 ≤ word r 4
  pub offset : word r 9 ≤ word r 10
  pub entry_size : word r 11 ≤ word r 13
  pub entry_align : word r 12 ≤ word r 14

pub row_wider : (t : Ty) → NeverSmaller (row_of t)
unfolding row_of
row_wider t =
    let f = layout_wider t in
    let i = inner_wider t in
    record { size = f.size; align = align_le f; offset = i.offset; entry_size = i.entry_size; entry_align = i.entry_align }

-- What is too large

one_number : (t : Ty) → NoneLater ((layout mem32 t).size ∷ []) ((layout mem64 t).size ∷ [])
one_number t = pair (layout_wider t).size empty

pub numbers_wider : (t : Ty) → NoneLater (numbers mem32 t) (numbers mem64 t)
unfolding numbers
numbers_wider (scalar s) = one_number (scalar s)
numbers_wider string = one_number string
numbers_wider (record_of ts) = record_numbers_lem (members_wider ts)
numbers_wider (variant_of cs) = variant_numbers_lem (payloads_wider cs) (count cs)
numbers_wider (list_of t) = one_number (list_of t)
numbers_wider (tuple_of ts) = record_numbers_lem (members_wider ts)
numbers_wider (map_of k v) = pair (layout_wider (map_of k v)).size (record_numbers_lem (entry_wider k v))
numbers_wider (flags_of n) = one_number (flags_of n)
numbers_wider (enum_of n) = variant_numbers_lem empty n
numbers_wider (option_of t) = variant_numbers_lem (pair (layout_wider t) empty) 2
numbers_wider (result_of ok err) = variant_numbers_lem (result_wider ok err) 2
numbers_wider (fixed_of t n) = one_number (fixed_of t n)

above_wider : (n : ℕ) {xs ys : List ℕ} → NoneLater xs ys → some_above n xs ≡ true → some_above n ys ≡ true
above_wider n empty h = h
above_wider n (pair {a = x} {b = y} r p) h =
    (either_true (ltb n y) _).1
    (⊎_elim (λ l. inl (lt-ltb n y (omega (arith, ltb-true n x l)))) (λ l. inr (above_wider n p l)) ((either_true (ltb n x) _).0 h))

pub too_large_wider : (t : Ty) → is_too_large mem32 t ≡ true → is_too_large mem64 t ≡ true
unfolding is_too_large
too_large_wider t = above_wider largest_number (numbers_wider t)

-- "in either memory" comes to the 64-bit one
pub too_large_either : (t : Ty) → (is_too_large mem32 t || is_too_large mem64 t) ≡ is_too_large mem64 t
too_large_either t = go (is_too_large mem32 t) (too_large_wider t)
  where
    go : (b : Bool) → (b ≡ true → is_too_large mem64 t ≡ true) → (b || is_too_large mem64 t) ≡ is_too_large mem64 t
    go true h = sym (h refl)
    go false h = refl

-- Appending moves none before it

pub starts_append : (e : ℕ) (fs gs : List Layout) → starts e (fs ++ gs) ≡ starts e fs ++ starts (last_end e fs) gs
unfolding starts last_end
starts_append e [] gs = refl
starts_append e (f ∷ fs) gs = ap (λ l. round_up e f.align ∷ l) (starts_append (end_after e f) fs gs)

-- a record's body with references appended to it
members_append :
    (m : Memory) (ts : List Ty) (ws vs : List ℕ) (us' : Members) → members_of ts (ws ++ vs) ≡ some us' →
    (us : Members) × (members_of ts ws ≡ some us) × (gs : List Layout) × (members m us' ≡ members m us ++ gs)
unfolding members_of layout
members_append m ts [] vs us' e = (∅, refl, members m us', refl)
members_append m ts (w ∷ ws) vs us' e = go (reference ts w) (members_of ts (ws ++ vs)) refl e (members_append m ts ws vs)
  where
    go :
        (o : Option Ty) (k : Option Members) → members_of ts (ws ++ vs) ≡ k → map_option2 ◌◂◌ o k ≡ some us' →
        ((vs' : Members) → members_of ts (ws ++ vs) ≡ some vs' → (us : Members) × (members_of ts ws ≡ some us) × (gs : List Layout) × (members m vs' ≡ members m us ++ gs)) →
        (us : Members) × (map_option2 ◌◂◌ o (members_of ts ws) ≡ some us) × (gs : List Layout) × (members m us' ≡ members m us ++ gs)
    go none k h e rest = impossible (cc)
    go (some u) none h e rest = impossible (cc)
    go (some u) (some vs') h e rest =
        let r = rest vs' h in
        let q : u ◂ vs' ≡ us' = cc in
        (u ◂ r.0, rw r.1, r.2, rw (← q) (ap (λ l. layout m u ∷ l) r.3))

pub body_begins :
    (m : Memory) (ts : List Ty) (ws vs : List ℕ) (us' : Members) → members_of ts (ws ++ vs) ≡ some us' →
    (us : Members) × (members_of ts ws ≡ some us) × (ss : List ℕ) × (starts 0 (members m us') ≡ starts 0 (members m us) ++ ss)
body_begins m ts ws vs us' e =
    let r = members_append m ts ws vs us' e in
    (r.0, r.1, starts (last_end 0 (members m r.0)) r.2, ap (starts 0) r.3 ∙ starts_append 0 (members m r.0) r.2)
