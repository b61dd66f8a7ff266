-- Demand 3: ours is a placement, and none is tighter; the greatest alignment is the least common multiple.
use mathlib.Core.Path.{◌≡◌}
use mathlib.Core.List.Forall₂.{cons as pair}
use mathlib.Core.List.Forall₂.{nil as empty}
use mathlib.Core.List.{List, [], ◌∷◌}
use Prim.Native.Nat.{ℕ, ◌+◌, ◌≤◌, ◌<◌, ◌∣◌, max}
use native.Mathlib.Nat.{le_of_dvd, dvd_trans, le-max_left, le-max_right, le_antisymm}
use native.Mathlib.Omega.{arith}
use Rattle.canon.specs.Layout.{Layout, greatest_align, starts, last_end, record_size, round_up}
use Rattle.canon.proofs.Rounding.{le_round_up, dvd_round_up, round_up_least, alignment_pos, alignment_dvd, max_alignment, Alignment, by1}
use Rattle.canon.specs.Placement.{Every, four_gib, Placed, done, next, LeastCommon, Placement, NoneLater}

-- each alignment is one of the standard's
abbrev pub Aligned : List Layout → Type 0
Aligned fs = Every (λ f. Alignment f.align) fs

pub greatest_align_alignment : (fs : List Layout) → Aligned fs → Alignment (greatest_align fs)
unfolding greatest_align
greatest_align_alignment [] w = by1
greatest_align_alignment (f ∷ fs) w = max_alignment w.0 (greatest_align_alignment fs w.1)

-- what follows of each, follows of all
pub every_more : {A : Type 0} {P Q : A → Type 0} → ((x : A) → P x → Q x) → (xs : List A) → Every P xs → Every Q xs
every_more f [] h = tt
every_more f (x ∷ xs) h = (f x h.0, every_more f xs h.1)

below : (a b : ℕ) (fs : List Layout) → a ∣ b → Every (λ f. f.align ∣ a) fs → Every (λ f. f.align ∣ b) fs
below a b fs d w = every_more (λ f e. dvd_trans _ e d) fs w

common : (fs : List Layout) → Aligned fs → Every (λ f. f.align ∣ greatest_align fs) fs
unfolding greatest_align
common [] w = tt
common (f ∷ fs) w =
    let m : Alignment (max f.align (greatest_align fs)) = max_alignment w.0 (greatest_align_alignment fs w.1) in (
      alignment_dvd w.0 m (le-max_left _ _),
      below (greatest_align fs) (max f.align (greatest_align fs)) fs
          (alignment_dvd (greatest_align_alignment fs w.1) m (le-max_right _ _)) (common fs w.1),
    )

least : (fs : List Layout) (b : ℕ) → 0 < b → Every (λ f. f.align ∣ b) fs → greatest_align fs ≤ b
unfolding greatest_align
least [] b p w = p
least (f ∷ fs) b p w = omega (arith, le_of_dvd p w.0, least fs b p w.1)

pub greatest_align_least : (fs : List Layout) → Aligned fs → LeastCommon fs (greatest_align fs)
greatest_align_least fs w =
    record { positive = alignment_pos (greatest_align_alignment fs w); common = common fs w; least = least fs }

-- the ends only grow
pub le_last_end : (e : ℕ) (fs : List Layout) → Aligned fs → e ≤ last_end e fs
unfolding last_end
le_last_end e [] w = omega arith
le_last_end e (f ∷ fs) w =
    omega (arith, le_round_up e f.align (alignment_pos w.0), le_last_end (round_up e f.align + f.size) fs w.1)

-- ours is placed
ours_placed : (e : ℕ) (fs : List Layout) → Aligned fs → last_end e fs < four_gib → Placed e fs (starts e fs) (last_end e fs)
unfolding last_end starts
ours_placed e [] w h = done
ours_placed e (f ∷ fs) w h =
    let l : round_up e f.align + f.size ≤ last_end (round_up e f.align + f.size) fs = le_last_end _ fs w.1 in
    next
    {f = f}
    (dvd_round_up e f.align)
    (le_round_up e f.align (alignment_pos w.0))
    (omega arith)
    (omega arith)
    (ours_placed (round_up e f.align + f.size) fs w.1 h)

pub le_record_size : (fs : List Layout) → Aligned fs → last_end 0 fs ≤ record_size fs
unfolding record_size
le_record_size fs w = le_round_up (last_end 0 fs) (greatest_align fs) (alignment_pos (greatest_align_alignment fs w))

-- ours is a placement, where its size fits
pub ours : (fs : List Layout) → Aligned fs → record_size fs < four_gib → Placement fs (starts 0 fs) (record_size fs)
unfolding record_size
ours fs w h =
    record {
      last = last_end 0 fs;
      alignment = greatest_align fs;
      members = ours_placed 0 fs w (omega (arith, le_record_size fs w));
      aligned = greatest_align_least fs w;
      reaches = le_record_size fs w;
      fits = h;
      divides = dvd_round_up (last_end 0 fs) (greatest_align fs);
    }

-- two such numbers are one
pub unique : {fs : List Layout} {a b : ℕ} → LeastCommon fs a → LeastCommon fs b → a ≡ b
unique {a = a} {b = b} p q = le_antisymm (p.least b q.positive q.common) (q.least a p.positive p.common)

earliest :
    {e' l : ℕ} {fs : List Layout} {ss : List ℕ} (e : ℕ) →
    Aligned fs →
    e ≤ e' →
    Placed e' fs ss l →
    NoneLater (starts e fs) ss × (last_end e fs ≤ l)
unfolding starts last_end
earliest e w h done = (empty, h)
earliest e w h (next {s = s} {f = f} d le s< e< p) =
    let st : round_up e f.align ≤ s = round_up_least e f.align s (alignment_pos w.0) (omega arith) d in
    let r = earliest (round_up e f.align + f.size) w.1 (omega arith) p in
    (pair st r.0, r.1)

-- no placement starts a member earlier than ours, or is smaller
pub tightest :
    {fs : List Layout} {ss : List ℕ} {size : ℕ} →
    Aligned fs →
    Placement fs ss size →
    NoneLater (starts 0 fs) ss × (record_size fs ≤ size)
unfolding record_size
tightest {fs} {ss} {size} w p =
    let r = earliest 0 w (omega arith) p.members in
    let a : p.alignment ≡ greatest_align fs = unique p.aligned (greatest_align_least fs w) in (
      r.0,
      round_up_least (last_end 0 fs) (greatest_align fs) size
          (alignment_pos (greatest_align_alignment fs w))
          (omega (arith, r.1, p.reaches))
          (rw a at p.divides),
    )
