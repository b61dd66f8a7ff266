-- Of the words of a body the type that it defines looks up those that `references_of` tells, and no other; each of them names a type or is the
-- mark. A body has a word at least.
use mathlib.Core.Path.{◌≡◌, refl}
use mathlib.Core.Bool.{Bool, true, false, cond}
use mathlib.Core.List.{List, [], ◌∷◌}
use mathlib.Core.Option.{Option, none, some}
use Prim.Native.Nat.{ℕ, suc, ◌≤◌}
use native.Mathlib.Omega.{arith}
use lib.Dec.{eqb}
use lib.ListN.{get_or, take, drop}
use Rattle.canon.specs.Answer.{map_option, map_option2}
use Rattle.canon.specs.Types.{Ty, record_of, variant_of, list_of, tuple_of, map_of, option_of, result_of, fixed_of, Members, ◌◂◌, Case, bare, holding, Cases, ◌▸◌, Kind, k_record, k_variant, k_list, k_tuple, k_map, k_flags, k_enum, k_option, k_result, k_fixed}
use Rattle.canon.specs.Description.{reference, mark, case_of, members_of, cases_of, shape_of, body_length, references_of, type_of}
use Rattle.canon.specs.Placement.{Every}
use Rattle.canon.proofs.Tests.{impossible}

pub body_some : (k : Kind) (n : ℕ) → 1 ≤ body_length (shape_of k) n
body_some k_record n = omega arith
body_some k_variant n = omega arith
body_some k_list n = omega arith
body_some k_tuple n = omega arith
body_some k_map n = omega arith
body_some k_flags n = omega arith
body_some k_enum n = omega arith
body_some k_option n = omega arith
body_some k_result n = omega arith
body_some k_fixed n = omega arith

-- the word names the same after the types ts as after us
abbrev pub Alike : List Ty → List Ty → ℕ → Type 0
Alike ts us w = reference ts w ≡ reference us w

module _ (ts us : List Ty) where
  -- what is not there is read as 0, Bool
  missing : Alike ts us 0
  unfolding reference
  missing = refl

  first : (r : ℕ) (b : List ℕ) → Every (Alike ts us) (take (suc r) b) → Alike ts us (get_or b 0 0)
  first r [] w = missing
  first r (x ∷ b) w = w.0

  second : (b : List ℕ) → Every (Alike ts us) (take 2 b) → Alike ts us (get_or b 1 0)
  second [] w = missing
  second (x ∷ []) w = missing
  second (x ∷ y ∷ b) w = w.1.0

  case : (w : ℕ) → Alike ts us w → case_of ts w ≡ case_of us w
  unfolding case_of
  case w e = rw e

  members : (ws : List ℕ) → Every (Alike ts us) ws → members_of ts ws ≡ members_of us ws
  unfolding members_of
  members [] w = refl
  members (x ∷ ws) w = rw (w.0, members ws w.1)

  cases : (ws : List ℕ) → Every (Alike ts us) ws → cases_of ts ws ≡ cases_of us ws
  unfolding cases_of
  cases [] w = refl
  cases (x ∷ ws) w = rw (case x w.0, cases ws w.1)

  pub looked_up : (k : Kind) (b : List ℕ) → Every (Alike ts us) (references_of (shape_of k) b) → type_of ts k b ≡ type_of us k b
  unfolding type_of
  looked_up k_record b w = rw (members (drop 1 b) w)
  looked_up k_variant b w = rw (cases (drop 1 b) w)
  looked_up k_list b w = rw (first 0 b w)
  looked_up k_tuple b w = rw (members (drop 1 b) w)
  looked_up k_map b w = rw (first 1 b w, second b w)
  looked_up k_flags b w = refl
  looked_up k_enum b w = refl
  looked_up k_option b w = rw (first 0 b w)
  looked_up k_result b w = rw (case (get_or b 0 0) (first 1 b w), case (get_or b 1 0) (second b w))
  looked_up k_fixed b w = rw (first 0 b w)

-- the word is the mark, or a reference that names a type
abbrev pub NamesOrMark : List Ty → ℕ → Type 0
NamesOrMark ts w = (c : Case) × (case_of ts w ≡ some c)

-- what is made of parts has them

made_of : {A B : Type 0} (f : A → B) (o : Option A) (b : B) → map_option f o ≡ some b → (a : A) × (o ≡ some a)
made_of f none b e = impossible (cc)
made_of f (some a) b e = (a, refl)

made_of_two : {A B C : Type 0} (f : A → B → C) (o : Option A) (q : Option B) (c : C) → map_option2 f o q ≡ some c → (a : A) × (b : B) × (o ≡ some a) × (q ≡ some b)
made_of_two f none q c e = impossible (cc)
made_of_two f (some a) q c e = let r = made_of (f a) q c e in (a, r.0, refl, r.1)

module _ (ts : List Ty) where
  reference_named : (w : ℕ) (t : Ty) → reference ts w ≡ some t → NamesOrMark ts w
  unfolding case_of
  reference_named w t e = rw e (go (eqb w mark))
    where
      go : (b : Bool) → (c : Case) × (cond b (some bare) (some (holding t)) ≡ some c)
      go true = (bare, refl)
      go false = (holding t, refl)

  -- a word that is not there names Bool
  pair_named : (b : List ℕ) → NamesOrMark ts (get_or b 0 0) → NamesOrMark ts (get_or b 1 0) → Every (NamesOrMark ts) (take 2 b)
  pair_named [] v w = tt
  pair_named (x ∷ []) v w = (v, tt)
  pair_named (x ∷ y ∷ b) v w = (v, (w, tt))

  one_named : (b : List ℕ) → NamesOrMark ts (get_or b 0 0) → Every (NamesOrMark ts) (take 1 b)
  one_named [] w = tt
  one_named (x ∷ b) w = (w, tt)

  members_named : (ws : List ℕ) (us : Members) → members_of ts ws ≡ some us → Every (NamesOrMark ts) ws
  unfolding members_of
  members_named [] us e = tt
  members_named (w ∷ ws) us e =
      let r = made_of_two ◌◂◌ (reference ts w) (members_of ts ws) us e in
      (reference_named w r.0 r.2, members_named ws r.1 r.3)

  cases_named : (ws : List ℕ) (cs : Cases) → cases_of ts ws ≡ some cs → Every (NamesOrMark ts) ws
  unfolding cases_of
  cases_named [] cs e = tt
  cases_named (w ∷ ws) cs e =
      let r = made_of_two ◌▸◌ (case_of ts w) (cases_of ts ws) cs e in
      ((r.0, r.2), cases_named ws r.1 r.3)

  -- so every reference of a body that defines a type names one, or is the mark
  pub body_named : (k : Kind) (b : List ℕ) (t : Ty) → type_of ts k b ≡ some t → Every (NamesOrMark ts) (references_of (shape_of k) b)
  unfolding type_of
  body_named k_record b t e = let r = made_of record_of (members_of ts (drop 1 b)) t e in members_named (drop 1 b) r.0 r.1
  body_named k_variant b t e = let r = made_of variant_of (cases_of ts (drop 1 b)) t e in cases_named (drop 1 b) r.0 r.1
  body_named k_list b t e = let r = made_of list_of (reference ts (get_or b 0 0)) t e in one_named b (reference_named _ r.0 r.1)
  body_named k_tuple b t e = let r = made_of tuple_of (members_of ts (drop 1 b)) t e in members_named (drop 1 b) r.0 r.1
  body_named k_map b t e =
      let r = made_of_two map_of (reference ts (get_or b 0 0)) (reference ts (get_or b 1 0)) t e in
      pair_named b (reference_named _ r.0 r.2) (reference_named _ r.1 r.3)
  body_named k_flags b t e = tt
  body_named k_enum b t e = tt
  body_named k_option b t e = let r = made_of option_of (reference ts (get_or b 0 0)) t e in one_named b (reference_named _ r.0 r.1)
  body_named k_result b t e =
      let r = made_of_two result_of (case_of ts (get_or b 0 0)) (case_of ts (get_or b 1 0)) t e in
      pair_named b (r.0, r.2) (r.1, r.3)
  body_named k_fixed b t e = let r = made_of (λ u. fixed_of u (get_or b 1 0)) (reference ts (get_or b 0 0)) t e in one_named b (reference_named _ r.0 r.1)
