-- The row of each kind from a body's words is canon's, where the words are there: a bad count is refused, then a bad reference, then what is too
-- deep, then what is too large.
use mathlib.Core.Path.{◌≡◌, refl, sym, ap, ◌∙◌}
use mathlib.Core.Bool.{Bool, true, false, cond}
use mathlib.Core.List.{List, [], ◌∷◌}
use mathlib.Core.Option.{Option, none, some}
use Prim.Native.Nat.{ℕ, suc, ◌+◌, ◌≤◌, ◌<◌}
use native.Mathlib.Omega.{arith}
use lib.Dec.{ltb, eqb}
use lib.ListN.{length, get_or, take, drop, length-drop}
use lib.Seq.{get_or-take, get_or-drop}
use borrow.Author.Tests.{ltb-true, lt-leb}
use Rattle.canon.specs.Answer.{Leaf, no, map_option, map_option2, bad_count, and_then}
use Rattle.canon.specs.Types.{Ty, variant_of, list_of, map_of, flags_of, enum_of, option_of, result_of, fixed_of, Members, Case, Cases, ∎, ◌▸◌, count}
use Rattle.canon.specs.Types.{Kind, k_record, k_variant, k_list, k_tuple, k_map, k_flags, k_enum, k_option, k_result, k_fixed}
use Rattle.canon.specs.Layout.{discriminant, most_flags}
use Rattle.canon.specs.Row.{info_of, row_kind}
use Rattle.canon.specs.Description.{
  reference,
  case_of,
  members_of,
  cases_of,
  is_bad_count,
  type_of,
  checked,
}
use Rattle.canon.proofs.Tests.{impossible}
use Rattle.canon.proofs.Built.{type_info}
use Rattle.types.specs.Leaves.{given, flags_answer}
use Rattle.canon.proofs.Refusals.{Product, a_record, a_tuple}
use Rattle.build.specs.Steps.{fold_refs, no_members, with_member, members_row, no_payloads, add_if_payload, payloads_row}
use Rattle.canon.specs.Description.{counted, fixed, shape_of, body_length}
use Rattle.head.specs.Heads.{before, many, between}
use Rattle.head.proofs.Laws.{between_length, shape_references}
use Rattle.build.specs.Kinds.{list_row, fixed_row, flags_row, variant_row, enum_row, option_row, entry_row, map_row, row_of_kind}
use Rattle.build.proofs.FitLaws.{row_leaf}
use Rattle.build.proofs.FoldLaws.{or_bad, or_bad_eq, fold_cases, one_look, fold_members_lem, fold_cases_lem}
use Rattle.build.proofs.MemberLaws.{product_row}
use Rattle.build.proofs.CaseLaws.{variant_cased, enum_cased, option_cased, result_cased, cased_row, discriminant_is, discriminant_none}
use Rattle.build.proofs.ElementLaws.{list_row_lem, fixed_row_lem, flags_row_lem, map_row_lem}

-- The type that the references make, kind by kind

made : {A : Type 0} (f : A → Ty) (o : Option A) (k : A → Leaf (List ℕ)) (n : ℕ) → ((a : A) → k a ≡ row_leaf (checked n (some (f a)))) → or_bad o k ≡ row_leaf (checked n (map_option f o))
unfolding checked
made f none k n e = refl
made f (some a) k n e = e a

made2 :
    {A B : Type 0} (f : A → B → Ty) (o : Option A) (q : Option B) (k : A → B → Leaf (List ℕ)) (n : ℕ) →
    ((a : A) (b : B) → k a b ≡ row_leaf (checked n (some (f a b)))) →
    or_bad o (λ a. or_bad q (k a)) ≡ row_leaf (checked n (map_option2 f o q))
unfolding checked
made2 f none q k n e = refl
made2 f (some a) q k n e = made (f a) q (k a) n (e a)

-- a bad count is refused before anything else
judged : (b : Bool) {l r : Leaf (List ℕ)} → (b ≡ true → l ≡ no bad_count) → (b ≡ false → l ≡ r) → l ≡ cond b (no bad_count) r
judged true bad good = bad refl
judged false bad good = good refl

enum : (c n : ℕ) → enum_row c ≡ cond (eqb c 0) (no bad_count) (row_leaf (checked n (some (enum_of c))))
unfolding enum_row and_then
enum c n = judged (eqb c 0) (λ h. rw (discriminant_none c h)) (λ h. rw (discriminant_is c h) (cased_row (enum_cased c) n))

flags : (c n : ℕ) → flags_row c ≡ cond (ltb most_flags c) (no bad_count) (row_leaf (checked n (some (flags_of c))))
unfolding flags_row flags_answer given and_then
flags c n = judged (ltb most_flags c) (λ h. rw (lt-leb c most_flags (ltb-true most_flags c h))) (flags_row_lem c n)

module _ (ts : List Ty) where
  product : {k : Kind} {type : Members → Ty} → Product k type → (ws : List ℕ) (kind n : ℕ) → ((us : Members) → row_kind (type us) ≡ kind) →
      and_then (fold_refs (with_member (type_info ts)) ws no_members) (members_row kind) ≡ row_leaf (checked n (map_option type (members_of ts ws)))
  product {type = type} p ws kind n e =
      fold_members_lem ts (members_row kind) ws no_members
      ∙ made type (members_of ts ws) _ n (λ us. rw (← (e us)) (product_row p us n))

  count_cases : (ws : List ℕ) (cs : Cases) → cases_of ts ws ≡ some cs → count cs ≡ length ws
  unfolding cases_of
  count_cases [] cs e = let p : ∎ ≡ cs = cc in rw (← p)
  count_cases (w ∷ ws) cs e = go (case_of ts w) (cases_of ts ws) (λ ds. count_cases ws ds) e
    where
      go : (o : Option Case) (q : Option Cases) → ((ds : Cases) → q ≡ some ds → count ds ≡ length ws) → map_option2 ◌▸◌ o q ≡ some cs → count cs ≡ suc (length ws)
      go none q h e = impossible (cc)
      go (some c) none h e = impossible (cc)
      go (some c) (some ds) h e = let p : c ▸ ds ≡ cs = cc in rw (← p) (ap suc (h ds refl))

  variant : (ws : List ℕ) (n : ℕ) → variant_row 2 (type_info ts) ws ≡ cond (eqb (length ws) 0) (no bad_count) (row_leaf (checked n (map_option variant_of (cases_of ts ws))))
  unfolding variant_row and_then checked
  variant ws n =
      judged (eqb (length ws) 0)
      (λ h. rw (discriminant_none (length ws) h))
      (λ h. rw (discriminant_is (length ws) h) (fold_cases_lem ts (payloads_row 2 (discriminant (length ws))) ws no_payloads ∙ go (cases_of ts ws) refl))
    where
      go : (o : Option Cases) → cases_of ts ws ≡ o → or_bad o (λ cs. payloads_row 2 (discriminant (length ws)) (fold_cases add_if_payload no_payloads cs)) ≡ row_leaf (checked n (map_option variant_of o))
      go none e = refl
      go (some cs) e = rw (← (count_cases ws cs e)) (cased_row (variant_cased cs) n)

  option : (w n : ℕ) → and_then (type_info ts w) option_row ≡ row_leaf (checked n (map_option option_of (reference ts w)))
  unfolding option_row add_if_payload
  option w n = one_look ts w option_row ∙ made option_of (reference ts w) _ n (λ t. cased_row (option_cased t) n)

  result : (v w n : ℕ) →
      variant_row 9 (type_info ts) (v ∷ w ∷ []) ≡ row_leaf (checked n (map_option2 result_of (case_of ts v) (case_of ts w)))
  unfolding variant_row and_then cases_of checked
  result v w n =
      rw (discriminant_is 2 refl) (fold_cases_lem ts (payloads_row 9 1) (v ∷ w ∷ []) no_payloads ∙ go (case_of ts v) (case_of ts w))
    where
      go : (o q : Option Case) → or_bad (map_option2 ◌▸◌ o (map_option2 ◌▸◌ q (some ∎))) (λ cs. payloads_row 9 1 (fold_cases add_if_payload no_payloads cs)) ≡ row_leaf (checked n (map_option2 result_of o q))
      go none q = refl
      go (some ok) none = refl
      go (some ok) (some err) = cased_row (result_cased ok err) n

  listed : (w n : ℕ) → and_then (type_info ts w) list_row ≡ row_leaf (checked n (map_option list_of (reference ts w)))
  listed w n = one_look ts w list_row ∙ made list_of (reference ts w) _ n (λ t. list_row_lem t n)

  fixed_list : (w c n : ℕ) → and_then (type_info ts w) (fixed_row c) ≡ row_leaf (checked n (map_option (λ t. fixed_of t c) (reference ts w)))
  fixed_list w c n = one_look ts w (fixed_row c) ∙ made (λ t. fixed_of t c) (reference ts w) _ n (λ t. fixed_row_lem t c n)

  mapped : (v w n : ℕ) → map_row (type_info ts) v w ≡ row_leaf (checked n (map_option2 map_of (reference ts v) (reference ts w)))
  unfolding map_row
  mapped v w n =
      one_look ts v (λ a. and_then (type_info ts w) (λ b. entry_row a b))
      ∙ or_bad_eq (reference ts v) _ _ (λ t. one_look ts w (entry_row (info_of t)))
      ∙ made2 map_of (reference ts v) (reference ts w) (λ k v. entry_row (info_of k) (info_of v)) n (λ k v. map_row_lem k v n)

-- The words of a body

references_length : (ws : List ℕ) (first n : ℕ) → first + n ≤ length ws → length (between ws first (first + n)) ≡ n
references_length ws first n h = between_length ws first (first + n) h ∙ omega arith

-- the word behind a number of others, as the body's
body_word : (ws : List ℕ) (from n i p : ℕ) → p ≡ from + i → i < n → get_or ws p 0 ≡ get_or (take n (drop from ws)) i 0
body_word ws from n i p e h = ap (λ (x : ℕ). get_or ws x 0) e ∙ sym (get_or-take n (drop from ws) i 0 h ∙ get_or-drop from ws i 0)

first : (ws : List ℕ) (from : ℕ) → get_or ws from 0 ≡ get_or (take 1 (drop from ws)) 0 0
first ws from = body_word ws from 1 0 from (omega arith) (omega arith)

second : (ws : List ℕ) (from : ℕ) → get_or ws (from + 0 + 1) 0 ≡ get_or (take 2 (drop from ws)) 1 0
second ws from = body_word ws from 2 1 (from + 0 + 1) (omega arith) (omega arith)

two : (l : List ℕ) → 2 ≤ length l → take 2 (take 2 l) ≡ get_or (take 2 l) 0 0 ∷ get_or (take 2 l) 1 0 ∷ []
two [] h = absurd (omega arith)
two (x ∷ []) h = absurd (omega arith)
two (x ∷ y ∷ l) h = refl

-- the references of a body with so many, and so many numbers behind them
module _ (ws : List ℕ) (from n : ℕ) where
  reference_at : (r k i : ℕ) → i < r → get_or (between ws (from + 0) (from + 0 + r)) i 0 ≡ get_or (take (r + k) (drop from ws)) i 0
  reference_at r k i h = ap (λ (l : List ℕ). get_or l i 0) (shape_references (fixed r k) ws from n) ∙ get_or-take r (take (r + k) (drop from ws)) i 0 h

pub kind_row_lem :
    (ts : List Ty) (k : Kind) (ws : List ℕ) (from n len : ℕ) →
    n ≡ get_or ws from 0 →
    from + body_length (shape_of k) n ≤ length ws →
    row_of_kind (type_info ts) k n (between ws (from + before (shape_of k)) (from + before (shape_of k) + many (shape_of k) n)) (get_or ws (from + before (shape_of k) + many (shape_of k) n) 0)
    ≡ cond (is_bad_count k n) (no bad_count) (row_leaf (checked len (type_of ts k (take (body_length (shape_of k) n) (drop from ws)))))
unfolding row_of_kind type_of
kind_row_lem ts k_record ws from n len e h = rw (shape_references counted ws from n) (product ts a_record _ 1 len (λ us. refl))
kind_row_lem ts k_variant ws from n len e h =
    rw (← (shape_references counted ws from n))
    (variant ts (between ws (from + 1) (from + 1 + n)) len
    ∙ ap (λ (l : ℕ). cond (eqb l 0) (no bad_count) (row_leaf (checked len (map_option variant_of (cases_of ts (between ws (from + 1) (from + 1 + n))))))) (references_length ws (from + 1) n (omega arith)))
kind_row_lem ts k_list ws from n len e h = rw (reference_at ws from n 1 0 0 (omega arith)) (listed ts _ len)
kind_row_lem ts k_tuple ws from n len e h = rw (shape_references counted ws from n) (product ts a_tuple _ 4 len (λ us. refl))
kind_row_lem ts k_map ws from n len e h = rw (reference_at ws from n 2 0 0 (omega arith), reference_at ws from n 2 0 1 (omega arith)) (mapped ts _ _ len)
kind_row_lem ts k_flags ws from n len e h = rw (← (first ws from), ← e) (flags n len)
kind_row_lem ts k_enum ws from n len e h = rw (← (first ws from), ← e) (enum n len)
kind_row_lem ts k_option ws from n len e h = rw (reference_at ws from n 1 0 0 (omega arith)) (option ts _ len)
kind_row_lem ts k_result ws from n len e h =
    rw (shape_references (fixed 2 0) ws from n, two (drop from ws) (omega (arith, length-drop from ws))) (result ts _ _ len)
kind_row_lem ts k_fixed ws from n len e h = rw (reference_at ws from n 1 1 0 (omega arith), second ws from) (fixed_list ts _ _ len)
