-- A fold over references to types is the fold over the types' own infos, or the refusal of a bad reference.
use mathlib.Core.Path.{◌≡◌, refl, ◌∙◌}
use mathlib.Core.Bool.{Bool, true, false, cond}
use mathlib.Core.List.{List, [], ◌∷◌}
use mathlib.Core.Option.{Option, none, some}
use Prim.Native.Nat.{ℕ}
use lib.Dec.{eqb}
use Rattle.canon.specs.Answer.{Leaf, is, no as refuses, map_option, map_option2, bad_ref, and_then}
use Rattle.canon.specs.Types.{Ty, Members, ∅, ◌◂◌, Case, bare, holding, Cases, ∎, ◌▸◌}
use Rattle.canon.specs.Row.{Info, info_of}
use Rattle.canon.specs.Description.{mark, reference, case_of, members_of, cases_of}
use Rattle.canon.specs.Question.{plain_info}
use Rattle.canon.proofs.Built.{type_info}
use Rattle.build.specs.Steps.{case_look, fold_refs, MembersIs, add_member, with_member, PayloadsIs, add_if_payload, with_case}

-- what is missing is a bad reference
abbrev pub or_bad : {A B : Type 0} → Option A → (A → Leaf B) → Leaf B
or_bad none k = refuses bad_ref
or_bad (some a) k = k a

abbrev pub fold_members : {S : Type 0} → (S → Info → S) → S → Members → S
fold_members step s ∅ = s
fold_members step s (t ◂ us) = fold_members step (step s (info_of t)) us

abbrev pub case_info : Case → Option Info
case_info bare = none
case_info (holding t) = some (info_of t)

abbrev pub fold_cases : {S : Type 0} → (S → Option Info → S) → S → Cases → S
fold_cases step s ∎ = s
fold_cases step s (c ▸ cs) = fold_cases step (step s (case_info c)) cs

-- one reference
pub one_look : {B : Type 0} (ts : List Ty) (w : ℕ) (k : Info → Leaf B) → and_then (type_info ts w) k ≡ or_bad (reference ts w) (λ t. k (info_of t))
unfolding and_then plain_info
one_look ts w k = go (reference ts w)
  where
    go : (o : Option Ty) → and_then (plain_info o) k ≡ or_bad o (λ t. k (info_of t))
    go none = refl
    go (some t) = refl

one_case : {B : Type 0} (ts : List Ty) (w : ℕ) (k : Option Info → Leaf B) → and_then (case_look (type_info ts) w) k ≡ or_bad (case_of ts w) (λ c. k (case_info c))
unfolding and_then plain_info case_look case_of
one_case ts w k = go (eqb w mark) (reference ts w)
  where
    go : (b : Bool) (o : Option Ty) → and_then (cond b (is none) (and_then (plain_info o) (λ i. is (some i)))) k ≡ or_bad (cond b (some bare) (map_option holding o)) (λ c. k (case_info c))
    go true o = refl
    go false none = refl
    go false (some t) = refl

-- one more in front
or_bad_cons :
    {A B C D : Type 0} (f : A → B → C) (o : Option A) (q : Option B) (k : C → Leaf D) →
    or_bad o (λ a. or_bad q (λ b. k (f a b))) ≡ or_bad (map_option2 f o q) k
or_bad_cons f none q k = refl
or_bad_cons f (some a) none k = refl
or_bad_cons f (some a) (some b) k = refl

pub or_bad_eq : {A B : Type 0} (o : Option A) (k l : A → Leaf B) → ((a : A) → k a ≡ l a) → or_bad o k ≡ or_bad o l
or_bad_eq none k l e = refl
or_bad_eq (some a) k l e = e a

-- one more reference, then the others
next_look :
    {A S B : Type 0} (l : Leaf A) (step : A → S) (rest : S → Leaf S) (k : S → Leaf B) →
    and_then (and_then (and_then l (λ a. is (step a))) rest) k ≡ and_then l (λ a. and_then (rest (step a)) k)
unfolding and_then
next_look (is a) step rest k = refl
next_look (refuses x) step rest k = refl

pub fold_members_lem :
    {B : Type 0} (ts : List Ty) (k : MembersIs → Leaf B) (ws : List ℕ) (s : MembersIs) →
    and_then (fold_refs (with_member (type_info ts)) ws s) k ≡ or_bad (members_of ts ws) (λ us. k (fold_members add_member s us))
unfolding fold_refs members_of and_then
fold_members_lem ts k [] s = refl
fold_members_lem ts k (w ∷ ws) s =
    next_look (type_info ts w) (add_member s) (fold_refs (with_member (type_info ts)) ws) k
    ∙ one_look ts w (λ i. and_then (fold_refs (with_member (type_info ts)) ws (add_member s i)) k)
    ∙ or_bad_eq (reference ts w) _ _ (λ t. fold_members_lem ts k ws (add_member s (info_of t)))
    ∙ or_bad_cons ◌◂◌ (reference ts w) (members_of ts ws) (λ us. k (fold_members add_member s us))

pub fold_cases_lem :
    {B : Type 0} (ts : List Ty) (k : PayloadsIs → Leaf B) (ws : List ℕ) (s : PayloadsIs) →
    and_then (fold_refs (with_case (type_info ts)) ws s) k ≡ or_bad (cases_of ts ws) (λ cs. k (fold_cases add_if_payload s cs))
unfolding fold_refs cases_of and_then
fold_cases_lem ts k [] s = refl
fold_cases_lem ts k (w ∷ ws) s =
    next_look (case_look (type_info ts) w) (add_if_payload s) (fold_refs (with_case (type_info ts)) ws) k
    ∙ one_case ts w (λ i. and_then (fold_refs (with_case (type_info ts)) ws (add_if_payload s i)) k)
    ∙ or_bad_eq (case_of ts w) _ _ (λ c. fold_cases_lem ts k ws (add_if_payload s (case_info c)))
    ∙ or_bad_cons ◌▸◌ (case_of ts w) (cases_of ts ws) (λ cs. k (fold_cases add_if_payload s cs))
