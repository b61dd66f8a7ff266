-- One list read by `gather` and two by `gather_two` are those of canon's questions.
use mathlib.Core.Path.{◌≡◌, refl, ap}
use mathlib.Core.Bool.{Bool, true, false, cond, ◌||◌}
use mathlib.Core.List.{List}
use mathlib.Core.Option.{Option}
use Prim.Native.Nat.{ℕ, ◌≤◌, ◌<◌}
use lib.Dec.{eqb}
use lib.ListN.{length}
use borrow.Author.Tests.{le-ltb, lt-ltb}
use Rattle.canon.specs.Answer.{Answer, ok, refused, then, unless, too_long, bad_count, bad_row}
use Rattle.canon.specs.Layout.{Memory, mem32}
use Rattle.canon.specs.Pack.{Packed}
use Rattle.canon.specs.Row.{Info}
use Rattle.canon.specs.Signature.{flat_all, at_most, flatten_answer, Signature, async_start_answer, async_return_answer}
use Rattle.canon.specs.Functype.{functype_answer}
use Rattle.canon.specs.Types.{Core}
use Rattle.canon.specs.Question.{read, infos, too_many, no_table, ask, ask_two, any_borrow, borrow_answer}
use Rattle.canon.proofs.Tests.{impossible}
use Rattle.questions.specs.Gathers.{Together, together, gather_answer, Two, together_two, gather_two_answer}
use Rattle.flat_types.specs.Lists.{unpacked, packed}
use Rattle.signature.proofs.Maxima.{whole_packed, at_most_packed, start_packed, return_packed, functype_packed}
use Rattle.signature.specs.Means.{side_means, context_means, question_answer}
use Rattle.signature.specs.Packs.{packed_flat, packed_flattened, PackedSignature, packed_signature, packed_answer, bad_maximum}
use Rattle.signature.proofs.Questions.{first_memory, second_memory, made_of}
use Rattle.signature.specs.declared.question.SignatureQuestion.{SignatureQuestion}
use Rattle.signature.specs.declared.question.SignatureQuestion.TheVariants as question

-- One list

abbrev refusal : ℕ → Answer (Option Packed)
refusal x = refused x 0

module _ (m : Memory) (max : ℕ) (t : List ℕ) (n : ℕ) (ws : List ℕ) where
  -- a list that was gathered is within the maximum where its words are
  pub flatten_gathered :
      max ≤ 16 → packed_flattened (flatten_answer m max t n ws) ≡ then (gather_answer m t n ws) (λ g. ok (packed_flat (at_most max (unpacked g.flat))))
  unfolding gather_answer flatten_answer ask unless then
  flatten_gathered small = rw (le-ltb 16 max small) (go (too_many ws) (no_table t n) (infos (read t n) 0 ws))
    where
      go :
          (b c : Bool) (a : Answer (List Info)) →
          packed_flattened (unless b too_long (unless c bad_row (then a (λ is'. ok (at_most max (flat_all m is'))))))
          ≡ then (unless b too_long (unless c bad_row (then a (λ is'. ok (together m is'))))) (λ g. ok (packed_flat (at_most max (unpacked g.flat))))
      go true c a = refl
      go false true a = refl
      go false false (ok is') = rw (at_most_packed max (flat_all m is') small)
      go false false (refused x p) = refl

  -- so the answer's refusal is the gathering's, and its value is what the maximum leaves of the list
  pub flatten_refused : (x p : ℕ) → max ≤ 16 → refused x p ≡ gather_answer m t n ws → refused x p ≡ packed_flattened (flatten_answer m max t n ws)
  unfolding then
  flatten_refused x p small e = rw (flatten_gathered small, ← e)

  pub flatten_given :
      (g : Together) (o : Option Packed) → max ≤ 16 → ok g ≡ gather_answer m t n ws → o ≡ packed_flat (at_most max (unpacked g.flat)) →
      ok o ≡ packed_flattened (flatten_answer m max t n ws)
  unfolding then
  flatten_given g o small e h = rw (flatten_gathered small, ← e, h)

  pub maximum_bad : 16 < max → refused (bad_maximum t n ws) 0 ≡ packed_flattened (flatten_answer m max t n ws)
  unfolding bad_maximum flatten_answer ask unless then
  maximum_bad large = rw (lt-ltb 16 max large) (go (too_many ws) (no_table t n))
    where
      go : (b c : Bool) → refusal (cond b too_long (cond c bad_row bad_count)) ≡ packed_flattened (unless b too_long (unless c bad_row (refused bad_count 0)))
      go true c = refl
      go false true = refl
      go false false = refl

-- the words that were gathered are those of a list
pub gathered_whole : (m : Memory) (t : List ℕ) (n : ℕ) (ws : List ℕ) (g : Together) → ok g ≡ gather_answer m t n ws → g.flat ≡ packed (unpacked g.flat)
unfolding gather_answer unless then
gathered_whole m t n ws g e = go (too_many ws) (no_table t n) (infos (read t n) 0 ws) e
  where
    go :
        (b c : Bool) (a : Answer (List Info)) → ok g ≡ unless b too_long (unless c bad_row (then a (λ is'. ok (together m is')))) →
        g.flat ≡ packed (unpacked g.flat)
    go true c a e = impossible (cc)
    go false true a e = impossible (cc)
    go false false (ok is') e = let q : g ≡ together m is' = cc in whole_packed (flat_all m is') g.flat (ap (λ (x : Together). x.flat) q)
    go false false (refused x p) e = impossible (cc)

-- whether a Borrow is reached is what was gathered of it
pub borrow_gathered : (m : Memory) (t : List ℕ) (n : ℕ) (ws : List ℕ) → borrow_answer t n ws ≡ then (gather_answer m t n ws) (λ g. ok g.borrow)
unfolding borrow_answer ask gather_answer unless then
borrow_gathered m t n ws = go (too_many ws) (no_table t n) (infos (read t n) 0 ws)
  where
    go :
        (b c : Bool) (a : Answer (List Info)) →
        unless b too_long (unless c bad_row (then a (λ is'. ok (any_borrow is'))))
        ≡ then (unless b too_long (unless c bad_row (then a (λ is'. ok (together m is'))))) (λ g. ok g.borrow)
    go true c a = refl
    go false true a = refl
    go false false (ok is') = refl
    go false false (refused x p) = refl

pub borrow_refused : (t : List ℕ) (n : ℕ) (ws : List ℕ) (x p : ℕ) → refused x p ≡ gather_answer mem32 t n ws → refused x p ≡ borrow_answer t n ws
unfolding then
borrow_refused t n ws x p e = rw (borrow_gathered mem32 t n ws, ← e)

pub borrow_given : (t : List ℕ) (n : ℕ) (ws : List ℕ) (g : Together) → ok g ≡ gather_answer mem32 t n ws → ok g.borrow ≡ borrow_answer t n ws
unfolding then
borrow_given t n ws g e = rw (borrow_gathered mem32 t n ws, ← e)

-- Two lists

module _ (t : List ℕ) (n : ℕ) (a b : Memory) (vs ws : List ℕ) where
  -- a signature that is the same of the lists and of what their words stand for
  pub two_signature :
      (k : Option (List Core) → Option (List Core) → Signature) →
      ((o q : Option (List Core)) → k (unpacked (packed o)) (unpacked (packed q)) ≡ k o q) →
      packed_answer (ask_two t n vs ws (λ is' js. ok (k (flat_all a is') (flat_all b js))))
      ≡ then (gather_two_answer t n a vs b ws) (λ l. ok (packed_signature (k (unpacked l.first.flat) (unpacked l.second.flat))))
  unfolding ask_two unless then
  two_signature k h = go (too_many vs || too_many ws) (no_table t n) (infos (read t n) 0 vs) (infos (read t n) (length vs) ws)
    where
      go :
          (c d : Bool) (p q : Answer (List Info)) →
          packed_answer (unless c too_long (unless d bad_row (then p (λ is'. then q (λ js. ok (k (flat_all a is') (flat_all b js)))))))
          ≡ then (unless c too_long (unless d bad_row (then p (λ is'. then q (λ js. ok (together_two a is' b js))))))
          (λ l. ok (packed_signature (k (unpacked l.first.flat) (unpacked l.second.flat))))
      go true d p q = refl
      go false true p q = refl
      go false false (refused x r) q = refl
      go false false (ok is') (refused x r) = refl
      go false false (ok is') (ok js) = rw (h (flat_all a is') (flat_all b js))

  module _ (k : Option (List Core) → Option (List Core) → Signature) (same : (o q : Option (List Core)) → k (unpacked (packed o)) (unpacked (packed q)) ≡ k o q) where
    -- so the answer's refusal is the gathering's, and its value is made of what was gathered
    pub two_refused :
        (x p : ℕ) → refused x p ≡ gather_two_answer t n a vs b ws → refused x p ≡ packed_answer (ask_two t n vs ws (λ is' js. ok (k (flat_all a is') (flat_all b js))))
    unfolding then
    two_refused x p e = rw (two_signature k same, ← e)

    pub two_given :
        (l : Two) (s : PackedSignature) → ok l ≡ gather_two_answer t n a vs b ws → s ≡ packed_signature (k (unpacked l.first.flat) (unpacked l.second.flat)) →
        ok s ≡ packed_answer (ask_two t n vs ws (λ is' js. ok (k (flat_all a is') (flat_all b js))))
    unfolding then
    two_given l s e h = rw (two_signature k same, ← e, h)

  pub two_whole :
      (l : Two) → ok l ≡ gather_two_answer t n a vs b ws →
      (l.first.flat ≡ packed (unpacked l.first.flat)) × (l.second.flat ≡ packed (unpacked l.second.flat))
  unfolding ask_two unless then
  two_whole l e = go (too_many vs || too_many ws) (no_table t n) (infos (read t n) 0 vs) (infos (read t n) (length vs) ws) e
    where
      go :
          (c d : Bool) (p q : Answer (List Info)) →
          ok l ≡ unless c too_long (unless d bad_row (then p (λ is'. then q (λ js. ok (together_two a is' b js))))) →
          (l.first.flat ≡ packed (unpacked l.first.flat)) × (l.second.flat ≡ packed (unpacked l.second.flat))
      go true d p q e = impossible (cc)
      go false true p q e = impossible (cc)
      go false false (refused x r) q e = impossible (cc)
      go false false (ok is') (refused x r) e = impossible (cc)
      go false false (ok is') (ok js) e =
          let f : l ≡ together_two a is' b js = cc in (
            whole_packed (flat_all a is') l.first.flat (ap (λ (x : Two). x.first.flat) f),
            whole_packed (flat_all b js) l.second.flat (ap (λ (x : Two). x.second.flat) f),
          )

-- A question as a value

pub question_two :
    (x : SignatureQuestion) (t : List ℕ) (n : ℕ) (vs ws : List ℕ) →
    question_answer x t n vs ws ≡ ask_two t n vs ws (λ is' js. ok (made_of x (flat_all (first_memory x) is') (flat_all (second_memory x) js) (eqb (length ws) 0)))
unfolding async_start_answer async_return_answer functype_answer
question_two (question.AsyncStart lower lift) t n vs ws = refl
question_two (question.AsyncReturn lift lower) t n vs ws = refl
question_two (question.Functype c s callback) t n vs ws = refl

-- what is made of two lists is made of their words
pub made_packed :
    (x : SignatureQuestion) (is_empty : Bool) (o q : Option (List Core)) → made_of x (unpacked (packed o)) (unpacked (packed q)) is_empty ≡ made_of x o q is_empty
made_packed (question.AsyncStart lower lift) is_empty o q = start_packed (side_means lower) (side_means lift) o q
made_packed (question.AsyncReturn lift lower) is_empty o q = return_packed (side_means lift) (side_means lower) is_empty o q
made_packed (question.Functype c s callback) is_empty o q = functype_packed (context_means c) (side_means s) callback o q
