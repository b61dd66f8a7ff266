-- No list among canon's answers has more than 17 types, and no placement an alignment above 8, a size that is too large or 8 bytes after its last member.
use mathlib.Core.Path.{◌≡◌, refl, sym, ap, ◌∙◌}
use mathlib.Core.Bool.{Bool, true, false, cond, ◌||◌}
use mathlib.Core.List.{List, [], ◌∷◌}
use mathlib.Core.Option.{Option, none, some}
use Prim.Native.Nat.{ℕ, ◌≤◌}
use native.Mathlib.Nat.{lt_of_lt_of_le, pow-le-pow_right}
use native.Mathlib.Omega.{arith}
use lib.Dec.{leb, ltb, lit≤, eqb}
use lib.ListN.{length, length-append}
use borrow.Author.Tests.{leb-true, ltb-false}
use Rattle.canon.specs.Answer.{Answer, ok, refused, then, unless, too_long, bad_count, no_room, bad_row}
use Rattle.canon.specs.Flat.{ptr_type}
use Rattle.canon.specs.Layout.{Memory}
use Rattle.canon.specs.Row.{Info}
use Rattle.canon.specs.Question.{read, infos, too_many, no_table, ask, ask_two, Placing, placing, placement_answer, layouts_in}
use Rattle.canon.specs.Signature.{listed, in_memory, flat_all, at_most, flatten_answer, Side, lifting_max, params_max, start_of, async_start_answer, behind_pointer, list_or_none, returned, return_of, async_return_answer}
use Rattle.canon.specs.Functype.{Context, functype_answer}
use Rattle.canon.specs.Gaps.{Padded, padding, after_answer}
use Rattle.canon.specs.Types.{Core}
use Rattle.canon.proofs.Packing.{pack_lt}
use Rattle.canon.proofs.Questions.{infos_aligned, placing_reads, placing_starts}
use Rattle.canon.proofs.Signatures.{maximum_small, kept_short, or_pointer_short, functype_short}
use Rattle.canon.proofs.Refusals.{placed_is}
use Rattle.canon.proofs.Gaps.{after_below, padding_gaps}
use Rattle.canon.proofs.Tightest.{greatest_align_alignment}
use Rattle.types.proofs.RoundLaws.{alignment_most}
use Rattle.signature.specs.Packs.{packed_list, packed_flat, packed_flattened, packed_signature, packed_answer}
use Rattle.signature.specs.Means.{context_means, side_means, question_answer}
use Rattle.signature.specs.declared.question.SignatureQuestion.{SignatureQuestion}
use Rattle.signature.specs.declared.question.SignatureQuestion.TheVariants as question
use Rattle.host.specs.Short.{ShortList, ShortFlat, ShortSignature, ShortLayout, ShortGap, IfAnswered}

-- Whatever a question answers

then_answers : {A B : Type 0} (P : B → Type 0) (a : Answer A) (f : A → B) → IfAnswered (λ x. P (f x)) a → IfAnswered P (then a (λ x. ok (f x)))
unfolding then
then_answers P (ok a) f h = h
then_answers P (refused x i) f h = tt

module _ {A : Type 0} (P : A → Type 0) where
  unless_answers : (b : Bool) (x : ℕ) (a : Answer A) → (b ≡ false → IfAnswered P a) → IfAnswered P (unless b x a)
  unfolding unless
  unless_answers true x a h = tt
  unless_answers false x a h = h refl

  infos_answer : (a : Answer (List Info)) (k : List Info → Answer A) → ((is' : List Info) → IfAnswered P (k is')) → IfAnswered P (then a k)
  unfolding then
  infos_answer (ok is') k h = h is'
  infos_answer (refused x i) k h = tt

  ask_answers :
      (t : List ℕ) (n : ℕ) (b s : Bool) (ws : List ℕ) (k : List Info → Answer A) →
      (b ≡ false → (is' : List Info) → IfAnswered P (k is')) → IfAnswered P (ask t n b s ws k)
  unfolding ask
  ask_answers t n b s ws k h =
      unless_answers (too_many ws) too_long _
      (λ _. unless_answers (no_table t n) bad_row _
      (λ _. unless_answers b bad_count _ (λ e. unless_answers s no_room _ (λ _. infos_answer (infos (read t n) 0 ws) k (h e)))))

  ask_two_answers :
      (t : List ℕ) (n : ℕ) (vs ws : List ℕ) (k : List Info → List Info → Answer A) →
      ((is' js : List Info) → IfAnswered P (k is' js)) → IfAnswered P (ask_two t n vs ws k)
  unfolding ask_two
  ask_two_answers t n vs ws k h =
      unless_answers (too_many vs || too_many ws) too_long _
      (λ _. unless_answers (no_table t n) bad_row _
      (λ _. infos_answer (infos (read t n) 0 vs) _ (λ is'. infos_answer (infos (read t n) (length vs) ws) _ (h is'))))

-- Placements

pub placement_short : (m : Memory) (t : List ℕ) (n : ℕ) (ws : List ℕ) (room : ℕ) → IfAnswered ShortLayout (placement_answer m t n ws room)
unfolding placement_answer
placement_short m t n ws room = then_answers ShortLayout (placing m t n ws room) (λ p. p.layout) (go (placing m t n ws room) refl)
  where
    go : (a : Answer Placing) → placing m t n ws room ≡ a → IfAnswered (λ p. ShortLayout p.layout) a
    go (refused x i) e = tt
    go (ok p) e =
        let s = placing_starts m t n ws room p e in
        let aligned = infos_aligned m t n 0 ws s.0 s.1.gives in
        let same = placed_is (layouts_in m s.0) p aligned (sym (placing_reads m s.1) ∙ e) in
        rw (← same.0) (alignment_most (greatest_align_alignment (layouts_in m s.0) aligned), same.1)

pub after_short : (m : Memory) (t : List ℕ) (n : ℕ) (ws : List ℕ) (room : ℕ) → IfAnswered ShortGap (after_answer m t n ws room)
unfolding after_answer
after_short m t n ws room = then_answers ShortGap (padding m t n ws room) (λ q. q.after) (go (padding m t n ws room) refl)
  where
    go : (a : Answer Padded) → padding m t n ws room ≡ a → IfAnswered (λ q. ShortGap q.after) a
    go (refused x i) e = tt
    go (ok q) e =
        let s = padding_gaps m t n ws room q e in
        let aligned = infos_aligned m t n 0 ws s.0 s.1.gives in
        let fs = layouts_in m s.0 in
        omega (arith, ap (λ (p : Padded). p.after) s.2, after_below fs aligned, alignment_most (greatest_align_alignment fs aligned))

-- Lists

short_list : (l : List Core) → length l ≤ 17 → ShortList (packed_list l)
short_list l h = (h, lt_of_lt_of_le (pack_lt l) (pow-le-pow_right (lit≤ tt) h))

short_flat : (max : ℕ) (o : Option (List Core)) → max ≤ 16 → ShortFlat (packed_flat (at_most max o))
unfolding at_most
short_flat max none h = tt
short_flat max (some l) h = go (leb (length l) max) refl
  where
    go : (b : Bool) → leb (length l) max ≡ b → ShortFlat (packed_flat (cond b (listed l) in_memory))
    go true e = short_list l (omega (arith, leb-true (length l) max e))
    go false e = tt

pub flatten_short : (m : Memory) (max : ℕ) (t : List ℕ) (n : ℕ) (ws : List ℕ) → IfAnswered ShortFlat (packed_flattened (flatten_answer m max t n ws))
unfolding flatten_answer
flatten_short m max t n ws =
    then_answers ShortFlat (flatten_answer m max t n ws) packed_flat
    (ask_answers (λ f. ShortFlat (packed_flat f)) t n (ltb 16 max) false ws _ (λ e is'. short_flat max (flat_all m is') (ltb-false 16 max e)))

-- Signatures

pub start_short :
    (t : List ℕ) (n : ℕ) (lower : Side) (vs : List ℕ) (lift : Side) (ws : List ℕ) →
    IfAnswered ShortSignature (packed_answer (async_start_answer t n lower vs lift ws))
unfolding async_start_answer start_of
start_short t n lower vs lift ws =
    then_answers ShortSignature (async_start_answer t n lower vs lift ws) packed_signature
    (ask_two_answers (λ s. ShortSignature (packed_signature s)) t n vs ws _
    (λ is' js. (
      short_list _ (omega (arith, or_pointer_short lower.memory (params_max lower.async) 16 (flat_all lower.memory is') (maximum_small lower.async 4 16 (omega arith) (omega arith)) (omega arith))),
      short_list _ (or_pointer_short lift.memory 16 17 (flat_all lift.memory js) (omega arith) (omega arith)),
    )))

returned_short :
    (m : Memory) (b : Bool) (params results : List Core) → length params ≤ 16 → length results ≤ 17 → ShortSignature (packed_signature (returned m b params results))
unfolding returned
returned_short m true params results h l = (short_list _ (omega (arith, length-append params (ptr_type m ∷ []))), short_list [] (omega arith))
returned_short m false params results h l = (short_list params (omega arith), short_list results l)

pub return_short :
    (t : List ℕ) (n : ℕ) (lift : Side) (vs : List ℕ) (lower : Side) (ws : List ℕ) →
    IfAnswered ShortSignature (packed_answer (async_return_answer t n lift vs lower ws))
unfolding async_return_answer return_of
return_short t n lift vs lower ws =
    then_answers ShortSignature (async_return_answer t n lift vs lower ws) packed_signature
    (ask_two_answers (λ s. ShortSignature (packed_signature s)) t n vs ws _
    (λ is' js.
    returned_short lift.memory (behind_pointer lower.async (eqb (length ws) 0) (at_most 1 (flat_all lower.memory js))) _ _
    (or_pointer_short lift.memory (lifting_max lift.async) 16 (flat_all lift.memory is') (maximum_small lift.async 16 1 (omega arith) (omega arith)) (omega arith))
    (kept_short list_or_none 1 17 (flat_all lower.memory js) (λ l. refl) (omega arith) (omega arith))))

pub functype_answers_short :
    (t : List ℕ) (n : ℕ) (c : Context) (s : Side) (callback : Bool) (vs ws : List ℕ) →
    IfAnswered ShortSignature (packed_answer (functype_answer t n c s callback vs ws))
unfolding functype_answer
functype_answers_short t n c s callback vs ws =
    then_answers ShortSignature (functype_answer t n c s callback vs ws) packed_signature
    (ask_two_answers (λ u. ShortSignature (packed_signature u)) t n vs ws _
    (λ is' js.
    let short = functype_short c s callback (flat_all s.memory is') (flat_all s.memory js) in
    (short_list _ short.0, short_list _ (omega (arith, short.1)))))

-- a signature that is asked for as a value
pub question_short :
    (x : SignatureQuestion) (t : List ℕ) (n : ℕ) (vs ws : List ℕ) → IfAnswered ShortSignature (packed_answer (question_answer x t n vs ws))
question_short (question.AsyncStart lower lift) t n vs ws = start_short t n (side_means lower) vs (side_means lift) ws
question_short (question.AsyncReturn lift lower) t n vs ws = return_short t n (side_means lift) vs (side_means lower) ws
question_short (question.Functype c s callback) t n vs ws = functype_answers_short t n (context_means c) (side_means s) callback vs ws
