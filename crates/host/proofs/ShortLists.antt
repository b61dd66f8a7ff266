-- What is asked of the picked rows by the new names is what is asked of the lent table by the references.
use mathlib.Core.Path.{◌≡◌, refl, sym, ap, ◌∙◌}
use mathlib.Core.Bool.{Bool, true, false}
use mathlib.Core.List.{List, [], ◌∷◌, ◌++◌}
use Prim.Native.Nat.{ℕ, suc, ◌≤◌, ◌<◌, min}
use native.Mathlib.Omega.{arith}
use lib.Dec.{ltb}
use lib.ListN.{length, get_or, take, drop}
use borrow.Author.Tests.{le-ltb}
use Rattle.canon.specs.Answer.{Leaf, Answer, ok, refused, then, unless, bad_row}
use Rattle.canon.specs.Row.{Info}
use Rattle.canon.specs.Table.{capacity}
use Rattle.canon.specs.Description.{most_words}
use Rattle.canon.specs.Layout.{Memory}
use Rattle.canon.specs.Question.{read, infos, too_many, no_table, ask, ask_two, type_answer, borrow_answer, layouts_in, Placing, placing, placement_answer}
use Rattle.canon.specs.Cost.{rows_among, reported, placement_reads}
use Rattle.canon.specs.Gaps.{Padded, padded, padding, lent_after, after_answer}
use Rattle.canon.specs.Signature.{flatten_answer}
use Rattle.host.specs.Numbers.{refusal_number, placement_call}
use Rattle.host.specs.Picked.{read_picked, Names}
use Rattle.host.specs.Questions.{question_number}
use Rattle.signature.proofs.Asking.{question_two}
use Rattle.canon.proofs.Questions.{placing_starts}
use Rattle.canon.proofs.Gaps.{placing_of, padding_placing}
use Rattle.canon.proofs.Costs.{infos_rows}
use Rattle.canon.proofs.Capped.{below_first, buffer_front}
use Rattle.host.specs.declared.question.Question.{Question}
use Rattle.host.specs.declared.question.Question.TheVariants as question

-- at most sixteen references are not too many
few : (ws : List ℕ) → length ws ≤ 16 → too_many ws ≡ false
few ws h = le-ltb most_words (length ws) (omega arith)

-- A table that is not there

pub ask_missing :
    {A : Type 0} (t : List ℕ) (n : ℕ) (b s : Bool) (ws : List ℕ) (k : List Info → Answer A) → length ws ≤ 16 → no_table t n ≡ true → ask t n b s ws k ≡ refused bad_row 0
unfolding ask unless
ask_missing t n b s ws k h e = rw (few ws h, e)

ask_two_missing :
    {A : Type 0} (t : List ℕ) (n : ℕ) (vs ws : List ℕ) (k : List Info → List Info → Answer A) → length vs ≤ 16 → length ws ≤ 16 → no_table t n ≡ true →
    ask_two t n vs ws k ≡ refused bad_row 0
unfolding ask_two unless
ask_two_missing t n vs ws k h l e = rw (few vs h, few ws l, e)

pub type_missing : (t : List ℕ) (n w : ℕ) → no_table t n ≡ true → type_answer t n w ≡ refused bad_row 0
unfolding type_answer unless
type_missing t n w e = rw e

pub padding_missing :
    (memory : Memory) (t : List ℕ) (n : ℕ) (ws : List ℕ) (room : ℕ) → length ws ≤ 16 → no_table t n ≡ true → padding memory t n ws room ≡ refused bad_row 0
unfolding padding
padding_missing memory t n ws room h e = ask_missing t n false (ltb room (length ws)) ws (λ is'. padded (layouts_in memory is')) h e

pub placing_missing :
    (memory : Memory) (t : List ℕ) (n : ℕ) (ws : List ℕ) (room : ℕ) → length ws ≤ 16 → no_table t n ≡ true → placing memory t n ws room ≡ refused bad_row 0
unfolding then
placing_missing memory t n ws room h e =
    sym (padding_placing memory t n ws room) ∙ ap placing_of (padding_missing memory t n ws room h e)

pub question_missing :
    (q : Question) (t : List ℕ) (n : ℕ) (vs ws : List ℕ) → length vs ≤ 16 → length ws ≤ 16 → no_table t n ≡ true → question_number q t n vs ws ≡ refusal_number bad_row 0
unfolding flatten_answer borrow_answer then
question_missing (question.Flatten m max) t n vs ws h l e = rw (ask_missing t n _ _ vs _ h e)
question_missing (question.Lowering m a) t n vs ws h l e = rw (ask_missing t n _ _ vs _ h e)
question_missing (question.Lifting m a) t n vs ws h l e = rw (ask_missing t n _ _ vs _ h e)
question_missing (question.Signature x k) t n vs ws h l e = rw (question_two x t n vs ws, ask_two_missing t n vs ws _ h l e)
question_missing question.ContainsBorrow t n vs ws h l e = rw (ask_missing t n _ _ vs _ h e)

-- A table that is there

infos_alike :
    (f g : ℕ → Leaf Info) (i : ℕ) (us ws : List ℕ) → length us ≡ length ws → ((k : ℕ) → k < length ws → f (get_or us k 0) ≡ g (get_or ws k 0)) →
    infos f i us ≡ infos g i ws
unfolding infos
infos_alike f g i [] [] e h = refl
infos_alike f g i [] (w ∷ ws) e h = absurd (omega arith)
infos_alike f g i (u ∷ us) [] e h = absurd (omega arith)
infos_alike f g i (u ∷ us) (w ∷ ws) e h =
    rw (h 0 (omega arith), infos_alike f g (suc i) us ws (omega arith) (λ k l. h (suc k) (omega arith)))

-- the rooms of the local tables

pub room_1 : capacity 16 ≡ 1
unfolding capacity
room_1 = refl

pub room_16 : capacity 256 ≡ 16
unfolding capacity
room_16 = refl

pub room_32 : capacity 512 ≡ 32
unfolding capacity
room_32 = refl

module _ (p t : List ℕ) (m n : ℕ) (rows : capacity (length p) ≡ m) (there : no_table t n ≡ false) where
  mine : no_table p m ≡ false
  unfolding no_table
  mine = rw (← rows) (le-ltb (capacity (length p)) (capacity (length p)) (omega arith))

  pub type_alike : (v w : ℕ) → read_picked p v ≡ read t n w → type_answer p m v ≡ type_answer t n w
  unfolding type_answer unless
  type_alike v w e = rw (mine, there, ← rows, e)

  module _ (slot : ℕ) (us ws : List ℕ) (names : Names slot p us t n ws) (h : length ws ≤ 16) where
    named : (i : ℕ) → infos (read p m) i us ≡ infos (read t n) i ws
    named i = rw (← rows) (infos_alike (read_picked p) (read t n) i us ws names.count (λ k l. (names.alike k l).1))

    few_names : too_many us ≡ false
    few_names = few us (omega (arith, names.count))

    pub ask_alike : {A : Type 0} (b s : Bool) (k : List Info → Answer A) → ask p m b s us k ≡ ask t n b s ws k
    unfolding ask
    ask_alike b s k = rw (few_names, few ws h, mine, there, named 0)

    -- and so many words of a buffer are enough
    padding_alike : (memory : Memory) (room : ℕ) → padding memory p m us (min 16 room) ≡ padding memory t n ws room
    unfolding padding
    padding_alike memory room =
        ask_alike false (ltb (min 16 room) (length us)) (λ is'. padded (layouts_in memory is'))
        ∙ ap (λ (short : Bool). ask t n false short ws (λ is'. padded (layouts_in memory is'))) (ap (ltb (min 16 room)) names.count ∙ below_first 16 room (length ws) h)

    placing_alike : (memory : Memory) (room : ℕ) → placing memory p m us (min 16 room) ≡ placing memory t n ws room
    placing_alike memory room =
        sym (padding_placing memory p m us (min 16 room))
        ∙ ap placing_of (padding_alike memory room)
        ∙ padding_placing memory t n ws room

    -- the names are of the form 64+j where the references are
    counts_alike : (is' : List Info) → infos (read t n) 0 ws ≡ ok is' → rows_among us ≡ rows_among ws
    counts_alike is' e = infos_rows p m mine 0 us is' (named 0 ∙ e) ∙ sym (infos_rows t n there 0 ws is' e)

    placement_reads_alike : (memory : Memory) (room : ℕ) → placement_reads memory p m us (min 16 room) ≡ placement_reads memory t n ws room
    unfolding placement_reads placement_answer then
    placement_reads_alike memory room = rw (placing_alike memory room) (go (placing memory t n ws room) refl)
      where
        go : (a : Answer Placing) → placing memory t n ws room ≡ a → reported (then a (λ q. ok q.layout)) (rows_among us) ≡ reported (then a (λ q. ok q.layout)) (rows_among ws)
        go (refused x i) e = refl
        go (ok q) e = let s = placing_starts memory t n ws room q e in counts_alike s.0 s.1.gives

    pub call_alike : (memory : Memory) (room : ℕ) → placement_call memory p m us (min 16 room) ≡ placement_call memory t n ws room
    unfolding placement_answer after_answer
    call_alike memory room = rw (placement_reads_alike memory room, placing_alike memory room, padding_alike memory room)

    pub lent_alike :
        (words : Padded → List ℕ) (memory : Memory) (room : ℕ) (out x : List ℕ) → ((q : Padded) → padding memory t n ws room ≡ ok q → length (words q) ≡ length ws) →
        x ≡ lent_after words memory p m us (min 16 room) (take 16 out) → x ++ drop 16 out ≡ lent_after words memory t n ws room out
    lent_alike words memory room out x counted e =
        rw (e, padding_alike memory room) (buffer_front words 16 (padding memory t n ws room) out (λ q f. omega (arith, counted q f)))

  module _ (slot slot' : ℕ) (us vs xs ws : List ℕ) (first : Names slot p us t n vs) (second : Names slot' p xs t n ws) (h : length vs ≤ 16) (l : length ws ≤ 16) where
    ask_two_alike : {A : Type 0} (k : List Info → List Info → Answer A) → ask_two p m us xs k ≡ ask_two t n vs ws k
    unfolding ask_two
    ask_two_alike k =
        rw (few_names slot us vs first h, few_names slot' xs ws second l, few vs h, few ws l, mine, there, named slot us vs first h 0, first.count, named slot' xs ws second l (length vs))

    pub question_alike : (q : Question) → question_number q p m us xs ≡ question_number q t n vs ws
    unfolding flatten_answer borrow_answer
    question_alike (question.Flatten m max) = rw (ask_alike slot us vs first h)
    question_alike (question.Lowering m a) = rw (ask_alike slot us vs first h)
    question_alike (question.Lifting m a) = rw (ask_alike slot us vs first h)
    question_alike (question.Signature x k) = rw (question_two x p m us xs, question_two x t n vs ws, second.count, ask_two_alike)
    question_alike question.ContainsBorrow = rw (ask_alike slot us vs first h)
