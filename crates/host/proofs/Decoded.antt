-- What a call over bytes leaves undecoded changes no answer, and words that are put back unchanged leave their bytes as they were.
use mathlib.Core.Path.{◌≡◌, sym, ap, ◌∙◌}
use mathlib.Core.List.{List, ◌++◌}
use Prim.Native.Nat.{ℕ, ◌*◌, ◌/◌, ◌≤◌, ◌<◌, min}
use native.Mathlib.Decide.{dec_le}
use native.Mathlib.Omega.{arith}
use lib.Dec.{eqb}
use lib.ListN.{length, get_or, take, drop, replicate, length-replicate, length-take, drop_of_length-le}
use lib.Seq.{take_all}
use borrow.Author.Tests.{eq-eqb, ne_eqb}
use Rattle.canon.specs.Description.{table_after}
use Rattle.canon.specs.Layout.{Memory}
use Rattle.canon.specs.Signature.{flatten_answer}
use Rattle.canon.specs.Answer.{Answer, ok}
use Rattle.canon.specs.Question.{borrow_answer, buffer_after}
use Rattle.canon.specs.Gaps.{Padded, room_of, padding, lent_after}
use Rattle.canon.proofs.Capped.{Enough, ask_first, ask_two_first, table_after_first, placement_first, placement_reads_first, after_first, padding_first, lent_first}
use Rattle.words.specs.Words.{whole_words, put_words}
use Rattle.words.proofs.Laws.{length_whole, put_rest}
use Rattle.host.specs.Numbers.{placement_call}
use Rattle.host.specs.Questions.{question_number}
use Rattle.signature.proofs.Asking.{question_two}
use Rattle.host.specs.declared.question.Question.{Question}
use Rattle.host.specs.declared.question.Question.TheVariants as question

-- what was decoded into an array of c zeros: the first c words, all where there are no more

pub front : (b : List ℕ) {u : List ℕ} (c : ℕ) → u ≡ take (length {A = ℕ} (replicate c 0)) (whole_words b) → u ≡ take c (whole_words b)
front b c e = e ∙ ap (λ (i : ℕ). take i (whole_words b)) (length-replicate c 0)

pub front_all : (b : List ℕ) {u : List ℕ} (c : ℕ) → length b ≤ 4 * c → u ≡ take (length {A = ℕ} (replicate c 0)) (whole_words b) → u ≡ whole_words b
front_all b c h e = front b c e ∙ take_all c (whole_words b) (omega (arith, length_whole b))

-- a list has no words where its first words are none
empty_first : (ws : List ℕ) → eqb (length (take 16385 ws)) 0 ≡ eqb (length ws) 0
empty_first ws =
    ap (λ (i : ℕ). eqb i 0) (length-take 16385 ws)
    ∙ elim (dec_le 1 (length ws)) [
      | yes h ↦ ne_eqb (min 16385 (length ws)) 0 (λ e. omega arith) ∙ sym (ne_eqb (length ws) 0 (λ e. omega arith))
      | no h ↦ eq-eqb (min 16385 (length ws)) 0 (omega arith) ∙ sym (eq-eqb (length ws) 0 (omega arith))
    ]

pub question_first :
    (q : Question) (t : List ℕ) (n : ℕ) (vs ws : List ℕ) →
    question_number q (take 16384 t) n (take 16385 vs) (take 16385 ws) ≡ question_number q t n vs ws
unfolding flatten_answer borrow_answer
question_first (question.Flatten m max) t n vs ws = rw (ask_first t n)
question_first (question.Lowering m a) t n vs ws = rw (ask_first t n)
question_first (question.Lifting m a) t n vs ws = rw (ask_first t n)
question_first (question.Signature x k) t n vs ws =
    rw (question_two x (take 16384 t) n (take 16385 vs) (take 16385 ws), question_two x t n vs ws, empty_first ws, ask_two_first t n)
question_first question.ContainsBorrow t n vs ws = rw (ask_first t n)

-- and where the table alone is cut

cut_twice : (t : List ℕ) → take 16384 (take 16384 t) ≡ take 16384 t
cut_twice t = take_all 16384 (take 16384 t) (omega (arith, length-take 16384 t))

pub question_cut : (q : Question) (t : List ℕ) (n : ℕ) (vs ws : List ℕ) → question_number q (take 16384 t) n vs ws ≡ question_number q t n vs ws
question_cut q t n vs ws =
    sym (question_first q (take 16384 t) n vs ws)
    ∙ ap (λ (u : List ℕ). question_number q u n (take 16385 vs) (take 16385 ws)) (cut_twice t)
    ∙ question_first q t n vs ws

-- A placement, its buffers as well

pub room_first : (c : ℕ) (out gs : List ℕ) → room_of (take c out) (take c gs) ≡ min c (room_of out gs)
room_first c out gs = rw (length-take c out, length-take c gs) (omega arith)

pub call_first :
    (c : ℕ) (ws : List ℕ) → Enough c ws → (m : Memory) (t : List ℕ) (n room : ℕ) →
    placement_call m (take 16384 t) n (take c ws) (min c room) ≡ placement_call m t n ws room
call_first c ws enough m t n room = rw (placement_first c ws enough m t n room, placement_reads_first c ws enough m t n room, after_first c ws enough m t n room)

pub call_cut : (m : Memory) (t : List ℕ) (n : ℕ) (ws : List ℕ) (room : ℕ) → placement_call m (take 16384 t) n ws room ≡ placement_call m t n ws room
call_cut m t n ws room =
    sym (call_first 16385 ws (omega arith) m (take 16384 t) n room)
    ∙ ap (λ (u : List ℕ). placement_call m u n (take 16385 ws) (min 16385 room)) (cut_twice t)
    ∙ call_first 16385 ws (omega arith) m t n room

pub lent_cut :
    (words : Padded → List ℕ) (m : Memory) (t : List ℕ) (n : ℕ) (ws : List ℕ) (room : ℕ) (out : List ℕ) → lent_after words m (take 16384 t) n ws room out ≡ lent_after words m t n ws room out
lent_cut words m t n ws room out =
    ap (λ (a : Answer Padded). buffer_after words a out)
    (sym (padding_first 16385 ws (omega arith) m (take 16384 t) n room)
    ∙ ap (λ (u : List ℕ). padding m u n (take 16385 ws) (min 16385 room)) (cut_twice t)
    ∙ padding_first 16385 ws (omega arith) m t n room)

-- the first words of a table or a buffer became x: put back, they leave what the rest, put back as it was, would have left
pub front_put :
    (c : ℕ) (x b : List ℕ) {y : List ℕ} → ((i : ℕ) → get_or b i 0 < 256) → length x ≡ length (take c (whole_words b)) → x ++ drop c (whole_words b) ≡ y →
    put_words 0 (take (length b / 4) x) b ≡ put_words 0 y b
front_put c x b bytes l e =
    let n : length x ≡ min c (length b / 4) = l ∙ length-take c (whole_words b) ∙ ap (min c) (length_whole b) in
    rw (take_all (length b / 4) x (omega arith))
    (sym (put_rest x b bytes (omega arith)) ∙ ap (λ (u : List ℕ). put_words 0 u b) (ap (λ (u : List ℕ). x ++ u) (rest n) ∙ e))
  where
    rest : length x ≡ min c (length b / 4) → drop (length x) (whole_words b) ≡ drop c (whole_words b)
    rest n =
        elim (dec_le c (length b / 4)) [
          | yes h ↦ let e : length x ≡ c = omega arith in ap (λ (i : ℕ). drop i (whole_words b)) e
          | no h ↦
              drop_of_length-le (whole_words b) {i = length x} (omega (arith, length_whole b))
              ∙ sym (drop_of_length-le (whole_words b) {i = c} (omega (arith, length_whole b)))
        ]

module _ (x b : List ℕ) (bytes : (i : ℕ) → get_or b i 0 < 256) where
  pub table_put :
      (ws : List ℕ) → length x ≡ length (take 16384 (whole_words b)) → x ≡ table_after ws (take 16384 (whole_words b)) →
      put_words 0 (take (length b / 4) x) b ≡ put_words 0 (table_after ws (whole_words b)) b
  table_put ws l e = front_put 16384 x b bytes l (ap (λ (y : List ℕ). y ++ drop 16384 (whole_words b)) e ∙ table_after_first ws (whole_words b))

  pub lent_put :
      (c : ℕ) (words : Padded → List ℕ) (m : Memory) (t : List ℕ) (n : ℕ) (ws : List ℕ) (room : ℕ) → Enough c ws → length x ≡ length (take c (whole_words b)) →
      ((q : Padded) → padding m t n ws room ≡ ok q → length (words q) ≡ length ws) →
      x ≡ lent_after words m (take 16384 t) n (take c ws) (min c room) (take c (whole_words b)) →
      put_words 0 (take (length b / 4) x) b ≡ put_words 0 (lent_after words m t n ws room (whole_words b)) b
  lent_put c words m t n ws room enough l counted e =
      front_put c x b bytes l (ap (λ (y : List ℕ). y ++ drop c (whole_words b)) e ∙ lent_first c ws enough m t n room words (whole_words b) counted)
