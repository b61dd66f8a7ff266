-- What one reference gives has good flat words: its count is a byte, and the words are those of canon's list.
use mathlib.Core.Path.{◌≡◌, refl, sym, ap, ◌∙◌}
use mathlib.Core.Bool.{Bool, true, false, cond}
use mathlib.Core.List.{List, [], ◌∷◌, ◌++◌}
use mathlib.Core.Option.{Option, none, some}
use Prim.Native.Nat.{ℕ, ◌≤◌}
use native.Mathlib.Omega.{arith}
use lib.Dec.{eqb}
use borrow.Author.Tests.{leb-true, eqb-true, le-leb}
use Rattle.canon.specs.Answer.{is}
use Rattle.canon.specs.Types.{Ty}
use Rattle.canon.specs.Layout.{Memory, mem32, mem64, within}
use Rattle.canon.specs.Flat.{flatten, flat_count}
use Rattle.canon.specs.Pack.{Packed}
use Rattle.canon.specs.Row.{Info, info_of, type_flat, row_info, row_abi, word, count_of, count_word, good_layout, good_count, unused_zero, good_abi, is_good, flat_of}
use Rattle.canon.specs.Question.{read}
use Rattle.canon.proofs.Tests.{both_true}
use Rattle.canon.proofs.Counts.{counted}
use Rattle.canon.proofs.Rows.{count_word_count_of, flat_back}
use Rattle.canon.proofs.Reaches.{any_borrow_more}
use Rattle.canon.proofs.Questions.{read_has, row_tested, after_abi}
use Rattle.flat_types.specs.Lists.{packed}
use Rattle.flat_types.proofs.Gathering.{good_packed, flat_more}
use Rattle.flat_types.proofs.Rows.{words_given}
use Rattle.table.specs.Rows.{row_packed}
use Rattle.questions.specs.Gathers.{together}
use Rattle.questions.specs.Steps.{alone, with_more}

-- What a good row says of its parts

module _ (r : List ℕ) (good : is_good r ≡ true) where
  row_unused : (m : Memory) → unused_zero (row_abi r).flats (row_packed m r).types ≡ true
  row_unused mem32 = (both_true (unused_zero (row_abi r).flats (word r 6)) _ (after_abi r good)).0
  row_unused mem64 = (both_true (unused_zero (row_abi r).flats (word r 7)) _ (both_true (unused_zero (row_abi r).flats (word r 6)) _ (after_abi r good)).1).0

  row_counted : good_count (row_abi r).flats ≡ true
  unfolding good_abi
  row_counted =
      (both_true (good_layout (row_abi r).layouts.in64) _ (both_true (good_layout (row_abi r).layouts.in32) _ (row_tested r good)).1).1

-- The flat count

typed_good : (c : Option ℕ) → ((n : ℕ) → c ≡ some n → n ≤ 16) → good_count c ≡ true
unfolding good_count
typed_good none h = refl
typed_good (some n) h = le-leb n 16 (h n refl)

pub read_counted : (t : List ℕ) (n w : ℕ) (i : Info) → read t n w ≡ is i → good_count i.abi.flats ≡ true
read_counted = read_has (λ i. good_count i.abi.flats ≡ true) (λ t. typed_good (flat_count t) (λ n e. ((counted mem32 t n).0 e).1)) row_counted

-- a good count is a byte
pub counted_byte : (c : ℕ) → good_count (count_of c) ≡ true → c ≤ 255
unfolding good_count
counted_byte c = go (eqb c 255) refl
  where
    go : (b : Bool) → eqb c 255 ≡ b → good_count (cond b none (some c)) ≡ true → c ≤ 255
    go true f e = let p = eqb-true c 255 f in omega arith
    go false f e = let p = leb-true c 16 e in omega arith

-- The flat words

-- an info's count and one memory's word
abbrev words_of : Memory → Info → Packed
words_of m i = record { number = count_word i.abi.flats; types = within m i.flat_words }

typed_words : (m : Memory) (t : Ty) → words_of m (info_of t) ≡ packed (flat_of m (info_of t))
typed_words m t =
    here m ∙ words_given (flat_count t) (flatten m t) (λ n e. let c = (counted m t n).0 e in (c.0, c.1)) ∙ ap packed (sym (flat_back m t))
  where
    here : (m : Memory) → words_of m (info_of t) ≡ type_flat m t
    here mem32 = refl
    here mem64 = refl

row_words_lem : (m : Memory) (r : List ℕ) → is_good r ≡ true → words_of m (row_info r) ≡ packed (flat_of m (row_info r))
row_words_lem m r good =
    ap (λ (k : ℕ). record { number = k; types = (row_packed m r).types }) (count_word_count_of (word r 5))
    ∙ good_packed m (row_info r) (row_packed m r) refl refl (row_counted r good) (row_unused r good m)

pub read_words : (m : Memory) (t : List ℕ) (n w : ℕ) (i : Info) → read t n w ≡ is i → words_of m i ≡ packed (flat_of m i)
read_words m = read_has (λ i. words_of m i ≡ packed (flat_of m i)) (typed_words m) (row_words_lem m)

-- what a reference gives alone: its flat words as they stand, and its borrow
pub read_alone :
    (m : Memory) (t : List ℕ) (n w : ℕ) (c : ℕ) (i : Info) →
    read t n w ≡ is i → i.abi.flats ≡ count_of c →
    record { flat = record { number = c; types = within m i.flat_words }; borrow = i.reach.borrow } ≡ alone m i
read_alone m t n w c i e f =
    let k : count_word i.abi.flats ≡ c = ap count_word f ∙ count_word_count_of c in
    let p : record { number = c; types = within m i.flat_words } ≡ packed (flat_of m i) =
    ap (λ (x : ℕ). record { number = x; types = within m i.flat_words }) (sym k) ∙ read_words m t n w i e in
    rw p

-- One more info together with those before it
pub with_more_lem : (m : Memory) (is' : List Info) (i : Info) → with_more (together m is') (alone m i) ≡ together m (is' ++ i ∷ [])
with_more_lem m is' i = rw (flat_more m is' i, any_borrow_more is' i)

-- so is that of what a reference gives
pub read_byte : (t : List ℕ) (n w c : ℕ) (i : Info) → is i ≡ read t n w → i.abi.flats ≡ count_of c → c ≤ 255
read_byte t n w c i e f = counted_byte c (rw f at (read_counted t n w i (sym e)))
