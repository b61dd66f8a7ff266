-- One reference: what a question takes of it is a part of what canon's `read` gives. A loop over
-- references: these infos have been read, and the rest comes behind them. A law for each turn, whatever is made of the infos.
use mathlib.Core.Path.{◌≡◌, refl, sym, ap, ◌∙◌}
use mathlib.Core.Bool.{Bool, true, false, cond, ◌&&◌}
use mathlib.Core.List.{List, [], ◌∷◌, ◌++◌, append_assoc, append-nil}
use Prim.Native.Nat.{ℕ, ◌+◌, ◌-◌, ◌≤◌, ◌<◌}
use native.Mathlib.Numerals.{add-one}
use lib.ListN.{length, get_or, get_elem?, drop, drop_of_length-le}
use lib.Seq.{drop-cons}
use borrow.Author.Tests.{lt-leb, le-leb, lt-ltb, le-ltb}
use Rattle.canon.specs.Answer.{Leaf, is, no, bad_ref, bad_row, Answer, ok, refused, at_position, then, and_then}
use Rattle.canon.specs.Layout.{Memory, mem32, mem64, within}
use Rattle.canon.specs.Row.{Info, row_info}
use Rattle.canon.specs.Types.{plain}
use Rattle.canon.specs.Question.{plain_info, read_row, read, no_table, infos}
use Rattle.canon.proofs.Tests.{impossible}
use Rattle.canon.proofs.Questions.{then_then, then_ext}
use Rattle.types.specs.Means.{layout_means, each, layouts_means}
use Rattle.types.specs.declared.both.Both.{Both}
use Rattle.types.specs.declared.extent.Layout.{Layout}
use Rattle.table.specs.Rows.{row_in, good_first_words, good_later_words}
use Rattle.table.proofs.Reading.{row_is, good_halves}
use Rattle.questions.specs.Steps.{part}

-- One reference

-- a word below 64 names no row
pub read_plain : (t : List ℕ) (n w : ℕ) → w < 64 → read t n w ≡ plain_info (get_elem? plain w)
unfolding read
read_plain t n w h = rw (lt-leb 64 w h)

-- a word from 64 on names a row, and the table has it or not
module _ (t : List ℕ) (n w : ℕ) (h : 64 ≤ w) where
  pub read_past : n ≤ w - 64 → read t n w ≡ no bad_ref
  unfolding read
  read_past l = rw (le-leb 64 w h, le-ltb (w - 64) n l)

  pub read_named : no_table t n ≡ false → w - 64 < n → read t n w ≡ read_row (row_in t (w - 64))
  unfolding read
  read_named e l = rw (le-leb 64 w h, lt-ltb (w - 64) n l, row_is t n (w - 64) e l)

-- what is taken of a reference tells what was read, and so does a refusal

pub part_is : {A : Type 0} (f : Info → A) (l : Leaf Info) (a : A) → is a ≡ part f l → (i : Info) × (l ≡ is i) × (f i ≡ a)
unfolding and_then
part_is f (is i) a e = (i, refl, cc)
part_is f (no x) a e = impossible (cc)

part_no : {A : Type 0} (f : Info → A) (l : Leaf Info) (x : ℕ) → no x ≡ part f l → l ≡ no x
unfolding and_then
part_no f (is i) x e = impossible (cc)
part_no f (no y) x e = let p : x ≡ y = cc in rw p

-- A list of them

then_same : {A : Type 0} (a : Answer A) → then a (λ x. ok x) ≡ a
unfolding then
then_same (ok a) = refl
then_same (refused x p) = refl

module _ (look : ℕ → Leaf Info) (ws : List ℕ) where
  -- before place k these were read
  abbrev pub Read : ℕ → List Info → Type 0
  Read k done = infos look 0 ws ≡ then (infos look k (drop k ws)) (λ js. ok (done ++ js))

  pub begins : Read 0 []
  begins = sym (then_same (infos look 0 ws))

  turn :
      (k : ℕ) → k < length ws →
      infos look k (drop k ws)
      ≡ then (at_position k (look (get_or ws k 0))) (λ i. then (infos look (k + 1) (drop (k + 1) ws)) (λ js. ok (i ∷ js)))
  unfolding infos
  turn k h = rw (add-one k, drop-cons ws k 0 h)

  pub goes_on : (k : ℕ) (done : List Info) (i : Info) → Read k done → look (get_or ws k 0) ≡ is i → k < length ws → Read (k + 1) (done ++ i ∷ [])
  unfolding then at_position
  goes_on k done i r e h =
      r
      ∙ rw (turn k h, e)
      (then_then (infos look (k + 1) (drop (k + 1) ws)) (λ js. ok (i ∷ js)) (λ js. ok (done ++ js))
      ∙ then_ext (infos look (k + 1) (drop (k + 1) ws)) _ _ (λ js. ap ok (sym (append_assoc done (i ∷ []) js))))

  pub stops :
      {A : Type 0} (f : Info → A) (k : ℕ) (done : List Info) (x : ℕ) → Read k done →
      no x ≡ part f (look (get_or ws k 0)) → k < length ws → infos look 0 ws ≡ refused x k
  unfolding then at_position
  stops f k done x r e h = r ∙ rw (turn k h, part_no f (look (get_or ws k 0)) x e)

  pub ends : (k : ℕ) (done : List Info) → Read k done → length ws ≤ k → infos look 0 ws ≡ ok done
  unfolding infos then
  ends k done r h = r ∙ rw (drop_of_length-le ws {i = k} h, append-nil done)

-- A row by the halves of its good form
pub row_halves :
    {A : Type 0} (f : Info → A) (r : List ℕ) →
    part f (read_row r) ≡ cond (good_first_words r && good_later_words r) (is (f (row_info r))) (no bad_row)
unfolding read_row and_then
row_halves f r = rw (good_halves r) (go (good_first_words r && good_later_words r))
  where
    go : (b : Bool) → and_then (cond b (is (row_info r)) (no bad_row)) (λ i. is (f i)) ≡ cond b (is (f (row_info r))) (no bad_row)
    go true = refl
    go false = refl

-- What an info has in one memory
pub layout_within : (m : Memory) (ls : Both Layout) → layout_means (within m (each ls)) ≡ within m (layouts_means ls)
layout_within mem32 ls = refl
layout_within mem64 ls = refl
