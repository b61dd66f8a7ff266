-- The steps over the words of a row's types (canon's words 5 to 7): what is built from the parts' words are the whole's words.
use mathlib.Core.Path.{◌≡◌, refl, sym, ap, ap₂, ◌∙◌}
use mathlib.Core.Bool.{Bool, true, false, cond}
use mathlib.Core.List.{List, [], ◌∷◌, ◌++◌, append_assoc, append-nil}
use mathlib.Core.Option.{Option, none, some}
use Prim.Native.Nat.{ℕ, ◌+◌, ◌*◌, max, min}
use native.Mathlib.Omega.{arith}
use lib.Dec.{leb}
use lib.ListN.{length, length-append, get_elem?}
use borrow.Author.Tests.{le-leb, lt-leb, leb-true, leb-false}
use Rattle.canon.specs.Answer.{map_option, map_option2}
use Rattle.canon.specs.Types.{Ty, Core, I32, plain}
use Rattle.canon.specs.Layout.{Memory, mem32, mem64, both, within, groups}
use Rattle.canon.specs.Flat.{
  join_lists,
  join_all,
  concat,
  copies,
  flags_flat,
  flatten,
  capped,
  add_flat,
  max_flat,
  times_flat,
  sum_flat,
  greatest_flat,
  flags_count,
  flat_count,
}
use Rattle.canon.specs.Pack.{Packed, pack}
use Rattle.canon.specs.Row.{count_word, flat_word, row_flat}
use Rattle.canon.proofs.Packing.{pack_lt, pack_append}
use Rattle.canon.proofs.Built.{at_each}
use Rattle.canon.proofs.Counts.{flags_length}
use Rattle.canon.proofs.FlatFolds.{
  length_copies,
  Counted,
  counted_append,
  counted_join,
  AllCounted,
  nil,
  cons,
  sums,
  sums_sum,
  greats,
  greats_greatest,
}
use Rattle.flat_types.specs.Lists.{unpacked, no_list, packed_to, packed, whole, memory_words}
use Rattle.flat_types.specs.Places.{append_word, one_i32, append_to, joined}
use Rattle.flat_types.proofs.Masks.{pack_fits}
use Rattle.flat_types.proofs.Halves.{whole_halves, whole_same, half, append_both}
use Rattle.flat_types.proofs.Joining.{joined_both}
use Rattle.flat_types.proofs.Listing.{packed_some, packed_none, list_packed}

-- with the words of both memories
abbrev pub row_both : Option ℕ → (Memory → List Core) → Packed
row_both o ls = record { number = count_word o; types = whole (both (λ m. flat_word o (ls m))) }

-- a list for each memory
abbrev pub pair : {A : Type 0} → A → A → Memory → A
pair k l m = within m (record { in32 = k; in64 = l })

-- the list, where there is a count
abbrev given : Option ℕ → List Core → Option (List Core)
given o l = map_option (λ _. l) o

pub words_given : (o : Option ℕ) (l : List Core) → Counted o l → row_flat o l ≡ packed (given o l)
unfolding packed_to
words_given none l c = refl
words_given (some n) l c = let e = c n refl in sym (packed_some 16 l (omega arith) ∙ ap (λ (x : ℕ). record { number = x; types = pack l }) e.0)

list_words : (o : Option ℕ) (l : List Core) → Counted o l → unpacked (row_flat o l) ≡ given o l
unfolding unpacked
list_words none l c = refl
list_words (some n) l c = let e = c n refl in ap unpacked (words_given (some n) l c) ∙ list_packed l (omega arith)

-- a sum or product above 16 is none
capped_words : (n : ℕ) (l : List Core) → length l ≡ n → packed (some l) ≡ row_flat (capped n) l
capped_words n l e = go (leb n 16) refl
  where
    go : (b : Bool) → leb n 16 ≡ b → packed (some l) ≡ row_flat (cond b (some n) none) l
    go true h = packed_some 16 l (omega (arith, leb-true n 16 h)) ∙ ap (λ (x : ℕ). record { number = x; types = pack l }) e
    go false h = packed_none 16 l (omega (arith, leb-false n 16 h))

-- One step in one memory

module _ (a b : Option ℕ) (k l : List Core) (p : Counted a k) (q : Counted b l) where
  pub append_words : packed (map_option2 ◌++◌ (unpacked (row_flat a k)) (unpacked (row_flat b l))) ≡ row_flat (add_flat a b) (k ++ l)
  unfolding add_flat packed_to
  append_words = rw (list_words a k p, list_words b l q) (go a b p q)
    where
      go : (a b : Option ℕ) → Counted a k → Counted b l → packed (map_option2 ◌++◌ (given a k) (given b l)) ≡ row_flat (add_flat a b) (k ++ l)
      go none b p q = refl
      go (some i) none p q = refl
      go (some i) (some j) p q = capped_words (i + j) (k ++ l) (omega (arith, length-append k l, p i refl, q j refl))

  pub join_words : packed (map_option2 join_lists (unpacked (row_flat a k)) (unpacked (row_flat b l))) ≡ row_flat (max_flat a b) (join_lists k l)
  unfolding max_flat packed_to
  join_words = rw (list_words a k p, list_words b l q) (go a b p q)
    where
      go : (a b : Option ℕ) → Counted a k → Counted b l → packed (map_option2 join_lists (given a k) (given b l)) ≡ row_flat (max_flat a b) (join_lists k l)
      go none b p q = refl
      go (some i) none p q = refl
      go (some i) (some j) p q = sym (words_given (max_flat (some i) (some j)) (join_lists k l) (counted_join (some i) (some j) k l p q))

module _ (a : Option ℕ) (l : List Core) (p : Counted a l) where
  pub repeat_words : (n : ℕ) → packed (map_option (copies n) (unpacked (row_flat a l))) ≡ row_flat (times_flat a n) (copies n l)
  unfolding times_flat packed_to
  repeat_words n = rw (list_words a l p) (go a p)
    where
      go : (a : Option ℕ) → Counted a l → packed (map_option (copies n) (given a l)) ≡ row_flat (times_flat a n) (copies n l)
      go none p = refl
      go (some i) p = capped_words (i * n) (copies n l) (length_copies n l ∙ ap (λ (x : ℕ). x * n) (p i refl).0)

-- Both memories at once

-- the words in one memory
pub both_in : (o : Option ℕ) (ls : Memory → List Core) → Counted o (ls mem32) → (m : Memory) → memory_words m (row_both o ls) ≡ row_flat o (ls m)
both_in o ls = go o
  where
    go : (o : Option ℕ) → Counted o (ls mem32) → (m : Memory) → memory_words m (row_both o ls) ≡ row_flat o (ls m)
    go none c mem32 = refl
    go none c mem64 = refl
    go (some n) c m = ap (λ (x : ℕ). record { number = n; types = x }) (half (λ i. pack (ls i)) (pack_fits (ls mem32) 16 (let e = c n refl in omega arith)) m)

-- and from the words in each
pub in_both : (p : Packed) (o : Option ℕ) (ls : Memory → List Core) → ((m : Memory) → memory_words m p ≡ row_flat o (ls m)) → p ≡ row_both o ls
in_both p o ls e =
    ap (λ (w : ℕ). record { number = p.number; types = w }) (sym (whole_halves p.types))
    ∙ (λ i. record { number = (e mem32 i).number; types = whole (record { in32 = (e mem32 i).types; in64 = (e mem64 i).types }) })

module _ (a b : Option ℕ) (ks ls : Memory → List Core) (p : (m : Memory) → Counted a (ks m)) (q : (m : Memory) → Counted b (ls m)) where
  pub append_row : append_to 16 (row_both a ks) (row_both b ls) ≡ row_both (add_flat a b) (λ m. ks m ++ ls m)
  unfolding append_to add_flat
  append_row = go a b p q
    where
      go : (a b : Option ℕ) → ((m : Memory) → Counted a (ks m)) → ((m : Memory) → Counted b (ls m)) → append_to 16 (row_both a ks) (row_both b ls) ≡ row_both (add_flat a b) (λ m. ks m ++ ls m)
      go none b p q = rw (lt-leb (255 + count_word b) 16 (omega arith))
      go (some i) none p q = rw (lt-leb (i + 255) 16 (omega arith))
      go (some i) (some j) p q = sum (leb (i + j) 16) refl
        where
          sum :
              (t : Bool) → leb (i + j) 16 ≡ t →
              cond t (record { number = i + j; types = append_word i (whole (both (λ m. pack (ks m)))) (whole (both (λ m. pack (ls m)))) }) no_list
              ≡ row_both (cond t (some (i + j)) none) (λ m. ks m ++ ls m)
          sum false e = refl
          sum true e =
              ap (λ (x : ℕ). record { number = i + j; types = x })
              (append_both i j (λ m. pack (ks m)) (λ m. pack (ls m)) (leb-true (i + j) 16 e)
              (λ m. rw (p m i refl).0 at (pack_lt (ks m))) (λ m. rw (q m j refl).0 at (pack_lt (ls m)))
              ∙ whole_same _ (λ m. pack (ks m ++ ls m)) (λ m. rw (p m i refl).0 at (sym (pack_append (ks m) (ls m)))))

  pub join_row : joined (row_both a ks) (row_both b ls) ≡ row_both (max_flat a b) (λ m. join_lists (ks m) (ls m))
  unfolding joined max_flat
  join_row = go a b p q
    where
      go : (a b : Option ℕ) → ((m : Memory) → Counted a (ks m)) → ((m : Memory) → Counted b (ls m)) → joined (row_both a ks) (row_both b ls) ≡ row_both (max_flat a b) (λ m. join_lists (ks m) (ls m))
      go none b p q = rw (lt-leb (max 255 (count_word b)) 16 (omega arith))
      go (some i) none p q = rw (lt-leb (max i 255) 16 (omega arith))
      go (some i) (some j) p q =
          let x = p mem32 i refl in
          let y = q mem32 j refl in
          rw (le-leb (max i j) 16 (omega arith))
          (ap (λ (x : ℕ). record { number = max i j; types = x })
          (joined_both (min i j) ks ls (λ m. let v = p m i refl in let w = q m j refl in omega arith) (omega arith) (omega arith)))

-- a discriminant in front
pub discriminant_row : (a : Option ℕ) (ls : Memory → List Core) → ((m : Memory) → Counted a (ls m)) → append_to 16 one_i32 (row_both a ls) ≡ row_both (add_flat (some 1) a) (λ m. I32 ∷ ls m)
unfolding pack
discriminant_row a ls q = append_row (some 1) a (λ m. I32 ∷ []) ls (λ m n e. let f : 1 ≡ n = cc in omega arith) q

-- All from the first to the last

abbrev pub steps : (Packed → Packed → Packed) → Packed → List Packed → Packed
steps g p [] = p
steps g p (q ∷ qs) = steps g (g p q) qs

-- of counts, and of the lists in both memories
abbrev pub all_both : List (Option ℕ) → List (List Core) → List (List Core) → List Packed
all_both [] ks ls = []
all_both (a ∷ as') [] ls = []
all_both (a ∷ as') (k ∷ ks) [] = []
all_both (a ∷ as') (k ∷ ks) (l ∷ ls) = row_both a (pair k l) ∷ all_both as' ks ls

counted_pair : {a : Option ℕ} (k l : List Core) → Counted a k → Counted a l → (m : Memory) → Counted a (pair k l m)
counted_pair k l p q mem32 = p
counted_pair k l p q mem64 = q

records_from :
    {as' : List (Option ℕ)} {ks ls : List (List Core)} (a : Option ℕ) (k l : List Core) →
    Counted a k → Counted a l → AllCounted as' ks → AllCounted as' ls →
    steps (append_to 16) (row_both a (pair k l)) (all_both as' ks ls) ≡ row_both (sums a as') (pair (k ++ concat ks) (l ++ concat ls))
unfolding sums concat
records_from a k l p q nil nil = sym (ap₂ (λ (x y : List Core). row_both a (pair x y)) (append-nil k) (append-nil l))
records_from a k l p q (cons {a = b} {l = r} {as' = bs} {ls = ks} c cs) (cons {l = s} {ls = ls} d ds) =
    ap (λ (x : Packed). steps (append_to 16) x (all_both bs ks ls)) (append_row a b (pair k l) (pair r s) (counted_pair k l p q) (counted_pair r s c d))
    ∙ records_from (add_flat a b) (k ++ r) (l ++ s) (counted_append a b k r p c) (counted_append a b l s q d) cs ds
    ∙ ap₂ (λ (x y : List Core). row_both (sums (add_flat a b) bs) (pair x y)) (append_assoc k r (concat ks)) (append_assoc l s (concat ls))

variants_from :
    {as' : List (Option ℕ)} {ks ls : List (List Core)} (a : Option ℕ) (k l : List Core) →
    Counted a k → Counted a l → AllCounted as' ks → AllCounted as' ls →
    steps joined (row_both a (pair k l)) (all_both as' ks ls) ≡ row_both (greats a as') (pair (join_all k ks) (join_all l ls))
unfolding greats join_all
variants_from a k l p q nil nil = refl
variants_from a k l p q (cons {a = b} {l = r} {as' = bs} {ls = ks} c cs) (cons {l = s} {ls = ls} d ds) =
    ap (λ (x : Packed). steps joined x (all_both bs ks ls)) (join_row a b (pair k l) (pair r s) (counted_pair k l p q) (counted_pair r s c d))
    ∙ variants_from (max_flat a b) (join_lists k r) (join_lists l s) (counted_join a b k r p c) (counted_join a b l s q d) cs ds

nothing : Counted (some 0) []
nothing n e = let f : 0 ≡ n = cc in omega arith

abbrev pub no_row : Packed
no_row = record { number = 0; types = 0 }

module _ {as' : List (Option ℕ)} (ls : Memory → List (List Core)) (p : (m : Memory) → AllCounted as' (ls m)) where
  pub record_steps : steps (append_to 16) no_row (all_both as' (ls mem32) (ls mem64)) ≡ row_both (sum_flat as') (λ m. concat (ls m))
  unfolding pack
  record_steps = records_from (some 0) [] [] nothing nothing (p mem32) (p mem64) ∙ ap (λ (o : Option ℕ). row_both o (λ m. concat (ls m))) (sums_sum as')

  pub variant_steps : steps joined no_row (all_both as' (ls mem32) (ls mem64)) ≡ row_both (greatest_flat as') (λ m. join_all [] (ls m))
  unfolding pack
  variant_steps = variants_from (some 0) [] [] nothing nothing (p mem32) (p mem64) ∙ ap (λ (o : Option ℕ). row_both o (λ m. join_all [] (ls m))) (greats_greatest as')

-- Words that are written at once, in one memory

pub flags_words : (n : ℕ) → packed (some (flags_flat n)) ≡ row_flat (flags_count n) (flags_flat n)
flags_words n = capped_words (groups n) (flags_flat n) (flags_length n)

pub plain_words_lem :
    (m : Memory) (w : ℕ) (t : Ty) →
    get_elem? plain w ≡ some t →
    packed (map_option (flatten m) (get_elem? plain w)) ≡ row_flat (flat_count t) (flatten m t)
unfolding packed_to flatten flat_count
plain_words_lem m w t e =
    rw e
    (at_each (λ t. packed (some (flatten m t)) ≡ row_flat (flat_count t) (flatten m t)) plain (refl, (refl, (refl, (refl, (refl, (refl, (refl, (refl, (refl, (refl, (refl, (refl, (refl, (refl, (refl, (refl, (refl, (refl, tt)))))))))))))))))) w t e)
