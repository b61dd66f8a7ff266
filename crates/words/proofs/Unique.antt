-- No second outcome meets a promise, in the answer or in the lent memory.
use mathlib.Core.Path.{◌≡◌, sym, ap, ◌∙◌}
use mathlib.Core.List.{List, ◌++◌}
use Prim.Native.Nat.{ℕ}
use contract.Lifetimes.{Lfts}
use lib.ListN.{take, drop}
use denote.Bor.{Bor}
use denote.Ref.{MutBor, at_last}
use Rattle.words.specs.Words.{whole_words}
use Rattle.words.proofs.reading.from_le_bytes.Reads as from_le_bytes
use Rattle.words.proofs.reading.word_at.Reads as word_at
use Rattle.words.proofs.reading.words_of.Reads as words_of
use Rattle.words.proofs.writing.put_word_at.Reads as put-word-at
use Rattle.words.proofs.writing.put_words.Reads as put-words

pub from_le_bytes_one :
    (κs : Lfts 0) (a b c d r q : ℕ) →
    from_le_bytes.Post κs (a, (b, (c, (d, tt)))) r (a, (b, (c, (d, tt)))) →
    from_le_bytes.Post κs (a, (b, (c, (d, tt)))) q (a, (b, (c, (d, tt)))) →
    r ≡ q
from_le_bytes_one κs a b c d r q g h = g ∙ sym h

pub word_at_one : (κs : Lfts 1) (b : Bor (List ℕ)) (k r q : ℕ) → word_at.Post κs (b, (k, tt)) r (b, (k, tt)) → word_at.Post κs (b, (k, tt)) q (b, (k, tt)) → r ≡ q
word_at_one κs b k r q g h = g ∙ sym h

pub put_word_at_one :
    (κs : Lfts 1) (b : MutBor (List ℕ)) (k w : ℕ) (l m : List ℕ) →
    put-word-at.Post κs (b, (k, (w, tt))) tt (at_last b l, (k, (w, tt))) →
    put-word-at.Post κs (b, (k, (w, tt))) tt (at_last b m, (k, (w, tt))) →
    l ≡ m
put_word_at_one κs b k w l m g h = g ∙ sym h

module _ (κs : Lfts 2) (s : Bor (List ℕ)) (t : MutBor (List ℕ)) (l k : List ℕ) where
  pub words_of_one :
      (r q : ℕ) →
      words_of.Post κs (s, (t, tt)) r (s, (at_last t l, tt)) →
      words_of.Post κs (s, (t, tt)) q (s, (at_last t k, tt)) →
      (r ≡ q) × (l ≡ k)
  words_of_one r q g h =
      let e = g.0 ∙ sym h.0 in
      (e, g.1 ∙ ap (λ (n : ℕ). take n (whole_words s.now) ++ drop n t.now) e ∙ sym h.1)

  pub put_words_one : put-words.Post κs (s, (t, tt)) tt (s, (at_last t l, tt)) → put-words.Post κs (s, (t, tt)) tt (s, (at_last t k, tt)) → l ≡ k
  put_words_one g h = g ∙ sym h
