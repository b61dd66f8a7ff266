-- Texts written one after another are one text.
use Rattle.std.proofs.Common.{◌≡◌, ℕ, zero, suc, ◌+◌, ◌/◌, ◌%◌, ◌^◌, ◌≤◌, ◌<◌, List, [], ◌∷◌, ◌++◌, length, get_or, set, take, drop, refl, sym, ap, ◌∙◌, arith, le_refl, add-one, add-zero, append_assoc, append-nil, take_all, length-append, take-append-drop}
use Rattle.std.proofs.Math.Seq.{sets, length-sets, take-suc}
pub use Rattle.std.proofs.lemmas.Grind.{common_steps}
use Rattle.std.proofs.lemmas.Fmt.{AppendsLastDigit, decimal_from_appends, length-decimal-le}
use Rattle.std.proofs.lemmas.List.Edits.{sets-eq}
use Rattle.std.proofs.lemmas.Slice.{put_mid-paste}
use Rattle.std.specs.Fmt as fmt
use borrow.Author.Tests.{lt-ltb, le-ltb}
use borrow.Rule.Slice.PartMut.{put_mid}
use Rattle.listing.specs.Text.{digits, decimal, spaced, spaced_all, written}

-- a run of stores is what the library calls `sets`
written_sets : (bs out : List ℕ) (at : ℕ) → written out at bs ≡ sets out at bs
unfolding written
written_sets [] out at = refl
written_sets (b ∷ bs) out at = written_sets bs (set out at b) (suc at)

pub length_written : (bs out : List ℕ) (at : ℕ) → length (written out at bs) ≡ length out
length_written bs out at = rw (written_sets bs out at) (length-sets out at bs)

-- a copy into the middle writes the text
pub copied :
    (out part text : List ℕ) (at k : ℕ) → part ≡ text → k ≡ length text → at + length text ≤ length out →
    put_mid at k out part ≡ written out at text
copied out part text at k e f fits =
    put_mid-paste at k out part text (length text) e (sym f) refl
    ∙ ap (λ (l : List ℕ). take at out ++ l ++ drop (at + length text) out) (take_all (length text) text (le_refl _))
    ∙ sym (sets-eq text out at fits) ∙ sym (written_sets text out at)

pub written_more : (xs ys out : List ℕ) (at : ℕ) → written (written out at xs) (at + length xs) ys ≡ written out at (xs ++ ys)
unfolding written
written_more [] ys out at = rw (add-zero at)
written_more (x ∷ xs) ys out at =
    let e : at + suc (length xs) ≡ suc at + length xs = omega arith in
    rw e (written_more xs ys (set out at x) (suc at))

-- one text after another, for `grind`
pub ruleset texts = (written_more, common_steps)

-- Digits

appends_last : AppendsLastDigit digits
unfolding digits
appends_last = record { one = λ k n h. rw (lt-ltb n 10 h); more = λ k n h. rw (le-ltb n 10 h) }

-- a number has a digit more for each power of ten that it reaches
pub length_digits : (j k n : ℕ) → k ≤ j → (0 < k → 10 ^ k ≤ n) → n < 10 ^ suc k → suc k ≡ length (digits (suc j) n)
unfolding digits
length_digits j zero n h low high = rw (lt-ltb n 10 (omega arith))
length_digits zero (suc k) n h low high = absurd (omega arith)
length_digits (suc j) (suc k) n h low high =
    let l : 10 ^ suc k ≤ n = low (omega arith) in
    rw (le-ltb n 10 (omega arith), length-append (digits (suc j) (n / 10)) ((48 + n % 10) ∷ []))
    (omega (arith, length_digits j k (n / 10) (omega arith) (λ p. omega arith) (omega arith)))

-- the library prints a word as these digits
pub decimal_is : (n : ℕ) → n < 2 ^ 32 → fmt.decimal n ≡ decimal n
decimal_is n h = sym (decimal_from_appends digits appends_last 10 n (omega arith) (length-decimal-le 10 n (omega arith) (omega arith) (omega arith)))

-- a number that the library writes is n, so it has room where n has, and what was written up to an end is n's digits from where they start

pub digits_fit : (m n end : ℕ) → n < 2 ^ 32 → length (decimal n) ≤ end → m ≡ n → length (fmt.decimal m) ≤ end
digits_fit m n end small fits e = let l : length (fmt.decimal m) ≡ length (decimal n) = ap (λ (k : ℕ). length (fmt.decimal k)) e ∙ ap length (decimal_is n small) in omega arith

pub decimal_written :
    (out new : List ℕ) (m n at end start : ℕ) → n < 2 ^ 32 → end ≡ at + length (decimal n) → end ≤ length out →
    start + length (fmt.decimal m) ≡ end → drop start new ≡ fmt.decimal m ++ drop end out → take start new ≡ take start out → m ≡ n →
    new ≡ written out at (decimal n)
decimal_written out new m n at end start small e fits s d t f =
    let same : fmt.decimal m ≡ decimal n = ap fmt.decimal f ∙ decimal_is n small in
    let l : length (fmt.decimal m) ≡ length (decimal n) = ap length same in
    let first : start ≡ at = omega arith in
    sym (take-append-drop start new)
    ∙ rw (d, t, same, first, e) (sym (written_sets (decimal n) out at ∙ sets-eq (decimal n) out at (omega arith) ∙ append_assoc (take at out) (decimal n) (drop (at + length (decimal n)) out)))

-- Numbers, one after another

spaced_snoc : (ns : List ℕ) (n : ℕ) → spaced_all ns ++ spaced n ≡ spaced_all (ns ++ n ∷ [])
unfolding spaced_all
spaced_snoc [] n = sym (append-nil (spaced n))
spaced_snoc (m ∷ ns) n = append_assoc (spaced m) (spaced_all ns) (spaced n) ∙ ap (λ (l : List ℕ). spaced m ++ l) (spaced_snoc ns n)

pub spaced_turn : (ns : List ℕ) (k : ℕ) → k < length ns → spaced_all (take k ns) ++ spaced (get_or ns k 0) ≡ spaced_all (take (k + 1) ns)
spaced_turn ns k h = spaced_snoc (take k ns) (get_or ns k 0) ∙ ap spaced_all (rw (add-one k) (sym (take-suc ns k 0 h)))
