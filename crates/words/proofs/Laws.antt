-- Laws of the words in bytes: what is read back after words are put, and what is kept.
use mathlib.Core.Path.{◌≡◌, refl, sym, ap, ap₂, ◌∙◌}
use mathlib.Core.List.{List, [], ◌∷◌, ◌++◌, map, append-nil, append_assoc}
use Prim.Native.Nat.{ℕ, zero, suc, ◌+◌, ◌*◌, ◌/◌, ◌%◌, ◌-◌, ◌^◌, ◌≤◌, ◌<◌, min}
use native.Mathlib.Decide.{ℕ_discrete, dec_le}
use native.Mathlib.Nat.{add-zero, add-suc, suc-add, zero-add, add_comm, mul_comm, mod-eq_of_lt}
use native.Mathlib.Numerals.{add-one}
use native.Mathlib.Omega.{arith}
use lib.Arith.{mod-mul}
use lib.ListN.{length, get_or, take, drop, set, length-set, length-map, length-take, drop_of_length-le, get_or-eq_default}
use lib.Seq.{
  take-suc,
  drop-cons,
  append_snoc,
  set_at,
  take_at,
  take_all,
  get_or-take,
  get_or-drop,
  drop_at,
  drop-drop,
  set-get_or,
  set_out,
  set-append_left,
  get_or-set_same,
  get_or-set_other,
  drop-set-lt,
  length-take-le,
  ext_get_or,
  sets,
  sets-eq,
}
use Rattle.std.specs.Int.{w32, to_le_bytes}
use borrow.Rule.Slice.PartMut.{put_mid}
use Rattle.std.specs.Simd.{first_chunks}
use Rattle.words.specs.Words.{word_at, words_of, whole_words, put_word, put_words}

-- Reading

length_words : (b : List ℕ) (k n : ℕ) → length (words_of b k n) ≡ n
unfolding words_of
length_words b k zero = refl
length_words b k (suc n) = ap suc (length_words b (suc k) n)

pub length_whole : (b : List ℕ) → length (whole_words b) ≡ length b / 4
unfolding whole_words
length_whole b = length_words b 0 (length b / 4)

-- what stands at a place among the words
word_of : (b : List ℕ) (k n i : ℕ) → i < n → get_or (words_of b k n) i 0 ≡ word_at b (k + i)
unfolding words_of
word_of b k zero i h = elim h [ ]
word_of b k (suc n) zero h = ap (word_at b) (sym (add-zero k))
word_of b k (suc n) (suc i) h = word_of b (suc k) n i (omega arith) ∙ ap (word_at b) (suc-add k i ∙ sym (add-suc k i))

pub whole_at : (b : List ℕ) (i : ℕ) → i < length b / 4 → get_or (whole_words b) i 0 ≡ word_at b i
unfolding whole_words
whole_at b i h = word_of b 0 (length b / 4) i h ∙ ap (word_at b) (zero-add i)

pub whole_past : (b : List ℕ) (i : ℕ) → length b / 4 ≤ i → get_or (whole_words b) i 0 ≡ 0
whole_past b i h = get_or-eq_default (whole_words b) 0 {n = i} (omega (arith, length_whole b))

-- bytes make words
pub whole_small : (b : List ℕ) → ((j : ℕ) → get_or b j 0 < 256) → (i : ℕ) → get_or (whole_words b) i 0 < 4294967296
unfolding word_at
whole_small b bytes i =
    elim (dec_le (length b / 4) i) [
      | yes h ↦ omega (arith, whole_past b i h)
      | no h ↦ omega (arith, whole_at b i (omega arith), bytes (4 * i), bytes (4 * i + 1), bytes (4 * i + 2), bytes (4 * i + 3))
    ]

-- the chunk k of four bytes is the word k
chunk_at : (k n : ℕ) (b : List ℕ) → k < n → get_or (first_chunks 4 n b) k [] ≡ take 4 (drop (4 * k) b)
chunk_at k zero b h = elim h [ ]
chunk_at zero (suc n) b h = refl
chunk_at (suc k) (suc n) b h = chunk_at k n (drop 4 b) (omega arith) ∙ ap (take 4) (drop-drop (4 * k) 4 b ∙ ap (λ (i : ℕ). drop i b) (omega arith))

pub chunk_word :
    (b : List ℕ) (k : ℕ) (c : List ℕ) {cs : List (List ℕ)} → cs ≡ first_chunks 4 (length b / 4) b → k < length b / 4 → c ≡ get_or cs k [] →
    get_or c 0 0 + 256 * get_or c 1 0 + 65536 * get_or c 2 0 + 16777216 * get_or c 3 0 ≡ get_or (whole_words b) k 0
unfolding word_at
chunk_word b k c e h f =
    rw (f, e, whole_at b k h, chunk_at k (length b / 4) b h, byte 0 (omega arith), byte 1 (omega arith), byte 2 (omega arith), byte 3 (omega arith), add-zero (4 * k))
  where
    byte : (i : ℕ) → i < 4 → get_or (take 4 (drop (4 * k) b)) i 0 ≡ get_or b (4 * k + i) 0
    byte i l = get_or-take 4 (drop (4 * k) b) i 0 l ∙ get_or-drop (4 * k) b i 0

-- the words of the first bytes
pub whole_take : (n : ℕ) (b : List ℕ) → whole_words (take (4 * n) b) ≡ take n (whole_words b)
unfolding word_at
whole_take n b =
    ext_get_or 0 (whole_words front) (take n (whole_words b)) (omega (arith, length_whole front, length-take (4 * n) b, length_whole b, length-take n (whole_words b))) (λ i h. at i (omega (arith, length_whole front, length-take (4 * n) b)))
  where
    front : List ℕ
    front = take (4 * n) b

    at : (i : ℕ) → (i < n) × (i < length b / 4) → get_or (whole_words front) i 0 ≡ get_or (take n (whole_words b)) i 0
    at i h =
        whole_at front i (omega (arith, length-take (4 * n) b))
        ∙ rw (get_or-take (4 * n) b (4 * i) 0 (omega arith), get_or-take (4 * n) b (4 * i + 1) 0 (omega arith), get_or-take (4 * n) b (4 * i + 2) 0 (omega arith), get_or-take (4 * n) b (4 * i + 3) 0 (omega arith))
        (sym (whole_at b i h.1) ∙ sym (get_or-take n (whole_words b) i 0 h.0))

-- a turn of the reading loop
pub read_turn :
    (b w : List ℕ) {u : List ℕ} {k v : ℕ} → k < length b / 4 → k < length w → u ≡ take k (whole_words b) ++ drop k w → v ≡ get_or (whole_words b) k 0 →
    set u k v ≡ take (k + 1) (whole_words b) ++ drop (k + 1) w
read_turn b w {u} {k} {v} h l e f =
    let all = whole_words b in
    let n : k < length all = omega (arith, length_whole b) in
    rw (e, f, add-one k, take-suc all k 0 n, drop-cons w k 0 l)
    (set_at (take k all) (get_or w k 0) (drop (suc k) w) (get_or all k 0) k (length-take-le k all (omega arith))
    ∙ sym (append_snoc (take k all) (get_or all k 0) (drop (suc k) w)))

-- the front of a buffer that words were read into holds them, as many as it has room for
pub front_read :
    (b w u : List ℕ) (n : ℕ) → n ≡ min (length b / 4) (length w) → u ≡ take n (whole_words b) ++ drop n w →
    take n u ≡ take (length w) (whole_words b)
front_read b w u n e f =
    rw f (take_at (take n all) (drop n w) n (length-take-le n all (omega (arith, length_whole b))) ∙ rest)
  where
    all : List ℕ
    all = whole_words b

    rest : take n all ≡ take (length w) all
    rest =
        elim (dec_le (length w) (length b / 4)) [
          | yes l ↦ let q : n ≡ length w = omega arith in ap (λ (i : ℕ). take i all) q
          | no l ↦ take_all n all (omega (arith, length_whole b)) ∙ sym (take_all (length w) all (omega (arith, length_whole b)))
        ]

-- Writing

pub length_put : (k w : ℕ) (b : List ℕ) → length (put_word k w b) ≡ length b
unfolding put_word
length_put k w b = simp length-set

-- four bytes stored at once are stored one after the other
pub put_bytes : (k w : ℕ) (b : List ℕ) {n : ℕ} {ys : List ℕ} → 4 * k + 4 ≤ length b → n ≡ 4 → ys ≡ to_le_bytes w32 w → put_mid (4 * k) n b ys ≡ put_word k w b
unfolding put_word
put_bytes k w b h e f =
    let one : suc (4 * k) ≡ 4 * k + 1 = omega arith in
    let two : suc (suc (4 * k)) ≡ 4 * k + 2 = omega arith in
    let three : suc (suc (suc (4 * k))) ≡ 4 * k + 3 = omega arith in
    let bytes = to_le_bytes w32 w in
    rw (e, f, drop-drop 4 (4 * k) b, ← one, ← two, ← three) (sym (sets-eq bytes b (4 * k) h ∙ append_assoc (take (4 * k) b) bytes (drop (4 * k + 4) b)))

pub length_puts : (k : ℕ) (ws b : List ℕ) → length (put_words k ws b) ≡ length b
unfolding put_words
length_puts k [] b = refl
length_puts k (w ∷ ws) b = length_puts (suc k) ws (put_word k w b) ∙ length_put k w b

-- one word more, and none left

put_turn : (ws b : List ℕ) (k : ℕ) → k < length ws → put_words (k + 1) (drop (k + 1) ws) (put_word k (get_or ws k 0) b) ≡ put_words k (drop k ws) b
unfolding put_words
put_turn ws b k h = rw (add-one, drop-cons ws k 0 h)

put_end : (ws b : List ℕ) (k : ℕ) → length ws ≤ k → put_words k (drop k ws) b ≡ b
unfolding put_words
put_end ws b k h = rw (drop_of_length-le ws h)

-- a turn of the writing loop, over as many words as fit, and its end

module _ (m : ℕ) (ws b : List ℕ) (k : ℕ) where
  pub write_turn : k < min m (length ws) → put_words (k + 1) (drop (k + 1) (take m ws)) (put_word k (get_or ws k 0) b) ≡ put_words k (drop k (take m ws)) b
  write_turn h = rw (← get_or-take m ws k 0 (omega arith)) (put_turn (take m ws) b k (omega (arith, length-take m ws)))

  pub write_end : min m (length ws) ≤ k → put_words k (drop k (take m ws)) b ≡ b
  write_end h = put_end (take m ws) b k (omega (arith, length-take m ws))

puts_append : (k : ℕ) (x y b : List ℕ) → put_words k (x ++ y) b ≡ put_words (k + length x) y (put_words k x b)
unfolding put_words
puts_append k [] y b = rw (add-zero k)
puts_append k (w ∷ x) y b = puts_append (suc k) x y (put_word k w b) ∙ ap (λ (i : ℕ). put_words i y (put_words (suc k) x (put_word k w b))) (omega arith)

-- The four stores of a word

-- a word is four bytes: what is above them is lost
abbrev low : ℕ → ℕ
low w = w % 4294967296

-- one byte more
byte_more : (w c : ℕ) → 0 < c → w % (256 * c) ≡ w % c + c * (w / c % 256)
byte_more w c h = rw (add_comm, mul_comm c) (mod-mul w (omega arith) h)

four_bytes : (w : ℕ) → w % 256 + 256 * (w / 256 % 256) + 65536 * (w / 65536 % 256) + 16777216 * (w / 16777216 % 256) ≡ low w
four_bytes w =
    let two : w % 65536 ≡ w % 256 + 256 * (w / 256 % 256) = byte_more w 256 (omega arith) in
    let three : w % 16777216 ≡ w % 65536 + 65536 * (w / 65536 % 256) = byte_more w 65536 (omega arith) in
    let four : w % 4294967296 ≡ w % 16777216 + 16777216 * (w / 16777216 % 256) = byte_more w 16777216 (omega arith) in
    rw (four, three, two)

-- a number stored among numbers below a bound
pub set_below : (n : ℕ) (b : List ℕ) (i v : ℕ) → v < n → ((j : ℕ) → get_or b j 0 < n) → (j : ℕ) → get_or (set b i v) j 0 < n
set_below n [] i v h bytes j = omega arith
set_below n (x ∷ b) zero v h bytes zero = h
set_below n (x ∷ b) zero v h bytes (suc j) = bytes (suc j)
set_below n (x ∷ b) (suc i) v h bytes zero = bytes 0
set_below n (x ∷ b) (suc i) v h bytes (suc j) = set_below n b i v h (λ m. bytes (suc m)) j

module _ (k w : ℕ) (b : List ℕ) where
  -- after one, two and three stores

  abbrev one : List ℕ
  one = set b (4 * k) (w % 256)

  abbrev two : List ℕ
  two = set one (4 * k + 1) (w / 256 % 256)

  abbrev three : List ℕ
  three = set two (4 * k + 2) (w / 65536 % 256)

  -- what stands behind the word is kept
  put_behind : (n : ℕ) → 4 * k + 4 ≤ n → drop n (put_word k w b) ≡ drop n b
  unfolding put_word
  put_behind n h =
      drop-set-lt n three (4 * k + 3) (w / 16777216 % 256) (omega arith)
      ∙ drop-set-lt n two (4 * k + 2) (w / 65536 % 256) (omega arith)
      ∙ drop-set-lt n one (4 * k + 1) (w / 256 % 256) (omega arith)
      ∙ drop-set-lt n b (4 * k) (w % 256) (omega arith)

  put_front : (c : List ℕ) → 4 * k + 4 ≤ length b → put_word k w (b ++ c) ≡ put_word k w b ++ c
  unfolding put_word
  put_front c h =
      rw (
        set-append_left b c (4 * k) (w % 256) (omega arith),
        set-append_left one c (4 * k + 1) (w / 256 % 256) (simp length-set (omega arith)),
        set-append_left two c (4 * k + 2) (w / 65536 % 256) (simp length-set (omega arith)),
        set-append_left three c (4 * k + 3) (w / 16777216 % 256) (simp length-set (omega arith)),
      )

  -- and every byte of another word
  put_apart : (p : ℕ) → (p / 4 ≡ k → ⊥) → get_or (put_word k w b) p 0 ≡ get_or b p 0
  unfolding put_word
  put_apart p apart =
      get_or-set_other three (4 * k + 3) p (w / 16777216 % 256) 0 (λ e. apart (omega arith))
      ∙ get_or-set_other two (4 * k + 2) p (w / 65536 % 256) 0 (λ e. apart (omega arith))
      ∙ get_or-set_other one (4 * k + 1) p (w / 256 % 256) 0 (λ e. apart (omega arith))
      ∙ get_or-set_other b (4 * k) p (w % 256) 0 (λ e. apart (omega arith))

  word_apart : (i : ℕ) → (i ≡ k → ⊥) → word_at (put_word k w b) i ≡ word_at b i
  unfolding word_at
  word_apart i apart =
      rw (
        put_apart (4 * i) (λ e. apart (omega arith)),
        put_apart (4 * i + 1) (λ e. apart (omega arith)),
        put_apart (4 * i + 2) (λ e. apart (omega arith)),
        put_apart (4 * i + 3) (λ e. apart (omega arith)),
      )

  -- the word itself is read back
  word_put : k < length b / 4 → word_at (put_word k w b) k ≡ low w
  unfolding word_at put_word
  word_put h = rw (byte_0, byte_1, byte_2, byte_3) (four_bytes w)
    where
      byte_0 : get_or (put_word k w b) (4 * k) 0 ≡ w % 256
      byte_0 =
          get_or-set_other three (4 * k + 3) (4 * k) (w / 16777216 % 256) 0 (λ e. omega arith)
          ∙ get_or-set_other two (4 * k + 2) (4 * k) (w / 65536 % 256) 0 (λ e. omega arith)
          ∙ get_or-set_other one (4 * k + 1) (4 * k) (w / 256 % 256) 0 (λ e. omega arith)
          ∙ get_or-set_same b (4 * k) (w % 256) 0 (omega arith)

      byte_1 : get_or (put_word k w b) (4 * k + 1) 0 ≡ w / 256 % 256
      byte_1 =
          get_or-set_other three (4 * k + 3) (4 * k + 1) (w / 16777216 % 256) 0 (λ e. omega arith)
          ∙ get_or-set_other two (4 * k + 2) (4 * k + 1) (w / 65536 % 256) 0 (λ e. omega arith)
          ∙ get_or-set_same one (4 * k + 1) (w / 256 % 256) 0 (simp length-set (omega arith))

      byte_2 : get_or (put_word k w b) (4 * k + 2) 0 ≡ w / 65536 % 256
      byte_2 =
          get_or-set_other three (4 * k + 3) (4 * k + 2) (w / 16777216 % 256) 0 (λ e. omega arith)
          ∙ get_or-set_same two (4 * k + 2) (w / 65536 % 256) 0 (simp length-set (omega arith))

      byte_3 : get_or (put_word k w b) (4 * k + 3) 0 ≡ w / 16777216 % 256
      byte_3 = get_or-set_same three (4 * k + 3) (w / 16777216 % 256) 0 (simp length-set (omega arith))

  -- bytes stay bytes
  put_below : ((j : ℕ) → get_or b j 0 < 256) → (j : ℕ) → get_or (put_word k w b) j 0 < 256
  unfolding put_word
  put_below bytes =
      set_below 256 three (4 * k + 3) (w / 16777216 % 256) (omega arith)
      (set_below 256 two (4 * k + 2) (w / 65536 % 256) (omega arith)
      (set_below 256 one (4 * k + 1) (w / 256 % 256) (omega arith) (set_below 256 b (4 * k) (w % 256) (omega arith) bytes)))

-- Many words

puts_behind : (n k : ℕ) (ws b : List ℕ) → 4 * (k + length ws) ≤ n → drop n (put_words k ws b) ≡ drop n b
unfolding put_words
puts_behind n k [] b h = refl
puts_behind n k (w ∷ ws) b h = puts_behind n (suc k) ws (put_word k w b) (omega arith) ∙ put_behind k w b n (omega arith)

-- what stands behind the bytes is kept
pub puts_front : (k : ℕ) (ws b c : List ℕ) → 4 * (k + length ws) ≤ length b → put_words k ws (b ++ c) ≡ put_words k ws b ++ c
unfolding put_words
puts_front k [] b c h = refl
puts_front k (w ∷ ws) b c h =
    ap (put_words (suc k) ws) (put_front k w b c (omega arith)) ∙ puts_front (suc k) ws (put_word k w b) c (rw (length_put k w b) (omega arith))

-- the bytes after the last whole word are kept
pub put_tail : (ws b : List ℕ) → length ws ≤ length b / 4 → drop (4 * (length b / 4)) (put_words 0 ws b) ≡ drop (4 * (length b / 4)) b
put_tail ws b h = puts_behind (4 * (length b / 4)) 0 ws b (omega arith)

-- putting a word is a store among the words
put_set : (k w : ℕ) (b : List ℕ) → k < length b / 4 → whole_words (put_word k w b) ≡ set (whole_words b) k (low w)
put_set k w b h =
    let n : length (whole_words (put_word k w b)) ≡ length b / 4 = rw (length_whole (put_word k w b), length_put k w b) in
    ext_get_or 0 (whole_words (put_word k w b)) (set (whole_words b) k (low w)) (n ∙ sym (length-set (whole_words b) k (low w) ∙ length_whole b))
    (λ i l. whole_at (put_word k w b) i (rw (length_put k w b) (omega arith)) ∙ at i (omega arith))
  where
    at : (i : ℕ) → i < length b / 4 → word_at (put_word k w b) i ≡ get_or (set (whole_words b) k (low w)) i 0
    at i l =
        elim (ℕ_discrete i k) [
          | yes e ↦ rw e (word_put k w b h ∙ sym (get_or-set_same (whole_words b) k (low w) 0 (omega (arith, length_whole b))))
          | no e ↦ word_apart k w b i e ∙ sym (whole_at b i l) ∙ sym (get_or-set_other (whole_words b) k i (low w) 0 e)
        ]

puts_sets : (k : ℕ) (ws b : List ℕ) → k + length ws ≤ length b / 4 → whole_words (put_words k ws b) ≡ sets (whole_words b) k (map low ws)
unfolding put_words
puts_sets k [] b h = refl
puts_sets k (w ∷ ws) b h =
    puts_sets (suc k) ws (put_word k w b) (rw (length_put k w b) (omega arith))
    ∙ ap (λ (l : List ℕ). sets l (suc k) (map low ws)) (put_set k w b (omega arith))

puts_read : (ws b : List ℕ) → length ws ≤ length b / 4 → whole_words (put_words 0 ws b) ≡ map low ws ++ drop (length ws) (whole_words b)
puts_read ws b h =
    let n : 0 + length (map low ws) ≡ length ws = zero-add (length (map low ws)) ∙ length-map ws low in
    puts_sets 0 ws b (omega arith)
    ∙ sets-eq (map low ws) (whole_words b) 0 (omega (arith, length_whole b))
    ∙ ap (λ (i : ℕ). map low ws ++ drop i (whole_words b)) n

low_same : (ws : List ℕ) → ((i : ℕ) → get_or ws i 0 < 4294967296) → map low ws ≡ ws
low_same [] h = refl
low_same (w ∷ ws) h = ap₂ ◌∷◌ (mod-eq_of_lt (h 0)) (low_same ws (λ i. h (suc i)))

-- what was put is read back, the words after it are kept
pub put_read :
    (ws b : List ℕ) → ((i : ℕ) → get_or ws i 0 < 4294967296) → length ws ≤ length b / 4 →
    whole_words (put_words 0 ws b) ≡ ws ++ drop (length ws) (whole_words b)
put_read ws b small h = puts_read ws b h ∙ ap (λ (l : List ℕ). l ++ drop (length ws) (whole_words b)) (low_same ws small)

-- as many as there are whole words
pub put_all : (ws b : List ℕ) → ((i : ℕ) → get_or ws i 0 < 4294967296) → length ws ≡ length b / 4 → whole_words (put_words 0 ws b) ≡ ws
put_all ws b small h =
    put_read ws b small (omega arith) ∙ ap (λ (l : List ℕ). ws ++ l) (drop_of_length-le (whole_words b) {i = length ws} (omega (arith, length_whole b))) ∙ append-nil ws

-- Putting what stands there already

puts_below : (k : ℕ) (ws b : List ℕ) → ((j : ℕ) → get_or b j 0 < 256) → (j : ℕ) → get_or (put_words k ws b) j 0 < 256
unfolding put_words
puts_below k [] b bytes = bytes
puts_below k (w ∷ ws) b bytes = puts_below (suc k) ws (put_word k w b) (put_below k w b bytes)

-- the four bytes of a word, each in its place
bytes_of :
    (x y z u : ℕ) → x < 256 → y < 256 → z < 256 → u < 256 →
    ((x + 256 * y + 65536 * z + 16777216 * u) % 256 ≡ x)
    × ((x + 256 * y + 65536 * z + 16777216 * u) / 256 % 256 ≡ y)
    × ((x + 256 * y + 65536 * z + 16777216 * u) / 65536 % 256 ≡ z)
    × ((x + 256 * y + 65536 * z + 16777216 * u) / 16777216 % 256 ≡ u)
bytes_of x y z u h i j l = (omega arith, omega arith, omega arith, omega arith)

word_back : (k : ℕ) (b : List ℕ) → ((j : ℕ) → get_or b j 0 < 256) → put_word k (word_at b k) b ≡ b
unfolding put_word word_at
word_back k b bytes =
    let p = bytes_of (get_or b (4 * k) 0) (get_or b (4 * k + 1) 0) (get_or b (4 * k + 2) 0) (get_or b (4 * k + 3) 0) (bytes _) (bytes _) (bytes _) (bytes _) in
    rw (p.0, p.1, p.2, p.3, set-get_or b (4 * k) 0, set-get_or b (4 * k + 1) 0, set-get_or b (4 * k + 2) 0, set-get_or b (4 * k + 3) 0)

words_back : (n k : ℕ) (b : List ℕ) → ((j : ℕ) → get_or b j 0 < 256) → k + n ≡ length b / 4 → put_words k (drop k (whole_words b)) b ≡ b
words_back zero k b bytes h = put_end (whole_words b) b k (omega (arith, length_whole b))
words_back (suc n) k b bytes h =
    sym (put_turn (whole_words b) b k (omega (arith, length_whole b)))
    ∙ ap (put_words (k + 1) (drop (k + 1) (whole_words b))) (ap (λ (w : ℕ). put_word k w b) (whole_at b k (omega arith)) ∙ word_back k b bytes)
    ∙ words_back n (k + 1) b bytes (omega arith)

-- words that are put back unchanged leave their bytes as they were
pub put_rest :
    (x b : List ℕ) → ((j : ℕ) → get_or b j 0 < 256) → length x ≤ length b / 4 →
    put_words 0 (x ++ drop (length x) (whole_words b)) b ≡ put_words 0 x b
put_rest x b bytes h =
    let after = put_words 0 x b in
    let n = length x in
    let rest : drop n (whole_words after) ≡ drop n (whole_words b) = ap (drop n) (puts_read x b h) ∙ drop_at (map low x) (drop n (whole_words b)) n (length-map x low) in
    puts_append 0 x (drop n (whole_words b)) b
    ∙ rw (zero-add n, ← rest) (words_back (length b / 4 - n) n after (puts_below 0 x b bytes) (rw (length_puts 0 x b) (omega arith)))

-- so all of them
pub put_same : (b : List ℕ) → ((j : ℕ) → get_or b j 0 < 256) → put_words 0 (whole_words b) b ≡ b
unfolding put_words
put_same b bytes = put_rest [] b bytes (omega arith)

-- Bytes by their words

-- a byte is read off its word
byte_at : (b : List ℕ) → ((j : ℕ) → get_or b j 0 < 256) → (q r : ℕ) → r < 4 → get_or b (4 * q + r) 0 ≡ word_at b q / 256 ^ r % 256
unfolding word_at
byte_at b bytes q r h = go r h (bytes_of (get_or b (4 * q) 0) (get_or b (4 * q + 1) 0) (get_or b (4 * q + 2) 0) (get_or b (4 * q + 3) 0) (bytes _) (bytes _) (bytes _) (bytes _))
  where
    word : ℕ
    word = get_or b (4 * q) 0 + 256 * get_or b (4 * q + 1) 0 + 65536 * get_or b (4 * q + 2) 0 + 16777216 * get_or b (4 * q + 3) 0

    go :
        (r : ℕ) → r < 4 →
        (word % 256 ≡ get_or b (4 * q) 0)
        × (word / 256 % 256 ≡ get_or b (4 * q + 1) 0)
        × (word / 65536 % 256 ≡ get_or b (4 * q + 2) 0)
        × (word / 16777216 % 256 ≡ get_or b (4 * q + 3) 0) →
        get_or b (4 * q + r) 0 ≡ word / 256 ^ r % 256
    go zero h e = rw (add-zero (4 * q)) (omega (arith, e.0))
    go (suc zero) h e = sym e.1
    go (suc (suc zero)) h e = sym e.2
    go (suc (suc (suc zero))) h e = sym e.3
    go (suc (suc (suc (suc r)))) h e = absurd (omega arith)

-- bytes are the same if their whole words are, and the bytes after them
same_bytes :
    (n : ℕ) (a b : List ℕ) → ((j : ℕ) → get_or a j 0 < 256) → ((j : ℕ) → get_or b j 0 < 256) → length a ≡ length b → n ≤ 4 * (length b / 4) →
    whole_words a ≡ whole_words b → drop n a ≡ drop n b → a ≡ b
same_bytes n a b bytes bytes' l h e f =
    ext_get_or 0 a b l
    (λ p q.
    elim (dec_le (length b / 4) (p / 4)) [
      | yes m ↦
          let i : n + (p - n) ≡ p = omega arith in
          rw (← i) (sym (get_or-drop n a (p - n) 0) ∙ ap (λ (c : List ℕ). get_or c (p - n) 0) f ∙ get_or-drop n b (p - n) 0)
      | no m ↦
          let i : 4 * (p / 4) + p % 4 ≡ p = omega arith in
          rw (← i) (byte_at a bytes (p / 4) (p % 4) (omega arith) ∙ ap (λ (w : ℕ). w / 256 ^ (p % 4) % 256) (word (p / 4) (omega arith)) ∙ sym (byte_at b bytes' (p / 4) (p % 4) (omega arith)))
    ])
  where
    word : (i : ℕ) → i < length b / 4 → word_at a i ≡ word_at b i
    word i h = sym (whole_at a i (rw l h)) ∙ ap (λ (ws : List ℕ). get_or ws i 0) e ∙ whole_at b i h

-- what is put over all words is all that is left of them
pub puts_over :
    (v u b : List ℕ) → ((j : ℕ) → get_or b j 0 < 256) → length u ≡ length b / 4 → length v ≡ length b / 4 →
    put_words 0 v (put_words 0 u b) ≡ put_words 0 v b
puts_over v u b bytes l m =
    let after = put_words 0 u b in
    let same : length after ≡ length b = length_puts 0 u b in
    same_bytes (4 * length v) (put_words 0 v after) (put_words 0 v b) (puts_below 0 v after (puts_below 0 u b bytes)) (puts_below 0 v b bytes)
    (length_puts 0 v after ∙ same ∙ sym (length_puts 0 v b)) (rw (length_puts 0 v b) (omega arith))
    (puts_read v after (omega arith) ∙ ap (λ (l : List ℕ). map low v ++ l) (none after same ∙ sym (none b refl)) ∙ sym (puts_read v b (omega arith)))
    (puts_behind (4 * length v) 0 v after (omega arith) ∙ puts_behind (4 * length v) 0 u b (omega arith) ∙ sym (puts_behind (4 * length v) 0 v b (omega arith)))
  where
    none : (c : List ℕ) → length c ≡ length b → drop (length v) (whole_words c) ≡ []
    none c e = drop_of_length-le (whole_words c) {i = length v} (omega (arith, length_whole c))

-- one word put is all of them put, this one changed
pub put_one :
    (k w : ℕ) (b : List ℕ) → ((j : ℕ) → get_or b j 0 < 256) → w < 4294967296 → k < length b / 4 →
    put_word k w b ≡ put_words 0 (set (whole_words b) k w) b
put_one k w b bytes small h =
    let ws = set (whole_words b) k w in
    let l : length ws ≡ length b / 4 = length-set (whole_words b) k w ∙ length_whole b in
    same_bytes (4 * length ws) (put_word k w b) (put_words 0 ws b) (put_below k w b bytes) (puts_below 0 ws b bytes)
    (length_put k w b ∙ sym (length_puts 0 ws b)) (rw (length_puts 0 ws b) (omega arith))
    (put_set k w b h ∙ ap (set (whole_words b) k) (mod-eq_of_lt small) ∙ sym (put_all ws b (set_below 4294967296 (whole_words b) k w small (whole_small b bytes)) l))
    (put_behind k w b (4 * length ws) (omega arith) ∙ sym (puts_behind (4 * length ws) 0 ws b (omega arith)))

pub put_past : (k w : ℕ) (b : List ℕ) → ((j : ℕ) → get_or b j 0 < 256) → length b / 4 ≤ k → b ≡ put_words 0 (set (whole_words b) k w) b
put_past k w b bytes h = sym (ap (λ (ws : List ℕ). put_words 0 ws b) (set_out (whole_words b) k w (omega (arith, length_whole b))) ∙ put_same b bytes)
