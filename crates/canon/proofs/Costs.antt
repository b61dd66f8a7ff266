-- The rows read back are no more than the words, or the references of a placement. Wherever a build comes to, the definitions so far are accepted by
-- themselves, and their rows read back and those of the rest make up the whole: the running number. In what is accepted the references of the form 64+j are
-- those that name an earlier definition; of what is read from a table those that name one of its rows, and those that go deep.
use mathlib.Core.Path.{◌≡◌, refl, sym, ap, ◌∙◌}
use mathlib.Core.Bool.{Bool, true, false, cond, ◌&&◌}
use mathlib.Core.List.{List, [], ◌∷◌, ◌++◌, append_assoc, append-nil}
use mathlib.Core.Option.{Option, none, some}
use Prim.Native.Nat.{ℕ, zero, suc, ◌+◌, ◌-◌, ◌≤◌, ◌<◌}
use native.Mathlib.Decide.{dec_le}
use native.Mathlib.Numerals.{add-one}
use native.Mathlib.Omega.{arith}
use lib.Dec.{leb, ltb, eqb}
use lib.ListN.{length, get_or, take, drop, get_elem?, length-append, length-take, length-drop, take-append-drop}
use lib.Seq.{length-take-le, take-suc, take_at, drop_at}
use borrow.Author.Tests.{ltb-true, leb-true, eqb-true, lt-leb, le-leb, lt-ltb, le-ltb, eq-eqb, ne_eqb}
use Rattle.canon.specs.Types.{Ty, plain, bare, holding, Kind}
use Rattle.canon.specs.Answer.{is, no as refuses, Answer, ok, refused, then, unless, map_option, too_long, bad_ref, bad_row}
use Rattle.canon.specs.Layout.{Memory}
use Rattle.canon.specs.Reach.{word_reach, good_reach, reach, depth}
use Rattle.canon.specs.Row.{Info, info_of, row_abi, row_info, word, unused_zero, is_discriminant, is_good}
use Rattle.canon.specs.Table.{capacity, row_at}
use Rattle.canon.specs.Question.{plain_info, read_row, read, infos, no_table, ask, placing, placement_answer}
use Rattle.canon.specs.Description.{reference, mark, case_of, kind_of, Shape, counted, fixed, shape_of, body_length, references_of, Defined, bodied, define, most_words, build, build_answer}
use Rattle.canon.specs.Cost.{is_row, rows_among, length_behind, references_behind, references_from, rows_read, reported, build_reads, placement_reads}
use Rattle.canon.proofs.Tests.{impossible, both_true}
use Rattle.canon.proofs.Bodies.{body_some, NamesOrMark, body_named}
use Rattle.canon.proofs.Tightest.{every_more}
use Rattle.canon.proofs.Built.{found_inside, at_each}
use Rattle.canon.proofs.Refusals.{Spells, accepted_spells}
use Rattle.canon.proofs.Stopped.{Comes, begins, passes, comes_room, comes_all}
use Rattle.canon.proofs.Cells.{rows_most}
use Rattle.canon.proofs.Questions.{after_abi, first_ok}
use Rattle.canon.specs.Placement.{Every}

-- Among references

pub one_few : (b : Bool) → cond b 1 0 ≤ 1
one_few true = omega arith
one_few false = omega arith

pub rows_among_most : (ws : List ℕ) → rows_among ws ≤ length ws
unfolding rows_among
rows_among_most [] = omega arith
rows_among_most (w ∷ ws) = omega (arith, one_few (is_row w), rows_among_most ws)

pub rows_append : (us vs : List ℕ) → rows_among (us ++ vs) ≡ rows_among us + rows_among vs
unfolding rows_among
rows_append [] vs = omega arith
rows_append (u ∷ us) vs = rw (rows_append us vs) (omega arith)

-- one reference more
pub rows_next : (ws : List ℕ) (k : ℕ) → k < length ws → rows_among (take (k + 1) ws) ≡ rows_among (take k ws) + rows_among (get_or ws k 0 ∷ [])
rows_next ws k h = rw (add-one k, take-suc ws k 0 h) (rows_append (take k ws) (get_or ws k 0 ∷ []))

-- Among the words of a description

-- the rest of a body holds no reference that is not told yet
past_body : (left : ℕ) (ws : List ℕ) → references_from left ws ≡ references_from 0 (drop left ws)
unfolding references_from
past_body zero ws = refl
past_body (suc left) [] = refl
past_body (suc left) (w ∷ ws) = past_body left ws

-- one definition and what stands behind it
pub rows_read_next : (w : ℕ) (ws : List ℕ) → rows_read (w ∷ ws) ≡ rows_among (references_behind (kind_of w) ws) + rows_read (drop (length_behind (kind_of w) ws) ws)
unfolding references_from
rows_read_next w ws =
    let n = length_behind (kind_of w) ws in
    rows_append (references_behind (kind_of w) ws) (references_from n ws)
    ∙ ap (λ (l : List ℕ). rows_among (references_behind (kind_of w) ws) + rows_among l) (past_body n ws)

shape_few : (s : Shape) (b : List ℕ) → length (references_of s b) ≤ length b
shape_few counted b = omega (arith, length-drop 1 b)
shape_few (fixed r k) b = omega (arith, length-take r b)

behind_few : (o : Option Kind) (ws : List ℕ) → length (references_behind o ws) + (length ws - length_behind o ws) ≤ length ws
behind_few none ws = omega arith
behind_few (some k) ws =
    let n = body_length (shape_of k) (get_or ws 0 0) in
    omega (arith, shape_few (shape_of k) (take n ws), length-take n ws)

-- of one definition
pub behind_most : (o : Option Kind) (ws : List ℕ) → rows_among (references_behind o ws) ≤ length ws
behind_most o ws = omega (arith, rows_among_most (references_behind o ws), behind_few o ws)

references_few : (left : ℕ) (ws : List ℕ) → length (references_from left ws) ≤ length ws - left
unfolding references_from
references_few left [] = omega arith
references_few (suc left) (w ∷ ws) = omega (arith, references_few left ws)
references_few zero (w ∷ ws) =
    let n = length_behind (kind_of w) ws in
    omega (arith, length-append (references_behind (kind_of w) ws) (references_from n ws), references_few n ws, behind_few (kind_of w) ws)

-- "this never exceeds the number of words"
pub rows_read_most : (ws : List ℕ) → rows_read ws ≤ length ws
rows_read_most ws = omega (arith, rows_among_most (references_from 0 ws), references_few 0 ws)

reported_few : {A : Type 0} (a : Answer A) (n : ℕ) → reported a n ≤ n
reported_few (ok a) n = omega arith
reported_few (refused x p) n = omega arith

pub build_within : (ws t : List ℕ) → build_reads ws t ≤ length ws
unfolding build_reads
build_within ws t = omega (arith, reported_few (build_answer ws t) (rows_read ws), rows_read_most ws)

pub placement_within : (m : Memory) (t : List ℕ) (n : ℕ) (ws : List ℕ) (room : ℕ) → placement_reads m t n ws room ≤ length ws
unfolding placement_reads
placement_within m t n ws room = omega (arith, reported_few (placement_answer m t n ws room) (rows_among ws), rows_among_most ws)

-- a call whose list is too long is refused, and reports 0

long_build : (ws t : List ℕ) → most_words < length ws → build_answer ws t ≡ refused too_long 0
unfolding build_answer build
long_build ws t h = rw (lt-ltb most_words (length ws) h)

pub build_few : (ws t : List ℕ) → build_reads ws t ≤ most_words
unfolding build_reads
build_few ws t =
    elim (dec_le (length ws) most_words) [
      | yes h ↦ omega (arith, build_within ws t)
      | no h ↦ rw (long_build ws t (omega arith)) (omega arith)
    ]

module _ (m : Memory) (t : List ℕ) (n : ℕ) (ws : List ℕ) (room : ℕ) where
  pub long_placement : most_words < length ws → placement_answer m t n ws room ≡ refused too_long 0
  unfolding placement_answer placing ask unless then
  long_placement h = rw (lt-ltb most_words (length ws) h)

  pub placement_few : placement_reads m t n ws room ≤ most_words
  unfolding placement_reads
  placement_few =
      elim (dec_le (length ws) most_words) [
        | yes h ↦ omega (arith, placement_within m t n ws room)
        | no h ↦ rw (long_placement (omega arith)) (omega arith)
      ]

-- The running number

-- no body that begins in these words goes on behind them: what stands there is read as a description of its own
abbrev Complete : List ℕ → Type 0
Complete us = (vs : List ℕ) → references_from 0 (us ++ vs) ≡ references_from 0 us ++ references_from 0 vs

none_complete : Complete []
unfolding references_from
none_complete vs = refl

-- one definition: its kind word w and a body at the front of the words ws
module _ (w : ℕ) (ws : List ℕ) (k : Kind) (known : kind_of w ≡ some k) (there : body_length (shape_of k) (get_or ws 0 0) ≤ length ws) where
  abbrev body : List ℕ
  body = take (body_length (shape_of k) (get_or ws 0 0)) ws

  body_length_lem : length body ≡ body_length (shape_of k) (get_or ws 0 0)
  body_length_lem = length-take-le (body_length (shape_of k) (get_or ws 0 0)) ws there

  same_count : (vs : List ℕ) → get_or (body ++ vs) 0 0 ≡ get_or ws 0 0
  same_count vs = go ws (body_length (shape_of k) (get_or ws 0 0)) (body_some k (get_or ws 0 0)) there
    where
      go : (l : List ℕ) (n : ℕ) → 1 ≤ n → n ≤ length l → get_or (take n l ++ vs) 0 0 ≡ get_or l 0 0
      go [] n h e = absurd (omega arith)
      go (x ∷ l) zero h e = absurd (omega arith)
      go (x ∷ l) (suc n) h e = refl

  definition_first : (vs : List ℕ) → references_from 0 (w ∷ body ++ vs) ≡ references_behind (kind_of w) ws ++ references_from 0 vs
  unfolding references_from
  definition_first vs =
      rw (known, same_count vs, past_body (body_length (shape_of k) (get_or ws 0 0)) (body ++ vs), take_at body vs _ body_length_lem, drop_at body vs _ body_length_lem)

  -- behind whole definitions it makes one more

  alone : references_from 0 (w ∷ body) ≡ references_behind (kind_of w) ws
  unfolding references_from
  alone =
      ap (λ (l : List ℕ). references_from 0 (w ∷ l)) (sym (append-nil body))
      ∙ definition_first []
      ∙ append-nil (references_behind (kind_of w) ws)

  one_more_complete : (us : List ℕ) → Complete us → Complete (us ++ w ∷ body)
  one_more_complete us h vs =
      ap (references_from 0) (append_assoc us (w ∷ body) vs)
      ∙ h (w ∷ body ++ vs)
      ∙ ap (λ (l : List ℕ). references_from 0 us ++ l) (definition_first vs ∙ ap (λ (l : List ℕ). l ++ references_from 0 vs) (sym alone))
      ∙ sym (append_assoc (references_from 0 us) (references_from 0 (w ∷ body)) (references_from 0 vs))
      ∙ ap (λ (l : List ℕ). l ++ references_from 0 vs) (sym (h (w ∷ body)))

  -- and what stands behind it does not change what it defines
  body_alone : (ts : List Ty) (vs : List ℕ) → define ts w (body ++ vs) ≡ define ts w ws
  unfolding bodied
  body_alone ts vs =
      let n = body_length (shape_of k) (get_or ws 0 0) in
      rw (known, same_count vs, take_at body vs n body_length_lem, le-ltb (length ws) n there, le-ltb (length (body ++ vs)) n (omega (arith, length-append body vs, body_length_lem)))

-- where a build comes to the words vs after the types ts: the words before them are whole definitions, and with any words behind them it comes as far
record SoFar (room : ℕ) (ws : List ℕ) (left : ℕ) (ts : List Ty) (vs : List ℕ) : Type 0 where
  words : List ℕ
  before : ws ≡ words ++ vs
  complete : Complete words
  again : (zs : List ℕ) → Comes room (words ++ zs) left ts zs

so_far : {room : ℕ} {ws : List ℕ} {left : ℕ} {ts : List Ty} {vs : List ℕ} → Comes room ws left ts vs → SoFar room ws left ts vs
so_far begins = record { words = []; before = refl; complete = none_complete; again = λ zs. begins }
so_far {room} {ws} (passes {left} {ts} {w} {vs} {d} c e) =
    let b = so_far c in
    let s = accepted_spells ts w vs d e in
    let body : List ℕ = take (body_length (shape_of s.0.kind) (get_or vs 0 0)) vs in
    record {
      words = b.words ++ w ∷ body;
      before =
          b.before
          ∙ ap (λ (l : List ℕ). b.words ++ w ∷ l) (sym (take-append-drop d.length vs))
          ∙ rw s.1 (sym (append_assoc b.words (w ∷ take d.length vs) (drop d.length vs)));
      complete = one_more_complete w vs s.0.kind s.0.known s.0.whole b.words b.complete;
      again = λ zs.
          rw (append_assoc b.words (w ∷ body) zs)
          (rw (drop_at body zs d.length (body_length_lem w vs s.0.kind s.0.known s.0.whole ∙ s.1))
          at (passes (b.again (w ∷ body ++ zs)) (body_alone w vs s.0.kind s.0.known s.0.whole ts zs ∙ e)));
    }

-- the rows read before and behind make up the whole
so_far_sum : {room : ℕ} {ws : List ℕ} {left : ℕ} {ts : List Ty} {vs : List ℕ} (b : SoFar room ws left ts vs) → rows_read ws ≡ rows_read b.words + rows_read vs
so_far_sum {vs = vs} b = ap rows_read b.before ∙ ap rows_among (b.complete vs) ∙ rows_append (references_from 0 b.words) (references_from 0 vs)

-- by the place where they part
pub comes_read :
    {room : ℕ} {ws : List ℕ} {left : ℕ} {ts : List Ty} (at : ℕ) → at ≤ length ws → Comes room ws left ts (drop at ws) →
    rows_read ws ≡ rows_read (take at ws) + rows_read (drop at ws)
comes_read {ws = ws} at h c =
    let b = so_far c in
    let us = b.words in
    let n : length us ≡ at = omega (arith, ap length b.before, length-append us (drop at ws), length-drop at ws) in
    let same : take at ws ≡ us = ap (take at) b.before ∙ take_at us (drop at ws) at n in
    so_far_sum b ∙ ap (λ (l : List ℕ). rows_read l + rows_read (drop at ws)) (sym same)

accepted_short : (ws t : List ℕ) (n : ℕ) → build_answer ws t ≡ ok n → length ws ≤ most_words
accepted_short ws t n e =
    elim (dec_le (length ws) most_words) [
      | yes h ↦ h
      | no h ↦ let r = long_build ws t (omega arith) in impossible (cc)
    ]

-- "after each definition the running number is the one for the definitions so far": a build of these is accepted and reports it, and with what the rest
-- reads it makes up the whole
pub so_far_read :
    (ws t : List ℕ) (n : ℕ) → build_answer ws t ≡ ok n → {left : ℕ} {ts : List Ty} {vs : List ℕ} → Comes (capacity (length t)) ws left ts vs →
    (us : List ℕ) × (ws ≡ us ++ vs) × (build_answer us t ≡ ok (length ts)) × (build_reads ws t ≡ build_reads us t + rows_read vs)
unfolding build_reads
so_far_read ws t n e {vs = vs} c =
    let b = so_far c in
    let us = b.words in
    let short = accepted_short ws t n e in
    let few : length us ≤ most_words = omega (arith, short, ap length b.before, length-append us vs) in
    let accepted = comes_all us t (rw (append-nil us) at (b.again [])) few in
    (us, b.before, accepted, rw (e, accepted) (so_far_sum b))

-- What is accepted

-- "64+j means definition j", after n definitions
abbrev pub is_earlier : ℕ → ℕ → Bool
is_earlier n w = leb 64 w && ltb (w - 64) n

-- a table has at most 1,024 rows, so that the mark names none of them
module _ (n : ℕ) (few : n ≤ 1024) where
  earlier_row : (w : ℕ) → 64 ≤ w → w - 64 < n → is_row w ≡ true
  earlier_row w h l = rw (le-leb 64 w h, ne_eqb w mark (λ e. omega arith))

  mark_row : (w : ℕ) → w ≡ mark → is_row w ≡ is_earlier n w
  mark_row w e = rw (eq-eqb w mark e, le-leb 64 w (omega arith), le-ltb (w - 64) n (omega arith))

  plain_row : (w : ℕ) → leb 64 w ≡ false → is_row w ≡ is_earlier n w
  plain_row w e = rw e

-- of one reference alone

pub plain_unread : (w : ℕ) → w < 64 → rows_among (w ∷ []) ≡ 0
unfolding rows_among
plain_unread w h = rw (lt-leb 64 w h)

pub mark_unread : (w : ℕ) → w ≡ mark → rows_among (w ∷ []) ≡ 0
unfolding rows_among
mark_unread w e = rw (le-leb 64 w (omega arith), eq-eqb w mark e)

pub earlier_read : (n : ℕ) → n ≤ 1024 → (w : ℕ) → 64 ≤ w → w - 64 < n → rows_among (w ∷ []) ≡ 1
unfolding rows_among
earlier_read n few w h l = rw (earlier_row n few w h l)

pub below_mark_read : (w : ℕ) → w < mark → cond (leb 64 w) 1 0 ≡ rows_among (w ∷ [])
unfolding rows_among
below_mark_read w h = rw (ne_eqb w mark (λ e. omega arith)) (go (leb 64 w))
  where
    go : (b : Bool) → cond b 1 0 ≡ cond (b && true) 1 0 + 0
    go true = omega arith
    go false = omega arith

-- so a reference that is accepted is of the form 64+j exactly when it names an earlier definition
named_row : (ts : List Ty) → length ts ≤ 1024 → (w : ℕ) → NamesOrMark ts w → is_row w ≡ is_earlier (length ts) w
unfolding case_of reference
named_row ts few w h = go (eqb w mark) (leb 64 w) refl refl h.1
  where
    go : (b c : Bool) → eqb w mark ≡ b → leb 64 w ≡ c →
        cond b (some bare) (map_option holding (cond c (get_elem? ts (w - 64)) (get_elem? plain w))) ≡ some h.0 → is_row w ≡ is_earlier (length ts) w
    go true c e f g = mark_row (length ts) few w (eqb-true w mark e)
    go false false e f g = plain_row (length ts) few w f
    go false true e f g = there (get_elem? ts (w - 64)) refl g
      where
        there : (o : Option Ty) → get_elem? ts (w - 64) ≡ o → map_option holding o ≡ some h.0 → is_row w ≡ is_earlier (length ts) w
        there none p q = impossible (cc)
        there (some t) p q =
            let l = found_inside ts (w - 64) t p in
            earlier_row (length ts) few w (leb-true 64 w f) l ∙ sym (rw (f, lt-ltb (w - 64) (length ts) l))

-- of every reference of a definition that a build accepts
accepted_rows :
    (ts : List Ty) → length ts ≤ 1024 → (w : ℕ) (ws : List ℕ) (t : Ty) → Spells ts w ws t →
    Every (λ v. is_row v ≡ is_earlier (length ts) v) (references_behind (kind_of w) ws)
accepted_rows ts few w ws t s =
    let b = take (body_length (shape_of s.kind) (get_or ws 0 0)) ws in
    rw s.known (every_more (named_row ts few) (references_of (shape_of s.kind) b) (body_named ts s.kind b t s.named))

-- where a build comes to it
pub comes_rows :
    {room : ℕ} → room ≤ 1024 → {ws : List ℕ} {left : ℕ} {ts : List Ty} {w : ℕ} {vs : List ℕ} {d : Defined} →
    Comes room ws (suc left) ts (w ∷ vs) → define ts w vs ≡ is d → Every (λ v. is_row v ≡ is_earlier (length ts) v) (references_behind (kind_of w) vs)
comes_rows few {ts = ts} {w} {vs} {d} c e = accepted_rows ts (omega (arith, comes_room c)) w vs d.type (accepted_spells ts w vs d e).0

-- Reading a table

good_deep : (r : List ℕ) → is_good r ≡ true → 1 ≤ (row_info r).reach.depth
unfolding good_reach word_reach
good_deep r good =
    let flat64 = (both_true (unused_zero (row_abi r).flats (word r 6)) _ (after_abi r good)).1 in
    let discriminant = (both_true (unused_zero (row_abi r).flats (word r 7)) _ flat64).1 in
    let reached = (both_true (is_discriminant (word r 8)) _ discriminant).1 in
    omega (arith, leb-true 2 (word r 15) (both_true (leb 2 (word r 15)) _ reached).0)

-- what has no definition is not deep
plain_depth : (w : ℕ) (t : Ty) → get_elem? plain w ≡ some t → depth t ≡ 0
unfolding reach
plain_depth w t e = at_each (λ u. depth u ≡ 0) plain
    (refl, (refl, (refl, (refl, (refl, (refl, (refl, (refl, (refl, (refl, (refl, (refl, (refl, (refl, (refl, (refl, (refl, (refl, tt)))))))))))))))))) w t e

module _ (t : List ℕ) (n : ℕ) (there : no_table t n ≡ false) where
  -- so a reference that is read is of the form 64+j exactly when it goes deep
  read_deep : (w : ℕ) (i : Info) → read t n w ≡ is i → is_row w ≡ ltb 0 i.reach.depth
  unfolding read read_row plain_info
  read_deep w i h = go (leb 64 w) (ltb (w - 64) n) (is_good (row_at t (w - 64))) (get_elem? plain w) refl refl refl refl h
    where
      go :
          (b c g : Bool) (o : Option Ty) → leb 64 w ≡ b → ltb (w - 64) n ≡ c → is_good (row_at t (w - 64)) ≡ g → get_elem? plain w ≡ o →
          cond b (cond c (cond g (is (row_info (row_at t (w - 64)))) (refuses bad_row)) (refuses bad_ref)) (plain_info o) ≡ is i →
          is_row w ≡ ltb 0 i.reach.depth
      go true true true o p q good f e =
          let same : row_info (row_at t (w - 64)) ≡ i = cc in
          earlier_row n (rows_most t n there) w (leb-true 64 w p) (ltb-true (w - 64) n q)
          ∙ sym (rw (← same) (lt-ltb 0 _ (good_deep (row_at t (w - 64)) good)))
      go true true false o p q good f e = impossible (cc)
      go true false g o p q good f e = impossible (cc)
      go false c g none p q good f e = impossible (cc)
      go false c g (some u) p q good f e =
          let same : info_of u ≡ i = cc in
          rw (p, ← same, plain_depth w u f)

  -- and exactly when it names one of the rows
  read_row_lem : (w : ℕ) (i : Info) → read t n w ≡ is i → is_row w ≡ is_earlier n w
  unfolding read
  read_row_lem w i h = go (leb 64 w) (ltb (w - 64) n) refl refl h
    where
      go :
          (b c : Bool) → leb 64 w ≡ b → ltb (w - 64) n ≡ c →
          cond b (cond c (read_row (row_at t (w - 64))) (refuses bad_ref)) (plain_info (get_elem? plain w)) ≡ is i → is_row w ≡ is_earlier n w
      go true true p q e = earlier_row n (rows_most t n there) w (leb-true 64 w p) (ltb-true (w - 64) n q) ∙ sym (rw (p, q))
      go true false p q e = impossible (cc)
      go false c p q e = plain_row n (rows_most t n there) w p

-- of every reference of a list that is read
pub infos_row :
    (t : List ℕ) (n : ℕ) → no_table t n ≡ false → (p : ℕ) (ws : List ℕ) (is' : List Info) → infos (read t n) p ws ≡ ok is' → Every (λ v. is_row v ≡ is_earlier n v) ws
unfolding infos
infos_row t n there p [] is' e = tt
infos_row t n there p (w ∷ ws) is' e =
    let r = first_ok p (read t n w) (infos (read t n) (suc p) ws) is' e in
    (read_row_lem t n there w r.0 r.2, infos_row t n there (suc p) ws r.1 r.3)

-- how many of these infos are those of definitions
unfoldable pub deep_among : List Info → ℕ
deep_among [] = 0
deep_among (i ∷ is') = cond (ltb 0 i.reach.depth) 1 0 + deep_among is'

-- what the references of a list give tells how many of them are of the form 64+j
pub infos_rows : (t : List ℕ) (n : ℕ) → no_table t n ≡ false → (p : ℕ) (ws : List ℕ) (is' : List Info) → infos (read t n) p ws ≡ ok is' → rows_among ws ≡ deep_among is'
unfolding infos rows_among deep_among
infos_rows t n there p [] is' e = let q : [] ≡ is' = cc in rw (← q)
infos_rows t n there p (w ∷ ws) is' e =
    let r = first_ok p (read t n w) (infos (read t n) (suc p) ws) is' e in
    rw (r.4, read_deep t n there w r.0 r.2, infos_rows t n there (suc p) ws r.1 r.3)
