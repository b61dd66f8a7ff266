-- The loop of a build, in canon's own recursion: what holds of the rows written and read back, the place and the
-- table, and what each way out of the loop answers.
use mathlib.Core.Path.{◌≡◌, refl, sym, ap, ◌∙◌}
use mathlib.Core.List.{List, [], ◌∷◌, ◌++◌, map}
use mathlib.Core.Option.{Option, none, some}
use Prim.Native.Nat.{ℕ, zero, suc, ◌+◌, ◌-◌, ◌≤◌, ◌<◌}
use native.Mathlib.Nat.{sub-zero}
use native.Mathlib.Numerals.{add-one}
use native.Mathlib.Omega.{arith}
use lib.ListN.{length, get_or, take, drop, drop_of_length-le, length-append, length-map, length-take}
use lib.Seq.{take_all, drop-cons, drop-drop}
use borrow.Author.Tests.{lt-ltb, le-ltb}
use Rattle.canon.specs.Answer.{Leaf, is, no as refuses, Answer, ok, refused, too_long, no_room}
use Rattle.canon.specs.Types.{Ty}
use Rattle.canon.specs.Row.{row_of}
use Rattle.canon.specs.Table.{capacity, put_from, put_rows}
use Rattle.canon.specs.Description.{kind_of, Defined, define, Built, follow, build_from, most_words, build, answered, built, build_answer, table_after}
use Rattle.canon.proofs.Tests.{impossible}
use Rattle.canon.proofs.Cells.{length_put_rows, put_rows_snoc}
use Rattle.canon.proofs.Built.{Sound}
use Rattle.canon.proofs.Stopped.{sound_more, Comes, begins as first, passes, comes_build}
use Rattle.canon.specs.Cost.{rows_among, length_behind, references_behind, references_from, rows_read, reported, build_reads}
use Rattle.canon.proofs.Refusals.{accepted_spells}
use Rattle.canon.proofs.Costs.{rows_read_next, comes_read, rows_read_most}
use Rattle.table.specs.Rows.{table_with}
use Rattle.table.proofs.Reading.{put_there}
use Rattle.build.specs.Steps.{member_look}
use Rattle.build.specs.Kinds.{DefinedIs, defined_at}
use Rattle.build.proofs.LookLaws.{look_built}
use Rattle.build.proofs.DefinitionLaws.{defined_leaf, defined_at_lem, moves_on}

abbrev stop : List Ty → Option ℕ → Built
stop ts o = record { types = ts; stopped = o }

-- the table t with the rows of the types
abbrev rows_of : List Ty → List ℕ → List ℕ
rows_of ts t = put_rows (capacity (length t)) 0 (map row_of ts) t

-- the types so far, i of them, have their rows in the table u, which was lent as t; from the place at on the rest of the words ws is still to be built.
-- 02: "after each definition the running number is the one for the definitions so far", whose words stand before the place
pub record Running (ws t u : List ℕ) (i at reads : ℕ) : Type 0 where
  pub types : List Ty
  pub counted : length types ≡ i
  pub sound : Sound (capacity (length t)) types
  pub held : u ≡ put_rows (capacity (length t)) 0 (map row_of types) t
  pub inside : at ≤ length ws
  pub comes : Comes (capacity (length t)) ws (capacity (length t) - i) types (drop at ws)
  pub read : reads ≡ rows_read (take at ws)

-- the answer a, the table u and what is reported with the answer are canon's
pub record Answered (ws t u : List ℕ) (a : Answer ℕ) : Type 0 where
  pub answer : a ≡ build_answer ws t
  pub table : u ≡ table_after ws t
  pub reads : reported a (rows_read ws) ≡ build_reads ws t

answers : (ws t : List ℕ) (ts : List Ty) (o : Option ℕ) → built ws t ≡ stop ts o → Answered ws t (rows_of ts t) (answered (length ts) o)
unfolding build_answer table_after build_reads
answers ws t ts o e = record { answer = rw e; table = rw e; reads = rw e }

-- Before the loop

pub too_long_lem : (ws t : List ℕ) → most_words < length ws → Answered ws t t (refused too_long 0)
unfolding build put_rows
too_long_lem ws t h = answers ws t [] (some too_long) (rw (lt-ltb most_words (length ws) h))

pub begins : (ws t : List ℕ) → Running ws t t 0 0 0
unfolding put_rows references_from rows_among
begins ws t =
    record {
      types = [];
      counted = refl;
      sound = record { passed = tt; fits = omega arith };
      held = refl;
      inside = omega arith;
      comes = rw (sub-zero (capacity (length t))) first;
      read = refl;
    }

map_snoc : (ts : List Ty) (t : Ty) → map row_of (ts ++ t ∷ []) ≡ map row_of ts ++ row_of t ∷ []
map_snoc [] t = refl
map_snoc (u ∷ ts) t = ap (λ (rs : List (List ℕ)). row_of u ∷ rs) (map_snoc ts t)

module _ {ws t u : List ℕ} {i at reads : ℕ} (r : Running ws t u i at reads) where
  abbrev room : ℕ
  room = capacity (length t)

  -- the table keeps its length
  pub same_length : length u ≡ length t
  same_length = ap length r.held ∙ length_put_rows room 0 (map row_of r.types) t

  -- no more rows were read back than there are words
  pub running_most : reads ≤ length ws
  running_most = omega (arith, r.read, rows_read_most (take at ws), length-take at ws)

  pub all_read : length ws ≤ at → reads ≡ rows_read ws
  all_read h = r.read ∙ ap rows_read (take_all at ws h)

  -- Ways out: where canon's build stops after the types so far

  settled : (o : Option ℕ) → build_from (room - i) r.types (drop at ws) ≡ stop r.types o → length ws ≤ most_words → Answered ws t u (answered i o)
  unfolding build
  settled o e short =
      rw (r.held, ← r.counted) (answers ws t r.types o (rw (le-ltb most_words (length ws) short) (sym (comes_build r.comes) ∙ e)))

  pub ends : length ws ≤ most_words → length ws ≤ at → Answered ws t u (ok i)
  unfolding build_from
  ends short h = settled none (rw (drop_of_length-le ws {i = at} h) (go (room - i))) short
    where
      go : (k : ℕ) → build_from k r.types [] ≡ stop r.types none
      go zero = refl
      go (suc k) = refl

  pub no_room_lem : length ws ≤ most_words → at < length ws → room ≤ i → Answered ws t u (refused no_room i)
  unfolding build_from
  no_room_lem short h l =
      let e : room - i ≡ 0 = omega arith in
      settled (some no_room) (rw (e, drop-cons ws at 0 h)) short

  -- The definition at the place is canon's

  abbrev verdict : Leaf Defined
  verdict = define r.types (get_or ws at 0) (drop (at + 1) ws)

  judged : at < length ws → defined_at (member_look u i) ws at ≡ defined_leaf at verdict
  judged h = rw (r.held, ← r.counted, look_built t r.types r.sound) (defined_at_lem r.types ws at h)

  abbrev followed : Leaf Defined → Built
  followed v = follow r.types (drop (at + 1) ws) v (λ ts ws'. build_from (room - (i + 1)) ts ws')

  opened : at < length ws → i < room → build_from (room - i) r.types (drop at ws) ≡ followed verdict
  unfolding build_from
  opened h l =
      let e : room - i ≡ suc (room - (i + 1)) = omega arith in
      rw (e, drop-cons ws at 0 h, add-one at)

  pub stops : (x : ℕ) → defined_at (member_look u i) ws at ≡ refuses x → length ws ≤ most_words → at < length ws → i < room → Answered ws t u (refused x i)
  stops x e short h l = settled (some x) (opened h l ∙ go verdict (sym (judged h) ∙ e)) short
    where
      go : (v : Leaf Defined) → defined_leaf at v ≡ refuses x → followed v ≡ stop r.types (some x)
      go (is d) q = impossible (cc)
      go (refuses y) q = let p : y ≡ x = cc in ap (λ (z : ℕ). stop r.types (some z)) p

  -- One row more

  put : (x : Ty) → i < room → table_with u i (row_of x) ≡ rows_of (r.types ++ x ∷ []) t
  put x l =
      put_there u room i (ap capacity (sym same_length)) (row_of x) l
      ∙ ap (put_from room i 0 (row_of x)) r.held
      ∙ ap (λ (n : ℕ). put_from room n 0 (row_of x) (rows_of r.types t)) (omega (arith, r.counted, length-map r.types row_of))
      ∙ sym (put_rows_snoc room 0 (map row_of r.types) (row_of x) t)
      ∙ ap (λ (rs : List (List ℕ)). put_rows room 0 rs t) (sym (map_snoc r.types x))

  -- what the definition at the place reads and what the rest reads make up what was left to read
  one_less : (x : Defined) → verdict ≡ is x → at < length ws →
      rows_read (drop at ws) ≡ rows_among (references_behind (kind_of (get_or ws at 0)) (drop (at + 1) ws)) + rows_read (drop (at + 1 + x.length) ws)
  one_less x p h =
      let s = accepted_spells r.types (get_or ws at 0) (drop (at + 1) ws) x p in
      let n : length_behind (kind_of (get_or ws at 0)) (drop (at + 1) ws) ≡ x.length = rw s.0.known s.1 in
      rw (drop-cons ws at 0 h, ← (add-one at), rows_read_next (get_or ws at 0) (drop (at + 1) ws), n, drop-drop x.length (at + 1) ws)

  pub goes_on :
      (d : DefinedIs) (read : ℕ) → defined_at (member_look u i) ws at ≡ is d → read ≡ rows_among (references_behind (kind_of (get_or ws at 0)) (drop (at + 1) ws)) →
      at < length ws → i < room → Running ws t (table_with u i d.row) (i + 1) d.next (reads + read)
  goes_on d read e f h l = go verdict refl (sym (judged h) ∙ e)
    where
      go : (v : Leaf Defined) → verdict ≡ v → defined_leaf at v ≡ is d → Running ws t (table_with u i d.row) (i + 1) d.next (reads + read)
      go (refuses x) p q = impossible (cc)
      go (is x) p q =
          let same : record { row = row_of x.type; next = at + 1 + x.length } ≡ d = cc in
          let left : room - i ≡ suc (room - (i + 1)) = omega arith in
          let next = rw (left, drop-cons ws at 0 h, ← (add-one at)) at r.comes in
          let after = rw (drop-drop x.length (at + 1) ws) at (passes next p) in
          let inside = (moves_on (member_look u i) ws at d e).1 in
          record {
            types = r.types ++ x.type ∷ [];
            counted = length-append r.types (x.type ∷ []) ∙ omega (arith, r.counted);
            sound = sound_more room r.types (get_or ws at 0) (drop (at + 1) ws) x p r.sound (omega (arith, r.counted));
            held = rw (← same) (put x.type l);
            inside = inside;
            comes = rw (← same) after;
            read =
                rw (← same, f)
                (omega (arith, r.read, comes_read at r.inside r.comes, comes_read (at + 1 + x.length) (rw (← same) at inside) after, one_less x p h));
          }
