-- The lines of a built table are those of canon's rows.
use mathlib.Core.Path.{◌≡◌, refl, sym, ap, ap₂, ◌∙◌}
use mathlib.Core.List.{List, [], ◌∷◌, ◌++◌, append_assoc, append-nil, map}
use Prim.Native.Nat.{ℕ, zero, suc, ◌+◌, ◌/◌, ◌%◌, ◌≤◌, ◌<◌, min}
use native.Mathlib.Nat.{add-zero}
use native.Mathlib.Numerals.{add-one}
use native.Mathlib.Omega.{arith}
use borrow.Author.Tests.{lt-ltb, le-ltb, eq-eqb, ne_eqb}
use lib.ListN.{length, get_or, take, drop, length-map}
use lib.Seq.{take-suc, take_all, length-take-le}
use Rattle.build.specs.Means.{accepted}
use Rattle.build.proofs.Accepts.{accepted_types}
use Rattle.canon.specs.Answer.{Answer, refused}
use Rattle.canon.specs.Description.{build, built, build_answer, table_after}
use Rattle.canon.specs.Row.{row_of}
use Rattle.canon.specs.Table.{capacity, put_rows}
use Rattle.canon.specs.Types.{Ty}
use Rattle.canon.proofs.Built.{every_sixteen, built_sound}
use Rattle.canon.proofs.Cells.{room_fits, length_put_rows, row_at_lem}
use Rattle.table.specs.Rows.{row_in}
use Rattle.table.proofs.Reading.{row_there}
use Rattle.words.specs.Words.{whole_words}
use Rattle.words.proofs.Laws.{length_whole, front_read}
use Rattle.listing.specs.Text.{row_line, row_lines, end_line, told, described, printed}
use Rattle.listing.specs.Told.{table_lines}

lines_snoc : (i : ℕ) (rs : List (List ℕ)) (r : List ℕ) → row_lines i rs ++ row_line (i + length rs) r ≡ row_lines i (rs ++ r ∷ [])
unfolding row_lines
lines_snoc i [] r = rw (add-zero i) (sym (append-nil (row_line i r)))
lines_snoc i (x ∷ rs) r =
    let e : i + suc (length rs) ≡ suc i + length rs = omega arith in
    append_assoc (row_line i x) (row_lines (suc i) rs) (row_line (i + suc (length rs)) r)
    ∙ ap (λ (l : List ℕ). row_line i x ++ l) (rw e (lines_snoc (suc i) rs r))

-- a table whose first rows are these has their lines
lines_are :
    (rs : List (List ℕ)) (u : List ℕ) (n : ℕ) → n ≤ length rs → ((j : ℕ) → j < n → row_in u j ≡ get_or rs j []) →
    table_lines u n ≡ row_lines 0 (take n rs)
unfolding table_lines row_lines
lines_are rs u zero h same = refl
lines_are rs u (suc n) h same =
    let e : n ≡ 0 + length (take n rs) = omega (arith, length-take-le n rs (omega arith)) in
    ap₂ ◌++◌ (lines_are rs u n (omega arith) (λ j l. same j (omega arith))) (ap₂ row_line e (same n (omega arith)))
    ∙ lines_snoc 0 (take n rs) (get_or rs n [])
    ∙ ap (row_lines 0) (sym (take-suc rs n [] (omega arith)))

-- a turn of the loop over the rows
pub lines_turn : (u : List ℕ) (n : ℕ) → table_lines u n ++ row_line n (row_in u n) ≡ table_lines u (n + 1)
unfolding table_lines
lines_turn u n = rw (add-one n)

module _ (ws t : List ℕ) where
  abbrev types : List Ty
  types = (built ws t).types

  row_told : (j : ℕ) → j < length types → row_in (table_after ws t) j ≡ get_or (map row_of types) j []
  unfolding table_after
  row_told j h =
      let s = built_sound ws t in
      let room = capacity (length t) in
      let e : room ≡ capacity (length (put_rows room 0 (map row_of types) t)) = ap capacity (sym (length_put_rows room 0 (map row_of types) t)) in
      row_there (put_rows room 0 (map row_of types) t) room j e (omega (arith, s.fits))
      ∙ row_at_lem room (length t) (map row_of types) t j (room_fits (length t)).1 (every_sixteen types) (omega (arith, length-map types row_of, s.fits)) refl
      (omega (arith, length-map types row_of))

  pub few_rows : {a : Answer ℕ} → a ≡ build_answer ws t → accepted a ≤ 1024
  few_rows e = rw e (omega (arith, accepted_types ws t, (built_sound ws t).fits, (room_fits (length t)).0))

  lines_told : table_lines (table_after ws t) (accepted (build_answer ws t)) ≡ row_lines 0 (map row_of types)
  lines_told =
      let n : length (map row_of types) ≡ length types = length-map types row_of in
      rw (accepted_types ws t)
      (lines_are (map row_of types) (table_after ws t) (length types) (omega arith) row_told
      ∙ ap (row_lines 0) (take_all (length types) (map row_of types) (omega arith)))

  -- the lines of a table of 16,384 words after a build, and that of its answer
  pub description_told :
      {a : Answer ℕ} {u : List ℕ} {n : ℕ} → a ≡ build_answer ws t → u ≡ table_after ws t → n ≡ accepted a → length t ≡ 16384 →
      table_lines u n ++ end_line a ≡ described ws
  unfolding described build_answer capacity
  description_told d e f l = rw (f, e, d, lines_told) (ap (λ (n : ℕ). told (build (capacity n) ws)) l)

-- Which text is printed

module _ (b : List ℕ) where
  pub printed_long : 65536 < length b → end_line (refused 1 0) ≡ printed b
  unfolding printed
  printed_long h = rw (lt-ltb 65536 (length b) h)

  pub printed_odd : length b ≤ 65536 → 0 < length b % 4 → end_line (refused 2 0) ≡ printed b
  unfolding printed
  printed_odd h z = rw (le-ltb 65536 (length b) h, ne_eqb (length b % 4) 0 (λ e. omega arith))

  pub printed_words :
      (w u : List ℕ) (n : ℕ) → length w ≡ 16384 → length b ≤ 65536 → length b % 4 ≤ 0 →
      n ≡ min (length b / 4) (length w) → u ≡ take n (whole_words b) ++ drop n w →
      described (take n u) ≡ printed b
  unfolding printed
  printed_words w u n l h z e f =
      rw (le-ltb 65536 (length b) h, eq-eqb (length b % 4) 0 (omega arith)) (ap described (front_read b w u n e f ∙ take_all (length w) (whole_words b) (omega (arith, length_whole b))))
