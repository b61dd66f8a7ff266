-- A reference in the next definition, over a table that holds the rows of the types so far, gives what those types say: canon's `read`, whose test of a row never fails here.
use mathlib.Core.Path.{◌≡◌, refl, ap, ◌∙◌, fun_ext}
use mathlib.Core.Bool.{Bool, true, false, cond}
use mathlib.Core.List.{List, map}
use mathlib.Core.Option.{Option, none, some}
use Prim.Native.Nat.{ℕ, ◌-◌, ◌<◌, ◌≤◌}
use Rattle.std.specs.Prelude.{◌≢◌}
use native.Mathlib.Nat.{le_refl}
use native.Mathlib.Omega.{arith}
use lib.Dec.{leb, ltb}
use lib.ListN.{length, get_elem?}
use lib.Seq.{take_all}
use borrow.Author.Tests.{ltb-true, lt-ltb, le-ltb, lt-leb, le-leb, eq-eqb, ne_eqb}
use Rattle.canon.specs.Answer.{Leaf, is, no as refuses, bad_ref, bad_row, and_then}
use Rattle.canon.specs.Types.{Ty, plain}
use Rattle.canon.specs.Row.{Info, row_of, row_info, is_good}
use Rattle.canon.specs.Table.{capacity, row_at, put_rows}
use Rattle.canon.specs.Description.{mark, reference}
use Rattle.canon.specs.Question.{plain_info, read_row, read}
use Rattle.canon.proofs.Tests.{impossible}
use Rattle.canon.proofs.Cells.{length_put_rows}
use Rattle.canon.proofs.Built.{Sound, type_info, rows_read_lem}
use Rattle.table.specs.Rows.{row_in}
use Rattle.table.proofs.Reading.{row_there}
use Rattle.build.specs.Steps.{member_look, case_look}

-- What a reference gives, by how great it is

pub plain_look : (t : List ℕ) (i w : ℕ) → w < 64 → member_look t i w ≡ plain_info (get_elem? plain w)
unfolding member_look
plain_look t i w h = rw (lt-leb 64 w h)

pub earlier_look : (t : List ℕ) (i w : ℕ) → 64 ≤ w → w - 64 < i → member_look t i w ≡ is (row_info (row_in t (w - 64)))
unfolding member_look
earlier_look t i w h l = rw (le-leb 64 w h, lt-ltb (w - 64) i l)

pub later_look : (t : List ℕ) (i w : ℕ) → 64 ≤ w → i ≤ w - 64 → member_look t i w ≡ refuses bad_ref
unfolding member_look
later_look t i w h l = rw (le-leb 64 w h, le-ltb (w - 64) i l)

pub bare_look : (look : ℕ → Leaf Info) (w : ℕ) → w ≡ mark → case_look look w ≡ is none
unfolding case_look
bare_look look w h = rw (eq-eqb w mark h)

pub held_look : (look : ℕ → Leaf Info) (w : ℕ) → w ≢ mark → case_look look w ≡ and_then (look w) (λ i. is (some i))
unfolding case_look
held_look look w h = rw (ne_eqb w mark h)

-- Over a table that holds the rows of types

-- a row that reads as a type's info is of good form
good_read : (r : List ℕ) (o : Option Ty) → read_row r ≡ plain_info o → is (row_info r) ≡ plain_info o
unfolding read_row plain_info
good_read r o e = go (is_good r) o e
  where
    go : (b : Bool) (o : Option Ty) → cond b (is (row_info r)) (refuses bad_row) ≡ plain_info o → is (row_info r) ≡ plain_info o
    go true o e = e
    go false none e = impossible (cc)
    go false (some t) e = impossible (cc)

look_read : (u : List ℕ) (i w : ℕ) (o : Option Ty) → i ≤ capacity (length u) → read u i w ≡ plain_info o → member_look u i w ≡ plain_info o
unfolding read member_look
look_read u i w o fits = go (leb 64 w) (ltb (w - 64) i) refl
  where
    go : (b c : Bool) → ltb (w - 64) i ≡ c →
        cond b (cond c (read_row (row_at u (w - 64))) (refuses bad_ref)) (plain_info (get_elem? plain w)) ≡ plain_info o →
        cond b (cond c (is (row_info (row_in u (w - 64)))) (refuses bad_ref)) (plain_info (get_elem? plain w)) ≡ plain_info o
    go false c h e = e
    go true false h e = e
    go true true h e =
        rw (row_there u (capacity (length u)) (w - 64) refl (omega (arith, ltb-true (w - 64) i h))) (good_read (row_at u (w - 64)) o e)

pub look_built :
    (t : List ℕ) (ts : List Ty) →
    Sound (capacity (length t)) ts →
    member_look (put_rows (capacity (length t)) 0 (map row_of ts) t) (length ts) ≡ type_info ts
look_built t ts s = fun_ext one
  where
    after : List ℕ
    after = put_rows (capacity (length t)) 0 (map row_of ts) t

    fits : length ts ≤ capacity (length after)
    fits = rw (length_put_rows (capacity (length t)) 0 (map row_of ts) t) s.fits

    one : (w : ℕ) → member_look after (length ts) w ≡ type_info ts w
    one w =
        look_read after (length ts) w (reference ts w) fits
        (rows_read_lem ts t (length ts) w s (le_refl (length ts)) ∙ ap (λ (us : List Ty). type_info us w) (take_all (length ts) ts (le_refl (length ts))))
