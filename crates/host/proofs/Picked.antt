-- What is read of the picked rows by the new names is what is read of the lent table by the references.
use mathlib.Core.Path.{◌≡◌, refl, sym, ap, ◌∙◌}
use mathlib.Core.Bool.{false}
use mathlib.Core.List.{List}
use Prim.Native.Nat.{ℕ, ◌+◌, ◌-◌, ◌≤◌, ◌<◌}
use native.Mathlib.Decide.{ℕ_discrete, dec_le}
use native.Mathlib.Omega.{arith}
use lib.Dec.{ltb}
use lib.ListN.{length, get_or, get_elem?, set}
use lib.Seq.{get_or-set_same, get_or-set_other}
use borrow.Author.Tests.{lt-ltb, le-ltb, lt-leb, le-leb}
use Rattle.canon.specs.Answer.{no as refuses, bad_ref}
use Rattle.canon.specs.Types.{plain}
use Rattle.canon.specs.Table.{capacity, row_at}
use Rattle.canon.specs.Question.{plain_info, read_row, read, no_table}
use Rattle.table.specs.Rows.{row_in, table_with}
use Rattle.table.proofs.Reading.{row_is, length_cells}
use Rattle.table.proofs.Putting.{length_with, row_put, row_kept}
use Rattle.host.specs.Picked.{read_picked, Keeps, Names}

-- What a reference gives

read_plain : (t : List ℕ) (n w : ℕ) → w < 64 → read t n w ≡ plain_info (get_elem? plain w)
unfolding read
read_plain t n w h = rw (lt-leb 64 w h)

read_defined : (t : List ℕ) (n w : ℕ) → 64 ≤ w → w - 64 < n → read t n w ≡ read_row (row_at t (w - 64))
unfolding read
read_defined t n w h l = rw (le-leb 64 w h, lt-ltb (w - 64) n l)

read_undefined : (t : List ℕ) (n w : ℕ) → 64 ≤ w → n ≤ w - 64 → read t n w ≡ refuses bad_ref
unfolding read
read_undefined t n w h l = rw (le-leb 64 w h, le-ltb (w - 64) n l)

-- whether a table is there, by its number of words
pub no_rows_is : (words n : ℕ) (t : List ℕ) → length t ≡ words → ltb (capacity words) n ≡ no_table t n
unfolding no_table
no_rows_is words n t e = rw e

-- Picking

pub same_kept : (slot : ℕ) (p : List ℕ) → Keeps slot p p
same_kept slot p = record { size = refl; kept = λ w h. refl }

module _ (t : List ℕ) (n w : ℕ) (p : List ℕ) (slot : ℕ) where
  -- a plain reference, and one to no definition, pick nothing

  pub plain_picked : w < 64 → read_picked p w ≡ read t n w
  plain_picked h = read_plain p (capacity (length p)) w h ∙ sym (read_plain t n w h)

  pub none_picked : 64 ≤ w → n ≤ w - 64 → read_picked p 63 ≡ read t n w
  unfolding plain_info
  none_picked h l = read_plain p (capacity (length p)) 63 (omega arith) ∙ sym (read_undefined t n w h l)

  -- one to a definition has its row in the slot, and the rows before it are kept

  module _ (there : no_table t n ≡ false) (room : slot < capacity (length p)) (h : 64 ≤ w) (l : w - 64 < n) where
    sixteen : length (row_in t (w - 64)) ≡ 16
    sixteen = rw (row_is t n (w - 64) there l) (length_cells (capacity (length t)) t (w - 64) 0 16)

    abbrev after : List ℕ
    after = table_with p slot (row_in t (w - 64))

    pub row_picked : read_picked after (64 + slot) ≡ read t n w
    row_picked =
        read_defined after (capacity (length after)) (64 + slot) (omega arith) (rw (length_with p slot (row_in t (w - 64))) (omega arith))
        ∙ ap (λ (j : ℕ). read_row (row_at after j)) (omega arith)
        ∙ ap read_row (row_put p slot (row_in t (w - 64)) sixteen room t (w - 64) (row_is t n (w - 64) there l))
        ∙ sym (read_defined t n w h l)

    pub others_kept : Keeps slot p after
    others_kept = record { size = length_with p slot (row_in t (w - 64)); kept = go }
      where
        go : (v : ℕ) → v < 64 + slot → read_picked after v ≡ read_picked p v
        go v b =
            elim (dec_le 64 v) [
              | yes d ↦
                  read_defined after (capacity (length after)) v d (rw (length_with p slot (row_in t (w - 64))) (omega arith))
                  ∙ ap read_row (row_kept p slot (row_in t (w - 64)) sixteen room (v - 64) (omega arith) (λ e. omega arith))
                  ∙ sym (read_defined p (capacity (length p)) v d (omega arith))
              | no d ↦ read_plain after (capacity (length after)) v (omega arith) ∙ sym (read_plain p (capacity (length p)) v (omega arith))
            ]

-- A list, as the loop goes over it

pub keeps_on : (slot k : ℕ) (p q r : List ℕ) → Keeps slot p q → Keeps (slot + k) q r → Keeps slot p r
keeps_on slot k p q r g h = record { size = h.size ∙ g.size; kept = λ w l. h.kept w (omega arith) ∙ g.kept w l }

-- the first k have their new names
abbrev pub Picking : ℕ → ℕ → List ℕ → List ℕ → List ℕ → ℕ → List ℕ → Type 0
Picking slot k p us t n ws = (j : ℕ) → j < k → (get_or us j 0 < 64 + (slot + k)) × (read_picked p (get_or us j 0) ≡ read t n (get_or ws j 0))

module _ (slot k : ℕ) (p us t : List ℕ) (n : ℕ) (ws : List ℕ) (g : Picking slot k p us t n ws) where
  pub picking_more :
      (q : List ℕ) (v : ℕ) → k < length us → Keeps (slot + k) p q → v < 64 + (slot + k + 1) → read_picked q v ≡ read t n (get_or ws k 0) →
      Picking slot (k + 1) q (set us k v) t n ws
  picking_more q v l keeps below alike j h =
      elim (ℕ_discrete j k) [
        | yes e ↦ rw (e, get_or-set_same us k v 0 l) (omega arith, alike)
        | no e ↦
            let one = g j (omega arith) in
            rw (get_or-set_other us k j v 0 e) (omega (arith, one.0), keeps.kept (get_or us j 0) (omega (arith, one.0)) ∙ one.1)
      ]

  pub picking_all : k ≡ length ws → k ≡ length us → Names (slot + k) p us t n ws
  picking_all e l = record { count = sym l ∙ e; alike = λ j h. g j (omega arith) }

pub names_kept :
    (slot slot' : ℕ) (p q us t : List ℕ) (n : ℕ) (ws : List ℕ) → Names slot p us t n ws → Keeps slot' p q → slot ≤ slot' → Names slot q us t n ws
names_kept slot slot' p q us t n ws g keeps h =
    record { count = g.count; alike = λ k l. let one = g.alike k l in (one.0, keeps.kept (get_or us k 0) (omega (arith, one.0)) ∙ one.1) }
