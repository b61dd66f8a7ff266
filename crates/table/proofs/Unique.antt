-- No second outcome meets a promise, in the answer or in the lent memory.
use mathlib.Core.Bool.{Bool}
use mathlib.Core.Path.{◌≡◌, refl, sym, ap, ◌∙◌}
use mathlib.Core.List.{List}
use Prim.Native.Nat.{ℕ}
use contract.Lifetimes.{Lfts}
use denote.Bor.{Bor}
use denote.Ref.{MutBor, at_last}
use Rattle.canon.specs.Row as canon
use Rattle.canon.specs.Row.{count_word}
use Rattle.canon.proofs.Rows.{count_word_count_of}
use Rattle.canon.proofs.Reaches.{reach_back}
use Rattle.types.specs.Means.{layout_means}
use Rattle.std.specs.Prelude.{Result}
use Rattle.types.proofs.Told.{Tells, told, leaf_told}
use Rattle.types.specs.declared.extent.Layout.{Layout}
use Rattle.types.specs.declared.memory.Memory.{Memory}
use Rattle.types.specs.declared.refusal.Refusal.{Refusal}
use Rattle.flat_types.specs.Lists.{words, whole}
use Rattle.flat_types.proofs.Halves.{whole_halves}
use Rattle.flat_types.specs.declared.list.FlatList.{FlatList}
use Rattle.table.specs.Means.{reach_means, reach_of, info_means}
use Rattle.table.specs.declared.info.DefinitionIndex.{DefinitionIndex}
use Rattle.table.specs.declared.info.Info.{Info}
use Rattle.table.specs.declared.reach.Reach.{Reach}
use Rattle.table.specs.declared.row.Row.{Row}
use Rattle.table.proofs.cells.capacity.Reads as capacity
use Rattle.table.proofs.from_bytes.take_row.Reads as take_row
use Rattle.table.proofs.plain.plain_info.Reads as plain-info
use Rattle.table.proofs.plain.plain_info_by_shifts.Reads as plain-info-by-shifts
use Rattle.table.proofs.reach.Reach.deeper.Reads as deeper
use Rattle.table.proofs.reach.Reach.depth.Reads as depth
use Rattle.table.proofs.reach.Reach.is_borrow.Reads as is-borrow
use Rattle.table.proofs.reach.Reach.is_good.Reads as is-good
use Rattle.table.proofs.reach.Reach.join.Reads as join
use Rattle.table.proofs.read.good_first_words.Reads as good-first-words
use Rattle.table.proofs.read.good_later_words.Reads as good-later-words
use Rattle.table.proofs.read.is_good_row.Reads as is-good-row
use Rattle.table.proofs.read.row_flat.Reads as row-flat
use Rattle.table.proofs.read.row_info.Reads as row-info
use Rattle.table.proofs.read.row_kind.Reads as row-kind
use Rattle.table.proofs.read.row_layout.Reads as row_layout
use Rattle.table.proofs.read.row_reach.Reads as row-reach
use Rattle.table.proofs.row.put_row.Reads as put-row
use Rattle.table.proofs.to_bytes.give_row.Reads as give-row

-- an info from its meaning
abbrev back : canon.Info → Info
back x =
    record {
      layouts =
          record {
            in32 = record { size = x.abi.layouts.in32.size; align = x.abi.layouts.in32.align };
            in64 = record { size = x.abi.layouts.in64.size; align = x.abi.layouts.in64.align };
          };
      flat = record { count = count_word x.abi.flats; words = whole x.flat_words };
      reach = reach_of x.reach;
    }

word_told : Tells reach_means
word_told = told reach_means reach_of (λ r. ap (λ (w : ℕ). record { 0 = w }) (reach_back r.0))

info_told : Tells info_means
info_told =
    told info_means back (λ i k. record {
      layouts = i.layouts;
      flat = record { count = count_word_count_of i.flat.count k; words = whole_halves i.flat.words k };
      reach = record { 0 = reach_back i.reach.0 k };
    })

pub capacity_one : (n r q : ℕ) → capacity.Post tt (n, tt) r (n, tt) → capacity.Post tt (n, tt) q (n, tt) → r ≡ q
capacity_one n r q g h = g.0 ∙ sym h.0

pub is_borrow_one : (x : Reach) (r q : Bool) → is-borrow.Post tt (x, tt) r (x, tt) → is-borrow.Post tt (x, tt) q (x, tt) → r ≡ q
is_borrow_one x r q g h = g ∙ sym h

pub depth_one : (x : Reach) (r q : ℕ) → depth.Post tt (x, tt) r (x, tt) → depth.Post tt (x, tt) q (x, tt) → r ≡ q
depth_one x r q g h = g ∙ sym h

pub deeper_one : (x : Reach) (r q : Result Reach Refusal) → deeper.Post tt (x, tt) r (x, tt) → deeper.Post tt (x, tt) q (x, tt) → r ≡ q
deeper_one x r q g h = leaf_told word_told r q (g ∙ sym h)

pub join_one : (x y r q : Reach) → join.Post tt (x, (y, tt)) r (x, (y, tt)) → join.Post tt (x, (y, tt)) q (x, (y, tt)) → r ≡ q
join_one x y r q g h = g ∙ sym h

pub is_good_one : (x : Reach) (r q : Bool) → is-good.Post tt (x, tt) r (x, tt) → is-good.Post tt (x, tt) q (x, tt) → r ≡ q
is_good_one x r q g h = g ∙ sym h

pub plain_info_one : (w : ℕ) (r q : Result Info Refusal) → plain-info.Post tt (w, tt) r (w, tt) → plain-info.Post tt (w, tt) q (w, tt) → r ≡ q
plain_info_one w r q g h = leaf_told info_told r q (g ∙ sym h)

pub plain_info_by_shifts_one : (w : ℕ) (r q : Result Info Refusal) → plain-info-by-shifts.Post tt (w, tt) r (w, tt) → plain-info-by-shifts.Post tt (w, tt) q (w, tt) → r ≡ q
plain_info_by_shifts_one w r q g h = leaf_told info_told r q (g ∙ sym h)

module _ (κs : Lfts 1) (t : Bor (List ℕ)) (j : DefinitionIndex) where
  pub row_info_one : (r q : Info) → row-info.Post κs (t, (j, tt)) r (t, (j, tt)) → row-info.Post κs (t, (j, tt)) q (t, (j, tt)) → r ≡ q
  row_info_one r q g h = info_told r q (g ∙ sym h)

  pub row_kind_one : (r q : ℕ) → row-kind.Post κs (t, (j, tt)) r (t, (j, tt)) → row-kind.Post κs (t, (j, tt)) q (t, (j, tt)) → r ≡ q
  row_kind_one r q g h = g ∙ sym h

  pub row_reach_one : (r q : Reach) → row-reach.Post κs (t, (j, tt)) r (t, (j, tt)) → row-reach.Post κs (t, (j, tt)) q (t, (j, tt)) → r ≡ q
  row_reach_one r q g h = g ∙ sym h

  pub good_first_words_one : (r q : Bool) → good-first-words.Post κs (t, (j, tt)) r (t, (j, tt)) → good-first-words.Post κs (t, (j, tt)) q (t, (j, tt)) → r ≡ q
  good_first_words_one r q g h = g ∙ sym h

  pub good_later_words_one : (r q : Bool) → good-later-words.Post κs (t, (j, tt)) r (t, (j, tt)) → good-later-words.Post κs (t, (j, tt)) q (t, (j, tt)) → r ≡ q
  good_later_words_one r q g h = g ∙ sym h

  pub is_good_row_one : (r q : Bool) → is-good-row.Post κs (t, (j, tt)) r (t, (j, tt)) → is-good-row.Post κs (t, (j, tt)) q (t, (j, tt)) → r ≡ q
  is_good_row_one r q g h = g ∙ sym h

  pub row_layout_one :
      (m : Memory) (r q : Layout) → row_layout.Post κs (t, (j, (m, tt))) r (t, (j, (m, tt))) → row_layout.Post κs (t, (j, (m, tt))) q (t, (j, (m, tt))) → r ≡ q
  row_layout_one m r q g h = told layout_means (λ f. record { size = f.size; align = f.align }) (λ f. refl) r q (g ∙ sym h)

  pub row_flat_one :
      (m : Memory) (r q : FlatList) → row-flat.Post κs (t, (j, (m, tt))) r (t, (j, (m, tt))) → row-flat.Post κs (t, (j, (m, tt))) q (t, (j, (m, tt))) → r ≡ q
  row_flat_one m r q g h = told words (λ p. record { count = p.number; types = p.types }) (λ p. refl) r q (g ∙ sym h)

pub put_row_one :
    (κs : Lfts 1) (t : MutBor (List ℕ)) (j : DefinitionIndex) (row : Row) (l k : List ℕ) →
    put-row.Post κs (t, (j, (row, tt))) tt (at_last t l, (j, (row, tt))) →
    put-row.Post κs (t, (j, (row, tt))) tt (at_last t k, (j, (row, tt))) →
    l ≡ k
put_row_one κs t j row l k g h = g ∙ sym h

pub give_row_one :
    (κs : Lfts 2) (t : Bor (List ℕ)) (j : DefinitionIndex) (b : MutBor (List ℕ)) (l k : List ℕ) →
    give-row.Post κs (t, (j, (b, tt))) tt (t, (j, (at_last b l, tt))) →
    give-row.Post κs (t, (j, (b, tt))) tt (t, (j, (at_last b k, tt))) →
    l ≡ k
give_row_one κs t j b l k g h = g ∙ sym h

pub take_row_one :
    (κs : Lfts 2) (b : Bor (List ℕ)) (i : DefinitionIndex) (t : MutBor (List ℕ)) (j : DefinitionIndex) (l k : List ℕ) →
    take_row.Post κs (b, (i, (t, (j, tt)))) tt (b, (i, (at_last t l, (j, tt)))) →
    take_row.Post κs (b, (i, (t, (j, tt)))) tt (b, (i, (at_last t k, (j, tt)))) →
    l ≡ k
take_row_one κs b i t j l k g h = g ∙ sym h
