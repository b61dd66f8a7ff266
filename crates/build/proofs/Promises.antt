-- What the promise of `build` says of the standard: demand 3 for the records and tuples of a description, what questions read from the table,
-- that the wider memory is never the smaller, how deep a type goes, and how many rows were read back.
use mathlib.Core.Path.{◌≡◌, refl, sym, ap, ◌∙◌}
use mathlib.Core.Logic.{◌⊎◌, inr, ◌↔◌}
use mathlib.Core.Bool.{true}
use mathlib.Core.List.{List, ◌∷◌, ◌++◌}
use mathlib.Core.Option.{some}
use Prim.Native.Nat.{ℕ, suc, ◌+◌, ◌≤◌, ◌<◌}
use lib.ListN.{length, take, get_elem?}
use contract.Lifetimes.{Lfts}
use denote.Ref.{Bor, MutBor, at_last}
use Rattle.std.specs.Prelude.{Result}
use Rattle.canon.specs.Answer.{Answer, ok, refused, too_large, too_deep}
use Rattle.canon.specs.Cost.{rows_read, reported, build_reads}
use Rattle.canon.specs.Types.{Ty, Members, Kind}
use Rattle.canon.specs.Layout.{Memory, mem32, mem64, within, starts, members}
use Rattle.canon.specs.Placement.{NoPlacement}
use Rattle.canon.specs.Row.{word, row_of, row_abi}
use Rattle.canon.specs.Reach.{reach_word, reach, depth, deepest}
use Rattle.canon.specs.Table.{capacity, row_at}
use Rattle.canon.specs.Description.{kind_of, is_too_large, most_words, built, build_answer}
use Rattle.canon.specs.Question.{read}
use Rattle.canon.proofs.Wider.{NeverSmaller, row_wider}
use Rattle.canon.proofs.Rows.{definition_deep}
use Rattle.canon.proofs.Refusals.{Product, Spells, Passes, Tightest, either_none}
use Rattle.canon.proofs.Stopped.{Comes, ComesTo, stopped_nine, stopped_six, build_six}
use Rattle.canon.proofs.Costs.{build_within, so_far_read}
use Rattle.canon.proofs.Built.{Accepted, built_sound, type_at, type_info, reads_built}
use Rattle.build.specs.Means.{built_means, built_reads, accepted}
use Rattle.table.specs.declared.info.DefinitionIndex.{DefinitionIndex}
use Rattle.table.specs.declared.refused.Refused.{Refused}
use Rattle.build.specs.declared.Built.{Built}
use Rattle.build.proofs.Accepts.{accepted_types, row_is, row_layout, fits_in, product_tightest}
use Rattle.build.proofs.build.Reads as build

-- a row's word 15 tells what its type reaches, which is 1 to 100 deep
pub record Deep (w : ℕ) (u : Ty) : Type 0 where
  pub told : w ≡ reach_word (reach u)
  pub deep : 1 ≤ depth u
  pub shallow : depth u ≤ deepest

accepted_deep : (u : Ty) → Accepted u → Deep (word (row_of u) 15) u
unfolding row_of
accepted_deep u a = record { told = refl; deep = definition_deep u a.definition; shallow = a.shallow }

module _ (κs : Lfts 2) (ws : Bor (List ℕ)) (t : MutBor (List ℕ)) (r : Result Built (Refused DefinitionIndex)) (l : List ℕ) (promise : build.Post κs (ws, (t, tt)) r (ws, (at_last t l, tt))) where
  -- 6 at i exactly when the definition i, which the build comes to, passes every earlier check and is too large for the 64-bit memory: never on account of the 32-bit memory alone
  pub large_at :
      (i : ℕ) →
      (built_means r ≡ refused too_large i)
      ↔ ((length ws.now ≤ most_words) × (d : ComesTo (capacity (length t.now)) ws.now) × (length d.types ≡ i)
      × (u : Ty) × Passes d.types d.word d.rest u × (is_too_large mem64 u ≡ true))
  large_at i = rw promise.0 (stopped_six ws.now t.now i)

  -- 9 at i exactly when the words of the definition i, which the build comes to, spell a type that is deeper than 100
  pub deep_at :
      (i : ℕ) →
      (built_means r ≡ refused too_deep i)
      ↔ ((length ws.now ≤ most_words) × (d : ComesTo (capacity (length t.now)) ws.now) × (length d.types ≡ i)
      × (u : Ty) × Spells d.types d.word d.rest u × (deepest < depth u))
  deep_at i = rw promise.0 (stopped_nine ws.now t.now i)

  -- accepted, it reports "exactly the number of references of the form 64+j in the description"
  pub reads_are : (n : ℕ) → built_means r ≡ ok n → built_reads r ≡ rows_read ws.now
  unfolding build_reads
  reads_are n e = promise.2 ∙ ap (λ (a : Answer ℕ). reported a (rows_read ws.now)) (sym promise.0 ∙ e)

  -- 02: "after each definition the running number is the one for the definitions so far": wherever an accepted build comes to, one of the words before
  -- is accepted, and what it reports makes up the whole with what the rest reads
  pub reads_so_far :
      (n : ℕ) → built_means r ≡ ok n → {left : ℕ} {ts : List Ty} {vs : List ℕ} → Comes (capacity (length t.now)) ws.now left ts vs →
      (us : List ℕ) × (ws.now ≡ us ++ vs) × (build_answer us t.now ≡ ok (length ts)) × (built_reads r ≡ build_reads us t.now + rows_read vs)
  reads_so_far n e c = rw promise.2 (so_far_read ws.now t.now n (sym promise.0 ∙ e) c)

  -- accepted or not, it "never exceeds the number of words"
  pub reads_within : built_reads r ≤ length ws.now
  reads_within = rw promise.2 (build_within ws.now t.now)

  module _
      {left : ℕ} {ts : List Ty} {w : ℕ} {vs : List ℕ} {k : Kind} {type : Members → Ty}
      (comes : Comes (capacity (length t.now)) ws.now (suc left) ts (w ∷ vs)) (product : Product k type) (known : kind_of w ≡ some k)
      (short : length ws.now ≤ most_words)
    where
      -- a record or tuple that the build comes to is refused 6 exactly when it passes every earlier check and one of the two memories admits no placement
      pub refused_six :
          (built_means r ≡ refused too_large (length ts))
          ↔ ((us : Members) × Passes ts w vs (type us) × (NoPlacement (members mem32 us) ⊎ NoPlacement (members mem64 us)))
      refused_six = rw promise.0 (build_six ws.now t.now comes product known short)

      -- which is exactly when the 64-bit memory admits none
      pub wide_decides : (built_means r ≡ refused too_large (length ts)) ↔ ((us : Members) × Passes ts w vs (type us) × NoPlacement (members mem64 us))
      wide_decides = (
        λ e. let q = refused_six.0 e in (q.0, q.1, (either_none q.0).0 q.2),
        λ q. refused_six.1 (q.0, q.1, inr q.2),
      )

  -- every row that it wrote is that of its type
  row_written :
      (P : List ℕ → Ty → Type 0) → ((u : Ty) → Accepted u → P (row_of u) u) → (i : ℕ) → i < accepted (built_means r) →
      (u : Ty) × (get_elem? (built ws.now t.now).types i ≡ some u) × P (row_at l i) u
  row_written P of i h =
      let u = type_at (built ws.now t.now).types i (built_sound ws.now t.now).passed (rw (promise.0, accepted_types ws.now t.now) at h) in
      (u.type, u.found, rw (promise.1, row_is ws.now t.now i u.type u.found) (of u.type u.passed))

  -- of every row that it wrote, what 64 has is at least what 32 has
  pub rows_wider : (i : ℕ) → i < accepted (built_means r) → NeverSmaller (row_at l i)
  rows_wider i h = (row_written (λ row u. NeverSmaller row) (λ u a. row_wider u) i h).2

  -- and word 15 has the borrow and the depth of its type
  pub rows_deep : (i : ℕ) → i < accepted (built_means r) → (u : Ty) × (get_elem? (built ws.now t.now).types i ≡ some u) × Deep (word (row_at l i) 15) u
  rows_deep = row_written (λ row u. Deep (word row 15) u) accepted_deep

  -- of an accepted record or tuple, the definition i, words 1 and 3 of its row are the size of a placement that none is tighter than, words 2 and 4 its alignment, in each memory
  pub row_tightest :
      {k : Kind} {type : Members → Ty} (i : ℕ) (us : Members) →
      Product k type →
      get_elem? (built ws.now t.now).types i ≡ some (type us) →
      (m : Memory) → Tightest (members m us) (record { layout = within m (row_abi (row_at l i)).layouts; offsets = starts 0 (members m us) })
  row_tightest {type = type} i us product found m =
      rw (promise.1, row_is ws.now t.now i (type us) found, row_layout m (type us))
      (product_tightest product us m (fits_in ws.now t.now i (type us) found m))

  -- every reference to one of its first n rows reads as the type that it names
  pub read_back : (n : ℕ) → n ≤ length (built ws.now t.now).types → read l n ≡ type_info (take n (built ws.now t.now).types)
  read_back n h = rw promise.1 (reads_built ws.now t.now n h)
