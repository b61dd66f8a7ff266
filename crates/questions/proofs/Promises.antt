-- What the promises say of the standard: a placement answered is the tightest, one refused as too large exists in no form, and on a table that
-- a build wrote each question answers for the types themselves. Of one list in the two memories, that the wider is never the smaller; of one with
-- references appended, that no offset before them moves. How many rows it read back. And that its gaps and the members' sizes add up to its size.
use mathlib.Core.Path.{◌≡◌, refl, sym, ap, ◌∙◌}
use mathlib.Core.Logic.{◌↔◌}
use mathlib.Core.List.{List, ◌++◌, map, append_assoc, Forall₂}
use mathlib.Core.Option.{some}
use Prim.Native.Nat.{ℕ, suc, ◌+◌, ◌≤◌, ◌<◌}
use native.Mathlib.Omega.{arith}
use lib.ListN.{length, get_or, take, drop, length-map}
use lib.Seq.{take_at}
use lib.Dec.{ltb}
use borrow.Author.Tests.{le-ltb}
use denote.Ref.{Bor, MutBor, at_last}
use contract.Lifetimes.{Lfts}
use Rattle.std.specs.Prelude.{Result, Ok, Err}
use Rattle.canon.specs.Answer.{Answer, ok, refused, then, unless, too_large}
use Rattle.canon.specs.Types.{Ty}
use Rattle.canon.specs.Layout as canon
use Rattle.canon.specs.Layout.{mem32, mem64, starts, record_layout, layout}
use Rattle.canon.specs.Row.{Info, info_layout, info_of}
use Rattle.canon.specs.Description.{reference, built, table_after}
use Rattle.canon.specs.Question.{read, ask, type_answer, size_align_answer, layouts_in, Placing, placed, placing, placement_answer, buffer_after, offsets_after}
use Rattle.canon.specs.Placement.{Every, NoPlacement, NoneLater}
use Rattle.canon.specs.Cost.{is_row, rows_among, reported, placement_reads}
use Rattle.canon.specs.Gaps.{gaps, gap_after, total, sizes_of, Padded, with_gaps, padded, room_of, padding, gaps_of, after_answer}
use Rattle.canon.proofs.Costs.{placement_within, is_earlier, infos_row}
use Rattle.canon.proofs.Wider.{◌≼◌}
use Rattle.canon.proofs.Tests.{impossible}
use Rattle.canon.proofs.Tightest.{Aligned}
use Rattle.canon.proofs.Refusals.{Tightest, placed_is}
use Rattle.canon.proofs.Gaps.{gaps_length, gaps_below, gap_next, gaps_total, after_below, placing_of, padded_placed, padded_is, padding_placing, padding_reads, padding_from}
use Rattle.canon.proofs.Questions.{then_refused, Reads, infos_aligned, infos_length, placing_reads, placing_starts, placing_six, placing_tightest, Names, type_built, ask_built, layouts_typed, flat_types, flats_typed}
use Rattle.canon.proofs.Questions.{borrow_types, borrows_typed, offsets_length, offsets_written, offsets_begin, Beside, beside_accepted, beside_refused, placing_beside}
use Rattle.types.specs.Means.{number_of, memory_of, layout_means}
use Rattle.types.specs.declared.extent.Layout.{Layout}
use Rattle.types.specs.declared.refusal.Refusal.{Refusal}
use Rattle.types.specs.declared.refusal.Refusal.TheVariants.{TooLarge}
use Rattle.types.specs.declared.memory.Memory.{Memory}
use Rattle.types.specs.declared.memory.Memory.TheVariants.{Memory32, Memory64}
use Rattle.flat_types.specs.Lists.{packed}
use Rattle.table.specs.Means.{answer, member_place}
use Rattle.table.specs.declared.info.MemberPosition.{MemberPosition}
use Rattle.table.specs.declared.refused.Refused.{Refused}
use Rattle.questions.specs.Means.{type_info_means, whole_means, whole_reads, after_means, gathering_means}
use Rattle.questions.specs.Gathers.{together, gather_answer}
use Rattle.questions.specs.declared.answer.TypeInfo.{TypeInfo}
use Rattle.questions.specs.declared.answer.Whole.{Whole}
use Rattle.questions.specs.declared.list.Gathering.{Gathering}
use Rattle.questions.proofs.Unique.{whole_told, refusal_told}
use Rattle.questions.proofs.ask.canonical_abi.Reads as canonical-abi
use Rattle.questions.proofs.member.size_align.Reads as size-align
use Rattle.questions.proofs.list.gather.Reads as gather
use Rattle.questions.proofs.placing.placement.Reads as placement

-- Demand 3, of a placement question that passes every earlier check and reads these infos

abbrev layout_only : Answer Placing → Answer canon.Layout
layout_only a = then a (λ p. ok p.layout)

abbrev offsets_only : Placing → List ℕ
offsets_only p = p.offsets

answered :
    (a : Answer Placing) (f : canon.Layout) (out after : List ℕ) → ok f ≡ layout_only a → after ≡ buffer_after offsets_only a out →
    (os : List ℕ) × (a ≡ ok (record { layout = f; offsets = os })) × (after ≡ os ++ drop (length os) out)
unfolding then buffer_after
answered (ok p) f out after e w = let g : f ≡ p.layout = cc in (p.offsets, rw g, w)
answered (refused x p) f out after e w = impossible (cc)

module _
    (κs : Lfts 4) (m : Memory) (t : Bor (List ℕ)) (n : ℕ) (ws : Bor (List ℕ)) (o g : MutBor (List ℕ)) (l k : List ℕ) (is' : List Info)
    (reads : Reads t.now n ws.now (room_of o.now g.now) is')
  where
    abbrev room : ℕ
    room = room_of o.now g.now

    abbrev fs : List canon.Layout
    fs = layouts_in (memory_of m) is'

    aligned : Aligned fs
    aligned = infos_aligned (memory_of m) t.now n 0 ws.now is' reads.gives

    module _ (w : Whole) (promise : placement.Post κs (m, (t, (n, (ws, (o, (g, tt)))))) (Ok w) (m, (t, (n, (ws, (at_last o l, (at_last g k, tt))))))) where
      offsets : (os : List ℕ) × (placing (memory_of m) t.now n ws.now room ≡ ok (record { layout = layout_means w.layout; offsets = os })) × (l ≡ os ++ drop (length os) o.now)
      unfolding placement_answer offsets_after
      offsets = answered (placing (memory_of m) t.now n ws.now room) (layout_means w.layout) o.now l promise.0 promise.1.0

      pub placement_tightest : (os : List ℕ) × (l ≡ os ++ drop (length os) o.now) × Tightest fs (record { layout = layout_means w.layout; offsets = os })
      placement_tightest = (offsets.0, offsets.2, placing_tightest (memory_of m) (record { layout = layout_means w.layout; offsets = offsets.0 }) reads offsets.1)

      -- 02, order 10: "placement reports for every member the gap before it, in a second lent buffer, and the gap after the last"

      padded_so : (q : Padded) × (padding (memory_of m) t.now n ws.now room ≡ ok q) × (q ≡ with_gaps fs (record { layout = layout_means w.layout; offsets = offsets.0 }))
      padded_so =
          let q = padding_from (memory_of m) t.now n ws.now room _ offsets.1 in
          (q.0, q.1, padded_is fs q.0 (sym (padding_reads (memory_of m) reads) ∙ q.1) ∙ ap (with_gaps fs) q.2)

      pub placement_gaps : (k ≡ gaps 0 fs ++ drop (length (gaps 0 fs)) g.now) × (w.after ≡ gap_after fs)
      unfolding after_answer buffer_after then
      placement_gaps =
          let q = padded_so in
          let e = q.1 ∙ ap (λ (x : Padded). ok x) q.2 in
          let after = promise.1.1.1.1 ∙ ap (λ (a : Answer Padded). then a (λ p. ok p.after)) e in
          (promise.1.1.1.0 ∙ ap (λ (a : Answer Padded). buffer_after gaps_of a g.now) e, cc)

      -- the placement is canon's own
      canons : ◌≡◌ {A = Placing} (record { layout = record_layout fs; offsets = starts 0 fs }) (record { layout = layout_means w.layout; offsets = offsets.0 })
      canons = (placed_is fs _ aligned (sym (placing_reads (memory_of m) reads) ∙ offsets.1)).0

      -- there are as many gaps as references
      counted : length (gaps 0 fs) ≡ length ws.now
      counted = gaps_length 0 fs ∙ length-map is' (info_layout (memory_of m)) ∙ infos_length (read t.now n) 0 ws.now is' reads.gives

      written : take (length ws.now) k ≡ gaps 0 fs
      written = ap (take (length ws.now)) placement_gaps.0 ∙ take_at (gaps 0 fs) _ (length ws.now) counted

      -- "Gaps plus member sizes equal the record's size": what it writes and answers adds up to the size that it answers
      pub placement_adds_up : total (take (length ws.now) k) + total (sizes_of fs) + w.after ≡ w.layout.size
      placement_adds_up = rw (written, placement_gaps.1) (gaps_total fs aligned ∙ ap (λ (p : Placing). p.layout.size) canons)

      -- each gap is below its member's alignment, and the last below the record's
      pub placement_gaps_below : Forall₂ (λ h f. h < f.align) (take (length ws.now) k) fs × (w.after < w.layout.align)
      placement_gaps_below =
          (rw written (gaps_below 0 fs aligned), rw (placement_gaps.1, ← ap (λ (p : Placing). p.layout.align) canons) (after_below fs aligned))

      -- each member but the first starts its gap after the member before it
      pub placement_between :
          (j : ℕ) → suc j < length ws.now →
          get_or (take (length ws.now) l) (suc j) 0 ≡ get_or (take (length ws.now) l) j 0 + get_or (sizes_of fs) j 0 + get_or (take (length ws.now) k) (suc j) 0
      placement_between j h =
          let count : length offsets.0 ≡ length ws.now = offsets_length (memory_of m) t.now n ws.now room _ offsets.1 in
          let first : take (length ws.now) l ≡ offsets.0 = ap (take (length ws.now)) offsets.2 ∙ take_at offsets.0 _ (length ws.now) count in
          rw (written, first, ← ap (λ (p : Placing). p.offsets) canons) (gap_next 0 fs aligned j (omega (arith, h, gaps_length 0 fs, counted)))

    pub placement_six :
        (r : Result Whole (Refused MemberPosition)) → placement.Post κs (m, (t, (n, (ws, (o, (g, tt)))))) r (m, (t, (n, (ws, (at_last o l, (at_last g k, tt)))))) →
        ((q : MemberPosition) × (r ≡ Err (record { why = TooLarge; at = q }))) ↔ NoPlacement fs
    unfolding placement_answer then
    placement_six r h =
        let six = placing_six (memory_of m) reads in (
          λ e. six.0 (e.0.0, then_refused (λ (p : Placing). p.layout) (placing (memory_of m) t.now n ws.now room) too_large e.0.0 (sym h.0 ∙ ap (answer member_place whole_means) e.1)),
          λ none. let e = six.1 none in
              (record { 0 = e.0 }, refusal_told r TooLarge (record { 0 = e.0 }) (h.0 ∙ rw e.1)),
        )

-- Tables that a build wrote, of a description ws into a buffer t₀

module _ (κs : Lfts 1) (t : Bor (List ℕ)) (n w : ℕ) (ws t₀ : List ℕ) (u : Ty)
    (table : t.now ≡ table_after ws t₀) (rows : n ≤ length (built ws t₀).types) (named : reference (take n (built ws t₀).types) w ≡ some u)
  where
    pub type_of_lem : (r : Result TypeInfo (Refused MemberPosition)) → canonical-abi.Post κs (t, (n, (w, tt))) r (t, (n, (w, tt))) → answer member_place type_info_means r ≡ ok (info_of u)
    type_of_lem r h = h ∙ ap (λ (x : List ℕ). type_answer x n w) table ∙ type_built ws t₀ n w u rows named

    pub size_of : (m : Memory) (r : Result Layout (Refused MemberPosition)) → size-align.Post κs (m, (t, (n, (w, tt)))) r (m, (t, (n, (w, tt)))) → answer member_place layout_means r ≡ ok (layout (memory_of m) u)
    unfolding size_align_answer then
    size_of m r h = h ∙ ap (λ (x : List ℕ). size_align_answer (memory_of m) x n w) table ∙ rw (type_built ws t₀ n w u rows named) (go (memory_of m))
      where
        go : (m : canon.Memory) → ok (canon.within m (info_of u).abi.layouts) ≡ ok (layout m u)
        go mem32 = refl
        go mem64 = refl

module _ (m : Memory) (t : Bor (List ℕ)) (n : ℕ) (refs : Bor (List ℕ)) (ws t₀ : List ℕ) (us : List Ty)
    (table : t.now ≡ table_after ws t₀) (names : Names ws t₀ n refs.now us)
  where
    pub gathered_of_lem :
        (κs : Lfts 2) (r : Result Gathering (Refused MemberPosition)) → gather.Post κs (m, (t, (n, (refs, tt)))) r (m, (t, (n, (refs, tt)))) →
        answer member_place gathering_means r ≡ ok (record { flat = packed (flat_types (memory_of m) us); borrow = borrow_types us })
    unfolding gather_answer ask unless
    gathered_of_lem κs r h =
        h
        ∙ ap (λ (x : List ℕ). gather_answer (memory_of m) x n refs.now) table
        ∙ ask_built (λ is'. ok (together (memory_of m) is')) names
        ∙ rw (flats_typed (memory_of m) us, borrows_typed us)

    padding_of : (room : ℕ) → length refs.now ≤ room → padding (memory_of m) t.now n refs.now room ≡ padded (map (layout (memory_of m)) us)
    unfolding padding
    padding_of room fits =
        rw (table, le-ltb room (length refs.now) fits)
        (ask_built (λ is'. padded (layouts_in (memory_of m) is')) names ∙ ap padded (layouts_typed (memory_of m) us))

    placing_of_lem : (room : ℕ) → length refs.now ≤ room → placing (memory_of m) t.now n refs.now room ≡ placed (map (layout (memory_of m)) us)
    placing_of_lem room fits =
        sym (padding_placing (memory_of m) t.now n refs.now room)
        ∙ ap placing_of (padding_of room fits)
        ∙ padded_placed (map (layout (memory_of m)) us)

    -- what is answered and written of the types themselves
    pub record OfTypes (o g : MutBor (List ℕ)) (r : Result Whole (Refused MemberPosition)) (l k : List ℕ) : Type 0 where
      pub whole : answer member_place whole_means r ≡ layout_only (placed (map (layout (memory_of m)) us))
      pub offsets : l ≡ buffer_after offsets_only (placed (map (layout (memory_of m)) us)) o.now
      pub gaps : k ≡ buffer_after gaps_of (padded (map (layout (memory_of m)) us)) g.now
      pub after : after_means r ≡ then (padded (map (layout (memory_of m)) us)) (λ q. ok q.after)

    pub placed_of :
        (κs : Lfts 4) (o g : MutBor (List ℕ)) (r : Result Whole (Refused MemberPosition)) (l k : List ℕ) → length refs.now ≤ room_of o.now g.now →
        placement.Post κs (m, (t, (n, (refs, (o, (g, tt)))))) r (m, (t, (n, (refs, (at_last o l, (at_last g k, tt)))))) → OfTypes o g r l k
    unfolding placement_answer offsets_after after_answer
    placed_of κs o g r l k fits h =
        record {
          whole = h.0 ∙ rw (placing_of_lem (room_of o.now g.now) fits);
          offsets = h.1.0 ∙ rw (placing_of_lem (room_of o.now g.now) fits);
          gaps = h.1.1.1.0 ∙ rw (padding_of (room_of o.now g.now) fits);
          after = h.1.1.1.1 ∙ rw (padding_of (room_of o.now g.now) fits);
        }

-- One list of references placed in both memories, over a table that a build wrote, both with room for offsets and gaps or neither

module _
    (κs κs' : Lfts 4) (t refs : Bor (List ℕ)) (o g o' g' : MutBor (List ℕ)) (n : ℕ) (ws t₀ : List ℕ) (r r' : Result Whole (Refused MemberPosition)) (l k l' k' : List ℕ)
    (table : t.now ≡ table_after ws t₀) (rows : n ≤ length (built ws t₀).types)
    (alike : ltb (room_of o.now g.now) (length refs.now) ≡ ltb (room_of o'.now g'.now) (length refs.now))
    (narrow : placement.Post κs (Memory32, (t, (n, (refs, (o, (g, tt)))))) r (Memory32, (t, (n, (refs, (at_last o l, (at_last g k, tt)))))))
    (wide : placement.Post κs' (Memory64, (t, (n, (refs, (o', (g', tt)))))) r' (Memory64, (t, (n, (refs, (at_last o' l', (at_last g' k', tt)))))))
  where
    abbrev narrow_room : ℕ
    narrow_room = room_of o.now g.now

    abbrev wide_room : ℕ
    wide_room = room_of o'.now g'.now

    beside : Beside (placing mem32 t.now n refs.now narrow_room) (placing mem64 t.now n refs.now wide_room)
    beside = rw table (placing_beside ws t₀ n refs.now narrow_room wide_room rows alike)

    -- what 64 accepts, 32 accepts: no larger, and no offset later
    pub narrow_accepts :
        (v : Whole) → r' ≡ Ok v →
        (u : Whole) × (r ≡ Ok u) × (layout_means u.layout ≼ layout_means v.layout) × NoneLater (take (length refs.now) l) (take (length refs.now) l')
    unfolding placement_answer offsets_after then
    narrow_accepts w e =
        let b = answered (placing mem64 t.now n refs.now wide_room) (layout_means w.layout) o'.now l' (sym (ap (answer member_place whole_means) e) ∙ wide.0) wide.1.0 in
        let p = beside_accepted beside b.1 in
        let whole = whole_told r p.0.layout (narrow.0 ∙ ap layout_only p.1) in
        let u : take (length refs.now) l ≡ p.0.offsets = ap (take (length refs.now)) narrow.1.0 ∙ offsets_written mem32 t.now n refs.now narrow_room o.now p.0 p.1 in
        let v : take (length refs.now) l' ≡ b.0 = ap (take (length refs.now)) wide.1.0 ∙ offsets_written mem64 t.now n refs.now wide_room o'.now _ b.1 in
        (whole.0, whole.1, rw whole.2 p.2, rw (u, v) p.3)

    -- what 32 refuses, 64 refuses with the same number
    pub wide_refuses : (x : Refusal) (p : MemberPosition) → r ≡ Err (record { why = x; at = p }) → (q : MemberPosition) × (r' ≡ Err (record { why = x; at = q }))
    unfolding placement_answer then
    wide_refuses x p e =
        let a = then_refused (λ (p : Placing). p.layout) (placing mem32 t.now n refs.now narrow_room) (number_of x) p.0 (sym narrow.0 ∙ ap (answer member_place whole_means) e) in
        let j = beside_refused beside a in
        (record { 0 = j.0 }, refusal_told r' x (record { 0 = j.0 }) (wide.0 ∙ ap layout_only j.1))

-- 02, order 6: "Placement reports likewise for its references"

module _
    (κs : Lfts 4) (m : Memory) (t : Bor (List ℕ)) (n : ℕ) (refs : Bor (List ℕ)) (o g : MutBor (List ℕ)) (r : Result Whole (Refused MemberPosition)) (l k : List ℕ)
    (promise : placement.Post κs (m, (t, (n, (refs, (o, (g, tt)))))) r (m, (t, (n, (refs, (at_last o l, (at_last g k, tt)))))))
  where
    -- accepted, it reports how many of the references are of the form 64+j
    pub placement_reads_are : (f : canon.Layout) → answer member_place whole_means r ≡ ok f → whole_reads r ≡ rows_among refs.now
    unfolding placement_reads
    placement_reads_are f e = promise.1.1.0 ∙ ap (λ (a : Answer canon.Layout). reported a (rows_among refs.now)) (sym promise.0 ∙ e)

    -- accepted, a reference is of this form exactly when it names one of the rows
    pub placement_reads_named : (f : canon.Layout) → answer member_place whole_means r ≡ ok f → Every (λ v. is_row v ≡ is_earlier n v) refs.now
    unfolding placement_answer
    placement_reads_named f e =
        let p = answered (placing (memory_of m) t.now n refs.now (room_of o.now g.now)) f o.now _ (sym e ∙ promise.0) refl in
        let s = placing_starts (memory_of m) t.now n refs.now (room_of o.now g.now) _ p.1 in
        infos_row t.now n s.1.table 0 refs.now s.0 s.1.gives

    -- accepted or not, never more than the references
    pub placement_reads_within : whole_reads r ≤ length refs.now
    placement_reads_within = rw promise.1.1.0 (placement_within (memory_of m) t.now n refs.now (room_of o.now g.now))

-- Two lists in one memory, one the other with references appended, over any table

module _
    (κs κs' : Lfts 4) (m : Memory) (t refs refs' : Bor (List ℕ)) (o g o' g' : MutBor (List ℕ)) (n : ℕ) (vs : List ℕ) (u v : Whole) (l k l' k' : List ℕ)
    (appended : refs'.now ≡ refs.now ++ vs)
    (fewer : placement.Post κs (m, (t, (n, (refs, (o, (g, tt)))))) (Ok u) (m, (t, (n, (refs, (at_last o l, (at_last g k, tt)))))))
    (all : placement.Post κs' (m, (t, (n, (refs', (o', (g', tt)))))) (Ok v) (m, (t, (n, (refs', (at_last o' l', (at_last g' k', tt)))))))
  where
    -- no offset before them moves
    pub offsets_kept : take (length refs.now) l' ≡ take (length refs.now) l
    unfolding placement_answer offsets_after
    offsets_kept =
        let few = room_of o.now g.now in
        let more = room_of o'.now g'.now in
        let a = answered (placing (memory_of m) t.now n refs.now few) (layout_means u.layout) o.now l fewer.0 fewer.1.0 in
        let b = answered (placing (memory_of m) t.now n refs'.now more) (layout_means v.layout) o'.now l' all.0 all.1.0 in
        let c = offsets_begin (memory_of m) t.now n refs.now vs few more _ _ a.1 (sym (ap (λ (x : List ℕ). placing (memory_of m) t.now n x more) appended) ∙ b.1) in
        let k : length a.0 ≡ length refs.now = offsets_length (memory_of m) t.now n refs.now few _ a.1 in
        let rest = drop (length b.0) o'.now in
        ap (take (length refs.now)) (b.2 ∙ ap (λ (x : List ℕ). x ++ rest) c.1 ∙ append_assoc a.0 c.0 rest)
        ∙ take_at a.0 (c.0 ++ rest) (length refs.now) k
        ∙ sym (ap (take (length refs.now)) a.2 ∙ take_at a.0 _ (length refs.now) k)
