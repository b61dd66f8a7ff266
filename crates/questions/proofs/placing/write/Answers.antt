-- The offsets and gaps of the references so far stand before the words that were there (`write_turn`).
use Rattle.std.proofs.Common.{arith, ◌≡◌, refl, sym, ap, [], ◌∷◌, ◌++◌, length, get_or, take}
use native.Mathlib.Nat.{le_antisymm, le_refl}
use lib.ListN.{length-append, length-map}
use lib.Seq.{take_all}
use Rattle.std.specs.Prelude.{Option, unwrap_or}
use Rattle.canon.specs.Layout.{starts}
use Rattle.canon.specs.Gaps as canon_gaps
use Rattle.types.specs.Means.{layout_means}
use Rattle.types.specs.declared.extent.Layout as code
use Rattle.questions.specs.Steps.{layout_at, known}
use Rattle.questions.proofs.Members.{nothing_stands, stands_more, staged_last}
use Rattle.questions.proofs.Memos.{known_more, known_aligned, there_below, write_turn}
use Rattle.questions.proofs.placing.write.Goals as goal

pub loop-k-init : goal.loop-k-init
unfolding starts canon_gaps.gaps
loop-k-init c = (nothing_stands, ([], [], refl, refl, refl, refl, λ h. (refl, refl)))

pub bounds-memo-reference : goal.bounds-memo-reference
bounds-memo-reference c =
    let a = c.args in
    let k = c.loop-k.k in
    omega (arith, there_below a.memo.now (get_or a.references.words.now k 0) (c.requires.known.there k c.loop-k-test.true))

pub unwrap-layout-requires : goal.unwrap-layout-requires
unwrap-layout-requires c = c.requires.known.there c.loop-k.k c.loop-k-test.true

pub loop-k-preserved : goal.loop-k-preserved
loop-k-preserved c =
    let a = c.args in
    let l = c.loop-k in
    let test = c.loop-k-test.true in
    let memo = a.memo.now in
    let refs = a.references.words.now in
    let f = layout_at memo (get_or refs l.k 0) in
    let stands = l.invariant.0 in
    let w = l.invariant.1 in
    let next = c.next-placed.result in
    let q = c.next-placed.ensures in
    let e : layout_means c.unwrap-layout.result ≡ f =
    ap (λ (o : Option code.Layout). layout_means (unwrap_or o (record { size = 0; align = 0 }))) (sym c.unwrap-layout.ensures) in
    let al = known_aligned memo refs l.k c.requires.known.aligned test in (
      rw (known_more memo refs l.k test) (stands_more l.placed (take l.k (known memo refs)) l.k stands f al next (rw e at q)),
      (
        w.0 ++ next.offset ∷ [],
        w.1 ++ next.gap ∷ [],
        rw (length-append w.0 (next.offset ∷ []), w.2),
        rw (length-append w.1 (next.gap ∷ []), w.3),
        rw w.4 (write_turn w.0 a.out.now next.offset l.k w.2 (omega (arith, test, c.requires.out))),
        rw w.5 (write_turn w.1 a.gaps.now next.gap l.k w.3 (omega (arith, test, c.requires.gaps))),
        rw (known_more memo refs l.k test) (staged_last l.placed (take l.k (known memo refs)) l.k stands f al next (rw e at q) w.0 w.1 w.6),
      ),
    )

pub returns : goal.returns
returns c =
    let l = c.loop-k in
    let refs = c.args.references.words.now in
    let fs = known c.args.memo.now refs in
    let k : l.k ≡ length refs = le_antisymm l.auto.k-end c.loop-k-test.false in
    let whole : take l.k fs ≡ fs = take_all l.k fs (rw (length-map refs _, k) (le_refl (length refs))) in
    let staged = (rw whole at l.invariant.1.6) c.requires.known.fits in
    record {
      out_after = rw (← k, ← staged.0) l.invariant.1.4;
      gaps_after = rw (← k, ← staged.1) l.invariant.1.5;
    }
