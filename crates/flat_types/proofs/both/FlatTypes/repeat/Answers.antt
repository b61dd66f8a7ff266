-- In each memory so many copies.
use mathlib.Core.Path.{refl}
use Prim.Native.Nat.{◌*◌, ◌≤◌}
use native.Mathlib.Omega.{arith}
use Rattle.canon.specs.Flat.{copies}
use Rattle.canon.specs.Layout.{mem32, within}
use Rattle.canon.specs.Pack.{pack, unpack}
use Rattle.flat_types.specs.Lists.{halves, words_in}
use Rattle.flat_types.proofs.Listing.{holds, holds_none, repeat_none, repeat_is, repeat_fits}
use Rattle.flat_types.proofs.both.FlatTypes.repeat.Goals as goal

pub returns-then-self-gt-MAX_FLAT_TYPES : goal.returns-then-self-gt-MAX_FLAT_TYPES
returns-then-self-gt-MAX_FLAT_TYPES c = holds_none _ (λ m. repeat_none (words_in m c.args.self) c.args.n (λ few. grind arith))

pub returns : goal.returns
returns c =
    let a = c.args in
    let h : a.self.count * a.n ≤ 16 = grind arith in
    rw (c.from.ensures, c.from-2.ensures)
    (holds _ (λ m. pack (copies a.n (unpack a.self.count (within m (halves a.self.words)))))
    c.repeat_words.ensures
    (repeat_fits (words_in mem32 a.self) a.n h)
    (λ m. repeat_is (words_in m a.self) a.n _ c.if-self-gt-MAX_FLAT_TYPES.false h refl))
