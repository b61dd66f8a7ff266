-- A turn appends what it read to what was read before.
use Rattle.std.proofs.Common.{◌≡◌, ℕ, ◌+◌, ◌≤◌, List, ◌++◌, length, take, rules, sym, ap, ◌∙◌, subst, length-take-le}
use Rattle.std.proofs.lemmas.List.{take-append-le}
use Rattle.std.proofs.Math.Seq.{take-append-add}
use Rattle.std.proofs.KnownBytes.{Consumes-trans}
use Rattle.std.specs.Io.KnownBytes.{Consumes}
use borrow.Rule.Slice.PartMut.{put_mid, post_of}
use Rattle.input.proofs.read_full.Goals as goal

front_grows :
    (count k n : ℕ) (bytes part : List ℕ) → count ≤ length bytes → n ≤ length part →
    take count bytes ++ take n part ≡ take (count + n) (put_mid count k bytes part)
front_grows count k n bytes part inside fits =
    ap (λ l. take count bytes ++ l) (sym (take-append-le n part (post_of count k bytes) fits))
    ∙ sym (take-append-add (take count bytes) (part ++ post_of count k bytes) n)
    ∙ ap (λ m. take (m + n) (put_mid count k bytes part)) (length-take-le count bytes inside)

pub loop-count-preserved : goal.loop-count-preserved
loop-count-preserved g c =
    let l = c.loop-count in
    let read = c.in_ok-read in
    record {
      fits = search rules;
      same_room = search rules;
      front = subst (Consumes _ _) (front_grows l.count _ read.read l.bytes c.read.new.buf l.invariant.fits read.ensures.bound.0)
          (Consumes-trans _ _ _ _ _ l.invariant.front read.ensures.bytes.0);
    }
