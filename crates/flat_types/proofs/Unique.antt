-- No second outcome meets a promise: each names the words of its answer, in each memory.
use mathlib.Core.Bool.{Bool}
use mathlib.Core.Path.{◌≡◌, sym, ap, ◌∙◌}
use Prim.Native.Nat.{ℕ}
use Rattle.canon.specs.Layout.{Memory, mem32, mem64}
use Rattle.canon.specs.Pack.{Packed}
use Rattle.flat_types.specs.Lists.{whole, both_words, words_in, words}
use Rattle.flat_types.specs.declared.both.FlatTypes.{FlatTypes}
use Rattle.flat_types.specs.declared.list.FlatList.{FlatList}
use Rattle.types.specs.declared.memory.Memory as declared
use Rattle.flat_types.proofs.Halves.{whole_halves}
use Rattle.flat_types.proofs.both.FlatTypes.of.Reads as of
use Rattle.flat_types.proofs.both.FlatTypes.word32.Reads as word32
use Rattle.flat_types.proofs.both.FlatTypes.word64.Reads as word64
use Rattle.flat_types.proofs.both.FlatTypes.plain.Reads as plain
use Rattle.flat_types.proofs.both.FlatTypes.flags.Reads as flags
use Rattle.flat_types.proofs.both.FlatTypes.append.Reads as append
use Rattle.flat_types.proofs.both.FlatTypes.join.Reads as join
use Rattle.flat_types.proofs.both.FlatTypes.with_discriminant.Reads as with-discriminant
use Rattle.flat_types.proofs.both.FlatTypes.repeat.Reads as repeat
use Rattle.flat_types.proofs.both.FlatTypes.is_good.Reads as is-good
use Rattle.flat_types.proofs.both.FlatTypes.in_memory.Reads as in_memory
use Rattle.flat_types.proofs.list.FlatList.append.Reads as list-append
use Rattle.flat_types.proofs.list.FlatList.with_pointer.Reads as with-pointer

-- the count and the words tell the whole
same : (r q : FlatTypes) (p : Packed) → both_words r ≡ p → both_words q ≡ p → r ≡ q
same r q p g h = ap (λ (x : Packed). record { count = x.number; words = x.types }) (g ∙ sym h)

-- and so do the words in each memory
same_words : (r q : FlatTypes) (f : Memory → Packed) → ((m : Memory) → words_in m r ≡ f m) → ((m : Memory) → words_in m q ≡ f m) → r ≡ q
same_words r q f g h =
    ap (λ (w : ℕ). record { count = r.count; words = w }) (sym (whole_halves r.words))
    ∙ (λ i. record { count = (e mem32 i).number; words = whole (record { in32 = (e mem32 i).types; in64 = (e mem64 i).types }) })
    ∙ ap (λ (w : ℕ). record { count = q.count; words = w }) (whole_halves q.words)
  where
    e : (m : Memory) → words_in m r ≡ words_in m q
    e m = g m ∙ sym (h m)

same_list : (r q : FlatList) (p : Packed) → words r ≡ p → words q ≡ p → r ≡ q
same_list r q p g h = ap (λ (x : Packed). record { count = x.number; types = x.types }) (g ∙ sym h)

pub of_one : (n v w : ℕ) (r q : FlatTypes) → of.Post tt (n, (v, (w, tt))) r (n, (v, (w, tt))) → of.Post tt (n, (v, (w, tt))) q (n, (v, (w, tt))) → r ≡ q
of_one n v w r q g h = same r q _ g h

pub word32_one : (a : FlatTypes) (r q : ℕ) → word32.Post tt (a, tt) r (a, tt) → word32.Post tt (a, tt) q (a, tt) → r ≡ q
word32_one a r q g h = g ∙ sym h

pub word64_one : (a : FlatTypes) (r q : ℕ) → word64.Post tt (a, tt) r (a, tt) → word64.Post tt (a, tt) q (a, tt) → r ≡ q
word64_one a r q g h = g ∙ sym h

pub plain_one : (w : ℕ) (r q : FlatTypes) → plain.Post tt (w, tt) r (w, tt) → plain.Post tt (w, tt) q (w, tt) → r ≡ q
plain_one w r q g h = same_words r q _ g h

pub flags_one : (n : ℕ) (r q : FlatTypes) → flags.Post tt (n, tt) r (n, tt) → flags.Post tt (n, tt) q (n, tt) → r ≡ q
flags_one n r q g h = same_words r q _ g h

pub append_one : (a b r q : FlatTypes) → append.Post tt (a, (b, tt)) r (a, (b, tt)) → append.Post tt (a, (b, tt)) q (a, (b, tt)) → r ≡ q
append_one a b r q g h = same r q _ g h

pub join_one : (a b r q : FlatTypes) → join.Post tt (a, (b, tt)) r (a, (b, tt)) → join.Post tt (a, (b, tt)) q (a, (b, tt)) → r ≡ q
join_one a b r q g h = same r q _ g h

pub with_discriminant_one : (a r q : FlatTypes) → with-discriminant.Post tt (a, tt) r (a, tt) → with-discriminant.Post tt (a, tt) q (a, tt) → r ≡ q
with_discriminant_one a r q g h = same r q _ g h

pub repeat_one : (a : FlatTypes) (n : ℕ) (r q : FlatTypes) → repeat.Post tt (a, (n, tt)) r (a, (n, tt)) → repeat.Post tt (a, (n, tt)) q (a, (n, tt)) → r ≡ q
repeat_one a n r q g h = same_words r q _ g h

pub is_good_one : (a : FlatTypes) (r q : Bool) → is-good.Post tt (a, tt) r (a, tt) → is-good.Post tt (a, tt) q (a, tt) → r ≡ q
is_good_one a r q g h = g ∙ sym h

pub in_memory_one : (a : FlatTypes) (m : declared.Memory) (r q : FlatList) → in_memory.Post tt (a, (m, tt)) r (a, (m, tt)) → in_memory.Post tt (a, (m, tt)) q (a, (m, tt)) → r ≡ q
in_memory_one a m r q g h = same_list r q _ g h

pub list_append_one : (a b r q : FlatList) → list-append.Post tt (a, (b, tt)) r (a, (b, tt)) → list-append.Post tt (a, (b, tt)) q (a, (b, tt)) → r ≡ q
list_append_one a b r q g h = same_list r q _ g h

pub with_pointer_one : (a : FlatList) (m : declared.Memory) (r q : FlatList) → with-pointer.Post tt (a, (m, tt)) r (a, (m, tt)) → with-pointer.Post tt (a, (m, tt)) q (a, (m, tt)) → r ≡ q
with_pointer_one a m r q g h = same_list r q _ g h
