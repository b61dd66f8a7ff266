-- 01: a refused question "writes nothing". The calls over bytes put every word back; those that did not change leave their bytes as they were.
use mathlib.Core.Path.{◌≡◌, sym, ap, ◌∙◌}
use mathlib.Core.List.{List}
use Prim.Native.Nat.{ℕ, ◌<◌}
use contract.Lifetimes.{Lfts}
use denote.Bor.{Bor}
use denote.Ref.{MutBor, at_last}
use lib.ListN.{get_or}
use Rattle.canon.specs.Answer.{Answer, refused}
use Rattle.canon.specs.Question.{placement_answer, buffer_after}
use Rattle.canon.specs.Gaps.{Padded, room_of, padding, offsets_of, gaps_of}
use Rattle.canon.proofs.Questions.{then_refused}
use Rattle.canon.proofs.Gaps.{placement_padded, offsets_padded}
use Rattle.words.specs.Words.{whole_words, put_words}
use Rattle.words.proofs.Laws.{put_same}
use Rattle.host.specs.Numbers.{memory_at}
use Rattle.host.proofs.table_bytes.lampughjata_placement_bytes.Reads as placement-bytes

unwritten : (words : Padded → List ℕ) (a : Answer Padded) (x i : ℕ) (out : List ℕ) → a ≡ refused x i → buffer_after words a out ≡ out
unfolding buffer_after
unwritten words a x i out e = rw e

pub placement_kept :
    (κs : Lfts 4) (memory : ℕ) (t : Bor (List ℕ)) (n : ℕ) (references : Bor (List ℕ)) (out gs : MutBor (List ℕ)) (r x i : ℕ) (l k : List ℕ) →
    placement-bytes.Post κs (memory, (t, (n, (references, (out, (gs, tt)))))) r (memory, (t, (n, (references, (at_last out l, (at_last gs k, tt)))))) →
    ((j : ℕ) → get_or out.now j 0 < 256) →
    ((j : ℕ) → get_or gs.now j 0 < 256) →
    placement_answer (memory_at memory) (whole_words t.now) n (whole_words references.now) (room_of (whole_words out.now) (whole_words gs.now)) ≡ refused x i →
    (l ≡ out.now) × (k ≡ gs.now)
placement_kept κs memory t n references out gs r x i l k post bytes gap-bytes e =
    let m = memory_at memory in
    let table = whole_words t.now in
    let ws = whole_words references.now in
    let room = room_of (whole_words out.now) (whole_words gs.now) in
    let refused-so = then_refused _ (padding m table n ws room) x i (sym (placement_padded m table n ws room) ∙ e) in
    let offsets = offsets_padded m table n ws room (whole_words out.now) ∙ unwritten offsets_of _ x i (whole_words out.now) refused-so in
    let gaps = unwritten gaps_of _ x i (whole_words gs.now) refused-so in (
      post.1.0 ∙ ap (λ (u : List ℕ). put_words 0 u out.now) offsets ∙ put_same out.now bytes,
      post.1.1 ∙ ap (λ (u : List ℕ). put_words 0 u gs.now) gaps ∙ put_same gs.now gap-bytes,
    )
