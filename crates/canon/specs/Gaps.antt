-- The bytes that a layout skips (02, order 10): "the bytes lost".
use Rattle.std.specs.Prelude.{false, List, [], ◌∷◌, map, ℕ, ◌+◌, ◌-◌, min, ltb, length}
use Rattle.canon.specs.Answer.{Answer, ok, then}
use Rattle.canon.specs.Layout.{Memory, Layout, round_up, end_after, last_end, record_size}
use Rattle.canon.specs.Question.{ask, Placing, placed, layouts_in, buffer_after}

-- "Gaps plus member sizes": what is added up

unfoldable pub total : List ℕ → ℕ
total [] = 0
total (n ∷ ns) = n + total ns

abbrev pub sizes_of : List Layout → List ℕ
sizes_of fs = map (λ (f : Layout). f.size) fs

-- What is lost

-- "the bytes it skipped": from x on to the next multiple of a
abbrev pub skipped_to : ℕ → ℕ → ℕ
skipped_to x a = round_up x a - x

-- "for every member the gap before it"; the first of them comes after an end e
unfoldable pub gaps : ℕ → List Layout → List ℕ
gaps e [] = []
gaps e (f ∷ fs) = skipped_to e f.align ∷ gaps (end_after e f) fs

-- "and the gap after the last"
unfoldable pub gap_after : List Layout → ℕ
gap_after fs = record_size fs - last_end 0 fs

-- A placement with its gaps

pub record Padded : Type 0 where
  pub placing : Placing
  pub before : List ℕ
  pub after : ℕ

abbrev pub with_gaps : List Layout → Placing → Padded
with_gaps fs p = record { placing = p; before = gaps 0 fs; after = gap_after fs }

-- refused as the placement is, else with its gaps
unfoldable pub padded : List Layout → Answer Padded
padded fs = then (placed fs) (λ p. ok (with_gaps fs p))

-- refusal 7, as order 10 amends it: "offset buffer or gap buffer shorter than the references"; so the shorter must have room
abbrev pub room_of : List ℕ → List ℕ → ℕ
room_of out gs = min (length out) (length gs)

-- of references into lent buffers of which the shorter has `room` words
unfoldable pub padding : Memory → List ℕ → ℕ → List ℕ → ℕ → Answer Padded
padding m t n ws room = ask t n false (ltb room (length ws)) ws (λ is'. padded (layouts_in m is'))

-- what it puts into the one buffer and into the other

abbrev pub offsets_of : Padded → List ℕ
offsets_of q = q.placing.offsets

abbrev pub gaps_of : Padded → List ℕ
gaps_of q = q.before

-- a lent buffer afterwards: "A refusal writes neither buffer"
abbrev pub lent_after : (Padded → List ℕ) → Memory → List ℕ → ℕ → List ℕ → ℕ → List ℕ → List ℕ
lent_after words m t n ws room out = buffer_after words (padding m t n ws room) out

-- "in a second lent buffer"
abbrev pub gaps_after : Memory → List ℕ → ℕ → List ℕ → ℕ → List ℕ → List ℕ
gaps_after m t n ws room gs = lent_after gaps_of m t n ws room gs

-- what is answered of the gap after the last
unfoldable pub after_answer : Memory → List ℕ → ℕ → List ℕ → ℕ → Answer ℕ
after_answer m t n ws room = then (padding m t n ws room) (λ q. ok q.after)
