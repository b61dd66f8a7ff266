-- What an answer's number has room for: of a list, 01: "at most 17"; of a placement, a layout that is not too large and a gap below 8. proofs/ carries it from canon's answers.
use Rattle.std.proofs.Math.Option.{Option, none, some}
use Rattle.std.specs.Prelude.{ℕ, ◌^◌, ◌≤◌, ◌<◌}
use Rattle.canon.specs.Answer.{Answer, ok, refused}
use Rattle.canon.specs.Layout.{Layout, largest_number}
use Rattle.canon.specs.Pack.{Packed}
use Rattle.signature.specs.Packs.{PackedSignature}

abbrev pub ShortList : Packed → Type 0
ShortList p = (p.number ≤ 17) × (p.types < 2 ^ 34)

abbrev pub ShortFlat : Option Packed → Type 0
ShortFlat none = Unit
ShortFlat (some p) = ShortList p

abbrev pub ShortSignature : PackedSignature → Type 0
ShortSignature s = ShortList s.params × ShortList s.results

abbrev pub ShortLayout : Layout → Type 0
ShortLayout f = (f.align ≤ 8) × (f.size ≤ largest_number)

-- a gap after the last member: below 8, the greatest alignment
abbrev pub ShortGap : ℕ → Type 0
ShortGap n = n < 8

-- a fact of the value, where there is one
abbrev pub IfAnswered : {A : Type 0} → (A → Type 0) → Answer A → Type 0
IfAnswered P (ok a) = P a
IfAnswered P (refused x i) = Unit
