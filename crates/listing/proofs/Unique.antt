-- No second outcome meets a promise, in the answer or in the lent memory.
use mathlib.Core.Path.{◌≡◌, sym, ◌∙◌}
use mathlib.Core.List.{List}
use Prim.Native.Nat.{ℕ}
use contract.Lifetimes.{Lfts}
use denote.Bor.{Bor}
use denote.Ref.{MutBor, at_last}
use Rattle.listing.proofs.program.report.Reads as report

pub report_one :
    (κs : Lfts 2) (b : Bor (List ℕ)) (t : MutBor (List ℕ)) (r q : ℕ) (l k : List ℕ) →
    report.Post κs (b, (t, tt)) r (b, (at_last t l, tt)) →
    report.Post κs (b, (t, tt)) q (b, (at_last t k, tt)) →
    (r ≡ q) × (l ≡ k)
report_one κs b t r q l k g h = (g.0 ∙ sym h.0, g.2 ∙ sym h.2)
