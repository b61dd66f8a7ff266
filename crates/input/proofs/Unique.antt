-- Of an input whose bytes are known the answer of a reading that does not fail is fixed, and so is what it leaves in front and to be read.
use Rattle.std.proofs.Common.{◌≡◌, ℕ, ◌+◌, min, ◌<◌, ◌≤◌, List, ◌++◌, length, take, drop, Ok, arith, sym, ap, ◌∙◌, subst, length-append, length-take-le}
use mathlib.Core.Logic.{◌⊎◌, inl, inr}
use Rattle.std.specs.Prelude.{None, Some}
use Rattle.std.proofs.Math.Nat.{eq-or-lt_of_le}
use Rattle.std.proofs.Math.Seq.{take-append_seam, drop-append_seam}
use Rattle.std.specs.declared.option.Option.{Option}
use Rattle.std.specs.Io.KnownBytes.{Consumes, IsAtEnd}
use contract.Lifetimes.{Lfts}
use denote.RattleType.{RattleType}
use denote.Param.Laws.{Laws}
use denote.Ref.{MutBor, at_last}
use mir.Syntax.{Dict}
use Rattle.std.specs.declared.io.traits.Read.{Ghosts}
use Rattle.input.proofs.read_full.Reads as read-full

-- what is read is the known bytes' front, as long as they are or as there is room
known :
    (b : Option (List ℕ)) (xs l : List ℕ) (n : ℕ) → n ≤ length l → Consumes (Some xs) b (take n l) → (n < length l → IsAtEnd b) →
    (n ≡ min (length l) (length xs)) × (take n l ≡ take n xs) × (b ≡ Some (drop n xs))
known None xs l n fits front end = absurd front
known (Some ys) xs l n fits front end =
    (count (eq-or-lt_of_le fits), sym (at_front take ∙ take-append_seam (take n l) ys), sym (ap Some (at_front drop ∙ drop-append_seam (take n l) ys)))
  where
    long : length (take n l) ≡ n
    long = length-take-le n l fits

    split : length xs ≡ n + length ys
    split = ap length front ∙ length-append (take n l) ys ∙ ap (λ (k : ℕ). k + length ys) long

    count : (n ≡ length l) ⊎ (n < length l) → n ≡ min (length l) (length xs)
    count (inl e) = omega (arith, split)
    count (inr h) = omega (arith, split, ap length (end h))

    at_front : (f : ℕ → List ℕ → List ℕ) → f n xs ≡ f (length (take n l)) (take n l ++ ys)
    at_front f = ap (λ k. f k xs) (sym long) ∙ ap (f (length (take n l))) front

module _ (T : RattleType) (L : Laws T) (G : Ghosts T.Denot) (D : Dict) (κs : Lfts 3) (input : MutBor T.Denot) (bytes : MutBor (List ℕ)) where
  pub read_full_one :
      (xs l : List ℕ) (n : ℕ) (rest : T.Denot) → G.remaining input.now ≡ Some xs →
      read-full.Post T L G D κs (input, (bytes, tt)) (Ok n) (at_last input rest, (at_last bytes l, tt)) →
      (n ≡ min (length l) (length xs)) × (take n l ≡ take n xs) × (G.remaining rest ≡ Some (drop n xs))
  read_full_one xs l n rest e g = known (G.remaining rest) xs l n g.0 (subst (λ o. Consumes o (G.remaining rest) (take n l)) e g.1.0) g.1.1
