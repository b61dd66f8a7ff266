-- What the references of a list give together: all that the questions on signatures take from it.
use Rattle.std.specs.Prelude.{Bool, List, ℕ}
use Rattle.canon.specs.Answer.{Answer, ok, then, unless, too_long, bad_row}
use Rattle.canon.specs.Layout.{Memory}
use Rattle.canon.specs.Pack.{Packed}
use Rattle.canon.specs.Row.{Info}
use Rattle.canon.specs.Question.{read, infos, too_many, no_table, ask_two, any_borrow}
use Rattle.canon.specs.Signature.{flat_all}
use Rattle.flat_types.specs.Lists.{packed}

-- the flat list in one memory, and whether a Borrow is reached
pub record Together : Type 0 where
  pub flat : Packed
  pub borrow : Bool

abbrev pub together : Memory → List Info → Together
together m is' = record { flat = packed (flat_all m is'); borrow = any_borrow is' }

-- of references; positions count from 0
abbrev pub together_refs : Memory → List ℕ → ℕ → List ℕ → Answer Together
together_refs m t n ws = then (infos (read t n) 0 ws) (λ is'. ok (together m is'))

-- "TooLong, n", then each reference in order
unfoldable pub gather_answer : Memory → List ℕ → ℕ → List ℕ → Answer Together
gather_answer m t n ws = unless (too_many ws) too_long (unless (no_table t n) bad_row (together_refs m t n ws))

-- Two lists, each in its memory

pub record Two : Type 0 where
  pub first : Together
  pub second : Together

abbrev pub together_two : Memory → List Info → Memory → List Info → Two
together_two a is' b js = record { first = together a is'; second = together b js }

-- "TooLong of both first, and positions count on from one into the other"
abbrev pub gather_two_answer : List ℕ → ℕ → Memory → List ℕ → Memory → List ℕ → Answer Two
gather_two_answer t n a vs b ws = ask_two t n vs ws (λ is' js. ok (together_two a is' b js))
