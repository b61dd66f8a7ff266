-- A short list asks for few rows. They are copied to a table of their own, and the references are renamed so.
use Rattle.std.specs.Prelude.{List, ◌≡◌, ℕ, ◌+◌, ◌<◌, length, get_or}
use Rattle.canon.specs.Answer.{Leaf}
use Rattle.canon.specs.Row.{Info}
use Rattle.canon.specs.Table.{capacity}
use Rattle.canon.specs.Question.{read}

-- what a name stands for in the table p of picked rows, all of which may be named
abbrev pub read_picked : List ℕ → ℕ → Leaf Info
read_picked p w = read p (capacity (length p)) w

-- from p to q every name below that of a slot has kept its meaning
pub record Keeps (slot : ℕ) (p q : List ℕ) : Type 0 where
  pub size : length q ≡ length p
  pub kept : (w : ℕ) → w < 64 + slot → read_picked q w ≡ read_picked p w

-- the names us stand for what the references ws do in the table t of n rows, and name no slot from this one on
pub record Names (slot : ℕ) (p us t : List ℕ) (n : ℕ) (ws : List ℕ) : Type 0 where
  pub count : length us ≡ length ws
  pub alike : (k : ℕ) → k < length ws → (get_or us k 0 < 64 + slot) × (read_picked p (get_or us k 0) ≡ read t n (get_or ws k 0))
