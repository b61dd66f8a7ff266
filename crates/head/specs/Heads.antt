-- The head of a definition over the whole description, by places.
use Rattle.std.specs.Prelude.{◌≡◌, cond, List, ℕ, ◌+◌, ◌-◌, ◌≤◌, ltb, length, get_or, take, drop}
use Rattle.std.proofs.Math.Option.{Option, none, some}
use Rattle.canon.specs.Answer.{Leaf, is, no, truncated, bad_kind}
use Rattle.canon.specs.Description.{kind_of}
use Rattle.canon.specs.Types.{Kind}
use Rattle.canon.specs.Description.{Shape, counted, fixed, shape_of, body_length}

-- the references stand from `first` to before `end`, the next definition from `next` on; `count` is the word after the kind word
pub record Heading : Type 0 where
  pub kind : Kind
  pub count : ℕ
  pub first : ℕ
  pub end : ℕ
  pub next : ℕ

-- the words of a body before its references
abbrev pub before : Shape → ℕ
before counted = 1
before (fixed r k) = 0

-- how many references they are
abbrev pub many : Shape → ℕ → ℕ
many counted n = n
many (fixed r k) n = r

-- the numbers behind them
abbrev pub behind : Shape → ℕ
behind counted = 0
behind (fixed r k) = k

-- the head of a kind whose body stands from a place on
abbrev pub heading : Kind → List ℕ → ℕ → Heading
heading k ws from =
    record {
      kind = k;
      count = get_or ws from 0;
      first = from + before (shape_of k);
      end = from + before (shape_of k) + many (shape_of k) (get_or ws from 0);
      next = from + body_length (shape_of k) (get_or ws from 0);
    }

-- "a definition runs past the end"
unfoldable pub body_at : Kind → List ℕ → ℕ → Leaf Heading
body_at k ws from = cond (ltb (length ws - from) (body_length (shape_of k) (get_or ws from 0))) (no truncated) (is (heading k ws from))

-- "kind not 1 to 10"
unfoldable pub head_kind : Option Kind → List ℕ → ℕ → Leaf Heading
head_kind none ws from = no bad_kind
head_kind (some k) ws from = body_at k ws from

-- a place past the end has no word to be a kind: a definition there runs past the end
unfoldable pub head_at : List ℕ → ℕ → Leaf Heading
head_at ws at = cond (ltb at (length ws)) (head_kind (kind_of (get_or ws at 0)) ws (at + 1)) (no truncated)

-- the words from a place to before another
unfoldable pub between : List ℕ → ℕ → ℕ → List ℕ
between ws first end = take (end - first) (drop first ws)

-- a heading's places, within n words
pub record Spans (h : Heading) (n : ℕ) : Type 0 where
  pub references : h.end ≡ h.first + many (shape_of h.kind) h.count
  pub numbers : h.next ≡ h.end + behind (shape_of h.kind)
  pub inside : h.next ≤ n
