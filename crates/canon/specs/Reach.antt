-- What a type reaches through its references, list elements too: a Borrow, and how deep it goes (word 15 of a row).
use Rattle.std.specs.Prelude.{Bool, false, cond, ◌||◌, ◌&&◌, ℕ, suc, ◌+◌, ◌*◌, ◌/◌, ◌%◌, max, leb, ltb, eqb}
use Rattle.canon.specs.Types.{Ty, scalar, string, record_of, variant_of, list_of, tuple_of, map_of, flags_of, enum_of, option_of, result_of, fixed_of, facts, Members, ∅, ◌◂◌, Case, bare, holding, Cases, ∎, ◌▸◌}

pub record Reach : Type 0 where
  pub borrow : Bool
  pub depth : ℕ

abbrev pub no_reach : Reach
no_reach = record { borrow = false; depth = 0 }

-- what either reaches, as deep as the deeper goes
unfoldable pub join_reach : Reach → Reach → Reach
join_reach a b = record { borrow = a.borrow || b.borrow; depth = max a.depth b.depth }

-- a definition over what its references reach. 02: "one more than the deepest definition it refers to, 1 if it refers to none"
unfoldable pub deeper : Reach → Reach
deeper r = record { borrow = r.borrow; depth = suc r.depth }

-- 02: "Word 15 becomes borrow plus twice the depth"; 01 of the borrow: "1 if a Borrow is reached through any reference, .. else 0"
unfoldable pub reach_word : Reach → ℕ
reach_word r = cond r.borrow 1 0 + 2 * r.depth

-- and what a word tells
unfoldable pub word_reach : ℕ → Reach
word_reach w = record { borrow = eqb (w % 2) 1; depth = w / 2 }

-- 02: "a well-formed row has 2 to 201 there"
unfoldable pub good_reach : ℕ → Bool
good_reach w = leb 2 w && leb w 201

-- "list elements and map parts included"; a reference without a definition is no definition deep
unfoldable mutual
  pub reach : Ty → Reach
  reach (scalar s) = record { borrow = (facts s).borrow; depth = 0 }
  reach string = no_reach
  reach (record_of ts) = deeper (member_reach ts)
  reach (variant_of cs) = deeper (case_reach cs)
  reach (list_of t) = deeper (reach t)
  reach (tuple_of ts) = deeper (member_reach ts)
  reach (map_of k v) = deeper (join_reach (reach k) (reach v))
  reach (flags_of n) = deeper no_reach
  reach (enum_of n) = deeper no_reach
  reach (option_of t) = deeper (reach t)
  reach (result_of ok err) = deeper (join_reach (payload_reach ok) (payload_reach err))
  reach (fixed_of t n) = deeper (reach t)

  pub member_reach : Members → Reach
  member_reach ∅ = no_reach
  member_reach (t ◂ ts) = join_reach (reach t) (member_reach ts)

  pub payload_reach : Case → Reach
  payload_reach bare = no_reach
  payload_reach (holding t) = reach t

  pub case_reach : Cases → Reach
  case_reach ∎ = no_reach
  case_reach (c ▸ cs) = join_reach (payload_reach c) (case_reach cs)

abbrev pub depth : Ty → ℕ
depth t = (reach t).depth

-- 02: "9 TooDeep above 100"

abbrev pub deepest : ℕ
deepest = 100

unfoldable pub is_too_deep : Reach → Bool
is_too_deep r = ltb deepest r.depth
