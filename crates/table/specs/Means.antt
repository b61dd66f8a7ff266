-- What this crate's values stand for.
use Rattle.std.specs.Prelude.{cond, List, [], ◌∷◌, ◌≡◌, ℕ, Result, Ok, Err}
use Rattle.std.proofs.Math.Option.{some}
use Rattle.std.proofs.Math.ListN.{get_elem?}
use Rattle.canon.specs.Answer.{Leaf, is, no, Answer, ok, refused, map_option, too_deep}
use Rattle.canon.specs.Flat.{flat_count}
use Rattle.canon.specs.Layout.{Both, Memory, within, Layout, layout}
use Rattle.canon.specs.Row as canon
use Rattle.canon.specs.Reach as reach
use Rattle.canon.specs.Reach.{reach_word, word_reach, deeper, is_too_deep}
use Rattle.canon.specs.Row.{count_of}
use Rattle.canon.specs.Types.{plain}
use Rattle.types.specs.Means.{number_of, layouts_means}
use Rattle.flat_types.specs.Lists.{halves}
use Rattle.table.specs.declared.reach.Reach.{Reach}
use Rattle.table.specs.declared.info.DefinitionIndex.{DefinitionIndex}
use Rattle.table.specs.declared.info.Info.{Info}
use Rattle.table.specs.declared.info.MemberPosition.{MemberPosition}
use Rattle.table.specs.declared.refused.Refused.{Refused}
use Rattle.table.specs.declared.row.Row.{Row}

-- word 15
abbrev pub reach_means : Reach → reach.Reach
reach_means r = word_reach r.0

abbrev pub reach_of : reach.Reach → Reach
reach_of r = record { 0 = reach_word r }

-- what a definition reaches, by what its references reach
unfoldable pub deeper_answer : reach.Reach → Leaf reach.Reach
deeper_answer r = cond (is_too_deep (deeper r)) (no too_deep) (is (deeper r))

-- what a build or a question answers: the value's meaning, or 01's number of the refusal with the position
abbrev pub answer : {A B P : Type 0} → (P → ℕ) → (A → B) → Result A (Refused P) → Answer B
answer place f (Ok a) = ok (f a)
answer place f (Err e) = refused (number_of e.why) (place e.at)

-- the positions of a build
abbrev pub definition_place : DefinitionIndex → ℕ
definition_place i = i.0

-- the positions of a question
abbrev pub member_place : MemberPosition → ℕ
member_place i = i.0

-- canon's info: the five numbers, the flat words, what is reached
abbrev pub info_means : Info → canon.Info
info_means i =
    record {
      abi = record { layouts = layouts_means i.layouts; flats = count_of i.flat.count };
      flat_words = halves i.flat.words;
      reach = reach_means i.reach;
    }

-- the layouts of a reference without a definition
abbrev pub PlainLayouts : ℕ → Both Layout → Type 0
PlainLayouts k ls = (m : Memory) → map_option (layout m) (get_elem? plain k) ≡ some (within m ls)

-- and its five numbers
abbrev pub Plain : ℕ → canon.Abi → Type 0
Plain k a = PlainLayouts k a.layouts × (map_option flat_count (get_elem? plain k) ≡ some a.flats)

-- 01, "Row": the sixteen words in their order
abbrev pub row_means : Row → List ℕ
row_means r =
    r.kind
    ∷ r.info.layouts.in32.size
    ∷ r.info.layouts.in32.align
    ∷ r.info.layouts.in64.size
    ∷ r.info.layouts.in64.align
    ∷ r.info.flat.count
    ∷ (halves r.info.flat.words).in32
    ∷ (halves r.info.flat.words).in64
    ∷ r.inner.discriminant
    ∷ r.inner.offset32
    ∷ r.inner.offset64
    ∷ r.inner.entries.in32.size
    ∷ r.inner.entries.in32.align
    ∷ r.inner.entries.in64.size
    ∷ r.inner.entries.in64.align
    ∷ r.info.reach.0
    ∷ []
