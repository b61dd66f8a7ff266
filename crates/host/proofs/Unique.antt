-- No second outcome meets a promise: the answer is an equation, and so is what was lent.
use mathlib.Core.Path.{◌≡◌, sym, ◌∙◌}
use mathlib.Core.List.{List}
use Prim.Native.Nat.{ℕ}
use contract.Lifetimes.{Lfts}
use denote.Bor.{Bor}
use denote.Ref.{MutBor, at_last}
use Rattle.host.proofs.leaves.lampughjata_align_to.Reads as align-to
use Rattle.host.proofs.leaves.lampughjata_max.Reads as max
use Rattle.host.proofs.leaves.lampughjata_add_flat.Reads as add-flat
use Rattle.host.proofs.leaves.lampughjata_max_flat.Reads as max-flat
use Rattle.host.proofs.leaves.lampughjata_next_field.Reads as next_field
use Rattle.host.proofs.leaves.lampughjata_flags.Reads as flags
use Rattle.host.proofs.leaves.lampughjata_enum.Reads as enum
use Rattle.host.proofs.leaves.lampughjata_fixed_length_list.Reads as fixed-length-list
use Rattle.host.proofs.leaves.lampughjata_discriminant.Reads as discriminant
use Rattle.host.proofs.records.lampughjata_record.Reads as record_of
use Rattle.host.proofs.variants.lampughjata_variant.Reads as variant-of
use Rattle.host.proofs.tables.lampughjata_build.Reads as build
use Rattle.host.proofs.tables.lampughjata_type.Reads as type
use Rattle.host.proofs.tables.lampughjata_size_align.Reads as size-align
use Rattle.host.proofs.tables.lampughjata_placement.Reads as placement
use Rattle.host.proofs.signatures.lampughjata_flatten.Reads as flatten
use Rattle.host.proofs.signatures.lampughjata_lowering.Reads as lowering
use Rattle.host.proofs.signatures.lampughjata_lifting.Reads as lifting
use Rattle.host.proofs.signatures.lampughjata_async_start.Reads as async-start
use Rattle.host.proofs.signatures.lampughjata_async_return.Reads as async-return
use Rattle.host.proofs.signatures.lampughjata_functype.Reads as functype
use Rattle.host.proofs.signatures.lampughjata_contains_borrow.Reads as contains-borrow
use Rattle.host.proofs.records.lampughjata_record_bytes.Reads as record-bytes
use Rattle.host.proofs.variants.lampughjata_variant_bytes.Reads as variant-bytes
use Rattle.host.proofs.build_bytes.lampughjata_build_bytes.Reads as build-bytes
use Rattle.host.proofs.table_bytes.lampughjata_type_bytes.Reads as type-bytes
use Rattle.host.proofs.table_bytes.lampughjata_size_align_bytes.Reads as size-align-bytes
use Rattle.host.proofs.table_bytes.lampughjata_placement_bytes.Reads as placement-bytes
use Rattle.host.proofs.signature_bytes.lampughjata_flatten_bytes.Reads as flatten-bytes
use Rattle.host.proofs.signature_bytes.lampughjata_lowering_bytes.Reads as lowering-bytes
use Rattle.host.proofs.signature_bytes.lampughjata_lifting_bytes.Reads as lifting-bytes
use Rattle.host.proofs.signature_bytes.lampughjata_async_start_bytes.Reads as async-start-bytes
use Rattle.host.proofs.signature_bytes.lampughjata_async_return_bytes.Reads as async-return-bytes
use Rattle.host.proofs.signature_bytes.lampughjata_functype_bytes.Reads as functype-bytes
use Rattle.host.proofs.signature_bytes.lampughjata_contains_borrow_bytes.Reads as contains-borrow-bytes

-- what is not written is at exit what it was
abbrev Single : {A R : Type 0} → (A → R → A → Type 0) → Type 0
Single {A} {R} Post = (a : A) (r q : R) → Post a r a → Post a q a → r ≡ q

pub align_to_one : Single (align-to.Post tt)
align_to_one a r q g h = g ∙ sym h

pub max_one : Single (max.Post tt)
max_one a r q g h = g ∙ sym h

pub add_flat_one : Single (add-flat.Post tt)
add_flat_one a r q g h = g ∙ sym h

pub max_flat_one : Single (max-flat.Post tt)
max_flat_one a r q g h = g ∙ sym h

pub next_field_one : Single (next_field.Post tt)
next_field_one a r q g h = g ∙ sym h

pub flags_one : Single (flags.Post tt)
flags_one a r q g h = g ∙ sym h

pub enum_one : Single (enum.Post tt)
enum_one a r q g h = g ∙ sym h

pub fixed_length_list_one : Single (fixed-length-list.Post tt)
fixed_length_list_one a r q g h = g ∙ sym h

pub discriminant_one : Single (discriminant.Post tt)
discriminant_one a r q g h = g ∙ sym h

pub record_one : (κs : Lfts 1) → Single (record_of.Post κs)
record_one κs a r q g h = g ∙ sym h

pub variant_one : (κs : Lfts 1) → Single (variant-of.Post κs)
variant_one κs a r q g h = g ∙ sym h

pub build_one :
    (κs : Lfts 2) (x0 : Bor (List ℕ)) (x1 : MutBor (List ℕ)) (r q : ℕ) (l k : List ℕ) →
    build.Post κs (x0, (x1, tt)) r (x0, (at_last x1 l, tt)) →
    build.Post κs (x0, (x1, tt)) q (x0, (at_last x1 k, tt)) →
    (r ≡ q) × (l ≡ k)
build_one κs x0 x1 r q l k g h = (g.0 ∙ sym h.0, g.1 ∙ sym h.1)

pub type_one : (κs : Lfts 1) → Single (type.Post κs)
type_one κs a r q g h = g ∙ sym h

pub size_align_one : (κs : Lfts 1) → Single (size-align.Post κs)
size_align_one κs a r q g h = g ∙ sym h

pub placement_one :
    (κs : Lfts 4) (x0 : ℕ) (x1 : Bor (List ℕ)) (x2 : ℕ) (x3 : Bor (List ℕ)) (x4 x5 : MutBor (List ℕ)) (r q : ℕ) (l k l' k' : List ℕ) →
    placement.Post κs (x0, (x1, (x2, (x3, (x4, (x5, tt)))))) r (x0, (x1, (x2, (x3, (at_last x4 l, (at_last x5 l', tt)))))) →
    placement.Post κs (x0, (x1, (x2, (x3, (x4, (x5, tt)))))) q (x0, (x1, (x2, (x3, (at_last x4 k, (at_last x5 k', tt)))))) →
    (r ≡ q) × (l ≡ k) × (l' ≡ k')
placement_one κs x0 x1 x2 x3 x4 x5 r q l k l' k' g h = (g.0 ∙ sym h.0, g.1.0 ∙ sym h.1.0, g.1.1 ∙ sym h.1.1)

pub flatten_one : (κs : Lfts 2) → Single (flatten.Post κs)
flatten_one κs a r q g h = g ∙ sym h

pub lowering_one : (κs : Lfts 2) → Single (lowering.Post κs)
lowering_one κs a r q g h = g ∙ sym h

pub lifting_one : (κs : Lfts 2) → Single (lifting.Post κs)
lifting_one κs a r q g h = g ∙ sym h

pub async_start_one : (κs : Lfts 3) → Single (async-start.Post κs)
async_start_one κs a r q g h = g ∙ sym h

pub async_return_one : (κs : Lfts 3) → Single (async-return.Post κs)
async_return_one κs a r q g h = g ∙ sym h

pub functype_one : (κs : Lfts 3) → Single (functype.Post κs)
functype_one κs a r q g h = g ∙ sym h

pub contains_borrow_one : (κs : Lfts 2) → Single (contains-borrow.Post κs)
contains_borrow_one κs a r q g h = g ∙ sym h

pub record_bytes_one : (κs : Lfts 1) → Single (record-bytes.Post κs)
record_bytes_one κs a r q g h = g ∙ sym h

pub variant_bytes_one : (κs : Lfts 1) → Single (variant-bytes.Post κs)
variant_bytes_one κs a r q g h = g ∙ sym h

pub build_bytes_one :
    (κs : Lfts 2) (x0 : Bor (List ℕ)) (x1 : MutBor (List ℕ)) (r q : ℕ) (l k : List ℕ) →
    build-bytes.Post κs (x0, (x1, tt)) r (x0, (at_last x1 l, tt)) →
    build-bytes.Post κs (x0, (x1, tt)) q (x0, (at_last x1 k, tt)) →
    (r ≡ q) × (l ≡ k)
build_bytes_one κs x0 x1 r q l k g h = (g.0 ∙ sym h.0, g.1 ∙ sym h.1)

pub type_bytes_one : (κs : Lfts 1) → Single (type-bytes.Post κs)
type_bytes_one κs a r q g h = g ∙ sym h

pub size_align_bytes_one : (κs : Lfts 1) → Single (size-align-bytes.Post κs)
size_align_bytes_one κs a r q g h = g ∙ sym h

pub placement_bytes_one :
    (κs : Lfts 4) (x0 : ℕ) (x1 : Bor (List ℕ)) (x2 : ℕ) (x3 : Bor (List ℕ)) (x4 x5 : MutBor (List ℕ)) (r q : ℕ) (l k l' k' : List ℕ) →
    placement-bytes.Post κs (x0, (x1, (x2, (x3, (x4, (x5, tt)))))) r (x0, (x1, (x2, (x3, (at_last x4 l, (at_last x5 l', tt)))))) →
    placement-bytes.Post κs (x0, (x1, (x2, (x3, (x4, (x5, tt)))))) q (x0, (x1, (x2, (x3, (at_last x4 k, (at_last x5 k', tt)))))) →
    (r ≡ q) × (l ≡ k) × (l' ≡ k')
placement_bytes_one κs x0 x1 x2 x3 x4 x5 r q l k l' k' g h = (g.0 ∙ sym h.0, g.1.0 ∙ sym h.1.0, g.1.1 ∙ sym h.1.1)

pub flatten_bytes_one : (κs : Lfts 2) → Single (flatten-bytes.Post κs)
flatten_bytes_one κs a r q g h = g ∙ sym h

pub lowering_bytes_one : (κs : Lfts 2) → Single (lowering-bytes.Post κs)
lowering_bytes_one κs a r q g h = g ∙ sym h

pub lifting_bytes_one : (κs : Lfts 2) → Single (lifting-bytes.Post κs)
lifting_bytes_one κs a r q g h = g ∙ sym h

pub async_start_bytes_one : (κs : Lfts 3) → Single (async-start-bytes.Post κs)
async_start_bytes_one κs a r q g h = g ∙ sym h

pub async_return_bytes_one : (κs : Lfts 3) → Single (async-return-bytes.Post κs)
async_return_bytes_one κs a r q g h = g ∙ sym h

pub functype_bytes_one : (κs : Lfts 3) → Single (functype-bytes.Post κs)
functype_bytes_one κs a r q g h = g ∙ sym h

pub contains_borrow_bytes_one : (κs : Lfts 2) → Single (contains-borrow-bytes.Post κs)
contains_borrow_bytes_one κs a r q g h = g ∙ sym h
