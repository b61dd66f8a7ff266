-- What this crate's values stand for.
use Rattle.canon.specs.Types as trees
use Rattle.head.specs.Heads.{Heading}
use Rattle.head.specs.declared.Kind.{Kind}
use Rattle.head.specs.declared.Kind.TheVariants as kind
use Rattle.head.specs.declared.Heading as declared

abbrev pub kind_means : Kind → trees.Kind
kind_means kind.Record = trees.k_record
kind_means kind.Variant = trees.k_variant
kind_means kind.List = trees.k_list
kind_means kind.Tuple = trees.k_tuple
kind_means kind.Map = trees.k_map
kind_means kind.Flags = trees.k_flags
kind_means kind.Enum = trees.k_enum
kind_means kind.Option = trees.k_option
kind_means kind.Result = trees.k_result
kind_means kind.FixedLengthList = trees.k_fixed

abbrev pub heading_means : declared.Heading → Heading
heading_means h = record { kind = kind_means h.kind; count = h.count; first = h.first; end = h.end; next = h.next }
