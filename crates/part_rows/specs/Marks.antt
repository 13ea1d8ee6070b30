-- The order of rows: by their keys, and of equal keys by their names.
use Rattle.std.specs.Prelude.{Bool, if◌then◌else◌}
use Rattle.std.specs.declared.option.Option.{Option}
use Rattle.std.specs.declared.option.Option.TheVariants.{Some, None}
use Rattle.std.specs.Option.{option_map}
use Rattle.std.specs.Cmp.Lexicographic.{slice_cmp}
use Rattle.std.specs.declared.cmp.Ordering.{Ordering}
use Rattle.std.specs.declared.cmp.Ordering.TheVariants.{Less, Equal, Greater}
use Rattle.std.specs.Ordering.{int_cmp, is_lt, nat_cmp, ordering_then}
use Rattle.shard_groups.specs.declared.keys.Ends.{Ends}
use Rattle.shard_groups.specs.declared.keys.KeyValue.{KeyValue}
use Rattle.shard_groups.specs.declared.keys.KeyValue.TheVariants.{Number, Text}
use Rattle.shard_groups.specs.declared.keys.Span.{Span}
use Rattle.part_rows.specs.declared.row.End.{End}
use Rattle.part_rows.specs.declared.row.End.TheVariants.{First, Last}
use Rattle.part_rows.specs.declared.row.PartRow.{PartRow}
use Rattle.part_rows.specs.declared.row.RowName.{RowName}

-- a row with a key; none is null
pub record Mark : Type 0 where
  pub key : Option KeyValue
  pub name : RowName

-- ---- the order

-- numbers come before texts, and texts go by their bytes
abbrev pub value_cmp : KeyValue → KeyValue → Ordering
value_cmp (Number x) (Number y) = int_cmp x y
value_cmp (Number x) (Text t) = Less
value_cmp (Text s) (Number y) = Greater
value_cmp (Text s) (Text t) = slice_cmp nat_cmp s t

-- null comes last, downwards and upwards
abbrev pub key_cmp : Bool → Option KeyValue → Option KeyValue → Ordering
key_cmp down None None = Equal
key_cmp down None (Some b) = Greater
key_cmp down (Some a) None = Less
key_cmp down (Some a) (Some b) = if down then value_cmp b a else value_cmp a b

-- by part, then by tag, then by number
abbrev pub name_cmp : RowName → RowName → Ordering
name_cmp a b = ordering_then (ordering_then (nat_cmp a.part b.part) (slice_cmp nat_cmp a.tag b.tag)) (nat_cmp a.number b.number)

abbrev pub mark_cmp : Bool → Mark → Mark → Ordering
mark_cmp down a b = ordering_then (key_cmp down a.key b.key) (name_cmp a.name b.name)

abbrev pub comes_before : Bool → Mark → Mark → Bool
comes_before down a b = is_lt (mark_cmp down a b)

-- ---- the ends of what is known of a key

-- the value of a range that comes first, and the one that comes last
abbrev pub value_at : Bool → End → Ends → KeyValue
value_at down First ends = if down then ends.high else ends.low
value_at down Last ends = if down then ends.low else ends.high

-- the key of those that a span allows that comes first, and the one that comes last
abbrev pub key_at : Bool → End → Span → Option KeyValue
key_at down First span = option_map (value_at down First) span.ends
key_at down Last span = if span.null then None else option_map (value_at down Last) span.ends

-- a listed row with that key
abbrev pub mark_at : Bool → End → PartRow → Mark
mark_at down end row = record { key = key_at down end row.key; name = row.name }
