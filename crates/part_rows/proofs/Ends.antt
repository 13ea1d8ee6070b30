-- The ends of a row's keys: the first is not behind any, and none is behind the last.
use Rattle.std.proofs.Common.{◌≡◌, Bool, true, false, cond, refl, sym, arith, IsTrue, Option, Some, None}
use Rattle.std.specs.Option.{option_map}
use Rattle.std.specs.declared.cmp.Ordering.{Ordering}
use Rattle.std.specs.declared.cmp.Ordering.TheVariants.{Less, Equal, Greater}
use Rattle.std.specs.Cmp.Lexicographic.{slice_cmp}
use Rattle.std.specs.Ordering.{is_gt, is_le, nat_cmp}
use Rattle.std.proofs.lemmas.Bool.{and_parts, false≢true}
use Rattle.std.proofs.lemmas.Int.{ints}
use Rattle.shard_groups.specs.declared.keys.Ends.{Ends}
use Rattle.shard_groups.specs.declared.keys.KeyValue.{KeyValue}
use Rattle.shard_groups.specs.declared.keys.KeyValue.TheVariants.{Number, Text}
use Rattle.shard_groups.specs.declared.keys.Span.{Span}
use Rattle.shard_groups.specs.Keys.{allows, at_most, is_between}
use Rattle.part_rows.specs.declared.row.End.TheVariants.{First, Last}
use Rattle.part_rows.specs.declared.row.PartRow.{PartRow}
use Rattle.part_rows.specs.Marks.{Mark, key_at, key_cmp, mark_at, value_at, value_cmp}
use Rattle.part_rows.specs.Laws.{IsNarrower}
use Rattle.part_rows.proofs.Orders.{IsUpTo, up_to_by_key}

-- ---- values

not_gt : (o : Ordering) → IsTrue (is_le o) → is_gt o ≡ false
not_gt Less t = refl
not_gt Equal t = refl
not_gt Greater t = absurd (false≢true t)

value_up_to : (a b : KeyValue) → IsTrue (at_most a b) → is_gt (value_cmp a b) ≡ false
value_up_to (Number x) (Number y) t = grind (arith, ints)
value_up_to (Number x) (Text s) t = refl
value_up_to (Text s) (Number y) t = absurd (false≢true t)
value_up_to (Text s) (Text u) t = not_gt (slice_cmp nat_cmp s u) t

null_last : (down : Bool) (k : Option KeyValue) → is_gt (key_cmp down k None) ≡ false
null_last down None = refl
null_last down (Some v) = refl

-- the first end of a range is not behind a value that is not below its low end or above its high one
first_value : (down : Bool) (ends : Ends) (v : KeyValue) → IsTrue (at_most ends.low v) → IsTrue (at_most v ends.high) →
    is_gt (key_cmp down (Some (value_at down First ends)) (Some v)) ≡ false
first_value true ends v p q = value_up_to v ends.high q
first_value false ends v p q = value_up_to ends.low v p

last_value : (down : Bool) (ends : Ends) (v : KeyValue) → IsTrue (at_most ends.low v) → IsTrue (at_most v ends.high) →
    is_gt (key_cmp down (Some v) (Some (value_at down Last ends))) ≡ false
last_value true ends v p q = value_up_to ends.low v p
last_value false ends v p q = value_up_to v ends.high q

-- ---- what a span allows lies between its ends

abbrev first_of : Bool → Option Ends → Option KeyValue
first_of down ends = option_map (value_at down First) ends

abbrev last_of : Bool → Bool → Option Ends → Option KeyValue
last_of down null ends = cond null None (option_map (value_at down Last) ends)

first_value_of : (down : Bool) (ends : Option Ends) (v : KeyValue) → IsTrue (is_between ends v) →
    is_gt (key_cmp down (first_of down ends) (Some v)) ≡ false
first_value_of down None v t = absurd (false≢true t)
first_value_of down (Some ends) v t =
    let parts = and_parts (at_most ends.low v) (at_most v ends.high) t in first_value down ends v parts.0 parts.1

last_value_of : (down null : Bool) (ends : Option Ends) (v : KeyValue) → IsTrue (is_between ends v) →
    is_gt (key_cmp down (Some v) (last_of down null ends)) ≡ false
last_value_of down true ends v t = refl
last_value_of down false None v t = absurd (false≢true t)
last_value_of down false (Some ends) v t =
    let parts = and_parts (at_most ends.low v) (at_most v ends.high) t in last_value down ends v parts.0 parts.1

last_null : (down null : Bool) (ends : Option Ends) → IsTrue null → is_gt (key_cmp down None (last_of down null ends)) ≡ false
last_null down true ends t = refl
last_null down false ends t = absurd (false≢true t)

first_key : (down : Bool) (span : Span) (k : Option KeyValue) → IsTrue (allows span k) → is_gt (key_cmp down (key_at down First span) k) ≡ false
first_key down span None t = null_last down (key_at down First span)
first_key down span (Some v) t = first_value_of down span.ends v t

last_key : (down : Bool) (span : Span) (k : Option KeyValue) → IsTrue (allows span k) → is_gt (key_cmp down k (key_at down Last span)) ≡ false
last_key down span None t = last_null down span.null span.ends t
last_key down span (Some v) t = last_value_of down span.null span.ends v t

pub first_up_to : (down : Bool) (row : PartRow) (mark : Mark) → mark.name ≡ row.name → IsTrue (allows row.key mark.key) →
    IsUpTo down (mark_at down First row) mark
first_up_to down row mark e t = up_to_by_key down (key_at down First row.key) mark.key row.name mark.name (sym e) (first_key down row.key mark.key t)

pub up_to_last : (down : Bool) (row : PartRow) (mark : Mark) → mark.name ≡ row.name → IsTrue (allows row.key mark.key) →
    IsUpTo down mark (mark_at down Last row)
up_to_last down row mark e t = up_to_by_key down mark.key (key_at down Last row.key) mark.name row.name e (last_key down row.key mark.key t)

-- ---- later, and of one row

pub first_narrower : (down : Bool) (old row : PartRow) → IsNarrower down old row → IsUpTo down (mark_at down First old) (mark_at down First row)
first_narrower down old row h =
    first_up_to down old (mark_at down First row) h.named (h.within (key_at down First row.key) (h.ends First))

pub last_narrower : (down : Bool) (old row : PartRow) → IsNarrower down old row → IsUpTo down (mark_at down Last row) (mark_at down Last old)
last_narrower down old row h =
    up_to_last down old (mark_at down Last row) h.named (h.within (key_at down Last row.key) (h.ends Last))

pub first_to_last : (down : Bool) (row old : PartRow) → IsNarrower down old row → IsUpTo down (mark_at down First row) (mark_at down Last row)
first_to_last down row old h = first_up_to down row (mark_at down Last row) refl (h.ends Last)
