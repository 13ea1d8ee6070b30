-- The text of an interval in which an answer lies.
use Rattle.std.specs.Prelude.{ℕ, ◌==◌, ℤ, Bool, ◌&&◌, List, [], ◌++◌, codes}
use Rattle.std.specs.Prelude.{decimal, length, slice_get, slice_index_or, if◌then◌else◌}
use Rattle.std.specs.declared.option.Option.{Option}
use Rattle.std.specs.declared.option.Option.TheVariants.{Some, None}
use Rattle.std.specs.Ordering.{int_eq}
use Rattle.interval_calc.specs.Intervals.{Fraction}
use Rattle.daq_table.specs.Numbers.{scaled_text}
use Rattle.daq_table.specs.ValueTexts.{text_of_value}
use Rattle.daq_table.specs.declared.head.ColumnHead.{ColumnHead}
use Rattle.daq_table.specs.declared.table_head.Head.{Head}
use Rattle.query_model.specs.Bounds.{AverageBound}
use Rattle.query_model.specs.declared.bounds.Bound.{Bound}
use Rattle.query_model.specs.declared.bounds.Nullity.{Nullity}
use Rattle.query_model.specs.declared.bounds.Nullity.TheVariants.{Never, Possibly, Always}
use Rattle.query_model.specs.declared.query.Face.{Face}
use Rattle.query_model.specs.declared.query.Face.TheVariants.{Number, OfColumn}
use Rattle.query_model.specs.declared.query.TypedQuery.{TypedQuery}

-- the head of a column of the query
abbrev pub column_of : Head → TypedQuery → ℕ → Option ColumnHead
column_of head query c = slice_get head.columns (slice_index_or query.columns c (length head.columns))

-- what is shown of a column that is not there: nothing
abbrev pub name_of : Option ColumnHead → List ℕ
name_of None = []
name_of (Some column) = column.name

abbrev pub value_of : Option ColumnHead → ℤ → List ℕ
value_of None value = []
value_of (Some column) value = text_of_value column value

-- a number of so many decimals, or a value of a column
abbrev pub face_text : Head → TypedQuery → Face → ℤ → List ℕ
face_text head query (Number scale) value = scaled_text scale value
face_text head query (OfColumn c) value = value_of (column_of head query c) value

-- one text where the ends are equal, else both
abbrev pub ends_text : Bool → List ℕ → List ℕ → List ℕ
ends_text equal low high = if equal then low else codes "[" ++ (low ++ (codes ", " ++ (high ++ codes "]")))

-- and whether there may be no answer
abbrev pub interval_text : Nullity → List ℕ → List ℕ
interval_text Never ends = ends
interval_text Possibly ends = ends ++ codes " or null"
interval_text Always ends = codes "null"

-- where the answer lies, if there is one
abbrev pub bound_ends : Head → TypedQuery → Face → Bound → List ℕ
bound_ends head query face bound =
    ends_text (int_eq bound.lo bound.hi) (face_text head query face bound.lo) (face_text head query face bound.hi)

abbrev pub bound_text : Head → TypedQuery → Face → Bound → List ℕ
bound_text head query face bound = interval_text bound.null (bound_ends head query face bound)

-- a sum over a number of rows, not reduced
abbrev pub fraction_text : Head → TypedQuery → Face → Fraction → List ℕ
fraction_text head query face ratio = face_text head query face ratio.num ++ (codes "/" ++ decimal ratio.den)

-- two fractions are equal only where their parts are
abbrev pub is_same_fraction : Fraction → Fraction → Bool
is_same_fraction a b = int_eq a.num b.num && a.den == b.den

-- where the average lies, if there is one
abbrev pub average_ends : Head → TypedQuery → Face → AverageBound → List ℕ
average_ends head query face bound =
    ends_text (is_same_fraction bound.lo bound.hi) (fraction_text head query face bound.lo) (fraction_text head query face bound.hi)

abbrev pub average_text : Head → TypedQuery → Face → AverageBound → List ℕ
average_text head query face bound = interval_text bound.null (average_ends head query face bound)
