-- Which ends of a bound can be shown under a face.
use Rattle.std.specs.Prelude.{ℕ, ◌≤◌, ◌<◌, ℤ, ◌≤ℤ◌, List, [], ◌∷◌, length, slice_index, IfSome}
use Rattle.interval_calc.specs.Intervals.{Fraction, Interval}
use Rattle.interval_calc.specs.declared.Fraction as fractions
use Rattle.daq_table.specs.ValueTexts.{HasTexts}
use Rattle.daq_table.specs.declared.head.ColumnHead.{ColumnHead}
use Rattle.daq_table.specs.declared.head.Kind.{Kind}
use Rattle.daq_table.specs.declared.head.Kind.TheVariants.{Int, Dec, Date, Text}
use Rattle.daq_table.specs.declared.table_head.Head.{Head}
use Rattle.query_model.specs.Truths.{Range}
use Rattle.query_model.specs.declared.query.Face.{Face}
use Rattle.query_model.specs.declared.query.Face.TheVariants.{Number, OfColumn}
use Rattle.query_model.specs.declared.query.TypedQuery.{TypedQuery}
use Rattle.query_model.specs.declared.bounds.AverageBound as averages
use Rattle.query_model.specs.declared.bounds.Bound.{Bound}
use Rattle.query_model.specs.declared.bounds.Nullity.{Nullity}
use Rattle.query_model.specs.declared.bounds.Nullity.TheVariants.{Never, Possibly, Always}
use Rattle.daq_report.specs.Groups.{dotted}
use Rattle.daq_report.specs.Intervals.{column_of, ends_text}
use Rattle.daq_report.specs.declared.intervals.Ends.{Ends}

-- the decimals of the numbers of a kind
abbrev pub decimals_of : Kind → ℕ
decimals_of Int = 0
decimals_of (Dec scale) = scale
decimals_of Date = 0
decimals_of Text = 0

-- the column of the query is one of the table
pub record IsThere (head : Head) (query : TypedQuery) (c : ℕ) : Type 0 where
  pub in_query : c < length query.columns
  pub in_table : slice_index query.columns c < length head.columns

-- the column may have the number, and each such number has a text
pub record HasNumber (column : ColumnHead) (value : ℤ) : Type 0 where
  pub above : column.base ≤ℤ value
  pub below : value ≤ℤ column.top
  pub texts : HasTexts column

-- numbers have few decimals, and values of a column are numbers that it may have
abbrev pub CanShow : Head → TypedQuery → Face → ℤ → Type 0
CanShow head query (Number scale) value = scale ≤ 18
CanShow head query (OfColumn c) value = IsThere head query c × IfSome (column_of head query c) (λ column. HasNumber column value)

-- both ends can be shown
pub record CanShowEnds (head : Head) (query : TypedQuery) (face : Face) (low high : ℤ) : Type 0 where
  pub low_end : CanShow head query face low
  pub high_end : CanShow head query face high

-- each number can be shown
abbrev pub CanShowAny : Head → TypedQuery → Face → Type 0
CanShowAny head query face = (value : ℤ) → CanShow head query face value

-- where there may be an answer, the ends are shown
abbrev pub IfShown : Nullity → Type 0 → Type 0
IfShown Never P = P
IfShown Possibly P = P
IfShown Always P = Unit {0}

abbrev pub CanShowBound : Head → TypedQuery → Face → Bound → Type 0
CanShowBound head query face bound = IfShown bound.null (CanShowEnds head query face bound.lo bound.hi)

abbrev pub CanShowAverage : Head → TypedQuery → Face → averages.AverageBound → Type 0
CanShowAverage head query face bound = IfShown bound.null (CanShowEnds head query face bound.lo.num bound.hi.num)

-- the first and the last number of a part of a key can be shown
pub record CanShowSpan (column : ColumnHead) (numbers : Interval) : Type 0 where
  pub low_end : HasNumber column numbers.low
  pub high_end : HasNumber column numbers.high

-- for each group column there is a part, and its numbers can be shown
abbrev pub CanShowKey : Head → TypedQuery → List ℕ → List Range → Type 0
CanShowKey head query [] [] = Unit {0}
CanShowKey head query [] (range ∷ ranges) = ⊥
CanShowKey head query (c ∷ cs) [] = ⊥
CanShowKey head query (c ∷ cs) (range ∷ ranges) =
    IsThere head query c × IfSome (column_of head query c) (λ column. CanShowSpan column range.numbers) × CanShowKey head query cs ranges

-- a sum over a number of rows
abbrev pub fraction_of : fractions.Fraction → Fraction
fraction_of fraction = record { num = fraction.num; den = fraction.den }

-- the texts of two ends, laid out
abbrev pub text_of_ends : Ends → List ℕ
text_of_ends ends = ends_text ends.equal ends.low ends.high

abbrev pub text_of_span : Ends → List ℕ
text_of_span ends = dotted ends.equal ends.low ends.high
