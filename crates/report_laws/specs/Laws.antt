-- What reports show is what is read back, as statements. A public function with an empty body has each as its contract.
use Rattle.std.specs.Prelude.{◌≡◌, ◌≢◌, ℕ, ◌<◌, ◌≤◌, ◌^◌, ℤ, pos, ◌≤ℤ◌, FitsSigned, List, ◌++◌, codes}
use Rattle.std.specs.Int.{w128}
use Rattle.std.specs.declared.option.Option.{Option}
use Rattle.std.specs.declared.option.Option.TheVariants.{Some, None}
use Rattle.daq_report.specs.Extras.{clip_line, exact_line, taken_line}
use Rattle.daq_report.specs.Intervals.{bound_text, column_of}
use Rattle.daq_report.specs.Intervals as report
use Rattle.daq_table.specs.declared.head.ColumnHead.{ColumnHead}
use Rattle.daq_table.specs.declared.head.Kind.{Kind}
use Rattle.daq_table.specs.declared.head.Kind.TheVariants.{Int, Dec, Text}
use Rattle.daq_table.specs.declared.head.Kind.TheVariants as kinds
use Rattle.daq_table.specs.declared.table_head.Head.{Head}
use Rattle.interval_calc.specs.Intervals.{Fraction}
use Rattle.query_model.specs.Bounds.{AverageBound}
use Rattle.query_model.specs.declared.bounds.Bound.{Bound}
use Rattle.query_model.specs.declared.bounds.Nullity.{Nullity}
use Rattle.query_model.specs.declared.bounds.Nullity.TheVariants.{Never, Possibly, Always}
use Rattle.query_model.specs.declared.query.Face.{Face}
use Rattle.query_model.specs.declared.query.Face.TheVariants.{Number, OfColumn}
use Rattle.query_model.specs.declared.query.ItemKind.{ItemKind}
use Rattle.query_model.specs.declared.query.ItemKind.TheVariants.{Avg}
use Rattle.query_model.specs.declared.query.TypedQuery.{TypedQuery}
use Rattle.report_text.specs.Averages.{IsShownAverage, average_text, no_ratio}
use Rattle.report_text.specs.Bounds.{IsShown, shown_text}
use Rattle.report_text.specs.Extras.{IsRowsLine, extra_line}
use Rattle.report_text.specs.Forms.{HasTextsIn}
use Rattle.report_text.specs.declared.answers.Answer.TheVariants.{Average, Value}
use Rattle.report_text.specs.declared.averages.Ratio.{Ratio}
use Rattle.report_text.specs.declared.averages.ShownAverage.{ShownAverage}
use Rattle.report_text.specs.declared.bounds.ShownBound.{ShownBound}
use Rattle.report_text.specs.declared.forms.Form.{Form}
use Rattle.report_text.specs.declared.forms.Form.TheVariants.{Date, Decimals}

-- the form in which values of a kind are shown; texts have none of these
abbrev pub form_of_kind : Kind → Option Form
form_of_kind Int = Some (Decimals 0)
form_of_kind (Dec scale) = Some (Decimals scale)
form_of_kind kinds.Date = Some Date
form_of_kind Text = None

abbrev pub form_of_column : Option ColumnHead → Option Form
form_of_column None = None
form_of_column (Some column) = form_of_kind column.kind

-- the form of what a face shows
abbrev pub form_of_face : Head → TypedQuery → Face → Option Form
form_of_face head query (Number scale) = Some (Decimals scale)
form_of_face head query (OfColumn c) = form_of_column (column_of head query c)

-- ---- bounds

abbrev pub shown_by : Nullity → Form → Bound → ShownBound
shown_by Never form bound = record { form = form; bound = record { null = Never; lo = bound.lo; hi = bound.hi } }
shown_by Possibly form bound = record { form = form; bound = record { null = Possibly; lo = bound.lo; hi = bound.hi } }
shown_by Always form bound = record { form = Decimals 0; bound = record { null = Always; lo = pos 0; hi = pos 0 } }

-- what a line says of a bound: where there is no answer no ends
abbrev pub shown_of : Form → Bound → ShownBound
shown_of form bound = shown_by bound.null form bound

abbrev pub BoundsAreShown : Type 0
BoundsAreShown =
    (head : Head) (query : TypedQuery) (face : Face) (form : Form) (bound : Bound) →
    form_of_face head query face ≡ Some form → bound_text head query face bound ≡ shown_text (shown_of form bound)

-- numbers of 128 bits in order, which have texts in the form
pub record IsPlainBound (form : Form) (bound : Bound) : Type 0 where
  pub texts : HasTextsIn form bound
  pub low : FitsSigned w128 bound.lo
  pub high : FitsSigned w128 bound.hi
  pub ordered : bound.null ≢ Always → bound.lo ≤ℤ bound.hi

abbrev pub BoundsCanBeRead : Type 0
BoundsCanBeRead = (form : Form) (bound : Bound) → IsPlainBound form bound → IsShown (shown_of form bound)

-- ---- averages

abbrev pub ratio_of : ℕ → Fraction → Ratio
ratio_of decimals ratio = record { sum = record { decimals = decimals; units = ratio.num }; rows = ratio.den }

abbrev pub average_by : Nullity → ℕ → AverageBound → ShownAverage
average_by Never decimals bound = record { null = Never; low = ratio_of decimals bound.lo; high = ratio_of decimals bound.hi }
average_by Possibly decimals bound = record { null = Possibly; low = ratio_of decimals bound.lo; high = ratio_of decimals bound.hi }
average_by Always decimals bound = record { null = Always; low = no_ratio; high = no_ratio }

abbrev pub average_of : ℕ → AverageBound → ShownAverage
average_of decimals bound = average_by bound.null decimals bound

abbrev pub AveragesAreShown : Type 0
AveragesAreShown =
    (head : Head) (query : TypedQuery) (face : Face) (decimals : ℕ) (bound : AverageBound) →
    form_of_face head query face ≡ Some (Decimals decimals) →
    report.average_text head query face bound ≡ average_text (average_of decimals bound)

-- a number of 128 bits over a count of 64 bits that is not 0
pub record IsPlainFraction (ratio : Fraction) : Type 0 where
  pub fits : FitsSigned w128 ratio.num
  pub few : ratio.den < 2 ^ 64
  pub some : 0 < ratio.den

pub record IsPlainAverage (decimals : ℕ) (bound : AverageBound) : Type 0 where
  pub few : decimals ≤ 18
  pub low : IsPlainFraction bound.lo
  pub high : IsPlainFraction bound.hi

abbrev pub AveragesCanBeRead : Type 0
AveragesCanBeRead = (decimals : ℕ) (bound : AverageBound) → IsPlainAverage decimals bound → IsShownAverage (average_of decimals bound)

-- ---- the lines behind that of an item

-- a clipped bound is shown in the line that is read back
abbrev pub ClipsAreShown : Type 0
ClipsAreShown =
    (head : Head) (query : TypedQuery) (face : Face) (form : Form) (bound : Bound) (kind : ItemKind) (number : ℕ) → kind ≢ Avg →
    form_of_face head query face ≡ Some form →
    clip_line head query number face (Some bound) ≡ extra_line kind number (Value (shown_of form bound)) ++ codes "\n"

-- so are the exact ends of an average
abbrev pub ExactAveragesAreShown : Type 0
ExactAveragesAreShown =
    (head : Head) (query : TypedQuery) (face : Face) (decimals : ℕ) (bound : AverageBound) (number : ℕ) →
    form_of_face head query face ≡ Some (Decimals decimals) →
    exact_line head query number face bound ≡ extra_line Avg number (Average (average_of decimals bound)) ++ codes "\n"

-- a line of the rows that an end takes
pub record ShowsRows (number : ℕ) (shown : List ℕ) : Type 0 where
  pub line : List ℕ
  pub is_line : IsRowsLine number line
  pub ended : shown ≡ line ++ codes "\n"

abbrev pub RowsAreShown : Type 0
RowsAreShown =
    (head : Head) (query : TypedQuery) (face : Face) (number : ℕ) (limit : List ℕ) (taken unknown : ℕ) (cut : Option ℤ) →
    ShowsRows number
    (taken_line head query number face (codes " low takes ") limit (record { taken = taken; unknown = unknown; cut = cut }))
    × ShowsRows number
    (taken_line head query number face (codes " high takes ") limit (record { taken = taken; unknown = unknown; cut = cut }))
