-- The ends of the bound of an item can be shown under the item's face.
use Rattle.std.proofs.Common.{◌≡◌, ◌≢◌, ℕ, zero, suc, ◌<◌, ◌≤◌, ℤ, List, [], ◌∷◌, length, map, get_or, slice_get, Option, Some, IfSome, true, refl, sym, ap, subst, ◌∙◌, arith}
use Rattle.std.proofs.lemmas.List.{get_or-map}
use Rattle.std.specs.List.{AllByRecursion}
use Rattle.interval_calc.specs.Intervals.{Within}
use Rattle.daq_table.specs.declared.head.ColumnHead.{ColumnHead}
use Rattle.daq_table.specs.declared.table_head.Head.{Head}
use Rattle.daq_table.specs.ValueTexts.{HeadHasTexts}
use Rattle.daq_table.specs.Tables.{Frame, ends_at, ends_of, frame_of, no_ends}
use Rattle.query_model.specs.Meaning.{ReadsBelow}
use Rattle.query_model.specs.Validity.{FaceOf, FitsHead, declared_range}
use Rattle.query_model.specs.declared.bounds.AverageBound as averages
use Rattle.query_model.specs.declared.bounds.Bound.{Bound}
use Rattle.query_model.specs.declared.bounds.Nullity.{Nullity}
use Rattle.query_model.specs.declared.bounds.Nullity.TheVariants.{Never, Possibly, Always}
use Rattle.query_model.specs.Queries.{Term, Column, Literal, Add, Sub, Mul}
use Rattle.query_model.specs.declared.query.Face.{Face}
use Rattle.query_model.specs.declared.query.Face.TheVariants.{Number, OfColumn}
use Rattle.query_model.specs.declared.query.Item.{Item}
use Rattle.query_model.specs.declared.query.ItemKind.{ItemKind}
use Rattle.query_model.specs.declared.query.ItemKind.TheVariants.{Count, Sum, Min, Max, Avg}
use Rattle.query_model.specs.declared.query.TypedQuery.{TypedQuery}
use Rattle.round_engine.specs.Promises.{IsShownWithin}
use Rattle.round_engine.specs.Stages.{IsOpenItem, IsOpenQuery}
use Rattle.daq_report.specs.Intervals.{column_of}
use Rattle.daq_report.specs.Extras.{is_average}
use Rattle.daq_report.specs.Ends.{CanShow, CanShowAny, CanShowAverage, CanShowBound, CanShowEnds, HasNumber, IfShown, IsThere}

-- ---- the columns of the query

all_at : (n : ℕ) (is : List ℕ) (k : ℕ) → AllByRecursion (λ i. i < n) is → k < length is → get_or is k 0 < n
all_at n [] k h lt = absurd (omega arith)
all_at n (i ∷ is) zero h lt = h.0
all_at n (i ∷ is) (suc k) h lt = all_at n is k h.1 (omega arith)

same_default : (is : List ℕ) (k d : ℕ) → k < length is → get_or is k d ≡ get_or is k 0
same_default [] k d lt = absurd (omega arith)
same_default (i ∷ is) zero d lt = refl
same_default (i ∷ is) (suc k) d lt = same_default is k d (omega arith)

found : (columns : List ColumnHead) (i : ℕ) → i < length columns → (column : ColumnHead) × (slice_get columns i ≡ Some column) × (get_or (map ends_of columns) i no_ends ≡ ends_of column)
found [] i lt = absurd (omega arith)
found (column ∷ columns) zero lt = (column, refl, refl)
found (column ∷ columns) (suc i) lt = found columns i (omega arith)

-- a column of the query: its head in the table, and its ends in the part
pub record IsColumnOf (head : Head) (query : TypedQuery) (part : Frame) (c : ℕ) : Type 0 where
  pub there : IsThere head query c
  pub column : ColumnHead
  pub place : ℕ
  pub in_table : slice_get head.columns place ≡ Some column
  pub is : column_of head query c ≡ Some column
  pub ends : ends_at part c ≡ ends_of column

column_there : (head : Head) (query : TypedQuery) (part : Frame) (c : ℕ) → FitsHead query part head → c < length query.columns → IsColumnOf head query part c
column_there head query part c fits lt =
    let i = get_or query.columns c 0 in
    let below : i < length head.columns = all_at (length head.columns) query.columns c fits.valid.in_range lt in
    let (column, at, ends) = found head.columns i below in
    record {
      there = record { in_query = lt; in_table = below };
      column = column;
      place = i;
      in_table = at;
      is = ap (slice_get head.columns) (same_default query.columns c (length head.columns) lt) ∙ at;
      ends = ap (λ (f : Frame). ends_at f c) (sym fits.same) ∙ get_or-map (ends_at (frame_of head)) query.columns c 0 no_ends lt ∙ ends;
    }

-- ---- faces

few_decimals : (kind : ItemKind) (arg : Term) (scale : ℕ) → FaceOf kind arg (Number scale) → scale ≤ 18
few_decimals Count arg scale (s, few, e) = subst (λ n. n ≤ 18) (cc) few
few_decimals Sum arg scale (s, few, e) = subst (λ n. n ≤ 18) (cc) few
few_decimals Avg arg scale (s, few, e) = subst (λ n. n ≤ 18) (cc) few
few_decimals Min (Column c) scale e = absurd (cc)
few_decimals Min (Literal n) scale (s, few, e) = subst (λ n. n ≤ 18) (cc) few
few_decimals Min (Add a b) scale (s, few, e) = subst (λ n. n ≤ 18) (cc) few
few_decimals Min (Sub a b) scale (s, few, e) = subst (λ n. n ≤ 18) (cc) few
few_decimals Min (Mul a b) scale (s, few, e) = subst (λ n. n ≤ 18) (cc) few
few_decimals Max (Column c) scale e = absurd (cc)
few_decimals Max (Literal n) scale (s, few, e) = subst (λ n. n ≤ 18) (cc) few
few_decimals Max (Add a b) scale (s, few, e) = subst (λ n. n ≤ 18) (cc) few
few_decimals Max (Sub a b) scale (s, few, e) = subst (λ n. n ≤ 18) (cc) few
few_decimals Max (Mul a b) scale (s, few, e) = subst (λ n. n ≤ 18) (cc) few

-- a face of a column is that of the argument
own_column : (n : ℕ) (kind : ItemKind) (arg : Term) (c : ℕ) → FaceOf kind arg (OfColumn c) → ReadsBelow n arg → c < n
own_column n Count arg c (s, few, e) h = absurd (cc)
own_column n Sum arg c (s, few, e) h = absurd (cc)
own_column n Avg arg c (s, few, e) h = absurd (cc)
own_column n Min (Column d) c e h = subst (λ k. k < n) (cc) h
own_column n Min (Literal m) c (s, few, e) h = absurd (cc)
own_column n Min (Add a b) c (s, few, e) h = absurd (cc)
own_column n Min (Sub a b) c (s, few, e) h = absurd (cc)
own_column n Min (Mul a b) c (s, few, e) h = absurd (cc)
own_column n Max (Column d) c e h = subst (λ k. k < n) (cc) h
own_column n Max (Literal m) c (s, few, e) h = absurd (cc)
own_column n Max (Add a b) c (s, few, e) h = absurd (cc)
own_column n Max (Sub a b) c (s, few, e) h = absurd (cc)
own_column n Max (Mul a b) c (s, few, e) h = absurd (cc)

if_shown : (word : Nullity) (P : Type 0) → (word ≢ Always → P) → IfShown word P
if_shown Never P h = h (λ e. cc)
if_shown Possibly P h = h (λ e. cc)
if_shown Always P h = tt

-- ---- the items

pub open_at : (frame : Frame) (items : List Item) (place : ℕ) (item : Item) → AllByRecursion (IsOpenItem frame) items → slice_get items place ≡ Some item → IsOpenItem frame item
open_at frame [] place item h e = absurd (cc)
open_at frame (i ∷ is) zero item h e = subst (IsOpenItem frame) (cc) h.0
open_at frame (i ∷ is) (suc place) item h e = open_at frame is place item h.1 e

-- a number that a column of the query may have can be shown as one of its values
pub number_shows : (head : Head) (query : TypedQuery) (part : Frame) (c : ℕ) (value : ℤ) → FitsHead query part head → HeadHasTexts head → c < length query.columns →
    Within (declared_range (ends_at part c)).numbers value → CanShow head query (OfColumn c) value
number_shows head query part c value fits texts below within =
    let at = column_there head query part c fits below in
    let w = subst (λ ends. Within (declared_range ends).numbers value) at.ends within in
    let has : HasNumber at.column value = record { above = w.above; below = w.below; texts = texts at.place at.column at.in_table } in
    (at.there, subst (λ (o : Option ColumnHead). IfSome o (λ column. HasNumber column value)) (sym at.is) has)

-- a bound within a column of the query can be shown as values of the column
pub column_shows : (head : Head) (query : TypedQuery) (part : Frame) (c : ℕ) (bound : Bound) → FitsHead query part head → HeadHasTexts head → c < length query.columns →
    IsShownWithin part (OfColumn c) bound → CanShowBound head query (OfColumn c) bound
column_shows head query part c bound fits texts below shown =
    if_shown bound.null (CanShowEnds head query (OfColumn c) bound.lo bound.hi) (λ some.
    record {
      low_end = number_shows head query part c bound.lo fits texts below (shown some).0;
      high_end = number_shows head query part c bound.hi fits texts below (shown some).1;
    })

by_face : (head : Head) (query : TypedQuery) (part : Frame) (kind : ItemKind) (arg : Term) (face : Face) (bound : Bound) → FitsHead query part head → HeadHasTexts head → FaceOf kind arg face →
    ReadsBelow (length query.columns) arg → IsShownWithin part face bound → CanShowBound head query face bound
by_face head query part kind arg (Number scale) bound fits texts face reads shown =
    let few = few_decimals kind arg scale face in
    if_shown bound.null (CanShowEnds head query (Number scale) bound.lo bound.hi) (λ some. record { low_end = few; high_end = few })
by_face head query part kind arg (OfColumn c) bound fits texts face reads shown =
    column_shows head query part c bound fits texts (own_column (length query.columns) kind arg c face reads) shown

pub bound_shows : (head : Head) (query : TypedQuery) (part : Frame) (place : ℕ) (item : Item) (bound : Bound) → FitsHead query part head → HeadHasTexts head → IsOpenQuery query part →
    slice_get query.items place ≡ Some item → IsShownWithin part item.face bound → CanShowBound head query item.face bound
bound_shows head query part place item bound fits texts opened there shown =
    let own = open_at part query.items place item opened.items there in
    by_face head query part item.kind item.arg item.face bound fits texts own.face (subst (λ n. ReadsBelow n item.arg) opened.columns own.columns) shown

-- each number can be shown as an average
pub number_of_average_shows : (head : Head) (query : TypedQuery) (kind : ItemKind) (arg : Term) (face : Face) → FaceOf kind arg face → is_average kind ≡ true → CanShowAny head query face
number_of_average_shows head query kind arg (Number scale) own average value = few_decimals kind arg scale own
number_of_average_shows head query Count arg (OfColumn c) own average value = absurd (cc)
number_of_average_shows head query Sum arg (OfColumn c) own average value = absurd (cc)
number_of_average_shows head query Min arg (OfColumn c) own average value = absurd (cc)
number_of_average_shows head query Max arg (OfColumn c) own average value = absurd (cc)
number_of_average_shows head query Avg arg (OfColumn c) (scale, few, is) average value = absurd (cc)

-- where each number can be shown, so can an average
pub any_average_shows : (head : Head) (query : TypedQuery) (face : Face) (bound : averages.AverageBound) → CanShowAny head query face → CanShowAverage head query face bound
any_average_shows head query face bound any =
    if_shown bound.null (CanShowEnds head query face bound.lo.num bound.hi.num) (λ some. record { low_end = any bound.lo.num; high_end = any bound.hi.num })
