-- That reports show numbers and dates as they are read back, and in a form that is read.
use Rattle.std.proofs.Common.{◌≡◌, ◌≢◌, ℕ, ◌≤◌, ℤ, ◌≤ℤ◌, FitsSigned, List, [], ◌++◌, codes, decimal, Option, Some, None, refl, sym, ap, ◌∙◌, inl, inr}
use Rattle.std.proofs.lemmas.List.{append_assoc}
use Rattle.std.proofs.lemmas.Option.{none-some, same_Some}
use Rattle.std.specs.Int.{w128}
use Rattle.daq_report.specs.Extras.{count_text, cut_text, taken_line}
use Rattle.daq_report.specs.Intervals.{bound_ends, column_of, face_text, interval_text, value_of}
use Rattle.daq_report.specs.Intervals as report
use Rattle.daq_table.specs.ValueTexts.{text_by_kind}
use Rattle.daq_table.specs.declared.head.ColumnHead.{ColumnHead}
use Rattle.daq_table.specs.declared.head.Kind.{Kind}
use Rattle.daq_table.specs.declared.head.Kind.TheVariants.{Int, Dec, Text}
use Rattle.daq_table.specs.declared.head.Kind.TheVariants as kinds
use Rattle.daq_table.specs.declared.table_head.Head.{Head}
use Rattle.interval_calc.specs.Intervals.{Fraction}
use Rattle.query_model.specs.Bounds.{AverageBound}
use Rattle.query_model.specs.declared.bounds.Bound.{Bound}
use Rattle.query_model.specs.declared.bounds.Nullity.{Nullity}
use Rattle.query_model.specs.declared.bounds.Nullity.TheVariants.{Never, Possibly, Always}
use Rattle.query_model.specs.declared.query.Face.{Face}
use Rattle.query_model.specs.declared.query.Face.TheVariants.{Number, OfColumn}
use Rattle.query_model.specs.declared.query.ItemKind.{ItemKind}
use Rattle.query_model.specs.declared.query.ItemKind.TheVariants.{Count, Sum, Min, Max, Avg}
use Rattle.query_model.specs.declared.query.TypedQuery.{TypedQuery}
use Rattle.report_text.specs.Averages.{CanBeDivided, IsShownAverage, average_text}
use Rattle.report_text.specs.Bounds.{IsShown, shown_text}
use Rattle.report_text.specs.Extras.{extra_word}
use Rattle.report_text.specs.Forms.{HasTextsIn, text_in}
use Rattle.report_text.specs.declared.forms.Form.{Form}
use Rattle.report_text.specs.declared.forms.Form.TheVariants.{Date, Decimals}
use Rattle.report_laws.specs.Laws.{AveragesAreShown, AveragesCanBeRead, BoundsAreShown, BoundsCanBeRead, ClipsAreShown, ExactAveragesAreShown, IsPlainAverage, IsPlainFraction, RowsAreShown, average_by, average_of, form_of_column, form_of_face, form_of_kind, ratio_of, shown_by, shown_of}

of_kind : (kind : Kind) (names : List (List ℕ)) (form : Form) (z : ℤ) → form_of_kind kind ≡ Some form → text_by_kind kind names z ≡ text_in form z
of_kind Int names form z h = ap (λ (f : Form). text_in f z) (same_Some (Decimals 0) form h)
of_kind (Dec scale) names form z h = ap (λ (f : Form). text_in f z) (same_Some (Decimals scale) form h)
of_kind kinds.Date names form z h = ap (λ (f : Form). text_in f z) (same_Some Date form h)
of_kind Text names form z h = absurd (none-some form h)

of_column : (column : Option ColumnHead) (form : Form) (z : ℤ) → form_of_column column ≡ Some form → value_of column z ≡ text_in form z
of_column None form z h = absurd (none-some form h)
of_column (Some column) form z h = of_kind column.kind column.names form z h

-- what a face shows of a value
of_face : (head : Head) (query : TypedQuery) (face : Face) (form : Form) (z : ℤ) → form_of_face head query face ≡ Some form → face_text head query face z ≡ text_in form z
of_face head query (Number scale) form z h = ap (λ (f : Form). text_in f z) (same_Some (Decimals scale) form h)
of_face head query (OfColumn c) form z h = of_column (column_of head query c) form z h

bound_by : (null : Nullity) (head : Head) (query : TypedQuery) (face : Face) (form : Form) (bound : Bound) → form_of_face head query face ≡ Some form →
    interval_text null (bound_ends head query face bound) ≡ shown_text (shown_by null form bound)
bound_by Never head query face form bound h = rw (of_face head query face form bound.lo h, of_face head query face form bound.hi h)
bound_by Possibly head query face form bound h = rw (of_face head query face form bound.lo h, of_face head query face form bound.hi h)
bound_by Always head query face form bound h = refl

pub bounds_shown : BoundsAreShown
bounds_shown head query face form bound h = bound_by bound.null head query face form bound h

average_shown_by : (null : Nullity) (head : Head) (query : TypedQuery) (face : Face) (decimals : ℕ) (bound : AverageBound) → form_of_face head query face ≡ Some (Decimals decimals) →
    interval_text null (report.average_ends head query face bound) ≡ average_text (average_by null decimals bound)
average_shown_by Never head query face decimals bound h = rw (of_face head query face (Decimals decimals) bound.lo.num h, of_face head query face (Decimals decimals) bound.hi.num h)
average_shown_by Possibly head query face decimals bound h = rw (of_face head query face (Decimals decimals) bound.lo.num h, of_face head query face (Decimals decimals) bound.hi.num h)
average_shown_by Always head query face decimals bound h = refl

pub averages_shown : AveragesAreShown
averages_shown head query face decimals bound h = average_shown_by bound.null head query face decimals bound h

-- ---- what reports show can be read

never_some : Never ≢ Always
never_some = λ e. absurd cc

possibly_some : Possibly ≢ Always
possibly_some = λ e. absurd cc

can_by : (null : Nullity) (form : Form) (bound : Bound) → HasTextsIn form bound → FitsSigned w128 bound.lo → FitsSigned w128 bound.hi →
    (null ≢ Always → bound.lo ≤ℤ bound.hi) → IsShown (shown_by null form bound)
can_by Never form bound texts low high ordered = record { texts = texts; low = low; high = high; ordered = ordered never_some }
can_by Possibly form bound texts low high ordered = record { texts = texts; low = low; high = high; ordered = ordered possibly_some }
can_by Always form bound texts low high ordered = record { form = refl; low = refl; high = refl }

pub bounds_can : BoundsCanBeRead
bounds_can form bound h = can_by bound.null form bound h.texts h.low h.high h.ordered

ratio_can : (decimals : ℕ) (ratio : Fraction) → decimals ≤ 18 → IsPlainFraction ratio → CanBeDivided (ratio_of decimals ratio)
ratio_can decimals ratio few h = record { sum = record { few = few; fits = h.fits }; few = h.few; some = h.some }

average_can_by : (null : Nullity) (decimals : ℕ) (bound : AverageBound) → IsPlainAverage decimals bound → IsShownAverage (average_by null decimals bound)
average_can_by Never decimals bound h = record { low = ratio_can decimals bound.lo h.few h.low; high = ratio_can decimals bound.hi h.few h.high; decimals = refl }
average_can_by Possibly decimals bound h = record { low = ratio_can decimals bound.lo h.few h.low; high = ratio_can decimals bound.hi h.few h.high; decimals = refl }
average_can_by Always decimals bound h = record { low = refl; high = refl }

pub averages_can : AveragesCanBeRead
averages_can decimals bound h = average_can_by bound.null decimals bound h

-- ---- the lines behind

-- a number, words and a text, in either order of joining
spelled : (number words text : List ℕ) → (number ++ words) ++ (text ++ codes "\n") ≡ (number ++ (words ++ text)) ++ codes "\n"
spelled number words text =
    append_assoc number words (text ++ codes "\n")
    ∙ ap (λ (rest : List ℕ). number ++ rest) (sym (append_assoc words text (codes "\n")))
    ∙ sym (append_assoc number (words ++ text) (codes "\n"))

clip_spelled : (kind : ItemKind) (number : ℕ) (text : List ℕ) → kind ≢ Avg →
    (decimal number ++ codes " clip ") ++ (text ++ codes "\n") ≡ (decimal number ++ (codes " " ++ (extra_word kind ++ text))) ++ codes "\n"
clip_spelled Count number text other = spelled (decimal number) (codes " clip ") text
clip_spelled Sum number text other = spelled (decimal number) (codes " clip ") text
clip_spelled Min number text other = spelled (decimal number) (codes " clip ") text
clip_spelled Max number text other = spelled (decimal number) (codes " clip ") text
clip_spelled Avg number text other = absurd (other refl)

pub clips_shown : ClipsAreShown
clips_shown head query face form bound kind number other h =
    ap (λ (text : List ℕ). (decimal number ++ codes " clip ") ++ (text ++ codes "\n")) (bounds_shown head query face form bound h)
    ∙ clip_spelled kind number (shown_text (shown_of form bound)) other

pub exact_shown : ExactAveragesAreShown
exact_shown head query face decimals bound number h =
    ap (λ (text : List ℕ). (decimal number ++ codes " exact ") ++ (text ++ codes "\n")) (averages_shown head query face decimals bound h)
    ∙ spelled (decimal number) (codes " exact ") (average_text (average_of decimals bound))

-- the cut ends its line
abbrev cut_front : Head → TypedQuery → Face → List ℕ → Option ℤ → List ℕ
cut_front head query face limit None = []
cut_front head query face limit (Some cut) = limit ++ face_text head query face cut

cut_ends : (head : Head) (query : TypedQuery) (face : Face) (limit : List ℕ) (cut : Option ℤ) →
    cut_text head query face limit cut ≡ cut_front head query face limit cut ++ codes "\n"
cut_ends head query face limit None = refl
cut_ends head query face limit (Some cut) = sym (append_assoc limit (face_text head query face cut) (codes "\n"))

rows_end : (head : Head) (query : TypedQuery) (face : Face) (number : ℕ) (words limit : List ℕ) (taken unknown : ℕ) (cut : Option ℤ) →
    taken_line head query number face words limit (record { taken = taken; unknown = unknown; cut = cut })
    ≡ (decimal number ++ (words ++ (count_text taken unknown ++ cut_front head query face limit cut))) ++ codes "\n"
rows_end head query face number words limit taken unknown cut =
    let count = count_text taken unknown in
    let front = cut_front head query face limit cut in
    ap (λ (text : List ℕ). (decimal number ++ words) ++ (count ++ text)) (cut_ends head query face limit cut)
    ∙ ap (λ (text : List ℕ). (decimal number ++ words) ++ text) (sym (append_assoc count front (codes "\n")))
    ∙ spelled (decimal number) words (count ++ front)

pub rows_shown : RowsAreShown
rows_shown head query face number limit taken unknown cut =
    let told = count_text taken unknown ++ cut_front head query face limit cut in (
      record {
        line = decimal number ++ (codes " low takes " ++ told);
        is_line = record { text = codes "low takes " ++ told; split = refl; is_text = inl (told, refl) };
        ended = rows_end head query face number (codes " low takes ") limit taken unknown cut;
      },
      record {
        line = decimal number ++ (codes " high takes " ++ told);
        is_line = record { text = codes "high takes " ++ told; split = refl; is_text = inr (told, refl) };
        ended = rows_end head query face number (codes " high takes ") limit taken unknown cut;
      },
    )
