-- That reports show where the least or the greatest text lies as it is read back.
use Rattle.std.proofs.Common.{◌≡◌, ◌≢◌, ℕ, List, Option, Some, None, refl, ap, subst, ◌∙◌}
use Rattle.daq_table.specs.declared.head.ColumnHead.{ColumnHead}
use Rattle.daq_table.specs.declared.head.Kind.{Kind}
use Rattle.daq_table.specs.declared.head.Kind.TheVariants as kinds
use Rattle.query_model.specs.Truths.{Range}
use Rattle.query_model.specs.declared.bounds.Bound.{Bound}
use Rattle.query_model.specs.declared.bounds.Nullity.{Nullity}
use Rattle.query_model.specs.declared.bounds.Nullity.TheVariants.{Never, Possibly, Always}
use Rattle.report_text.specs.Intervals.{key_interval}
use Rattle.report_text.specs.Keys.{IsShownSpan}
use Rattle.report_text.specs.TextAnswers as read
use Rattle.report_laws.proofs.Keys.{part_shown, range_text}
use Rattle.report_laws.specs.Groups.{ends_of, name_at, span_by, span_of, text_ends}
use Rattle.report_laws.specs.Texts.{TextsAreShown, answer_of, both_names, may_be_null}

same_ends : (low high : Option (List ℕ)) → text_ends low high ≡ read.ends_of (both_names low high)
same_ends (Some low) (Some high) = refl
same_ends (Some low) None = refl
same_ends None high = refl

same_span : (null : Nullity) (low high : Option (List ℕ)) → null ≢ Always →
    span_by null (text_ends low high) ≡ read.span_of (record { null = may_be_null null; ends = both_names low high })
same_span Never low high some = ap (span_by Never) (same_ends low high)
same_span Possibly low high some = ap (span_by Possibly) (same_ends low high)
same_span Always low high some = absurd (some refl)

abbrev range_of : Bound → Range
range_of bound = record { null = bound.null; numbers = record { low = bound.lo; high = bound.hi } }

-- where the key of a row lies that has these numbers
is_span : (column : ColumnHead) (bound : Bound) → column.kind ≡ kinds.Text → bound.null ≢ Always →
    span_of (Some column) (range_of bound) ≡ read.span_of (answer_of column.names bound)
is_span column bound kind some =
    ap (λ (k : Kind). span_by bound.null (ends_of k column.names (record { low = bound.lo; high = bound.hi }))) kind
    ∙ same_span bound.null (name_at column.names bound.lo) (name_at column.names bound.hi) some

pub texts_shown : TextsAreShown
texts_shown head query c column bound at kind some plain =
    let shown = part_shown (Some column) (range_of bound) plain in
    let span = is_span column bound kind some in
    record {
      text = ap (λ (o : Option ColumnHead). range_text o (range_of bound)) at ∙ shown.interval ∙ ap key_interval span;
      is_answer = subst IsShownSpan span shown.is_shown;
    }
