use Rattle.std.proofs.Common.{◌≡◌, ◌<◌, IfSome, Some, None, ap, subst, ◌∙◌, sym, arith}
use Rattle.std.specs.declared.option.Option.{Option}
use Rattle.std.proofs.lemmas.Bool.{not-true}
use Rattle.known_column.specs.KnownTables.{KnownTable}
use Rattle.query_model.specs.Knowledge.{ranges_of}
use Rattle.query_model.specs.Queries.{Aggregate}
use Rattle.query_model.specs.Truths.{null_of, span_of}
use Rattle.round_engine.specs.declared.unread_values.UnreadValues.{UnreadValues}
use Rattle.round_engine.specs.Counts.{AreAlike, IsToldByCounts, range_of_unread}
use Rattle.round_engine.proofs.Declared.{never_null}
use Rattle.round_engine.proofs.Masked.{count_kind}
use Rattle.round_engine.proofs.unread_values.told_values.Goals as goal

pub returns-then-is_counted : goal.returns-then-is_counted
returns-then-is_counted c =
    let item = c.args.item.now in
    let columns = c.args.columns.now in
    let counted = count_kind item.kind _ (sym c.is_counted.ensures ∙ c.if-is_counted.true) in
    record {
      null = λ row below. never_null item.arg columns.frame columns.known row (not-true _ counted.1);
      numbers = λ other. absurd (other counted.0);
    }

-- what is known at the first row is known at each
at_each : (columns : KnownTable) (item : Aggregate) (first : Option UnreadValues) → AreAlike columns item.arg → 0 < columns.frame.rows →
    IfSome first (λ values. null_of item.arg (ranges_of columns.frame columns.known 0) ≡ (range_of_unread values).null) →
    IfSome first (λ values. span_of item.arg (ranges_of columns.frame columns.known 0) ≡ (range_of_unread values).numbers) → IfSome first (λ values. IsToldByCounts columns item (range_of_unread values))
at_each columns item None alike some null numbers = tt
at_each columns item (Some values) alike some null numbers = record {
  null = λ row below. (alike row 0 below some).0 ∙ null;
  numbers = λ other row below. (alike row 0 below some).1 ∙ numbers;
}

pub returns-then-is_unread : goal.returns-then-is_unread
returns-then-is_unread c =
    let item = c.args.item.now in
    let columns = c.args.columns.now in
    let alike : AreAlike columns item.arg = subst (AreAlike columns) (ap (λ (i : Aggregate). i.arg) c.item.view_is) (c.is_unread.ensures c.if-is_unread.true) in
    at_each columns item c.first_values.result alike (omega (arith, c.if-rows-gt0.true, c.rows.ensures.rows)) c.first_values.ensures.null c.first_values.ensures.numbers
