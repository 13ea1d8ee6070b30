use Rattle.std.proofs.Common.{inl, inr, ap, sym, subst}
use Rattle.query_model.specs.Queries.{term_of}
use Rattle.round_engine.specs.Counts.{AreAlike}
use Rattle.round_engine.proofs.UnreadValues.{alike_column, alike_difference, alike_product, alike_sum}
use Rattle.round_engine.proofs.unread_values.+is_unread.Goals as goal

pub returns-in-Column : goal.returns-in-Column
returns-in-Column t c = λ unread.
    subst (AreAlike c.args.columns.now) (sym (ap term_of c.in-Column.is)) (alike_column c.args.columns.now c.in-Column.column c.column.result.now c.column.ensures.column c.column.ensures.rows (c.is_unread_column.ensures unread))

pub returns-then-is_unread : goal.returns-then-is_unread
returns-then-is_unread t c = λ unread.
    let columns = c.args.columns.now in
    let a = term_of c.in-Add.a.value in
    let b = term_of c.in-Add.b.value in
    let first : AreAlike columns a = subst (λ e. AreAlike columns (term_of e)) c.deref.ensures (c.is_unread.ensures c.if-is_unread.true) in
    let second : AreAlike columns b = subst (λ e. AreAlike columns (term_of e)) c.deref-then-is_unread.ensures (c.is_unread-then-is_unread.ensures unread) in
    elim c.in-Add.is [
      | inl sum ↦ subst (AreAlike columns) (sym (ap term_of sum)) (alike_sum columns a b first second)
      | inr other ↦
          elim other [
            | inl difference ↦ subst (AreAlike columns) (sym (ap term_of difference)) (alike_difference columns a b first second)
            | inr product ↦ subst (AreAlike columns) (sym (ap term_of product)) (alike_product columns a b first second)
          ]
    ]
