use Rattle.std.proofs.Common.{◌+◌, ◌*◌, not, get_or, inl, inr, ap, sym, ◌∙◌, arith}
use Rattle.known_column.specs.Columns.{KnownColumn, is_sure}
use Rattle.query_model.specs.Knowledge.{ranges_of}
use Rattle.query_model.specs.Queries.{term_of}
use Rattle.query_model.specs.Truths.{may_be_null, null_of, one_null}
use Rattle.row_values.proofs.NullRows.{both_sure, digit-ones, where_bit}
use Rattle.row_values.proofs.block_nulls.+sure_rows.Goals as goal

pub returns-in-Column : goal.returns-in-Column
returns-in-Column t c = λ r below.
    let row = 64 * c.args.block + r in
    let ranges = ranges_of c.args.columns.now.frame c.args.columns.now.known row in
    where_bit is_sure c.column.result.now c.sure.result.now c.word.result c.args.block r c.sure.ensures c.word.ensures (omega (arith, below, c.column.ensures.rows))
    ∙ ap (λ (k : KnownColumn). is_sure k.ends k.known.read (get_or k.known.prefixes row 0)) c.column.ensures.column
    ∙ ap (λ e. not (may_be_null (null_of (term_of e) ranges))) (sym c.in-Column.is)

pub returns-in-Literal : goal.returns-in-Literal
returns-in-Literal t c = λ r below. rw c.in-Literal.is (digit-ones r (omega (arith, below)))

pub returns-in-Add : goal.returns-in-Add
returns-in-Add t c = λ r below.
    let ranges = ranges_of c.args.columns.now.frame c.args.columns.now.known (64 * c.args.block + r) in
    let both = both_sure r c.sure_rows.result c.sure_rows-in-Add.result (null_of (term_of c.deref.result.now) ranges) (null_of (term_of c.deref-in-Add.result.now) ranges) (c.sure_rows.ensures r below) (c.sure_rows-in-Add.ensures r below)
    ∙ ap (λ e. not (may_be_null (one_null (null_of (term_of e) ranges) (null_of (term_of c.deref-in-Add.result.now) ranges)))) c.deref.ensures
    ∙ ap (λ e. not (may_be_null (one_null (null_of (term_of c.in-Add.a.value) ranges) (null_of (term_of e) ranges)))) c.deref-in-Add.ensures in
    elim c.in-Add.is [
      | inl e ↦ both ∙ ap (λ e. not (may_be_null (null_of (term_of e) ranges))) (sym e)
      | inr f ↦ elim f [
        | inl e ↦ both ∙ ap (λ e. not (may_be_null (null_of (term_of e) ranges))) (sym e)
        | inr e ↦ both ∙ ap (λ e. not (may_be_null (null_of (term_of e) ranges))) (sym e)
      ]
    ]
