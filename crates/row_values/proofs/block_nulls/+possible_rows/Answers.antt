use Rattle.std.proofs.Common.{◌+◌, ◌*◌, get_or, inl, inr, ap, sym, ◌∙◌, arith}
use Rattle.known_column.specs.Columns.{KnownColumn, is_possible}
use Rattle.query_model.specs.Knowledge.{ranges_of}
use Rattle.query_model.specs.Queries.{term_of}
use Rattle.query_model.specs.Truths.{may_be_number, null_of, one_null}
use Rattle.row_values.proofs.NullRows.{both_possible, digit-ones, where_bit}
use Rattle.row_values.proofs.block_nulls.+possible_rows.Goals as goal

pub returns-in-Column : goal.returns-in-Column
returns-in-Column t c = λ r below.
    let row = 64 * c.args.block + r in
    let ranges = ranges_of c.args.columns.now.frame c.args.columns.now.known row in
    where_bit is_possible c.column.result.now c.possible.result.now c.word.result c.args.block r c.possible.ensures c.word.ensures (omega (arith, below, c.column.ensures.rows))
    ∙ ap (λ (k : KnownColumn). is_possible k.ends k.known.read (get_or k.known.prefixes row 0)) c.column.ensures.column
    ∙ ap (λ e. may_be_number (null_of (term_of e) ranges)) (sym c.in-Column.is)

pub returns-in-Literal : goal.returns-in-Literal
returns-in-Literal t c = λ r below. rw c.in-Literal.is (digit-ones r (omega (arith, below)))

pub returns-in-Add : goal.returns-in-Add
returns-in-Add t c = λ r below.
    let ranges = ranges_of c.args.columns.now.frame c.args.columns.now.known (64 * c.args.block + r) in
    let both = both_possible r c.possible_rows.result c.possible_rows-in-Add.result (null_of (term_of c.deref.result.now) ranges) (null_of (term_of c.deref-in-Add.result.now) ranges) (c.possible_rows.ensures r below) (c.possible_rows-in-Add.ensures r below)
    ∙ ap (λ e. may_be_number (one_null (null_of (term_of e) ranges) (null_of (term_of c.deref-in-Add.result.now) ranges))) c.deref.ensures
    ∙ ap (λ e. may_be_number (one_null (null_of (term_of c.in-Add.a.value) ranges) (null_of (term_of e) ranges))) c.deref-in-Add.ensures in
    elim c.in-Add.is [
      | inl e ↦ both ∙ ap (λ e. may_be_number (null_of (term_of e) ranges)) (sym e)
      | inr f ↦ elim f [
        | inl e ↦ both ∙ ap (λ e. may_be_number (null_of (term_of e) ranges)) (sym e)
        | inr e ↦ both ∙ ap (λ e. may_be_number (null_of (term_of e) ranges)) (sym e)
      ]
    ]
