use Rattle.std.proofs.Common.{◌&&◌, not, ap, sym, ◌∙◌}
use Rattle.aggregates.specs.Selections.{has_row}
use Rattle.known_column.specs.Columns.{is_possible, is_sure}
use Rattle.query_model.specs.Knowledge.{ranges_of}
use Rattle.query_model.specs.Queries.{term_of}
use Rattle.query_model.specs.Truths.{may_be_null, may_be_number, null_of}
use Rattle.round_engine.proofs.CountedSums.{tested_length, tested_row}
use Rattle.round_engine.proofs.selection.Selection.+keep_valued.Goals as goal

pub returns-in-Column-clause-room : goal.returns-in-Column-clause-room
returns-in-Column-clause-room t c = record {
  may = tested_length is_possible c.args.columns.now c.args.self.now.may c.possible.result.now c.and_into.new.self c.column-known.result.now c.column-known.ensures.rows c.requires.room.may c.possible.ensures c.and_into.ensures;
  must = tested_length is_sure c.args.columns.now c.args.self.now.must c.sure.result.now c.and_into-in-Column.new.self c.column-known.result.now c.column-known.ensures.rows c.requires.room.must c.sure.ensures c.and_into-in-Column.ensures;
}

pub returns-in-Column-clause-may : goal.returns-in-Column-clause-may
returns-in-Column-clause-may t c = λ row below.
    tested_row is_possible c.args.columns.now c.in-Column.column c.args.self.now.may c.possible.result.now c.and_into.new.self c.column-known.result.now c.column-known.ensures.column c.column-known.ensures.rows c.requires.room.may
    c.possible.ensures c.and_into.ensures row below
    ∙ ap (λ e. has_row c.args.self.now.may row && may_be_number (null_of (term_of e) (ranges_of c.args.columns.now.frame c.args.columns.now.known row))) (sym c.in-Column.is)

pub returns-in-Column-clause-must : goal.returns-in-Column-clause-must
returns-in-Column-clause-must t c = λ row below.
    tested_row is_sure c.args.columns.now c.in-Column.column c.args.self.now.must c.sure.result.now c.and_into-in-Column.new.self c.column-known.result.now c.column-known.ensures.column c.column-known.ensures.rows c.requires.room.must
    c.sure.ensures c.and_into-in-Column.ensures row below
    ∙ ap (λ e. has_row c.args.self.now.must row && not (may_be_null (null_of (term_of e) (ranges_of c.args.columns.now.frame c.args.columns.now.known row)))) (sym c.in-Column.is)
