use Rattle.std.proofs.Common.{ap, sym, ◌∙◌, subst}
use Rattle.kleene_filter.specs.Filters.{StandsFor}
use Rattle.known_column.specs.KnownTables.{KnownTable, unread_table}
use Rattle.query_model.specs.Queries.{Query}
use Rattle.round_engine.proofs.Openings.{open_stage}
use Rattle.round_engine.proofs.state.State.open.Goals as goal

pub open-requires-3 : goal.open-requires-3
open-requires-3 c = record {
  open_stage = open_stage c.start_is_knowledge.ensures c.args.query.now c.args.columns.now c.requires.unread c.rows-rows.ensures.known.few_rows;
  unread = c.requires.unread.unread ∙ ap unread_table (sym (ap (λ (t : KnownTable). t.frame) c.requires.unread.unread));
}

pub fill-requires-clause-open_stage : goal.fill-requires-clause-open_stage
fill-requires-clause-open_stage c =
    open_stage c.start_is_knowledge.ensures c.args.query.now c.args.columns.now c.requires.unread c.rows-rows.ensures.known.few_rows

pub returns : goal.returns
returns c = record {
  kept = record {
    open_stage = open_stage c.start_is_knowledge.ensures c.args.query.now c.args.columns.now c.requires.unread c.rows-rows.ensures.known.few_rows;
    judged = subst (λ (q : Query). StandsFor c.in_ok-filter.filter q.pred c.args.columns.now) c.query.view_is c.in_ok-filter.ensures.stands;
    answered = c.fill.ensures.answers;
    read_for = c.roles_of.ensures;
    giving = c.givers_of.ensures;
    lent = c.fill.ensures.same;
  };
}
