-- A refusal is that of the parts, and what is typed is valid.
use Rattle.std.proofs.Common.{subst}
use Rattle.std.proofs.lemmas.Result.{err_from_is_err_and}
use Rattle.daq_table.specs.Tables.{frame_of}
use Rattle.query_model.specs.Projection.{projected_frame}
use Rattle.query_model.specs.Queries.{Query}
use Rattle.sql_text.specs.Tree.{query_of}
use Rattle.sql_typing.specs.Refusals.{IsFirstUnfit}
use Rattle.sql_typing.proofs.Early.{refused}
use Rattle.sql_typing.proofs.Valid.{valid}
use Rattle.sql_typing.proofs.typing.type_query.Goals as goal

pub returns-in_err-query-clause-refused : goal.returns-in_err-query-clause-refused
returns-in_err-query-clause-refused c =
    let p = err_from_is_err_and c.from_residual.result c.from_residual.ensures.1 in
    rw p.1 (rw p.2 (refused (query_of c.args.tree.now) c.args.head.now c.in_err-query.field-0.0 c.in_err-query.ensures))

pub returns-in-None-clause-valid : goal.returns-in-None-clause-valid
returns-in-None-clause-valid c = valid (query_of c.args.tree.now) c.args.head.now c.in_ok-query.query (record {
  faultless = c.in_ok-query.ensures.0;
  same = c.in_ok-query.ensures.1;
  fits = rw c.in-None.is at c.in_ok-item.ensures;
})

pub returns-in-Some-clause-refused : goal.returns-in-Some-clause-refused
returns-in-Some-clause-refused c =
    let unfit : IsFirstUnfit (projected_frame c.in_ok-query.query (frame_of c.args.head.now)) c.in_ok-query.query.items c.in-Some.item = rw c.in-Some.is at c.in_ok-item.ensures in
    record {
      faultless = c.in_ok-query.ensures.0;
      unfit = subst (λ (x : Query). IsFirstUnfit (projected_frame x (frame_of c.args.head.now)) x.items c.in-Some.item) c.in_ok-query.ensures.1 unfit;
    }
