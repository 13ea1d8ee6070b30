use Rattle.std.proofs.Common.{◌≡◌, length, ap, sym, subst, ◌∙◌}
use Rattle.query_model.specs.Queries.{Query}
use Rattle.round_engine.specs.Engines.{stage_of}
use Rattle.round_engine.specs.KeptItems.{HoldItems}
use Rattle.round_engine.specs.Selected.{HaveRows}
use Rattle.round_engine.specs.Totals.{HaveRoom}
use Rattle.round_engine.proofs.KeptItems.{held_items}
use Rattle.round_engine.proofs.answers.Answers.open.Goals as goal

pub returns-in_ok-open-in-Plain : goal.returns-in_ok-open-in-Plain
returns-in_ok-open-in-Plain c =
    let totals = c.in_ok-open-in-Plain.field-0 in
    let opened = c.in_ok-open-in-Plain.ensures in
    let query = c.args.query.now in
    let items : c.as_slice-items.result.now ≡ query.items = c.as_slice-items.ensures ∙ ap (λ (q : Query). q.items) c.query.view_is in
    let rows : c.rows-rows.result ≡ c.args.columns.now.frame.rows = c.rows-rows.ensures.rows in (
      sym (ap (λ (q : Query). q.shape) c.query.view_is) ∙ c.in-Plain.is,
      opened.count ∙ ap length items,
      subst (λ is. HaveRoom is totals.runnings.items) items opened.room,
      subst (λ n. HaveRows n totals.masks) rows opened.masks,
      held_items (stage_of query c.args.columns.now) totals.kept.items c.requires.open_stage
          (subst (λ n. HoldItems n query.items totals.kept.items) rows (subst (λ is. HoldItems c.rows-rows.result is totals.kept.items) items opened.kept)),
      rw opened.products c.in_ok-products-in-Plain.ensures,
    )
