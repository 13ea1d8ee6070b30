use Rattle.std.proofs.Common.{rules, sym, subst}
use Rattle.std.specs.List.{AllByRecursion}
use Rattle.query_model.specs.Validity.{IsValidItem}
use Rattle.tests_engine.proofs.averages.small_engine.Goals as goal

pub open-requires : goal.open-requires
open-requires c =
    let head = c.in_ok-small_head.field-0 in
    let query = c.in_ok-small_query.field-0 in
    record {
      valid = record {
        few_columns = search rules;
        in_range = search rules;
        distinct = search rules;
        few_items = search rules;
        condition = search rules;
        compared = search rules;
        shape = search rules;
        items = subst (AllByRecursion (IsValidItem head query)) (sym c.in_ok-small_query.ensures.items) (search rules, tt);
      };
    }
