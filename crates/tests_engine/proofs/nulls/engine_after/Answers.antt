use Rattle.std.proofs.Common.{rules, sym, subst}
use Rattle.std.specs.List.{AllByRecursion}
use Rattle.query_model.specs.Validity.{CanCompareIn, IsValidItem}
use Rattle.tests_engine.proofs.nulls.engine_after.Goals as goal

pub open_within-requires : goal.open_within-requires
open_within-requires c =
    let head = c.in_ok-null_head.field-0 in
    let query = c.in_ok-query.query in
    record {
      valid = record {
        few_columns = search rules;
        in_range = search rules;
        distinct = search rules;
        few_items = search rules;
        condition = search rules;
        compared = subst (CanCompareIn head query) (sym c.in_ok-query.ensures.condition) (c.requires.compared head query);
        shape = search rules;
        items = subst (AllByRecursion (IsValidItem head query)) (sym c.in_ok-query.ensures.items) (search rules, (search rules, (search rules, (search rules, tt))));
      };
    }
