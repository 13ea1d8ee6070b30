-- What the checks say of a query that none of them refuses.
use Rattle.std.proofs.Common.{◌≡◌, ◌≤◌, List, length, Option, None, refl, sym, ◌∙◌}
use Rattle.std.specs.Prelude.{nat_lt}
use Rattle.daq_table.specs.declared.head.ColumnHead.{ColumnHead}
use Rattle.sql_text.specs.Tree.{Query}
use Rattle.sql_typing.specs.Faults.{aggregates_in, ending_fault, filter_fault, first_fault, first_in, first_of, group_bits, group_fault, items_fault, name_fault, table_fault, too_many_columns, too_many_items}
use Rattle.sql_typing.specs.Names.{names_in}
use Rattle.sql_typing.specs.Typing.{columns_of, typed_ending}
use Rattle.sql_typing.specs.declared.fault.TypeFault.{TypeFault}
use Rattle.sql_typing.specs.declared.fault.TypeFault.TheVariants.{GroupTooWide, TooManyColumns, TooManyItems}
use Rattle.sql_typing.proofs.Firsts.{none_first, none_later, not_if}
use Rattle.sql_typing.proofs.Comparisons.{at_most}

pub record IsClean (table : List ColumnHead) (q : Query) : Type 0 where
  pub known : first_in (name_fault table) (names_in q) ≡ None
  pub few_columns : length (columns_of table q) ≤ 16
  pub few_items : aggregates_in q.head ≤ 16
  pub select_list : items_fault table q.ending q.head ≡ None
  pub condition : filter_fault table q.pred ≡ None
  pub ending : ending_fault q.ending ≡ None
  pub groups : group_bits table (columns_of table q) (typed_ending table (columns_of table q) q.ending) ≤ 16

few_columns : (table : List ColumnHead) (q : Query) → too_many_columns table q ≡ None → length (columns_of table q) ≤ 16
few_columns table q h = at_most 16 (length (columns_of table q)) (not_if (nat_lt 16 (length (columns_of table q))) TooManyColumns h)

pub few_named : (table : List ColumnHead) (q : Query) → first_of (first_in (name_fault table) (names_in q)) (too_many_columns table q) ≡ None → length (columns_of table q) ≤ 16
few_named table q h = few_columns table q (none_later (first_in (name_fault table) (names_in q)) (too_many_columns table q) h)

parts : (table : List ColumnHead) (q : Query) (t u c i x y z g : Option TypeFault) → t ≡ table_fault q.table → u ≡ first_in (name_fault table) (names_in q) → c ≡ too_many_columns table q → i ≡ too_many_items q
    → x ≡ items_fault table q.ending q.head → y ≡ filter_fault table q.pred → z ≡ ending_fault q.ending → g ≡ group_fault table q
    → first_of t (first_of u (first_of c (first_of i (first_of (first_of x (first_of y z)) g)))) ≡ None → IsClean table q
parts table q t u c i x y z g et eu ec ei ex ey ez eg h =
    let h1 = none_later t (first_of u (first_of c (first_of i (first_of (first_of x (first_of y z)) g)))) h in
    let h2 = none_later u (first_of c (first_of i (first_of (first_of x (first_of y z)) g))) h1 in
    let h3 = none_later c (first_of i (first_of (first_of x (first_of y z)) g)) h2 in
    let h4 = none_later i (first_of (first_of x (first_of y z)) g) h3 in
    let text = none_first (first_of x (first_of y z)) g h4 in
    let after = none_later x (first_of y z) text in
    let width = none_later (first_of x (first_of y z)) g h4 in
    record {
      known = sym eu ∙ none_first u (first_of c (first_of i (first_of (first_of x (first_of y z)) g))) h1;
      few_columns = few_columns table q (sym ec ∙ none_first c (first_of i (first_of (first_of x (first_of y z)) g)) h2);
      few_items = at_most 16 (aggregates_in q.head) (not_if (nat_lt 16 (aggregates_in q.head)) TooManyItems (sym ei ∙ none_first i (first_of (first_of x (first_of y z)) g) h3));
      select_list = sym ex ∙ none_first x (first_of y z) text;
      condition = sym ey ∙ none_first y z after;
      ending = sym ez ∙ none_later y z after;
      groups = at_most 16 (group_bits table (columns_of table q) (typed_ending table (columns_of table q) q.ending))
          (not_if (nat_lt 16 (group_bits table (columns_of table q) (typed_ending table (columns_of table q) q.ending))) (GroupTooWide (group_bits table (columns_of table q) (typed_ending table (columns_of table q) q.ending))) (sym eg ∙ width));
    }

pub clean : (table : List ColumnHead) (q : Query) → first_fault table q ≡ None → IsClean table q
clean table q h = parts table q (table_fault q.table) (first_in (name_fault table) (names_in q)) (too_many_columns table q) (too_many_items q) (items_fault table q.ending q.head) (filter_fault table q.pred) (ending_fault q.ending) (group_fault table q)
    refl refl refl refl refl refl refl refl h
