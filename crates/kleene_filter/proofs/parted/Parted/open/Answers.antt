use Rattle.std.proofs.Common.{◌≡◌, true, false, ◌==◌, replicate, sym, ap, subst, ◌∙◌, rules, to_z, of_z}
use Rattle.std.proofs.lemmas.Int.{to_z-of_z}
use Rattle.std.specs.Int.{w128}
use Rattle.daq_table.specs.Tables.{code}
use Rattle.query_model.specs.Meaning.{compares}
use Rattle.known_column.specs.Columns.{rows_where}
use Rattle.query_model.specs.Knowledge.{prefix_of}
use Rattle.kleene_filter.specs.Parted.{cell_with, greater_holds, is_level, is_passed, less_holds, IsTruthAt}
use Rattle.kleene_filter.proofs.Parting.{no_value_prefix, none_beside, starts_where}
use Rattle.kleene_filter.proofs.parted.Parted.open.Goals as goal

pub truth_at_equal-at_equal-requires : goal.truth_at_equal-at_equal-requires
truth_at_equal-at_equal-requires c =
    let v = c.args.value in
    let column = c.args.column.now in
    let fits : to_z w128 (of_z w128 v) ≡ v = to_z-of_z w128 v (search rules) in
    subst (λ n. c.in_ok-equal.equal ≡ rows_where (is_level n) column) (sym fits)
    (c.in_ok-equal.ensures ∙ ap (λ n. replicate n true) c.rows.ensures.rows
    ∙ starts_where (is_level v) true column c.requires.unread c.requires.known (ap (λ m. 0 == m) (no_value_prefix column.ends v c.requires.between)))

pub returns : goal.returns
returns c =
    let op = c.args.op in
    let v = c.args.value in
    let column = c.args.column.now in
    let fits : to_z w128 (of_z w128 v) ≡ v = to_z-of_z w128 v (search rules) in
    let own = no_value_prefix column.ends v c.requires.between in
    record {
      between = c.requires.between;
      code = c.code_of.ensures ∙ ap (λ n. code column.ends (cell_with n column.ends)) fits;
      passed = c.in_ok-none.ensures ∙ ap (λ n. replicate n false) c.rows-2.ensures.rows
          ∙ starts_where (is_passed op v) false column c.requires.unread c.requires.known (none_beside (less_holds op) (greater_holds op) (prefix_of column.ends 0 (cell_with v column.ends)) own);
      equal = c.in_ok-equal.ensures ∙ ap (λ n. replicate n true) c.rows.ensures.rows
          ∙ starts_where (is_level v) true column c.requires.unread c.requires.known (ap (λ m. 0 == m) own);
      at_equal = subst (λ n. IsTruthAt column (λ x. compares op x n) c.in_ok-equal.equal c.truth_at_equal-at_equal.result) fits c.truth_at_equal-at_equal.ensures;
    }
