use Rattle.std.proofs.Common.{◌≡◌, true, ◌==◌, replicate, sym, ap, subst, ◌∙◌, rules, to_z, of_z}
use Rattle.std.proofs.lemmas.Int.{to_z-of_z}
use Rattle.std.specs.Int.{w128}
use Rattle.kleene_filter.specs.Members.{IsLevel}
use Rattle.kleene_filter.specs.Parted.{is_level}
use Rattle.kleene_filter.proofs.Parting.{no_value_prefix, starts_where}
use Rattle.kleene_filter.proofs.members.Level.open.Goals as goal

pub truth_at_level-truth-requires : goal.truth_at_level-truth-requires
truth_at_level-truth-requires c =
    let v = c.args.number in
    let column = c.args.column.now in (
      v,
      c.in_ok-rows.ensures ∙ ap (λ n. replicate n true) c.rows.ensures.rows
          ∙ starts_where (is_level v) true column c.requires.unread c.requires.known (ap (λ m. 0 == m) (no_value_prefix column.ends v c.requires.between)),
    )

pub returns-clause-level : goal.returns-clause-level
returns-clause-level c =
    let v = c.args.number in
    let column = c.args.column.now in
    let fits : to_z w128 (of_z w128 v) ≡ v = to_z-of_z w128 v (search rules) in
    subst (λ n. IsLevel column c.args.values.now (record { number = n; rows = c.in_ok-rows.rows; truth = c.truth_at_level-truth.result })) (sym fits) (record {
      between = c.requires.between;
      rows = c.in_ok-rows.ensures ∙ ap (λ n. replicate n true) c.rows.ensures.rows
          ∙ starts_where (is_level v) true column c.requires.unread c.requires.known (ap (λ m. 0 == m) (no_value_prefix column.ends v c.requires.between));
      truth = c.truth_at_level-truth.ensures;
    })
