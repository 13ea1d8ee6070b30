use Rattle.std.proofs.Common.{ℕ, ◌*◌, ◌+◌, ◌&&◌, get_or, refl, ap, subst, ◌∙◌, rules, arith, to_z, of_z}
use Rattle.std.proofs.lemmas.Int.{to_z-of_z}
use Rattle.std.specs.Int.{w128}
use Rattle.std.specs.Prelude.{int_le}
use Rattle.plane_kernels.specs.Rows.{block_rows}
use Rattle.query_model.specs.declared.query.Comparison.TheVariants.{Ge, Le}
use Rattle.query_model.specs.Meaning.{compares}
use Rattle.query_model.specs.Truths.{truths_over}
use Rattle.query_model.proofs.Blocks.{range_ordered}
use Rattle.known_column.specs.Columns.{range_at}
use Rattle.known_column.specs.KnownTables.{column_at}
use Rattle.kleene_filter.specs.Blocks.{bit_in, AreTruthsFrom}
use Rattle.kleene_filter.proofs.BetweenTruths.{between_rows}
use Rattle.kleene_filter.proofs.Tracking.{known_at_column}
use Rattle.kleene_filter.proofs.comparisons.Ranged.truths.Goals as goal

pub returns : goal.returns
returns c =
    let own = c.args.self.now in
    let table = c.args.columns.now in
    let block = c.args.block in
    let count = block_rows table.frame.rows block in
    let column = column_at table own.from.column in
    let ranges = λ (r : ℕ). range_at column (512 * block + r) in
    let ranged = c.requires.ranged in
    let known = known_at_column table own.from.column c.requires.known c.requires.within in
    let rows = c.requires.known.knowledge.rows own.from.column c.requires.within in
    let from : AreTruthsFrom 0 count (λ r. truths_over (ranges r) (λ x. compares Ge x own.from.value)) c.truths-from.result =
    subst (λ op. AreTruthsFrom 0 count (λ r. truths_over (ranges r) (λ x. compares op x own.from.value)) c.truths-from.result) ranged.least c.truths-from.ensures in
    let to : AreTruthsFrom 0 count (λ r. truths_over (ranges r) (λ x. compares Le x own.to.value)) c.truths-to.result =
    subst (λ op. AreTruthsFrom 0 count (λ r. truths_over (ranges r) (λ x. compares op x own.to.value)) c.truths-to.result) ranged.greatest
    (subst (λ k. AreTruthsFrom 0 count (λ r. truths_over (range_at (column_at table k) (512 * block + r)) (λ x. compares own.to.op x own.to.value)) c.truths-to.result) ranged.column c.truths-to.ensures) in
    between_rows count ranges own.from.value own.to.value c.and-both.result _
    (λ r few. range_ordered column.ends column.known.read (get_or column.known.prefixes (512 * block + r) 0) (known.legal (512 * block + r) 0 (omega arith)))
    (λ r up few. c.and-both.ensures r _ _ (omega (arith, few)) (from r up few) (to r up few)) (λ r. c.chosen.ensures r ∙ ap (λ n. int_le n (to_z w128 (of_z w128 own.to.value)) && bit_in r c.and-both.result.may_hold) (to_z-of_z w128 own.from.value (search rules))
    ∙ ap (λ n. int_le own.from.value n && bit_in r c.and-both.result.may_hold) (to_z-of_z w128 own.to.value (search rules))) refl refl
