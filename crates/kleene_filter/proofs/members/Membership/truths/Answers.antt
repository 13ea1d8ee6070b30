use Rattle.std.proofs.Common.{ℕ, ◌*◌, ◌+◌, ◌<◌, not, refl, sym, subst, ◌∙◌, arith}
use Rattle.plane_kernels.specs.Rows.{block_rows}
use Rattle.query_model.specs.Meaning.{among}
use Rattle.query_model.specs.Truths.{is_false, is_true, truths_over}
use Rattle.known_column.specs.Columns.{KnownColumn, range_at, rows_of_column}
use Rattle.known_column.specs.KnownTables.{column_at}
use Rattle.known_column.specs.RowBlocks.{IsKnownColumn}
use Rattle.kleene_filter.specs.Blocks.{AreTruthsFrom}
use Rattle.kleene_filter.specs.Members.{AreBlockMembers, HasLevels, HaveRow}
use Rattle.kleene_filter.proofs.MemberTruths.{have_row, told_by_levels}
use Rattle.kleene_filter.proofs.Tracking.{known_at_column}
use Rattle.kleene_filter.proofs.BlockBits.{not_of}
use Rattle.kleene_filter.proofs.members.Membership.truths.Goals as goal

pub block_members-rows-requires : goal.block_members-rows-requires
block_members-rows-requires c =
    let own = c.args.self.now in
    let column = column_at c.args.columns.now own.column in
    subst (HaveRow (512 * c.args.block)) (sym c.deref.ensures.value) (have_row column own.values own.levels.items (512 * c.args.block) c.requires.levels (omega (arith, c.column-column.ensures.rows)))

pub returns : goal.returns
returns c =
    let own = c.args.self.now in
    let column = c.column-column.result.now in
    let block = c.args.block in
    let rows = c.block_members-rows.result in
    let levels = c.deref.result.now in
    let has : HasLevels column own.values levels =
    subst (HasLevels column own.values) (sym c.deref.ensures.value) (subst (λ (k : KnownColumn). HasLevels k own.values own.levels.items) (sym c.column-column.ensures.column) c.requires.levels) in
    let known : IsKnownColumn column = subst IsKnownColumn (sym c.column-column.ensures.column) (known_at_column c.args.columns.now own.column c.requires.known c.requires.within) in
    let bits : (r : ℕ) → r < block_rows (rows_of_column column) block → AreBlockMembers levels block r rows =
    λ r few. c.block_members-rows.ensures r (omega arith) (have_row column own.values levels (512 * block + r) has (omega arith)) in
    let told : AreTruthsFrom 0 (block_rows (rows_of_column column) block) (λ r. truths_over (range_at column (512 * block + r)) (among own.values)) c.number_truths.result =
    c.number_truths.ensures (among own.values) (record {
      pass = λ r few some. (bits r few).may ∙ told_by_levels column own.values levels (512 * block + r) has known (omega arith) some (λ t. not (is_false t)) refl;
      fail = λ r few some.
          not_of _ _ _ (c.unset.ensures r (omega (arith, few)))
          ((bits r few).must ∙ told_by_levels column own.values levels (512 * block + r) has known (omega arith) some is_true refl);
    }) in
    subst (λ n. AreTruthsFrom 0 (block_rows n block) (λ r. truths_over (range_at (column_at c.args.columns.now own.column) (512 * block + r)) (among own.values)) c.number_truths.result) c.column-column.ensures.rows
    (subst (λ (k : KnownColumn). AreTruthsFrom 0 (block_rows (rows_of_column column) block) (λ r. truths_over (range_at k (512 * block + r)) (among own.values)) c.number_truths.result) c.column-column.ensures.column told)
