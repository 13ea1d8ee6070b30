use Rattle.std.proofs.Common.{◌≡◌, ℕ, ◌*◌, ◌<◌, ◌≤◌, nat_lt, Bool, false, length, get_or, slice_set, count_by, inl, inr, sym, ap, ◌∙◌, arith}
use Rattle.std.proofs.lemmas.Bool.{cases_lt}
use Rattle.std.proofs.lemmas.Bool.Decides.{nat_tests}
use Rattle.std.proofs.lemmas.List.{get_or-set_other, get_or-set_same, length-set, take_all}
use Rattle.std.proofs.lemmas.List.Sums.{count_by-le-length}
use Rattle.aggregates.specs.Selections.{block_of}
use Rattle.avg_exact.specs.Blocks.{is_unsure_row, rows_with}
use Rattle.avg_exact.proofs.RowLists.{length-block, long_rows, next_count}
use Rattle.avg_exact.proofs.planes.find_uncertain.Goals as goal

no_more : (n : ℕ) → nat_lt 0 n ≡ false → n ≡ 0
no_more n e = grind (arith, nat_tests)

pub overflow_add-rows : goal.overflow_add-rows
overflow_add-rows c =
    let unsure = rows_with c.args.engine.now c.args.item is_unsure_row in
    let here = c.count-count.ensures ∙ ap (count_by (λ b. b)) c.uncertain_block.ensures in
    let few = count_by-le-length {X = Bool} (λ b. b) (block_of c.loop-block.block unsure) in
    record { fits = omega (arith, here, few, length-block c.loop-block.block unsure, c.loop-block.invariant.few, c.loop-block-test.true, c.div_ceil-block-end.ensures, c.rows.ensures, c.requires.over.averaged.few) }

pub loop-block-preserved : goal.loop-block-preserved
loop-block-preserved c =
    let unsure = rows_with c.args.engine.now c.args.item is_unsure_row in
    let block = c.loop-block.block in
    let here = c.count-count.ensures ∙ ap (count_by (λ b. b)) c.uncertain_block.ensures in
    let few = count_by-le-length {X = Bool} (λ b. b) (block_of block unsure) in
    let there : block < length c.loop-block.blocks =
    omega (arith, c.loop-block.invariant.long, c.loop-block-test.true, c.div_ceil-block-end.ensures, c.rows.ensures, c.requires.over.averaged.few) in
    record {
      marks = λ k below e. elim (cases_lt k block) [
        | inl before ↦ c.loop-block.invariant.marks k before (sym (get_or-set_other c.loop-block.blocks block k (nat_lt 0 c.count-count.result) false (omega arith)) ∙ e)
        | inr at ↦ (let same : k ≡ block = omega arith in
            let none = no_more c.count-count.result
            (sym (ap (λ i. get_or (slice_set c.loop-block.blocks block (nat_lt 0 c.count-count.result)) i false) same ∙ get_or-set_same c.loop-block.blocks block (nat_lt 0 c.count-count.result) false there) ∙ e) in
            ap (λ i. count_by (λ b. b) (block_of i unsure)) same ∙ sym here ∙ none)
      ];
      long = length-set c.loop-block.blocks block (nat_lt 0 c.count-count.result) ∙ c.loop-block.invariant.long;
      count = omega (arith, c.loop-block.invariant.count, here, next_count block unsure);
      few = omega (arith, c.loop-block.invariant.few, here, few, length-block block unsure);
    }

pub returns-clause-rows : goal.returns-clause-rows
returns-clause-rows c =
    let unsure = rows_with c.args.engine.now c.args.item is_unsure_row in
    let past : length unsure ≤ 512 * c.loop-block.block =
    omega (arith, long_rows c.args.engine.now c.args.item c.args.column c.requires.over is_unsure_row, c.rows.ensures, c.loop-block-test.false, c.div_ceil-block-end.ensures) in
    c.loop-block.invariant.count ∙ ap (count_by (λ b. b)) (take_all (512 * c.loop-block.block) unsure past)
