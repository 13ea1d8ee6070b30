use Rattle.std.proofs.Common.{◌≡◌, ℕ, ◌*◌, ◌<◌, ◌≤◌, false, length, take, get_or, count_by}
use Rattle.aggregates.specs.Selections.{block_of}
use Rattle.avg_exact.specs.Blocks.{is_unsure_row, rows_with}
use Rattle.avg_exact.proofs.planes.find_uncertain.Given as goal

abbrev pub invariant-loop-block : goal.invariant-loop-block
invariant-loop-block l =
    let unsure = rows_with l.engine l.item is_unsure_row in
    record {
      marks : (k : ℕ) → k < l.block → get_or l.blocks k false ≡ false → count_by (λ b. b) (block_of k unsure) ≡ 0;
      long : length l.blocks ≡ 32768;
      count : l.rows ≡ count_by (λ b. b) (take (512 * l.block) unsure);
      few : l.rows ≤ l.block * 512;
    }
