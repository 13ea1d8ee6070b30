use Rattle.std.proofs.Common.{◌≡◌, ◌+◌, ◌-◌, ◌*◌, ◌&&◌, not, Bool, length, take, count_by, ap, sym, subst, ◌∙◌, arith}
use Rattle.std.specs.Simd.Lanes.{put_chunk}
use Rattle.std.proofs.lemmas.List.Sums.{count_by-le-length}
use Rattle.std.proofs.lemmas.Simd.{length-put_chunk}
use Rattle.plane_kernels.specs.Rows.{block_rows, rows_of, IsPadded}
use Rattle.plane_kernels.specs.Words.{and_not}
use Rattle.plane_kernels.proofs.Bitwise.{and_not_is_bitwise, padded-zip2}
use Rattle.plane_kernels.proofs.RowLemmas.{count-rows_of, length-rows_of}
use Rattle.known_column.specs.Columns.{rows_of_column}
use Rattle.aggregates.specs.Selections.{block_of, sum_of_first}
use Rattle.aggregates.proofs.EndSums.{OfColumn, short_early, short_few}
use Rattle.aggregates.specs.Widening.{CoverOthers}
use Rattle.aggregates.proofs.KeptSums.{AreMoved, count_follows, left_padded, rows_moved, rows_stayed, still_covers, sum_follows}
use Rattle.aggregates.proofs.kept_sum.KeptSum.move_block.Goals as goal

pub sum_rows-came-requires-clause-rows : goal.sum_rows-came-requires-clause-rows
sum_rows-came-requires-clause-rows c =
    let n = block_rows (rows_of_column c.args.known.now) c.args.block in
    let old : IsPadded n c.block-old.result = subst (λ k. IsPadded (block_rows k c.args.block) c.block-old.result) c.requires.kept.rows c.block-old.ensures.padded in
    let new : IsPadded n c.block-new.result = subst (λ k. IsPadded (block_rows k c.args.block) c.block-new.result) c.requires.rows c.block-new.ensures.padded in
    subst (IsPadded n) (sym c.and_not_words.ensures) (padded-zip2 and_not (λ a b. a && not b) and_not_is_bitwise n c.block-new.result c.block-old.result (omega arith) new old)

pub sum_rows-left-requires-clause-rows : goal.sum_rows-left-requires-clause-rows
sum_rows-left-requires-clause-rows c =
    let column = c.args.known.now in
    let kept = c.args.self.now in
    let n = block_rows (rows_of_column column) c.args.block in
    let same : length c.args.mask.now ≡ length kept.mask = c.requires.rows ∙ sym c.requires.kept.rows in
    let are : AreMoved n c.block-old.result c.block-new.result c.and_not_words.result c.and_not_words-then-not-are_same.result = record {
      came_is = c.and_not_words.ensures;
      left_is = c.and_not_words-then-not-are_same.ensures;
      old_eight = omega arith;
      new_eight = omega arith;
      old_padded = subst (λ k. IsPadded (block_rows k c.args.block) c.block-old.result) c.requires.kept.rows c.block-old.ensures.padded;
      new_padded = subst (λ k. IsPadded (block_rows k c.args.block) c.block-new.result) c.requires.rows c.block-new.ensures.padded;
    } in
    left_padded n _ _ _ _ are

pub overflow_add-self : goal.overflow_add-self
overflow_add-self c =
    let column = c.args.known.now in
    let kept = c.args.self.now in
    let n = block_rows (rows_of_column column) c.args.block in
    let words = c.block-new.result in
    let padded : IsPadded n words = subst (λ k. IsPadded (block_rows k c.args.block) words) c.requires.rows c.block-new.ensures.padded in
    let few = count_by-le-length {X = Bool} (λ b. b) (rows_of n words) in
    record {
      fits = omega (
        arith,
        c.requires.kept.count,
        c.requires.kept.rows,
        count_by-le-length {X = Bool} (λ b. b) kept.mask,
        c.rows-rows.ensures.rows,
        c.rows-rows.ensures.few,
        c.count_ones.ensures,
        count-rows_of n words padded,
        few,
        length-rows_of n words (omega arith),
      );
    }

pub overflow_sub-self : goal.overflow_sub-self
overflow_sub-self c =
    let column = c.args.known.now in
    let kept = c.args.self.now in
    let n = block_rows (rows_of_column column) c.args.block in
    let same : length c.args.mask.now ≡ length kept.mask = c.requires.rows ∙ sym c.requires.kept.rows in
    let are : AreMoved n c.block-old.result c.block-new.result c.and_not_words.result c.and_not_words-then-not-are_same.result = record {
      came_is = c.and_not_words.ensures;
      left_is = c.and_not_words-then-not-are_same.ensures;
      old_eight = omega arith;
      new_eight = omega arith;
      old_padded = subst (λ k. IsPadded (block_rows k c.args.block) c.block-old.result) c.requires.kept.rows c.block-old.ensures.padded;
      new_padded = subst (λ k. IsPadded (block_rows k c.args.block) c.block-new.result) c.requires.rows c.block-new.ensures.padded;
    } in
    omega (arith, count_follows column kept c.args.block c.block-old.result c.block-new.result c.requires.kept (omega arith) are.old_padded are.new_padded c.block-old.ensures.rows, c.count_ones.ensures, c.count_ones-then-not-are_same.ensures)

pub overflow_add-self-then-not-are_same : goal.overflow_add-self-then-not-are_same
overflow_add-self-then-not-are_same c =
    let column = c.args.known.now in
    let kept = c.args.self.now in
    let of : OfColumn column kept.mask = record { sound = c.number_planes-planes.ensures.sound; rows = c.requires.kept.rows } in
    let few = short_few column kept.mask (column.known.read - kept.read) of in
    record { fits = omega (arith, c.requires.kept.adds, short_early column kept.mask kept.read of c.requires.kept.some_read, few, c.sum_rows-came.ensures.few) }

pub overflow_sub-self-then-not-are_same : goal.overflow_sub-self-then-not-are_same
overflow_sub-self-then-not-are_same c =
    let column = c.args.known.now in
    let kept = c.args.self.now in
    let n = block_rows (rows_of_column column) c.args.block in
    let same : length c.args.mask.now ≡ length kept.mask = c.requires.rows ∙ sym c.requires.kept.rows in
    let are : AreMoved n c.block-old.result c.block-new.result c.and_not_words.result c.and_not_words-then-not-are_same.result = record {
      came_is = c.and_not_words.ensures;
      left_is = c.and_not_words-then-not-are_same.ensures;
      old_eight = omega arith;
      new_eight = omega arith;
      old_padded = subst (λ k. IsPadded (block_rows k c.args.block) c.block-old.result) c.requires.kept.rows c.block-old.ensures.padded;
      new_padded = subst (λ k. IsPadded (block_rows k c.args.block) c.block-new.result) c.requires.rows c.block-new.ensures.padded;
    } in
    omega (
      arith,
      sum_follows column kept c.args.block c.sum_rows-left.result c.sum_rows-came.result c.block-old.result c.block-new.result c.and_not_words.result c.and_not_words-then-not-are_same.result c.requires.kept are
          c.block-old.ensures.rows c.sum_rows-left.ensures.sum c.sum_rows-came.ensures.sum,
    )

pub returns-then-not-are_same-clause-kept : goal.returns-then-not-are_same-clause-kept
returns-then-not-are_same-clause-kept c =
    let column = c.args.known.now in
    let kept = c.args.self.now in
    let n = block_rows (rows_of_column column) c.args.block in
    let same : length c.args.mask.now ≡ length kept.mask = c.requires.rows ∙ sym c.requires.kept.rows in
    let are : AreMoved n c.block-old.result c.block-new.result c.and_not_words.result c.and_not_words-then-not-are_same.result = record {
      came_is = c.and_not_words.ensures;
      left_is = c.and_not_words-then-not-are_same.ensures;
      old_eight = omega arith;
      new_eight = omega arith;
      old_padded = subst (λ k. IsPadded (block_rows k c.args.block) c.block-old.result) c.requires.kept.rows c.block-old.ensures.padded;
      new_padded = subst (λ k. IsPadded (block_rows k c.args.block) c.block-new.result) c.requires.rows c.block-new.ensures.padded;
    } in
    let new = rows_of n c.block-new.result in
    let is : c.set_block.new.self ≡ put_chunk (512 * c.args.block) kept.mask new = c.set_block.ensures ∙ ap (λ n. put_chunk (512 * c.args.block) kept.mask (rows_of (block_rows n c.args.block) c.block-new.result)) c.requires.kept.rows in
    let follows = sum_follows column kept c.args.block c.sum_rows-left.result c.sum_rows-came.result c.block-old.result c.block-new.result c.and_not_words.result c.and_not_words-then-not-are_same.result c.requires.kept are
    c.block-old.ensures.rows c.sum_rows-left.ensures.sum c.sum_rows-came.ensures.sum in
    let counted = count_follows column kept c.args.block c.block-old.result c.block-new.result c.requires.kept (omega arith) are.old_padded are.new_padded c.block-old.ensures.rows in
    record {
      rows = ap length is ∙ length-put_chunk (512 * c.args.block) kept.mask new ∙ c.requires.kept.rows;
      count = omega (arith, counted, ap (count_by (λ b. b)) is, c.count_ones.ensures, c.count_ones-then-not-are_same.ensures);
      some_read = c.requires.kept.some_read;
      adds = omega (arith, follows, ap (sum_of_first column kept.read) is);
    }

pub returns-then-not-are_same-clause-moved : goal.returns-then-not-are_same-clause-moved
returns-then-not-are_same-clause-moved c =
    let kept = c.args.self.now in
    let mask = c.args.mask.now in
    let at = 512 * c.args.block in
    let next : 512 * (c.args.block + 1) ≡ at + 512 = omega arith in
    let same : length kept.mask ≡ length mask = c.requires.kept.rows ∙ sym c.requires.rows in
    let is : c.set_block.new.self ≡ put_chunk at kept.mask (block_of c.args.block mask) =
    c.set_block.ensures ∙ ap (λ n. put_chunk at kept.mask (rows_of (block_rows n c.args.block) c.block-new.result)) same ∙ ap (put_chunk at kept.mask) c.block-new.ensures.rows in
    ap (λ l. take (512 * (c.args.block + 1)) l) is ∙ ap (λ n. take n (put_chunk at kept.mask (block_of c.args.block mask))) next ∙ rows_moved 512 at kept.mask mask same c.requires.moved ∙ ap (λ n. take n mask) (sym next)

pub returns-else-not-are_same-clause-moved : goal.returns-else-not-are_same-clause-moved
returns-else-not-are_same-clause-moved c =
    let kept = c.args.self.now in
    let mask = c.args.mask.now in
    let at = 512 * c.args.block in
    let next : 512 * (c.args.block + 1) ≡ at + 512 = omega arith in
    let same : length kept.mask ≡ length mask = c.requires.kept.rows ∙ sym c.requires.rows in
    let words : c.block-old.result ≡ c.block-new.result = c.are_same.ensures c.if-not-are_same.false in
    let here : block_of c.args.block kept.mask ≡ block_of c.args.block mask =
    sym c.block-old.ensures.rows ∙ ap (rows_of (block_rows (length kept.mask) c.args.block)) words ∙ ap (λ n. rows_of (block_rows n c.args.block) c.block-new.result) same ∙ c.block-new.ensures.rows in
    ap (λ n. take n kept.mask) next ∙ rows_stayed 512 at kept.mask mask c.requires.moved here ∙ ap (λ n. take n mask) (sym next)

pub returns-then-not-are_same-clause-moves : goal.returns-then-not-are_same-clause-moves
returns-then-not-are_same-clause-moves c =
    let kept = c.args.self.now in
    let mask = c.args.mask.now in
    let same : length kept.mask ≡ length mask = c.requires.kept.rows ∙ sym c.requires.rows in
    let is : c.set_block.new.self ≡ put_chunk (512 * c.args.block) kept.mask (block_of c.args.block mask) =
    c.set_block.ensures ∙ ap (λ n. put_chunk (512 * c.args.block) kept.mask (rows_of (block_rows n c.args.block) c.block-new.result)) same ∙ ap (put_chunk (512 * c.args.block) kept.mask) c.block-new.ensures.rows in
    subst (λ l. CoverOthers l mask kept.blocks) (sym is) (still_covers c.args.block kept.mask mask kept.blocks same c.requires.here c.requires.moves)
