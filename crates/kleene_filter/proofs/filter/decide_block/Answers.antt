use Rattle.std.proofs.Common.{◌≡◌, ℕ, ◌+◌, ◌*◌, ◌≤◌, Bool, false, List, length, count_by, sum_by, get_or, refl, sym, subst, ◌∙◌, arith}
use Rattle.std.specs.Int.Count.{ones}
use Rattle.std.proofs.lemmas.Option.{get_or_from_slice_get}
use Rattle.std.proofs.lemmas.List.Sums.{count_by-le-length}
use Rattle.query_model.specs.declared.bounds.Truth.{Truth}
use Rattle.query_model.specs.Queries.{Condition, condition_of}
use Rattle.known_column.specs.KnownTables.{KnownTable}
use Rattle.kleene_filter.specs.Blocks.{AreRowsIn}
use Rattle.kleene_filter.specs.declared.truth_masks.BlockRows.{BlockRows}
use Rattle.kleene_filter.specs.declared.truth_masks.KeptTruths.{KeptTruths}
use Rattle.kleene_filter.specs.declared.truth_masks.TruthMasks.{TruthMasks}
use Rattle.kleene_filter.specs.Filters.{is_certain, is_possible, AreJudged, AreKept, AreSettled}
use Rattle.kleene_filter.proofs.BlockBits.{rows_counted}
use Rattle.kleene_filter.proofs.Judged.{counted_within, decided, is_settled, recounted, same_rows, settled_beside, stays_open}
use Rattle.kleene_filter.proofs.filter.decide_block.Goals as goal

pub returns-then-not-get-clause-must : goal.returns-then-not-get-clause-must
returns-then-not-get-clause-must c =
    let old = c.args.truths.now in
    let off : get_or old.undecided c.args.block false ≡ false = get_or_from_slice_get old.undecided c.args.block c.get.result false c.get.ensures ∙ c.if-not-get.true in
    record {
      rows = refl;
      before = λ k h. refl;
      behind = λ k h. refl;
      here = λ k h below inside. (decided (condition_of c.args.pred.now) c.args.columns.now c.args.block old.masks.must old.masks.may old.undecided c.requires.same c.requires.kept.settled off k h below inside).certain;
    }

pub returns-then-not-get-clause-may : goal.returns-then-not-get-clause-may
returns-then-not-get-clause-may c =
    let old = c.args.truths.now in
    let off : get_or old.undecided c.args.block false ≡ false = get_or_from_slice_get old.undecided c.args.block c.get.result false c.get.ensures ∙ c.if-not-get.true in
    record {
      rows = refl;
      before = λ k h. refl;
      behind = λ k h. refl;
      here = λ k h below inside. (decided (condition_of c.args.pred.now) c.args.columns.now c.args.block old.masks.must old.masks.may old.undecided c.requires.same c.requires.kept.settled off k h below inside).possible;
    }

pub returns-then-not-get-clause-same : goal.returns-then-not-get-clause-same
returns-then-not-get-clause-same c = λ row first. c.requires.same row (omega (arith, first))

-- a mask has the rows of its blocks, and what is counted moves by those of a block
few_in : (block count : ℕ) (mask : List Bool) (rows : List ℕ) → count ≡ count_by (λ b. b) mask → AreRowsIn mask block rows → sum_by ones rows ≤ count
few_in block count mask rows is here = omega (arith, is, rows_counted mask block rows here, counted_within (512 * block) mask)

few_all : (count : ℕ) (mask : List Bool) → count ≡ count_by (λ b. b) mask → length mask ≤ 16777216 → count ≤ 16777216
few_all count mask is few = (let all = count_by-le-length {X = Bool} (λ b. b) mask in omega (arith, all, is, few))

few_there : (block : ℕ) (old new : List Bool) (rows : List ℕ) → AreRowsIn new block rows → length new ≡ length old → length old ≤ 16777216 → sum_by ones rows ≤ 16777216
few_there block old new rows here long few = (let all = count_by-le-length {X = Bool} (λ b. b) new in omega (arith, all, rows_counted new block rows here, counted_within (512 * block) new, long, few))

counted : (test : Truth → Bool) (pred : Condition) (table : KnownTable) (block count next : ℕ) (old new : List Bool) (before after : List ℕ) → count ≡ count_by (λ b. b) old → AreRowsIn old block before → AreRowsIn new block after →
    next + sum_by ones before ≡ count + sum_by ones after → AreJudged test pred table (512 * block) (512 * block + 512) old new → next ≡ count_by (λ b. b) new
counted test pred table block count next old new before after is here there moved judged =
    omega (arith, is, moved, rows_counted old block before here, rows_counted new block after there, recounted (512 * block) old new judged.rows judged.before judged.behind)

pub recounted-truths-requires-clause-counted : goal.recounted-truths-requires-clause-counted
recounted-truths-requires-clause-counted c = few_in c.args.block c.args.truths.now.certain c.args.truths.now.masks.must c.judge_block-moved.result.before.certain c.requires.kept.certain c.judge_block-moved.ensures.moved.certain_before

pub recounted-truths-requires-clause-few : goal.recounted-truths-requires-clause-few
recounted-truths-requires-clause-few c = few_all c.args.truths.now.certain c.args.truths.now.masks.must c.requires.kept.certain (omega (arith, c.requires.must, c.rows-rows.ensures.known.few_rows))

pub recounted-truths-requires-clause-some : goal.recounted-truths-requires-clause-some
recounted-truths-requires-clause-some c =
    few_there c.args.block c.args.truths.now.masks.must c.judge_block-moved.new.truths.must c.judge_block-moved.result.after.certain c.judge_block-moved.ensures.moved.certain c.judge_block-moved.ensures.must.rows (omega (arith, c.requires.must, c.rows-rows.ensures.known.few_rows))

pub recounted-truths-requires-2-clause-counted : goal.recounted-truths-requires-2-clause-counted
recounted-truths-requires-2-clause-counted c = few_in c.args.block c.args.truths.now.possible c.args.truths.now.masks.may c.judge_block-moved.result.before.possible c.requires.kept.possible c.judge_block-moved.ensures.moved.possible_before

pub recounted-truths-requires-2-clause-few : goal.recounted-truths-requires-2-clause-few
recounted-truths-requires-2-clause-few c = few_all c.args.truths.now.possible c.args.truths.now.masks.may c.requires.kept.possible (omega (arith, c.requires.may, c.rows-rows.ensures.known.few_rows))

pub recounted-truths-requires-2-clause-some : goal.recounted-truths-requires-2-clause-some
recounted-truths-requires-2-clause-some c =
    few_there c.args.block c.args.truths.now.masks.may c.judge_block-moved.new.truths.may c.judge_block-moved.result.after.possible c.judge_block-moved.ensures.moved.possible c.judge_block-moved.ensures.may.rows (omega (arith, c.requires.may, c.rows-rows.ensures.known.few_rows))

-- what is kept once the block is judged, whether it is decided or not
kept : (pred : Condition) (table : KnownTable) (block : ℕ) (old : KeptTruths) (new : TruthMasks) (undecided : List Bool) (before after : BlockRows) (certain possible : ℕ) → AreKept old → AreRowsIn old.masks.must block before.certain → AreRowsIn old.masks.may block before.possible →
    AreRowsIn new.must block after.certain → AreRowsIn new.may block after.possible → certain + sum_by ones before.certain ≡ old.certain + sum_by ones after.certain → possible + sum_by ones before.possible ≡ old.possible + sum_by ones after.possible →
    AreJudged is_certain pred table (512 * block) (512 * block + 512) old.masks.must new.must → AreJudged is_possible pred table (512 * block) (512 * block + 512) old.masks.may new.may → AreSettled new.must new.may undecided →
    AreKept (record { masks = new; undecided = undecided; certain = certain; possible = possible })
kept pred table block old new undecided before after certain possible was first second third fourth moved moved' judged judged' settled = record {
  settled = settled;
  certain = counted is_certain pred table block old.certain certain old.masks.must new.must before.certain after.certain was.certain first third moved judged;
  possible = counted is_possible pred table block old.possible possible old.masks.may new.may before.possible after.possible was.possible second fourth moved' judged';
}

pub returns-then-are_decided-clause-kept : goal.returns-then-are_decided-clause-kept
returns-then-are_decided-clause-kept c =
    let old = c.args.truths.now in
    let judged = c.judge_block-moved in
    let rows = judged.result in
    let moved = judged.ensures.moved in
    let new = judged.new.truths in
    let beside =
    settled_beside (condition_of c.args.pred.now) c.args.columns.now c.args.block old.masks.must old.masks.may new.must new.may old.undecided c.requires.kept.settled
    (get_or_from_slice_get old.undecided c.args.block c.get.result false c.get.ensures ∙ c.if-not-get.false) judged.ensures.must judged.ensures.may in
    let same = same_rows c.args.block new.must new.may rows.after.certain rows.after.possible moved.certain moved.possible
    (omega (arith, judged.ensures.must.rows, judged.ensures.may.rows, c.requires.must, c.requires.may)) (c.are_decided.ensures c.if-are_decided.true) in
    kept (condition_of c.args.pred.now) c.args.columns.now c.args.block old new c.set.new.self c.judge_block-moved.result.before rows.after c.recounted-truths.result c.recounted-truths-2.result c.requires.kept
    c.judge_block-moved.ensures.moved.certain_before c.judge_block-moved.ensures.moved.possible_before moved.certain moved.possible c.recounted-truths.ensures c.recounted-truths-2.ensures judged.ensures.must judged.ensures.may
    (subst (λ (l : List Bool). AreSettled new.must new.may l) (sym c.set.ensures) (is_settled c.args.block new.must new.may old.undecided beside same))

pub returns-else-are_decided-clause-kept : goal.returns-else-are_decided-clause-kept
returns-else-are_decided-clause-kept c =
    let old = c.args.truths.now in
    let judged = c.judge_block-moved in
    let rows = judged.result in
    let moved = judged.ensures.moved in
    let new = judged.new.truths in
    let beside =
    settled_beside (condition_of c.args.pred.now) c.args.columns.now c.args.block old.masks.must old.masks.may new.must new.may old.undecided c.requires.kept.settled
    (get_or_from_slice_get old.undecided c.args.block c.get.result false c.get.ensures ∙ c.if-not-get.false) judged.ensures.must judged.ensures.may in
    kept (condition_of c.args.pred.now) c.args.columns.now c.args.block old new old.undecided c.judge_block-moved.result.before rows.after c.recounted-truths.result c.recounted-truths-2.result c.requires.kept
    c.judge_block-moved.ensures.moved.certain_before c.judge_block-moved.ensures.moved.possible_before moved.certain moved.possible c.recounted-truths.ensures c.recounted-truths-2.ensures judged.ensures.must judged.ensures.may
    (stays_open c.args.block new.must new.may old.undecided beside)
