-- Blocks of the rounds of a query, written one after the other.
use Rattle.std.proofs.Common.{◌≡◌, ℕ, zero, suc, ◌+◌, ◌-◌, ◌<◌, ◌≤◌, List, [], ◌∷◌, ◌++◌, length, refl, sym, ap, ◌∙◌, arith, append_assoc, append-nil, slice_get}
use Rattle.daq_report.specs.Blocks.{block_text}
use Rattle.daq_table.specs.Tables.{frame_of}
use Rattle.daq_table.specs.declared.table_head.Head.{Head}
use Rattle.plane_schedule.specs.declared.policy.Plan.{Plan}
use Rattle.query_model.specs.declared.query.TypedQuery.{TypedQuery}
use Rattle.table_rounds.proofs.Going.{same_before}
use Rattle.table_rounds.proofs.OfTables.{alike_stages}
use Rattle.table_rounds.proofs.QueryCourse.{have_same}
use Rattle.table_rounds.specs.Courses.{HaveSameRead}
use Rattle.table_rounds.specs.Rounds.{Planes, column_read, rounds_of, stage_after}
use Rattle.daq_cli.specs.Report.{block_of, blocks_below}
use Rattle.daq_cli.proofs.Reached.{Stay}

module _ (block : List ℕ → ℕ → List ℕ) where
  -- the blocks go on from each of them
  blocks_go_on : (reads : List ℕ) (i d : ℕ) → (rest : List ℕ) × (blocks_below block reads (i + d) ≡ blocks_below block reads i ++ rest)
  unfolding blocks_below
  blocks_go_on reads i zero = let same : i + 0 ≡ i = omega arith in ([], ap (blocks_below block reads) same ∙ sym (append-nil (blocks_below block reads i)))
  blocks_go_on reads i (suc d) =
      let (rest, e) = blocks_go_on reads i d in
      let grown : i + suc d ≡ suc (i + d) = omega arith in
      (rest ++ block reads (i + d), ap (blocks_below block reads) grown ∙ ap (λ l. l ++ block reads (i + d)) e ∙ append_assoc (blocks_below block reads i) rest (block reads (i + d)))

  -- more blocks begin with fewer
  pub blocks_rest : (reads : List ℕ) (i n : ℕ) → i ≤ n → (rest : List ℕ) × (blocks_below block reads n ≡ blocks_below block reads i ++ rest)
  blocks_rest reads i n le =
      let (rest, e) = blocks_go_on reads i (n - i) in
      let all : i + (n - i) ≡ n = omega arith in
      (rest, ap (blocks_below block reads) (sym all) ∙ e)

-- later reads change no block of a query
column_before : (reads more : List ℕ) (round : ℕ) → round ≤ length reads → column_read (reads ++ more) round ≡ column_read reads round
column_before reads more zero h = refl
column_before reads more (suc before) h = get reads more before (omega arith)
  where
    get : (reads more : List ℕ) (at : ℕ) → at < length reads → slice_get (reads ++ more) at ≡ slice_get reads at
    get [] more at h = absurd (omega arith)
    get (r ∷ reads) more zero h = refl
    get (r ∷ reads) more (suc at) h = get reads more at (omega arith)

pub query_blocks_stay : (head : Head) (plan : Plan) (query : TypedQuery) (bits : Planes) → Stay (block_of head plan query bits)
query_blocks_stay head plan query bits reads more round h =
    ap (λ s. block_text head plan.listing plan.extras s round (column_read (reads ++ more) round)) (same_before query (frame_of head) bits reads more round h)
    ∙ ap (block_text head plan.listing plan.extras (stage_after query (frame_of head) bits reads round) round) (column_before reads more round h)

-- and it shows the planes alone that were read
pub query_blocks_agree : (head : Head) (plan : Plan) (query : TypedQuery) (a b : Planes) (reads : List ℕ) → HaveSameRead (rounds_of plan query (frame_of head) a) reads a b → (round : ℕ) →
    block_of head plan query a reads round ≡ block_of head plan query b reads round
query_blocks_agree head plan query a b reads same round =
    ap (λ s. block_text head plan.listing plan.extras s round (column_read reads round)) (alike_stages query (frame_of head) a b reads (have_same plan query (frame_of head) a b reads same) round)
