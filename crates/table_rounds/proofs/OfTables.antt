-- Rounds over planes are those of each table that has the planes read.
use Rattle.std.proofs.Common.{◌≡◌, ℕ, ◌<◌, ◌≤◌, ◌==◌, List, [], length, map, get_or, sym, ap, ◌∙◌, subst, arith, IsNone, cond, count_by}
use Rattle.std.proofs.lemmas.List.{get_or-map}
use Rattle.std.proofs.lemmas.List.Sums.{sum_by-take-le}
use Rattle.daq_table.specs.Tables.{Cells, Frame, ends_at}
use Rattle.plane_schedule.proofs.Same.{choice_is_unread}
use Rattle.plane_schedule.specs.Choices.{Chooses}
use Rattle.plane_schedule.specs.declared.policy.Plan.{Plan}
use Rattle.query_model.specs.Knowledge.{IsKnowledge, bit_at, plane_of}
use Rattle.query_model.specs.Laws.{PlanesAreTaken, TablesExist, TablesHaveParts}
use Rattle.query_model.specs.Projection.{projected}
use Rattle.query_model.specs.declared.query.TypedQuery.{TypedQuery}
use Rattle.round_engine.specs.Stages.{IsFirstOver, Stage}
use Rattle.table_rounds.specs.Courses.{number_after}
use Rattle.table_rounds.specs.Headline.{RoundsAreOfTables, RoundsHaveTables, TablesAreTaken}
use Rattle.table_rounds.specs.Rounds.{AreRounds, HasPlanes, HaveSame, Planes, counts_after, ending_at, outlook_at, stage_after, stage_by, stage_with}
use Rattle.table_rounds.proofs.Agreeing.{legal_planes_have_tables, planes_tell_stages, table_tells}
use Rattle.table_rounds.proofs.Counts.{count_there}
use Rattle.table_rounds.proofs.Going.{take_all}
use Rattle.table_rounds.proofs.Reached.{columns_of_part, ends_there, has_plane, part_of, reads_after}

-- no column was read more often after a round than after the last
counts_grow : (query : TypedQuery) (reads : List ℕ) (round c : ℕ) → c < length query.columns → get_or (counts_after query reads round) c 0 ≤ get_or (counts_after query reads (length reads)) c 0
counts_grow query reads round c h =
    let here = count_there query reads round c 0 h in
    let all = count_there query reads (length reads) c 0 h in
    let whole = ap (count_by (λ d. d == c)) (take_all reads) in
    let few = sum_by-take-le (λ d. cond (d == c) 1 0) reads round in
    omega (arith, here, all, whole, few)

-- over planes of which the same were read the rounds are the same
module _ (query : TypedQuery) (frame : Frame) (a b : Planes) (reads : List ℕ) (same : HaveSame query (counts_after query reads (length reads)) a b) where
  pub alike_stages : (round : ℕ) → stage_after query frame a reads round ≡ stage_after query frame b reads round
  alike_stages round =
      planes_tell_stages query frame a b (counts_after query reads round) (λ c j h lt. same c j h (let grow = counts_grow query reads round c h in omega (arith, lt, grow)))

  pub alike_rounds : (plan : Plan) → AreRounds plan query frame a reads → AreRounds plan query frame b reads
  alike_rounds plan rounds = record {
    going = λ round h. subst (λ s. IsNone (ending_at plan s)) (alike_stages round) (rounds.going round h);
    chosen = λ round h. subst (λ s. Chooses plan.policy (outlook_at s) (get_or reads round 0)) (alike_stages round) (rounds.chosen round h);
    legal = λ round h. subst (λ s. IsKnowledge (part_of query frame) s.known) (alike_stages round) (rounds.legal round h);
  }

module _ (query : TypedQuery) (frame : Frame) (bits : Planes) (reads : List ℕ) (cells : Cells) (has : HasPlanes query frame bits (counts_after query reads (length reads)) cells) where
  abbrev has_same : HaveSame query (counts_after query reads (length reads)) bits (plane_of frame cells)
  has_same = λ c j h lt. sym (has.same c j h lt)

  pub same_stages : (round : ℕ) → stage_after query frame bits reads round ≡ stage_after query frame (plane_of frame cells) reads round
  same_stages = alike_stages query frame bits (plane_of frame cells) reads has_same

  pub same_rounds : (plan : Plan) → AreRounds plan query frame bits reads → AreRounds plan query frame (plane_of frame cells) reads
  same_rounds = alike_rounds query frame bits (plane_of frame cells) reads has_same

pub rounds_are_of_tables : RoundsAreOfTables
rounds_are_of_tables plan query frame bits reads cells rounds has =
    record { rounds = same_rounds query frame bits reads cells has plan rounds; stages = λ round h. same_stages query frame bits reads cells has round }

pub rounds_have_tables : PlanesAreTaken → TablesExist → RoundsHaveTables
rounds_have_tables taking exist plan query frame bits reads named long rounds =
    legal_planes_have_tables taking exist query frame bits (counts_after query reads (length reads)) named long
    (reads_after plan query frame bits reads rounds (length reads) (omega arith)) (rounds.legal (length reads) (omega arith))

-- ---- no plane of a table is refused

pub plane_there : (query : TypedQuery) (frame : Frame) (cells : Cells) (c j : ℕ) → c < length query.columns →
    plane_of frame cells (get_or query.columns c 0) j ≡ plane_of (part_of query frame) (projected query cells) c j
plane_there query frame cells c j h =
    ap (λ ends. map (bit_at ends j) (get_or cells (get_or query.columns c 0) [])) (ends_there query frame c h)
    ∙ ap (map (bit_at (ends_at (part_of query frame) c) j)) (sym (get_or-map (λ i. get_or cells i []) query.columns c 0 [] h))

pub tables_are_taken : TablesHaveParts → PlanesAreTaken → TablesAreTaken
tables_are_taken parts taking plan query frame cells reads column plane row named table refused =
    let part = part_of query frame in
    let followed = refused.before.followed in
    let c = refused.before.next in
    let counts = counts_after query reads (length reads) in
    let k = get_or counts c 0 in
    let unread = choice_is_unread plan.policy (outlook_at (stage_after query frame (plane_of frame cells) reads (length reads))) c followed.chosen in
    let inside : c < length query.columns = subst (λ n. c < n) (columns_of_part query frame) unread.column in
    let are = reads_after plan query frame (plane_of frame cells) reads followed.rounds (length reads) (omega arith) in
    let tells = table_tells taking query frame cells named table counts are in
    let (can, same, next) = taking part (projected query cells) counts c ((parts query frame named).part cells table) are unread.column (has_plane query frame (plane_of frame cells) counts c unread) in
    let bits : plane_of frame cells (get_or query.columns c 0) (number_after reads (length reads) c) ≡ plane_of part (projected query cells) c k =
    ap (plane_of frame cells (get_or query.columns c 0)) (sym (count_there query reads (length reads) c 0 inside)) ∙ plane_there query frame cells c k inside in
    let over : IsFirstOver (stage_with query frame cells counts) c (plane_of part (projected query cells) c k) row =
    subst (λ (s : Stage). IsFirstOver s c (plane_of part (projected query cells) c k) row) tells (subst (λ bs. IsFirstOver (stage_by query frame (plane_of frame cells) counts) c bs row) bits refused.over) in
    over.over (can.legal row over.in_range)
