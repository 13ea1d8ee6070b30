-- Blocks of the steps of a session, and what later steps leave as it is.
use Rattle.plane_schedule.specs.declared.policy.Nearness.{Nearness}
use Rattle.std.proofs.Common.{◌≡◌, ℕ, zero, suc, ◌+◌, ◌≤◌, Bool, true, false, List, [], ◌∷◌, ◌++◌, get_or, length, map, refl, sym, ap, ◌∙◌, arith, if◌then◌else◌, length-append, slice_get, Option, Some, None}
use Rattle.std.proofs.lemmas.Bool.{false≢true}
use Rattle.std.proofs.lemmas.List.{get_or-map, length-map, map-append}
use Rattle.std.proofs.lemmas.Option.{slice_get-get_or, slice_get-map}
use Rattle.std.specs.Option.{is_some, option_map_or}
use Rattle.std.specs.Prelude.{option_map}
use Rattle.daq_report.specs.Blocks.{block_text}
use Rattle.daq_table.specs.Tables.{Frame, frame_of}
use Rattle.daq_table.specs.declared.table_head.Head.{Head}
use Rattle.multi_session.specs.Sessions.{Session, awaited, columns_named, own_column}
use Rattle.plane_schedule.specs.declared.policy.Plan.{Plan}
use Rattle.query_model.specs.Queries.{Query}
use Rattle.round_engine.specs.Narrowness.{is_narrow}
use Rattle.round_engine.specs.Progresses.{planes_read}
use Rattle.round_engine.specs.Stages.{Stage}
use Rattle.table_rounds.specs.SessionLaws.{QueriesStandAlone}
use Rattle.table_rounds.proofs.SessionsAgree.{same_is_moved, same_own_reads, same_told}
use Rattle.table_rounds.proofs.Standing.{AreColumns}
use Rattle.table_rounds.specs.Steps.{IsAfter, is_moved, own_read, own_reads, places_read, plan_alone, stage_in, steps_of}
use Rattle.table_rounds.proofs.Courses.{get_before}
use Rattle.table_rounds.specs.Courses.{HaveSameRead}
use Rattle.table_rounds.specs.Headline.{RoundsAreCounted}
use Rattle.table_rounds.specs.Rounds.{Planes, column_read, stage_after}
use Rattle.daq_cli.specs.Report.{block_of}
use Rattle.daq_cli.specs.SessionReport.{at_line, block_at, blocks_at, numbered, own_of}
use Rattle.daq_cli.proofs.Numbered.{numbered_same}
use Rattle.daq_cli.proofs.Reached.{Stay, column_last}

-- ---- a query of a session

module _ (near : Nearness) (frame : Frame) (bits : Planes) (query : Query) where
  pub own_before : (places more : List ℕ) (step : ℕ) → step ≤ length places → own_reads near frame bits (places ++ more) query step ≡ own_reads near frame bits places query step
  own_before places more zero h = refl
  own_before places more (suc step) h =
      let before = own_reads near frame bits places query step in
      ap (λ (own : List ℕ). own ++ own_read near (get_or (places ++ more) step 0) (stage_after query frame bits own (length own))) (own_before places more step (omega (arith, h)))
      ∙ ap (λ (place : ℕ). before ++ own_read near place (stage_after query frame bits before (length before))) (get_before places more step (omega (arith, h)))

  moved_before : (places more : List ℕ) (step : ℕ) → step ≤ length places → is_moved near frame bits (places ++ more) query step ≡ is_moved near frame bits places query step
  moved_before places more zero h = refl
  moved_before places more (suc step) h =
      ap (λ (own : List ℕ). is_some (awaited near (get_or (places ++ more) step 0) (stage_after query frame bits own (length own)))) (own_before places more step (omega (arith, h)))
      ∙ ap (λ (place : ℕ). is_some (awaited near place (stage_in near frame bits places query step))) (get_before places more step (omega (arith, h)))

-- ---- blocks

module _ (head : Head) (plan : Plan) (bits : Planes) where
  block_before : (places more : List ℕ) (step : ℕ) → step ≤ length places → (number : ℕ) (query : Query) →
      block_at head plan bits (places ++ more) step number query ≡ block_at head plan bits places step number query
  block_before places more step h number query =
      let near = plan.near in
      let frame = frame_of head in
      let own = own_reads near frame bits places query step in
      ap (λ (m : Bool). if m then at_line step number ++ block_of head plan query bits (own_reads near frame bits (places ++ more) query step) (length (own_reads near frame bits (places ++ more) query step)) else []) (moved_before near frame bits query places more step h)
      ∙ ap (λ (o : List ℕ). if is_moved near frame bits places query step then at_line step number ++ block_of head plan query bits o (length o) else []) (own_before near frame bits query places more step h)

module _ (head : Head) (plan : Plan) (queries : List Query) (bits : Planes) where
  pub session_blocks_stay : Stay (blocks_at head plan queries bits)
  session_blocks_stay reads more step h =
      let places = places_read queries reads in
      let long : length places ≡ length reads = length-map reads (λ c. get_or (columns_named queries) c 0) in
      ap (λ (ps : List ℕ). numbered (block_at head plan bits ps step) 1 queries) (map-append (λ c. get_or (columns_named queries) c 0) reads more)
      ∙ numbered_same (block_at head plan bits (places ++ places_read queries more) step) (block_at head plan bits places step) queries
      (λ place query there number. block_before head plan bits places (places_read queries more) step (omega (arith, h, long)) number query) 1

-- ---- a query alone

some_of : (o : Option ℕ) → is_some o ≡ true → (c : ℕ) × (o ≡ Some c)
some_of None e = absurd (false≢true e)
some_of (Some c) e = (c, refl)

where_open : (finished : Bool) (o : Option ℕ) (c : ℕ) → (if finished then None else o) ≡ Some c → o ≡ Some c
where_open true o c e = absurd (cc)
where_open false o c e = e

one_of : {A : Type 0} (a b : A) → ◌≡◌ {A = Option A} (Some a) (Some b) → a ≡ b
one_of a b e = cc

module _ (head : Head) (plan : Plan) (queries : List Query) (bits : Planes) where
  -- the query's number of the column that a step read, where it went to the query, is that of the last of its own reads
  last_is_own : (q : Query) (reads : List ℕ) (step : ℕ) → step ≤ length reads → is_moved plan.near (frame_of head) bits (places_read queries reads) q step ≡ true →
      own_of (columns_named queries) q (column_read reads step)
      ≡ column_read (own_reads plan.near (frame_of head) bits (places_read queries reads) q step) (length (own_reads plan.near (frame_of head) bits (places_read queries reads) q step))
  last_is_own q reads zero h moved = refl
  last_is_own q reads (suc before) h moved =
      let places = places_read queries reads in
      let own = own_reads plan.near (frame_of head) bits places q before in
      let stage = stage_in plan.near (frame_of head) bits places q before in
      let place = get_or places before 0 in
      let column = get_or reads before 0 in
      let (c, is) = some_of (awaited plan.near place stage) moved in
      let there : slice_get reads before ≡ Some column = slice_get-get_or reads before 0 (omega (arith, h)) in
      let place_is : place ≡ get_or (columns_named queries) column 0 = get_or-map (λ c. get_or (columns_named queries) c 0) reads before 0 0 (omega (arith, h)) in
      let read : own ++ own_read plan.near place stage ≡ own ++ c ∷ [] = ap (λ (o : Option ℕ). own ++ option_map_or (λ c. c ∷ []) o []) is in
      let long : length (own ++ c ∷ []) ≡ length own + 1 = length-append own (c ∷ []) in
      ap (own_of (columns_named queries) q) there
      ∙ ap (own_column q) (sym place_is)
      ∙ where_open (is_narrow plan.near stage) (own_column q place) c is
      ∙ sym (column_last own c)
      ∙ sym (ap (column_read (own ++ c ∷ [])) long)
      ∙ sym (ap (λ (l : List ℕ). column_read l (length l)) read)

  -- a session has as many stages as queries
  pub as_many : (reads : List ℕ) (s : Session) → IsAfter plan queries head bits reads s → length s.stages ≡ length queries
  as_many reads s after = ap (λ s. length s.stages) after.is ∙ length-map queries (λ q. stage_in plan.near (frame_of head) bits (places_read queries reads) q (length reads))

  module _ (reads : List ℕ) (s : Session) (place number : ℕ) (q : Query) (after : IsAfter plan queries head bits reads s) (there : slice_get queries place ≡ Some q) where
    at_query : {A : Type 0} (f : Query → A) (xs : List A) (x : A) → xs ≡ map f queries → slice_get xs place ≡ Some x → f q ≡ x
    at_query f xs x all is = one_of (f q) x (sym (slice_get-map f queries place ∙ ap (option_map f) there) ∙ ap (λ l. slice_get l place) (sym all) ∙ is)

    moved_is : (moved : Bool) → slice_get s.moved place ≡ Some moved → is_moved plan.near (frame_of head) bits (places_read queries reads) q (length reads) ≡ moved
    moved_is moved is = at_query (λ q. is_moved plan.near (frame_of head) bits (places_read queries reads) q (length reads)) s.moved moved (ap (λ s. s.moved) after.is) is

    -- the last step did not go to the query
    pub unmoved_block : slice_get s.moved place ≡ Some false → block_at head plan bits (places_read queries reads) (length reads) number q ≡ []
    unmoved_block is =
        let own = own_reads plan.near (frame_of head) bits (places_read queries reads) q (length reads) in
        ap (λ (m : Bool). if m then at_line (length reads) number ++ block_of head plan q bits own (length own) else []) (moved_is false is)

    -- what is written of the query is its block at this step
    pub moved_block : QueriesStandAlone → RoundsAreCounted → (stage : Stage) (own last : Option ℕ) → slice_get s.moved place ≡ Some true → slice_get s.stages place ≡ Some stage →
        own ≡ own_of s.columns stage.query last → last ≡ column_read reads (length reads) →
        at_line s.steps number ++ block_text head plan.listing plan.extras stage (planes_read stage.known) own ≡ block_at head plan bits (places_read queries reads) (length reads) number q
    moved_block stand_alone counted stage own last moved stands own_is last_is =
        let step = length reads in
        let places = places_read queries reads in
        let alone = own_reads plan.near (frame_of head) bits places q step in
        let here = stage_in plan.near (frame_of head) bits places q step in
        let true_here : is_moved plan.near (frame_of head) bits places q step ≡ true = moved_is true moved in
        let stage_is : here ≡ stage = at_query (λ q. stage_in plan.near (frame_of head) bits places q step) s.stages stage (ap (λ s. s.stages) after.is) stands in
        let as_alone = stand_alone plan queries head bits reads place q after.rounds there in
        let count : planes_read here.known ≡ length alone = counted (plan_alone plan alone) q (frame_of head) bits alone here (record { rounds = as_alone.rounds.rounds; known = refl }) in
        let own_here : own ≡ column_read alone (length alone) =
        own_is ∙ ap (λ (s : Session). own_of s.columns stage.query last) after.is ∙ ap (λ (t : Stage). own_of (columns_named queries) t.query last) (sym stage_is)
        ∙ ap (own_of (columns_named queries) q) last_is ∙ last_is_own q reads step (omega arith) true_here in
        let block = at_line step number ++ block_of head plan q bits alone (length alone) in
        ap (λ (s : Session). at_line s.steps number ++ block_text head plan.listing plan.extras stage (planes_read stage.known) own) after.is
        ∙ ap (λ (t : Stage). at_line step number ++ block_text head plan.listing plan.extras t (planes_read t.known) own) (sym stage_is)
        ∙ ap (λ (n : ℕ). at_line step number ++ block_text head plan.listing plan.extras here n own) count
        ∙ ap (λ (o : Option ℕ). at_line step number ++ block_text head plan.listing plan.extras here (length alone) o) own_here
        ∙ ap (λ (m : Bool). if m then block else []) (sym true_here)

-- ---- the blocks of steps show the planes that were read alone

module _ (head : Head) (plan : Plan) (queries : List Query) (a b : Planes) (reads : List ℕ) (are : AreColumns queries reads) (same : HaveSameRead (steps_of plan queries head a) reads a b) where
  same_block : (step : ℕ) → step ≤ length reads → (place : ℕ) (query : Query) → slice_get queries place ≡ Some query → (number : ℕ) →
      block_at head plan a (places_read queries reads) step number query ≡ block_at head plan b (places_read queries reads) step number query
  same_block step h place query there number =
      let own : Planes → List ℕ = λ bits. own_reads plan.near (frame_of head) bits (places_read queries reads) query step in
      let moved : Planes → Bool = λ bits. is_moved plan.near (frame_of head) bits (places_read queries reads) query step in
      ap (λ s. if moved a then at_line step number ++ block_text head plan.listing plan.extras s (length (own a)) (column_read (own a) (length (own a))) else []) (same_told plan queries head a b reads are same place query there step h)
      ∙ ap (λ (o : List ℕ). if moved a then at_line step number ++ block_of head plan query b o (length o) else []) (same_own_reads plan queries head a b reads are same place query there step h)
      ∙ ap (λ (m : Bool). if m then at_line step number ++ block_of head plan query b (own b) (length (own b)) else []) (same_is_moved plan queries head a b reads are same place query there step h)

  pub same_blocks_at : (step : ℕ) → step ≤ length reads → blocks_at head plan queries a reads step ≡ blocks_at head plan queries b reads step
  same_blocks_at step h =
      numbered_same (block_at head plan a (places_read queries reads) step) (block_at head plan b (places_read queries reads) step) queries (λ place query there number. same_block step h place query there number) 1
