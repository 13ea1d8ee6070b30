-- Round by round, the blocks are those of the course, and the places those of its planes.
use Rattle.std.proofs.Common.{◌≡◌, ℕ, ◌<◌, ◌≤◌, ◌++◌, ◌∷◌, List, [], length, refl, sym, ap, ◌∙◌, subst, arith, IsNone}
use Rattle.std.proofs.lemmas.Result.{err_from_is_err_and}
use Rattle.std.specs.Io.KnownBytes.{Appends}
use Rattle.daq_table.specs.declared.table_head.Head.{Head}
use Rattle.plane_course.specs.Sources.{IsPlane, StopsAt, StopsNext, ToldPlanes}
use Rattle.plane_schedule.proofs.Same.{choice_is_unread}
use Rattle.plane_schedule.specs.Choices.{Outlook}
use Rattle.table_rounds.specs.Courses.{HaveSameRead, IsOpen, number_after}
use Rattle.table_rounds.specs.Rounds.{Planes}
use Rattle.daq_cli.specs.Report.{FailsSince, seen_by, shown_by}
use Rattle.daq_cli.specs.Worlds.{partly, whole}
use Rattle.daq_cli.proofs.Loops.{all_some, as_partly, as_whole, if_both, if_some}
use Rattle.daq_cli.proofs.Reached.{Reached, Stay, all_written, block_in_part, first_reached, line_in_part, next_reached, open_after, refused_before, stopped, stops_since}
use Rattle.daq_cli.proofs.ReachedSome.{Wrote, block_part_some, first_some, line_part_some, next_some, stopped_some, written_some}
use Rattle.daq_cli.proofs.StopCauses.{step_failed, write_failed}
use Rattle.daq_cli.proofs.course_report.write_course.Goals as goal

pub rounds-init : goal.rounds-init
rounds-init g c =
    let told = g.S.PlaneSource.told c.args.source.now in
    let first = c.args.running.now in
    let plan = c.args.plan.now in
    let shown = shown_by (g.R.Running.course first plan told.head) (g.R.Shows.block first plan told.head) in
    let are : (bits : Planes) → _ = λ bits. g.met.R.Running.are_reads first first plan told.head bits [] (c.requires.begun bits) in
    record {
      reached = all_some told.bits _ (λ bits. first_reached (shown bits) (seen_by (g.S.PlaneSource.places c.args.source.now) (g.S.PlaneSource.shows c.args.source.now)) (g.R.Running.after first first plan told.head bits)
          (g.K.Sink.state c.args.out.now) (g.S.PlaneSource.handed c.args.source.now) (are bits) (c.requires.begun bits));
      some = first_some shown (g.R.Running.after first first plan told.head) (g.K.Sink.state c.args.out.now) are c.requires.begun;
      told = refl;
      places = refl;
      ready = c.requires.ready;
      since = g.met.S.PlaneSource.since_itself c.args.source.now;
      later = omega arith;
      fits = c.requires.fits;
      follow = c.requires.follow;
      rows = c.requires.rows;
      last = tt;
    }

-- ---- over planes that are told

pub returns-in_err-write_block-clause-ends : goal.returns-in_err-write_block-clause-ends
returns-in_err-write_block-clause-ends g c =
    let told = g.S.PlaneSource.told c.args.source.now in
    let first = c.args.running.now in
    let plan = c.args.plan.now in
    let shown = shown_by (g.R.Running.course first plan told.head) (g.R.Shows.block first plan told.head) in
    let after = g.R.Running.after first c.rounds.running plan told.head in
    let head_is = c.head.ensures.head ∙ ap (λ t. t.head) c.rounds.invariant.told in
    let seen = seen_by (g.S.PlaneSource.places c.args.source.now) (g.S.PlaneSource.shows c.args.source.now) in
    let old = g.K.Sink.state c.args.out.now in
    let mid = g.K.Sink.state c.rounds.out in
    let now = g.K.Sink.state c.write_block.new.out in
    let from = g.S.PlaneSource.handed c.args.source.now in
    let at = g.S.PlaneSource.handed c.rounds.source in
    let wrote = subst (λ (h : Head). Wrote (shown_by (g.R.Running.course first plan h) (g.R.Shows.block first plan h)) (g.R.Running.after first c.rounds.running plan h) c.rounds.last partly mid now) head_is
    (λ bits reads there is. as_partly _ _ _ _ (c.in_err-write_block.ensures.block first bits reads there is)) in
    let p = err_from_is_err_and c.from_residual.result c.from_residual.ensures.1 in
    rw (p.1, p.2) (if_some told.bits _ _ (λ bits r. block_in_part (shown bits) seen (after bits) c.rounds.last old mid now from at r (wrote bits r.reads r.after r.last_is)) c.rounds.invariant.reached)

pub returns-in_err-write_ending-in-Some-clause-ends : goal.returns-in_err-write_ending-in-Some-clause-ends
returns-in_err-write_ending-in-Some-clause-ends g c =
    let told = g.S.PlaneSource.told c.args.source.now in
    let first = c.args.running.now in
    let plan = c.args.plan.now in
    let shown = shown_by (g.R.Running.course first plan told.head) (g.R.Shows.block first plan told.head) in
    let after = g.R.Running.after first c.rounds.running plan told.head in
    let head_is = c.head.ensures.head ∙ ap (λ t. t.head) c.rounds.invariant.told in
    let seen = seen_by (g.S.PlaneSource.places c.args.source.now) (g.S.PlaneSource.shows c.args.source.now) in
    let old = g.K.Sink.state c.args.out.now in
    let mid = g.K.Sink.state c.rounds.out in
    let now = g.K.Sink.state c.write_block.new.out in
    let from = g.S.PlaneSource.handed c.args.source.now in
    let at = g.S.PlaneSource.handed c.rounds.source in
    let wrote = subst (λ (h : Head). Wrote (shown_by (g.R.Running.course first plan h) (g.R.Shows.block first plan h)) (g.R.Running.after first c.rounds.running plan h) c.rounds.last whole mid now) head_is
    (λ bits reads there is. as_whole _ _ _ _ (c.in_ok-write_block.ensures.block first bits reads there is)) in
    let p = err_from_is_err_and c.from_residual-in_err-write_ending-in-Some.result c.from_residual-in_err-write_ending-in-Some.ensures.1 in
    rw (p.1, p.2) (if_some told.bits _ _
    (λ bits r. line_in_part (shown bits) seen (after bits) c.rounds.last old mid now from at r (wrote bits r.reads r.after r.last_is) c.in-Some.why (g.K.Sink.state c.write_ending.new.out) (sym (c.in-Some.ensures.ending first told.head bits r.reads r.after))
    (as_partly _ _ _ _ c.in_err-write_ending-in-Some.ensures))
    c.rounds.invariant.reached)

pub returns-in-Some-clause-ends : goal.returns-in-Some-clause-ends
returns-in-Some-clause-ends g c =
    let told = g.S.PlaneSource.told c.args.source.now in
    let first = c.args.running.now in
    let plan = c.args.plan.now in
    let shown = shown_by (g.R.Running.course first plan told.head) (g.R.Shows.block first plan told.head) in
    let after = g.R.Running.after first c.rounds.running plan told.head in
    let head_is = c.head.ensures.head ∙ ap (λ t. t.head) c.rounds.invariant.told in
    let seen = seen_by (g.S.PlaneSource.places c.args.source.now) (g.S.PlaneSource.shows c.args.source.now) in
    let old = g.K.Sink.state c.args.out.now in
    let mid = g.K.Sink.state c.rounds.out in
    let now = g.K.Sink.state c.write_block.new.out in
    let from = g.S.PlaneSource.handed c.args.source.now in
    let at = g.S.PlaneSource.handed c.rounds.source in
    let wrote = subst (λ (h : Head). Wrote (shown_by (g.R.Running.course first plan h) (g.R.Shows.block first plan h)) (g.R.Running.after first c.rounds.running plan h) c.rounds.last whole mid now) head_is
    (λ bits reads there is. as_whole _ _ _ _ (c.in_ok-write_block.ensures.block first bits reads there is)) in
    if_some told.bits _ _
    (λ bits r. all_written (shown bits) seen (after bits) c.rounds.last old mid now from at r (wrote bits r.reads r.after r.last_is) c.in-Some.why (g.K.Sink.state c.write_ending.new.out) (sym (c.in-Some.ensures.ending first told.head bits r.reads r.after))
    (as_whole _ _ _ _ c.in_ok-write_ending-in-Some.ensures))
    c.rounds.invariant.reached

pub returns-in_err-read_next-in-None-clause-ends : goal.returns-in_err-read_next-in-None-clause-ends
returns-in_err-read_next-in-None-clause-ends g c =
    let told = g.S.PlaneSource.told c.args.source.now in
    let first = c.args.running.now in
    let plan = c.args.plan.now in
    let shown = shown_by (g.R.Running.course first plan told.head) (g.R.Shows.block first plan told.head) in
    let after = g.R.Running.after first c.rounds.running plan told.head in
    let head_is = c.head.ensures.head ∙ ap (λ t. t.head) c.rounds.invariant.told in
    let seen = seen_by (g.S.PlaneSource.places c.args.source.now) (g.S.PlaneSource.shows c.args.source.now) in
    let old = g.K.Sink.state c.args.out.now in
    let mid = g.K.Sink.state c.rounds.out in
    let now = g.K.Sink.state c.write_block.new.out in
    let from = g.S.PlaneSource.handed c.args.source.now in
    let at = g.S.PlaneSource.handed c.rounds.source in
    let wrote = subst (λ (h : Head). Wrote (shown_by (g.R.Running.course first plan h) (g.R.Shows.block first plan h)) (g.R.Running.after first c.rounds.running plan h) c.rounds.last whole mid now) head_is
    (λ bits reads there is. as_whole _ _ _ _ (c.in_ok-write_block.ensures.block first bits reads there is)) in
    let open_there : (bits : Planes) (reads : List ℕ) → after bits reads → IsOpen ((shown bits).course) reads =
    λ bits reads there. open_after (shown bits).course plan.policy (g.R.Running.outlook c.rounds.running) reads (g.met.R.Running.by_policy first plan told.head bits)
    (g.met.R.Running.sees first c.rounds.running plan told.head bits reads there) (c.in-None.ensures.ending first told.head bits reads there)
    (c.in-None.ensures.choice first told.head bits reads c.rounds.invariant.fits there) in
    let p = err_from_is_err_and c.from_residual-in_err-read_next-in-None.result c.from_residual-in_err-read_next-in-None.ensures.1 in
    let places = g.S.PlaneSource.places c.args.source.now in
    let shows = g.S.PlaneSource.shows c.args.source.now in
    let fault = c.in_err-read_next-in-None.field-0.0 in
    let to = g.S.PlaneSource.handed c.read_next.new.source in
    let fails = g.S.PlaneSource.fails c.rounds.source c.read_next.new.source in
    let causes = FailsSince g.S.PlaneSource.handed g.S.PlaneSource.since g.S.PlaneSource.fails c.args.source.now c.read_next.new.source in
    let stops = subst (λ (t : ToldPlanes). StopsNext (g.R.Running.course first plan t.head) (g.R.Running.after first c.rounds.running plan t.head) t.bits places fails at to fault) c.rounds.invariant.told
    (subst (λ ps. StopsNext (g.R.Running.course first plan (g.S.PlaneSource.told c.rounds.source).head) (g.R.Running.after first c.rounds.running plan (g.S.PlaneSource.told c.rounds.source).head) (g.S.PlaneSource.told c.rounds.source).bits ps fails at to fault)
    c.rounds.invariant.places (c.in_err-read_next-in-None.ensures.stops first plan c.requires.follows)) in
    rw (p.1, p.2) (if_both told.bits (λ bits. Reached (shown bits) seen (after bits) c.rounds.last old mid from at)
    (λ bits. (reads : List ℕ) → after bits reads → IsOpen (shown bits).course reads → (handed : List ℕ) × StopsAt (shown bits).course places fails reads fault handed × Appends at to handed) _
    (λ bits r stop.
    let (handed, stops_at, grown) = stop r.reads r.after (open_there bits r.reads r.after) in
    stopped (shown bits) seen (after bits) c.rounds.last old mid now from at r (wrote bits r.reads r.after r.last_is) (open_there bits r.reads r.after).going causes fault to
    (handed, stops_since (shown bits).course places fails (causes at) fault (λ column number error failed. (c.rounds.source, c.rounds.invariant.since, refl, failed)) r.reads handed stops_at, grown)
    (refused_before fault (g.S.PlaneSource.shows c.rounds.source) shows (λ column number. g.met.S.PlaneSource.shows_before c.args.source.now c.rounds.source column number c.rounds.invariant.since)
    c.in_err-read_next-in-None.ensures.refused))
    c.rounds.invariant.reached stops)

pub rounds-preserved : goal.rounds-preserved
rounds-preserved g c =
    let told = g.S.PlaneSource.told c.args.source.now in
    let first = c.args.running.now in
    let plan = c.args.plan.now in
    let shown = shown_by (g.R.Running.course first plan told.head) (g.R.Shows.block first plan told.head) in
    let after = g.R.Running.after first c.rounds.running plan told.head in
    let head_is = c.head.ensures.head ∙ ap (λ t. t.head) c.rounds.invariant.told in
    let seen = seen_by (g.S.PlaneSource.places c.args.source.now) (g.S.PlaneSource.shows c.args.source.now) in
    let old = g.K.Sink.state c.args.out.now in
    let mid = g.K.Sink.state c.rounds.out in
    let now = g.K.Sink.state c.write_block.new.out in
    let from = g.S.PlaneSource.handed c.args.source.now in
    let at = g.S.PlaneSource.handed c.rounds.source in
    let wrote = subst (λ (h : Head). Wrote (shown_by (g.R.Running.course first plan h) (g.R.Shows.block first plan h)) (g.R.Running.after first c.rounds.running plan h) c.rounds.last whole mid now) head_is
    (λ bits reads there is. as_whole _ _ _ _ (c.in_ok-write_block.ensures.block first bits reads there is)) in
    let open_there : (bits : Planes) (reads : List ℕ) → after bits reads → IsOpen ((shown bits).course) reads =
    λ bits reads there. open_after (shown bits).course plan.policy (g.R.Running.outlook c.rounds.running) reads (g.met.R.Running.by_policy first plan told.head bits)
    (g.met.R.Running.sees first c.rounds.running plan told.head bits reads there) (c.in-None.ensures.ending first told.head bits reads there)
    (c.in-None.ensures.choice first told.head bits reads c.rounds.invariant.fits there) in
    let places = g.S.PlaneSource.places c.args.source.now in
    let new = c.read_next.new.running in
    let column = c.in_ok-read_next-in-None.field-0 in
    let place = g.R.Running.place c.rounds.running column in
    let number = g.R.Running.number c.rounds.running column in
    let plane = c.read_next.new.plane in
    let to = g.S.PlaneSource.handed c.read_next.new.source in
    let unread = c.in_ok-read_next-in-None.ensures.unread in
    let Next = g.R.Running.after first new plan told.head in
    let stay = subst (λ (h : Head). (bits : Planes) → Stay (g.R.Shows.block first plan h bits)) head_is (λ bits. c.in_ok-write_block.ensures.stays first bits) in
    let place_is : (bits : Planes) (reads : List ℕ) → after bits reads → place ≡ (shown bits).course.place column = λ bits reads there. g.met.R.Running.place_is first c.rounds.running plan told.head bits reads column there in
    let number_is : (bits : Planes) (reads : List ℕ) → after bits reads → number ≡ number_after reads (length reads) column = λ bits reads there. g.met.R.Running.number_is first c.rounds.running plan told.head bits reads column there unread in
    let sees : (bits : Planes) (reads : List ℕ) → after bits reads → g.R.Running.outlook c.rounds.running ≡ (shown bits).course.outlook reads (length reads) = λ bits reads there. g.met.R.Running.sees first c.rounds.running plan told.head bits reads there in
    let is_plane = subst (λ (t : ToldPlanes). IsPlane t place number plane) c.rounds.invariant.told c.in_ok-read_next-in-None.ensures.bits in
    let next = subst (λ (t : ToldPlanes). (bits : Planes) (reads : List ℕ) → g.R.Running.after first c.rounds.running plan t.head bits reads → IsOpen (g.R.Running.course first plan t.head bits) reads → plane ≡ bits place number →
    g.R.Running.after first new plan t.head bits (reads ++ column ∷ [])) c.rounds.invariant.told (λ bits reads. c.in_ok-read_next-in-None.ensures.next first plan bits reads c.requires.follows) in
    let handed = subst (λ ps. Appends at to (ps place number)) c.rounds.invariant.places c.in_ok-read_next-in-None.ensures.handed in
    let here = g.met.S.PlaneSource.shows_before c.args.source.now c.rounds.source place number c.rounds.invariant.since c.in_ok-read_next-in-None.ensures.shown in
    let agree = subst (λ (h : Head). (a b : Planes) (reads : List ℕ) (round : ℕ) → g.R.Running.after first c.rounds.running plan h a reads → HaveSameRead (g.R.Running.course first plan h a) reads a b → round ≤ length reads →
    g.R.Shows.block first plan h a reads round ≡ g.R.Shows.block first plan h b reads round) head_is (c.in_ok-write_block.ensures.agrees first) in
    record {
      reached = if_both told.bits (λ bits. Reached (shown bits) seen (after bits) c.rounds.last old mid from at) (λ bits. plane ≡ bits place number) _
          (λ bits r is.
          let reads = r.reads in
          let further = next bits reads r.after (open_there bits reads r.after) is in
          next_reached (shown bits) seen (after bits) (Next bits) c.rounds.last column old mid now from at to (stay bits) r (wrote bits reads r.after r.last_is)
          (g.met.R.Running.are_reads first new plan told.head bits (reads ++ column ∷ []) further) further
          (subst (λ i. Appends at to (places i (number_after reads (length reads) column))) (place_is bits reads r.after) (subst (λ j. Appends at to (places place j)) (number_is bits reads r.after) handed))
          (subst (λ i. g.S.PlaneSource.shows c.args.source.now i (number_after reads (length reads) column)) (place_is bits reads r.after) (subst (g.S.PlaneSource.shows c.args.source.now place) (number_is bits reads r.after) here)))
          c.rounds.invariant.reached is_plane;
      some = next_some shown after c.rounds.last old mid now c.rounds.invariant.some wrote Next column place plane stay
          (λ bits reads there. g.met.R.Running.are_reads first new plan told.head bits reads there)
          (λ bits reads there. g.met.R.Running.are_reads first c.rounds.running plan told.head bits reads there)
          (λ bits reads there. subst (λ (o : Outlook). column < o.columns) (sees bits reads there) unread.column)
          (λ bits reads there d below same. g.met.R.Running.apart c.rounds.running told.head d column c.rounds.invariant.fits (subst (λ (o : Outlook). d < o.columns) (sym (sees bits reads there)) below) unread.column
          (g.met.R.Running.place_is first c.rounds.running plan told.head bits reads d there ∙ same ∙ sym (place_is bits reads there)))
          (λ bits reads there. sym (place_is bits reads there))
          (λ a b reads there same. g.met.R.Running.agrees first c.rounds.running plan told.head a b reads there same)
          agree
          (λ bits reads there is. next bits reads there (open_there bits reads there) (is ∙ ap (bits place) (sym (number_is bits reads there))));
      told = c.read_next.ensures.told ∙ c.rounds.invariant.told;
      places = c.read_next.ensures.places ∙ c.rounds.invariant.places;
      ready = c.read_next.ensures.ready;
      since = g.met.S.PlaneSource.since_both c.args.source.now c.rounds.source c.read_next.new.source c.rounds.invariant.since c.read_next.ensures.since;
      later = (let before = c.rounds.invariant.later in let after = c.in_ok-write_block.ensures.cause.later in omega (arith, before, after));
      fits = subst (λ (t : ToldPlanes). g.R.Running.fits new t.head) c.rounds.invariant.told c.read_next.ensures.fits;
      follow = c.read_next.ensures.follow plan c.rounds.invariant.follow;
      rows = c.read_next.ensures.long ∙ c.rounds.invariant.rows ∙ sym c.read_next.ensures.rows;
      last = subst (λ n. column < n) (sym c.read_next.ensures.columns) unread.column;
    }

-- ---- whatever is told

pub returns-in_err-write_block-clause-cause : goal.returns-in_err-write_block-clause-cause
returns-in_err-write_block-clause-cause g c =
    write_failed _ c.from_residual.result _ _ _ c.from_residual.ensures.1 c.rounds.invariant.later c.in_err-write_block.ensures.cause.failed

pub returns-in_err-write_ending-in-Some-clause-cause : goal.returns-in_err-write_ending-in-Some-clause-cause
returns-in_err-write_ending-in-Some-clause-cause g c =
    write_failed _ c.from_residual-in_err-write_ending-in-Some.result _ _ _ c.from_residual-in_err-write_ending-in-Some.ensures.1
    (omega (arith, c.rounds.invariant.later, c.in_ok-write_block.ensures.cause.later)) c.in_err-write_ending-in-Some.ensures.cause.failed

pub returns-in_err-read_next-in-None-clause-cause : goal.returns-in_err-read_next-in-None-clause-cause
returns-in_err-read_next-in-None-clause-cause g c =
    step_failed g.S.PlaneSource.handed g.S.PlaneSource.since g.S.PlaneSource.fails c.args.source.now c.rounds.source c.read_next.new.source c.in_err-read_next-in-None.field-0.0
    c.from_residual-in_err-read_next-in-None.result _ _ c.from_residual-in_err-read_next-in-None.ensures.1 c.rounds.invariant.since c.in_err-read_next-in-None.ensures.failed

pub returns-in_err-read_next-in-None-clause-since : goal.returns-in_err-read_next-in-None-clause-since
returns-in_err-read_next-in-None-clause-since g c =
    g.met.S.PlaneSource.since_both c.args.source.now c.rounds.source c.read_next.new.source c.rounds.invariant.since c.read_next.ensures.since

-- ---- what was written

pub returns-in_err-write_block-clause-written : goal.returns-in_err-write_block-clause-written
returns-in_err-write_block-clause-written g c =
    let told = g.S.PlaneSource.told c.args.source.now in
    let first = c.args.running.now in
    let plan = c.args.plan.now in
    let shown = shown_by (g.R.Running.course first plan told.head) (g.R.Shows.block first plan told.head) in
    let after = g.R.Running.after first c.rounds.running plan told.head in
    let head_is = c.head.ensures.head ∙ ap (λ t. t.head) c.rounds.invariant.told in
    let old = g.K.Sink.state c.args.out.now in
    let mid = g.K.Sink.state c.rounds.out in
    let now = g.K.Sink.state c.write_block.new.out in
    let wrote = subst (λ (h : Head). Wrote (shown_by (g.R.Running.course first plan h) (g.R.Shows.block first plan h)) (g.R.Running.after first c.rounds.running plan h) c.rounds.last partly mid now) head_is
    (λ bits reads there is. as_partly _ _ _ _ (c.in_err-write_block.ensures.block first bits reads there is)) in
    let p = err_from_is_err_and c.from_residual.result c.from_residual.ensures.1 in
    rw (p.1, p.2) (block_part_some shown after c.rounds.last old mid now c.rounds.invariant.some wrote)

pub returns-in_err-write_ending-in-Some-clause-written : goal.returns-in_err-write_ending-in-Some-clause-written
returns-in_err-write_ending-in-Some-clause-written g c =
    let told = g.S.PlaneSource.told c.args.source.now in
    let first = c.args.running.now in
    let plan = c.args.plan.now in
    let shown = shown_by (g.R.Running.course first plan told.head) (g.R.Shows.block first plan told.head) in
    let after = g.R.Running.after first c.rounds.running plan told.head in
    let head_is = c.head.ensures.head ∙ ap (λ t. t.head) c.rounds.invariant.told in
    let old = g.K.Sink.state c.args.out.now in
    let mid = g.K.Sink.state c.rounds.out in
    let now = g.K.Sink.state c.write_block.new.out in
    let wrote = subst (λ (h : Head). Wrote (shown_by (g.R.Running.course first plan h) (g.R.Shows.block first plan h)) (g.R.Running.after first c.rounds.running plan h) c.rounds.last whole mid now) head_is
    (λ bits reads there is. as_whole _ _ _ _ (c.in_ok-write_block.ensures.block first bits reads there is)) in
    let p = err_from_is_err_and c.from_residual-in_err-write_ending-in-Some.result c.from_residual-in_err-write_ending-in-Some.ensures.1 in
    let r = c.rounds.invariant.some in
    rw (p.1, p.2) (line_part_some shown after c.rounds.last old mid now r wrote c.in-Some.why (g.K.Sink.state c.write_ending.new.out) (sym (c.in-Some.ensures.ending first told.head r.bits r.reached.reads r.reached.after)) (as_partly _ _ _ _ c.in_err-write_ending-in-Some.ensures))

pub returns-in_err-read_next-in-None-clause-written : goal.returns-in_err-read_next-in-None-clause-written
returns-in_err-read_next-in-None-clause-written g c =
    let told = g.S.PlaneSource.told c.args.source.now in
    let first = c.args.running.now in
    let plan = c.args.plan.now in
    let shown = shown_by (g.R.Running.course first plan told.head) (g.R.Shows.block first plan told.head) in
    let after = g.R.Running.after first c.rounds.running plan told.head in
    let head_is = c.head.ensures.head ∙ ap (λ t. t.head) c.rounds.invariant.told in
    let old = g.K.Sink.state c.args.out.now in
    let mid = g.K.Sink.state c.rounds.out in
    let now = g.K.Sink.state c.write_block.new.out in
    let wrote = subst (λ (h : Head). Wrote (shown_by (g.R.Running.course first plan h) (g.R.Shows.block first plan h)) (g.R.Running.after first c.rounds.running plan h) c.rounds.last whole mid now) head_is
    (λ bits reads there is. as_whole _ _ _ _ (c.in_ok-write_block.ensures.block first bits reads there is)) in
    let p = err_from_is_err_and c.from_residual-in_err-read_next-in-None.result c.from_residual-in_err-read_next-in-None.ensures.1 in
    let r = c.rounds.invariant.some in
    rw (p.1, p.2) (stopped_some shown after c.rounds.last old mid now r wrote (subst IsNone (c.in-None.ensures.ending first told.head r.bits r.reached.reads r.reached.after) refl))

pub returns-in-Some-clause-written : goal.returns-in-Some-clause-written
returns-in-Some-clause-written g c =
    let told = g.S.PlaneSource.told c.args.source.now in
    let first = c.args.running.now in
    let plan = c.args.plan.now in
    let shown = shown_by (g.R.Running.course first plan told.head) (g.R.Shows.block first plan told.head) in
    let after = g.R.Running.after first c.rounds.running plan told.head in
    let head_is = c.head.ensures.head ∙ ap (λ t. t.head) c.rounds.invariant.told in
    let old = g.K.Sink.state c.args.out.now in
    let mid = g.K.Sink.state c.rounds.out in
    let now = g.K.Sink.state c.write_block.new.out in
    let wrote = subst (λ (h : Head). Wrote (shown_by (g.R.Running.course first plan h) (g.R.Shows.block first plan h)) (g.R.Running.after first c.rounds.running plan h) c.rounds.last whole mid now) head_is
    (λ bits reads there is. as_whole _ _ _ _ (c.in_ok-write_block.ensures.block first bits reads there is)) in
    let r = c.rounds.invariant.some in
    written_some shown after c.rounds.last old mid now r wrote c.in-Some.why (g.K.Sink.state c.write_ending.new.out) (sym (c.in-Some.ensures.ending first told.head r.bits r.reached.reads r.reached.after)) (as_whole _ _ _ _ c.in_ok-write_ending-in-Some.ensures)

-- ---- what is asked of a call

pub write_block-requires-clause-fits : goal.write_block-requires-clause-fits
write_block-requires-clause-fits g c = subst (g.R.Running.fits c.rounds.running) (sym (c.head.ensures.head ∙ ap (λ t. t.head) c.rounds.invariant.told)) c.rounds.invariant.fits

pub read_next-requires-clause-fits : goal.read_next-requires-clause-fits
read_next-requires-clause-fits g c = subst (g.R.Running.fits c.rounds.running) (sym (ap (λ t. t.head) c.rounds.invariant.told)) c.rounds.invariant.fits

pub read_next-requires-clause-unread : goal.read_next-requires-clause-unread
read_next-requires-clause-unread g c =
    let r = c.rounds.invariant.some in
    let (column, chosen) = c.in-None.ensures.choice c.args.running.now (g.S.PlaneSource.told c.args.source.now).head r.bits r.reached.reads c.rounds.invariant.fits r.reached.after in
    (column, choice_is_unread c.args.plan.now.policy (g.R.Running.outlook c.rounds.running) column chosen)
