-- What becomes of the rounds over the planes of a table: no plane is refused, so what is written is the report or a part of it.
use Rattle.std.proofs.Common.{◌≡◌, ◌⊎◌, ℕ, ◌+◌, List, [], ◌∷◌, ◌++◌, length, refl, sym, ap, ◌∙◌, subst, arith, inl, inr, Option, Result, Ok, Err, IsNone, IsSome, append-nil, append_assoc, length-append}
use Rattle.std.proofs.lemmas.Bool.{cases_Bool}
use Rattle.std.proofs.lemmas.List.{length-map}
use Rattle.std.specs.Option.{is_some}
use Rattle.daq_table.specs.Tables.{Cells, Frame, IsTable, ends_at, frame_of}
use Rattle.daq_table.specs.declared.table_head.Head.{Head}
use Rattle.outer_world.proofs.Writes.{writes_cut}
use Rattle.outer_world.specs.Device.{SinkState}
use Rattle.outer_world.specs.Whole.{Writes}
use Rattle.plane_schedule.specs.Plans.{IsReadable}
use Rattle.plane_schedule.specs.declared.policy.Plan.{Plan}
use Rattle.query_model.specs.Knowledge.{bit_at, plane_of}
use Rattle.query_model.specs.Projection.{projected_frame}
use Rattle.query_model.specs.Worlds.{NamesColumns}
use Rattle.query_model.specs.declared.query.TypedQuery.{TypedQuery}
use Rattle.table_rounds.specs.Headline.{RoundsHaveAnEnd, TablesAreTaken}
use Rattle.table_rounds.specs.Courses.{IsRefused}
use Rattle.table_rounds.specs.Rounds.{AreAllRounds, HaveRows, Planes, ending_at, rounds_of, stage_after}
use Rattle.plane_course.specs.declared.reading.StepFault.{StepFault}
use Rattle.plane_course.specs.declared.reading.StepFault.TheVariants.{OverTop}
use Rattle.daq_cli.specs.Report.{CausesAfter, EndsRounds, Fails, Finishes, Seen, Shown, Stops, WritesRounds, blocks_below, end_line, last_text, rounds_text, shown_rounds}
use Rattle.daq_cli.specs.Worlds.{partly, whole}
use Rattle.daq_cli.specs.declared.stop.Stop.{Stop}
use Rattle.daq_cli.specs.declared.stop.Stop.TheVariants.{Failed, Step}
use Rattle.daq_cli.proofs.Blocks.{blocks_rest, query_blocks_stay}
use Rattle.daq_cli.proofs.Reached.{Stay, next_block, no_line, part_of_text, same_below}

pub rows_of_table : (frame : Frame) (cells : Cells) → IsTable frame cells → HaveRows frame (plane_of frame cells)
rows_of_table frame cells table column number h k = length-map _ (bit_at (ends_at frame column) number) ∙ table.rows column h

module _ (line : List ℕ) (shown : Shown) (stay : Stay shown.block) where
  -- where they do not end, the text of rounds begins that of more rounds
  goes_on : (reads rest : List ℕ) → IsNone (shown.course.ending reads (length reads)) → (more : List ℕ) × (line ++ rounds_text shown (reads ++ rest) ≡ (line ++ rounds_text shown reads) ++ more)
  goes_on reads [] going = ([], ap (λ l. line ++ rounds_text shown l) (append-nil reads) ∙ sym (append-nil (line ++ rounds_text shown reads)))
  goes_on reads (c ∷ rest) going =
      let all = reads ++ c ∷ rest in
      let n = length reads in
      let long : length all ≡ n + length (c ∷ rest) = length-append reads (c ∷ rest) in
      let (between, whole_is) = blocks_rest shown.block all (n + 1) (length all) (omega (arith, long)) in
      let before = blocks_below shown.block reads n in
      let block = shown.block reads n in
      let last = last_text shown all in
      let first : blocks_below shown.block all (n + 1) ≡ before ++ block =
      same_below shown.block shown.block all reads (n + 1) (λ round h. stay reads (c ∷ rest) round (omega (arith, h))) ∙ next_block shown.block reads n in
      let end : block ++ end_line (shown.course.ending reads n) ≡ block = ap (λ l. block ++ l) (no_line (shown.course.ending reads n) going) ∙ append-nil block in (
        between ++ last,
        ap (λ l. line ++ (l ++ last)) (whole_is ∙ ap (λ l. l ++ between) first)
            ∙ ap (λ l. line ++ l) (append_assoc (before ++ block) between last)
            ∙ sym (append_assoc line (before ++ block) (between ++ last))
            ∙ sym (ap (λ l. (line ++ (before ++ l)) ++ (between ++ last)) end),
      )

module _ (line : List ℕ) (head : Head) (plan : Plan) (query : TypedQuery) (cells : Cells) (seen : Seen) (named : NamesColumns query (frame_of head)) (table : IsTable (frame_of head) cells) (taken : TablesAreTaken) where
  abbrev bits : Planes
  bits = plane_of (frame_of head) cells

  pub is_whole : (old new : SinkState) (from to : Option (List ℕ)) → Finishes line (shown_rounds head plan query bits) seen old new from to →
      WritesRounds (λ reads. line ++ rounds_text (shown_rounds head plan query bits) reads) head plan query bits whole old new
  is_whole old new from to all = record { reads = all.reads; rounds = all.rounds; written = all.written }

  -- a part of the text of some rounds is a part of that of all
  pub in_part : RoundsHaveAnEnd → IsReadable plan.policy (projected_frame query (frame_of head)) → (old new : SinkState) (from to : Option (List ℕ)) →
      Fails line (shown_rounds head plan query bits) seen old new from to → WritesRounds (λ reads. line ++ rounds_text (shown_rounds head plan query bits) reads) head plan query bits partly old new
  in_part ends readable old new from to fails =
      by (cases_Bool (is_some (ending_at plan (stage_after query (frame_of head) bits fails.reads (length fails.reads)))))
    where
      written : Writes partly old new (line ++ rounds_text (shown_rounds head plan query bits) fails.reads)
      written = part_of_text (shown_rounds head plan query bits) seen line fails.reads old new fails.written

      to_end : IsNone (ending_at plan (stage_after query (frame_of head) bits fails.reads (length fails.reads))) → (rest : List ℕ) →
          (AreAllRounds plan query (frame_of head) bits (fails.reads ++ rest) ⊎ ((column plane row : ℕ) × IsRefused (rounds_of plan query (frame_of head) bits) (fails.reads ++ rest) column plane row)) →
          WritesRounds (λ reads. line ++ rounds_text (shown_rounds head plan query bits) reads) head plan query bits partly old new
      to_end going rest (inl all) =
          let (more, same) = goes_on line (shown_rounds head plan query bits) (query_blocks_stay head plan query bits) fails.reads rest going in
          record { reads = fails.reads ++ rest; rounds = all; written = subst (Writes partly old new) (sym same) (writes_cut tt partly old new _ more refl written) }
      to_end going rest (inr (column, plane, row, refused)) = absurd (taken plan query (frame_of head) cells (fails.reads ++ rest) column plane row named table refused)

      by : (IsSome (ending_at plan (stage_after query (frame_of head) bits fails.reads (length fails.reads))) ⊎ IsNone (ending_at plan (stage_after query (frame_of head) bits fails.reads (length fails.reads)))) →
          WritesRounds (λ reads. line ++ rounds_text (shown_rounds head plan query bits) reads) head plan query bits partly old new
      by (inl ended) = record { reads = fails.reads; rounds = record { rounds = fails.rounds; ended = ended }; written = written }
      by (inr going) =
          let (rest, end) = ends plan query (frame_of head) bits fails.reads named (rows_of_table (frame_of head) cells table) readable fails.rounds in
          to_end going rest end

  -- no plane is refused
  pub never_refused : {E : Type 0} (causes : CausesAfter E) (column plane row : ℕ) (old new : SinkState) (from to : Option (List ℕ)) →
      Stops {E = E} line (shown_rounds head plan query bits) seen causes (OverTop column plane row) old new from to → ⊥
  never_refused causes column plane row old new from to stops = taken plan query (frame_of head) cells stops.reads column plane row named table stops.stop.0

-- what is said of a result that is this one
module _ {E : Type 0} (line : List ℕ) (head : Head) (plan : Plan) (query : TypedQuery) (bits : Planes) (seen : Seen) (causes : CausesAfter E) (result : Result (Unit {0}) (Stop E))
    (old new : SinkState) (from to : Option (List ℕ)) (ends : EndsRounds line (shown_rounds head plan query bits) seen causes result old new from to) where
  pub finishes_of : {done : Unit {0}} → result ≡ Ok done → Finishes line (shown_rounds head plan query bits) seen old new from to
  finishes_of is = subst (λ r. EndsRounds line (shown_rounds head plan query bits) seen causes r old new from to) is ends

  pub fails_of : result ≡ Err Failed → Fails line (shown_rounds head plan query bits) seen old new from to
  fails_of is = subst (λ r. EndsRounds line (shown_rounds head plan query bits) seen causes r old new from to) is ends

  pub stops_of : (fault : StepFault E) → result ≡ Err (Step fault) → Stops line (shown_rounds head plan query bits) seen causes fault old new from to
  stops_of fault is = subst (λ r. EndsRounds line (shown_rounds head plan query bits) seen causes r old new from to) is ends
