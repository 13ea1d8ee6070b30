-- What is known of a column of the table by each query that awaits its next plane.
use Rattle.plane_schedule.specs.declared.policy.Nearness.{Nearness}
use Rattle.std.proofs.Common.{◌≡◌, ℕ, ◌<◌, ◌≤◌, Some, List, length, get_or, refl, sym, ap, ◌∙◌, subst, slice_get}
use Rattle.daq_table.specs.declared.table_head.Head.{Head}
use Rattle.daq_table.specs.declared.head.Ends.{Ends}
use Rattle.daq_table.specs.Tables.{Frame, ends_at, frame_of}
use Rattle.known_column.specs.Columns.{KnownColumn}
use Rattle.multi_session.specs.Members.{column_of}
use Rattle.multi_session.specs.Sessions.{Awaits, awaited, columns_named}
use Rattle.query_model.specs.Knowledge.{ColumnKnowledge}
use Rattle.query_model.specs.Projection.{projected_frame}
use Rattle.query_model.specs.Queries.{Query}
use Rattle.round_engine.specs.Stages.{Stage}
use Rattle.table_rounds.proofs.Own.{column_awaited}
use Rattle.table_rounds.proofs.Standing.{AreColumns, from_map, read_of_query}
use Rattle.table_rounds.specs.Steps.{own_reads, place_of, places_read, session_after, stage_in}
use Rattle.table_rounds.proofs.Reached.{columns_of_part, ends_there, known_there}
use Rattle.table_rounds.specs.Courses.{number_after}
use Rattle.table_rounds.specs.Rounds.{Planes, counts_after, prefixes_by}

module _ (near : Nearness) (queries : List Query) (head : Head) (bits : Planes) where
  abbrev frame : Frame
  frame = frame_of head

  abbrev stage : List ℕ → ℕ → Query → Stage
  stage reads n query = stage_in near frame bits (places_read queries reads) query n

  -- after so many planes of the column
  abbrev planes_known : ℕ → ℕ → ColumnKnowledge
  planes_known place number = record { read = number; prefixes = prefixes_by frame.rows (bits place) number }

  abbrev pub told : List ℕ → ℕ → ℕ → KnownColumn
  told reads n column = record { ends = ends_at frame (place_of queries column); known = planes_known (place_of queries column) (number_after reads n column) }

  told_query : (reads : List ℕ) (n column own : ℕ) (query : Query) → n ≤ length reads → AreColumns queries reads → column < length (columns_named queries) →
      awaited near (place_of queries column) (stage reads n query) ≡ Some own → column_of (stage reads n query) own ≡ told reads n column
  told_query reads n column own query h are inside waits =
      let place = place_of queries column in
      let mine = own_reads near frame bits (places_read queries reads) query n in
      let counts = counts_after query mine (length mine) in
      let (below, there) = column_awaited near query frame bits place (stage reads n query) own refl waits in
      let known = known_there query frame bits counts own below in
      let number : get_or counts own 0 ≡ number_after reads n column =
      sym (ap (λ k. k.read) known) ∙ read_of_query near queries head bits reads n column own query h are inside waits in
      let ends : ends_at (projected_frame query frame) own ≡ ends_at frame place = sym (ends_there query frame own below) ∙ ap (ends_at frame) there in
      let with_known : ColumnKnowledge → KnownColumn = λ k. record { ends = ends_at (projected_frame query frame) own; known = k } in
      let with_ends : Ends → KnownColumn = λ e. record { ends = e; known = planes_known place (number_after reads n column) } in
      ap with_known known
      ∙ ap (λ p. with_known (planes_known p (get_or counts own 0))) there
      ∙ ap (λ m. with_known (planes_known place m)) number
      ∙ ap with_ends ends

  pub told_of : (reads : List ℕ) (n column : ℕ) (s : Stage) (own : ℕ) → n ≤ length reads → AreColumns queries reads → column < length (columns_named queries) →
      Awaits (session_after near queries head bits reads n) column s own → column_of s own ≡ told reads n column
  told_of reads n column s own h are inside w =
      let (query, at, is) = from_map (stage reads n) queries w.query s w.there in
      subst (λ t. column_of t own ≡ told reads n column) is
      (told_query reads n column own query h are inside (subst (λ t. awaited near (place_of queries column) t ≡ Some own) (sym is) w.reads))

  -- as many rows, and a column for each of the query's
  pub shape_of : (reads : List ℕ) (n k : ℕ) (s : Stage) → slice_get (session_after near queries head bits reads n).stages k ≡ Some s →
      (s.frame.rows ≡ frame.rows) × (length s.frame.columns ≡ length s.query.columns)
  shape_of reads n k s there =
      let (query, at, is) = from_map (stage reads n) queries k s there in
      subst (λ (t : Stage). (t.frame.rows ≡ frame.rows) × (length t.frame.columns ≡ length t.query.columns)) is (refl, columns_of_part query frame)
