-- Nothing read is round 0.
use Rattle.std.proofs.Common.{◌≡◌, ◌<◌, [], length, get_or, sym, ap, ◌∙◌, subst, arith, replicate}
use Rattle.std.proofs.lemmas.List.{length-map, get_or-map, same_lists, get_or_default}
use Rattle.std.proofs.lemmas.List.FromFn.{length-map-range_with_len}
use Rattle.daq_table.specs.Tables.{Frame, frame_of, no_ends}
use Rattle.daq_table.specs.declared.head.Ends.{Ends}
use Rattle.query_model.specs.Knowledge.{ColumnKnowledge, IsKnowledge, start}
use Rattle.query_model.specs.Laws.{StartIsKnowledge}
use Rattle.table_rounds.specs.Headline.{RoundsBegin}
use Rattle.table_rounds.specs.Rounds.{counts_after, prefixes_by, stage_after}
use Rattle.table_rounds.proofs.Counts.{count_there}
use Rattle.table_rounds.proofs.Reached.{columns_of_part, known_there, part_of}

pub rounds_begin : StartIsKnowledge → RoundsBegin
rounds_begin start_is plan query head bits = record {
  rounds = record {
    going = λ round h. absurd (omega arith);
    chosen = λ round h. absurd (omega arith);
    legal = λ round h. (let none : 0 ≡ round = omega (arith, h) in
        subst (λ n. IsKnowledge (part_of query (frame_of head)) (stage_after query (frame_of head) bits [] n).known) none
        (subst (IsKnowledge (part_of query (frame_of head))) begun (start_is (part_of query (frame_of head)))));
  };
  known = ap (λ known. record { query = query; frame = part_of query (frame_of head); known = known }) begun;
}
  where
    frame : Frame
    frame = frame_of head

    begun : start (part_of query frame) ≡ (stage_after query frame bits [] 0).known
    begun =
        let rule : Ends → ColumnKnowledge = λ _. record { read = 0; prefixes = replicate frame.rows 0 } in
        let known = (stage_after query frame bits [] 0).known in
        let long : length (start (part_of query frame)) ≡ length query.columns = length-map (part_of query frame).columns rule ∙ columns_of_part query frame in
        let long' : length known ≡ length query.columns = length-map-range_with_len _ 0 (length query.columns) in
        same_lists (start (part_of query frame)) known (long ∙ sym long') (λ c d h.
        let inside : c < length query.columns = subst (λ n. c < n) long h in
        let nothing : ColumnKnowledge = record { read = 0; prefixes = [] } in
        get_or-map rule (part_of query frame).columns c no_ends d (subst (λ n. c < n) (sym (columns_of_part query frame)) inside)
        ∙ ap (λ n. record { read = n; prefixes = prefixes_by frame.rows (bits (get_or query.columns c 0)) n }) (sym (count_there query [] 0 c 0 inside))
        ∙ sym (known_there query frame bits (counts_after query [] 0) c inside)
        ∙ get_or_default known c nothing d (subst (λ n. c < n) (sym long') inside))
