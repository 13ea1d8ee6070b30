-- The blocks that a session shows of a query are those of the query alone.
use Rattle.std.proofs.Common.{◌≡◌, ℕ, zero, suc, List, [], ◌∷◌, ◌++◌, length, refl, sym, ap, ◌∙◌, arith, if◌then◌else◌, append-nil, length-append, Option, Some, None}
use Rattle.std.specs.Option.{is_some, option_map_or}
use Rattle.daq_table.specs.Tables.{frame_of}
use Rattle.daq_table.specs.declared.table_head.Head.{Head}
use Rattle.multi_session.specs.Sessions.{awaited}
use Rattle.plane_schedule.specs.declared.policy.Plan.{Plan}
use Rattle.query_model.specs.Queries.{Query}
use Rattle.table_rounds.specs.Steps.{own_reads, plan_alone, stage_in}
use Rattle.std.specs.Prelude.{slice_index}
use Rattle.table_rounds.specs.Rounds.{Planes}
use Rattle.daq_cli.specs.Report.{block_of, blocks_below}
use Rattle.daq_cli.specs.SessionReport.{shown_of}
use Rattle.daq_cli.proofs.Blocks.{query_blocks_stay}
use Rattle.daq_cli.proofs.Reached.{same_below}

module _ (head : Head) (plan : Plan) (query : Query) (bits : Planes) where
  -- the policy of a plan shows in no block
  pub listed_alike : (list reads : List ℕ) (n : ℕ) → blocks_below (block_of head plan query bits) reads n ≡ blocks_below (block_of head (plan_alone plan list) query bits) reads n
  unfolding blocks_below
  listed_alike list reads zero = refl
  listed_alike list reads (suc n) = ap (λ l. l ++ block_of head plan query bits reads n) (listed_alike list reads n)

  -- one more read, or none: its block comes behind those before
  next_shown : (own : List ℕ) (o : Option ℕ) →
      blocks_below (block_of head plan query bits) own (suc (length own)) ++ (if is_some o then block_of head plan query bits (own ++ option_map_or (λ c. c ∷ []) o []) (length (own ++ option_map_or (λ c. c ∷ []) o [])) else [])
      ≡ blocks_below (block_of head plan query bits) (own ++ option_map_or (λ c. c ∷ []) o []) (suc (length (own ++ option_map_or (λ c. c ∷ []) o [])))
  unfolding blocks_below
  next_shown own None =
      append-nil (blocks_below (block_of head plan query bits) own (suc (length own)))
      ∙ ap (λ (l : List ℕ). blocks_below (block_of head plan query bits) l (suc (length l))) (sym (append-nil own))
  next_shown own (Some c) =
      let all = own ++ c ∷ [] in
      let long : length all ≡ suc (length own) = omega (arith, length-append own (c ∷ [])) in
      ap (λ l. l ++ block_of head plan query bits all (length all)) (sym (same_below (block_of head plan query bits) (block_of head plan query bits) all own (suc (length own)) (λ round h. query_blocks_stay head plan query bits own (c ∷ []) round (omega (arith, h)))) ∙ ap (blocks_below (block_of head plan query bits) all) (sym long))

  pub shown_alone : (places : List ℕ) (step : ℕ) →
      blocks_below (shown_of head plan bits query) places (suc step)
      ≡ blocks_below (block_of head plan query bits) (own_reads plan.near (frame_of head) bits places query step) (suc (length (own_reads plan.near (frame_of head) bits places query step)))
  unfolding blocks_below
  shown_alone places zero = refl
  shown_alone places (suc step) =
      let own = own_reads plan.near (frame_of head) bits places query step in
      let o = awaited plan.near (slice_index places step) (stage_in plan.near (frame_of head) bits places query step) in
      ap (λ l. l ++ (if is_some o then block_of head plan query bits (own ++ option_map_or (λ c. c ∷ []) o []) (length (own ++ option_map_or (λ c. c ∷ []) o [])) else [])) (shown_alone places step)
      ∙ next_shown own o
