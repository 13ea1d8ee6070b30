-- A run with a last round that is wanted is the run without it, cut there.
use Rattle.std.specs.Prelude.{◌≡◌, ℕ, ◌≤◌, List, length, take}
use Rattle.std.specs.declared.option.Option.{Option}
use Rattle.std.specs.declared.option.Option.TheVariants.{Some, None}
use Rattle.daq_report.specs.Blocks.{block_text}
use Rattle.daq_table.specs.Tables.{frame_of}
use Rattle.daq_table.specs.declared.table_head.Head.{Head}
use Rattle.plane_schedule.specs.declared.policy.Extras.{Extras}
use Rattle.plane_schedule.specs.declared.policy.Listing.{Listing}
use Rattle.plane_schedule.specs.declared.policy.Plan.{Plan}
use Rattle.query_model.specs.Queries.{Query}
use Rattle.table_rounds.specs.Rounds.{AreAllRounds, Planes, stage_after}

-- the plan with this number as that of the last round that is wanted
abbrev pub cut_at : ℕ → Plan → Plan
cut_at most plan = record { policy = plan.policy; near = plan.near; most = Some most; listing = plan.listing; extras = plan.extras }

-- of the reads of all rounds the first ones are those of the plan with a last round, and the blocks up to there are the same
pub record IsCut (most : ℕ) (plan : Plan) (query : Query) (head : Head) (bits : Planes) (reads : List ℕ) : Type 0 where
  pub rounds : AreAllRounds (cut_at most plan) query (frame_of head) bits (take most reads)
  pub blocks : (round : ℕ) → round ≤ most → round ≤ length reads → (listing : Listing) (extras : Extras) (last : Option ℕ) →
      block_text head listing extras (stage_after query (frame_of head) bits (take most reads) round) round last
      ≡ block_text head listing extras (stage_after query (frame_of head) bits reads round) round last

abbrev pub RoundsAreCut : Type 0
RoundsAreCut =
    (most : ℕ) (plan : Plan) (query : Query) (head : Head) (bits : Planes) (reads : List ℕ) → plan.most ≡ None →
    AreAllRounds plan query (frame_of head) bits reads → IsCut most plan query head bits reads
