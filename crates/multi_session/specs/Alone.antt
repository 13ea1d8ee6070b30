-- A query of a session alone: where it stands depends on the planes of its own reads, whatever other queries there are.
use Rattle.plane_schedule.specs.declared.policy.Nearness.{Nearness}
use Rattle.std.specs.Prelude.{◌≡◌, List, [], ◌∷◌, length, map, if◌then◌else◌}
use Rattle.std.specs.List.{filter_map}
use Rattle.std.specs.Prelude.{option_map}
use Rattle.std.specs.declared.option.Option.{Option}
use Rattle.daq_table.specs.declared.table_head.Head.{Head}
use Rattle.query_model.specs.Queries.{Query}
use Rattle.round_engine.specs.Narrowness.{is_narrow}
use Rattle.round_engine.specs.Progresses.{Step, known_after}
use Rattle.round_engine.specs.Stages.{Stage, opened, stepped}
use Rattle.multi_session.specs.Sessions.{Session, own_column}

-- a step of a session over a column of the table, as one over the query's own column
abbrev pub own_step : Query → Step → Option Step
own_step query step = option_map (λ c. record { column = c; bits = step.bits }) (own_column query step.column)

-- the steps over the query's columns, in order
abbrev pub own_steps : Query → List Step → List Step
own_steps query steps = filter_map (own_step query) steps

-- those up to the first narrow round
abbrev pub until_narrow : Nearness → Stage → List Step → List Step
until_narrow near stage [] = []
until_narrow near stage (step ∷ steps) =
    if is_narrow near stage then [] else step ∷ until_narrow near (stepped stage step.column step.bits) steps

-- the query's own reads among those of the session: those of its columns up to its first narrow round. It would read these if it were
-- asked alone, so what is known of it is said without the other queries
abbrev pub own_reads : Nearness → Head → List Step → Query → List Step
own_reads near head steps query = until_narrow near (opened query head) (own_steps query steps)

-- a stage after some planes, in order
abbrev pub stage_after : Stage → List Step → Stage
stage_after stage steps = record { query = stage.query; frame = stage.frame; known = known_after stage.known steps }

-- the query alone, after the planes of its own reads
abbrev pub alone : Nearness → Head → List Step → Query → Stage
alone near head steps query = stage_after (opened query head) (own_reads near head steps query)

-- the session stands for these steps over a table with that head: each of its queries stands where it would alone
pub record StandsFor (queries : List Query) (head : Head) (steps : List Step) (s : Session) : Type 0 where
  pub stages : s.stages ≡ map (alone s.near head steps) queries
  pub count : s.steps ≡ length steps
