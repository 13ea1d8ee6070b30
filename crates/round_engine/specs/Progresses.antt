-- How far an engine has come, as a choice of the next column sees it; and lists of steps.
use Rattle.std.specs.Prelude.{◌≡◌, ℕ, ◌+◌, ◌<◌, ◌==◌, ◌||◌, Bool, false, List, [], ◌∷◌}
use Rattle.std.specs.Prelude.{length, map, slice_get, slice_index, count_by, if◌then◌else◌}
use Rattle.std.specs.declared.option.Option.TheVariants.{Some}
use Rattle.std.specs.List.{filter_map, list_any, sum}
use Rattle.std.specs.declared.option.Option.TheVariants as option
use Rattle.daq_table.specs.Tables.{ends_at, planes, rows_of}
use Rattle.kleene_filter.specs.Filters.{is_possible, is_unknown, stands_in}
use Rattle.query_model.specs.Queries.{Query}
use Rattle.query_model.specs.Answers.{groups_of}
use Rattle.query_model.specs.Knowledge.{Knowledge, known_at, ranges_of, taken}
use Rattle.query_model.specs.Meaning.{columns_of, columns_of_pred}
use Rattle.query_model.specs.Truths.{truth_of}
use Rattle.query_model.specs.declared.query.Shape.{Shape}
use Rattle.query_model.specs.declared.query.Shape.TheVariants.{Plain, Grouped, Top}
use Rattle.plane_schedule.specs.Choices.{IsSound}
use Rattle.plane_schedule.specs.declared.progress.Progress.{Progress}
use Rattle.plane_schedule.specs.declared.progress.Role.{Role}
use Rattle.plane_schedule.specs.declared.progress.Role.TheVariants.{Filter, Group, Value}
use Rattle.round_engine.specs.Stages.{Stage}

-- what a column is read for: the condition, else the groups, else values
abbrev pub role_of : Query → ℕ → Role
role_of query c =
    if stands_in (columns_of_pred query.pred) c then Filter else (if stands_in (groups_of query.shape) c then Group else Value)

-- the rows are in the order of this column
abbrev pub orders_by : Shape → ℕ → Bool
orders_by Plain c = false
orders_by (Grouped columns) c = false
orders_by (Top key down limit) c = key == c

-- an argument of an aggregate names the column
abbrev pub is_argument : Query → ℕ → Bool
is_argument query c = list_any (λ item. stands_in (columns_of item.arg) c) query.items

-- the column gives values: an argument names it, or the rows are in its order
abbrev pub gives_values : Query → ℕ → Bool
gives_values query c = is_argument query c || orders_by query.shape c

-- at how many rows it is not known whether the condition holds
abbrev pub unknown_rows : Stage → ℕ
unknown_rows stage = count_by (λ r. is_unknown (truth_of stage.query.pred (ranges_of stage.frame stage.known r))) (rows_of stage.frame)

-- at how many rows it may hold
abbrev pub possible_rows : Stage → ℕ
possible_rows stage = count_by (λ r. is_possible (truth_of stage.query.pred (ranges_of stage.frame stage.known r))) (rows_of stage.frame)

-- how many planes of a column were taken
abbrev pub taken_of : Stage → ℕ → ℕ
taken_of stage c = (known_at stage.known c).read

-- how many planes were read, of all columns: one in each step
abbrev pub planes_read : Knowledge → ℕ
planes_read known = sum (map (λ column. column.read) known)

-- the progress of a stage
pub record IsProgress (stage : Stage) (p : Progress) : Type 0 where
  pub sound : IsSound p
  pub columns : p.columns ≡ length stage.frame.columns
  pub unread : (c : ℕ) → c < length stage.frame.columns →
      slice_index p.unread c + (known_at stage.known c).read ≡ planes (ends_at stage.frame c)
  pub taken : (c : ℕ) → c < length stage.frame.columns → slice_index p.read c ≡ taken_of stage c
  pub role : (c : ℕ) → c < length stage.frame.columns → slice_get p.role c ≡ Some (role_of stage.query c)
  pub gives : (c : ℕ) → c < length stage.frame.columns → slice_get p.gives_values c ≡ Some (gives_values stage.query c)
  pub unknown : p.unknown ≡ unknown_rows stage
  pub possible : p.possible ≡ possible_rows stage
  pub done : p.done ≡ planes_read stage.known

-- ---- lists of steps

-- a step reads a plane of a column: these bits
pub record Step : Type 0 where
  pub column : ℕ
  pub bits : List Bool

-- what is known after some steps, in order
abbrev pub known_after : Knowledge → List Step → Knowledge
known_after known [] = known
known_after known (step ∷ steps) = known_after (taken known step.column step.bits) steps

-- the planes of one column among the steps, in order
abbrev pub planes_of_column : ℕ → List Step → List (List Bool)
planes_of_column c steps = filter_map (λ step. if step.column == c then option.Some step.bits else option.None) steps

-- two lists of steps with the same planes of each column, however interleaved, leave the same knowledge, and so the same bounds
abbrev pub OrdersAgree : Type 0
OrdersAgree =
    (known : Knowledge) (a b : List Step) → ((c : ℕ) → planes_of_column c a ≡ planes_of_column c b) →
    known_after known a ≡ known_after known b
