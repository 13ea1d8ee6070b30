-- What is kept of a query beside its columns: the truth of its condition at each row, and its answers.
use Rattle.std.specs.Prelude.{◌≡◌, ℕ, ◌<◌, Bool, List, length, slice_get}
use Rattle.std.specs.declared.option.Option.TheVariants.{Some}
use Rattle.kleene_filter.specs.Filters.{StandsFor}
use Rattle.known_column.specs.KnownTables.{KnownTable, read_column}
use Rattle.plane_schedule.specs.declared.progress.Role.{Role}
use Rattle.query_model.specs.Knowledge.{CanTake}
use Rattle.query_model.specs.Queries.{Query}
use Rattle.query_model.specs.declared.query.Shape.TheVariants.{Plain}
use Rattle.round_engine.specs.declared.answers.Answers.{Answers}
use Rattle.round_engine.specs.declared.answers.Answers.TheVariants.{Totals, Groups, Ranking}
use Rattle.round_engine.specs.declared.state.State.{State}
use Rattle.round_engine.specs.CellAnswers.{AreGroups, AreSomeGroups, HoldGroups}
use Rattle.round_engine.specs.KeptProducts.{AreKeptProducts}
use Rattle.round_engine.specs.KeptItems.{AreKept}
use Rattle.round_engine.specs.KeptSums.{columns_of}
use Rattle.round_engine.specs.Progresses.{gives_values, role_of}
use Rattle.round_engine.specs.Rankings.{HoldsOrder, IsRanking}
use Rattle.round_engine.specs.Selected.{HaveRows}
use Rattle.round_engine.specs.Stages.{IsOpenStage, Stage, stepped}
use Rattle.round_engine.specs.Totals.{AreSomeTotals, AreTotals, HaveRoom}

-- the stage of a query over known columns
abbrev pub stage_of : Query → KnownTable → Stage
stage_of query columns = record { query = query; frame = columns.frame; known = columns.known }

-- the answers are those of the stage, in the form of its query, and there is room to compute them anew
abbrev pub AreAnswers : Stage → Answers → Type 0
AreAnswers stage (Totals totals) =
    (stage.query.shape ≡ Plain) × AreTotals stage totals.bounds.items × HaveRoom stage.query.items totals.runnings.items
    × HaveRows stage.frame.rows totals.masks × AreKept stage totals.kept.items
    × AreKeptProducts (columns_of stage) stage.query.items totals.products.items
AreAnswers stage (Groups groups) = AreGroups stage groups
AreAnswers stage (Ranking ranking) = IsRanking stage ranking

-- there is room for those of the stage
abbrev pub HoldAnswers : Stage → Answers → Type 0
HoldAnswers stage (Totals totals) =
    (stage.query.shape ≡ Plain) × (length totals.bounds.items ≡ length stage.query.items) × HaveRoom stage.query.items totals.runnings.items
    × HaveRows stage.frame.rows totals.masks × AreKept stage totals.kept.items
    × AreKeptProducts (columns_of stage) stage.query.items totals.products.items
HoldAnswers stage (Groups groups) = HoldGroups stage groups
HoldAnswers stage (Ranking ranking) = HoldsOrder stage ranking

-- the form of the answers
abbrev pub IsTotalsForm : Answers → Type 0
IsTotalsForm (Totals totals) = Unit {0}
IsTotalsForm (Groups groups) = ⊥
IsTotalsForm (Ranking ranking) = ⊥

abbrev pub IsGroupsForm : Answers → Type 0
IsGroupsForm (Totals totals) = ⊥
IsGroupsForm (Groups groups) = Unit {0}
IsGroupsForm (Ranking ranking) = ⊥

abbrev pub IsRankingForm : Answers → Type 0
IsRankingForm (Totals totals) = ⊥
IsRankingForm (Groups groups) = ⊥
IsRankingForm (Ranking ranking) = Unit {0}

-- they are those of an open stage
abbrev pub AreSomeAnswers : Answers → Type 0
AreSomeAnswers (Totals totals) = AreSomeTotals totals.bounds.items
AreSomeAnswers (Groups groups) = AreSomeGroups groups
AreSomeAnswers (Ranking ranking) = Unit {0}

-- they are those of before these bits were read as the next plane of a column
pub record StoodBefore (stage : Stage) (column : ℕ) (bits : List Bool) (answers : Answers) : Type 0 where
  pub before : Stage
  pub open_stage : IsOpenStage before
  pub answered : AreAnswers before answers
  pub rows : length bits ≡ before.frame.rows
  pub legal : CanTake before.frame before.known column bits
  pub read : stage ≡ stepped before column bits

-- each column is read for what its role says
abbrev pub AreRoles : Query → List Role → Type 0
AreRoles query roles = (c : ℕ) → c < length query.columns → slice_get roles c ≡ Some (role_of query c)

-- the columns that give values are told
abbrev pub AreGivers : Query → List Bool → Type 0
AreGivers query gives = (c : ℕ) → c < length query.columns → slice_get gives c ≡ Some (gives_values query c)

-- what is kept of a query is that of these columns: the truth of its condition at each row, its answers, and what it reads its columns for
pub record IsKept (query : Query) (columns : KnownTable) (state : State) : Type 0 where
  pub open_stage : IsOpenStage (stage_of query columns)
  pub judged : StandsFor state.filter query.pred columns
  pub answered : AreAnswers (stage_of query columns) state.answers
  pub read_for : AreRoles query state.roles
  pub giving : AreGivers query state.gives_values
  pub lent : state.block.frame.columns ≡ columns.frame.columns

-- it was that of before these bits were read as the next plane of a column
pub record WasKept (query : Query) (columns : KnownTable) (column : ℕ) (bits : List Bool) (state : State) : Type 0 where
  pub before : KnownTable
  pub kept : IsKept query before state
  pub legal : CanTake before.frame before.known column bits
  pub read : columns ≡ read_column before column bits
