-- The queries of a session: they are over the table, and so are their columns.
use Rattle.plane_schedule.specs.declared.policy.Nearness.{Nearness}
use Rattle.std.proofs.Common.{◌≡◌, ℕ, ◌<◌, List, [], ◌∷◌, length, refl, sym, ap, slice_get, Option, Some, None, IfSome}
use Rattle.std.proofs.lemmas.List.Quantifiers.{position-Some}
use Rattle.std.specs.Prelude.{◌==◌, slice_index}
use Rattle.daq_table.specs.declared.table_head.Head.{Head}
use Rattle.multi_session.specs.Sessions.{Session, own_column, session_opened}
use Rattle.query_model.specs.Queries.{Query}
use Rattle.query_model.specs.Validity.{FitsHead}
use Rattle.round_engine.specs.Stages.{Stage}
use Rattle.table_rounds.proofs.Lists.{all_there}
use Rattle.table_rounds.specs.Steps.{FitsSession, queries_of}
use Rattle.daq_cli.specs.SessionReport.{own_of}

-- those of a session that was opened
pub queries_of_opened : (queries : List Query) (head : Head) (near : Nearness) → queries_of (session_opened queries head near) ≡ queries
queries_of_opened [] head near = refl
queries_of_opened (query ∷ queries) head near = ap (λ l. query ∷ l) (queries_of_opened queries head near)

pub fits_there : (s : Session) (head : Head) (place : ℕ) (stage : Stage) → FitsSession s head → slice_get s.stages place ≡ Some stage → FitsHead stage.query stage.frame head
fits_there s head place stage fits = all_there (λ stage. FitsHead stage.query stage.frame head) s.stages place stage fits.stages

inside : (query : Query) (place : ℕ) (own : Option ℕ) → own ≡ own_column query place → IfSome own (λ c. c < length query.columns)
inside query place None is = tt
inside query place (Some c) is = (position-Some (λ column. column == place) query.columns c 0 (sym is)).0

-- the query's number of a column of the session is that of one of its columns
pub own_inside : (columns : List ℕ) (query : Query) (last own : Option ℕ) → own ≡ own_of columns query last → IfSome own (λ c. c < length query.columns)
own_inside columns query None None is = tt
own_inside columns query None (Some c) is = absurd (cc)
own_inside columns query (Some column) own is = inside query (slice_index columns column) own is
