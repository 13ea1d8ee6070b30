-- The next plane of a column of the query is one of the table.
use Rattle.std.proofs.Common.{◌≡◌, ℕ, ◌<◌, length, get_or, sym, ap, ◌∙◌, subst}
use Rattle.std.proofs.lemmas.List.{length-map}
use Rattle.daq_table.specs.Tables.{ends_at, ends_of, frame_of, planes}
use Rattle.daq_table.specs.declared.table_head.Head.{Head}
use Rattle.query_model.specs.Validity.{FitsHead}
use Rattle.query_model.specs.Worlds.{NamesColumns}
use Rattle.query_model.specs.declared.query.TypedQuery.{TypedQuery}
use Rattle.round_engine.specs.Stages.{HasPlane, Stage}
use Rattle.table_rounds.proofs.Listing.{all_at}
use Rattle.table_rounds.proofs.Reached.{ends_there}

-- a column with an unread plane is one of the query
in_query : (query : TypedQuery) (head : Head) (stage : Stage) (c : ℕ) → FitsHead query stage.frame head → HasPlane stage c → c < length query.columns
in_query query head stage c fits has = subst (λ n. c < n) (ap (λ f. length f.columns) (sym fits.same) ∙ length-map query.columns (ends_at (frame_of head))) has.column

-- and the table has it
pub place_there : (query : TypedQuery) (head : Head) (stage : Stage) (c : ℕ) → NamesColumns query (frame_of head) → FitsHead query stage.frame head → HasPlane stage c →
    get_or query.columns c 0 < length head.columns
place_there query head stage c named fits has =
    subst (λ n. get_or query.columns c 0 < n) (length-map head.columns ends_of)
    (all_at (λ i. i < length (frame_of head).columns) query.columns c named.in_range (in_query query head stage c fits has))

-- its planes are those of the part's column
pub planes_there : (query : TypedQuery) (head : Head) (stage : Stage) (c : ℕ) → FitsHead query stage.frame head → HasPlane stage c →
    planes (ends_at (frame_of head) (get_or query.columns c 0)) ≡ planes (ends_at stage.frame c)
planes_there query head stage c fits has = ap planes (ends_there query (frame_of head) c (in_query query head stage c fits has)) ∙ ap (λ f. planes (ends_at f c)) fits.same
