-- One more step of a session is one more for each of its queries alone.
use Rattle.plane_schedule.specs.declared.policy.Nearness.{Nearness}
use Rattle.std.proofs.Common.{◌≡◌, ℕ, ◌+◌, Bool, true, false, if◌then◌else◌, Option, Some, None, option_map, List, [], ◌∷◌, ◌++◌, map, refl, sym, ap, ◌∙◌, length-append, slice_get}
use Rattle.std.proofs.lemmas.Option.{same_Some, slice_get-map}
use Rattle.std.specs.Prelude.{IfSome}
use Rattle.std.proofs.lemmas.List.{append-nil}
use Rattle.std.proofs.lemmas.List.Elements.{filter_map-append}
use Rattle.std.specs.List.{cons_option}
use Rattle.std.specs.Option.{option_map_or}
use Rattle.daq_table.specs.declared.table_head.Head.{Head}
use Rattle.query_model.specs.Queries.{Query}
use Rattle.round_engine.specs.Narrowness.{is_narrow}
use Rattle.round_engine.specs.Progresses.{Step}
use Rattle.round_engine.specs.Stages.{Stage, opened, stepped}
use Rattle.multi_session.specs.Alone.{StandsFor, alone, own_step, own_steps, stage_after, until_narrow}
use Rattle.multi_session.specs.Sessions.{Session, followed, own_column}

-- a step over a column of the query itself: its plane is taken unless the query is finished
abbrev taken_if : Nearness → Stage → Step → Stage
taken_if near stage step = if is_narrow near stage then stage else stepped stage step.column step.bits

one_more : (near : Nearness) (steps : List Step) (step : Step) (stage : Stage) →
    stage_after stage (until_narrow near stage (steps ++ step ∷ [])) ≡ taken_if near (stage_after stage (until_narrow near stage steps)) step
one_more near [] step stage = by (is_narrow near stage)
  where
    by : (b : Bool) → stage_after stage (if b then [] else step ∷ []) ≡ (if b then stage else stepped stage step.column step.bits)
    by true = refl
    by false = refl
one_more near (s ∷ ss) step stage = by (is_narrow near stage) refl (one_more near ss step (stepped stage s.column s.bits))
  where
    next : Stage
    next = stepped stage s.column s.bits

    longer : List Step
    longer = until_narrow near next (ss ++ step ∷ [])

    shorter : List Step
    shorter = until_narrow near next ss

    by : (b : Bool) → is_narrow near stage ≡ b → stage_after next longer ≡ taken_if near (stage_after next shorter) step →
        stage_after stage (if is_narrow near stage then [] else s ∷ longer) ≡ taken_if near (stage_after stage (if is_narrow near stage then [] else s ∷ shorter)) step
    by true e ih =
        ap (λ b. stage_after stage (if b then [] else s ∷ longer)) e
        ∙ sym (ap (λ b. if b then stage else stepped stage step.column step.bits) e)
        ∙ sym (ap (λ b. taken_if near (stage_after stage (if b then [] else s ∷ shorter)) step) e)
    by false e ih =
        ap (λ b. stage_after stage (if b then [] else s ∷ longer)) e
        ∙ ih
        ∙ sym (ap (λ b. taken_if near (stage_after stage (if b then [] else s ∷ shorter)) step) e)

abbrev numbered : Step → ℕ → Step
numbered step c = record { column = c; bits = step.bits }

-- a step over a column that the query does not read
own_none : (query : Query) (step : Step) → own_column query step.column ≡ None → own_steps query (step ∷ []) ≡ []
own_none query step e = ap (λ o. cons_option (option_map (numbered step) o) []) e

own_some : (query : Query) (step : Step) (c : ℕ) → own_column query step.column ≡ Some c → own_steps query (step ∷ []) ≡ record { column = c; bits = step.bits } ∷ []
own_some query step c e = ap (λ o. cons_option (option_map (numbered step) o) []) e

followed_none : (near : Nearness) (place : ℕ) (bits : List Bool) (stage : Stage) → own_column stage.query place ≡ None → followed near place bits stage ≡ stage
followed_none near place bits stage e =
    ap (λ o. option_map_or (λ c. stepped stage c bits) (if is_narrow near stage then None else o) stage) e ∙ by (is_narrow near stage)
  where
    by : (b : Bool) → option_map_or (λ c. stepped stage c bits) (if b then None else None) stage ≡ stage
    by true = refl
    by false = refl

followed_some : (near : Nearness) (place c : ℕ) (bits : List Bool) (stage : Stage) → own_column stage.query place ≡ Some c →
    followed near place bits stage ≡ taken_if near stage (record { column = c; bits = bits })
followed_some near place c bits stage e =
    ap (λ o. option_map_or (λ d. stepped stage d bits) (if is_narrow near stage then None else o) stage) e ∙ by (is_narrow near stage)
  where
    by : (b : Bool) → option_map_or (λ d. stepped stage d bits) (if b then None else Some c) stage ≡ (if b then stage else stepped stage c bits)
    by true = refl
    by false = refl

-- a query that stands where it would alone stands there after the step
alone_more : (near : Nearness) (head : Head) (steps : List Step) (step : Step) (query : Query) →
    followed near step.column step.bits (alone near head steps query) ≡ alone near head (steps ++ step ∷ []) query
alone_more near head steps step query = by (own_column query step.column) refl
  where
    start : Stage
    start = opened query head

    now : Stage
    now = alone near head steps query

    parted : own_steps query (steps ++ step ∷ []) ≡ own_steps query steps ++ own_steps query (step ∷ [])
    parted = filter_map-append (own_step query) steps (step ∷ [])

    after : List Step → Stage
    after own = stage_after start (until_narrow near start own)

    by : (o : Option ℕ) → own_column query step.column ≡ o → followed near step.column step.bits now ≡ alone near head (steps ++ step ∷ []) query
    by None e =
        followed_none near step.column step.bits now e
        ∙ sym (ap after (parted ∙ ap (λ own. own_steps query steps ++ own) (own_none query step e) ∙ append-nil (own_steps query steps)))
    by (Some c) e =
        followed_some near step.column c step.bits now e
        ∙ sym (ap after (parted ∙ ap (λ own. own_steps query steps ++ own) (own_some query step c e))
        ∙ one_more near (own_steps query steps) (record { column = c; bits = step.bits }) start)

all_more : (near : Nearness) (head : Head) (steps : List Step) (step : Step) (queries : List Query) →
    map (followed near step.column step.bits) (map (alone near head steps) queries) ≡ map (alone near head (steps ++ step ∷ [])) queries
all_more near head steps step [] = refl
all_more near head steps step (q ∷ qs) = rw (alone_more near head steps step q, all_more near head steps step qs) refl

-- a session that stands for some steps stands for one more after it
pub stands_more : (queries : List Query) (head : Head) (steps : List Step) (step : Step) (s new : Session) → StandsFor queries head steps s →
    new.near ≡ s.near → new.stages ≡ map (followed s.near step.column step.bits) s.stages → new.steps ≡ s.steps + 1 →
    StandsFor queries head (steps ++ step ∷ []) new
stands_more queries head steps step s new stands near stages count = record {
  stages = stages
      ∙ ap (map (followed s.near step.column step.bits)) stands.stages
      ∙ all_more s.near head steps step queries
      ∙ ap (λ w. map (alone w head (steps ++ step ∷ [])) queries) (sym near);
  count = count ∙ ap (λ n. n + 1) stands.count ∙ sym (length-append steps (step ∷ []));
}

-- each query of a session that stands for some steps stands where it would alone
pub stage_alone : (queries : List Query) (head : Head) (steps : List Step) (s : Session) → StandsFor queries head steps s → (k : ℕ) (stage : Stage) → slice_get s.stages k ≡ Some stage →
    IfSome (slice_get queries k) (λ q. stage ≡ alone s.near head steps q)
stage_alone queries head steps s stands k stage there = by (slice_get queries k) (sym there ∙ ap (λ ss. slice_get ss k) stands.stages ∙ slice_get-map (alone s.near head steps) queries k)
  where
    by : (o : Option Query) → Some stage ≡ option_map (alone s.near head steps) o → IfSome o (λ q. stage ≡ alone s.near head steps q)
    by None e = cc
    by (Some q) e = same_Some stage (alone s.near head steps q) e
