-- How far a session has come, as it is seen.
use Rattle.plane_schedule.specs.declared.policy.Nearness.{Nearness}
use Rattle.std.proofs.Common.{◌≡◌, ℕ, ◌^◌, ◌<◌, Bool, Some, List, length, ◌∙◌, arith, slice_get, slice_index}
use Rattle.known_column.specs.KnownTables.{KnownTable}
use Rattle.plane_schedule.specs.declared.progress.Progress.{Progress}
use Rattle.plane_schedule.specs.declared.progress.Role.{Role}
use Rattle.query_model.specs.Knowledge.{IsKnowledge}
use Rattle.round_engine.specs.Stages.{Stage}
use Rattle.multi_session.specs.declared.member.Member.{Member}
use Rattle.multi_session.specs.Members.{IsSession, session_of, stages_of}
use Rattle.multi_session.specs.Sessions.{Awaits, IsSessionProgress, TellsColumns, possible_in, unknown_in, unread_of}
use Rattle.multi_session.proofs.Counting.{few_steps}
use Rattle.multi_session.proofs.Found.{of_each, unread_alike}

module _ (near : Nearness) (steps : ℕ) (places : List ℕ) (table : KnownTable) (members : List Member) (is : IsSession near places table members steps) where
  pub progress_is : (p : Progress) → TellsColumns near places (stages_of table members) (length places) p.unread p.read p.role p.gives_values → p.columns ≡ length places →
      p.unknown ≡ unknown_in near (stages_of table members) → p.unknown < 2 ^ 64 → p.possible ≡ possible_in near (stages_of table members) → p.possible < 2 ^ 64 →
      p.done ≡ steps → IsSessionProgress (session_of near places table members steps) p
  progress_is p told count unknown small possible small_too done = record {
    sound = record {
      columns = (let few = is.few_columns in omega (arith, few, count));
      numbers = told.numbers;
      roles = told.names;
      unread = told.few;
      read = told.few_taken;
      unknown = small;
      possible = small_too;
      done = (let few = few_steps near steps places table members is.each is.few_members is.counted in omega (arith, few, done));
    };
    columns = count;
    unread = told.counts;
    taken = told.counts_taken;
    role = told.read_for;
    gives = told.gives_some;
    unknown = unknown;
    possible = possible;
    done = done;
  }

  -- all that await planes of a column have as many of them unread
  pub all_alike : {unread taken : List ℕ} {roles : List Role} {gives : List Bool} → TellsColumns near places (stages_of table members) (length places) unread taken roles gives →
      (column : ℕ) (stage : Stage) (own : ℕ) → column < length places → Awaits (session_of near places table members steps) column stage own → slice_index unread column ≡ unread_of stage own
  all_alike told column stage own inside awaits =
      told.counts column inside ∙ unread_alike near steps column places table members is.columns inside is.each awaits.query stage awaits.there own awaits.reads

  -- what is known of each is legal
  pub all_known : (k : ℕ) (stage : Stage) → slice_get (stages_of table members) k ≡ Some stage → IsKnowledge stage.frame stage.known
  all_known = of_each table members (λ stage. IsKnowledge stage.frame stage.known) (λ k d h. (is.each k d h).open_stage.knowledge)
