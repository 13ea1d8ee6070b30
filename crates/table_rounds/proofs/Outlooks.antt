-- What a policy sees of a stage, and whether something is unread.
use Rattle.std.proofs.Common.{◌⊎◌, ℕ, Bool, true, false, length, refl, sym, ◌∙◌, arith, inl, inr, IsNone, IsFalse}
use Rattle.std.proofs.lemmas.Bool.{false≢true}
use Rattle.plane_schedule.proofs.Best.{NoneBelow, WidestBelow, widest_below}
use Rattle.plane_schedule.proofs.Same.{AreSame}
use Rattle.plane_schedule.specs.Choices.{HasUnread, IsUnread, outlook_of}
use Rattle.plane_schedule.specs.Plans.{first_ending}
use Rattle.plane_schedule.specs.declared.progress.Progress.{Progress}
use Rattle.round_engine.specs.Narrowness.{is_narrow}
use Rattle.round_engine.specs.Progresses.{IsProgress}
use Rattle.round_engine.specs.Stages.{HasPlane, Stage}
use Rattle.table_rounds.specs.Courses.{Tells}
use Rattle.table_rounds.specs.Headline.{FullStagesAreNarrow, RoundsHavePlanes}
use Rattle.table_rounds.specs.Rounds.{outlook_at, unread_of}
use Rattle.table_rounds.proofs.Courses.{tells_of}

-- a progress tells a policy what the stage does
pub same_outlook : (stage : Stage) (p : Progress) → IsProgress stage p → AreSame (outlook_of p) (outlook_at stage)
same_outlook stage p is = record {
  columns = (let all = is.columns in let few = is.sound.columns in omega (arith, all, few));
  unread = λ c h. (let all = is.columns in let few = is.sound.columns in let u = is.unread c (omega (arith, h, all, few)) in omega (arith, u));
  taken = λ c h. is.taken c (let all = is.columns in let few = is.sound.columns in omega (arith, h, all, few));
  role = λ c h. is.role c (let all = is.columns in let few = is.sound.columns in omega (arith, h, all, few));
  gives = λ c h. is.gives c (let all = is.columns in let few = is.sound.columns in omega (arith, h, all, few));
  unknown = is.unknown;
  possible = is.possible;
  read = is.done;
}

pub tells : (stage : Stage) (p : Progress) → IsProgress stage p → Tells (outlook_at stage) p
tells stage p is = tells_of (outlook_at stage) p is.sound (same_outlook stage p is)

pub unread_has_plane : (stage : Stage) (c : ℕ) → IsUnread (outlook_at stage) c → HasPlane stage c
unread_has_plane stage c is = record { column = is.column; unread = (let u = is.unread in omega (arith, u)) }

-- ---- where the rounds go on

pub not_narrow : (narrow most end : Bool) → IsNone (first_ending narrow most end) → IsFalse narrow
not_narrow true most end none = cc
not_narrow false most end none = refl

pub not_most : (narrow most end : Bool) → IsNone (first_ending narrow most end) → IsFalse end
not_most true most end none = cc
not_most false true end none = cc
not_most false false true none = cc
not_most false false false none = refl

pub rounds_have_planes : FullStagesAreNarrow → RoundsHavePlanes
rounds_have_planes full plan stage known none = by (widest_below (unread_of stage) (length stage.frame.columns))
  where
    wider : IsFalse (is_narrow plan.near stage)
    wider = not_narrow (is_narrow plan.near stage) _ _ none

    by : NoneBelow (unread_of stage) (length stage.frame.columns) ⊎ ((c : ℕ) × WidestBelow (unread_of stage) (length stage.frame.columns) c) → HasUnread (outlook_at stage)
    by (inl nothing) = absurd (false≢true (sym wider ∙ full plan.near stage known (λ c h. let here = nothing c h in let few = known.read c h in omega (arith, here, few))))
    by (inr (c, w)) = (c, record { column = w.below; unread = w.some })
