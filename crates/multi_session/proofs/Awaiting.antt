-- Which column of a query a plane goes to, and what its refusal says of others.
use Rattle.plane_schedule.specs.declared.policy.Nearness.{Nearness}
use Rattle.std.proofs.Common.{◌≡◌, ◌≢◌, ℕ, ◌+◌, ◌<◌, ◌≤◌, ◌==◌, Bool, true, false, if◌then◌else◌, Option, Some, None, List, length, get_or, refl, sym, ◌∙◌, subst, arith, IsFalse, slice_index}
use Rattle.std.proofs.lemmas.Bool.{eqb-true, eq-eqb}
use Rattle.std.proofs.lemmas.Grind.{common_steps}
use Rattle.std.proofs.lemmas.List.Quantifiers.{position-Some}
use Rattle.std.proofs.lemmas.List.Sums.{fails_before_first}
use Rattle.std.specs.List.{position, position_or_len}
use Rattle.known_column.specs.Columns.{KnownColumn}
use Rattle.query_model.specs.Knowledge.{IsLegal, longer}
use Rattle.round_engine.specs.Narrowness.{is_narrow}
use Rattle.round_engine.specs.Stages.{IsFirstOver, Stage}
use Rattle.multi_session.specs.Members.{column_of}
use Rattle.multi_session.specs.Sessions.{awaited, own_column}

if_some : (b : Bool) (o : Option ℕ) (c : ℕ) → (if b then None else o) ≡ Some c → IsFalse b × (o ≡ Some c)
if_some true o c e = cc
if_some false o c e = (refl, e)

pub awaited_own : (near : Nearness) (place : ℕ) (stage : Stage) (c : ℕ) → awaited near place stage ≡ Some c → IsFalse (is_narrow near stage) × (own_column stage.query place ≡ Some c)
awaited_own near place stage c e = if_some (is_narrow near stage) (own_column stage.query place) c e

-- the query's number of a column is that of this column
pub own_there : (columns : List ℕ) (place c : ℕ) → position (λ column. column == place) columns ≡ Some c → (c < length columns) × (slice_index columns c ≡ place)
own_there columns place c e =
    let there = position-Some (λ column. column == place) columns c 0 e in
    (there.0, eqb-true (get_or columns c 0) place there.1)

-- ---- refused planes

-- two columns of which the same is known refuse the same planes, at the same row
pub over_alike : (a b : Stage) (c d : ℕ) (bits : List Bool) (row : ℕ) → column_of a c ≡ column_of b d → a.frame.rows ≡ b.frame.rows → IsFirstOver a c bits row → IsFirstOver b d bits row
over_alike a b c d bits row same rows over = record {
  in_range = subst (λ n. row < n) rows over.in_range;
  over = λ legal. over.over (subst (λ (k : KnownColumn). IsLegal k.ends (k.known.read + 1) (slice_index (longer k.known.prefixes bits) row)) (sym same) legal);
  first = λ r h. subst (λ (k : KnownColumn). IsLegal k.ends (k.known.read + 1) (slice_index (longer k.known.prefixes bits) r)) same (over.first r h);
}

-- ---- columns that differ

pub no_own : (columns : List ℕ) (place : ℕ) → position (λ column. column == place) columns ≡ None → (c : ℕ) → c < length columns → slice_index columns c ≢ place
no_own columns place none c h e =
    let past : length columns ≤ position_or_len (λ column. column == place) columns = grind (arith, common_steps) in
    let fails = fails_before_first (λ column. column == place) columns c 0 (omega arith) in
    let passes = eq-eqb (get_or columns c 0) place e in
    let never : true ≡ false = sym passes ∙ fails in cc
