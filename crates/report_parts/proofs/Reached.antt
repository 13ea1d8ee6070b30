-- That a report stops at one block for one reason, and that one which goes on does not stop.
use Rattle.std.proofs.Common.{◌≡◌, ◌≢◌, ℕ, zero, suc, ◌+◌, ◌<◌, ◌≤◌, true, false, Option, None, List, [], ◌++◌, length, sym, ◌∙◌, subst, inl, inr, arith, refl}
use Rattle.std.proofs.lemmas.Bool.{false≢true}
use Rattle.std.proofs.lemmas.Option.{none-some}
use Rattle.std.specs.List.{list_all}
use Rattle.report_text.specs.declared.lines.ReportEnd.{ReportEnd}
use Rattle.report_parts.proofs.Courses.{all_go, goes_on, passes_on, yes_or_no}
use Rattle.report_parts.proofs.Grows.{all_keep, fault_stays}
use Rattle.report_parts.proofs.Kept.{not_all_yet}
use Rattle.report_parts.proofs.Said.{fault_once, fault_unsaid, which}
use Rattle.report_parts.proofs.Telling.{grown}
use Rattle.report_parts.specs.Course.{Combines, Stops, StopsBy, Task, Tell, is_over_before, wanted_of}
use Rattle.report_parts.specs.Faults.{CanSay, IsBlockFault}
use Rattle.report_parts.specs.Laws.{AllReach}
use Rattle.report_parts.specs.Rounds.{has_block, is_over}
use Rattle.report_parts.specs.Told.{Told}
use Rattle.report_parts.specs.Written.{Wanted, Writes, end_at}
use Rattle.report_parts.specs.Written.Writes.{ends, goes, waits}
use Rattle.report_parts.specs.declared.fault.BlockFault.{BlockFault}
use Rattle.report_parts.specs.declared.fault.BlockFault.TheVariants.{NoMemory, OtherColumn, OtherItem, OtherForm, TooWide, UnclearTag}

-- a block that is reached is written
said_at : (wanted : Wanted) (parts : List Told) (start round : ℕ) (text : List ℕ) (end : Option ReportEnd) → start ≤ round →
    ((r : ℕ) → r < round → list_all (has_block r) parts ≡ true) → ((r : ℕ) → r < round → end_at wanted r parts ≡ None) →
    list_all (has_block round) parts ≡ true → Writes wanted parts start text end → CanSay round wanted.shape parts
said_at wanted parts start round text end le has opened here (waits s fails) = elim (which start round) [
  | inl less ↦ absurd (false≢true (sym fails ∙ has start less))
  | inr (inl same) ↦ absurd (false≢true (sym fails ∙ subst (λ (n : ℕ). list_all (has_block n) parts ≡ true) (sym same) here))
  | inr (inr more) ↦ absurd (omega (arith, le, more))
]
said_at wanted parts start round text end le has opened here (ends s e there said is) = elim (which start round) [
  | inl less ↦ absurd (none-some e (sym (opened start less) ∙ is))
  | inr (inl same) ↦ subst (λ (n : ℕ). CanSay n wanted.shape parts) same said
  | inr (inr more) ↦ absurd (omega (arith, le, more))
]
said_at wanted parts start round text end le has opened here (goes s rest e there said none behind) = elim (which start round) [
  | inl less ↦ said_at wanted parts (start + 1) round rest e (omega (arith, less)) has opened here behind
  | inr (inl same) ↦ subst (λ (n : ℕ). CanSay n wanted.shape parts) same said
  | inr (inr more) ↦ absurd (omega (arith, le, more))
]

-- with more lines too a part goes on behind the block before
still_on : (query : List ℕ) (wanted : Wanted) (parts laters : List Told) (round : ℕ) → AllReach query wanted.shape parts laters →
    is_over_before round parts ≡ false → list_all (has_block round) parts ≡ true → is_over_before round laters ≡ false
still_on query wanted parts laters zero h before has = refl
still_on query wanted parts laters (suc round) h before has = elim (yes_or_no (list_all (is_over round) laters)) [
  | inl over ↦
      let next : suc round ≡ round + 1 = omega arith in
      absurd (false≢true (sym (not_all_yet query wanted.shape round parts laters h over before)
      ∙ subst (λ (n : ℕ). list_all (has_block n) parts ≡ true) next has))
  | inr off ↦ off
]

not_written : (task : Task) (parts laters : List Told) (text before after body : List ℕ) (end : Option ReportEnd) (why : BlockFault) →
    AllReach task.query task.shape parts laters → Stops task parts text before after why → why ≢ NoMemory →
    Writes (wanted_of task) laters 0 body end → ⊥
not_written task parts laters text before after body end why reach s some writes =
    let wanted = wanted_of task in
    let passed = passes_on task.query wanted parts laters s.round (text ++ s.more) reach s.passed in
    let on = still_on task.query wanted parts laters s.round reach s.goes s.has in
    let opened : (r : ℕ) → r < s.round → end_at wanted r laters ≡ None =
    λ r below. goes_on wanted laters r (passed.wide r below) (passed.more r below) (all_go wanted laters s.round (text ++ s.more) passed on r below) in
    let has = all_keep task.query task.shape s.round parts laters reach s.has in
    fault_unsaid why s.round task.shape laters some (fault_stays task.query task.shape why s.round parts laters reach s.has s.fault)
    (said_at wanted laters 0 s.round body end (omega arith) passed.has opened has writes)

-- where a block cannot be written, no lines behind lead on
pub never_combined : (task : Task) (lines others : List (List ℕ)) (parts : List Told) (text before after body : List ℕ) (end : Option ReportEnd) (why : BlockFault) →
    Tell task [] lines parts → length parts ≡ task.count → Stops task parts text before after why → why ≢ NoMemory →
    Combines task (lines ++ others) body end → ⊥
never_combined task lines others parts text before after body end why told all s some k =
    let g = grown task parts k.parts lines others all told k.told in
    not_written task parts k.parts text before after body end why g.reach s some (k.is_text.whole g.all)

-- there is one reason, at one block
pub stops_once : (task : Task) (parts : List Told) (text other before mid after last : List ℕ) (a b : BlockFault) →
    Stops task parts text before after a → Stops task parts other mid last b → a ≢ NoMemory → b ≢ NoMemory → a ≡ b
stops_once task parts text other before mid after last a b s t one two = elim (which s.round t.round) [
  | inl less ↦ absurd (fault_unsaid a s.round task.shape parts one s.fault (t.passed.said s.round less))
  | inr (inl same) ↦
      fault_once a b s.round task.shape parts one two s.fault (subst (λ (n : ℕ). IsBlockFault b n task.shape parts) (sym same) t.fault)
  | inr (inr more) ↦ absurd (fault_unsaid b t.round task.shape parts two t.fault (s.passed.said t.round more))
]

pub as_stops : (why : BlockFault) (task : Task) (parts : List Told) (text before after : List ℕ) → why ≢ NoMemory → StopsBy why task parts text before after →
    Stops task parts text before after why
as_stops (OtherColumn column) task parts text before after some s = s
as_stops (OtherItem item) task parts text before after some s = s
as_stops (TooWide item) task parts text before after some s = s
as_stops (UnclearTag part) task parts text before after some s = s
as_stops OtherForm task parts text before after some s = s
as_stops NoMemory task parts text before after some s = absurd (some refl)
