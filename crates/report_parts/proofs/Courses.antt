-- The course of a combination: what was written stays as it is with each line more, and goes on as the definition says.
use Rattle.std.proofs.Common.{◌≡◌, ◌≢◌, ◌⊎◌, ℕ, zero, suc, ◌+◌, ◌-◌, ◌<◌, ◌≤◌, ◌==◌, max, nat_le, nat_lt, Bool, true, false, ◌&&◌, ◌||◌, if◌then◌else◌, Option, Some, None, is_none, Result, Ok, Err, OnOk, List, [], ◌∷◌, ◌++◌, codes, length, refl, sym, ap, subst, ◌∙◌, inl, inr, arith, append-nil}
use Rattle.std.proofs.lemmas.Bool.{and_parts, false≢true}
use Rattle.std.proofs.lemmas.Bool.Decides.{nat_tests}
use Rattle.std.proofs.lemmas.List.{append_assoc}
use Rattle.std.proofs.lemmas.Option.{none-some}
use Rattle.std.specs.List.{list_all}
use Rattle.std.specs.declared.cmp.Ordering.{Ordering}
use Rattle.std.specs.declared.cmp.Ordering.TheVariants.{Less, Equal, Greater}
use Rattle.report_text.specs.declared.lines.ReportEnd.{ReportEnd}
use Rattle.report_text.specs.declared.lines.ReportEnd.TheVariants.{Narrow, Rounds}
use Rattle.report_parts.proofs.FromRounds.{all_both, block_fault_too, cases_lt, refused_too, said_too, same_block_over, same_count, same_end_of_all, same_has, same_over_all, takes_tagged_too}
use Rattle.report_parts.proofs.Grows.{all_keep, only_grow, said_stays, same_block_over as kept_block_over}
use Rattle.report_parts.proofs.Kept.{not_all_yet}
use Rattle.report_parts.proofs.Ordered.{tag_is}
use Rattle.report_parts.proofs.Stays.{follows}
use Rattle.report_parts.specs.Course.{Adds, Course, GoesOnTo, Holds, IsAhead, IsLineFault, IsOpen, IsStopped, IsText, IsWritten, Moves, Passes, Rests, Stands, StandsIsCombined, Stops, StopsBy, TakesLine, Task, Tell, is_over_before, wanted_of}
use Rattle.report_parts.specs.Ends.{end_behind, end_of_all}
use Rattle.report_parts.specs.Faults.{CanSay, IsBlockFault}
use Rattle.report_parts.specs.Laws.{AllReach}
use Rattle.report_parts.specs.Laws.Reaches.{goes as reaches, stays as remains}
use Rattle.report_parts.specs.Passed.{AllTellFrom}
use Rattle.report_parts.specs.Reports.{block_lines, block_text, blocks_text}
use Rattle.report_parts.specs.Rounds.{has_block, is_ended, is_over}
use Rattle.report_parts.specs.Tags.{IsRefused, TakesTagged, against, behind_tag, by_order, tag_of, told_of, with_part}
use Rattle.report_parts.specs.Told.{Takes, Told, nothing_told}
use Rattle.report_parts.specs.Written.{Wanted, Writes, end_at, end_text, is_narrow_at}
use Rattle.report_parts.specs.Written.Writes.{ends, goes as goes_behind, waits}
use Rattle.report_text.specs.Lines.{round_words}
use Rattle.report_parts.specs.declared.block.Block.{Block}
use Rattle.report_parts.specs.declared.fault.BlockFault.{BlockFault}
use Rattle.report_parts.specs.declared.fault.BlockFault.TheVariants.{NoMemory, OtherColumn, OtherItem, OtherForm, TooWide, UnclearTag}
use Rattle.report_parts.specs.declared.fault.InputFault.{InputFault}
use Rattle.report_parts.specs.declared.shape.Shape.{Shape}

-- ---- the parts of which lines came are those that take the next

-- a line leaves the tag
pub tag_stays : (query : List ℕ) (shape : Shape) (told : Told) (line : List ℕ) (next : Told) → Takes query shape told line next → next.tag ≡ told.tag
tag_stays query shape told line next h = (follows told.place query shape told line next refl h).tag

pub by_each : (P : Ordering → Type 0) (o : Ordering) → (o ≡ Less → P Less) → (o ≡ Equal → P Equal) → (o ≡ Greater → P Greater) → P o
by_each P Less a b c = a refl
by_each P Equal a b c = b refl
by_each P Greater a b c = c refl

pub tag_of_told : (tag : List ℕ) (parts : List Told) → (told_of tag parts).tag ≡ tag
tag_of_told tag [] = refl
tag_of_told tag (part ∷ parts) =
    let rest = tag_of_told tag parts in
    by_each (λ (o : Ordering). (by_order o (told_of tag parts) part (nothing_told tag)).tag ≡ tag) (against tag part) (λ e. rest) (λ e. tag_is tag part e) (λ e. refl)

all_stay : (query : List ℕ) (shape : Shape) (parts : List Told) → AllReach query shape parts parts
all_stay query shape [] = tt
all_stay query shape (part ∷ parts) = (remains part, all_stay query shape parts)

-- where no part comes in, one takes the line and the others stay
reach_by : (query : List ℕ) (shape : Shape) (tag line : List ℕ) (told : Told) (parts : List Told) → told.tag ≡ tag →
    Takes query shape (told_of tag parts) line told → length (with_part told parts) ≤ length parts → AllReach query shape parts (with_part told parts)
reach_by query shape tag line told [] e h few = absurd (omega (arith, few))
reach_by query shape tag line told (part ∷ parts) e h few =
    let same : against told.tag part ≡ against tag part = ap (λ (t : List ℕ). against t part) e in
    let taken : Takes query shape (by_order (against told.tag part) (told_of tag parts) part (nothing_told tag)) line told =
    subst (λ (o : Ordering). Takes query shape (by_order o (told_of tag parts) part (nothing_told tag)) line told) (sym same) h in
    by_each (λ (o : Ordering). Takes query shape (by_order o (told_of tag parts) part (nothing_told tag)) line told →
    length (by_order o (part ∷ with_part told parts) (told ∷ parts) (told ∷ part ∷ parts)) ≤ suc (length parts) →
    AllReach query shape (part ∷ parts) (by_order o (part ∷ with_part told parts) (told ∷ parts) (told ∷ part ∷ parts)))
    (against told.tag part)
    (λ f own fewer. (remains part, reach_by query shape tag line told parts e own (omega (arith, fewer))))
    (λ f own fewer. (reaches part line told told own (remains told), all_stay query shape parts))
    (λ f own fewer. absurd (omega (arith, fewer)))
    taken few

pub all_reach : (query : List ℕ) (shape : Shape) (parts : List Told) (line : List ℕ) (next : List Told) →
    TakesTagged query shape parts line next → length next ≤ length parts → AllReach query shape parts next
all_reach query shape parts line next h few =
    let own = told_of (tag_of line) parts in
    let tagged : h.told.tag ≡ tag_of line = tag_stays query shape own (behind_tag line) h.told h.taken ∙ tag_of_told (tag_of line) parts in
    subst (λ (ps : List Told). AllReach query shape parts ps) (sym h.put)
    (reach_by query shape (tag_of line) (behind_tag line) h.told parts tagged h.taken (subst (λ (ps : List Told). length ps ≤ length parts) h.put few))

-- ---- what was written stays

pub yes_or_no : (b : Bool) → (b ≡ true) ⊎ (b ≡ false)
yes_or_no true = inl refl
yes_or_no false = inr refl

pub passes_on : (query : List ℕ) (wanted : Wanted) (parts laters : List Told) (round : ℕ) (text : List ℕ) → AllReach query wanted.shape parts laters →
    Passes wanted parts round text → Passes wanted laters round text
passes_on query wanted parts laters round text h p = record {
  has = λ r below. all_keep query wanted.shape r parts laters h (p.has r below);
  said = λ r below. said_stays query wanted.shape r parts laters h (p.has r below) (p.said r below);
  wide = λ r below. ap (λ (block : Block). wanted.narrow block) (kept_block_over query wanted.shape r parts laters h (p.has r below)) ∙ p.wide r below;
  more = p.more;
  goes = λ r below. elim (yes_or_no (list_all (is_over r) laters)) [
    | inl over ↦ absurd (false≢true (sym (not_all_yet query wanted.shape r parts laters h over (p.goes r below)) ∙ p.has (r + 1) below))
    | inr off ↦ off
  ];
  is_text = p.is_text ∙ sym (only_grow query wanted.shape round parts laters h p.has).same;
}

pub none_passed : (wanted : Wanted) (parts : List Told) → Passes wanted parts 0 []
unfolding blocks_text
none_passed wanted parts = record {
  has = λ r below. absurd (omega (arith, below));
  said = λ r below. absurd (omega (arith, below));
  wide = λ r below. absurd (omega (arith, below));
  more = λ r below. absurd (omega (arith, below));
  goes = λ r below. absurd (omega (arith, below));
  is_text = refl;
}

-- ---- the whole text, from the first round on

writes_back : (wanted : Wanted) (parts : List Told) (round : ℕ) (rest : List ℕ) (end : Option ReportEnd) →
    ((r : ℕ) → r < round → list_all (has_block r) parts ≡ true) → ((r : ℕ) → r < round → CanSay r wanted.shape parts) →
    ((r : ℕ) → r < round → end_at wanted r parts ≡ None) → Writes wanted parts round rest end → Writes wanted parts 0 (blocks_text round wanted.shape parts ++ rest) end
unfolding blocks_text
writes_back wanted parts zero rest end has said opened w = w
writes_back wanted parts (suc round) rest end has said opened w =
    let one : suc round ≡ round + 1 = omega arith in
    let behind = subst (λ (n : ℕ). Writes wanted parts n rest end) one w in
    let here = goes_behind round rest end (has round (omega arith)) (said round (omega arith)) (opened round (omega arith)) behind in
    let first = writes_back wanted parts round (block_text round wanted.shape parts ++ rest) end (λ r below. has r (omega (arith, below)))
    (λ r below. said r (omega (arith, below))) (λ r below. opened r (omega (arith, below))) here in
    subst (λ (text : List ℕ). Writes wanted parts 0 text end) (sym (append_assoc (blocks_text round wanted.shape parts) (block_text round wanted.shape parts) rest)) first

pub goes_on : (wanted : Wanted) (parts : List Told) (round : ℕ) → is_narrow_at wanted round parts ≡ false → wanted.last round ≡ false →
    list_all (is_over round) parts ≡ false → end_at wanted round parts ≡ None
goes_on wanted parts round narrow last over = rw (narrow, last, over) refl

over_at : (parts : List Told) (round : ℕ) (r : ℕ) → round ≡ suc r → is_over_before round parts ≡ false → list_all (is_over r) parts ≡ false
over_at parts round r e h = subst (λ (n : ℕ). is_over_before n parts ≡ false) e h

pub all_go : (wanted : Wanted) (parts : List Told) (round : ℕ) (text : List ℕ) → Passes wanted parts round text → is_over_before round parts ≡ false →
    (r : ℕ) → r < round → list_all (is_over r) parts ≡ false
all_go wanted parts round text p before r below = elim (cases_lt (r + 1) round) [
  | inl less ↦ p.goes r less
  | inr last ↦ over_at parts round r (omega (arith, below, last)) before
]

-- with what is written from there on
pub writes_rest : (wanted : Wanted) (parts : List Told) (round : ℕ) (text rest : List ℕ) (end : Option ReportEnd) → Passes wanted parts round text →
    is_over_before round parts ≡ false → Writes wanted parts round rest end → Writes wanted parts 0 (text ++ rest) end
writes_rest wanted parts round text rest end p before w =
    subst (λ (front : List ℕ). Writes wanted parts 0 (front ++ rest) end) (sym p.is_text)
    (writes_back wanted parts round rest end p.has p.said (λ r below. goes_on wanted parts r (p.wide r below) (p.more r below) (all_go wanted parts round text p before r below)) w)

-- where no part goes on behind the last block
pub writes_over : (wanted : Wanted) (parts : List Told) (round : ℕ) (text : List ℕ) → Passes wanted parts round text → is_over_before round parts ≡ true →
    Writes wanted parts 0 (text ++ end_text (end_of_all parts)) (Some (end_of_all parts))
unfolding blocks_text
writes_over wanted parts zero text p before = absurd (false≢true before)
writes_over wanted parts (suc round) text p before =
    let end = end_of_all parts in
    let there : end_at wanted round parts ≡ Some end = rw (p.wide round (omega arith), p.more round (omega arith), before) refl in
    let here = ends round end (p.has round (omega arith)) (p.said round (omega arith)) there in
    let first = writes_back wanted parts round (block_text round wanted.shape parts ++ end_text end) (Some end) (λ r below. p.has r (omega (arith, below)))
    (λ r below. p.said r (omega (arith, below)))
    (λ r below. goes_on wanted parts r (p.wide r (omega (arith, below))) (p.more r (omega (arith, below))) (p.goes r (omega (arith, below)))) here in
    subst (λ (front : List ℕ). Writes wanted parts 0 (front ++ end_text end) (Some end)) (sym p.is_text)
    (subst (λ (whole : List ℕ). Writes wanted parts 0 whole (Some end)) (sym (append_assoc (blocks_text round wanted.shape parts) (block_text round wanted.shape parts) (end_text end))) first)

-- a block more
pub passes_more : (wanted : Wanted) (parts : List Told) (round : ℕ) (text : List ℕ) → Passes wanted parts round text → is_over_before round parts ≡ false →
    list_all (has_block round) parts ≡ true → CanSay round wanted.shape parts → is_narrow_at wanted round parts ≡ false → wanted.last round ≡ false →
    Passes wanted parts (round + 1) (text ++ block_text round wanted.shape parts)
unfolding blocks_text
passes_more wanted parts round text p before has said narrow last = record {
  has = λ r below. there (λ (r : ℕ). list_all (has_block r) parts ≡ true) r below p.has has;
  said = λ r below. there (λ (r : ℕ). CanSay r wanted.shape parts) r below p.said said;
  wide = λ r below. there (λ (r : ℕ). is_narrow_at wanted r parts ≡ false) r below p.wide narrow;
  more = λ r below. there (λ (r : ℕ). wanted.last r ≡ false) r below p.more last;
  goes = λ r below. all_go wanted parts round text p before r (omega (arith, below));
  is_text =
      let one : round + 1 ≡ suc round = omega arith in
      ap (λ (front : List ℕ). front ++ block_text round wanted.shape parts) p.is_text
      ∙ sym (ap (λ (n : ℕ). blocks_text n wanted.shape parts) one);
}
  where
    there : (P : ℕ → Type 0) (r : ℕ) → r < round + 1 → ((r : ℕ) → r < round → P r) → P round → P r
    there P r below all here = elim (cases_lt r round) [
      | inl less ↦ all r less
      | inr same ↦ subst (λ (n : ℕ). P n) (let e : round ≡ r = omega (arith, below, same) in e) here
    ]

-- ---- where it stands

put_longer : (told : Told) (parts : List Told) → length parts ≤ length (with_part told parts)
put_longer told [] = omega arith
put_longer told (part ∷ parts) =
    let rest = put_longer told parts in
    by_each (λ (o : Ordering). suc (length parts) ≤ length (by_order o (part ∷ with_part told parts) (told ∷ parts) (told ∷ part ∷ parts))) (against told.tag part)
    (λ e. omega (arith, rest)) (λ e. omega arith) (λ e. omega arith)

pub tell_behind : (task : Task) (parts : List Told) (lines : List (List ℕ)) (last : List Told) (line : List ℕ) (next : List Told) →
    Tell task parts lines last → TakesLine task last line next → Tell task parts (lines ++ line ∷ []) next
tell_behind task parts [] last line next h k = (next, subst (λ (ps : List Told). TakesLine task ps line next) h k, refl)
tell_behind task parts (first ∷ lines) last line next h k = (h.0, h.1, tell_behind task h.0 lines last line next h.2 k)

pub few_told : (task : Task) (parts : List Told) (lines : List (List ℕ)) (last : List Told) → length parts ≤ task.count → Tell task parts lines last →
    length last ≤ task.count
few_told task parts [] last few h = rw h few
few_told task parts (line ∷ lines) last few h = few_told task h.0 lines last h.1.few h.2

pub stands_combined : StandsIsCombined
unfolding blocks_text
stands_combined course lines text h = record { parts = h.parts; told = h.told; is_text = by_case course.end h.holds }
  where
    by_case : (end : Option ReportEnd) → Holds end course h.parts text → IsText course.task h.parts text end
    by_case None o = record {
      early = λ few. (o.ahead.passed.is_text ∙ ap (λ (n : ℕ). blocks_text n course.task.shape h.parts) (o.early few), refl);
      whole = λ all.
          let rest = o.rests all in
          subst (λ (t : List ℕ). Writes (wanted_of course.task) h.parts 0 t None) (append-nil text)
          (writes_rest (wanted_of course.task) h.parts course.round text [] None o.ahead.passed rest.goes (waits course.round rest.waits));
    }
    by_case (Some end) o = record { early = λ few. absurd (omega (arith, few, o.1)); whole = λ all. o.0 }

-- before the first line
pub first_stands : (course : Course) → course.parts ≡ [] → course.round ≡ 0 → course.end ≡ None → 0 < course.task.count → Stands course [] []
first_stands course p r e some = record {
  parts = [];
  told = refl;
  holds = subst (λ (end : Option ReportEnd). Holds end course [] []) (sym e) (record {
    ahead = record {
      kept = subst (λ (ps : List Told). AllTellFrom course.round [] ps) (sym p) tt;
      passed = subst (λ (n : ℕ). Passes (wanted_of course.task) [] n []) (sym r) (none_passed (wanted_of course.task) []);
    };
    early = λ few. r;
    rests = λ all. absurd (omega (arith, all, some));
  });
}

-- ---- a line more

-- the parts behind a line, and what was written of them
pub record IsReady (course : Course) (lines : List (List ℕ)) (text : List ℕ) : Type 0 where
  pub parts : List Told
  pub told : Tell course.task [] lines parts
  pub ahead : IsAhead course parts text
  pub early : length parts < course.task.count → course.round ≡ 0

pub longer : (query : List ℕ) (shape : Shape) (parts : List Told) (line : List ℕ) (next : List Told) → TakesTagged query shape parts line next →
    length parts ≤ length next
longer query shape parts line next h = rw h.put (put_longer h.told parts)

-- what was written of the parts before the line
passed_behind : (course : Course) (parts : List Told) (text line : List ℕ) (next : List Told) → IsOpen course parts text → length parts ≤ course.task.count →
    TakesLine course.task parts line next → Passes (wanted_of course.task) next course.round text
unfolding blocks_text
passed_behind course parts text line next opened most h = elim (cases_lt (length parts) course.task.count) [
  | inl early ↦
      let none = opened.early early in
      let empty : text ≡ [] = opened.ahead.passed.is_text ∙ ap (λ (n : ℕ). blocks_text n course.task.shape parts) none in
      subst (λ (t : List ℕ). Passes (wanted_of course.task) next course.round t) (sym empty)
      (subst (λ (n : ℕ). Passes (wanted_of course.task) next n []) (sym none) (none_passed (wanted_of course.task) next))
  | inr all ↦
      passes_on course.task.query (wanted_of course.task) parts next course.round text
      (all_reach course.task.query course.task.shape parts line next h.taken (omega (arith, all, h.few))) opened.ahead.passed
]

ready_here : (course : Course) (parts : List Told) (lines : List (List ℕ)) (text line : List ℕ) (next : List Told) (end : Option ReportEnd) →
    Tell course.task [] lines parts → IsOpen course parts text → TakesTagged course.task.query course.task.shape course.parts line next →
    (length course.parts ≤ course.task.count → length next ≤ course.task.count) →
    IsReady (record { task = course.task; parts = next; round = course.round; end = end }) (lines ++ line ∷ []) text
ready_here course parts lines text line next end told opened taken few =
    let task = course.task in
    let too = takes_tagged_too task.query task.shape course.round parts course.parts line next opened.ahead.kept taken in
    let most = few_told task [] lines parts (omega arith) told in
    let before = same_count course.round parts course.parts opened.ahead.kept in
    let behind = same_count course.round too.wholly next too.tells in
    let fewer = few (omega (arith, most, before)) in
    let takes : TakesLine task parts line too.wholly = record { taken = too.taken; few = omega (arith, fewer, behind) } in
    let more = longer task.query task.shape parts line too.wholly too.taken in
    record {
      parts = too.wholly;
      told = tell_behind task [] lines parts line too.wholly told takes;
      ahead = record { kept = too.tells; passed = passed_behind course parts text line too.wholly opened most takes };
      early = λ less. opened.early (omega (arith, less, more));
    }

remade : (old mid : Course) → mid.task ≡ old.task → mid.round ≡ old.round → record { task = old.task; parts = mid.parts; round = old.round; end = mid.end } ≡ mid
remade old mid t r = rw (sym t, sym r) refl

-- the parts have taken the line
pub ready_behind : (old mid : Course) (lines : List (List ℕ)) (text line : List ℕ) → old.end ≡ None → mid.task ≡ old.task → mid.round ≡ old.round →
    TakesTagged old.task.query old.task.shape old.parts line mid.parts → (length old.parts ≤ old.task.count → length mid.parts ≤ old.task.count) →
    Stands old lines text → IsReady mid (lines ++ line ∷ []) text
ready_behind old mid lines text line e t r taken few h =
    subst (λ (course : Course). IsReady course (lines ++ line ∷ []) text) (remade old mid t r)
    (ready_here old h.parts lines text line mid.parts mid.end h.told (subst (λ (end : Option ReportEnd). Holds end old h.parts text) e h.holds) taken few)

-- while lines of other parts are to come, nothing is written
pub waits_for_parts : (before : List ℕ) (mid : Course) (lines : List (List ℕ)) (text : List ℕ) → mid.end ≡ None → length mid.parts ≢ mid.task.count →
    IsReady mid lines text → Adds mid lines text before before
waits_for_parts before mid lines text e other h =
    let count = same_count mid.round h.parts mid.parts h.ahead.kept in
    record {
      more = [];
      put = sym (append-nil before);
      stands = subst (λ (t : List ℕ). Stands mid lines t) (sym (append-nil text)) (record {
        parts = h.parts;
        told = h.told;
        holds = subst (λ (end : Option ReportEnd). Holds end mid h.parts text) (sym e)
            (record { ahead = h.ahead; early = h.early; rests = λ all. absurd (other (count ∙ all)) });
      });
    }

-- ---- a round more

same_text : (from round : ℕ) (shape : Shape) (wholes parts : List Told) → from ≤ round → AllTellFrom from wholes parts →
    block_text round shape parts ≡ block_text round shape wholes
same_text from round shape wholes parts le h =
    ap (λ (block : Block). (round_words round ++ codes "\n") ++ block_lines shape.kinds block) (same_block_over from round shape wholes parts le h)

same_behind : (narrow last : Bool) (round : ℕ) (wholes parts : List Told) → AllTellFrom round wholes parts →
    end_behind narrow last round parts ≡ end_behind narrow last round wholes
same_behind narrow last round wholes parts h = rw (same_over_all round round wholes parts h, same_end_of_all round wholes parts h) refl

same_end_at : (wanted : Wanted) (round : ℕ) (wholes parts : List Told) → AllTellFrom round wholes parts → end_at wanted round parts ≡ end_at wanted round wholes
same_end_at wanted round wholes parts h =
    ap (λ (block : Block). end_behind (wanted.narrow block) (wanted.last round) round parts) (same_block_over round round wanted.shape wholes parts (omega arith) h)
    ∙ same_behind (is_narrow_at wanted round wholes) (wanted.last round) round wholes parts h

pub same_over_before : (from round : ℕ) (wholes parts : List Told) → AllTellFrom from wholes parts → is_over_before round parts ≡ is_over_before round wholes
same_over_before from zero wholes parts h = refl
same_over_before from (suc round) wholes parts h = same_over_all from round wholes parts h

ends_at : (wanted : Wanted) (parts : List Told) (round : ℕ) (end : ReportEnd) → list_all (has_block round) parts ≡ true → CanSay round wanted.shape parts →
    end_at wanted round parts ≡ Some end → Writes wanted parts round (block_text round wanted.shape parts ++ end_text end) (Some end)
ends_at wanted parts round end has said there = ends round end has said there

-- the block of the round is the last
pub round_ends : (old new : Course) (wholes : List Told) (text before : List ℕ) (end : ReportEnd) → new.task ≡ old.task → new.end ≡ Some end →
    IsAhead old wholes text → is_over_before old.round wholes ≡ false → list_all (has_block old.round) old.parts ≡ true →
    CanSay old.round old.task.shape old.parts → end_at (wanted_of old.task) old.round old.parts ≡ Some end →
    Moves new wholes text before ((before ++ block_text old.round old.task.shape old.parts) ++ end_text end)
round_ends old new wholes text before end t e ahead goes has said there =
    let wanted = wanted_of old.task in
    let block = block_text old.round old.task.shape old.parts in
    let same = same_text old.round old.round old.task.shape wholes old.parts (omega arith) ahead.kept in
    let has_all : list_all (has_block old.round) wholes ≡ true = sym (same_has old.round old.round wholes old.parts ahead.kept) ∙ has in
    let there_too : end_at wanted old.round wholes ≡ Some end = sym (same_end_at wanted old.round wholes old.parts ahead.kept) ∙ there in
    let last : Writes wanted wholes old.round (block_text old.round old.task.shape wholes ++ end_text end) (Some end) =
    ends_at wanted wholes old.round end has_all (said_too old.round old.task.shape wholes old.parts ahead.kept said) there_too in
    let whole : Writes wanted wholes 0 (text ++ (block ++ end_text end)) (Some end) =
    subst (λ (b : List ℕ). Writes wanted wholes 0 (text ++ (b ++ end_text end)) (Some end)) (sym same)
    (writes_rest wanted wholes old.round text (block_text old.round old.task.shape wholes ++ end_text end) (Some end) ahead.passed goes last) in
    record {
      more = block ++ end_text end;
      put = append_assoc before block (end_text end);
      written = subst (λ (o : Option ReportEnd). IsWritten o new wholes (text ++ (block ++ end_text end))) (sym e)
          (subst (λ (task : Task). Writes (wanted_of task) wholes 0 (text ++ (block ++ end_text end)) (Some end)) (sym t) whole);
    }

pub record AreOpen (n l o : Bool) : Type 0 where
  pub narrow : n ≡ false
  pub last : l ≡ false
  pub over : o ≡ false

open_parts : (narrow last over : Bool) (end : ReportEnd) →
    (if narrow then Some Narrow else if last then Some Rounds else if over then Some end else None) ≡ None → AreOpen narrow last over
open_parts true last over end h = absurd (none-some _ (sym h))
open_parts false true over end h = absurd (none-some _ (sym h))
open_parts false false true end h = absurd (none-some _ (sym h))
open_parts false false false end h = record { narrow = refl; last = refl; over = refl }

-- where no end stands behind the block, a part goes on
pub more_behind : (wanted : Wanted) (round : ℕ) (parts : List Told) → end_at wanted round parts ≡ None → list_all (is_over round) parts ≡ false
more_behind wanted round parts none = (open_parts (is_narrow_at wanted round parts) (wanted.last round) (list_all (is_over round) parts) (end_of_all parts) none).over

-- the report goes on behind the block of the round
pub round_goes : (old new : Course) (wholes : List Told) (text before : List ℕ) → new.task ≡ old.task → new.end ≡ None → GoesOnTo old new →
    IsAhead old wholes text → is_over_before old.round wholes ≡ false → list_all (has_block old.round) old.parts ≡ true →
    CanSay old.round old.task.shape old.parts → end_at (wanted_of old.task) old.round old.parts ≡ None → Moves new wholes text before (before ++ block_text old.round old.task.shape old.parts)
round_goes old new wholes text before t e on ahead goes has said none =
    let wanted = wanted_of old.task in
    let block = block_text old.round old.task.shape old.parts in
    let same = same_text old.round old.round old.task.shape wholes old.parts (omega arith) ahead.kept in
    let opened = open_parts (is_narrow_at wanted old.round wholes) (wanted.last old.round) (list_all (is_over old.round) wholes) (end_of_all wholes)
    (sym (same_end_at wanted old.round wholes old.parts ahead.kept) ∙ none) in
    let more = passes_more wanted wholes old.round text ahead.passed goes (sym (same_has old.round old.round wholes old.parts ahead.kept) ∙ has)
    (said_too old.round old.task.shape wholes old.parts ahead.kept said) opened.narrow opened.last in
    let next : suc old.round ≡ new.round = omega (arith, on.round) in
    record {
      more = block;
      put = refl;
      written = subst (λ (o : Option ReportEnd). IsWritten o new wholes (text ++ block)) (sym e) (
        record {
          kept = all_both old.round new.round wholes old.parts new.parts (omega (arith, on.round)) ahead.kept on.kept;
          passed = subst (λ (task : Task). Passes (wanted_of task) wholes new.round (text ++ block)) (sym t)
              (subst (λ (n : ℕ). Passes wanted wholes n (text ++ block)) (sym on.round) (subst (λ (b : List ℕ). Passes wanted wholes (old.round + 1) (text ++ b)) (sym same) more));
        },
        subst (λ (n : ℕ). is_over_before n wholes ≡ false) next opened.over,
      );
    }

-- ---- all that stands

-- nothing was put yet
pub moves_none : (course : Course) (wholes : List Told) (text before : List ℕ) → course.end ≡ None → IsAhead course wholes text →
    is_over_before course.round course.parts ≡ false → Moves course wholes text before before
moves_none course wholes text before e ahead goes = record {
  more = [];
  put = sym (append-nil before);
  written = subst (λ (o : Option ReportEnd). IsWritten o course wholes (text ++ [])) (sym e)
      (subst (λ (t : List ℕ). IsAhead course wholes t × (is_over_before course.round wholes ≡ false)) (sym (append-nil text))
      (ahead, sym (same_over_before course.round course.round wholes course.parts ahead.kept) ∙ goes));
}

-- one thing put behind another
pub moves_both : (old new : Course) (wholes : List Told) (text before mid after : List ℕ) → old.end ≡ None → Moves old wholes text before mid →
    ((t : List ℕ) → IsAhead old wholes t → is_over_before old.round wholes ≡ false → Moves new wholes t mid after) → Moves new wholes text before after
moves_both old new wholes text before mid after e first follows =
    let opened = subst (λ (o : Option ReportEnd). IsWritten o old wholes (text ++ first.more)) e first.written in
    let second = follows (text ++ first.more) opened.0 opened.1 in
    record {
      more = first.more ++ second.more;
      put = second.put ∙ ap (λ (t : List ℕ). t ++ second.more) first.put ∙ append_assoc before first.more second.more;
      written = subst (λ (t : List ℕ). IsWritten new.end new wholes t) (append_assoc text first.more second.more) second.written;
    }

-- the last block that was written was the last
pub over_ends : (old new : Course) (wholes : List Told) (text before : List ℕ) → new.task ≡ old.task → new.end ≡ Some (end_of_all old.parts) →
    is_over_before old.round old.parts ≡ true → IsAhead old wholes text → Rests new wholes text before (before ++ end_text (end_of_all old.parts))
over_ends old new wholes text before t e over ahead =
    let wanted = wanted_of old.task in
    let same = same_end_of_all old.round wholes old.parts ahead.kept in
    let end = end_of_all old.parts in
    let whole : Writes wanted wholes 0 (text ++ end_text end) (Some end) =
    subst (λ (r : ReportEnd). Writes wanted wholes 0 (text ++ end_text r) (Some r)) (sym same)
    (writes_over wanted wholes old.round text ahead.passed (sym (same_over_before old.round old.round wholes old.parts ahead.kept) ∙ over)) in
    record {
      moves = record {
        more = end_text end;
        put = refl;
        written = subst (λ (o : Option ReportEnd). IsWritten o new wholes (text ++ end_text end)) (sym e)
            (subst (λ (task : Task). Writes (wanted_of task) wholes 0 (text ++ end_text end) (Some end)) (sym t) whole);
      };
      rests = λ none. absurd (none-some end (sym none ∙ e));
    }

-- the line was taken, and what stands is written
pub adds_rests : (mid new : Course) (lines : List (List ℕ)) (text before after : List ℕ) → new.task ≡ mid.task → length mid.parts ≡ mid.task.count →
    ((wholes : List Told) (t : List ℕ) → IsAhead mid wholes t → Rests new wholes t before after) → IsReady mid lines text → Adds new lines text before after
adds_rests mid new lines text before after t all writes h =
    let done = writes h.parts text h.ahead in
    let whole : length h.parts ≡ new.task.count = sym (same_count mid.round h.parts mid.parts h.ahead.kept) ∙ all ∙ sym (ap (λ (task : Task). task.count) t) in
    record {
      more = done.moves.more;
      put = done.moves.put;
      stands = record {
        parts = h.parts;
        told = subst (λ (task : Task). Tell task [] lines h.parts) (sym t) h.told;
        holds = by_case new.end refl whole done.moves.written done.rests;
      };
    }
  where
    by_case : (end : Option ReportEnd) → new.end ≡ end → length h.parts ≡ new.task.count → IsWritten end new h.parts (text ++ (writes h.parts text h.ahead).moves.more) →
        (new.end ≡ None → list_all (has_block new.round) h.parts ≡ false) → Holds end new h.parts (text ++ (writes h.parts text h.ahead).moves.more)
    by_case None e whole written rests = record {
      ahead = written.0;
      early = λ few. absurd (omega (arith, few, whole));
      rests = λ all. record { waits = rests e; goes = written.1 };
    }
    by_case (Some end) e whole written rests = (written, whole)

-- ---- a block that is not written

pub stops_here : (why : BlockFault) (old : Course) (wholes : List Told) (text before : List ℕ) → list_all (has_block old.round) old.parts ≡ true →
    IsBlockFault why old.round old.task.shape old.parts → IsAhead old wholes text → is_over_before old.round wholes ≡ false →
    StopsBy why old.task wholes text before before
stops_here why old wholes text before has fault ahead goes = by_case why (block_fault_too why old.round old.task.shape wholes old.parts ahead.kept fault)
  where
    stopped : (why : BlockFault) → IsBlockFault why old.round old.task.shape wholes → Stops old.task wholes text before before why
    stopped why refused = record {
      round = old.round;
      more = [];
      put = sym (append-nil before);
      passed = subst (λ (t : List ℕ). Passes (wanted_of old.task) wholes old.round t) (sym (append-nil text)) ahead.passed;
      goes = goes;
      has = sym (same_has old.round old.round wholes old.parts ahead.kept) ∙ has;
      fault = refused;
    }

    by_case : (why : BlockFault) → IsBlockFault why old.round old.task.shape wholes → StopsBy why old.task wholes text before before
    by_case (OtherColumn column) refused = stopped (OtherColumn column) refused
    by_case (OtherItem item) refused = stopped (OtherItem item) refused
    by_case (TooWide item) refused = stopped (TooWide item) refused
    by_case (UnclearTag part) refused = stopped (UnclearTag part) refused
    by_case OtherForm refused = stopped OtherForm refused
    by_case NoMemory refused = tt

-- behind what was put before
pub stops_behind : (why : BlockFault) (task : Task) (wholes : List Told) (text more before mid after : List ℕ) → mid ≡ before ++ more →
    StopsBy why task wholes (text ++ more) mid after → StopsBy why task wholes text before after
stops_behind why task wholes text more before mid after put h = by_case why h
  where
    stopped : (why : BlockFault) → Stops task wholes (text ++ more) mid after why → Stops task wholes text before after why
    stopped why h = record {
      round = h.round;
      more = more ++ h.more;
      put = h.put ∙ ap (λ (t : List ℕ). t ++ h.more) put ∙ append_assoc before more h.more;
      passed = subst (λ (t : List ℕ). Passes (wanted_of task) wholes h.round t) (append_assoc text more h.more) h.passed;
      goes = h.goes;
      has = h.has;
      fault = h.fault;
    }

    by_case : (why : BlockFault) → StopsBy why task wholes (text ++ more) mid after → StopsBy why task wholes text before after
    by_case (OtherColumn column) h = stopped (OtherColumn column) h
    by_case (OtherItem item) h = stopped (OtherItem item) h
    by_case (TooWide item) h = stopped (TooWide item) h
    by_case (UnclearTag part) h = stopped (UnclearTag part) h
    by_case OtherForm h = stopped OtherForm h
    by_case NoMemory h = tt

pub line_fault : (why : InputFault) (old : Course) (lines : List (List ℕ)) (text line : List ℕ) → old.end ≡ None →
    IsRefused why old.task.query old.task.shape old.task.count old.parts line → Stands old lines text → IsLineFault old.task lines line why
line_fault why old lines text line e refused h =
    let opened : IsOpen old h.parts text = subst (λ (end : Option ReportEnd). Holds end old h.parts text) e h.holds in
    record {
      parts = h.parts;
      told = h.told;
      refused = refused_too why old.task.query old.task.shape old.task.count old.round h.parts old.parts line opened.ahead.kept refused;
    }

pub stopped_behind : (why : BlockFault) (old mid : Course) (lines : List (List ℕ)) (text before after : List ℕ) → mid.task ≡ old.task →
    length mid.parts ≡ mid.task.count →
    ((wholes : List Told) (t : List ℕ) → IsAhead mid wholes t → StopsBy why mid.task wholes t before after) → IsReady mid lines text →
    IsStopped old.task lines text before after why
stopped_behind why old mid lines text before after t all stops h =
    subst (λ (task : Task). IsStopped task lines text before after why) t (record {
      parts = h.parts;
      told = h.told;
      all = sym (same_count mid.round h.parts mid.parts h.ahead.kept) ∙ all;
      stops = stops h.parts text h.ahead;
    })

-- ---- the rounds come to an end

abbrev pub longest : List Told → ℕ
longest [] = 0
longest (part ∷ parts) = max (length part.blocks) (longest parts)

same_longest : (from : ℕ) (wholes parts : List Told) → AllTellFrom from wholes parts → longest parts ≡ longest wholes
same_longest from [] [] h = refl
same_longest from [] (part ∷ parts) h = absurd h
same_longest from (whole ∷ wholes) [] h = absurd h
same_longest from (whole ∷ wholes) (part ∷ parts) h = rw (h.0.count, same_longest from wholes parts h.1) refl

-- a part that is not over, and tells what it knows in the round, has a block for it
own_block : (ended : Bool) (round count : ℕ) → (ended && nat_le count (round + 1)) ≡ false → (ended || nat_lt (round + 1) count) ≡ true → round + 1 < count
own_block true round count over has = grind (arith, nat_tests)
own_block false round count over has = grind (arith, nat_tests)

longer_by : (round count rest : ℕ) (own : Bool) (others : Bool) → (own && others) ≡ false → (own ≡ false → round < count) → (others ≡ false → round < rest) →
    round < max count rest
longer_by round count rest true others e here there = let less = there e in omega (arith, less)
longer_by round count rest false others e here there = let less = here refl in omega (arith, less)

behind_longest : (round : ℕ) (parts : List Told) → list_all (is_over round) parts ≡ false → list_all (has_block (round + 1)) parts ≡ true → round + 1 < longest parts
behind_longest round [] over has = absurd (false≢true (sym over))
behind_longest round (part ∷ parts) over has =
    let both = and_parts (has_block (round + 1) part) (list_all (has_block (round + 1)) parts) has in
    longer_by (round + 1) (length part.blocks) (longest parts) (is_over round part) (list_all (is_over round) parts) over
    (λ e. own_block (is_ended part.place) round (length part.blocks) e both.0) (λ e. behind_longest round parts e both.1)

round_below : (round : ℕ) (parts : List Told) → is_over_before round parts ≡ false → list_all (has_block round) parts ≡ true → round ≤ longest parts
round_below zero parts over has = omega arith
round_below (suc round) parts over has =
    let e : suc round ≡ round + 1 = omega arith in
    let less = behind_longest round parts over (subst (λ (n : ℕ). list_all (has_block n) parts ≡ true) e has) in
    omega (arith, less)

abbrev pub left_by : Option ReportEnd → ℕ → ℕ
left_by None left = left
left_by (Some end) left = 0

-- how many rounds may be left
abbrev pub rounds_left : Course → ℕ
rounds_left course = left_by course.end (longest course.parts + 1 - course.round)

pub left_less : (old new : Course) → old.end ≡ None → is_over_before old.round old.parts ≡ false → list_all (has_block old.round) old.parts ≡ true →
    (new.end ≡ None → GoesOnTo old new) → rounds_left new < rounds_left old
left_less old new e over has on =
    let below = round_below old.round old.parts over has in
    subst (λ (o : Option ReportEnd). left_by new.end (longest new.parts + 1 - new.round) < left_by o (longest old.parts + 1 - old.round)) (sym e) (by_case new.end refl below)
  where
    by_case : (end : Option ReportEnd) → new.end ≡ end → old.round ≤ longest old.parts → left_by end (longest new.parts + 1 - new.round) < longest old.parts + 1 - old.round
    by_case None none below =
        let next = on none in
        let same = same_longest new.round old.parts new.parts next.kept in
        omega (arith, below, next.round, same)
    by_case (Some end) some below = omega (arith, below)

-- ---- what calls give

-- where two things are so at the end, so is what follows from both
pub ok_both : {E : Type 0} {P Q R : Type 0} (r : Result (Unit {0}) E) → OnOk r P → OnOk r Q → (P → Q → R) → OnOk r R
ok_both (Ok done) p q f = f p q
ok_both (Err why) p q f = tt

-- the block and the end are put behind the text
pub wrote_end : (old new : Course) (end : ReportEnd) (r : Result (Unit {0}) BlockFault) (before mid after block : List ℕ) → new.task ≡ old.task →
    mid ≡ before ++ block → block ≡ block_text old.round old.task.shape old.parts → OnOk r (new.end ≡ Some end) → OnOk r (after ≡ mid ++ end_text end) →
    list_all (has_block old.round) old.parts ≡ true → CanSay old.round old.task.shape old.parts →
    end_at (wanted_of old.task) old.round old.parts ≡ Some end →
    OnOk r ((wholes : List Told) (text : List ℕ) → IsAhead old wholes text → is_over_before old.round wholes ≡ false → Moves new wholes text before after)
wrote_end old new end r before mid after block t m b ended put has said last =
    ok_both r ended put (λ e p wholes text ahead goes.
    let whole : after ≡ (before ++ block_text old.round old.task.shape old.parts) ++ end_text end =
    p ∙ ap (λ (x : List ℕ). x ++ end_text end) (m ∙ ap (λ (x : List ℕ). before ++ x) b) in
    subst (λ (x : List ℕ). Moves new wholes text before x) (sym whole) (round_ends old new wholes text before end t e ahead goes has said last))

pub on_goes : (old new : Course) (r : Result (Unit {0}) BlockFault) → OnOk r (new.round ≡ old.round + 1) → OnOk r (AllTellFrom new.round old.parts new.parts) →
    end_at (wanted_of old.task) old.round old.parts ≡ None → OnOk r (GoesOnTo old new)
on_goes old new r round kept none =
    ok_both r round kept (λ e k. record { round = e; kept = k; more = more_behind (wanted_of old.task) old.round old.parts none })

pub wrote_block : (old new : Course) (r : Result (Unit {0}) BlockFault) (before mid block : List ℕ) → new.task ≡ old.task → new.end ≡ None →
    mid ≡ before ++ block → block ≡ block_text old.round old.task.shape old.parts → OnOk r (GoesOnTo old new) →
    list_all (has_block old.round) old.parts ≡ true → CanSay old.round old.task.shape old.parts →
    end_at (wanted_of old.task) old.round old.parts ≡ None →
    OnOk r ((wholes : List Told) (text : List ℕ) → IsAhead old wholes text → is_over_before old.round wholes ≡ false → Moves new wholes text before mid)
wrote_block old new r before mid block t e m b on has said none =
    ok_both r on on (λ g h wholes text ahead goes.
    let whole : mid ≡ before ++ block_text old.round old.task.shape old.parts = m ∙ ap (λ (x : List ℕ). before ++ x) b in
    subst (λ (x : List ℕ). Moves new wholes text before x) (sym whole) (round_goes old new wholes text before t e g ahead goes has said none))

pub wrote_over : (old new : Course) (end : ReportEnd) (r : Result (Unit {0}) BlockFault) (before after : List ℕ) → new.task ≡ old.task →
    end ≡ end_of_all old.parts → is_over_before old.round old.parts ≡ true → OnOk r (new.end ≡ Some end) → OnOk r (after ≡ before ++ end_text end) →
    OnOk r ((wholes : List Told) (text : List ℕ) → IsAhead old wholes text → Rests new wholes text before after)
wrote_over old new end r before after t same over ended put =
    ok_both r ended put (λ e p wholes text ahead.
    let whole : after ≡ before ++ end_text (end_of_all old.parts) = p ∙ ap (λ (x : ReportEnd). before ++ end_text x) same in
    subst (λ (x : List ℕ). Rests new wholes text before x) (sym whole)
    (over_ends old new wholes text before t (e ∙ ap (λ (x : ReportEnd). Some x) same) over ahead))

-- the rounds have come to an end
pub rounds_rest : (old new : Course) (before after : List ℕ) → (is_none new.end && list_all (has_block new.round) new.parts) ≡ false →
    ((wholes : List Told) (text : List ℕ) → IsAhead old wholes text → Moves new wholes text before after) →
    (wholes : List Told) (text : List ℕ) → IsAhead old wholes text → Rests new wholes text before after
rounds_rest old new before after test moves wholes text ahead =
    let done = moves wholes text ahead in
    record {
      moves = done;
      rests = λ none.
          let opened = subst (λ (o : Option ReportEnd). IsWritten o new wholes (text ++ done.more)) none done.written in
          sym (same_has new.round new.round wholes new.parts opened.0.kept)
          ∙ subst (λ (o : Option ReportEnd). (is_none o && list_all (has_block new.round) new.parts) ≡ false) none test;
    }

-- a round more was written
pub rounds_move : (old mid new : Course) (before between after : List ℕ) → mid.end ≡ None →
    ((wholes : List Told) (text : List ℕ) → IsAhead old wholes text → Moves mid wholes text before between) →
    ((wholes : List Told) (text : List ℕ) → IsAhead mid wholes text → is_over_before mid.round wholes ≡ false → Moves new wholes text between after) →
    (wholes : List Told) (text : List ℕ) → IsAhead old wholes text → Moves new wholes text before after
rounds_move old mid new before between after e first second wholes text ahead =
    moves_both mid new wholes text before between after e (first wholes text ahead) (λ t here goes. second wholes t here goes)

-- a block more is not written
pub rounds_stop : (why : BlockFault) (old mid : Course) (before between after : List ℕ) → mid.task ≡ old.task → mid.end ≡ None →
    ((wholes : List Told) (text : List ℕ) → IsAhead old wholes text → Moves mid wholes text before between) →
    ((wholes : List Told) (text : List ℕ) → IsAhead mid wholes text → is_over_before mid.round wholes ≡ false → StopsBy why mid.task wholes text between after) →
    (wholes : List Told) (text : List ℕ) → IsAhead old wholes text → StopsBy why old.task wholes text before after
rounds_stop why old mid before between after t e moves stops wholes text ahead =
    let done = moves wholes text ahead in
    let opened = subst (λ (o : Option ReportEnd). IsWritten o mid wholes (text ++ done.more)) e done.written in
    subst (λ (task : Task). StopsBy why task wholes text before after) t
    (stops_behind why mid.task wholes text done.more before between after done.put (stops wholes (text ++ done.more) opened.0 opened.1))

-- the round that follows is not behind the last, where the report goes on
pub still_goes : (old new : Course) → GoesOnTo old new → is_over_before new.round new.parts ≡ false
still_goes old new on =
    let next : suc old.round ≡ new.round = omega (arith, on.round) in
    subst (λ (n : ℕ). is_over_before n new.parts ≡ false) next (same_over_all new.round old.round old.parts new.parts on.kept ∙ on.more)

pub round_stands : (o : Option ReportEnd) (b : Bool) → (is_none o && b) ≡ true → (o ≡ None) × (b ≡ true)
round_stands None b h = (refl, h)
round_stands (Some end) b h = absurd (false≢true h)

pub same_number : (a b : ℕ) → (a == b) ≡ true → a ≡ b
same_number a b e = grind (arith, nat_tests)

pub other_number : (a b : ℕ) → (a == b) ≡ false → a ≢ b
other_number a b e = λ same. absurd (false≢true (sym e ∙ is_same a b same))
  where
    is_same : (a b : ℕ) → a ≡ b → (a == b) ≡ true
    is_same a b e = grind (arith, nat_tests)
