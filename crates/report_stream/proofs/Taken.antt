-- That a line which the parts take is not refused.
use Rattle.std.proofs.Common.{◌≡◌, ◌≢◌, Option, ℕ, zero, suc, ◌+◌, ◌<◌, ◌≤◌, nat_lt, ◌==◌, Bool, true, false, List, [], ◌∷◌, ◌++◌, length, codes, decimal, refl, sym, ap, ◌∙◌, subst, inl, inr, arith, length-append}
use Rattle.std.proofs.lemmas.Bool.Decides.{nat_tests}
use Rattle.std.proofs.lemmas.List.{drop_all}
use Rattle.std.specs.List.{position_or_len}
use Rattle.std.specs.declared.cmp.Ordering.{Ordering}
use Rattle.std.specs.declared.cmp.Ordering.TheVariants.{Less, Equal, Greater}
use Rattle.query_kinds.specs.Kinds.{Asks}
use Rattle.query_model.specs.declared.query.ItemKind.{ItemKind}
use Rattle.report_text.specs.TextAnswers.{text_of}
use Rattle.report_text.specs.Answers.{answer_text}
use Rattle.report_text.specs.Extras.{IsRowsLine, extra_text}
use Rattle.report_text.specs.Lines.{end_line}
use Rattle.report_text.specs.RowBlocks.{TakesRows}
use Rattle.report_text.specs.declared.lines.ReportEnd.{ReportEnd}
use Rattle.report_text.specs.declared.lines.ReportEnd.TheVariants.{Narrow, Reads, Rounds}
use Rattle.report_parts.proofs.Courses.{tag_of_told, tag_stays}
use Rattle.report_parts.proofs.Ordered.{absent_none}
use Rattle.report_parts.proofs.Reached.{as_stops, never_combined}
use Rattle.report_parts.proofs.Stays.{follows}
use Rattle.report_parts.proofs.Telling.{telling_one, tells_split}
use Rattle.report_parts.specs.Course.{Combines, IsLineFault, IsStopped, TakesLine, Task, Tell}
use Rattle.report_parts.specs.Tags.{HasTab, IsRefused, IsTag, against, behind_tag, by_order, part_at, tag_of, told_of, with_part}
use Rattle.report_parts.specs.Told.{GoesOn, GroupsGoOn, ListsRow, TakesAt, TakesBehindAnswer, TakesRest, Told, block_done, closed, completed, nothing_told}
use Rattle.report_parts.specs.declared.fault.BlockFault.{BlockFault}
use Rattle.report_parts.specs.declared.fault.BlockFault.TheVariants as b
use Rattle.report_parts.specs.declared.fault.InputFault.{InputFault}
use Rattle.report_parts.specs.declared.fault.InputFault.TheVariants as i
use Rattle.report_parts.specs.declared.fault.LineFault.TheVariants as l
use Rattle.report_parts.specs.declared.part.Place.{Place}
use Rattle.report_parts.specs.declared.part.Place.TheVariants.{Query, Opened, Round, Group, Items, Row, Ended}
use Rattle.report_parts.specs.declared.shape.Shape.{Shape}
use Rattle.report_stream.specs.Streams.{IsShapeOf}

-- ---- a line without a tab

none_before : (a b : ℕ) → nat_lt a b ≡ false → b ≤ a + 1
none_before a b e = grind (arith, nat_tests)

pub no_tab : (line : List ℕ) → ¬ HasTab line → behind_tag line ≡ []
no_tab line none = by (nat_lt (position_or_len (λ c. c == 9) line) (length line)) refl
  where
    by : (b : Bool) → nat_lt (position_or_len (λ c. c == 9) line) (length line) ≡ b → behind_tag line ≡ []
    by true e = absurd (none (position_or_len (λ c. c == 9) line, rw e refl))
    by false e = drop_all (position_or_len (λ c. c == 9) line + 1) line (none_before (position_or_len (λ c. c == 9) line) (length line) e)

asks_some : (query : List ℕ) (kinds : List ItemKind) (columns : ℕ) → Asks query kinds columns → query ≢ []
asks_some query kinds columns asks none = absurd (let e : [] ≡ codes "query " ++ asks.is_line.text = sym none ∙ asks.is_line.spelled in cc)

-- a line that asks for blocks of some shape is not empty
pub shape_some : (query : List ℕ) (shape : Shape) → IsShapeOf query shape → query ≢ []
shape_some query shape (inl items) none = asks_some query shape.kinds shape.columns items.asks none
shape_some query shape (inr rows) none =
    absurd (let e : [] ≡ codes "query " ++ rows.asks.is_line.text = sym none ∙ rows.asks.is_line.spelled in cc)

-- no line of an item is empty
none_spelled : (number : ℕ) (text : List ℕ) → decimal number ++ (codes " " ++ text) ≡ [] → ⊥
none_spelled number text e =
    let long : length (decimal number ++ (codes " " ++ text)) ≡ 0 = ap length e in
    let parts : length (decimal number ++ (codes " " ++ text)) ≡ length (decimal number) + length (codes " " ++ text) = length-append (decimal number) (codes " " ++ text) in
    omega (arith, long, parts)

none_rows : (number : ℕ) → IsRowsLine number [] → ⊥
none_rows number h = none_spelled number h.text (sym h.split)

none_goes_on : (shape : Shape) (told next : Told) → GoesOn shape told [] next → ⊥
none_goes_on shape told next (inl h) = absurd (let e = h.is_round.split in cc)
none_goes_on shape told next (inr h) = by h.end h.is_line
  where
    by : (end : ReportEnd) → end_line end ≡ [] → ⊥
    by Narrow e = absurd cc
    by Rounds e = absurd cc
    by Reads e = absurd cc

none_groups : (shape : Shape) (told whole next : Told) → GroupsGoOn shape told whole [] next → ⊥
none_groups shape told whole next (inl h) = absurd (let e = h.is_line in cc)
none_groups shape told whole next (inr h) = none_goes_on shape whole next h

none_row : (shape : Shape) (told next : Told) → ListsRow shape told [] next → ⊥
none_row shape told next h = by h.taken
  where
    by : TakesRows h.asked.limit told.rows [] h.rows → ⊥
    by (inl k) = absurd (let e = k.1.is_line in cc)
    by (inr (inl k)) = absurd (let e = k.1.is_line in cc)
    by (inr (inr k)) = absurd (let e = k.0.is_line in cc)

none_rest : (shape : Shape) (told next : Told) → TakesRest shape told [] next → ⊥
none_rest shape told next (inl h) = none_rows (length told.current) h.is_line
none_rest shape told next (inr h) = none_groups shape (closed told) (completed told) next h.1.goes_on

none_behind : (shape : Shape) (told next : Told) → TakesBehindAnswer shape told [] next → ⊥
none_behind shape told next (inl (inl h)) = none_spelled (length told.current) (extra_text h.kind h.extra) h.is_next.is_line
none_behind shape told next (inl (inr h)) = none_spelled (length told.current) (codes "clip " ++ text_of h.1.clip) h.1.is_next.is_line
none_behind shape told next (inr h) = none_rest shape told next h.1

-- no report has an empty line
no_empty : (place : Place) (query : List ℕ) (shape : Shape) (told next : Told) → query ≢ [] → TakesAt place query shape told [] next → ⊥
no_empty Query query shape told next some h = some h.is_query
no_empty Opened query shape told next some (inl h) = absurd (let e = h.is_line in cc)
no_empty Opened query shape told next some (inr h) = absurd (let e = h.is_round.split in cc)
no_empty Round query shape told next some (inl h) = none_goes_on shape told next h
no_empty Round query shape told next some (inr h) = none_rows (length shape.kinds) h.1.is_line
no_empty Group query shape told next some (inl h) = none_groups shape told (block_done told) next h
no_empty Group query shape told next some (inr h) = none_rows (length shape.kinds) h.1.passes.is_line
no_empty Items query shape told next some (inl (inl h)) = none_spelled (length told.current + 1) (answer_text h.answer) h.is_next.is_line
no_empty Items query shape told next some (inl (inr h)) = none_spelled (length told.current + 1) (text_of h.1.text) h.1.is_next.is_line
no_empty Items query shape told next some (inr h) = none_behind shape told next h.1
no_empty Row query shape told next some h = none_row shape told next h
no_empty (Ended end) query shape told next some h = absurd h

-- ---- a part more

each_way : (P : List Told → Type 0) (o : Ordering) (a b c : List Told) → P a → P b → P c → P (by_order o a b c)
each_way P Less a b c x y z = x
each_way P Equal a b c x y z = y
each_way P Greater a b c x y z = z

abbrev pub AllStarted : List Told → Type 0
AllStarted [] = Unit {0}
AllStarted (part ∷ parts) = (part.place ≢ Query) × AllStarted parts

put_started : (told : Told) (parts : List Told) → told.place ≢ Query → AllStarted parts → AllStarted (with_part told parts)
put_started told [] h all = (h, tt)
put_started told (part ∷ parts) h all =
    each_way AllStarted (against told.tag part) (part ∷ with_part told parts) (told ∷ parts) (told ∷ part ∷ parts) (all.0, put_started told parts h all.1) (h, all.1) (h, all)

pub tell_started : (task : Task) (parts : List Told) (lines : List (List ℕ)) (last : List Told) → AllStarted parts → Tell task parts lines last → AllStarted last
tell_started task parts [] last all h = subst AllStarted (sym h) all
tell_started task parts (line ∷ lines) last all h =
    let own = told_of (tag_of line) parts in
    let taken = h.1.taken in
    tell_started task h.0 lines last
    (subst AllStarted (sym taken.put) (put_started taken.told parts (follows own.place task.query task.shape own (behind_tag line) taken.told refl taken.taken).begun all)) h.2

-- where no part has told anything by that tag, it is one part more
pub new_part : (told : Told) (parts : List Told) → AllStarted parts → told_of told.tag parts ≡ nothing_told told.tag → length (with_part told parts) ≡ suc (length parts)
new_part told [] all none = refl
new_part told (part ∷ parts) all none = by (against told.tag part) (new_part told parts all.1) none
  where
    by : (o : Ordering) → (told_of told.tag parts ≡ nothing_told told.tag → length (with_part told parts) ≡ suc (length parts)) →
        by_order o (told_of told.tag parts) part (nothing_told told.tag) ≡ nothing_told told.tag →
        length (by_order o (part ∷ with_part told parts) (told ∷ parts) (told ∷ part ∷ parts)) ≡ suc (suc (length parts))
    by Less rest e = ap suc (rest e)
    by Equal rest e = absurd (all.0 (ap (λ (t : Told). t.place) e))
    by Greater rest e = refl

-- ---- a line that is taken

pub not_refused : (fault : InputFault) (task : Task) (parts : List Told) (line : List ℕ) (next : List Told) → task.query ≢ [] → AllStarted parts →
    TakesLine task parts line next → fault ≢ i.Line l.NoMemory → IsRefused fault task.query task.shape task.count parts line → ⊥
not_refused i.NoTab task parts line next some all h memory none =
    let own = told_of (tag_of line) parts in
    let taken : TakesAt own.place task.query task.shape own [] h.taken.told =
    subst (λ (v : List ℕ). TakesAt own.place task.query task.shape own v h.taken.told) (no_tab line none) h.taken.taken in
    no_empty own.place task.query task.shape own h.taken.told some taken
not_refused i.NoTag task parts line next some all h memory (tab, none) = none h.taken.is_tag
not_refused i.OtherPart task parts line next some all h memory (tagged, (many, absent)) =
    let own = told_of (tag_of line) parts in
    let told = h.taken.told in
    let tag : told.tag ≡ tag_of line = tag_stays task.query task.shape own (behind_tag line) told h.taken.taken ∙ tag_of_told (tag_of line) parts in
    let mine : told_of told.tag parts ≡ nothing_told told.tag = subst (λ (t : List ℕ). told_of t parts ≡ nothing_told t) (sym tag) (absent_none (tag_of line) parts absent) in
    let grown = new_part told parts all mine in
    let long : length next ≡ length (with_part told parts) = ap length h.taken.put in
    let few = h.few in
    omega (arith, grown, long, few, many)
not_refused (i.Line l.OtherQuery) task parts line next some all h memory (tagged, few, (place, cannot)) = cannot h.taken.told h.taken.taken
not_refused (i.Line l.Unlisted) task parts line next some all h memory (tagged, few, (lacks, cannot)) = cannot h.taken.told h.taken.taken
not_refused (i.Line l.OtherLine) task parts line next some all h memory (tagged, few, (begun, other, cannot)) = cannot h.taken.told h.taken.taken
not_refused (i.Line l.NoMemory) task parts line next some all h memory any = memory refl

-- ---- behind lines that tell something

-- a line that is taken with those behind it is not refused
pub refuses_line : (task : Task) (lines others : List (List ℕ)) (line : List ℕ) (parts : List Told) (fault : InputFault) → task.query ≢ [] →
    Tell task [] (lines ++ line ∷ others) parts → fault ≢ i.Line l.NoMemory → IsLineFault task lines line fault → ⊥
refuses_line task lines others line parts fault some told memory f =
    let (mid, before, (next, takes, rest)) = tells_split task [] lines (line ∷ others) parts told in
    let same = telling_one task [] lines f.parts mid f.told before in
    not_refused fault task f.parts line next some (tell_started task [] lines f.parts tt f.told) (subst (λ (ps : List Told). TakesLine task ps line next) same takes) memory f.refused

-- behind a block that is not written no report goes on
pub refuses_block : (task : Task) (lines others : List (List ℕ)) (line body more text : List ℕ) (end : Option ReportEnd) (fault : BlockFault) →
    Combines task ((lines ++ line ∷ []) ++ others) text end → fault ≢ b.NoMemory → IsStopped task (lines ++ line ∷ []) body [] more fault → ⊥
refuses_block task lines others line body more text end fault combines some s =
    never_combined task (lines ++ line ∷ []) others s.parts body [] more text end fault s.told s.all
    (as_stops fault task s.parts body [] more some s.stops) some combines

-- ---- tags

abbrev pub AllTagged : List Told → Type 0
AllTagged [] = Unit {0}
AllTagged (part ∷ parts) = IsTag part.tag × AllTagged parts

put_tagged : (told : Told) (parts : List Told) → IsTag told.tag → AllTagged parts → AllTagged (with_part told parts)
put_tagged told [] h all = (h, tt)
put_tagged told (part ∷ parts) h all =
    each_way AllTagged (against told.tag part) (part ∷ with_part told parts) (told ∷ parts) (told ∷ part ∷ parts) (all.0, put_tagged told parts h all.1) (h, all.1) (h, all)

tell_tagged : (task : Task) (parts : List Told) (lines : List (List ℕ)) (last : List Told) → AllTagged parts → Tell task parts lines last → AllTagged last
tell_tagged task parts [] last all h = subst AllTagged (sym h) all
tell_tagged task parts (line ∷ lines) last all h =
    let own = told_of (tag_of line) parts in
    let taken = h.1.taken in
    let tag = tag_stays task.query task.shape own (behind_tag line) taken.told taken.taken ∙ tag_of_told (tag_of line) parts in
    tell_tagged task h.0 lines last (subst AllTagged (sym taken.put) (put_tagged taken.told parts (subst IsTag (sym tag) taken.is_tag) all)) h.2

tag_there : (parts : List Told) (place : ℕ) → AllTagged parts → place < length parts → IsTag (part_at place parts).tag
tag_there [] place all h = absurd (omega (arith, h))
tag_there (part ∷ parts) zero all h = all.0
tag_there (part ∷ parts) (suc place) all h = tag_there parts place all.1 (omega (arith, h))

-- the tag of a part that has told something is one
pub tell_tag : (task : Task) (lines : List (List ℕ)) (parts : List Told) (place : ℕ) → Tell task [] lines parts → place < length parts → IsTag (part_at place parts).tag
tell_tag task lines parts place h within = tag_there parts place (tell_tagged task [] lines parts tt h) within
