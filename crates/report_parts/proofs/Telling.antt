-- That lines tell one thing, and that a report which has ended stays as it is.
use Rattle.std.proofs.Common.{◌≡◌, ℕ, suc, ◌+◌, ◌<◌, ◌≤◌, true, get_or, Option, Some, None, List, [], ◌∷◌, ◌++◌, length, codes, decimal, refl, sym, ap, subst, ◌∙◌, inl, inr, ◌⊎◌, arith, length-append}
use Rattle.std.proofs.lemmas.Bool.{false≢true}
use Rattle.std.proofs.lemmas.List.{append_cancel_left}
use Rattle.std.proofs.lemmas.Option.{none-some, same_Some}
use Rattle.std.specs.List.{list_all}
use Rattle.query_kinds.specs.declared.rows.FirstRows.{FirstRows}
use Rattle.query_model.specs.declared.query.ItemKind.{ItemKind}
use Rattle.report_text.proofs.OneAnswer.{extras_say_one, lines_say_one}
use Rattle.report_text.proofs.OneGroup.{groups_say_one}
use Rattle.report_text.proofs.OneRow.{rows_say_one, tops_say_one}
use Rattle.report_text.proofs.OneText.{text_items_say_one}
use Rattle.report_text.specs.Answers.{IsAnswerOf}
use Rattle.report_text.specs.Extras.{IsExtraOf, extra_line}
use Rattle.report_text.specs.Groups.{presence_text}
use Rattle.report_text.specs.Intervals.{key_interval}
use Rattle.report_text.specs.Keys.{keys_text}
use Rattle.report_text.specs.RowBlocks.{IsNextRow, IsNextTop, RowsTold, TakesRows, with_row, with_top}
use Rattle.report_text.specs.Rows.{counts_text, name_text, skip_line, standing_word, top_line}
use Rattle.report_text.specs.Lines.{end_line}
use Rattle.report_text.specs.TextAnswers.{IsTextAnswer, text_of}
use Rattle.report_text.specs.declared.answers.Answer.{Answer}
use Rattle.report_text.specs.declared.groups.GroupLine.{GroupLine}
use Rattle.report_text.specs.declared.lines.ReportEnd.{ReportEnd}
use Rattle.report_text.specs.declared.lines.ReportEnd.TheVariants.{Narrow, Reads, Rounds}
use Rattle.report_text.specs.declared.row_blocks.RowsTop.TheVariants.{Counts}
use Rattle.report_text.specs.declared.rows.RowLine.{RowLine}
use Rattle.report_text.specs.declared.rows.TopLine.{TopLine}
use Rattle.report_text.specs.declared.text_answers.TextAnswer.{TextAnswer}
use Rattle.report_parts.proofs.Courses.{all_reach, few_told, longer}
use Rattle.report_parts.proofs.Grows.{all_keep, same_block}
use Rattle.report_parts.proofs.Kept.{end_stays, none_behind_yet, same_end, some_same}
use Rattle.report_parts.specs.Course.{Combines, Task, Tell, wanted_of}
use Rattle.report_parts.specs.Entries.{no_answer}
use Rattle.report_parts.specs.Laws.{AllReach, Reaches}
use Rattle.report_parts.specs.Laws.Reaches.{goes as reaches, stays as remains}
use Rattle.report_parts.specs.Reports.{block_text}
use Rattle.report_parts.specs.Rounds.{has_block, is_over}
use Rattle.report_parts.specs.Tags.{TakesTagged, behind_tag, tag_of, told_of, with_part}
use Rattle.report_parts.specs.Telling.{EndedStays, TellingIsOne}
use Rattle.report_parts.specs.Texts.{text_clip_line}
use Rattle.report_parts.specs.Told.{Answers, BeginsGroup, BeginsRound, ClipsText, Closes, Ends, Extends, GoesOn, GroupsGoOn, ListsRow, OrElse, PassesBehind, PassesBehindSection, PassesInside, RowsGoOn, TakesAt, TakesBehindAnswer, TakesExtra, TakesInside, TakesItem, TakesRest, TellsParts, TellsText, Told, at_place, block_done, closed, completed, entry_of, text_entry, with_entry, with_extra, with_group, with_rows}
use Rattle.report_parts.specs.Written.{Wanted, Writes, end_text, is_narrow_at}
use Rattle.report_parts.specs.Written.Writes.{ends, goes, waits}
use Rattle.report_parts.specs.declared.part.Place.{Place}
use Rattle.report_parts.specs.declared.part.Place.TheVariants.{Query, Opened, Round, Group, Items, Row, Ended}
use Rattle.report_parts.specs.declared.shape.Shape.{Shape}

-- ---- a line

-- a text that begins with a byte begins with no other
other_byte : {P : Type 0} (x y : ℕ) (xs ys : List ℕ) → x ∷ xs ≡ y ∷ ys → (x ≡ y → ⊥) → P
other_byte x y xs ys e apart = absurd (let same : x ≡ y = cc in apart same)

parts_or_round : {P : Type 0} (shape : Shape) (told : Told) (line : List ℕ) (a b : Told) → TellsParts told line a → BeginsRound shape told line b → P
parts_or_round shape told line a b h k =
    other_byte 112 114 (codes "arts " ++ decimal h.parts) (codes "ound " ++ (decimal (length told.blocks) ++ k.is_round.named)) (h.is_line ∙ k.is_round.split) (λ e. omega (arith, e))

round_or_end : {P : Type 0} (shape : Shape) (told : Told) (line : List ℕ) (a b : Told) → BeginsRound shape told line a → Ends told line b → P
round_or_end shape told line a b h k = by k.end k.is_line
  where
    by : {P : Type 0} (end : ReportEnd) → end_line end ≡ line → P
    by Narrow e = other_byte 101 114 (codes "nd narrow") (codes "ound " ++ (decimal (length told.blocks) ++ h.is_round.named)) (e ∙ h.is_round.split) (λ f. omega (arith, f))
    by Rounds e = other_byte 101 114 (codes "nd rounds") (codes "ound " ++ (decimal (length told.blocks) ++ h.is_round.named)) (e ∙ h.is_round.split) (λ f. omega (arith, f))
    by Reads e = other_byte 101 114 (codes "nd reads") (codes "ound " ++ (decimal (length told.blocks) ++ h.is_round.named)) (e ∙ h.is_round.split) (λ f. omega (arith, f))

abbrev behind_word : GroupLine → List ℕ
behind_word group = codes "roup " ++ (keys_text group.keys ++ presence_text group.present)

group_or_next : {P : Type 0} (shape : Shape) (told whole : Told) (line : List ℕ) (a b : Told) → BeginsGroup shape.columns told line a → GoesOn shape whole line b → P
group_or_next shape told whole line a b h (inl k) =
    other_byte 103 114 (behind_word h.group) (codes "ound " ++ (decimal (length whole.blocks) ++ k.is_round.named)) (h.is_line ∙ k.is_round.split) (λ e. omega (arith, e))
group_or_next shape told whole line a b h (inr k) = by k.end k.is_line
  where
    by : {P : Type 0} (end : ReportEnd) → end_line end ≡ line → P
    by Narrow e = other_byte 101 103 (codes "nd narrow") (behind_word h.group) (e ∙ sym h.is_line) (λ f. omega (arith, f))
    by Rounds e = other_byte 101 103 (codes "nd rounds") (behind_word h.group) (e ∙ sym h.is_line) (λ f. omega (arith, f))
    by Reads e = other_byte 101 103 (codes "nd reads") (behind_word h.group) (e ∙ sym h.is_line) (λ f. omega (arith, f))

-- the sixth byte tells them apart
apart : {P : Type 0} (x y : List ℕ) → x ≡ y → (get_or x 5 0 ≡ get_or y 5 0 → ⊥) → P
apart x y e other = absurd (other (ap (λ (v : List ℕ). get_or v 5 0) e))

end_one : (a b : ReportEnd) → end_line a ≡ end_line b → b ≡ a
end_one Narrow Narrow e = refl
end_one Rounds Rounds e = refl
end_one Reads Reads e = refl
end_one Narrow Rounds e = apart (end_line Narrow) (end_line Rounds) e (λ (f : ◌≡◌ {A = ℕ} 97 111). omega (arith, f))
end_one Narrow Reads e = apart (end_line Narrow) (end_line Reads) e (λ (f : ◌≡◌ {A = ℕ} 97 101). omega (arith, f))
end_one Rounds Narrow e = apart (end_line Rounds) (end_line Narrow) e (λ (f : ◌≡◌ {A = ℕ} 111 97). omega (arith, f))
end_one Rounds Reads e = apart (end_line Rounds) (end_line Reads) e (λ (f : ◌≡◌ {A = ℕ} 111 101). omega (arith, f))
end_one Reads Narrow e = apart (end_line Reads) (end_line Narrow) e (λ (f : ◌≡◌ {A = ℕ} 101 97). omega (arith, f))
end_one Reads Rounds e = apart (end_line Reads) (end_line Rounds) e (λ (f : ◌≡◌ {A = ℕ} 101 111). omega (arith, f))

-- a way that leads to one end
abbrev IsOneWay : (Told → Type 0) → Type 0
IsOneWay Way = (a b : Told) → Way a → Way b → b ≡ a

or_else : (First Second : Told → Type 0) → IsOneWay First → IsOneWay Second → IsOneWay (OrElse First Second)
or_else First Second one two a b (inl h) (inl k) = one a b h k
or_else First Second one two a b (inl h) (inr k) = absurd (k.0 a h)
or_else First Second one two a b (inr h) (inl k) = absurd (h.0 b k)
or_else First Second one two a b (inr h) (inr k) = two a b h.1 k.1

goes_on : (shape : Shape) (told : Told) (line : List ℕ) → IsOneWay (GoesOn shape told line)
goes_on shape told line a b (inl h) (inl k) = k.begun ∙ sym h.begun
goes_on shape told line a b (inl h) (inr k) = round_or_end shape told line a b h k
goes_on shape told line a b (inr h) (inl k) = round_or_end shape told line b a k h
goes_on shape told line a b (inr h) (inr k) =
    k.ended ∙ ap (λ (end : ReportEnd). at_place told (Ended end)) (end_one h.end k.end (h.is_line ∙ sym k.is_line)) ∙ sym h.ended

groups_go_on : (shape : Shape) (told whole : Told) (line : List ℕ) → IsOneWay (GroupsGoOn shape told whole line)
groups_go_on shape told whole line a b (inl h) (inl k) =
    k.begun ∙ ap (λ (group : GroupLine). with_group told group) (sym (groups_say_one h.group k.group h.shown k.shown (h.is_line ∙ sym k.is_line))) ∙ sym h.begun
groups_go_on shape told whole line a b (inl h) (inr k) = group_or_next shape told whole line a b h k
groups_go_on shape told whole line a b (inr h) (inl k) = group_or_next shape told whole line b a k h
groups_go_on shape told whole line a b (inr h) (inr k) = goes_on shape whole line a b h k

answers : (kinds : List ItemKind) (told : Told) (line : List ℕ) → IsOneWay (Answers kinds told line)
answers kinds told line a b h k =
    let kind = same_Some h.kind k.kind (sym h.is_next.there ∙ k.is_next.there) in
    let mine : IsAnswerOf k.kind h.answer = subst (λ (x : ItemKind). IsAnswerOf x h.answer) kind h.is_next.of_kind in
    let answer = lines_say_one k.kind (length told.current + 1) h.answer k.answer mine k.is_next.of_kind (h.is_next.is_line ∙ sym k.is_next.is_line) in
    k.told_so ∙ ap (λ (x : Answer). with_entry kinds told (entry_of x)) (sym answer) ∙ sym h.told_so

tells_text : (kinds : List ItemKind) (told : Told) (line : List ℕ) → IsOneWay (TellsText kinds told line)
tells_text kinds told line a b h k =
    let text = text_items_say_one (length told.current + 1) h.text k.text h.is_next.shown k.is_next.shown (h.is_next.is_line ∙ sym k.is_next.is_line) in
    k.told_so ∙ ap (λ (x : TextAnswer). with_entry kinds told (text_entry x)) (sym text) ∙ sym h.told_so

extends : (kinds : List ItemKind) (told : Told) (line : List ℕ) → IsOneWay (Extends kinds told line)
extends kinds told line a b h k =
    let kind = same_Some h.kind k.kind (sym h.is_next.there ∙ k.is_next.there) in
    let mine : IsExtraOf k.kind h.extra = subst (λ (x : ItemKind). IsExtraOf x h.extra) kind h.is_next.of_kind in
    let my_line : extra_line k.kind (length told.current) h.extra ≡ line =
    subst (λ (x : ItemKind). extra_line x (length told.current) h.extra ≡ line) kind h.is_next.is_line in
    let extra = extras_say_one k.kind (length told.current) h.extra k.extra mine k.is_next.of_kind (my_line ∙ sym k.is_next.is_line) in
    k.told_so ∙ ap (λ (x : Answer). with_extra kinds told x None) (sym extra) ∙ sym h.told_so

-- the line behind says one text, as that of an item does
clips_say_one : (number : ℕ) (clip other : TextAnswer) → IsTextAnswer clip → IsTextAnswer other → text_clip_line number clip ≡ text_clip_line number other → clip ≡ other
clips_say_one number clip other shown another e =
    let same : text_of clip ≡ text_of other =
    append_cancel_left (codes "clip ") (text_of clip) (text_of other) (append_cancel_left (codes " ") _ _ (append_cancel_left (decimal number) _ _ e)) in
    text_items_say_one number clip other shown another (ap (λ (t : List ℕ). decimal number ++ (codes " " ++ t)) same)

clips_text : (kinds : List ItemKind) (told : Told) (line : List ℕ) → IsOneWay (ClipsText kinds told line)
clips_text kinds told line a b h k =
    let clip = clips_say_one (length told.current) h.clip k.clip h.is_next.shown k.is_next.shown (h.is_next.is_line ∙ sym k.is_next.is_line) in
    k.told_so ∙ ap (λ (x : TextAnswer). with_extra kinds told no_answer (Some x)) (sym clip) ∙ sym h.told_so

rest : (shape : Shape) (told : Told) (line : List ℕ) → IsOneWay (TakesRest shape told line)
rest shape told line =
    or_else (PassesInside shape.kinds told line) (Closes shape told line) (λ a b h k. k.same ∙ sym h.same) (λ a b h k. groups_go_on shape (closed told) (completed told) line a b h.goes_on k.goes_on)

inside : (shape : Shape) (told : Told) (line : List ℕ) → IsOneWay (TakesInside shape told line)
inside shape told line =
    or_else (TakesItem shape.kinds told line) (TakesBehindAnswer shape told line)
    (or_else (Answers shape.kinds told line) (TellsText shape.kinds told line) (answers shape.kinds told line) (tells_text shape.kinds told line))
    (or_else (TakesExtra shape.kinds told line) (TakesRest shape told line)
    (or_else (Extends shape.kinds told line) (ClipsText shape.kinds told line) (extends shape.kinds told line) (clips_text shape.kinds told line))
    (rest shape told line))

-- ---- a line of first rows

-- the line of a row begins with another byte than that of their numbers
abbrev behind_top : TopLine → List ℕ
behind_top top = codes "op " ++ counts_text top

abbrev behind_row : RowLine → List ℕ
behind_row row = codes "ow " ++ (name_text row.name ++ (codes " " ++ (standing_word row.certain ++ key_interval row.key)))

top_or_row : {P : Type 0} (limit : ℕ) (told : RowsTold) (line : List ℕ) (top : TopLine) (row : RowLine) → IsNextTop limit told line top → IsNextRow told line row → P
top_or_row limit told line top row h k = other_byte 116 114 (behind_top top) (behind_row row) (h.is_line ∙ sym k.is_line) (λ e. omega (arith, e))

-- how many rows there are is another line than that none is judged, by its length
top_or_skip : {P : Type 0} (top : TopLine) (limit : ℕ) → top.limit ≡ limit → top_line top ≡ skip_line limit → P
top_or_skip top limit asked e =
    let word = codes " possible " in
    let others = decimal top.certain ++ (word ++ decimal top.possible) in
    let counts = decimal top.limit ++ (codes " certain " ++ others) in
    let skip = decimal limit ++ codes " certain 0" in
    let long : length (codes "top " ++ counts) ≡ length (codes "top " ++ skip) = ap length e in
    let same : length (decimal top.limit) ≡ length (decimal limit) = ap (λ (n : ℕ). length (decimal n)) asked in
    let nine : length (codes " certain ") ≡ 9 = refl in
    let ten : length word ≡ 10 = refl in
    let whole : length (codes " certain 0") ≡ 10 = refl in
    absurd (omega (
      arith,
      long,
      same,
      nine,
      ten,
      whole,
      length-append (codes "top ") counts,
      length-append (codes "top ") skip,
      length-append (decimal top.limit) (codes " certain " ++ others),
      length-append (codes " certain ") others,
      length-append (decimal top.certain) (word ++ decimal top.possible),
      length-append word (decimal top.possible),
      length-append (decimal limit) (codes " certain 0"),
    ))

row_or_skip : {P : Type 0} (told : RowsTold) (row : RowLine) (limit : ℕ) (line : List ℕ) → IsNextRow told line row → skip_line limit ≡ line → P
row_or_skip told row limit line h e =
    other_byte 116 114 (codes "op " ++ (decimal limit ++ codes " certain 0")) (behind_row row) (e ∙ sym h.is_line) (λ e. omega (arith, e))

rows_one : (limit : ℕ) (told : RowsTold) (line : List ℕ) (a b : RowsTold) → TakesRows limit told line a → TakesRows limit told line b → b ≡ a
rows_one limit told line a b (inl h) (inl k) =
    k.2 ∙ ap (λ (top : TopLine). with_top told (Counts top)) (sym (tops_say_one h.0 k.0 h.1.is_top k.1.is_top (h.1.is_line ∙ sym k.1.is_line))) ∙ sym h.2
rows_one limit told line a b (inl h) (inr (inl k)) = top_or_row limit told line h.0 k.0 h.1 k.1
rows_one limit told line a b (inl h) (inr (inr k)) = top_or_skip h.0 limit h.1.asked (h.1.is_line ∙ sym k.0.is_line)
rows_one limit told line a b (inr (inl h)) (inl k) = top_or_row limit told line k.0 h.0 k.1 h.1
rows_one limit told line a b (inr (inr h)) (inl k) = top_or_skip k.0 limit k.1.asked (k.1.is_line ∙ sym h.0.is_line)
rows_one limit told line a b (inr (inl h)) (inr (inr k)) = row_or_skip told h.0 limit line h.1 k.0.is_line
rows_one limit told line a b (inr (inr h)) (inr (inl k)) = row_or_skip told k.0 limit line k.1 h.0.is_line
rows_one limit told line a b (inr (inr h)) (inr (inr k)) = k.1 ∙ sym h.1
rows_one limit told line a b (inr (inl h)) (inr (inl k)) =
    k.2 ∙ ap (λ (row : RowLine). with_row told row) (sym (rows_say_one h.0 k.0 h.1.is_shown k.1.is_shown (h.1.is_line ∙ sym k.1.is_line))) ∙ sym h.2

rows_go_on : (told a b : Told) → RowsGoOn told a → RowsGoOn told b → b ≡ a
rows_go_on told a b (inl h) (inl k) = k.1 ∙ sym h.1
rows_go_on told a b (inl h) (inr k) = absurd (k.0 h.0)
rows_go_on told a b (inr h) (inl k) = absurd (h.0 k.0)
rows_go_on told a b (inr h) (inr k) = k.1 ∙ sym h.1

lists_row : (shape : Shape) (told : Told) (line : List ℕ) → IsOneWay (ListsRow shape told line)
lists_row shape told line a b h k =
    let asked = same_Some h.asked k.asked (sym h.is_asked ∙ k.is_asked) in
    let mine : TakesRows k.asked.limit told.rows line h.rows = subst (λ (x : FirstRows). TakesRows x.limit told.rows line h.rows) asked h.taken in
    let same : k.rows ≡ h.rows = rows_one k.asked.limit told.rows line h.rows k.rows mine k.taken in
    rows_go_on (with_rows told h.rows) a b h.goes_on (subst (λ (rows : RowsTold). RowsGoOn (with_rows told rows) b) same k.goes_on)

takes_one : (place : Place) (query : List ℕ) (shape : Shape) (told : Told) (line : List ℕ) (a b : Told) →
    TakesAt place query shape told line a → TakesAt place query shape told line b → b ≡ a
takes_one Query query shape told line a b h k = k.opened ∙ sym h.opened
takes_one Opened query shape told line a b (inl h) (inl k) = k.passed ∙ sym h.passed
takes_one Opened query shape told line a b (inl h) (inr k) = parts_or_round shape told line a b h k
takes_one Opened query shape told line a b (inr h) (inl k) = parts_or_round shape told line b a k h
takes_one Opened query shape told line a b (inr h) (inr k) = k.begun ∙ sym h.begun
takes_one Round query shape told line a b h k =
    or_else (GoesOn shape told line) (PassesBehind shape.kinds told line) (goes_on shape told line) (λ x y f g. g.same ∙ sym f.same) a b h k
takes_one Group query shape told line a b h k =
    or_else (GroupsGoOn shape told (block_done told) line) (PassesBehindSection shape.kinds told line) (groups_go_on shape told (block_done told) line)
    (λ x y f g. g.passes.same ∙ sym f.passes.same) a b h k
takes_one Items query shape told line a b h k = inside shape told line a b h k
takes_one Row query shape told line a b h k = lists_row shape told line a b h k
takes_one (Ended end) query shape told line a b h k = absurd h

tagged_one : (query : List ℕ) (shape : Shape) (parts : List Told) (line : List ℕ) (a b : List Told) →
    TakesTagged query shape parts line a → TakesTagged query shape parts line b → b ≡ a
tagged_one query shape parts line a b h k =
    let own = told_of (tag_of line) parts in
    k.put ∙ ap (λ (told : Told). with_part told parts) (takes_one own.place query shape own (behind_tag line) h.told k.told h.taken k.taken) ∙ sym h.put

pub telling_one : TellingIsOne
telling_one task parts [] last other h k = k ∙ sym h
telling_one task parts (line ∷ lines) last other h k =
    let next = tagged_one task.query task.shape parts line h.0 k.0 h.1.taken k.1.taken in
    telling_one task h.0 lines last other h.2 (subst (λ (ps : List Told). Tell task ps lines other) next k.2)

-- ---- some lines and more

pub tells_split : (task : Task) (parts : List Told) (lines more : List (List ℕ)) (last : List Told) → Tell task parts (lines ++ more) last →
    (mid : List Told) × Tell task parts lines mid × Tell task mid more last
tells_split task parts [] more last h = (parts, refl, h)
tells_split task parts (line ∷ lines) more last h =
    let (mid, before, behind) = tells_split task h.0 lines more last h.2 in
    (mid, (h.0, h.1, before), behind)

reaches_both : (query : List ℕ) (shape : Shape) (a b c : Told) → Reaches query shape a b → Reaches query shape b c → Reaches query shape a c
reaches_both query shape a b c (remains same) k = k
reaches_both query shape a b c (reaches from line next last h rest) k = reaches from line next c h (reaches_both query shape next last c rest k)

all_both : (query : List ℕ) (shape : Shape) (xs ys zs : List Told) → AllReach query shape xs ys → AllReach query shape ys zs → AllReach query shape xs zs
all_both query shape [] [] [] h k = tt
all_both query shape [] [] (c ∷ zs) h k = absurd k
all_both query shape [] (b ∷ ys) zs h k = absurd h
all_both query shape (a ∷ xs) [] zs h k = absurd h
all_both query shape (a ∷ xs) (b ∷ ys) [] h k = absurd k
all_both query shape (a ∷ xs) (b ∷ ys) (c ∷ zs) h k = (reaches_both query shape a b c h.0 k.0, all_both query shape xs ys zs h.1 k.1)

all_here : (query : List ℕ) (shape : Shape) (parts : List Told) → AllReach query shape parts parts
all_here query shape [] = tt
all_here query shape (part ∷ parts) = (remains part, all_here query shape parts)

-- once there are all parts, whatever lines come behind are theirs
pub tells_reach : (task : Task) (parts : List Told) (lines : List (List ℕ)) (last : List Told) → length parts ≡ task.count → Tell task parts lines last →
    AllReach task.query task.shape parts last
tells_reach task parts [] last all h = subst (λ (ps : List Told). AllReach task.query task.shape parts ps) (sym h) (all_here task.query task.shape parts)
tells_reach task parts (line ∷ lines) last all h =
    let few = h.1.few in
    let first = all_reach task.query task.shape parts line h.0 h.1.taken (omega (arith, few, all)) in
    let grown = longer task.query task.shape parts line h.0 h.1.taken in
    all_both task.query task.shape parts h.0 last first (tells_reach task h.0 lines last (omega (arith, few, all, grown)) h.2)

-- a report that has ended has a part for each that there is to be
pub ended_all : (task : Task) (lines : List (List ℕ)) (text : List ℕ) (end : ReportEnd) → (h : Combines task lines text (Some end)) → length h.parts ≡ task.count
ended_all task lines text end h =
    let few = few_told task [] lines h.parts (omega arith) h.told in
    elim (cases (length h.parts) task.count) [
      | inl less ↦ absurd (none-some end (sym (h.is_text.early less).1))
      | inr all ↦ omega (arith, few, all)
    ]
  where
    cases : (a b : ℕ) → (a < b) ⊎ (b ≤ a)
    cases a b = grind arith

-- ---- what has ended

has_when_some : (wanted : Wanted) (parts : List Told) (round : ℕ) (text : List ℕ) (o : Option ReportEnd) (end : ReportEnd) → Writes wanted parts round text o → o ≡ Some end →
    list_all (has_block round) parts ≡ true
has_when_some wanted parts round text o end (waits r h) e = absurd (none-some end e)
has_when_some wanted parts round text o end (ends r other has said there) e = has
has_when_some wanted parts round text o end (goes r rest behind has said none k) e = has

stays_ended : (query : List ℕ) (wanted : Wanted) (parts laters : List Told) (round : ℕ) (text longer : List ℕ) (o later : Option ReportEnd) (end : ReportEnd) →
    AllReach query wanted.shape parts laters → Writes wanted parts round text o → o ≡ Some end → Writes wanted laters round longer later →
    (longer ≡ text) × (later ≡ Some end)
stays_ended query wanted parts laters round text longer o later end h (waits r fails) e now = absurd (none-some end e)
stays_ended query wanted parts laters round text longer o later end h (ends r mine has said there) e (waits s fails) =
    absurd (false≢true (sym fails ∙ all_keep query wanted.shape round parts laters h has))
stays_ended query wanted parts laters round text longer o later end h (ends r mine has said there) e (ends s other now said_now f) =
    let same : other ≡ mine = some_same other mine (sym f ∙ end_stays query wanted round parts laters mine h has there) in (
      ap (λ (x : ReportEnd). block_text round wanted.shape laters ++ end_text x) same
          ∙ ap (λ (block : List ℕ). block ++ end_text mine) (same_block query wanted.shape round parts laters h has),
      ap (λ (x : ReportEnd). Some x) same ∙ e,
    )
stays_ended query wanted parts laters round text longer o later end h (ends r mine has said there) e (goes s rest behind now said_now none k) =
    absurd (none-some mine (sym none ∙ end_stays query wanted round parts laters mine h has there))
stays_ended query wanted parts laters round text longer o later end h (goes r rest behind has said none k) e (waits s fails) =
    absurd (false≢true (sym fails ∙ all_keep query wanted.shape round parts laters h has))
stays_ended query wanted parts laters round text longer o later end h (goes r rest behind has said none k) e (ends s mine now said_now f) =
    let gone = none_behind_yet query wanted.shape (is_narrow_at wanted round parts) (wanted.last round) (list_all (is_over round) parts) (list_all (is_over round) laters) round parts laters mine
    refl refl h none (sym (same_end query wanted round parts laters h has) ∙ f) in
    absurd (false≢true (sym gone ∙ has_when_some wanted parts (round + 1) rest behind end k e))
stays_ended query wanted parts laters round text longer o later end h (goes r rest behind has said none k) e (goes s rest_now behind_now now said_now none_now k_now) =
    let after = stays_ended query wanted parts laters (round + 1) rest rest_now behind behind_now end h k e k_now in (
      ap (λ (block : List ℕ). block ++ rest_now) (same_block query wanted.shape round parts laters h has)
          ∙ ap (λ (x : List ℕ). block_text round wanted.shape parts ++ x) after.0,
      after.1,
    )

-- the parts of some lines, and those of more, where there are all
pub record Grown (task : Task) (parts : List Told) (more : List (List ℕ)) (laters : List Told) : Type 0 where
  pub all : length laters ≡ task.count
  pub reach : AllReach task.query task.shape parts laters

pub grown : (task : Task) (parts laters : List Told) (lines more : List (List ℕ)) → length parts ≡ task.count → Tell task [] lines parts → Tell task [] (lines ++ more) laters →
    Grown task parts more laters
grown task parts laters lines more all h k =
    let (mid, before, behind) = tells_split task [] lines more laters k in
    let own : Tell task parts more laters = subst (λ (ps : List Told). Tell task ps more laters) (telling_one task [] lines parts mid h before) behind in
    let reach = tells_reach task parts more laters all own in
    record { all = same_length parts laters reach ∙ all; reach = reach }
  where
    same_length : (xs ys : List Told) → AllReach task.query task.shape xs ys → length ys ≡ length xs
    same_length [] [] h = refl
    same_length [] (b ∷ ys) h = absurd h
    same_length (a ∷ xs) [] h = absurd h
    same_length (a ∷ xs) (b ∷ ys) h = ap (λ n. suc n) (same_length xs ys h.1)

pub ended_stays : EndedStays
ended_stays task lines more text longer end later h k =
    let all = ended_all task lines text end h in
    let g = grown task h.parts k.parts lines more all h.told k.told in
    stays_ended task.query (wanted_of task) h.parts k.parts 0 text longer (Some end) later end g.reach (h.is_text.whole all) refl (k.is_text.whole g.all)
