-- Answers that have no text.
use Rattle.std.proofs.Common.{◌≡◌, ◌∙◌, ◌<◌, length, ℕ, ◌+◌, List, [], ◌∷◌, ◌++◌, All, map, take, drop, sym, ap, subst, refl, Option, get_or}
use Rattle.std.proofs.lemmas.List.{drop_more, map-append, take_more}
use Rattle.std.proofs.lemmas.List.Elements.{All-cons, All-head, All-nil, All-tail}
use Rattle.report_text.specs.Answers.{CanBeWritten}
use Rattle.report_text.specs.declared.answers.Answer.{Answer}
use Rattle.shard_groups.proofs.Firsts.{first_behind, first_in_at}
use Rattle.shard_groups.specs.Firsts.{IsFirstNot, IsFirstNotIn}
use Rattle.shard_groups.specs.declared.cells.ItemBound.{ItemBound}
use Rattle.shard_groups.specs.Groups.{said_of}
use Rattle.report_text.specs.declared.text_answers.TextAnswer.{TextAnswer}
use Rattle.shard_groups.specs.declared.cells.Cell.{Cell}
use Rattle.shard_groups.specs.declared.keys.Span.{Span}
use Rattle.part_groups.specs.Cells.{told}
use Rattle.part_groups.specs.Combined.{IsShown, answers_in}
use Rattle.part_groups.specs.Faults.{IsTextless, IsTextlessIn}
use Rattle.part_groups.specs.declared.fault.CombineFault.{CombineFault}
use Rattle.part_groups.specs.declared.fault.CombineFault.TheVariants.{NoMemory, OtherColumn, OtherItem, TooWide}
use Rattle.part_groups.specs.Forms.{form_at}
use Rattle.part_groups.specs.Shown.{answer_in, answers_from, group_in}
use Rattle.part_groups.specs.declared.forms.EndsForm.{EndsForm}
use Rattle.part_groups.specs.declared.group.Group.{Group}

-- behind answers that have texts
pub first_textless : (number : ℕ) (forms : List (Option EndsForm)) (items : List ItemBound) (front : List Answer) (item : ItemBound)
    (form : Option EndsForm) (answer : Answer) →
    front ++ answers_from number forms (map said_of (drop number items)) ≡ answers_from 0 forms (map said_of items) → All CanBeWritten front →
    length front ≡ number → number < length items → item ≡ get_or items number item → form ≡ form_at number forms →
    answer ≡ answer_in form (said_of item) → ¬ CanBeWritten answer → IsFirstNot CanBeWritten (answers_from 0 forms (map said_of items)) number
first_textless number forms items front item form answer split written count below is of e not_written =
    let own = answer_in (form_at number forms) (said_of item) in
    let rest = answers_from (number + 1) forms (map said_of (drop (number + 1) items)) in
    let at : drop number items ≡ item ∷ drop (number + 1) items =
    drop_more items number item below ∙ ap (λ (i : ItemBound). i ∷ drop (number + 1) items) (sym is) in
    let all : front ++ own ∷ rest ≡ answers_from 0 forms (map said_of items) =
    ap (λ (is : List ItemBound). front ++ answers_from number forms (map said_of is)) (sym at) ∙ split in
    let same : answer ≡ own = e ∙ ap (λ (f : Option EndsForm). answer_in f (said_of item)) of in
    subst (λ (answers : List Answer). IsFirstNot CanBeWritten answers number) all
    (subst (IsFirstNot CanBeWritten (front ++ own ∷ rest)) count
    (first_behind CanBeWritten front own rest written (λ w. not_written (subst CanBeWritten (sym same) w))))

pub written_in : (groups : List Group) → All IsShown groups → All (All CanBeWritten) (answers_in groups)
written_in [] h = All-nil (All CanBeWritten)
written_in (group ∷ groups) h =
    All-cons (All CanBeWritten) group.answers (answers_in groups) (All-head IsShown group groups h).answers
    (written_in groups (All-tail IsShown group groups h))

-- one line more
pub one_line_more : (f : Cell → Group) (lines : List Cell) (i : ℕ) (line : Cell) (groups next : List Group) (group : Group) → i < length lines →
    line ≡ get_or lines i line → groups ≡ map f (take i lines) → group ≡ f line → next ≡ groups ++ group ∷ [] → next ≡ map f (take (i + 1) lines)
one_line_more f lines i line groups next group below is before own more =
    more ∙ ap (λ (gs : List Group). gs ++ group ∷ []) before ∙ ap (λ (g : Group). map f (take i lines) ++ g ∷ []) own
    ∙ ap (λ (l : Cell). map f (take i lines) ++ f l ∷ []) is
    ∙ sym (ap (map f) (take_more lines i line below) ∙ map-append f (take i lines) (get_or lines i line ∷ []))

module _ (columns items : List (Option EndsForm)) (texts : List Span → List (Option TextAnswer)) where
  abbrev group_for : Cell → Group
  group_for line = group_in columns items texts (told line)

  abbrev answers_for : Cell → List Answer
  answers_for line = (group_for line).answers

  answers_of_lines : (lines : List Cell) → answers_in (map group_for lines) ≡ map answers_for lines
  answers_of_lines [] = refl
  answers_of_lines (line ∷ lines) = ap (λ (all : List (List Answer)). answers_for line ∷ all) (answers_of_lines lines)

  -- behind lines that a report can show
  pub textless_line : (why : CombineFault) (lines : List Cell) (i : ℕ) (line : Cell) (groups : List Group) → i < length lines →
      line ≡ get_or lines i line → groups ≡ map group_for (take i lines) → All IsShown groups → IsTextless why (answers_for line) →
      IsTextlessIn why (answers_in (map group_for lines))
  textless_line NoMemory lines i line groups below is same shown f = tt
  textless_line (OtherColumn column) lines i line groups below is same shown f = absurd f
  textless_line (OtherItem item) lines i line groups below is same shown f = absurd f
  textless_line (TooWide item) lines i line groups below is same shown f =
      let front = subst (All (All CanBeWritten)) (ap answers_in same ∙ answers_of_lines (take i lines)) (written_in groups shown) in
      subst (λ (all : List (List Answer)). IsFirstNotIn CanBeWritten all item) (sym (answers_of_lines lines))
      (first_in_at CanBeWritten answers_for lines i line item below front
      (subst (λ (l : Cell). IsFirstNot CanBeWritten (answers_for l) item) is f))
