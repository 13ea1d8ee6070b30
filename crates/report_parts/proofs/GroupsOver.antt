-- What is said over all parts of groups, where there are group columns, and its lines.
use Rattle.std.proofs.Common.{Option, ◌≡◌, ℕ, zero, suc, ◌+◌, ◌<◌, List, ◌++◌, length, drop, get_or, codes, refl, sym, ap, ◌∙◌, arith}
use Rattle.std.proofs.lemmas.List.{append_assoc, drop_more}
use Rattle.query_model.specs.declared.query.ItemKind.{ItemKind}
use Rattle.report_text.specs.declared.text_answers.TextAnswer.{TextAnswer}
use Rattle.report_text.specs.declared.answers.Answer.{Answer}
use Rattle.query_kinds.specs.declared.rows.FirstRows.{FirstRows}
use Rattle.part_groups.specs.Texts.{text_at}
use Rattle.part_groups.specs.Whole.{groups_over}
use Rattle.report_parts.specs.Faults.{IsFaultBy, IsGroupsFault}
use Rattle.report_parts.specs.Reports.{answer_line, answer_lines, block_by}
use Rattle.report_parts.specs.Rounds.{all_groups_in}
use Rattle.report_parts.specs.Told.{Told}
use Rattle.report_parts.specs.declared.block.Block.TheVariants.{Groups}
use Rattle.report_parts.specs.declared.fault.BlockFault.{BlockFault}

-- where there are group columns, groups are asked for
pub by_groups : (columns : ℕ) (asked : Option FirstRows) (round : ℕ) (kinds : List ItemKind) (parts : List Told) → 0 < columns →
    block_by columns asked round kinds parts ≡ Groups (groups_over columns kinds (all_groups_in round parts))
by_groups zero asked round kinds parts some = absurd (omega (arith, some))
by_groups (suc columns) asked round kinds parts some = refl

pub fault_by_groups : (columns : ℕ) (asked : Option FirstRows) (why : BlockFault) (round : ℕ) (kinds : List ItemKind) (parts : List Told) → 0 < columns →
    IsGroupsFault why columns kinds (all_groups_in round parts) → IsFaultBy columns asked why round kinds parts
fault_by_groups zero asked why round kinds parts some fault = absurd (omega (arith, some))
fault_by_groups (suc columns) asked why round kinds parts some fault = fault

answers_from : (texts : List (Option TextAnswer)) (answers : List Answer) (place : ℕ) (answer : Answer) → place < length answers →
    answer_lines place texts (drop place answers)
    ≡ (answer_line (place + 1) (get_or answers place answer) (text_at place texts) ++ codes "\n") ++ answer_lines (place + 1) texts (drop (place + 1) answers)
answers_from texts answers place answer below = rw (drop_more answers place answer below) refl

-- the line of one answer more is put behind a text
pub answers_go_on : (before after : List ℕ) (texts : List (Option TextAnswer)) (told : Option TextAnswer) (answers : List Answer) (place : ℕ) (answer : Answer) → place < length answers →
    told ≡ text_at place texts → after ≡ before ++ (answer_line (place + 1) (get_or answers place answer) told ++ codes "\n") →
    after ++ answer_lines (place + 1) texts (drop (place + 1) answers) ≡ before ++ answer_lines place texts (drop place answers)
answers_go_on before after texts told answers place answer below is put =
    let rest = answer_lines (place + 1) texts (drop (place + 1) answers) in
    ap (λ (text : List ℕ). text ++ rest) put
    ∙ ap (λ (t : Option TextAnswer). (before ++ (answer_line (place + 1) (get_or answers place answer) t ++ codes "\n")) ++ rest) is
    ∙ append_assoc before (answer_line (place + 1) (get_or answers place answer) (text_at place texts) ++ codes "\n") rest
    ∙ sym (ap (λ (text : List ℕ). before ++ text) (answers_from texts answers place answer below))
