-- That what all parts have told stays in the combined report.
use Rattle.std.proofs.Common.{Option, Some, None, ◌≡◌, ℕ, zero, suc, ◌+◌, true, List, [], ◌∷◌, ◌++◌, codes, get_or, refl, ap, ◌∙◌, arith}
use Rattle.std.proofs.lemmas.Bool.{and_parts}
use Rattle.std.specs.List.{list_all}
use Rattle.query_model.specs.declared.query.ItemKind.{ItemKind}
use Rattle.report_parts.proofs.Said.{fault_as, said_as}
use Rattle.report_parts.proofs.Stays.{blocks_stay, follows}
use Rattle.part_groups.specs.Whole.{groups_over}
use Rattle.part_groups.specs.declared.group.Group.{Group as GroupTold}
use Rattle.report_text.specs.Lines.{round_words}
use Rattle.report_parts.specs.Blocks.{groups_of, entries_of, is_skipped, rows_of}
use Rattle.report_parts.specs.Entries.{no_entry}
use Rattle.query_kinds.specs.declared.rows.FirstRows.{FirstRows}
use Rattle.part_rows.specs.Combined.{PartListing, combined, told_by}
use Rattle.report_parts.specs.Faults.{CanSay, IsBlockFault}
use Rattle.report_parts.specs.Laws.{AllReach, KeepsBlock, Reaches, ReportsOnlyGrow}
use Rattle.report_parts.specs.Laws.Reaches.{goes, stays}
use Rattle.report_parts.specs.Reports.{AreTold, block_beside, block_by, block_lines, block_over, block_text, blocks_text, entries_over}
use Rattle.report_parts.specs.Rounds.{all_groups_in, all_listed_in, block_for, groups_in, entries_in, entry_in, has_block, listed_in}
use Rattle.report_parts.specs.Told.{Told}
use Rattle.report_parts.specs.declared.block.Block.{Block}
use Rattle.report_parts.specs.declared.block.Block.TheVariants.{Groups, Rows, Totals}
use Rattle.report_parts.specs.declared.entry.Entry.{Entry}
use Rattle.report_parts.specs.declared.fault.BlockFault.{BlockFault}
use Rattle.report_parts.specs.declared.shape.Shape.{Shape}

-- a part keeps the block that it has told
keeps : (query : List ℕ) (shape : Shape) (round : ℕ) (told later : Told) → Reaches query shape told later → has_block round told ≡ true → KeepsBlock round told later
keeps query shape round told later (stays same) has = record { has = has; same = refl }
keeps query shape round told later (goes from line next last h k) has =
    let now = blocks_stay query shape round from line next h has in
    let behind = keeps query shape round next last k now.has in
    record { has = behind.has; same = behind.same ∙ now.same }

-- so do all
pub all_keep : (query : List ℕ) (shape : Shape) (round : ℕ) (parts laters : List Told) → AllReach query shape parts laters →
    list_all (has_block round) parts ≡ true → list_all (has_block round) laters ≡ true
all_keep query shape round [] [] h has = refl
all_keep query shape round [] (later ∷ laters) h has = absurd h
all_keep query shape round (part ∷ parts) [] h has = absurd h
all_keep query shape round (part ∷ parts) (later ∷ laters) h has =
    let each = and_parts (has_block round part) (list_all (has_block round) parts) has in
    let one = keeps query shape round part later h.0 each.0 in
    rw (one.has, all_keep query shape round parts laters h.1 each.1) refl

pub same_entries : (query : List ℕ) (shape : Shape) (round item : ℕ) (parts laters : List Told) → AllReach query shape parts laters →
    list_all (has_block round) parts ≡ true → entries_in round item laters ≡ entries_in round item parts
same_entries query shape round item [] [] h has = refl
same_entries query shape round item [] (later ∷ laters) h has = absurd h
same_entries query shape round item (part ∷ parts) [] h has = absurd h
same_entries query shape round item (part ∷ parts) (later ∷ laters) h has =
    let each = and_parts (has_block round part) (list_all (has_block round) parts) has in
    let one = keeps query shape round part later h.0 each.0 in
    let same : entry_in round item later ≡ entry_in round item part = ap (λ (block : Block). get_or (entries_of block) item no_entry) one.same in
    rw (same, same_entries query shape round item parts laters h.1 each.1) refl

-- and with them what is said over all
pub same_over : (query : List ℕ) (shape : Shape) (some : List ItemKind) (round item : ℕ) (parts laters : List Told) → AllReach query shape parts laters →
    list_all (has_block round) parts ≡ true → entries_over round item some laters ≡ entries_over round item some parts
same_over query shape [] round item parts laters h has = refl
same_over query shape (kind ∷ some) round item parts laters h has =
    rw (same_entries query shape round item parts laters h has, same_over query shape some round (item + 1) parts laters h has) refl

same_groups : (query : List ℕ) (shape : Shape) (round : ℕ) (parts laters : List Told) → AllReach query shape parts laters →
    list_all (has_block round) parts ≡ true → all_groups_in round laters ≡ all_groups_in round parts
same_groups query shape round [] [] h has = refl
same_groups query shape round [] (later ∷ laters) h has = absurd h
same_groups query shape round (part ∷ parts) [] h has = absurd h
same_groups query shape round (part ∷ parts) (later ∷ laters) h has =
    let each = and_parts (has_block round part) (list_all (has_block round) parts) has in
    let one = keeps query shape round part later h.0 each.0 in
    let same : groups_in round later ≡ groups_in round part = ap groups_of one.same in
    rw (same, same_groups query shape round parts laters h.1 each.1) refl

keeps_tag : (query : List ℕ) (shape : Shape) (told later : Told) → Reaches query shape told later → later.tag ≡ told.tag
keeps_tag query shape told later (stays same) = refl
keeps_tag query shape told later (goes from line next last h k) =
    keeps_tag query shape next last k ∙ (follows from.place query shape from line next refl h).tag

same_listed : (query : List ℕ) (shape : Shape) (round : ℕ) (parts laters : List Told) → AllReach query shape parts laters →
    list_all (has_block round) parts ≡ true → all_listed_in round laters ≡ all_listed_in round parts
same_listed query shape round [] [] h has = refl
same_listed query shape round [] (later ∷ laters) h has = absurd h
same_listed query shape round (part ∷ parts) [] h has = absurd h
same_listed query shape round (part ∷ parts) (later ∷ laters) h has =
    let each = and_parts (has_block round part) (list_all (has_block round) parts) has in
    let one = keeps query shape round part later h.0 each.0 in
    let tag = keeps_tag query shape part later h.0 in
    let rows : rows_of (block_for round later) ≡ rows_of (block_for round part) = ap rows_of one.same in
    let skipped : is_skipped (block_for round later) ≡ is_skipped (block_for round part) = ap is_skipped one.same in
    let same : listed_in round later ≡ listed_in round part = λ i. record { tag = tag i; skipped = skipped i; rows = rows i } in
    rw (same, same_listed query shape round parts laters h.1 each.1) refl

same_block_by : (query : List ℕ) (shape : Shape) (columns : ℕ) (asked : Option FirstRows) (round : ℕ) (kinds : List ItemKind) (parts laters : List Told) →
    AllReach query shape parts laters →
    list_all (has_block round) parts ≡ true → block_by columns asked round kinds laters ≡ block_by columns asked round kinds parts
same_block_by query shape zero (Some asked) round kinds parts laters h has =
    ap (λ (all : List PartListing). Rows (told_by (combined asked all))) (same_listed query shape round parts laters h has)
same_block_by query shape zero None round kinds parts laters h has = ap (λ (entries : List Entry). Totals entries) (same_over query shape kinds round 0 parts laters h has)
same_block_by query shape (suc columns) asked round kinds parts laters h has =
    ap (λ (all : List (List GroupTold)). Groups (groups_over (suc columns) kinds all)) (same_groups query shape round parts laters h has)

pub same_block_over : (query : List ℕ) (shape : Shape) (round : ℕ) (parts laters : List Told) → AllReach query shape parts laters →
    list_all (has_block round) parts ≡ true → block_over round shape laters ≡ block_over round shape parts
same_block_over query shape round parts laters h has = ap (block_beside shape.besides) (same_block_by query shape shape.columns shape.rows round shape.kinds parts laters h has)

pub same_block : (query : List ℕ) (shape : Shape) (round : ℕ) (parts laters : List Told) → AllReach query shape parts laters →
    list_all (has_block round) parts ≡ true → block_text round shape laters ≡ block_text round shape parts
same_block query shape round parts laters h has =
    ap (λ (block : Block). (round_words round ++ codes "\n") ++ block_lines shape.kinds block) (same_block_over query shape round parts laters h has)

same_blocks : (query : List ℕ) (shape : Shape) (rounds : ℕ) (parts laters : List Told) → AllReach query shape parts laters →
    AreTold rounds parts → blocks_text rounds shape laters ≡ blocks_text rounds shape parts
unfolding blocks_text
same_blocks query shape zero parts laters h are = refl
same_blocks query shape (suc rounds) parts laters h are =
    rw (same_blocks query shape rounds parts laters h (λ round below. are round (omega (arith, below))), same_block query shape rounds parts laters h (are rounds (omega arith))) refl

-- a block that can be written, and one that is not
pub said_stays : (query : List ℕ) (shape : Shape) (round : ℕ) (parts laters : List Told) → AllReach query shape parts laters →
    list_all (has_block round) parts ≡ true → CanSay round shape parts → CanSay round shape laters
said_stays query shape round parts laters h has said =
    said_as round shape.kinds parts laters (λ item. same_entries query shape round item parts laters h has) (same_groups query shape round parts laters h has)
    (same_listed query shape round parts laters h has) shape.columns shape.rows said

pub fault_stays : (query : List ℕ) (shape : Shape) (why : BlockFault) (round : ℕ) (parts laters : List Told) → AllReach query shape parts laters →
    list_all (has_block round) parts ≡ true → IsBlockFault why round shape parts → IsBlockFault why round shape laters
fault_stays query shape why round parts laters h has refused =
    fault_as round shape.kinds parts laters (λ item. same_entries query shape round item parts laters h has) (same_groups query shape round parts laters h has)
    (same_listed query shape round parts laters h has) shape.columns shape.rows why refused

pub only_grow : ReportsOnlyGrow
only_grow query shape rounds parts laters h are = record {
  are_told = λ round below. all_keep query shape round parts laters h (are round below);
  same = same_blocks query shape rounds parts laters h are;
}
