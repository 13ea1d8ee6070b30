-- That the lines of items are those of the first and those of the others.
use Rattle.std.proofs.Common.{◌≡◌, ℕ, ◌+◌, ◌<◌, List, ◌++◌, length, drop, get_or, refl, sym, ap, ◌∙◌}
use Rattle.std.proofs.lemmas.List.{append_assoc, drop_more}
use Rattle.query_model.specs.declared.query.ItemKind.{ItemKind}
use Rattle.report_parts.specs.Reports.{entry_lines, item_lines}
use Rattle.report_parts.specs.declared.entry.Entry.{Entry}

lines_from : (number : ℕ) (kinds : List ItemKind) (entries : List Entry) (place : ℕ) (kind : ItemKind) (entry : Entry) → place < length kinds → place < length entries →
    item_lines number (drop place kinds) (drop place entries)
    ≡ entry_lines (get_or kinds place kind) number (get_or entries place entry) ++ item_lines (number + 1) (drop (place + 1) kinds) (drop (place + 1) entries)
lines_from number kinds entries place kind entry less below = rw (drop_more kinds place kind less, drop_more entries place entry below) refl

-- the lines of one item more are put behind a text
pub lines_go_on : (before after : List ℕ) (kinds : List ItemKind) (entries : List Entry) (place : ℕ) (kind : ItemKind) (entry : Entry) → place < length kinds →
    place < length entries → entry ≡ get_or entries place entry → after ≡ before ++ entry_lines (get_or kinds place kind) (place + 1) entry →
    after ++ item_lines (place + 1 + 1) (drop (place + 1) kinds) (drop (place + 1) entries) ≡ before ++ item_lines (place + 1) (drop place kinds) (drop place entries)
lines_go_on before after kinds entries place kind entry less below there put =
    let rest = item_lines (place + 1 + 1) (drop (place + 1) kinds) (drop (place + 1) entries) in
    ap (λ (text : List ℕ). text ++ rest) put
    ∙ append_assoc before (entry_lines (get_or kinds place kind) (place + 1) entry) rest
    ∙ ap (λ (e : Entry). before ++ (entry_lines (get_or kinds place kind) (place + 1) e ++ rest)) there
    ∙ sym (ap (λ (text : List ℕ). before ++ text) (lines_from (place + 1) kinds entries place kind entry less below))
