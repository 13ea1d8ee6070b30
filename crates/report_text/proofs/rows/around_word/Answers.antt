use Rattle.report_text.proofs.RowTexts.{possible_lacks}
use Rattle.report_text.proofs.rows.around_word.Goals as goal

pub returns-else-certain : goal.returns-else-certain
returns-else-certain c = λ front key h e.
    (let possible = c.if-certain.false in
    c.around_last-else-certain.ensures.parted front key (possible_lacks key (rw possible at h)) (rw possible at e))
