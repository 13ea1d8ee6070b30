-- Two printed forms that are one are texts of one query.
use Rattle.std.proofs.Common.{subst, sym, ap, ◌∙◌, ◌≤◌, length}
use Rattle.sql_print.specs.Bare.{bare}
use Rattle.sql_print.specs.Printed.{printed}
use Rattle.sql_text.specs.Answer.{IsText}
use Rattle.run_headline.proofs.laws.printed_forms_are_of_one_query.Goals as goal

pub returns : goal.returns
returns c text other_text query other is other_is short same =
    let one = c.reads_back.ensures.again text query is short in
    let two = c.reads_back.ensures.again other_text other other_is (subst (λ l. length l ≤ 4096) (sym same) short) in
    let tree = c.one_answer.ensures.queries (printed query) one.0 two.0 one.1 (subst (λ l. IsText l two.0) same two.1) in
    sym two.2 ∙ (sym (ap bare tree) ∙ one.2)
