use Rattle.std.proofs.Common.{List, Some, ap, sym, ℕ, ◌∙◌}
use Rattle.std.proofs.lemmas.Option.{none-some}
use Rattle.report_text.proofs.RowTexts.{no_empty_tag, tagged, untagged}
use Rattle.report_text.proofs.rows.read_name.Goals as goal

pub returns-in-None-clause-read : goal.returns-in-None-clause-read
returns-in-None-clause-read c = λ name h e.
    untagged name.tag name.number c.args.text.now c.named.result h.tag h.number e c.in-None.ensures.parted
    (λ count few is. c.named.ensures.is count (c.read_count.ensures.read count few is))

pub returns-in-Some-empty-default-clause-read : goal.returns-in-Some-empty-default-clause-read
returns-in-Some-empty-default-clause-read c = λ name h e.
    absurd (no_empty_tag name.tag name.number c.args.text.now c.in-Some-empty-default.field-0-0.now c.in-Some-empty-default.field-0-1.now h.tag h.number e
    c.in-Some-empty-default.len_below c.in-Some-empty-default.ensures.parted (λ lacks. none-some _ (sym (c.in-Some-empty-default.ensures.whole lacks))))

pub returns-in_ok-from_slice-in-Some-clause-read : goal.returns-in_ok-from_slice-in-Some-clause-read
returns-in_ok-from_slice-in-Some-clause-read c = λ name h e.
    tagged name.tag name.number c.args.text.now c.in-Some.tag.now c.in-Some.number.now c.named-in-Some.result h.tag h.number e c.in-Some.ensures.parted
    (λ lacks. none-some _ (sym (c.in-Some.ensures.whole lacks)))
    (λ count few is. c.named-in-Some.ensures.is count (c.read_count-in-Some.ensures.read count few is)
    ∙ ap (λ (t : List ℕ). Some (record { tag = Some t; number = count })) (c.new-tag.ensures ∙ c.in_ok-from_slice-in-Some.ensures.items))
