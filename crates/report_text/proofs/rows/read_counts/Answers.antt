use Rattle.std.proofs.Common.{Some, ap, codes, decimal, sym}
use Rattle.std.proofs.lemmas.Option.{none-some, same_Some}
use Rattle.report_text.proofs.RowTexts.{number_lacks, others_text, top_is}
use Rattle.report_text.specs.declared.rows.TopLine.{TopLine}
use Rattle.report_text.proofs.rows.read_counts.Goals as goal

pub returns-in_err-limit : goal.returns-in_err-limit
returns-in_err-limit c = λ top h e.
    absurd (c.in_err-limit.ensures.parted (decimal top.limit) (others_text top) (number_lacks (codes "certain ") top.limit h.limit) e)

pub returns-in_err-certain : goal.returns-in_err-certain
returns-in_err-certain c = λ top h e.
    (let first = c.in_ok-limit.ensures.parted (decimal top.limit) (others_text top) (number_lacks (codes "certain ") top.limit h.limit) e in
    absurd (c.in_err-certain.ensures.parted (decimal top.certain) (decimal top.possible) (number_lacks (codes "possible ") top.certain h.certain) (sym first.1)))

pub returns-in_err-read_count : goal.returns-in_err-read_count
returns-in_err-read_count c = λ top h e.
    (let first = c.in_ok-limit.ensures.parted (decimal top.limit) (others_text top) (number_lacks (codes "certain ") top.limit h.limit) e in
    absurd (none-some top.limit (c.in_err-read_count.ensures.read top.limit h.limit (sym first.0))))

pub returns-in_err-read_count-2 : goal.returns-in_err-read_count-2
returns-in_err-read_count-2 c = λ top h e.
    (let first = c.in_ok-limit.ensures.parted (decimal top.limit) (others_text top) (number_lacks (codes "certain ") top.limit h.limit) e in
    let next = c.in_ok-certain.ensures.parted (decimal top.certain) (decimal top.possible) (number_lacks (codes "possible ") top.certain h.certain) (sym first.1) in
    absurd (none-some top.certain (c.in_err-read_count-2.ensures.read top.certain h.certain (sym next.0))))

pub returns-in_err-read_count-3 : goal.returns-in_err-read_count-3
returns-in_err-read_count-3 c = λ top h e.
    (let first = c.in_ok-limit.ensures.parted (decimal top.limit) (others_text top) (number_lacks (codes "certain ") top.limit h.limit) e in
    let next = c.in_ok-certain.ensures.parted (decimal top.certain) (decimal top.possible) (number_lacks (codes "possible ") top.certain h.certain) (sym first.1) in
    absurd (none-some top.possible (c.in_err-read_count-3.ensures.read top.possible h.possible (sym next.1))))

pub returns : goal.returns
returns c = λ top h e.
    (let first = c.in_ok-limit.ensures.parted (decimal top.limit) (others_text top) (number_lacks (codes "certain ") top.limit h.limit) e in
    let next = c.in_ok-certain.ensures.parted (decimal top.certain) (decimal top.possible) (number_lacks (codes "possible ") top.certain h.certain) (sym first.1) in
    ap (λ (t : TopLine). Some t)
    (top_is c.in_ok-read_count.field-0 c.in_ok-read_count-2.field-0 c.in_ok-read_count-3.field-0 top
    (same_Some c.in_ok-read_count.field-0 top.limit (c.in_ok-read_count.ensures.read top.limit h.limit (sym first.0)))
    (same_Some c.in_ok-read_count-2.field-0 top.certain (c.in_ok-read_count-2.ensures.read top.certain h.certain (sym next.0)))
    (same_Some c.in_ok-read_count-3.field-0 top.possible (c.in_ok-read_count-3.ensures.read top.possible h.possible (sym next.1)))))
