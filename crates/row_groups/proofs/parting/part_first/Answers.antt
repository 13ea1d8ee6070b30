use Rattle.std.proofs.Common.{◌≡◌, ◌-◌, ◌<◌, ◌≤◌, [], length, length-set, get_or, set, inl, inr, sym, ap, subst, ◌∙◌, arith}
use Rattle.std.proofs.lemmas.Bool.{cases_eq}
use Rattle.std.proofs.lemmas.List.{get_or-set_other, get_or-set_same}
use Rattle.plane_kernels.specs.Rows.{kept_rows}
use Rattle.row_groups.specs.Keeping.{HaveRows, digit_in, without_digit}
use Rattle.row_groups.proofs.Parted.{length-kept, parted_rows, without_below, without_least}
use Rattle.row_groups.proofs.Picked.{rows_set}
use Rattle.row_groups.proofs.parting.part_first.Goals as goal

pub loop-done-preserved : goal.loop-done-preserved
loop-done-preserved c =
    let before = c.loop-done.invariant in
    let old = c.args.masks.now in
    let plane = c.args.plane.now in
    let s = c.args.shift in
    let masks = c.loop-done.masks in
    let n = c.numbers_of-cells.result in
    let done = c.loop-done.done in
    let cell = n - 1 - done in
    let from = c.without_digit-from.result in
    let row = kept_rows c.digit_in-bit.result (get_or masks from []) plane in
    let written = c.keep_from.ensures in
    let least : from ≤ cell = subst (λ k. k ≤ cell) (sym c.without_digit-from.ensures) (without_least s cell) in
    let within : cell < length masks = omega (arith, before.count, c.if-cells-masks.false, c.loop-done-test.true) in
    let source : get_or masks from [] ≡ get_or old (without_digit s cell) [] = before.still from (omega (arith, least, c.loop-done-test.true)) ∙ ap (λ k. get_or old k []) c.without_digit-from.ensures in
    let is : row ≡ kept_rows (digit_in s cell) (get_or old (without_digit s cell) []) plane =
    ap (λ b. kept_rows b (get_or masks from []) plane) c.digit_in-bit.ensures ∙ ap (λ l. kept_rows (digit_in s cell) l plane) source in
    let long = length-kept c.digit_in-bit.result (get_or masks from []) plane (before.long from (omega (arith, least, within))) in
    record {
      count = ap length written ∙ length-set masks cell row ∙ before.count;
      long = subst (HaveRows (length plane)) (sym written) (rows_set (length plane) masks cell row within long before.long);
      still = λ k h. (
          ap (λ l. get_or l k []) written ∙ get_or-set_other masks cell k row [] (λ e. absurd (omega (arith, e, h, c.loop-done-test.true))) ∙ before.still k (omega (arith, h)));
      parted = λ k below h. (
          ap (λ l. get_or l k []) written ∙ elim (cases_eq k cell) [
            | inl here ↦
                ap (λ j. get_or (set masks cell row) j []) here ∙ get_or-set_same masks cell row [] within ∙ is
                ∙ ap (λ j. kept_rows (digit_in s j) (get_or old (without_digit s j) []) plane) (sym here)
            | inr other ↦ get_or-set_other masks cell k row [] other ∙ before.parted k below (omega (arith, h, other, below, c.loop-done-test.true))
          ]);
    }

pub returns-clause-masks : goal.returns-clause-masks
returns-clause-masks c = λ cells same fits have cell below.
    let s = c.args.shift in
    let plane = c.args.plane.now in
    let n = c.numbers_of-cells.ensures in
    let here : cell < c.numbers_of-cells.result = subst (λ k. cell < k) (sym n) below in
    let source = have (without_digit s cell) (without_below s c.args.digits cell c.requires.within below) in
    c.loop-done.invariant.parted cell here (omega (arith, c.loop-done-test.false)) ∙ ap (λ l. kept_rows (digit_in s cell) l plane) source ∙ parted_rows s cell cells plane
