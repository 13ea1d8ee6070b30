use Rattle.std.proofs.Common.{◌≡◌, sym, ap, subst, ◌∙◌, rules, to_z, of_z}
use Rattle.std.proofs.lemmas.Int.{to_z-of_z}
use Rattle.std.specs.Int.{w128}
use Rattle.daq_table.specs.Tables.{code}
use Rattle.known_column.specs.Columns.{KnownColumn}
use Rattle.kleene_filter.specs.Parted.{cell_with, IsBetweenEnds}
use Rattle.kleene_filter.proofs.Parting.{equal_next, last_digit}
use Rattle.kleene_filter.proofs.members.Level.follow.Goals as goal

pub truth_at_level-self-requires : goal.truth_at_level-self-requires
truth_at_level-self-requires c =
    let own = c.args.self.now in
    let v = own.number in
    let column = c.args.column.now in
    let before = c.requires.before in
    let further = c.requires.further in
    let fits : to_z w128 (of_z w128 v) ≡ v = to_z-of_z w128 v (search rules) in
    let code_before = c.code_of.ensures ∙ ap (λ n. code column.ends (cell_with n column.ends)) fits ∙ ap (λ (k : KnownColumn). code k.ends (cell_with v k.ends)) further.is in
    let digit = last_digit before column c.args.plane.now v c.code_of.result c.next_digit-bit.result code_before further c.next_digit-bit.ensures in
    (v, c.keep.ensures ∙ equal_next before column c.args.plane.now v c.next_digit-bit.result further digit own.rows c.requires.had.rows)

pub returns-clause-level : goal.returns-clause-level
returns-clause-level c =
    let own = c.args.self.now in
    let v = own.number in
    let column = c.args.column.now in
    let before = c.requires.before in
    let further = c.requires.further in
    let fits : to_z w128 (of_z w128 v) ≡ v = to_z-of_z w128 v (search rules) in
    let code_before = c.code_of.ensures ∙ ap (λ n. code column.ends (cell_with n column.ends)) fits ∙ ap (λ (k : KnownColumn). code k.ends (cell_with v k.ends)) further.is in
    let digit = last_digit before column c.args.plane.now v c.code_of.result c.next_digit-bit.result code_before further c.next_digit-bit.ensures in
    record {
      between = subst (λ (k : KnownColumn). IsBetweenEnds k.ends v) (sym further.is) c.requires.had.between;
      rows = c.keep.ensures ∙ equal_next before column c.args.plane.now v c.next_digit-bit.result further digit own.rows c.requires.had.rows;
      truth = c.truth_at_level-self.ensures;
    }
