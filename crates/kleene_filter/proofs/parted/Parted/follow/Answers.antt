use Rattle.std.proofs.Common.{◌≡◌, sym, ap, subst, ◌∙◌, rules, arith, to_z, of_z}
use Rattle.std.proofs.lemmas.Int.{to_z-of_z}
use Rattle.std.specs.Int.{w128}
use Rattle.daq_table.specs.Tables.{code}
use Rattle.query_model.specs.Meaning.{compares}
use Rattle.known_column.specs.Columns.{KnownColumn, rows_where}
use Rattle.kleene_filter.specs.Parted.{cell_with, is_level, passed_rows, IsBetweenEnds, IsTruthAt}
use Rattle.kleene_filter.proofs.Parting.{equal_next, last_digit, passed_next}
use Rattle.kleene_filter.proofs.parted.Parted.follow.Goals as goal

pub next_digit-bit-requires : goal.next_digit-bit-requires
next_digit-bit-requires c = (let more = ap (λ (k : KnownColumn). k.known.read) c.requires.further.is in omega arith)

pub truth_at_equal-self-requires : goal.truth_at_equal-self-requires
truth_at_equal-self-requires c =
    let v = c.args.value in
    let column = c.args.column.now in
    let old = c.args.self.now in
    let stood = c.requires.had in
    let fits : to_z w128 (of_z w128 v) ≡ v = to_z-of_z w128 v (search rules) in
    let digit = last_digit c.requires.before column c.args.plane.now v old.code c.next_digit-bit.result stood.code c.requires.further c.next_digit-bit.ensures in
    subst (λ n. c.keep_level.new.equal ≡ rows_where (is_level n) column) (sym fits)
    (c.keep_level.ensures.equal ∙ equal_next c.requires.before column c.args.plane.now v c.next_digit-bit.result c.requires.further digit old.equal stood.equal)

pub returns : goal.returns
returns c =
    let v = c.args.value in
    let column = c.args.column.now in
    let before = c.requires.before in
    let bits = c.args.plane.now in
    let old = c.args.self.now in
    let bit = c.next_digit-bit.result in
    let stood = c.requires.had in
    let further = c.requires.further in
    let fits : to_z w128 (of_z w128 v) ≡ v = to_z-of_z w128 v (search rules) in
    let digit = last_digit before column bits v old.code bit stood.code further c.next_digit-bit.ensures in
    record {
      between = subst (λ (k : KnownColumn). IsBetweenEnds k.ends v) (sym further.is) stood.between;
      code = stood.code ∙ ap (λ (k : KnownColumn). code k.ends (cell_with v k.ends)) (sym further.is);
      passed = c.keep_level.ensures.passed ∙ ap (λ p. passed_rows p bit old.passed old.equal bits) c.others_compare-pass.ensures
          ∙ passed_next before column bits v bit further digit c.args.op old.passed old.equal stood.passed stood.equal;
      equal = c.keep_level.ensures.equal ∙ equal_next before column bits v bit further digit old.equal stood.equal;
      at_equal = subst (λ n. IsTruthAt column (λ x. compares c.args.op x n) c.keep_level.new.equal c.truth_at_equal-self.result) fits c.truth_at_equal-self.ensures;
    }
