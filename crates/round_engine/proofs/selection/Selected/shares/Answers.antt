use Rattle.std.proofs.Common.{◌≡◌, ℕ, ◌+ℤ◌, Bool, not, ◌&&◌, pos, to_z, of_z, length, sym, ap, ◌∙◌, arith}
use Rattle.std.specs.Int.{w128}
use Rattle.std.specs.Simd.Lanes.{zip2}
use Rattle.std.proofs.lemmas.Int.{ints}
use Rattle.aggregates.specs.Widening.{widens}
use Rattle.aggregates.specs.Selections.{end_at, ends_in, those_of}
use Rattle.query_model.specs.Answers.{total}
use Rattle.round_engine.specs.SumEnds.{widening_rows}
use Rattle.round_engine.proofs.SelectedBounds.{others_long, others_values, shares_are, those_long, total_of_none, with_nothing}
use Rattle.round_engine.proofs.selection.Selected.shares.Goals as goal

pub and_not_into-requires : goal.and_not_into-requires
and_not_into-requires c =
    let test : ℕ → Bool = λ row. widens c.args.end (end_at c.args.end c.args.known.now row) in
    let out_is = c.select_widening.ensures ∙ ap (λ s. those_of s.may test) c.self.view_is in
    ap (λ s. length s.must) c.self.view_is ∙ c.requires.selection.rows.must ∙ sym (ap length out_is ∙ those_long c.args.known.now c.args.self.now c.requires.selection test)

pub sum_of_ends-requires : goal.sum_of_ends-requires
sum_of_ends-requires c =
    let test : ℕ → Bool = λ row. widens c.args.end (end_at c.args.end c.args.known.now row) in
    let others_is : c.and_not_into.new.self ≡ widening_rows c.args.end c.args.known.now c.args.self.now =
    c.and_not_into.ensures ∙ ap (λ m. zip2 (λ a b. a && not b) m c.self.inside.must.now) c.select_widening.ensures ∙ ap (λ s. zip2 (λ a b. a && not b) (those_of s.may test) s.must) c.self.view_is in
    record {
      rows = others_long c.args.known.now c.args.self.now c.requires.selection test c.and_not_into.new.self others_is;
      values = others_values c.args.known.now c.args.self.now c.requires.selection test c.and_not_into.new.self others_is;
    }

pub returns-then-has_rows : goal.returns-then-has_rows
returns-then-has_rows c =
    let end = c.args.end in
    let column = c.args.known.now in
    let selection = c.args.self.now in
    let is = c.requires.selection in
    let test : ℕ → Bool = λ row. widens end (end_at end column row) in
    let others = c.and_not_into.new.self in
    let others_is : others ≡ widening_rows end column selection =
    c.and_not_into.ensures ∙ ap (λ m. zip2 (λ a b. a && not b) m c.self.inside.must.now) c.select_widening.ensures ∙ ap (λ s. zip2 (λ a b. a && not b) (those_of s.may test) s.must) c.self.view_is in
    let whole : to_z w128 (of_z w128 (to_z w128 (of_z w128 c.args.certain) +ℤ to_z w128 (of_z w128 c.sum_of_ends.result))) ≡ c.args.certain +ℤ c.sum_of_ends.result = omega (arith, ints, c.requires.small, c.sum_of_ends.ensures.few) in
    record {
      room = others_long column selection is test others others_is;
      others = others_is;
      sum = whole ∙ ap (λ z. z +ℤ c.sum_of_ends.result) c.requires.certain ∙ ap (λ z. total (ends_in end column selection.must) +ℤ z) c.sum_of_ends.ensures.sum
          ∙ shares_are column selection is end others others_is;
    }

pub returns-else-has_rows : goal.returns-else-has_rows
returns-else-has_rows c =
    let end = c.args.end in
    let column = c.args.known.now in
    let selection = c.args.self.now in
    let is = c.requires.selection in
    let test : ℕ → Bool = λ row. widens end (end_at end column row) in
    let others = c.and_not_into.new.self in
    let others_is : others ≡ widening_rows end column selection =
    c.and_not_into.ensures ∙ ap (λ m. zip2 (λ a b. a && not b) m c.self.inside.must.now) c.select_widening.ensures ∙ ap (λ s. zip2 (λ a b. a && not b) (those_of s.may test) s.must) c.self.view_is in
    let same : to_z w128 (of_z w128 c.args.certain) ≡ c.args.certain = omega (arith, ints, c.requires.small) in
    let no_more : total (ends_in end column others) ≡ pos 0 = total_of_none (end_at end column) others (c.has_rows.ensures.none c.if-has_rows.false) in
    record {
      room = others_long column selection is test others others_is;
      others = others_is;
      sum = same ∙ c.requires.certain ∙ with_nothing _ _ no_more ∙ shares_are column selection is end others others_is;
    }
