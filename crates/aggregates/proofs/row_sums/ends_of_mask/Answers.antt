use Rattle.std.proofs.Common.{◌&&◌, count_by, ap, ◌∙◌}
use Rattle.std.specs.Simd.Lanes.{zip2}
use Rattle.aggregates.proofs.row_sums.ends_of_mask.Goals as goal

pub ends_of_sums-requires : goal.ends_of_sums-requires
ends_of_sums-requires c =
    let mask = c.args.mask.now in
    record {
      sums = record {
        mask = mask;
        rows = c.requires.long;
        values = c.requires.values;
        are = record {
          rows = c.requires.rows;
          at_top = c.count_and-at_top.ensures ∙ ap (λ l. count_by (λ b. b) (zip2 (λ a b. a && b) mask l)) c.at_top.ensures;
          numbers = c.requires.numbers.adds;
        };
      };
    }

pub returns-clause-low : goal.returns-clause-low
returns-clause-low c =
    let mask = c.args.mask.now in
    c.ends_of_sums.ensures.low mask c.requires.long c.requires.values (record {
      rows = c.requires.rows;
      at_top = c.count_and-at_top.ensures ∙ ap (λ l. count_by (λ b. b) (zip2 (λ a b. a && b) mask l)) c.at_top.ensures;
      numbers = c.requires.numbers.adds;
    })

pub returns-clause-high : goal.returns-clause-high
returns-clause-high c =
    let mask = c.args.mask.now in
    c.ends_of_sums.ensures.high mask c.requires.long c.requires.values (record {
      rows = c.requires.rows;
      at_top = c.count_and-at_top.ensures ∙ ap (λ l. count_by (λ b. b) (zip2 (λ a b. a && b) mask l)) c.at_top.ensures;
      numbers = c.requires.numbers.adds;
    })
