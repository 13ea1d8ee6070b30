use Rattle.std.proofs.Common.{◌∙◌, arith}
use Rattle.query_model.specs.Meaning.{compares}
use Rattle.kleene_filter.proofs.Parting.{row_told}
use Rattle.kleene_filter.proofs.parted.Sides.truths.Goals as goal

pub returns : goal.returns
returns c =
    let op = c.args.op in
    let v = c.args.value in
    c.number_truths.ensures (λ x. compares op x v) (record {
      pass = λ r few some. c.may_hold.ensures r (omega arith) ∙ (row_told c.args.column.now op v c.args.self.now c.args.block r c.in_block-sides.result c.requires.sides c.requires.known few c.in_block-sides.ensures some).hold;
      fail = λ r few some. c.may_fail.ensures r (omega arith) ∙ (row_told c.args.column.now op v c.args.self.now c.args.block r c.in_block-sides.result c.requires.sides c.requires.known few c.in_block-sides.ensures some).fail;
    })
