use Rattle.std.proofs.Common.{◌≡◌, true, length, replicate, sym, ap, ◌∙◌, arith}
use Rattle.std.proofs.lemmas.List.{length-replicate}
use Rattle.round_engine.proofs.row_masks.RowMasks.open.Goals as goal

pub returns : goal.returns
returns c =
    let blocks = c.in_ok-blocks.blocks in
    let long : length blocks ≡ c.div_ceil.result = ap length c.in_ok-blocks.ensures ∙ length-replicate c.div_ceil.result true in
    record {
      selection = c.in_ok-selection.ensures;
      room = omega (arith, long);
      tight = omega (arith, long);
      each = c.in_ok-blocks.ensures ∙ ap (λ n. replicate n true) (sym long);
    }
