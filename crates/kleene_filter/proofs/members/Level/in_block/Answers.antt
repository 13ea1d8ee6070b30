use Rattle.std.proofs.Common.{◌≡◌, ◌+◌, ◌*◌, ◌<◌, Bool, false, not, ◌&&◌, List, length, get_or, sym, ap, subst, ◌∙◌, rules}
use Rattle.query_model.specs.Truths.{is_false, is_true}
use Rattle.kleene_filter.specs.Blocks.{bit_in}
use Rattle.kleene_filter.proofs.members.Level.in_block.Goals as goal

pub returns : goal.returns
returns c = λ row few inside.
    let own = c.args.self.now in
    let at = 512 * c.args.block + row in
    let bit : bit_in row c.read_block-rows.result ≡ get_or own.rows at false =
    c.read_block-rows.ensures row few (subst (λ (l : List Bool). at < length l) (sym c.mask.ensures) inside) ∙ ap (λ (l : List Bool). get_or l at false) c.mask.ensures in
    let possible : c.ne.result ≡ not (is_false own.truth) = search rules in
    let certain : c.eq.result ≡ is_true own.truth = search rules in
    record {
      may = c.chosen.ensures row ∙ ap (λ b. b && bit_in row c.read_block-rows.result) possible ∙ ap (λ b. not (is_false own.truth) && b) bit;
      must = c.chosen-2.ensures row ∙ ap (λ b. b && bit_in row c.read_block-rows.result) certain ∙ ap (λ b. is_true own.truth && b) bit;
    }
