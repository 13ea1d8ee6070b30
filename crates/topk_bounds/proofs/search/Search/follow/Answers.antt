use Rattle.std.proofs.Common.{◌≡◌, ◌+◌, length, sym, ap, subst, ◌∙◌, arith}
use Rattle.std.proofs.lemmas.List.{length-map}
use Rattle.known_column.specs.Columns.{digit_of, rows_of_column}
use Rattle.topk_bounds.specs.Cuts.{HaveRows, comes_first, next_place, place_in}
use Rattle.topk_bounds.proofs.Cutting.{cut_same}
use Rattle.topk_bounds.proofs.Places.{place_followed}
use Rattle.topk_bounds.proofs.search.Search.follow.Goals as goal

pub loop-plane-preserved : goal.loop-plane-preserved
loop-plane-preserved c =
    let key = c.args.key.now in
    let down = c.args.down in
    let j = c.loop-plane.plane in
    let plane = c.plane.result.now in
    let first = c.first_digit-first.result in
    let narrowed = c.narrow-self.ensures in
    let planes : length plane ≡ rows_of_column key = ap length c.plane.ensures ∙ length-map key.known.prefixes (digit_of key.known.read j) in
    let chosen : first ≡ comes_first down key.ends.nullable j = c.first_digit-first.ensures ∙ ap (λ b. comes_first down b j) c.nullable.ensures in
    record {
      read = c.loop-plane.invariant.read;
      rows = subst (λ n. HaveRows n c.narrow-self.new.self) planes narrowed.rows;
      there = narrowed.there;
      wanted = narrowed.wanted;
      cut = λ counted among limit rows is.
          cut_same counted among limit (next_place (place_in down key j) plane first) (place_in down key (j + 1)) c.narrow-self.new.self c.narrow-self.result
          (λ r h. place_followed down key j plane first r c.plane.ensures chosen (omega (arith, rows, h)))
          (narrowed.narrows counted among limit (place_in down key j) (rows ∙ sym planes) (c.loop-plane.invariant.cut counted among limit rows is));
    }
