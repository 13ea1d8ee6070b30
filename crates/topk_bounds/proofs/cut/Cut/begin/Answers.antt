use Rattle.std.proofs.Common.{◌≡◌, ◌&&◌, not, length, refl, ap, ◌∙◌}
use Rattle.std.specs.Simd.Lanes.{zip2}
use Rattle.std.proofs.lemmas.Simd.{length-zip2}
use Rattle.topk_bounds.specs.Standings.{is_in}
use Rattle.topk_bounds.proofs.Marks.{none_left}
use Rattle.topk_bounds.proofs.cut.Cut.begin.Goals as goal

pub returns : goal.returns
returns c =
    let among = c.args.among.now in
    let none : c.and_not_into.new.self ≡ zip2 (λ a b. a && not b) among among = c.and_not_into.ensures ∙ ap (λ l. zip2 (λ a b. a && not b) l among) c.copy_from.ensures in
    record {
      rows = record {
        before = ap length none ∙ length-zip2 (λ a b. a && not b) among among refl;
        level = ap length c.copy_from-2.ensures;
        counted = ap length c.copy_from-3.ensures ∙ c.requires.counted;
      };
      before = λ r h. ap (λ l. is_in l r) none ∙ none_left among r h;
      level = c.copy_from-2.ensures;
      counts = c.copy_from-3.ensures;
      total = c.count.ensures;
    }
