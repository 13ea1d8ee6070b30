use Rattle.std.proofs.Common.{◌++◌, codes, decimal, refl}
use Rattle.std.proofs.lemmas.Bool.Decides.{Decides-eqb}
use Rattle.std.proofs.lemmas.Slice.Eq.{strip_prefix_is}
use Rattle.report_text.proofs.EndPlaces.{behind_both}
use Rattle.report_parts.proofs.texts.behind_clip.Goals as goal

pub returns : goal.returns
returns c =
    let text = c.in_ok-text.text.now in
    let behind = strip_prefix_is Decides-eqb text (codes "clip ") c.strip_prefix.result c.strip_prefix.ensures.cases in
    behind_both c.strip_prefix.result c.args.line.now (decimal c.args.number) (codes " clip ") (codes " " ++ text) c.in_ok-text.ensures
    (behind_both c.strip_prefix.result (codes " " ++ text) (codes " ") (codes "clip ") text refl behind)
