use Rattle.std.proofs.Common.{◌*◌, ◌∙◌, length, sym, ap, OnOk, Result, Ok, Err}
use Rattle.plane_kernels.specs.Bytes.{word_count}
use Rattle.plane_kernels.proofs.BytesLemmas.{put_all}
use Rattle.plane_kernels.proofs.plane.Plane.load.Goals as goal

then_also : {A B P Q : Type 0} (r : Result A B) → (P → Q) → OnOk r P → OnOk r Q
then_also (Ok a) f p = f p
then_also (Err b) f p = p

pub returns-clause-ok : goal.returns-clause-ok
returns-clause-ok c =
    let long = c.requires ∙ ap (λ l. 8 * word_count (length l)) (sym c.self.view_is) in
    then_also c.load_words.result (λ e. e ∙ put_all c.self.inside.bits c.args.bytes.now long) c.load_words.ensures.ok
