-- Base, and top behind it.
use Rattle.std.proofs.Common.{rules, ◌≡◌, ◌++◌, OnOk, subst, FitsSigned}
use Rattle.std.specs.Int.{w64}
use Rattle.std.proofs.lemmas.Int.{to_z-of_z}
use Rattle.plane_file.specs.Format.{signed_bytes}
use Rattle.plane_file.proofs.Appended.{two_appended}
use Rattle.plane_file.proofs.heads.push_ends.Goals as goal

pub returns : goal.returns
returns c =
    let base = c.args.ends.base in
    let top = c.args.ends.top in
    let base_fits : FitsSigned w64 base = search rules in
    let top_fits : FitsSigned w64 top = search rules in
    let first : c.push_signed.new.bytes.items ≡ c.args.bytes.now.items ++ signed_bytes base =
    subst (λ n. c.push_signed.new.bytes.items ≡ c.args.bytes.now.items ++ signed_bytes n) (to_z-of_z w64 base base_fits) c.in_ok-push_signed.ensures in
    let last : OnOk c.push_signed-2.result (c.push_signed-2.new.bytes.items ≡ c.push_signed.new.bytes.items ++ signed_bytes top) =
    subst (λ n. OnOk c.push_signed-2.result (c.push_signed-2.new.bytes.items ≡ c.push_signed.new.bytes.items ++ signed_bytes n)) (to_z-of_z w64 top top_fits) c.push_signed-2.ensures in
    two_appended c.push_signed-2.result _ _ _ (signed_bytes base) (signed_bytes top) first last
