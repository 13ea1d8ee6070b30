-- The text under the number is compared.
use Rattle.std.proofs.Common.{◌≡◌, ℕ, Vec, Global, sym, rules}
use Rattle.std.proofs.lemmas.Slice.Eq.{bytes_eq-Decides}
use Rattle.csv_load.proofs.NumberFacts.{seen_there}
use Rattle.csv_load.proofs.texts.is_at.Goals as goal

pub returns-in-Some : goal.returns-in-Some
returns-in-Some c =
    let view = λ (k : Vec ℕ Global). k.items in
    λ yes.
    let same : view c.in-Some.known.now ≡ c.args.text.now = search (rules, bytes_eq-Decides) in
    seen_there view c.args.kept.now.keys c.args.number c.in-Some.known.now c.args.text.now (sym c.in-Some.ensures.key) same
