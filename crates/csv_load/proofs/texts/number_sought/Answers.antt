use Rattle.std.proofs.Common.{◌∙◌, ℕ, Vec, Global, sym, rules}
use Rattle.csv_load.specs.Columns.{IsShortText}
use Rattle.csv_load.proofs.NumberFacts.{number_found, number_given}
use Rattle.csv_load.proofs.texts.number_sought.Goals as goal

pub returns-in-Some-clause-ok : goal.returns-in-Some-clause-ok
returns-in-Some-clause-ok c =
    number_found (λ (k : Vec ℕ Global). k.items) c.args.kept.now.keys c.in-Some.number c.args.text.now c.requires (sym c.get_index_of.ensures.index ∙ c.in-Some.is)

pub returns-clause-ok : goal.returns-clause-ok
returns-clause-ok c =
    let stored = c.in_ok-number.ensures.stored in
    let short : IsShortText c.args.text.now = search rules in
    number_given (λ (k : Vec ℕ Global). k.items) c.args.kept.now.keys c.insert_full.new.self.keys c.in_ok-number.number c.in_ok-from_slice.field-0 stored.0 c.args.text.now short
    c.in_ok-number.ensures.keys stored.1 stored.2 c.in_ok-from_slice.ensures.items
