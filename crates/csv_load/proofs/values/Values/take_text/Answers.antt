use Rattle.std.proofs.Common.{◌≡◌, ◌++◌, ◌∷◌, [], ap, length, map, refl, arith, rules}
use Rattle.csv_load.specs.Columns.{IsShortText}
use Rattle.daq_table.specs.Raised.{lowered}
use Rattle.csv_load.proofs.StateFacts.{names_taken, text_is_value, text_taken}
use Rattle.csv_load.proofs.values.Values.take_text.Goals as goal

pub returns-then-count-limit-clause-err : goal.returns-then-count-limit-clause-err
returns-then-count-limit-clause-err c =
    let kind = rw (← c.self.view_is) at c.requires in
    let later : c.push.new.self ≡ c.self.inside.texts ++ c.args.text.now ∷ [] = search rules in
    let names = ap length (names_taken c.self.inside.kind c.self.inside.texts c.push.new.self c.args.text.now kind later) in
    let short : IsShortText c.args.text.now = search rules in
    (refl, record { value = rw (← c.self.view_is) (text_is_value c.self.inside.kind c.args.text.now kind short); many = rw (← c.self.view_is) (omega (arith, names, c.count.ensures, c.if-count-limit.true)) })

pub returns-clause-ok : goal.returns-clause-ok
returns-clause-ok c =
    let kind = rw (← c.self.view_is) at c.requires in
    let later : c.push.new.self ≡ c.self.inside.texts ++ c.args.text.now ∷ [] = search rules in
    let names = ap length (names_taken c.self.inside.kind c.self.inside.texts c.push.new.self c.args.text.now kind later) in
    let short : IsShortText c.args.text.now = search rules in
    record { value = rw (← c.self.view_is) (text_is_value c.self.inside.kind c.args.text.now kind short); few = rw (← c.self.view_is) (omega (arith, names, c.count.ensures, c.if-count-limit.false)) }

pub returns-clause-taken : goal.returns-clause-taken
returns-clause-taken c =
    let kind = rw (← c.self.view_is) at c.requires in
    let later : c.push.new.self ≡ c.self.inside.texts ++ c.args.text.now ∷ [] = search rules in
    rw (← c.self.view_is) (text_taken c.self.inside.kind (map lowered c.self.inside.numbers.items) c.self.inside.texts c.push.new.self c.args.text.now kind later)
