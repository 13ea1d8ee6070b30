use Rattle.std.proofs.Common.{◌≡◌, ◌∙◌, Bool, List, Vec, Global, ap, subst, sym, if◌then◌else◌}
use Rattle.csv_load.specs.States.{HasValues, IsFinished, IsWhole, Kept, State, filled}
use Rattle.csv_load.proofs.NullFacts.{finished}
use Rattle.csv_load.proofs.column.Column.finish.Goals as goal

pub returns-clause-column : goal.returns-clause-column
returns-clause-column c =
    let s : State = record { nullable = c.self.inside.nullable; kept = c.self.inside.values; nulls = c.self.inside.nulls.items } in
    let whole : IsWhole s = subst IsWhole (sym c.self.view_is) c.requires in
    let nulls : c.replace-nulls.result.items ≡ s.nulls = ap (λ (v : Vec Bool Global). v.items) c.replace-nulls.ensures.value in
    let values = subst (λ (k : Kept). HasValues k s.nullable c.args.name c.in_ok-head.head c.in_ok-head.numbers.items) c.replace-values.ensures.value c.in_ok-head.ensures in
    let cells = c.in_ok-cells.ensures ∙ ap (λ (ns : List Bool). if s.nullable then filled ns c.in_ok-head.numbers.items else c.in_ok-head.numbers.items) (c.deref.ensures.value ∙ nulls) in
    subst (λ (t : State). IsFinished t c.args.name c.in_ok-head.head c.in_ok-cells.cells.items c.replace-nulls.result.items) c.self.view_is
    (finished s c.args.name c.in_ok-head.head c.in_ok-head.numbers.items c.in_ok-cells.cells.items c.replace-nulls.result.items whole values cells nulls)
