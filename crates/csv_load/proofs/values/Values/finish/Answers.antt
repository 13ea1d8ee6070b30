use Rattle.std.proofs.Common.{◌≡◌, ◌∙◌, map, length, drop, ap, subst, refl, arith, w64, to_z, of_z, to_z-of_z, FitsSigned}
use Rattle.std.proofs.lemmas.List.{take_at}
use Rattle.daq_table.specs.ColumnFacts.{IsName}
use Rattle.daq_table.proofs.Extremes.{cells_of, distances_are}
use Rattle.daq_table.specs.Extremes.{greatest, least}
use Rattle.daq_table.specs.Raised.{lowered}
use Rattle.csv_load.specs.States.{Kept, numbers_in}
use Rattle.csv_load.proofs.EndFacts.{column_is}
use Rattle.csv_load.proofs.RaisedFacts.{chosen}
use Rattle.csv_load.proofs.values.Values.finish.Goals as goal

pub invariant_of-head : goal.invariant_of-head
invariant_of-head c =
    let low : FitsSigned w64 c.least_number-base.result = record { sfits = c.least_number-base.type_inv } in
    let high : FitsSigned w64 c.greatest_number-top.result = record { sfits = c.greatest_number-top.type_inv } in
    let cells = chosen c.self.inside.kind c.self.inside.numbers.items c.in_ok-ranks.ranks.items c.values_of-cells.result.items c.self.inside.texts c.in_ok-names.names
    c.values_of-cells.ensures c.in_ok-names.ensures.same (rw c.as_slice.ensures at c.in_ok-ranks.ensures) ∙ ap numbers_in c.self.view_is in
    let base = c.least_number-base.ensures ∙ ap least (ap (map lowered) c.deref.ensures.value ∙ cells) in
    let top = c.greatest_number-top.ensures ∙ ap greatest (ap (map lowered) c.deref-2.ensures.value ∙ cells) in
    let named : IsName c.args.name = subst IsName c.name.view_is c.name.invariant in
    let kind : c.self.inside.kind ≡ c.args.self.kind = ap (λ (k : Kept). k.kind) c.self.view_is in
    let names = c.in_ok-names.ensures.same ∙ ap (λ (k : Kept). k.names) c.self.view_is in
    record { is_column = column_is c.args.self c.args.name c.self.inside.kind c.in_ok-names.names _ _ named c.in_ok-names.ensures.sorted names kind (to_z-of_z low ∙ base) (to_z-of_z high ∙ top) c.requires }

pub returns : goal.returns
returns c =
    let low : FitsSigned w64 c.least_number-base.result = record { sfits = c.least_number-base.type_inv } in
    let high : FitsSigned w64 c.greatest_number-top.result = record { sfits = c.greatest_number-top.type_inv } in
    let cells = chosen c.self.inside.kind c.self.inside.numbers.items c.in_ok-ranks.ranks.items c.values_of-cells.result.items c.self.inside.texts c.in_ok-names.names
    c.values_of-cells.ensures c.in_ok-names.ensures.same (rw c.as_slice.ensures at c.in_ok-ranks.ensures) ∙ ap numbers_in c.self.view_is in
    let base = to_z-of_z low ∙ c.least_number-base.ensures ∙ ap least (ap (map lowered) c.deref.ensures.value ∙ cells) in
    let top = to_z-of_z high ∙ c.greatest_number-top.ensures ∙ ap greatest (ap (map lowered) c.deref-2.ensures.value ∙ cells) in
    let kind : c.self.inside.kind ≡ c.args.self.kind = ap (λ (k : Kept). k.kind) c.self.view_is in
    let names = c.in_ok-names.ensures.same ∙ ap (λ (k : Kept). k.names) c.self.view_is in
    let whole = take_at c.become_distances.new.numbers (drop (length c.become_distances.new.numbers) c.values_of-cells.result.items) c.values_of-cells.result.len
    (omega (arith, c.become_distances.auto.numbers, c.deref_mut.ensures.len)) in
    let far = whole ∙ c.become_distances.ensures ∙ distances_are (to_z w64 (of_z w64 c.least_number-base.result)) c.deref_mut.result.now in
    record {
      name_is = refl;
      kind = kind;
      nullable_is = refl;
      names = names;
      base = base;
      top = top;
      numbers_are = cells_of (numbers_in c.args.self) (map lowered c.deref_mut.result.now) (to_z w64 (of_z w64 c.least_number-base.result)) _ base (ap (map lowered) c.deref_mut.ensures.value ∙ cells) far;
    }
