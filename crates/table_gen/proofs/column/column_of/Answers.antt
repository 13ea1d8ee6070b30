use Rattle.std.proofs.Common.{◌∙◌, Some, map, length, drop, ap, subst, refl, arith, w64, to_z, of_z, to_z-of_z, FitsSigned}
use Rattle.std.proofs.lemmas.List.{take_at}
use Rattle.daq_table.specs.ColumnFacts.{IsName}
use Rattle.daq_table.proofs.Extremes.{cells_of, distances_are, ends_ordered, plain_values}
use Rattle.daq_table.specs.Extremes.{greatest, least}
use Rattle.daq_table.specs.Raised.{lowered}
use Rattle.table_gen.proofs.column.column_of.Goals as goal

pub invariant_of-head : goal.invariant_of-head
invariant_of-head c =
    let low : FitsSigned w64 c.least_number-base.result = record { sfits = c.least_number-base.type_inv } in
    let high : FitsSigned w64 c.greatest_number-top.result = record { sfits = c.greatest_number-top.type_inv } in
    let cells = c.in_ok-cells.ensures ∙ c.deref.ensures.value in
    let base = to_z-of_z low ∙ c.least_number-base.ensures ∙ ap least (ap (map lowered) c.deref-2.ensures.value ∙ cells) in
    let top = to_z-of_z high ∙ c.greatest_number-top.ensures ∙ ap greatest (ap (map lowered) c.deref-3.ensures.value ∙ cells) in
    record {
      is_column = record {
        named = subst IsName c.name.view_is c.name.invariant;
        ordered = rw (base, top) (ends_ordered c.args.numbers.items);
        ascending = c.requires.ascending;
        fits = rw (base, top) c.requires.fits;
      };
    }

pub returns : goal.returns
returns c =
    let low : FitsSigned w64 c.least_number-base.result = record { sfits = c.least_number-base.type_inv } in
    let high : FitsSigned w64 c.greatest_number-top.result = record { sfits = c.greatest_number-top.type_inv } in
    let cells = c.in_ok-cells.ensures ∙ c.deref.ensures.value in
    let base = to_z-of_z low ∙ c.least_number-base.ensures ∙ ap least (ap (map lowered) c.deref-2.ensures.value ∙ cells) in
    let top = to_z-of_z high ∙ c.greatest_number-top.ensures ∙ ap greatest (ap (map lowered) c.deref-3.ensures.value ∙ cells) in
    let least_is = to_z w64 (of_z w64 c.least_number-base.result) in
    let whole = take_at c.become_distances.new.numbers (drop (length c.become_distances.new.numbers) c.in_ok-cells.cells.items) c.in_ok-cells.cells.len
    (omega (arith, c.become_distances.auto.numbers, c.deref_mut.ensures.len)) in
    let far = whole ∙ c.become_distances.ensures ∙ distances_are least_is c.deref_mut.result.now in
    record {
      name_is = refl;
      kind_is = refl;
      plain = refl;
      names_are = refl;
      base = base;
      top = top;
      cells_are =
          plain_values least_is _ _ (λ u. refl)
          ∙ ap (map Some) (cells_of c.args.numbers.items (map lowered c.deref_mut.result.now) least_is _ base (ap (map lowered) c.deref_mut.ensures.value ∙ cells) far);
    }
