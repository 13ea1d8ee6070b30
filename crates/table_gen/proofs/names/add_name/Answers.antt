use Rattle.std.proofs.Common.{◌∙◌, ℕ, List, Vec, Global, ap, map}
use Rattle.std.specs.BTreeSet.{insert_key}
use Rattle.std.specs.Cmp.Lexicographic.{slice_cmp}
use Rattle.std.specs.Ordering.{nat_cmp}
use Rattle.daq_table.proofs.Dictionaries.{insert_viewed}
use Rattle.table_gen.proofs.names.add_name.Goals as goal

pub returns : goal.returns
returns c =
    let view = λ (k : Vec ℕ Global). k.items in
    ap (map view) c.in_ok-insert.ensures.keys ∙ insert_viewed view c.args.names.now.keys c.in_ok-from_slice.field-0
    ∙ ap (λ (t : List ℕ). insert_key (slice_cmp nat_cmp) (map view c.args.names.now.keys) t) (c.in_ok-from_slice.ensures.items ∙ c.name_of.ensures)
