use Rattle.std.proofs.Common.{◌≡◌, ◌∙◌, ℕ, ℤ, pos, [], ◌∷◌, List, Vec, Global, IfOk, map, ap, subst, sym}
use Rattle.std.proofs.lemmas.Simd.{map-map}
use Rattle.daq_table.proofs.Ascending.{ascending_when_sorted}
use Rattle.daq_table.specs.Tables.{column_from}
use Rattle.daq_table.specs.declared.head.ColumnHead.{ColumnHead}
use Rattle.daq_table.specs.declared.head.Kind.TheVariants.{Text}
use Rattle.daq_table.proofs.Dictionaries.{ranks_are}
use Rattle.daq_table.specs.Dictionaries.{distinct, rank_of}
use Rattle.table_gen.specs.Columns.{Stores, ranks_of}
use Rattle.table_gen.specs.Draws.{text_of}
use Rattle.table_gen.proofs.making.text_column.Goals as goal

pub column_of-requires-clause-ascending : goal.column_of-requires-clause-ascending
column_of-requires-clause-ascending c = ascending_when_sorted c.in_ok-names.names c.in_ok-names.ensures.sorted

pub column_of-requires-clause-fits : goal.column_of-requires-clause-fits
column_of-requires-clause-fits c =
    let codes = c.args.codes.now in
    let same = c.in_ok-names.ensures.same in
    let ranks : c.in_ok-ranks.ranks.items ≡ ranks_of (map text_of codes) =
    c.in_ok-ranks.ensures ∙ ap (λ (ns : List (List ℕ)). map (λ (code : ℕ). pos (rank_of ns (text_of code))) codes) (c.as_slice.ensures ∙ same)
    ∙ sym (map-map (λ (t : List ℕ). pos (rank_of (distinct (map text_of codes)) t)) text_of codes) in
    rw (ranks, same) (ranks_are (map text_of codes))

pub returns : goal.returns
returns c =
    let codes = c.args.codes.now in
    let same = c.in_ok-names.ensures.same in
    let ranks : c.in_ok-ranks.ranks.items ≡ ranks_of (map text_of codes) =
    c.in_ok-ranks.ensures ∙ ap (λ (ns : List (List ℕ)). map (λ (code : ℕ). pos (rank_of ns (text_of code))) codes) (c.as_slice.ensures ∙ same)
    ∙ sym (map-map (λ (t : List ℕ). pos (rank_of (distinct (map text_of codes)) t)) text_of codes) in
    let name = c.new-name.ensures ∙ c.in_ok-from_slice.ensures.items in
    subst (λ (ns : List (List ℕ)). IfOk c.column_of.result (λ (column : ColumnHead × Vec ℕ Global). Stores (c.args.letter ∷ []) Text ns (ranks_of (map text_of codes)) column.0 (column_from column.1.items []))) same
    (subst (λ (zs : List ℤ). IfOk c.column_of.result (λ (column : ColumnHead × Vec ℕ Global). Stores (c.args.letter ∷ []) Text c.in_ok-names.names zs column.0 (column_from column.1.items []))) ranks
    (subst (λ (n : List ℕ). IfOk c.column_of.result (λ (column : ColumnHead × Vec ℕ Global). Stores n Text c.in_ok-names.names c.in_ok-ranks.ranks.items column.0 (column_from column.1.items []))) name c.column_of.ensures))
