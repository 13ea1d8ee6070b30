use Rattle.std.proofs.Common.{◌≡◌, ℕ, ◌<◌, ◌+◌, ◌==◌, Bool, false, List, get_or, cond, length, take, sym, ap, ◌∙◌, arith}
use Rattle.std.specs.Int.{bit_at}
use Rattle.std.proofs.lemmas.List.{get_or-take, length-take}
use Rattle.std.proofs.lemmas.Option.{get_or_from_slice_get}
use Rattle.std.proofs.lemmas.Simd.{get_or-zip2}
use Rattle.plane_kernels.specs.Rows.{bits_of}
use Rattle.plane_kernels.proofs.RowLemmas.{get-bits_of, length-bits_of}
use Rattle.known_column.specs.Columns.{KnownColumn, rows_of_column}
use Rattle.known_column.specs.RowBlocks.{joined_prefixes}
use Rattle.known_column.proofs.column_block.ColumnBlock.prefix.Goals as goal

within : (column : KnownColumn) (rows row : ℕ) (prefixes : List ℕ) → take rows prefixes ≡ column.known.prefixes → row < rows_of_column column → row < rows
within column rows row prefixes is below = (let long = length-take rows prefixes in let same = ap (length {A = ℕ}) is in omega arith)

pub offset_bounds-self-inside-row : goal.offset_bounds-self-inside-row
offset_bounds-self-inside-row c =
    let k = c.self.inside in
    let below = within c.args.self.now k.rows c.args.row (joined_prefixes k.least k.numbers k.possible) (ap (λ (v : KnownColumn). v.known.prefixes) c.self.view_is) c.requires in
    let few = c.self.invariant.few_rows in
    omega arith

pub returns : goal.returns
returns c =
    let k = c.self.inside in
    let row = c.args.row in
    let bits = bits_of 64 k.possible in
    let ps = joined_prefixes k.least k.numbers k.possible in
    let join : ℕ → Bool → ℕ = λ number bit. cond bit (k.least + number) 0 in
    let below : row < k.rows = within c.args.self.now k.rows row ps (ap (λ (v : KnownColumn). v.known.prefixes) c.self.view_is) c.requires in
    let few : row < 64 = (let most = c.self.invariant.few_rows in omega arith) in
    let in_numbers : row < length k.numbers = omega (arith, few, c.self.told) in
    let in_bits : row < length bits = omega (arith, few, length-bits_of 64 k.possible) in
    let bit : get_or bits row false ≡ (bit_at k.possible row == 1) = get_or_from_slice_get bits row (bit_at k.possible row == 1) false (get-bits_of 64 k.possible row few) in
    c.joined_prefix.ensures ∙ sym (get_or-zip2 join k.numbers bits row 0 false 0 in_numbers in_bits ∙ ap (join (get_or k.numbers row 0)) bit)
    ∙ sym (get_or-take k.rows ps row 0 below) ∙ ap (λ (v : KnownColumn). get_or v.known.prefixes row 0) c.self.view_is
