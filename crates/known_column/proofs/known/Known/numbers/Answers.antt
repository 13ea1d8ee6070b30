use Rattle.std.proofs.Common.{◌≡◌, ◌<◌, ◌≤◌, ◌-◌, ◌*◌, cond, min, length, map, take, drop, sym, subst, ap, refl, ◌∙◌, arith, rules}
use Rattle.std.specs.List.{All}
use Rattle.std.proofs.lemmas.List.Elements.{All-take, All-drop}
use Rattle.known_column.specs.Columns.{block_rows, number_of, rows_of_column}
use Rattle.known_column.specs.Marks.{prefixes_after}
use Rattle.known_column.proofs.MarkSteps.{count_after}
use Rattle.known_column.proofs.NumberBlocks.{numbers_of_planes, block_of_numbers, block-map}
use Rattle.known_column.proofs.known.Known.numbers.Goals as goal

pub block_digits-requires-clause-rows : goal.block_digits-requires-clause-rows
block_digits-requires-clause-rows c =
    let k = c.self.inside in
    let block = c.args.block in
    let rows = length k.marks.at_top in
    let count : length (prefixes_after rows (take k.read k.planes.items)) ≡ rows = count_after rows k.read k.planes.items c.self.invariant.rows in
    let there : 64 * block < rows = subst (λ n. 64 * block < n) count (subst (λ v. 64 * block < rows_of_column v) (sym c.self.view_is) c.requires) in
    let each : All (λ plane. 64 * block < length plane) k.planes.items = λ i d below. subst (λ n. 64 * block < n) (sym (c.self.invariant.rows i d below)) there in
    let handed : All (λ plane. 64 * block < length plane) c.deref.result.now = subst (All (λ plane. 64 * block < length plane)) (sym c.deref.ensures.value) each in
    All-take (λ plane. 64 * block < length plane) (c.from-to.result - c.min-from.result) (drop c.min-from.result c.deref.result.now) (All-drop (λ plane. 64 * block < length plane) c.min-from.result c.deref.result.now handed)

pub returns : goal.returns
returns c =
    let k = c.self.inside in
    let block = c.args.block in
    let rows = length k.marks.at_top in
    let planes = k.planes.items in
    let from = c.min-from.result in
    let ps = prefixes_after rows (take k.read planes) in
    let room : k.read ≤ length planes = (let all = c.self.invariant.room in let some = c.self.invariant.some_read in omega arith) in
    let count : length ps ≡ rows = count_after rows k.read planes c.self.invariant.rows in
    let first : c.from.result ≡ cond k.ends.nullable 1 0 = search rules in
    let is : from ≡ min (cond k.ends.nullable 1 0) k.read = c.min-from.ensures ∙ ap (λ n. min n c.from-to.result) first ∙ ap (min (cond k.ends.nullable 1 0)) c.from-to.ensures in
    let part = take (c.from-to.result - from) (drop from c.deref.result.now) in
    let same : part ≡ take (k.read - from) (drop from planes) = ap (λ l. take (c.from-to.result - from) (drop from l)) c.deref.ensures.value ∙ ap (λ n. take (n - from) (drop from planes)) c.from-to.ensures in
    let each : All (λ plane. length plane ≡ rows) part =
    subst (All (λ plane. length plane ≡ rows)) (sym same) (All-take (λ plane. length plane ≡ rows) (k.read - from) (drop from planes) (All-drop (λ plane. length plane ≡ rows) from planes c.self.invariant.rows)) in
    let numbers = numbers_of_planes k.ends.nullable k.ends k.read rows from planes refl is c.self.invariant.some_read room c.self.invariant.rows c.self.invariant.legal in
    let whole : take (min 64 (rows - 64 * block)) c.block_digits.new.numbers ≡ map (number_of k.ends k.read) (block_rows block ps) =
    c.block_digits.ensures rows each ∙ block_of_numbers block rows part ∙ ap (λ l. block_rows block (prefixes_after rows l)) same ∙ ap (block_rows block) (sym numbers) ∙ block-map (number_of k.ends k.read) block ps in
    ap (λ v. take (min 64 (rows_of_column v - 64 * block)) c.block_digits.new.numbers) (sym c.self.view_is) ∙ ap (λ n. take (min 64 (n - 64 * block)) c.block_digits.new.numbers) count
    ∙ whole ∙ ap (λ v. map (number_of v.ends v.known.read) (block_rows block v.known.prefixes)) c.self.view_is
