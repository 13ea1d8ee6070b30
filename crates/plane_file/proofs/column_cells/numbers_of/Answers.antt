use Rattle.std.proofs.Common.{◌≡◌, ℕ, ◌+◌, ◌-◌, ◌*◌, ◌≤◌, min, List, ◌++◌, length, map, take, drop, sym, ap, ◌∙◌, arith}
use Rattle.std.proofs.lemmas.List.{drop-map, length-map, take-map}
use Rattle.outer_world.proofs.Steps.{take_both}
use Rattle.known_column.specs.Columns.{number_of}
use Rattle.plane_file.proofs.column_cells.numbers_of.Goals as goal

-- the numbers of a block behind those before it
block_more : (f : ℕ → ℕ) (ps numbers block items : List ℕ) (number count : ℕ) → 64 * number ≤ length ps → numbers ≡ take (64 * number) (map f ps) → count ≡ min 64 (length ps - 64 * number) →
    take count block ≡ map f (take 64 (drop (64 * number) ps)) → items ≡ numbers ++ take count block → items ≡ take (64 * (number + 1)) (map f ps)
block_more f ps numbers block items number count within before _ here all =
    let more : 64 * number + 64 ≡ 64 * (number + 1) = omega arith in
    all ∙ ap (λ l. l ++ take count block) before ∙ ap (λ l. take (64 * number) (map f ps) ++ l) (here ∙ sym (take-map f 64 (drop (64 * number) ps)) ∙ ap (take 64) (sym (drop-map f (64 * number) ps)))
    ∙ sym (take_both (64 * number) 64 (map f ps) (omega (arith, within, length-map ps f))) ∙ ap (λ n. take n (map f ps)) more

pub loop-number-preserved : goal.loop-number-preserved
loop-number-preserved c =
    let known = c.args.known.now in
    let number = c.loop-number.number in
    let rows : c.rows-rows.result ≡ length known.known.prefixes = c.rows-rows.ensures.rows in
    let count : c.min.result ≡ min 64 (length known.known.prefixes - 64 * number) = omega (arith, c.min.ensures, rows) in
    block_more (number_of known.ends known.known.read) known.known.prefixes c.loop-number.numbers.items c.numbers.new.numbers _ number c.min.result (omega (arith, rows, c.loop-number-test.true, c.div_ceil-number-end.ensures))
    c.loop-number.invariant count (ap (λ n. take n c.numbers.new.numbers) count ∙ c.numbers.ensures) c.in_ok-extend_from_slice.ensures.items
