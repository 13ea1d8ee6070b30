use Rattle.std.proofs.Common.{◌≡◌, ◌-◌, ◌*◌, min, length, get_or, take, replicate, ap, sym, ◌∙◌, arith}
use Rattle.std.specs.List.{fold}
use Rattle.std.proofs.lemmas.List.{get_or-take, length-take, take-replicate}
use Rattle.plane_kernels.specs.Rows.{bits_of}
use Rattle.query_model.specs.Knowledge.{longer}
use Rattle.known_column.specs.Columns.{block_rows}
use Rattle.known_column.proofs.WordDigits.{words_of_planes}
use Rattle.known_column.proofs.blocks.block_digits.Goals as goal

pub returns : goal.returns
returns c = λ rows each.
    let planes = c.args.planes.now in
    let block = c.args.block in
    let words = c.read_words.new.words in
    let part = take (length planes) words in
    let count = min 64 (rows - 64 * block) in
    let long : length part ≡ length planes = (let part_long = length-take (length planes) words in omega arith) in
    ap (take count) c.word_digits.ensures
    ∙ words_of_planes block count planes part (replicate 64 0) (omega arith) long (λ j none below.
    ap (bits_of count) (get_or-take (length planes) words j 0 below) ∙ ap (λ n. bits_of (min 64 (n - 64 * block)) (get_or words j 0)) (sym (each j none below)) ∙ c.read_words.ensures j none below)
    ∙ ap (λ l. fold (λ numbers plane. longer numbers (block_rows block plane)) l planes) (take-replicate count 64 0 (omega arith))
