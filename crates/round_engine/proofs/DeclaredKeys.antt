-- What the parts of the keys of a cell may be lies in what is declared of their columns.
use Rattle.std.proofs.Common.{ℕ, List, [], ◌∷◌, map, IsTrue, arith}
use Rattle.std.proofs.lemmas.Bool.{and_parts, false≢true}
use Rattle.std.proofs.lemmas.Int.{ints}
use Rattle.interval_calc.specs.Intervals.{Within}
use Rattle.daq_table.specs.declared.head.Ends.{Ends}
use Rattle.daq_table.specs.Tables.{Frame, ends_at}
use Rattle.query_model.specs.Knowledge.{IsLegal, Knowledge, is_legal, known_at, range_of}
use Rattle.query_model.specs.Validity.{declared_range}
use Rattle.query_model.proofs.Blocks.{range_ordered}
use Rattle.row_groups.specs.Partition.{are_legal, part_under, ranges_of_prefixes}
use Rattle.round_engine.specs.Cells.{AreDeclared}

range_declared : (ends : Ends) (read p : ℕ) → IsLegal ends read p → Within (declared_range ends).numbers (range_of ends read p).numbers.low × Within (declared_range ends).numbers (range_of ends read p).numbers.high
range_declared ends read p legal =
    let above = ends.ordered in
    let ordered = range_ordered ends read p legal in
    (record { above = omega (arith, ints); below = omega (arith, ints) }, record { above = omega (arith, ints); below = omega (arith, ints) })

pub parts_declared : (frame : Frame) (known : Knowledge) (cs qs : List ℕ) → IsTrue (are_legal (map (part_under frame known) cs) qs) → AreDeclared frame cs (ranges_of_prefixes (map (part_under frame known) cs) qs)
parts_declared frame known [] qs h = tt
parts_declared frame known (c ∷ cs) [] h = absurd (false≢true h)
parts_declared frame known (c ∷ cs) (q ∷ qs) h =
    let read = (known_at known c).read in
    let both = and_parts (is_legal (ends_at frame c) read q) (are_legal (map (part_under frame known) cs) qs) h in
    let here = range_declared (ends_at frame c) read q both.0 in
    (here.0, here.1, parts_declared frame known cs qs both.1)
