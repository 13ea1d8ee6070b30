use Rattle.std.proofs.Common.{◌≡◌, ◌*◌, take}
use Rattle.std.specs.Int.{int_wrap, w128}
use Rattle.query_model.specs.Queries.{term_of}
use Rattle.product_sums.specs.Products.{sum_over, term_end}
use Rattle.product_sums.proofs.sums.sum_wrapped.Given as goal

abbrev pub invariant-loop-block : goal.invariant-loop-block
invariant-loop-block l = l.sum ≡ int_wrap w128 (sum_over (take (512 * l.block) l.rows) (term_end l.columns l.end (term_of l.arg)))
