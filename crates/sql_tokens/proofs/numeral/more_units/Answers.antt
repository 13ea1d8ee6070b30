-- One more digit keeps the value, or makes it too large.
use Rattle.std.proofs.Common.{◌≡◌, ◌-◌, sym, ◌∙◌, ap, arith, get_or}
use Rattle.sql_tokens.specs.Spelling.{held}
use Rattle.sql_tokens.proofs.Units.{held_small, value_end, too_large, one_more}
use Rattle.sql_tokens.proofs.numeral.more_units.Goals as goal

pub returns-then-units : goal.returns-then-units
returns-then-units c = too_large c.loop-d.units c.loop-d.d-index c.args.digits.now _ c.loop-d-test.true c.loop-d.invariant.reads (omega arith)

pub returns-then-units-gt-LARGEST : goal.returns-then-units-gt-LARGEST
returns-then-units-gt-LARGEST c = too_large c.loop-d.units c.loop-d.d-index c.args.digits.now _ c.loop-d-test.true c.loop-d.invariant.reads (omega arith)

pub loop-d-preserved : goal.loop-d-preserved
loop-d-preserved c =
    let digit : c.from.result ≡ get_or c.args.digits.now c.loop-d.d-index 0 - 48 = c.from.ensures ∙ c.saturating_sub.ensures in
    record {
      small = omega arith;
      reads = rw digit (one_more c.loop-d.units c.loop-d.d-index c.args.digits.now _ c.loop-d-test.true c.loop-d.invariant.reads);
    }

pub returns : goal.returns
returns c =
    let all = ap held (sym (value_end c.loop-d.units c.loop-d.d-index c.args.digits.now (omega arith))) ∙ c.loop-d.invariant.reads in
    sym (held_small c.loop-d.units (omega arith)) ∙ all
