use Rattle.std.proofs.Common.{◌≡◌, length, rules}
use Rattle.report_parts.proofs.Turns.{closes_ok}
use Rattle.report_parts.specs.declared.closing.Closing.TheVariants.{Unknown}
use Rattle.report_parts.proofs.part.Part.take_closing.Goals as goal

pub returns-clause-taken : goal.returns-clause-taken
returns-clause-taken c =
    let first : c.args.self.now.closing ≡ Unknown = search rules in
    let all : length c.args.self.now.current ≡ length c.args.shape.now.kinds = search rules in
    closes_ok c.close_by.result c.args.shape.now c.args.self.now c.args.line.now c.close_by.new.self first all c.close_by.ensures.taken
