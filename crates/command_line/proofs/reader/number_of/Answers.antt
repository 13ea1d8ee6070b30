use Rattle.std.proofs.Common.{◌≡◌, true}
use Rattle.std.specs.Char.{is_ascii_digit}
use Rattle.std.specs.List.{list_all}
use Rattle.command_line.proofs.Numbers.{own}
use Rattle.command_line.proofs.reader.number_of.Goals as goal

pub returns-else-is_digits : goal.returns-else-is_digits
returns-else-is_digits c = λ numeral.
    let digits : list_all is_ascii_digit c.args.word.now ≡ true = own.from c.args.word.now numeral.0.1 in
    let same = c.is_digits.ensures in let test = c.if-is_digits.false in cc
