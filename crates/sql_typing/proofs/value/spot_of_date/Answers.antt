-- A text is a date exactly where its day is found.
use Rattle.std.proofs.Common.{refl, inr, rules}
use Rattle.sql_typing.proofs.Dates.{date_fails, date_test}
use Rattle.sql_typing.proofs.value.spot_of_date.Goals as goal

pub returns-in-Some : goal.returns-in-Some
returns-in-Some c = let test = date_test c.args.text.now c.in-Some.ensures.0 in (rw test refl, search rules)

pub returns-in-None : goal.returns-in-None
returns-in-None c = let test = date_fails c.args.text.now c.in-None.ensures in inr (rw test refl)
