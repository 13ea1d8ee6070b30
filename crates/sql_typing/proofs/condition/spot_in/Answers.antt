-- The spot of a value, by the kind and the names of its column.
use Rattle.sql_typing.proofs.condition.spot_in.Goals as goal

pub returns : goal.returns
returns c = rw (c.kind_of.ensures, c.dictionary_of.ensures, c.as_slice-name.ensures.value) at c.spot_of.ensures
