-- A text against a column of names.
use Rattle.std.proofs.Common.{refl, ap, ◌∙◌}
use Rattle.sql_typing.specs.Typing.{spot_of_text}
use Rattle.sql_typing.proofs.value.spot_of.Goals as goal

pub returns-in-Text : goal.returns-in-Text
returns-in-Text c = rw (c.in-Str.is, c.in-Text.is) (refl, c.spot_of_text.ensures ∙ ap (λ t. spot_of_text c.args.names.now t) c.as_slice.ensures.value)
