-- The bytes are counted by their parts.
use Rattle.std.proofs.Common.{sym, ap, ◌∙◌}
use Rattle.plane_file.specs.Format.{file_size}
use Rattle.plane_file.proofs.Lengths.{length-file}
use Rattle.plane_file.proofs.writing.write.Goals as goal

pub returns-in-Ok-clause-size : goal.returns-in-Ok-clause-size
returns-in-Ok-clause-size g c = c.size_of_file-size.ensures ∙ ap file_size c.head-head.ensures.head ∙ sym (length-file 2 c.args.table.now c.head-head.ensures.is_table)
