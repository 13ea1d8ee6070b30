-- The query of a script that a value of its struct stands for.
use Rattle.sql_text.specs.Tree.{query_of}
use Rattle.daq_cli.specs.Scripts as spec
use Rattle.daq_cli.specs.declared.scripts.Scripted.{Scripted}

abbrev pub scripted_of : Scripted → spec.Scripted
scripted_of one = record { line = one.line; query = query_of one.tree }
