-- Which device stands over which file that a command names.
use Rattle.std.specs.Prelude.{ℕ, List, []}
use Rattle.command_line.specs.Commands.{Command, ask, query, session, load, info, upgrade, demo, combine, help, version}

-- the path of each device, empty where it is closed: of the input, of what is read beside it, of the plane file, of the file that is made
pub record Paths : Type 0 where
  pub input : List ℕ
  pub side : List ℕ
  pub planes : List ℕ
  pub made : List ℕ

abbrev pub no_paths : Paths
no_paths = record { input = []; side = []; planes = []; made = [] }

-- those that a command names
abbrev pub paths_of : Command → Paths
paths_of (ask a) = record no_paths { input = a.csv }
paths_of (query q) = record no_paths { planes = q.file }
paths_of (session s) = record no_paths { planes = s.file; side = s.script }
paths_of (load l) = record no_paths { input = l.csv; made = l.file }
paths_of (info i) = record no_paths { planes = i.file }
paths_of (upgrade u) = record no_paths { planes = u.older; made = u.newer }
paths_of (demo d) = no_paths
paths_of (combine c) = record no_paths { input = c.reports }
paths_of help = no_paths
paths_of version = no_paths
