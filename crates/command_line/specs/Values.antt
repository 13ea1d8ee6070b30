-- The command that a value of the enum stands for.
use Rattle.std.specs.Prelude.{option_map}
use Rattle.command_line.specs.Commands as spec
use Rattle.command_line.specs.declared.command.ReadOrder.{ReadOrder}
use Rattle.command_line.specs.declared.command.ReadOrder.TheVariants.{By, Reads}
use Rattle.command_line.specs.declared.command.Options.{Options}
use Rattle.command_line.specs.declared.command.Ask.{Ask}
use Rattle.command_line.specs.declared.command.Combine.{Combine}
use Rattle.command_line.specs.declared.command.Demo.{Demo}
use Rattle.command_line.specs.declared.command.Info.{Info}
use Rattle.command_line.specs.declared.command.Load.{Load}
use Rattle.command_line.specs.declared.command.Query.{Query}
use Rattle.command_line.specs.declared.command.Session.{Session}
use Rattle.command_line.specs.declared.command.Upgrade.{Upgrade}
use Rattle.command_line.specs.declared.command.Command.{Command}
use Rattle.command_line.specs.declared.command.Command.TheVariants as c
use Rattle.command_line.specs.declared.reader.Given.{Given}
use Rattle.command_line.specs.declared.reader.Limits.{Limits}

abbrev pub order_of : ReadOrder → spec.ReadOrder
order_of (By policy) = spec.fixed policy
order_of (Reads names) = spec.reads names.now

abbrev pub options_of : Options → spec.Options
options_of o =
    record {
      width = o.width;
      rounds = o.rounds;
      order = order_of o.order;
      listing = o.listing;
      clip = o.clip;
      exact = o.exact;
      keys = o.keys;
    }

abbrev pub ask_of : Ask → spec.Ask
ask_of a = record { csv = a.csv.now; schema = a.schema.now; sql = a.sql.now; options = options_of a.options }

abbrev pub query_of : Query → spec.Query
query_of q = record { file = q.file.now; sql = q.sql.now; options = options_of q.options }

abbrev pub session_of : Session → spec.Session
session_of s = record { file = s.file.now; script = s.script.now; options = options_of s.options }

abbrev pub load_of : Load → spec.Load
load_of l = record { csv = l.csv.now; file = l.file.now; schema = l.schema.now }

abbrev pub info_of : Info → spec.Info
info_of i = record { file = i.file.now }

abbrev pub upgrade_of : Upgrade → spec.Upgrade
upgrade_of u = record { older = u.older.now; newer = u.newer.now }

abbrev pub demo_of : Demo → spec.Demo
demo_of d = record { seed = d.seed; rows = d.rows; sql = d.sql.now; options = options_of d.options }

abbrev pub combine_of : Combine → spec.Combine
combine_of c = record { parts = c.parts; reports = c.reports.now; width = c.width; rounds = c.rounds; keys = c.keys }

abbrev pub command_of : Command → spec.Command
command_of (c.Ask a) = spec.ask (ask_of a)
command_of (c.Query q) = spec.query (query_of q)
command_of (c.Session s) = spec.session (session_of s)
command_of (c.Load l) = spec.load (load_of l)
command_of (c.Info i) = spec.info (info_of i)
command_of (c.Upgrade u) = spec.upgrade (upgrade_of u)
command_of (c.Demo d) = spec.demo (demo_of d)
command_of (c.Combine b) = spec.combine (combine_of b)
command_of c.Help = spec.help
command_of c.Version = spec.version

abbrev pub given_of : Given → spec.Given
given_of g = record {
  width = g.width;
  rounds = g.rounds;
  order = option_map order_of g.order;
  listing = g.listing;
  clip = g.clip;
  exact = g.exact;
  keys = g.keys;
}

abbrev pub limits_of : Limits → spec.Limits
limits_of l = record { width = l.width; rounds = l.rounds; keys = l.keys }
