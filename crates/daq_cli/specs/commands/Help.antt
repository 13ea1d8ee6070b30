-- `help`: what the commands are, their options, and what they take.
use Rattle.std.specs.Prelude.{ℕ, List, ◌++◌, codes}
use Rattle.plane_schedule.specs.Choices.{policy_words}

unfoldable pub help_text : List ℕ
help_text =
    codes "daq answers SQL aggregates over a table by intervals that certainly contain the answers, narrowed plane by plane.\n\n"
    ++ (codes "  daq load CSV FILE SCHEMA             writes the table of a CSV as a plane file\n"
    ++ (codes "  daq query FILE SQL [OPTION ..]       asks a plane file\n"
    ++ (codes "  daq session FILE SCRIPT [OPTION ..]  asks a plane file the queries of a script, one in a line, and reads each plane once\n"
    ++ (codes "  daq info FILE                        prints what the head of a plane file declares\n"
    ++ (codes "  daq upgrade OLD NEW                  writes the table of a plane file in the newest version of the format\n"
    ++ (codes "  daq ask CSV SCHEMA SQL [OPTION ..]   asks a CSV\n"
    ++ (codes "  daq demo SEED ROWS SQL [OPTION ..]   asks a table that is made from a seed\n"
    ++ (codes "  daq combine PARTS REPORTS [LIMIT ..] joins the reports of the parts of a table; a limit is --width, --rounds or --keys\n"
    ++ (codes "  daq help                             prints this help, as do daq --help and daq -h\n"
    ++ (codes "  daq --version                        prints the version, as does daq -V\n\n"
    ++ (codes "  --width NUMBER    ends once each interval is this narrow, in units of the last digit shown\n"
    ++ (codes "  --rounds NUMBER   ends after so many planes\n"
    ++ (codes "  --policy POLICY   which column is read next: "
    ++ (policy_words
    ++ (codes "\n"
    ++ (codes "  --reads NAME,..   reads these columns, a plane each, in this order; not in a session\n"
    ++ (codes "  --list            with ORDER BY, also shows the rows that may be among the first\n"
    ++ (codes "  --part            with ORDER BY, lists as --list does, for combine; a round of over 100,000 rows lists none\n"
    ++ (codes "  --keys            with ORDER BY, ends only once the keys of the first rows are this narrow too\n"
    ++ (codes "  --clip            shows the interval of a sum or an extreme whose column the condition clips\n"
    ++ (codes "  --exact-avg       shows the exact extremes of an average\n\n"
    ++ (codes "A schema names each column of the CSV with its type: int, dec0 to dec9, date or text, ? where it may be empty, or skip:\n\n"
    ++ (codes "  daq ask shop.csv price:int,qty:int?,city:text 'SELECT city, SUM(price) FROM t WHERE qty > 2 GROUP BY city'\n\n"
    ++ (codes "The table is always t. A query has at most 16 columns, 16 aggregates, 64 values in an IN, and 1,000 rows behind LIMIT.\n"
    ++ (codes "A session has at most 16 queries, which name 16 columns together. The manual: man daq\n")))))))))))))))))))))))))
