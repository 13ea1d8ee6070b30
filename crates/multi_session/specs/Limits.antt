-- How many queries, columns and cells a session may have.
use Rattle.std.specs.Prelude.{◌≡◌, ℕ, ◌*◌, ◌^◌, nat_lt, List, length, sum_by, if◌then◌else◌}
use Rattle.std.specs.declared.option.Option.{Option}
use Rattle.std.specs.declared.option.Option.TheVariants.{Some, None}
use Rattle.query_model.specs.Queries.{Query}
use Rattle.multi_session.specs.declared.limits.SessionFault.{SessionFault}
use Rattle.multi_session.specs.declared.limits.SessionFault.TheVariants.{TooMany, TooManyColumns, TooLarge, NoMemory}
use Rattle.multi_session.specs.Sessions.{columns_named}

-- the cells of the columns of each query
abbrev pub cells_in : ℕ → List Query → ℕ
cells_in rows queries = rows * sum_by (λ query. length query.columns) queries

-- the first limit that is passed, if one is: 16 queries, 16 columns, 2^27 cells
abbrev pub limit_passed : ℕ → List Query → Option SessionFault
limit_passed rows queries =
    if nat_lt 16 (length queries) then Some (TooMany (length queries))
    else (if nat_lt 16 (length (columns_named queries)) then Some (TooManyColumns (length (columns_named queries)))
    else (if nat_lt (2 ^ 27) (cells_in rows queries) then Some (TooLarge (cells_in rows queries)) else None))

-- no session is opened over so many rows: a limit is passed, or there is no memory
abbrev pub RefusesSession : ℕ → List Query → SessionFault → Type 0
RefusesSession rows queries (TooMany count) = limit_passed rows queries ≡ Some (TooMany count)
RefusesSession rows queries (TooManyColumns count) = limit_passed rows queries ≡ Some (TooManyColumns count)
RefusesSession rows queries (TooLarge cells) = limit_passed rows queries ≡ Some (TooLarge cells)
RefusesSession rows queries NoMemory = Unit {0}
