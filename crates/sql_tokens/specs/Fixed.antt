-- How keywords and signs are written.
use Rattle.std.specs.Prelude.{ℕ, List, Bool, true, false, codes}
use Rattle.sql_tokens.specs.declared.token.Fixed.{Fixed}
use Rattle.sql_tokens.specs.declared.token.Fixed.TheVariants.{Select, From, Where, Group, By, Order, Asc, Desc, Limit}
use Rattle.sql_tokens.specs.declared.token.Fixed.TheVariants.{And, Or, Not, Between, In, Date, Count, Sum, Avg, Min, Max}
use Rattle.sql_tokens.specs.declared.token.Fixed.TheVariants.{Is, Null, Open, Close, Comma, Star, Plus, Minus, Semicolon}
use Rattle.sql_tokens.specs.declared.token.Fixed.TheVariants.{Equal, NotEqual, Less, LessEqual, Greater, GreaterEqual}

-- the bytes of a keyword, in capitals, or of a sign
abbrev pub spelling : Fixed → List ℕ
spelling Select = codes "SELECT"
spelling From = codes "FROM"
spelling Where = codes "WHERE"
spelling Group = codes "GROUP"
spelling By = codes "BY"
spelling Order = codes "ORDER"
spelling Asc = codes "ASC"
spelling Desc = codes "DESC"
spelling Limit = codes "LIMIT"
spelling And = codes "AND"
spelling Or = codes "OR"
spelling Not = codes "NOT"
spelling Between = codes "BETWEEN"
spelling In = codes "IN"
spelling Date = codes "DATE"
spelling Count = codes "COUNT"
spelling Sum = codes "SUM"
spelling Avg = codes "AVG"
spelling Min = codes "MIN"
spelling Max = codes "MAX"
spelling Is = codes "IS"
spelling Null = codes "NULL"
spelling Open = codes "("
spelling Close = codes ")"
spelling Comma = codes ","
spelling Star = codes "*"
spelling Plus = codes "+"
spelling Minus = codes "-"
spelling Semicolon = codes ";"
spelling Equal = codes "="
spelling NotEqual = codes "<>"
spelling Less = codes "<"
spelling LessEqual = codes "<="
spelling Greater = codes ">"
spelling GreaterEqual = codes ">="

-- every other is a keyword
abbrev pub is_sign : Fixed → Bool
is_sign Open = true
is_sign Close = true
is_sign Comma = true
is_sign Star = true
is_sign Plus = true
is_sign Minus = true
is_sign Semicolon = true
is_sign Equal = true
is_sign NotEqual = true
is_sign Less = true
is_sign LessEqual = true
is_sign Greater = true
is_sign GreaterEqual = true
is_sign _ = false
