-- Numbers of a query, and the tests on tokens.
use Rattle.std.specs.Prelude.{ℕ, zero, suc, ◌^◌, ℤ, pos, negsuc, Bool, true, false}
use Rattle.std.specs.Prelude.{Option, Some, None, nat_eq, nat_lt, nat_le, if◌then◌else◌}
use Rattle.sql_tokens.specs.declared.token.Fixed.{Fixed}
use Rattle.sql_tokens.specs.declared.token.Fixed.TheVariants as fixed
use Rattle.sql_tokens.specs.Lexeme.{Lexeme, token, FIXED, NAME, NUMBER, STRING}
use Rattle.sql_text.specs.declared.tree.Num.{Num}
use Rattle.sql_text.specs.declared.tree.Comparison.{Comparison}
use Rattle.sql_text.specs.declared.tree.Comparison.TheVariants as cmps
use Rattle.sql_text.specs.declared.tree.CallKind.{CallKind}
use Rattle.sql_text.specs.declared.tree.CallKind.TheVariants as calls
use Rattle.sql_text.specs.Tree.{Name}

-- a number as it is written, without its sign
pub record Written : Type 0 where
  pub at : ℕ
  pub units : Option ℕ
  pub scale : ℕ

abbrev pub signed : Bool → Option ℕ → ℤ
signed false (Some n) = pos n
signed true (Some zero) = pos 0
signed true (Some (suc n)) = negsuc n
signed _ None = pos 0

abbrev pub number_of : Bool → Written → Num
number_of negative n = record { at = n.at; units = signed negative n.units; scale = n.scale }

-- the numbers of the trees: up to 2 ^ 63 - 1, and with a `-` before them up to 2 ^ 63
abbrev pub is_small : Bool → Option ℕ → Bool
is_small negative None = false
is_small false (Some n) = nat_lt n (2 ^ 63)
is_small true (Some n) = nat_le n (2 ^ 63)

abbrev pub any_number : Bool → Option ℕ → Bool
any_number negative n = true

-- ---- tests

abbrev pub index_of : Fixed → ℕ
index_of fixed.Select = 0
index_of fixed.From = 1
index_of fixed.Where = 2
index_of fixed.Group = 3
index_of fixed.By = 4
index_of fixed.Order = 5
index_of fixed.Asc = 6
index_of fixed.Desc = 7
index_of fixed.Limit = 8
index_of fixed.And = 9
index_of fixed.Or = 10
index_of fixed.Not = 11
index_of fixed.Between = 12
index_of fixed.In = 13
index_of fixed.Date = 14
index_of fixed.Count = 15
index_of fixed.Sum = 16
index_of fixed.Avg = 17
index_of fixed.Min = 18
index_of fixed.Max = 19
index_of fixed.Is = 20
index_of fixed.Null = 21
index_of fixed.Open = 22
index_of fixed.Close = 23
index_of fixed.Comma = 24
index_of fixed.Star = 25
index_of fixed.Plus = 26
index_of fixed.Minus = 27
index_of fixed.Semicolon = 28
index_of fixed.Equal = 29
index_of fixed.NotEqual = 30
index_of fixed.Less = 31
index_of fixed.LessEqual = 32
index_of fixed.Greater = 33
index_of fixed.GreaterEqual = 34

abbrev pub same : Fixed → Fixed → Bool
same a b = nat_eq (index_of a) (index_of b)

-- the place of this keyword or sign
unfoldable pub is : Fixed → Lexeme → Option ℕ
is k (token p (FIXED f)) = if same f k then Some p else None
is k (token p (NAME s)) = None
is k (token p (NUMBER u c)) = None
is k (token p (STRING s)) = None

unfoldable pub is_name : Lexeme → Option Name
is_name (token p (NAME s)) = Some (record { at = p; name = s })
is_name (token p (FIXED f)) = None
is_name (token p (NUMBER u c)) = None
is_name (token p (STRING s)) = None

unfoldable pub is_string : Lexeme → Option Name
is_string (token p (STRING s)) = Some (record { at = p; name = s })
is_string (token p (FIXED f)) = None
is_string (token p (NUMBER u c)) = None
is_string (token p (NAME s)) = None

unfoldable pub is_number : Lexeme → Option Written
is_number (token p (NUMBER u c)) = Some (record { at = p; units = u; scale = c })
is_number (token p (FIXED f)) = None
is_number (token p (NAME s)) = None
is_number (token p (STRING s)) = None

-- what a keyword or sign says of a token
abbrev pub fixed_test : {X : Type 0} → (Fixed → Option X) → Lexeme → Option X
fixed_test f (token p (FIXED k)) = f k
fixed_test f (token p (NAME s)) = None
fixed_test f (token p (NUMBER u c)) = None
fixed_test f (token p (STRING s)) = None

unfoldable pub cmp_of : Fixed → Option Comparison
cmp_of fixed.Equal = Some cmps.Eq
cmp_of fixed.NotEqual = Some cmps.Ne
cmp_of fixed.Less = Some cmps.Lt
cmp_of fixed.LessEqual = Some cmps.Le
cmp_of fixed.Greater = Some cmps.Gt
cmp_of fixed.GreaterEqual = Some cmps.Ge
cmp_of _ = None

unfoldable pub call_of : Fixed → Option CallKind
call_of fixed.Sum = Some calls.Sum
call_of fixed.Avg = Some calls.Avg
call_of fixed.Min = Some calls.Min
call_of fixed.Max = Some calls.Max
call_of _ = None

-- a sign between terms: whether it is `-`
unfoldable pub sum_of : Fixed → Option Bool
sum_of fixed.Plus = Some false
sum_of fixed.Minus = Some true
sum_of _ = None

abbrev pub is_fixed : Lexeme → Option Fixed
is_fixed = fixed_test (λ k. Some k)

abbrev pub is_cmp : Lexeme → Option Comparison
is_cmp = fixed_test cmp_of

abbrev pub is_call : Lexeme → Option CallKind
is_call = fixed_test call_of

abbrev pub is_sum : Lexeme → Option Bool
is_sum = fixed_test sum_of
