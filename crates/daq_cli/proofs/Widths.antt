-- The width of a command's options is below 2 ^ 63.
use Rattle.std.proofs.Common.{ℕ, ◌≤◌, List, Option, Some, None, IfSome, unwrap_or, zero-le}
use Rattle.command_line.specs.Commands.{Ask, Demo, Given, Gives, IsCommand, Query, Session, ask, demo, query, session, most_width, no_more, more_width, more_rounds, more_policy, more_reads, more_list, more_part, more_clip, more_exact, more_keys}

abbrev IsSmall : Given → Type 0
IsSmall g = IfSome g.width (λ n. n ≤ most_width)

small_given : {g h : Given} {words : List (List ℕ)} → Gives g words h → IsSmall g → IsSmall h
small_given no_more s = s
small_given (more_width none number rest) s = small_given rest number.small
small_given (more_rounds none number rest) s = small_given rest s
small_given (more_policy none is rest) s = small_given rest s
small_given (more_reads none rest) s = small_given rest s
small_given (more_list none rest) s = small_given rest s
small_given (more_part none rest) s = small_given rest s
small_given (more_clip none rest) s = small_given rest s
small_given (more_exact none rest) s = small_given rest s
small_given (more_keys none rest) s = small_given rest s

small_width : (width : Option ℕ) → IfSome width (λ n. n ≤ most_width) → unwrap_or width 0 ≤ most_width
small_width None s = zero-le
small_width (Some n) s = s

pub ask_width : (words : List (List ℕ)) (a : Ask) → IsCommand words (ask a) → a.options.width ≤ most_width
ask_width words a is = rw is.options.say (small_width is.options.given.width (small_given is.options.gives tt))

pub demo_width : (words : List (List ℕ)) (d : Demo) → IsCommand words (demo d) → d.options.width ≤ most_width
demo_width words d is = rw is.options.say (small_width is.options.given.width (small_given is.options.gives tt))

pub query_width : (words : List (List ℕ)) (q : Query) → IsCommand words (query q) → q.options.width ≤ most_width
query_width words q is = rw is.options.say (small_width is.options.given.width (small_given is.options.gives tt))

pub session_width : (words : List (List ℕ)) (s : Session) → IsCommand words (session s) → s.options.width ≤ most_width
session_width words s is = rw is.options.say (small_width is.options.given.width (small_given is.options.gives tt))
