-- Each command of the grammar is read whole.
use Rattle.command_line.specs.declared.reader.Flag.TheVariants as f
use Rattle.std.proofs.Common.{◌≡◌, ◌≢◌, ℕ, ◌+◌, Bool, true, false, ◌&&◌, Option, None, Some, Ok, List, [], ◌∷◌, option_map, unwrap_or, refl, sym, ap, inl, inr, ◌∙◌, codes}
use Rattle.command_line.specs.Commands.{ReadOrder, fixed, reads, IsPolicy, Given, Gives, no_more, more_width, more_rounds, more_policy, more_reads, more_list, more_part, more_clip, more_exact, more_keys, Options, Command, ask, query, session, load, info, upgrade, demo, combine, help, version, IsCommand, Limits, Limit, no_limit, limit_width, limit_rounds, limit_keys, options_given, most_seed, most_rows, most_width, most_rounds}
use Rattle.command_line.specs.Reading.{name, option, limiting, done, after_ask, after_query, after_session, after_load, after_info, after_upgrade, after_demo, after_combine, after_name, answer, lone_command}
use Rattle.plane_schedule.specs.Choices.{policy_named}
use Rattle.plane_schedule.specs.declared.policies.FixedPolicy.{FixedPolicy}
use Rattle.plane_schedule.specs.declared.policies.FixedPolicy.TheVariants.{Widest}
use Rattle.plane_schedule.proofs.One.{word_named}
use Rattle.command_line.proofs.Numbers.{number_some, parts_some}
use Rattle.command_line.proofs.Steps.{answer-none, answer-step, after_free, after_limit_name, is_none_at, not_at, Allowed}

pub policy_some : (w : List ℕ) (p : FixedPolicy) → IsPolicy w p → policy_named w ≡ Some p
policy_some w p e = ap policy_named e ∙ word_named p

taken : {A B : Type 0} (o : Option A) (x : A) → o ≡ None → o ≡ Some x → B
taken o x none some = let e : None ≡ Some x = sym none ∙ some in cc

-- an order that is given stays
order_stays : {g h : Given} {ws : List (List ℕ)} → Gives g ws h → (order : ReadOrder) → g.order ≡ Some order → h.order ≡ Some order
order_stays no_more order e = e
order_stays (more_width unset is more) order e = order_stays more order e
order_stays (more_rounds unset is more) order e = order_stays more order e
order_stays (more_policy {g} unset is more) order e = taken g.order order unset e
order_stays (more_reads {g} unset more) order e = taken g.order order unset e
order_stays (more_list unset more) order e = order_stays more order e
order_stays (more_part unset more) order e = order_stays more order e
order_stays (more_clip unset more) order e = order_stays more order e
order_stays (more_exact unset more) order e = order_stays more order e
order_stays (more_keys unset more) order e = order_stays more order e

both : (a b : Bool) → a ≡ true → b ≡ true → a && b ≡ true
both a b left right = rw (left, right) refl

pub options_whole : {g h : Given} {ws : List (List ℕ)} → Gives g ws h → (by_name : Bool) → Allowed by_name h → (k : Options → Command) (at : ℕ) →
    answer (option by_name g k) at ws ≡ Ok (k (options_given h))
options_whole (no_more {g}) by_name may k at = answer-none (option by_name g k) at
options_whole (more_width {g} {h} {word = w} {words} {number = n} unset is more) by_name may k at =
    answer-step _ _ at _ _ (after_free by_name g k f.Width (is_none_at g.width unset))
    ∙ answer-step _ _ (at + 1) w words (ap (option_map _) (number_some most_width w n is))
    ∙ options_whole more by_name may k (at + 1 + 1)
options_whole (more_rounds {g} {h} {word = w} {words} {number = n} unset is more) by_name may k at =
    answer-step _ _ at _ _ (after_free by_name g k f.Rounds (is_none_at g.rounds unset))
    ∙ answer-step _ _ (at + 1) w words (ap (option_map _) (number_some most_rounds w n is))
    ∙ options_whole more by_name may k (at + 1 + 1)
options_whole (more_policy {g} {h} {word = w} {words} {policy = p} unset is more) by_name may k at =
    answer-step _ _ at _ _ (after_free by_name g k f.Policy (is_none_at g.order unset))
    ∙ answer-step _ _ (at + 1) w words (ap (option_map _) (policy_some w p is))
    ∙ options_whole more by_name may k (at + 1 + 1)
options_whole (more_reads {g} {h} {names} {words} unset more) by_name may k at =
    answer-step _ _ at _ _ (after_free by_name g k f.Reads
    (both by_name _ (may names (order_stays more (reads names) refl)) (is_none_at g.order unset)))
    ∙ answer-step _ _ (at + 1) names words refl
    ∙ options_whole more by_name may k (at + 1 + 1)
options_whole (more_list {g} {h} {words} unset more) by_name may k at =
    answer-step _ _ at _ _ (after_free by_name g k f.List (is_none_at g.listing unset)) ∙ options_whole more by_name may k (at + 1)
options_whole (more_part {g} {h} {words} unset more) by_name may k at =
    answer-step _ _ at _ _ (after_free by_name g k f.Part (is_none_at g.listing unset)) ∙ options_whole more by_name may k (at + 1)
options_whole (more_clip {g} {h} {words} unset more) by_name may k at =
    answer-step _ _ at _ _ (after_free by_name g k f.Clip (not_at g.clip unset)) ∙ options_whole more by_name may k (at + 1)
options_whole (more_exact {g} {h} {words} unset more) by_name may k at =
    answer-step _ _ at _ _ (after_free by_name g k f.Exact (not_at g.exact unset)) ∙ options_whole more by_name may k (at + 1)
options_whole (more_keys {g} {h} {words} unset more) by_name may k at =
    answer-step _ _ at _ _ (after_free by_name g k f.Keys (not_at g.keys unset)) ∙ options_whole more by_name may k (at + 1)

limits_whole : {g h : Limits} {ws : List (List ℕ)} → Limit g ws h → (k : Limits → Command) (at : ℕ) → answer (limiting g k) at ws ≡ Ok (k h)
limits_whole (no_limit {g}) k at = answer-none (limiting g k) at
limits_whole (limit_width {g} {h} {word = w} {words} {number = n} unset is more) k at =
    answer-step _ _ at _ _ (after_limit_name g k f.Width (is_none_at g.width unset))
    ∙ answer-step _ _ (at + 1) w words (ap (option_map _) (number_some most_width w n is))
    ∙ limits_whole more k (at + 1 + 1)
limits_whole (limit_rounds {g} {h} {word = w} {words} {number = n} unset is more) k at =
    answer-step _ _ at _ _ (after_limit_name g k f.Rounds (is_none_at g.rounds unset))
    ∙ answer-step _ _ (at + 1) w words (ap (option_map _) (number_some most_rounds w n is))
    ∙ limits_whole more k (at + 1 + 1)
limits_whole (limit_keys {g} {h} {words} unset more) k at =
    answer-step _ _ at _ _ (after_limit_name g k f.Keys (not_at g.keys unset)) ∙ limits_whole more k (at + 1)

pub after_name_ask : after_name (codes "ask") ≡ Some after_ask
unfolding after_name
after_name_ask = refl

pub after_name_query : after_name (codes "query") ≡ Some after_query
unfolding after_name
after_name_query = refl

pub after_name_session : after_name (codes "session") ≡ Some after_session
unfolding after_name
after_name_session = refl

pub after_name_load : after_name (codes "load") ≡ Some after_load
unfolding after_name
after_name_load = refl

pub after_name_info : after_name (codes "info") ≡ Some after_info
unfolding after_name
after_name_info = refl

pub after_name_upgrade : after_name (codes "upgrade") ≡ Some after_upgrade
unfolding after_name
after_name_upgrade = refl

pub after_name_demo : after_name (codes "demo") ≡ Some after_demo
unfolding after_name
after_name_demo = refl

pub after_name_combine : after_name (codes "combine") ≡ Some after_combine
unfolding after_name
after_name_combine = refl

-- the words of commands of one word
after_name_help : after_name (codes "help") ≡ Some (done help)
unfolding after_name lone_command
after_name_help = refl

after_name_long_help : after_name (codes "--help") ≡ Some (done help)
unfolding after_name lone_command
after_name_long_help = refl

after_name_short_help : after_name (codes "-h") ≡ Some (done help)
unfolding after_name lone_command
after_name_short_help = refl

after_name_version : after_name (codes "--version") ≡ Some (done version)
unfolding after_name lone_command
after_name_version = refl

after_name_short_version : after_name (codes "-V") ≡ Some (done version)
unfolding after_name lone_command
after_name_short_version = refl

lone_whole : (words : List (List ℕ)) (w : List ℕ) (c : Command) → words ≡ w ∷ [] → after_name w ≡ Some (done c) → answer name 0 words ≡ Ok c
lone_whole words w c spelled named =
    ap (answer name 0) spelled ∙ answer-step name (done c) 0 w [] named ∙ answer-none (done c) 1

-- options whose order is no list of names
no_names : (g : Given) (o : Options) → o ≡ options_given g → ((names : List ℕ) → o.order ≢ reads names) → Allowed false g
no_names g o say by_policy names e = absurd (by_policy names (ap (λ o. o.order) say ∙ ap (λ order. unwrap_or order (fixed Widest)) e))

-- a command is what its words are read as
pub command_whole : (words : List (List ℕ)) (c : Command) → IsCommand words c → answer name 0 words ≡ Ok c
command_whole words (ask a) is =
    ap (answer name 0) is.spelled
    ∙ answer-step name after_ask 0 _ _ after_name_ask
    ∙ answer-step after_ask _ 1 _ _ refl
    ∙ answer-step _ _ 2 _ _ refl
    ∙ answer-step _ _ 3 _ _ refl
    ∙ options_whole is.options.gives true (λ names e. refl) (λ o. ask (record { csv = a.csv; schema = a.schema; sql = a.sql; options = o })) 4
    ∙ ap (λ o. Ok (ask (record { csv = a.csv; schema = a.schema; sql = a.sql; options = o }))) (sym is.options.say)
command_whole words (query q) is =
    ap (answer name 0) is.spelled
    ∙ answer-step name after_query 0 _ _ after_name_query
    ∙ answer-step after_query _ 1 _ _ refl
    ∙ answer-step _ _ 2 _ _ refl
    ∙ options_whole is.options.gives true (λ names e. refl) (λ o. query (record { file = q.file; sql = q.sql; options = o })) 3
    ∙ ap (λ o. Ok (query (record { file = q.file; sql = q.sql; options = o }))) (sym is.options.say)
command_whole words (session s) is =
    ap (answer name 0) is.spelled
    ∙ answer-step name after_session 0 _ _ after_name_session
    ∙ answer-step after_session _ 1 _ _ refl
    ∙ answer-step _ _ 2 _ _ refl
    ∙ options_whole is.options.gives false (no_names is.options.given s.options is.options.say is.by_policy)
    (λ o. session (record { file = s.file; script = s.script; options = o })) 3
    ∙ ap (λ o. Ok (session (record { file = s.file; script = s.script; options = o }))) (sym is.options.say)
command_whole words (load l) is =
    ap (answer name 0) is
    ∙ answer-step name after_load 0 _ _ after_name_load
    ∙ answer-step after_load _ 1 _ _ refl
    ∙ answer-step _ _ 2 _ _ refl
    ∙ answer-step _ _ 3 _ _ refl
    ∙ answer-none (done (load l)) 4
command_whole words (info i) is =
    ap (answer name 0) is ∙ answer-step name after_info 0 _ _ after_name_info ∙ answer-step after_info _ 1 _ _ refl ∙ answer-none (done (info i)) 2
command_whole words (upgrade u) is =
    ap (answer name 0) is
    ∙ answer-step name after_upgrade 0 _ _ after_name_upgrade
    ∙ answer-step after_upgrade _ 1 _ _ refl
    ∙ answer-step _ _ 2 _ _ refl
    ∙ answer-none (done (upgrade u)) 3
command_whole words (demo d) is =
    ap (answer name 0) is.spelled
    ∙ answer-step name after_demo 0 _ _ after_name_demo
    ∙ answer-step after_demo _ 1 _ _ (ap (option_map _) (number_some most_seed is.seed d.seed is.is_seed))
    ∙ answer-step _ _ 2 _ _ (ap (option_map _) (number_some most_rows is.rows d.rows is.is_rows))
    ∙ answer-step _ _ 3 _ _ refl
    ∙ options_whole is.options.gives true (λ names e. refl) (λ o. demo (record { seed = d.seed; rows = d.rows; sql = d.sql; options = o })) 4
    ∙ ap (λ o. Ok (demo (record { seed = d.seed; rows = d.rows; sql = d.sql; options = o }))) (sym is.options.say)
command_whole words (combine c) is =
    ap (answer name 0) is.spelled
    ∙ answer-step name after_combine 0 _ _ after_name_combine
    ∙ answer-step after_combine _ 1 _ _ (ap (option_map _) (parts_some is.parts c.parts is.is_parts))
    ∙ answer-step _ _ 2 _ _ refl
    ∙ limits_whole is.limits (λ l. combine (record { parts = c.parts; reports = c.reports; width = unwrap_or l.width 0; rounds = l.rounds; keys = l.keys })) 3
    ∙ ap (λ w. Ok (combine (record { parts = c.parts; reports = c.reports; width = w; rounds = is.given.rounds; keys = is.given.keys }))) (sym is.width)
    ∙ ap (λ r. Ok (combine (record { parts = c.parts; reports = c.reports; width = c.width; rounds = r; keys = is.given.keys }))) (sym is.rounds)
    ∙ ap (λ b. Ok (combine (record { parts = c.parts; reports = c.reports; width = c.width; rounds = c.rounds; keys = b }))) (sym is.keys)
command_whole words help (inl is) = lone_whole words _ help is after_name_help
command_whole words help (inr (inl is)) = lone_whole words _ help is after_name_long_help
command_whole words help (inr (inr is)) = lone_whole words _ help is after_name_short_help
command_whole words version (inl is) = lone_whole words _ version is after_name_version
command_whole words version (inr is) = lone_whole words _ version is after_name_short_version
