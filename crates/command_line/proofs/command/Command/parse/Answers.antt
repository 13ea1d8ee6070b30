-- The first word names what follows it, and what follows says how the words end.
use Rattle.std.proofs.Common.{◌≡◌, ◌+◌, ℕ, List, Ok, Err, None, Some, option_map, refl, ap, sym, ◌∙◌, rules}
use Rattle.command_line.specs.Commands.{Command, ask, query, session, load, info, upgrade, demo, combine, GoesWrong, IsCommand}
use Rattle.command_line.specs.Values.{command_of, ask_of, query_of, session_of, load_of, info_of, upgrade_of, demo_of, combine_of}
use Rattle.command_line.specs.Reading.{HasMore, Left, Lacks, Next, Takes, name, done, lone_command, after_ask, after_query, after_session, after_load, after_info, after_upgrade, after_demo, after_combine, after_name, answer, answers}
use Rattle.command_line.proofs.Steps.{ends, goes, goes_on, stops, lacks}
use Rattle.command_line.proofs.Whole.{after_name_ask, after_name_query, after_name_session, after_name_load, after_name_info, after_name_upgrade, after_name_demo, after_name_combine}
use Rattle.command_line.proofs.Sound.{IsNoName, after_lone, command_is}
use Rattle.command_line.proofs.Places.{goes_wrong}
use Rattle.command_line.proofs.command.Command.parse.Goals as goal

-- at the first word
start : (words : List (List ℕ)) (left : Left) → left.at ≡ 0 → left.words ≡ words → answer name 0 words ≡ answers name left
start words left at all = ap (answer name 0) (sym all) ∙ ap (λ n. answer name n left.words) (sym at)

-- behind it, where it is a command's name
module _ (words : List (List ℕ)) (first rest : Left) (word : List ℕ) (at : first.at ≡ 0) (all : first.words ≡ words) (taken : Takes first word rest)
    (next : Next) (named : after_name word ≡ Some next) where
  behind : answer name 0 words ≡ answers next rest
  behind = start words first at all ∙ goes name next first rest word taken named

  wrong_behind : (place : ℕ) → answers next rest ≡ Err place → GoesWrong words place
  wrong_behind place e = goes_wrong words place (behind ∙ e)

  right_behind : (command : Command) → answers next rest ≡ Ok command → IsCommand words command
  right_behind command e = command_is words command (behind ∙ e)

pub returns-in_err-other-clause-usage : goal.returns-in_err-other-clause-usage
returns-in_err-other-clause-usage c =
    let first = start c.args.words.now c.new-reader.result c.new-reader.ensures.at c.new-reader.ensures.words in
    let wrong : (place : ℕ) → Lacks c.new-reader.result place → GoesWrong c.args.words.now place = λ place l.
    goes_wrong c.args.words.now place (first ∙ lacks name c.new-reader.result place refl l) in
    search (rules, wrong)

pub returns-in_err-ask-in-ask-clause-usage : goal.returns-in_err-ask-in-ask-clause-usage
returns-in_err-ask-in-ask-clause-usage c =
    let wrong = wrong_behind c.args.words.now c.new-reader.result c.word.new.self c.in_ok-other.other.now c.new-reader.ensures.at c.new-reader.ensures.words c.in_ok-other.ensures.ok after_ask (ap after_name c.in-ask.is ∙ after_name_ask) in
    search (rules, wrong)

pub returns-in_ok-ask-in-ask-clause-ok : goal.returns-in_ok-ask-in-ask-clause-ok
returns-in_ok-ask-in-ask-clause-ok c =
    right_behind c.args.words.now c.new-reader.result c.word.new.self c.in_ok-other.other.now c.new-reader.ensures.at c.new-reader.ensures.words c.in_ok-other.ensures.ok after_ask (ap after_name c.in-ask.is ∙ after_name_ask)
    (ask (ask_of c.in_ok-ask-in-ask.field-0)) c.in_ok-ask-in-ask.ensures.ok

pub returns-in_err-query-in-query-clause-usage : goal.returns-in_err-query-in-query-clause-usage
returns-in_err-query-in-query-clause-usage c =
    let wrong = wrong_behind c.args.words.now c.new-reader.result c.word.new.self c.in_ok-other.other.now c.new-reader.ensures.at c.new-reader.ensures.words c.in_ok-other.ensures.ok after_query (ap after_name c.in-query.is ∙ after_name_query) in
    search (rules, wrong)

pub returns-in_ok-query-in-query-clause-ok : goal.returns-in_ok-query-in-query-clause-ok
returns-in_ok-query-in-query-clause-ok c =
    right_behind c.args.words.now c.new-reader.result c.word.new.self c.in_ok-other.other.now c.new-reader.ensures.at c.new-reader.ensures.words c.in_ok-other.ensures.ok after_query (ap after_name c.in-query.is ∙ after_name_query)
    (query (query_of c.in_ok-query-in-query.field-0)) c.in_ok-query-in-query.ensures.ok

pub returns-in_err-session-in-session-clause-usage : goal.returns-in_err-session-in-session-clause-usage
returns-in_err-session-in-session-clause-usage c =
    let wrong = wrong_behind c.args.words.now c.new-reader.result c.word.new.self c.in_ok-other.other.now c.new-reader.ensures.at c.new-reader.ensures.words c.in_ok-other.ensures.ok after_session (ap after_name c.in-session.is ∙ after_name_session) in
    search (rules, wrong)

pub returns-in_ok-session-in-session-clause-ok : goal.returns-in_ok-session-in-session-clause-ok
returns-in_ok-session-in-session-clause-ok c =
    right_behind c.args.words.now c.new-reader.result c.word.new.self c.in_ok-other.other.now c.new-reader.ensures.at c.new-reader.ensures.words c.in_ok-other.ensures.ok after_session (ap after_name c.in-session.is ∙ after_name_session)
    (session (session_of c.in_ok-session-in-session.field-0)) c.in_ok-session-in-session.ensures.ok

pub returns-in_err-load-in-load-clause-usage : goal.returns-in_err-load-in-load-clause-usage
returns-in_err-load-in-load-clause-usage c =
    let wrong = wrong_behind c.args.words.now c.new-reader.result c.word.new.self c.in_ok-other.other.now c.new-reader.ensures.at c.new-reader.ensures.words c.in_ok-other.ensures.ok after_load (ap after_name c.in-load.is ∙ after_name_load) in
    search (rules, wrong)

pub returns-in_ok-load-in-load-clause-ok : goal.returns-in_ok-load-in-load-clause-ok
returns-in_ok-load-in-load-clause-ok c =
    right_behind c.args.words.now c.new-reader.result c.word.new.self c.in_ok-other.other.now c.new-reader.ensures.at c.new-reader.ensures.words c.in_ok-other.ensures.ok after_load (ap after_name c.in-load.is ∙ after_name_load)
    (load (load_of c.in_ok-load-in-load.field-0)) c.in_ok-load-in-load.ensures.ok

pub returns-in_err-info-in-info-clause-usage : goal.returns-in_err-info-in-info-clause-usage
returns-in_err-info-in-info-clause-usage c =
    let wrong = wrong_behind c.args.words.now c.new-reader.result c.word.new.self c.in_ok-other.other.now c.new-reader.ensures.at c.new-reader.ensures.words c.in_ok-other.ensures.ok after_info (ap after_name c.in-info.is ∙ after_name_info) in
    search (rules, wrong)

pub returns-in_ok-info-in-info-clause-ok : goal.returns-in_ok-info-in-info-clause-ok
returns-in_ok-info-in-info-clause-ok c =
    right_behind c.args.words.now c.new-reader.result c.word.new.self c.in_ok-other.other.now c.new-reader.ensures.at c.new-reader.ensures.words c.in_ok-other.ensures.ok after_info (ap after_name c.in-info.is ∙ after_name_info)
    (info (info_of c.in_ok-info-in-info.field-0)) c.in_ok-info-in-info.ensures.ok

pub returns-in_err-upgrade-in-upgrade-clause-usage : goal.returns-in_err-upgrade-in-upgrade-clause-usage
returns-in_err-upgrade-in-upgrade-clause-usage c =
    let wrong = wrong_behind c.args.words.now c.new-reader.result c.word.new.self c.in_ok-other.other.now c.new-reader.ensures.at c.new-reader.ensures.words c.in_ok-other.ensures.ok after_upgrade (ap after_name c.in-upgrade.is ∙ after_name_upgrade) in
    search (rules, wrong)

pub returns-in_ok-upgrade-in-upgrade-clause-ok : goal.returns-in_ok-upgrade-in-upgrade-clause-ok
returns-in_ok-upgrade-in-upgrade-clause-ok c =
    right_behind c.args.words.now c.new-reader.result c.word.new.self c.in_ok-other.other.now c.new-reader.ensures.at c.new-reader.ensures.words c.in_ok-other.ensures.ok after_upgrade (ap after_name c.in-upgrade.is ∙ after_name_upgrade)
    (upgrade (upgrade_of c.in_ok-upgrade-in-upgrade.field-0)) c.in_ok-upgrade-in-upgrade.ensures.ok

pub returns-in_err-demo-in-demo-clause-usage : goal.returns-in_err-demo-in-demo-clause-usage
returns-in_err-demo-in-demo-clause-usage c =
    let wrong = wrong_behind c.args.words.now c.new-reader.result c.word.new.self c.in_ok-other.other.now c.new-reader.ensures.at c.new-reader.ensures.words c.in_ok-other.ensures.ok after_demo (ap after_name c.in-demo.is ∙ after_name_demo) in
    search (rules, wrong)

pub returns-in_ok-demo-in-demo-clause-ok : goal.returns-in_ok-demo-in-demo-clause-ok
returns-in_ok-demo-in-demo-clause-ok c =
    right_behind c.args.words.now c.new-reader.result c.word.new.self c.in_ok-other.other.now c.new-reader.ensures.at c.new-reader.ensures.words c.in_ok-other.ensures.ok after_demo (ap after_name c.in-demo.is ∙ after_name_demo)
    (demo (demo_of c.in_ok-demo-in-demo.field-0)) c.in_ok-demo-in-demo.ensures.ok

pub returns-in_err-combine-in-combine-clause-usage : goal.returns-in_err-combine-in-combine-clause-usage
returns-in_err-combine-in-combine-clause-usage c =
    let wrong = wrong_behind c.args.words.now c.new-reader.result c.word.new.self c.in_ok-other.other.now c.new-reader.ensures.at c.new-reader.ensures.words c.in_ok-other.ensures.ok after_combine (ap after_name c.in-combine.is ∙ after_name_combine) in
    search (rules, wrong)

pub returns-in_ok-combine-in-combine-clause-ok : goal.returns-in_ok-combine-in-combine-clause-ok
returns-in_ok-combine-in-combine-clause-ok c =
    right_behind c.args.words.now c.new-reader.result c.word.new.self c.in_ok-other.other.now c.new-reader.ensures.at c.new-reader.ensures.words c.in_ok-other.ensures.ok after_combine (ap after_name c.in-combine.is ∙ after_name_combine)
    (combine (combine_of c.in_ok-combine-in-combine.field-0)) c.in_ok-combine-in-combine.ensures.ok

-- a command of one word, behind which something or nothing stands
pub returns-in_err-end-in-Some-clause-usage : goal.returns-in_err-end-in-Some-clause-usage
returns-in_err-end-in-Some-clause-usage c =
    let none : IsNoName c.in_ok-other.other.now = record {
      ask = c.in_default.not-ask;
      query = c.in_default.not-query;
      session = c.in_default.not-session;
      load = c.in_default.not-load;
      info = c.in_default.not-info;
      upgrade = c.in_default.not-upgrade;
      demo = c.in_default.not-demo;
      combine = c.in_default.not-combine;
    } in
    let named : lone_command c.in_ok-other.other.now ≡ Some (command_of c.in-Some.command) = sym c.lone_command.ensures ∙ ap (option_map command_of) c.in-Some.is in
    let wrong : (place : ℕ) → HasMore c.word.new.self place → GoesWrong c.args.words.now place = λ place more.
    wrong_behind c.args.words.now c.new-reader.result c.word.new.self c.in_ok-other.other.now c.new-reader.ensures.at c.new-reader.ensures.words c.in_ok-other.ensures.ok
    (done (command_of c.in-Some.command)) (after_lone c.in_ok-other.other.now none ∙ ap (option_map done) named) place (goes_on (command_of c.in-Some.command) c.word.new.self place more) in
    search (rules, wrong)

pub returns-in_ok-end-in-Some-clause-ok : goal.returns-in_ok-end-in-Some-clause-ok
returns-in_ok-end-in-Some-clause-ok c =
    let none : IsNoName c.in_ok-other.other.now = record {
      ask = c.in_default.not-ask;
      query = c.in_default.not-query;
      session = c.in_default.not-session;
      load = c.in_default.not-load;
      info = c.in_default.not-info;
      upgrade = c.in_default.not-upgrade;
      demo = c.in_default.not-demo;
      combine = c.in_default.not-combine;
    } in
    let named : lone_command c.in_ok-other.other.now ≡ Some (command_of c.in-Some.command) = sym c.lone_command.ensures ∙ ap (option_map command_of) c.in-Some.is in
    right_behind c.args.words.now c.new-reader.result c.word.new.self c.in_ok-other.other.now c.new-reader.ensures.at c.new-reader.ensures.words c.in_ok-other.ensures.ok
    (done (command_of c.in-Some.command)) (after_lone c.in_ok-other.other.now none ∙ ap (option_map done) named)
    (command_of c.in-Some.command) (ends (command_of c.in-Some.command) c.word.new.self c.in_ok-end-in-Some.ensures.ok)

pub returns-in-None-clause-usage : goal.returns-in-None-clause-usage
returns-in-None-clause-usage c =
    let first = start c.args.words.now c.new-reader.result c.new-reader.ensures.at c.new-reader.ensures.words in
    let none : IsNoName c.in_ok-other.other.now = record {
      ask = c.in_default.not-ask;
      query = c.in_default.not-query;
      session = c.in_default.not-session;
      load = c.in_default.not-load;
      info = c.in_default.not-info;
      upgrade = c.in_default.not-upgrade;
      demo = c.in_default.not-demo;
      combine = c.in_default.not-combine;
    } in
    let unnamed : lone_command c.in_ok-other.other.now ≡ None = sym c.lone_command.ensures ∙ ap (option_map command_of) c.in-None.is in
    goes_wrong c.args.words.now 1
    (first ∙ stops name c.new-reader.result c.word.new.self c.in_ok-other.other.now 1 c.in_ok-other.ensures.ok
    (after_lone c.in_ok-other.other.now none ∙ ap (option_map done) unnamed) (ap (λ n. n + 1) (sym c.new-reader.ensures.at)))
