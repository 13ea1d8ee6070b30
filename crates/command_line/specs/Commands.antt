-- The commands of a command line, rule by rule; which words are no command, and where they go wrong.
use Rattle.std.specs.Prelude.{◌≡◌, ◌≢◌, ◌⊎◌, ℕ, ◌+◌, ◌-◌, ◌^◌, ◌≤◌, Bool, true, false}
use Rattle.std.specs.Prelude.{Option, Some, None, unwrap_or, List, [], ◌∷◌, ◌++◌, length, take, codes}
use Rattle.std.specs.Str.Parse.{IsNumeral, digits_value}
use Rattle.plane_schedule.specs.Choices.{policy_word}
use Rattle.plane_schedule.specs.declared.policies.FixedPolicy.{FixedPolicy}
use Rattle.plane_schedule.specs.declared.policies.FixedPolicy.TheVariants.{Widest}
use Rattle.plane_schedule.specs.declared.policy.Listing.{Listing}
use Rattle.plane_schedule.specs.declared.policy.Listing.TheVariants.{Certain, All, Few}

-- ---- what a command says

-- how the columns of a query are read: by a policy, or as a list of names says
pub data ReadOrder : Type 0 where
  fixed : FixedPolicy → ReadOrder
  reads : List ℕ → ReadOrder

pub record Options : Type 0 where
  pub width : ℕ
  pub rounds : Option ℕ
  pub order : ReadOrder
  pub listing : Listing
  pub clip : Bool
  pub exact : Bool
  pub keys : Bool

-- what follows the word `ask`
pub record Ask : Type 0 where
  pub csv : List ℕ
  pub schema : List ℕ
  pub sql : List ℕ
  pub options : Options

-- what follows the word `demo`
pub record Demo : Type 0 where
  pub seed : ℕ
  pub rows : ℕ
  pub sql : List ℕ
  pub options : Options

-- what follows the word `load`
pub record Load : Type 0 where
  pub csv : List ℕ
  pub file : List ℕ
  pub schema : List ℕ

-- what follows the word `query`
pub record Query : Type 0 where
  pub file : List ℕ
  pub sql : List ℕ
  pub options : Options

-- what follows the word `session`
pub record Session : Type 0 where
  pub file : List ℕ
  pub script : List ℕ
  pub options : Options

-- what follows the word `info`
pub record Info : Type 0 where
  pub file : List ℕ

-- what follows the word `upgrade`
pub record Upgrade : Type 0 where
  pub older : List ℕ
  pub newer : List ℕ

-- what follows the word `combine`
pub record Combine : Type 0 where
  pub parts : ℕ
  pub reports : List ℕ
  pub width : ℕ
  pub rounds : Option ℕ
  pub keys : Bool

pub data Command : Type 0 where
  ask : Ask → Command
  query : Query → Command
  session : Session → Command
  load : Load → Command
  info : Info → Command
  upgrade : Upgrade → Command
  demo : Demo → Command
  combine : Combine → Command
  help : Command
  version : Command

-- ---- numbers

abbrev pub most_seed : ℕ
most_seed = 2 ^ 64 - 1

abbrev pub most_rows : ℕ
most_rows = 2 ^ 64 - 1

abbrev pub most_width : ℕ
most_width = 2 ^ 63 - 1

abbrev pub most_rounds : ℕ
most_rounds = 2 ^ 32 - 1

abbrev pub most_parts : ℕ
most_parts = 2 ^ 16

-- the word is digits, zeros in front allowed, that write the number; and this is at most the limit
pub record IsNumber (limit : ℕ) (word : List ℕ) (number : ℕ) : Type 0 where
  pub digits : IsNumeral 10 word
  pub value : number ≡ digits_value 10 word
  pub small : number ≤ limit

-- ---- options

-- policy = the word of one
abbrev pub IsPolicy : List ℕ → FixedPolicy → Type 0
IsPolicy word policy = word ≡ policy_word policy

-- what options say, where each says it once
pub record Given : Type 0 where
  pub width : Option ℕ
  pub rounds : Option ℕ
  pub order : Option ReadOrder
  pub listing : Option Listing
  pub clip : Bool
  pub exact : Bool
  pub keys : Bool

-- {option}, each option giving what was not given before; --policy and --reads both give the order, --list and --part which rows
-- in an order are listed
pub data Gives : Given → List (List ℕ) → Given → Type 0 where
  no_more : {g : Given} → Gives g [] g
  more_width : {g h : Given} {word : List ℕ} {words : List (List ℕ)} {number : ℕ} → g.width ≡ None → IsNumber most_width word number →
      Gives (record g { width = Some number }) words h → Gives g (codes "--width" ∷ word ∷ words) h
  more_rounds : {g h : Given} {word : List ℕ} {words : List (List ℕ)} {number : ℕ} → g.rounds ≡ None → IsNumber most_rounds word number →
      Gives (record g { rounds = Some number }) words h → Gives g (codes "--rounds" ∷ word ∷ words) h
  more_policy : {g h : Given} {word : List ℕ} {words : List (List ℕ)} {policy : FixedPolicy} → g.order ≡ None → IsPolicy word policy →
      Gives (record g { order = Some (fixed policy) }) words h → Gives g (codes "--policy" ∷ word ∷ words) h
  more_reads : {g h : Given} {names : List ℕ} {words : List (List ℕ)} → g.order ≡ None →
      Gives (record g { order = Some (reads names) }) words h → Gives g (codes "--reads" ∷ names ∷ words) h
  more_list : {g h : Given} {words : List (List ℕ)} → g.listing ≡ None →
      Gives (record g { listing = Some All }) words h → Gives g (codes "--list" ∷ words) h
  more_part : {g h : Given} {words : List (List ℕ)} → g.listing ≡ None →
      Gives (record g { listing = Some Few }) words h → Gives g (codes "--part" ∷ words) h
  more_clip : {g h : Given} {words : List (List ℕ)} → g.clip ≡ false →
      Gives (record g { clip = true }) words h → Gives g (codes "--clip" ∷ words) h
  more_exact : {g h : Given} {words : List (List ℕ)} → g.exact ≡ false →
      Gives (record g { exact = true }) words h → Gives g (codes "--exact-avg" ∷ words) h
  more_keys : {g h : Given} {words : List (List ℕ)} → g.keys ≡ false →
      Gives (record g { keys = true }) words h → Gives g (codes "--keys" ∷ words) h

abbrev pub nothing_given : Given
nothing_given = record { width = None; rounds = None; order = None; listing = None; clip = false; exact = false; keys = false }

-- what is not given is width 0, no number of rounds, the widest column first, the certain rows alone, no clipped bounds,
-- no exact averages and no keys
abbrev pub options_given : Given → Options
options_given g = record {
  width = unwrap_or g.width 0;
  rounds = g.rounds;
  order = unwrap_or g.order (fixed Widest);
  listing = unwrap_or g.listing Certain;
  clip = g.clip;
  exact = g.exact;
  keys = g.keys;
}

-- the words are options, and say this
pub record AreOptions (words : List (List ℕ)) (options : Options) : Type 0 where
  pub given : Given
  pub gives : Gives nothing_given words given
  pub say : options ≡ options_given given

-- ---- limits

-- what limits say, where each says it once
pub record Limits : Type 0 where
  pub width : Option ℕ
  pub rounds : Option ℕ
  pub keys : Bool

-- {limit}, each limit giving what was not given before
pub data Limit : Limits → List (List ℕ) → Limits → Type 0 where
  no_limit : {g : Limits} → Limit g [] g
  limit_width : {g h : Limits} {word : List ℕ} {words : List (List ℕ)} {number : ℕ} → g.width ≡ None → IsNumber most_width word number →
      Limit (record g { width = Some number }) words h → Limit g (codes "--width" ∷ word ∷ words) h
  limit_rounds : {g h : Limits} {word : List ℕ} {words : List (List ℕ)} {number : ℕ} → g.rounds ≡ None → IsNumber most_rounds word number →
      Limit (record g { rounds = Some number }) words h → Limit g (codes "--rounds" ∷ word ∷ words) h
  limit_keys : {g h : Limits} {words : List (List ℕ)} → g.keys ≡ false →
      Limit (record g { keys = true }) words h → Limit g (codes "--keys" ∷ words) h

abbrev pub no_limits : Limits
no_limits = record { width = None; rounds = None; keys = false }

-- ---- commands

-- "ask" csv schema sql {option}
pub record IsAsk (words : List (List ℕ)) (a : Ask) : Type 0 where
  pub tail : List (List ℕ)
  pub spelled : words ≡ codes "ask" ∷ a.csv ∷ a.schema ∷ a.sql ∷ tail
  pub options : AreOptions tail a.options

-- "query" file sql {option}
pub record IsQuery (words : List (List ℕ)) (q : Query) : Type 0 where
  pub tail : List (List ℕ)
  pub spelled : words ≡ codes "query" ∷ q.file ∷ q.sql ∷ tail
  pub options : AreOptions tail q.options

-- "session" file script {option}, but no list of names
pub record IsSession (words : List (List ℕ)) (s : Session) : Type 0 where
  pub tail : List (List ℕ)
  pub spelled : words ≡ codes "session" ∷ s.file ∷ s.script ∷ tail
  pub options : AreOptions tail s.options
  pub by_policy : (names : List ℕ) → s.options.order ≢ reads names

-- "load" csv file schema
abbrev pub IsLoad : List (List ℕ) → Load → Type 0
IsLoad words l = words ≡ codes "load" ∷ l.csv ∷ l.file ∷ l.schema ∷ []

-- "info" file
abbrev pub IsInfo : List (List ℕ) → Info → Type 0
IsInfo words i = words ≡ codes "info" ∷ i.file ∷ []

-- "upgrade" older newer
abbrev pub IsUpgrade : List (List ℕ) → Upgrade → Type 0
IsUpgrade words u = words ≡ codes "upgrade" ∷ u.older ∷ u.newer ∷ []

-- "demo" number number sql {option}
pub record IsDemo (words : List (List ℕ)) (d : Demo) : Type 0 where
  pub seed : List ℕ
  pub rows : List ℕ
  pub tail : List (List ℕ)
  pub spelled : words ≡ codes "demo" ∷ seed ∷ rows ∷ d.sql ∷ tail
  pub is_seed : IsNumber most_seed seed d.seed
  pub is_rows : IsNumber most_rows rows d.rows
  pub options : AreOptions tail d.options

-- the word is a number of parts, of which there is one at least
pub record IsPartsNumber (word : List ℕ) (number : ℕ) : Type 0 where
  pub is_number : IsNumber most_parts word number
  pub some : 1 ≤ number

-- "combine" parts reports {limit}
pub record IsCombine (words : List (List ℕ)) (c : Combine) : Type 0 where
  pub parts : List ℕ
  pub tail : List (List ℕ)
  pub given : Limits
  pub spelled : words ≡ codes "combine" ∷ parts ∷ c.reports ∷ tail
  pub is_parts : IsPartsNumber parts c.parts
  pub limits : Limit no_limits tail given
  pub width : c.width ≡ unwrap_or given.width 0
  pub rounds : c.rounds ≡ given.rounds
  pub keys : c.keys ≡ given.keys

-- "help" | "--help" | "-h"
abbrev pub IsHelp : List (List ℕ) → Type 0
IsHelp words = (words ≡ codes "help" ∷ []) ⊎ (words ≡ codes "--help" ∷ []) ⊎ (words ≡ codes "-h" ∷ [])

-- "--version" | "-V"
abbrev pub IsVersion : List (List ℕ) → Type 0
IsVersion words = (words ≡ codes "--version" ∷ []) ⊎ (words ≡ codes "-V" ∷ [])

-- the words ask for the command
abbrev pub IsCommand : List (List ℕ) → Command → Type 0
IsCommand words (ask a) = IsAsk words a
IsCommand words (query q) = IsQuery words q
IsCommand words (session s) = IsSession words s
IsCommand words (load l) = IsLoad words l
IsCommand words (info i) = IsInfo words i
IsCommand words (upgrade u) = IsUpgrade words u
IsCommand words (demo d) = IsDemo words d
IsCommand words (combine c) = IsCombine words c
IsCommand words help = IsHelp words
IsCommand words version = IsVersion words

-- ---- where words go wrong

abbrev pub IsNoCommand : List (List ℕ) → Type 0
IsNoCommand words = (command : Command) → IsCommand words command → ⊥

-- some command begins with these words
pub record BeginsCommand (words : List (List ℕ)) : Type 0 where
  pub rest : List (List ℕ)
  pub command : Command
  pub is_command : IsCommand (words ++ rest) command

-- one past the longest list of first words that begins a command, so words count from 1
pub record IsUsagePlace (words : List (List ℕ)) (place : ℕ) : Type 0 where
  pub longest : ℕ
  pub next : place ≡ longest + 1
  pub within : longest ≤ length words
  pub begins : BeginsCommand (take longest words)
  pub most : (n : ℕ) → n ≤ length words → BeginsCommand (take n words) → n ≤ longest

-- the words are no command, and go wrong there
pub record GoesWrong (words : List (List ℕ)) (place : ℕ) : Type 0 where
  pub no_command : IsNoCommand words
  pub is_place : IsUsagePlace words place
