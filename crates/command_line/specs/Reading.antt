-- How words are read one by one: what may come next, and what a word leads to.
use Rattle.std.specs.Prelude.{◌≡◌, ◌≢◌, ℕ, ◌+◌, nat_le, Bool, true, false, not, ◌&&◌, if◌then◌else◌}
use Rattle.std.specs.Prelude.{Option, Some, None, is_none, option_map, unwrap_or, Result, Ok, Err, List, [], ◌∷◌, length, codes}
use Rattle.std.specs.Option.{option_map_or}
use Rattle.std.specs.Char.{is_ascii_digit}
use Rattle.std.specs.List.{list_all}
use Rattle.std.specs.Str.{bytes_eq}
use Rattle.std.specs.Str.Parse.{digits_value}
use Rattle.plane_schedule.specs.Choices.{policy_named}
use Rattle.plane_schedule.specs.declared.policies.FixedPolicy.{FixedPolicy}
use Rattle.plane_schedule.specs.declared.policy.Listing.TheVariants.{All, Few}
use Rattle.command_line.specs.declared.reader.Flag.{Flag}
use Rattle.command_line.specs.declared.reader.Flag.TheVariants as f
use Rattle.command_line.specs.Commands.{fixed, reads, Given, Options}
use Rattle.command_line.specs.Commands.{Command, ask, query, session, load, info, upgrade, demo, combine, help, version, nothing_given}
use Rattle.command_line.specs.Commands.{Limits, no_limits, options_given, most_parts, most_seed, most_rows, most_width, most_rounds}

-- what comes next, and for each such word what comes behind it; options come by name where a list of names may be one of them
pub data Next : Type 0 where
  name : Next
  word : (List ℕ → Next) → Next
  number : ℕ → (ℕ → Next) → Next
  policy : (FixedPolicy → Next) → Next
  option : Bool → Given → (Options → Command) → Next
  parts : (ℕ → Next) → Next
  limiting : Limits → (Limits → Command) → Next
  done : Command → Next

-- the number that the word writes, if it is one and at most the limit
unfoldable pub number_of : ℕ → List ℕ → Option ℕ
number_of limit w =
    if list_all is_ascii_digit w && nat_le 1 (length w) && nat_le (digits_value 10 w) limit then Some (digits_value 10 w) else None

-- the number of parts that the word writes
unfoldable pub parts_of : List ℕ → Option ℕ
parts_of w = if nat_le 1 (digits_value 10 w) then number_of most_parts w else None

abbrev pub options : (Options → Command) → Next
options k = option true nothing_given k

abbrev pub after_ask : Next
after_ask =
    word (λ csv. word (λ schema. word (λ sql. options (λ o. ask (record { csv = csv; schema = schema; sql = sql; options = o })))))

abbrev pub after_query : Next
after_query = word (λ file. word (λ sql. options (λ o. query (record { file = file; sql = sql; options = o }))))

abbrev pub after_session : Next
after_session =
    word (λ file. word (λ script. option false nothing_given (λ o. session (record { file = file; script = script; options = o }))))

abbrev pub after_load : Next
after_load = word (λ csv. word (λ file. word (λ schema. done (load (record { csv = csv; file = file; schema = schema })))))

abbrev pub after_info : Next
after_info = word (λ file. done (info (record { file = file })))

abbrev pub after_upgrade : Next
after_upgrade = word (λ older. word (λ newer. done (upgrade (record { older = older; newer = newer }))))

abbrev pub after_demo : Next
after_demo =
    number most_seed (λ seed. number most_rows (λ rows.
    word (λ sql. options (λ o. demo (record { seed = seed; rows = rows; sql = sql; options = o })))))

abbrev pub after_combine : Next
after_combine =
    parts (λ n. word (λ reports. limiting no_limits (λ limits.
    combine (record { parts = n; reports = reports; width = unwrap_or limits.width 0; rounds = limits.rounds; keys = limits.keys }))))

-- a command of one word
unfoldable pub lone_command : List ℕ → Option Command
lone_command w =
    if bytes_eq w (codes "help") then Some help
    else (if bytes_eq w (codes "--help") then Some help
    else (if bytes_eq w (codes "-h") then Some help
    else (if bytes_eq w (codes "--version") then Some version
    else (if bytes_eq w (codes "-V") then Some version else None))))

unfoldable pub after_name : List ℕ → Option Next
after_name w =
    if bytes_eq w (codes "ask") then Some after_ask
    else (if bytes_eq w (codes "query") then Some after_query
    else (if bytes_eq w (codes "session") then Some after_session
    else (if bytes_eq w (codes "load") then Some after_load
    else (if bytes_eq w (codes "info") then Some after_info
    else (if bytes_eq w (codes "upgrade") then Some after_upgrade
    else (if bytes_eq w (codes "demo") then Some after_demo
    else (if bytes_eq w (codes "combine") then Some after_combine else option_map done (lone_command w))))))))

-- ---- options

abbrev pub flag_text : Flag → List ℕ
flag_text f.Width = codes "--width"
flag_text f.Rounds = codes "--rounds"
flag_text f.Policy = codes "--policy"
flag_text f.Reads = codes "--reads"
flag_text f.List = codes "--list"
flag_text f.Part = codes "--part"
flag_text f.Clip = codes "--clip"
flag_text f.Exact = codes "--exact-avg"
flag_text f.Keys = codes "--keys"

unfoldable pub flag_of : List ℕ → Option Flag
flag_of w =
    if bytes_eq w (codes "--width") then Some f.Width
    else (if bytes_eq w (codes "--rounds") then Some f.Rounds
    else (if bytes_eq w (codes "--policy") then Some f.Policy
    else (if bytes_eq w (codes "--reads") then Some f.Reads
    else (if bytes_eq w (codes "--list") then Some f.List
    else (if bytes_eq w (codes "--part") then Some f.Part
    else (if bytes_eq w (codes "--clip") then Some f.Clip
    else (if bytes_eq w (codes "--exact-avg") then Some f.Exact
    else (if bytes_eq w (codes "--keys") then Some f.Keys else None))))))))

-- it may be given, and what it gives was not given yet
abbrev pub is_free : Bool → Flag → Given → Bool
is_free by_name f.Width g = is_none g.width
is_free by_name f.Rounds g = is_none g.rounds
is_free by_name f.Policy g = is_none g.order
is_free by_name f.Reads g = by_name && is_none g.order
is_free by_name f.List g = is_none g.listing
is_free by_name f.Part g = is_none g.listing
is_free by_name f.Clip g = not g.clip
is_free by_name f.Exact g = not g.exact
is_free by_name f.Keys g = not g.keys

-- what comes behind it
abbrev pub behind : Bool → Flag → Given → (Options → Command) → Next
behind by_name f.Width g k = number most_width (λ n. option by_name (record g { width = Some n }) k)
behind by_name f.Rounds g k = number most_rounds (λ n. option by_name (record g { rounds = Some n }) k)
behind by_name f.Policy g k = policy (λ p. option by_name (record g { order = Some (fixed p) }) k)
behind by_name f.Reads g k = word (λ names. option by_name (record g { order = Some (reads names) }) k)
behind by_name f.List g k = option by_name (record g { listing = Some All }) k
behind by_name f.Part g k = option by_name (record g { listing = Some Few }) k
behind by_name f.Clip g k = option by_name (record g { clip = true }) k
behind by_name f.Exact g k = option by_name (record g { exact = true }) k
behind by_name f.Keys g k = option by_name (record g { keys = true }) k

abbrev pub after_flag : Bool → Given → (Options → Command) → Option Flag → Option Next
after_flag by_name g k None = None
after_flag by_name g k (Some flag) = if is_free by_name flag g then Some (behind by_name flag g k) else None

-- it is a limit, which was not given yet
abbrev pub may_limit : Flag → Limits → Bool
may_limit f.Width g = is_none g.width
may_limit f.Rounds g = is_none g.rounds
may_limit f.Keys g = not g.keys
may_limit other g = false

-- what comes behind it; behind what is no limit nothing does
abbrev pub behind_limit : Flag → Limits → (Limits → Command) → Next
behind_limit f.Width g k = number most_width (λ n. limiting (record g { width = Some n }) k)
behind_limit f.Rounds g k = number most_rounds (λ n. limiting (record g { rounds = Some n }) k)
behind_limit f.Keys g k = limiting (record g { keys = true }) k
behind_limit other g k = done (k g)

abbrev pub after_limit : Limits → (Limits → Command) → Option Flag → Option Next
after_limit g k None = None
after_limit g k (Some flag) = if may_limit flag g then Some (behind_limit flag g k) else None

-- ---- all that may come

abbrev pub after : Next → List ℕ → Option Next
after name w = after_name w
after (word k) w = Some (k w)
after (number limit k) w = option_map k (number_of limit w)
after (policy k) w = option_map k (policy_named w)
after (option by_name g k) w = after_flag by_name g k (flag_of w)
after (parts k) w = option_map k (parts_of w)
after (limiting g k) w = after_limit g k (flag_of w)
after (done c) w = None

-- what it is where no word is left: a command, or a word is missing at the next place
abbrev pub at_end : Next → ℕ → Result Command ℕ
at_end name at = Err (at + 1)
at_end (word k) at = Err (at + 1)
at_end (number limit k) at = Err (at + 1)
at_end (policy k) at = Err (at + 1)
at_end (option by_name g k) at = Ok (k (options_given g))
at_end (parts k) at = Err (at + 1)
at_end (limiting g k) at = Ok (k g)
at_end (done c) at = Ok c

-- the command of the words, of which so many were read before, or the place of the first that may not come
unfoldable pub answer : Next → ℕ → List (List ℕ) → Result Command ℕ
answer next at [] = at_end next at
answer next at (w ∷ ws) = option_map_or (λ n. answer n (at + 1) ws) (after next w) (Err (at + 1))

-- the words that are left, and how many were read before them
pub record Left : Type 0 where
  pub at : ℕ
  pub words : List (List ℕ)

abbrev pub answers : Next → Left → Result Command ℕ
answers next left = answer next left.at left.words

-- the next word is this one, and these are left behind it
pub record Takes (old : Left) (taken : List ℕ) (new : Left) : Type 0 where
  pub words : old.words ≡ taken ∷ new.words
  pub at : new.at ≡ old.at + 1

-- no word is left, so the next one is missing at this place
pub record Lacks (old : Left) (place : ℕ) : Type 0 where
  pub words : old.words ≡ []
  pub is_place : place ≡ old.at + 1

-- a word is left, at this place
pub record HasMore (old : Left) (place : ℕ) : Type 0 where
  pub words : old.words ≢ []
  pub is_place : place ≡ old.at + 1

-- the words left begin with such a part, which says this, and these are left behind it
abbrev pub LeadsTo : {A : Type 0} → ((A → Next) → Next) → Left → A → Left → Type 0
LeadsTo {A} part old said new = (k : A → Next) → answers (part k) old ≡ answers (k said) new

-- they do not, and go wrong there
abbrev pub StopsAt : {A : Type 0} → ((A → Next) → Next) → Left → ℕ → Type 0
StopsAt {A} part old place = (k : A → Next) → answers (part k) old ≡ Err place

-- the words left begin with an option, which makes `h` of what was given, and these are left behind it
abbrev pub Adds : Bool → Given → Left → Given → Left → Type 0
Adds by_name g old h new = (k : Options → Command) → answers (option by_name g k) old ≡ answers (option by_name h k) new

-- the words left begin with an option that may be given and was not yet, and these are left behind its name
abbrev pub Names : Bool → Given → Left → Flag → Left → Type 0
Names by_name g old flag new = (k : Options → Command) → answers (option by_name g k) old ≡ answers (behind by_name flag g k) new

-- all words left are options, and these are theirs
abbrev pub Says : Bool → Given → Left → Options → Type 0
Says by_name g old said = (k : Options → Command) → answers (option by_name g k) old ≡ Ok (k said)

-- an option goes wrong there
abbrev pub Fails : Bool → Given → Left → ℕ → Type 0
Fails by_name g old place = (k : Options → Command) → answers (option by_name g k) old ≡ Err place

-- the words left begin with the name of a limit that was not given yet, and these are left behind it
abbrev pub NamesLimit : Limits → Left → Flag → Left → Type 0
NamesLimit g old flag new = (k : Limits → Command) → answers (limiting g k) old ≡ answers (behind_limit flag g k) new

-- the words left begin with a limit that was not given yet, which makes `h` of what was given, and these are left behind it
abbrev pub AddsLimit : Limits → Left → Limits → Left → Type 0
AddsLimit g old h new = (k : Limits → Command) → answers (limiting g k) old ≡ answers (limiting h k) new

-- all words left are limits, and these are theirs
abbrev pub AllLimit : Limits → Left → Limits → Type 0
AllLimit g old said = (k : Limits → Command) → answers (limiting g k) old ≡ Ok (k said)

-- a limit goes wrong there
abbrev pub LimitFails : Limits → Left → ℕ → Type 0
LimitFails g old place = (k : Limits → Command) → answers (limiting g k) old ≡ Err place
