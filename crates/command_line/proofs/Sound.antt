-- What is read whole is a command of the grammar.
use Rattle.command_line.specs.declared.reader.Flag.{Flag}
use Rattle.command_line.specs.declared.reader.Flag.TheVariants as f
use Rattle.std.proofs.Common.{◌≡◌, ◌≢◌, ℕ, zero, suc, ◌+◌, ◌≤◌, Bool, true, false, not, if◌then◌else◌, Option, Some, None, is_none, Ok, Err, List, [], ◌∷◌, length, option_map, unwrap_or, refl, sym, ap, subst, inl, inr, ◌∙◌, codes, arith}
use Rattle.std.specs.Option.{option_map_or}
use Rattle.std.specs.Str.{bytes_eq}
use Rattle.std.proofs.lemmas.Slice.Eq.{bytes_eq-Decides}
use Rattle.command_line.specs.Commands.{ReadOrder, fixed, reads, IsPolicy, IsNumber, Given, Gives, no_more, more_width, more_rounds, more_policy, more_reads, more_list, more_part, more_clip, more_exact, more_keys, Options, Command, ask, query, session, load, info, upgrade, demo, combine, help, version, IsCommand, IsPartsNumber, Limits, Limit, no_limit, limit_width, limit_rounds, limit_keys, IsHelp, IsVersion, AreOptions, nothing_given, options_given, most_seed, most_rows, most_width, most_rounds}
use Rattle.command_line.specs.Reading.{Next, name, word, number, policy, option, parts, limiting, done, after, after_ask, after_query, after_session, after_load, after_info, after_upgrade, after_demo, after_combine, after_name, after_flag, after_limit, behind, is_free, flag_of, flag_text, at_end, answer, lone_command, number_of, parts_of}
use Rattle.plane_schedule.specs.Choices.{policy_named}
use Rattle.plane_schedule.specs.declared.policies.FixedPolicy.{FixedPolicy}
use Rattle.plane_schedule.specs.declared.policies.FixedPolicy.TheVariants.{Widest}
use Rattle.plane_schedule.proofs.One.{named_word}
use Rattle.command_line.proofs.Numbers.{number_is, parts_is, both}
use Rattle.command_line.proofs.Steps.{Allowed}

-- ---- cases on tests

same_bytes : (w v : List ℕ) → bytes_eq w v ≡ true → w ≡ v
same_bytes w v e = (bytes_eq-Decides w v).0 e

if_cases : {A : Type 0} (P : A → Type 0) (b : Bool) (x y : A) → (b ≡ true → P x) → P y → P (if b then x else y)
if_cases P true x y t f = t refl
if_cases P false x y t f = f

unset : {A : Type 0} (o : Option A) → is_none o ≡ true → o ≡ None
unset None e = refl
unset (Some x) e = cc

not_set : (b : Bool) → not b ≡ true → b ≡ false
not_set false e = refl
not_set true e = cc

-- ---- words that are read whole

-- the words begin with one behind which the rest is read whole
record Steps (next : Next) (at : ℕ) (ws : List (List ℕ)) (c : Command) : Type 0 where
  first : List ℕ
  tail : List (List ℕ)
  behind : Next
  words : ws ≡ first ∷ tail
  leads : after next first ≡ Some behind
  whole : answer behind (at + 1) tail ≡ Ok c

steps_on : (next : Next) (at : ℕ) (w : List ℕ) (ws : List (List ℕ)) (c : Command) (o : Option Next) → after next w ≡ o →
    option_map_or (λ n. answer n (at + 1) ws) o (Err (at + 1)) ≡ Ok c → Steps next at (w ∷ ws) c
steps_on next at w ws c (Some n) leads e = record { first = w; tail = ws; behind = n; words = refl; leads = leads; whole = e }
steps_on next at w ws c None leads e = cc

steps : (next : Next) (at : ℕ) (ws : List (List ℕ)) (c : Command) → at_end next at ≡ Err (at + 1) → answer next at ws ≡ Ok c →
    Steps next at ws c
unfolding answer
steps next at [] c e whole = let no : Err (at + 1) ≡ Ok c = sym e ∙ whole in cc
steps next at (w ∷ ws) c e whole = steps_on next at w ws c (after next w) refl whole

-- a word with some meaning, and the rest behind it
record Reads {A : Type 0} (k : A → Next) (means : List ℕ → A → Type 0) (at : ℕ) (ws : List (List ℕ)) (c : Command) : Type 0 where
  first : List ℕ
  tail : List (List ℕ)
  said : A
  words : ws ≡ first ∷ tail
  meant : means first said
  whole : answer (k said) (at + 1) tail ≡ Ok c

some_map : {A B : Type 0} (f : A → B) (o : Option A) (b : B) → option_map f o ≡ Some b → (a : A) × (o ≡ Some a) × (b ≡ f a)
some_map f (Some a) b e = (a, refl, cc)
some_map f None b e = cc

read_word : (k : List ℕ → Next) (at : ℕ) (ws : List (List ℕ)) (c : Command) → answer (word k) at ws ≡ Ok c → Reads k (λ w v. w ≡ v) at ws c
read_word k at ws c e =
    let s = steps (word k) at ws c refl e in
    let same : s.behind ≡ k s.first = cc in
    record {
      first = s.first;
      tail = s.tail;
      said = s.first;
      words = s.words;
      meant = refl;
      whole = ap (λ n. answer n (at + 1) s.tail) (sym same) ∙ s.whole;
    }

read_number : (limit : ℕ) (k : ℕ → Next) (at : ℕ) (ws : List (List ℕ)) (c : Command) → answer (number limit k) at ws ≡ Ok c →
    Reads k (IsNumber limit) at ws c
read_number limit k at ws c e =
    let s = steps (number limit k) at ws c refl e in
    let (n, is, same) = some_map k (number_of limit s.first) s.behind s.leads in
    record {
      first = s.first;
      tail = s.tail;
      said = n;
      words = s.words;
      meant = number_is limit s.first n is;
      whole = ap (λ n. answer n (at + 1) s.tail) (sym same) ∙ s.whole;
    }

read_parts : (k : ℕ → Next) (at : ℕ) (ws : List (List ℕ)) (c : Command) → answer (parts k) at ws ≡ Ok c → Reads k IsPartsNumber at ws c
read_parts k at ws c e =
    let s = steps (parts k) at ws c refl e in
    let (n, is, same) = some_map k (parts_of s.first) s.behind s.leads in
    record {
      first = s.first;
      tail = s.tail;
      said = n;
      words = s.words;
      meant = parts_is s.first n is;
      whole = ap (λ n. answer n (at + 1) s.tail) (sym same) ∙ s.whole;
    }

read_policy : (k : FixedPolicy → Next) (at : ℕ) (ws : List (List ℕ)) (c : Command) → answer (policy k) at ws ≡ Ok c → Reads k IsPolicy at ws c
read_policy k at ws c e =
    let s = steps (policy k) at ws c refl e in
    let (p, is, same) = some_map k (policy_named s.first) s.behind s.leads in
    record {
      first = s.first;
      tail = s.tail;
      said = p;
      words = s.words;
      meant = named_word s.first p is;
      whole = ap (λ n. answer n (at + 1) s.tail) (sym same) ∙ s.whole;
    }

-- ---- options

-- what the words give, and the command with it
record Given_by (by_name : Bool) (g : Given) (k : Options → Command) (ws : List (List ℕ)) (c : Command) : Type 0 where
  end : Given
  gives : Gives g ws end
  allowed : Allowed by_name g → Allowed by_name end
  same : c ≡ k (options_given end)

abbrev IsFlag : List ℕ → Option Flag → Type 0
IsFlag w None = Unit {0}
IsFlag w (Some flag) = w ≡ flag_text flag

flag_is : (w : List ℕ) → IsFlag w (flag_of w)
unfolding flag_of
flag_is w =
    let P = IsFlag w in
    if_cases P (bytes_eq w (codes "--width")) _ _ (λ t. same_bytes w _ t)
    (if_cases P (bytes_eq w (codes "--rounds")) _ _ (λ t. same_bytes w _ t)
    (if_cases P (bytes_eq w (codes "--policy")) _ _ (λ t. same_bytes w _ t)
    (if_cases P (bytes_eq w (codes "--reads")) _ _ (λ t. same_bytes w _ t)
    (if_cases P (bytes_eq w (codes "--list")) _ _ (λ t. same_bytes w _ t)
    (if_cases P (bytes_eq w (codes "--part")) _ _ (λ t. same_bytes w _ t)
    (if_cases P (bytes_eq w (codes "--clip")) _ _ (λ t. same_bytes w _ t)
    (if_cases P (bytes_eq w (codes "--exact-avg")) _ _ (λ t. same_bytes w _ t)
    (if_cases P (bytes_eq w (codes "--keys")) _ _ (λ t. same_bytes w _ t) tt))))))))

free_some : (b : Bool) (x : Next) (at : ℕ) (ws : List (List ℕ)) (c : Command) →
    option_map_or (λ next. answer next (at + 1) ws) (if b then Some x else None) (Err (at + 1)) ≡ Ok c →
    (b ≡ true) × (answer x (at + 1) ws ≡ Ok c)
free_some true x at ws c e = (refl, e)
free_some false x at ws c e = cc

-- words shorter than so many that are read whole as options
abbrev ReadBelow : Bool → ℕ → (Options → Command) → Type 0
ReadBelow by_name n k = (g : Given) (at : ℕ) (ws : List (List ℕ)) (c : Command) → length ws ≤ n → answer (option by_name g k) at ws ≡ Ok c →
    Given_by by_name g k ws c

-- the words behind an option that takes one word
shorter : (n : ℕ) (w first : List ℕ) (ws tail : List (List ℕ)) → length (w ∷ ws) ≤ suc n → ws ≡ first ∷ tail → length tail ≤ n
shorter n w first ws tail h e = let long : length ws ≡ suc (length tail) = ap length e in omega arith

-- what holds of words under their own names
renamed : (P : List (List ℕ) → Type 0) (w flag first : List ℕ) (ws tail : List (List ℕ)) → w ≡ flag → ws ≡ first ∷ tail →
    P (flag ∷ first ∷ tail) → P (w ∷ ws)
renamed P w flag first ws tail a b holds = rw (a, b) holds

-- words under their own names
moved : (g h : Given) (w flag first : List ℕ) (ws tail : List (List ℕ)) → w ≡ flag → ws ≡ first ∷ tail → Gives g (flag ∷ first ∷ tail) h →
    Gives g (w ∷ ws) h
moved g h w flag first ws tail a b gives = renamed (λ v. Gives g v h) w flag first ws tail a b gives

-- a policy is no list of names
policy_allowed : (by_name : Bool) (g : Given) (p : FixedPolicy) → Allowed by_name (record g { order = Some (fixed p) })
policy_allowed by_name g p names e = cc

read_flag : (by_name : Bool) (n : ℕ) (k : Options → Command) → ReadBelow by_name n k →
    (g : Given) (at : ℕ) (w : List ℕ) (ws : List (List ℕ)) (c : Command) (flag : Flag) → length (w ∷ ws) ≤ suc n →
    w ≡ flag_text flag → is_free by_name flag g ≡ true → answer (behind by_name flag g k) (at + 1) ws ≡ Ok c → Given_by by_name g k (w ∷ ws) c
read_flag by_name n k ih g at w ws c f.Width h same free e =
    let r = read_number most_width _ (at + 1) ws c e in
    let b = ih _ (at + 1 + 1) r.tail c (shorter n w r.first ws r.tail h r.words) r.whole in
    record {
      end = b.end;
      gives = moved g b.end w _ r.first ws r.tail same r.words (more_width (unset g.width free) r.meant b.gives);
      allowed = b.allowed;
      same = b.same;
    }
read_flag by_name n k ih g at w ws c f.Rounds h same free e =
    let r = read_number most_rounds _ (at + 1) ws c e in
    let b = ih _ (at + 1 + 1) r.tail c (shorter n w r.first ws r.tail h r.words) r.whole in
    record {
      end = b.end;
      gives = moved g b.end w _ r.first ws r.tail same r.words (more_rounds (unset g.rounds free) r.meant b.gives);
      allowed = b.allowed;
      same = b.same;
    }
read_flag by_name n k ih g at w ws c f.Policy h same free e =
    let r = read_policy _ (at + 1) ws c e in
    let b = ih _ (at + 1 + 1) r.tail c (shorter n w r.first ws r.tail h r.words) r.whole in
    record {
      end = b.end;
      gives = moved g b.end w _ r.first ws r.tail same r.words (more_policy (unset g.order free) r.meant b.gives);
      allowed = λ a. b.allowed (policy_allowed by_name g r.said);
      same = b.same;
    }
read_flag by_name n k ih g at w ws c f.Reads h same free e =
    let (may, free_order) = both _ _ free in
    let r = read_word _ (at + 1) ws c e in
    let b = ih _ (at + 1 + 1) r.tail c (shorter n w r.first ws r.tail h r.words) r.whole in
    record {
      end = b.end;
      gives = moved g b.end w _ r.said ws r.tail same (r.words ∙ ap (λ v. v ∷ r.tail) r.meant)
          (more_reads (unset g.order free_order) b.gives);
      allowed = λ a. b.allowed (λ names e. may);
      same = b.same;
    }
read_flag by_name n k ih g at w ws c f.List h same free e =
    let b = ih _ (at + 1) ws c (omega arith) e in
    record { end = b.end; gives = subst (λ v. Gives g (v ∷ ws) b.end) (sym same) (more_list (unset g.listing free) b.gives); allowed = b.allowed; same = b.same }
read_flag by_name n k ih g at w ws c f.Part h same free e =
    let b = ih _ (at + 1) ws c (omega arith) e in
    record { end = b.end; gives = subst (λ v. Gives g (v ∷ ws) b.end) (sym same) (more_part (unset g.listing free) b.gives); allowed = b.allowed; same = b.same }
read_flag by_name n k ih g at w ws c f.Clip h same free e =
    let b = ih _ (at + 1) ws c (omega arith) e in
    record { end = b.end; gives = subst (λ v. Gives g (v ∷ ws) b.end) (sym same) (more_clip (not_set g.clip free) b.gives); allowed = b.allowed; same = b.same }
read_flag by_name n k ih g at w ws c f.Exact h same free e =
    let b = ih _ (at + 1) ws c (omega arith) e in
    record { end = b.end; gives = subst (λ v. Gives g (v ∷ ws) b.end) (sym same) (more_exact (not_set g.exact free) b.gives); allowed = b.allowed; same = b.same }
read_flag by_name n k ih g at w ws c f.Keys h same free e =
    let b = ih _ (at + 1) ws c (omega arith) e in
    record { end = b.end; gives = subst (λ v. Gives g (v ∷ ws) b.end) (sym same) (more_keys (not_set g.keys free) b.gives); allowed = b.allowed; same = b.same }

read_option : (by_name : Bool) (n : ℕ) (k : Options → Command) → ReadBelow by_name n k →
    (g : Given) (at : ℕ) (w : List ℕ) (ws : List (List ℕ)) (c : Command) (o : Option Flag) → length (w ∷ ws) ≤ suc n →
    IsFlag w o → option_map_or (λ next. answer next (at + 1) ws) (after_flag by_name g k o) (Err (at + 1)) ≡ Ok c → Given_by by_name g k (w ∷ ws) c
read_option by_name n k ih g at w ws c (Some flag) h same e =
    let (free, whole) = free_some (is_free by_name flag g) (behind by_name flag g k) at ws c e in
    read_flag by_name n k ih g at w ws c flag h same free whole
read_option by_name n k ih g at w ws c None h same e = cc

read_options : (by_name : Bool) (k : Options → Command) (n : ℕ) → ReadBelow by_name n k
unfolding answer
read_options by_name k n g at [] c h e = record { end = g; gives = no_more; allowed = λ a. a; same = cc }
read_options by_name k zero g at (w ∷ ws) c h e = absurd (omega arith)
read_options by_name k (suc n) g at (w ∷ ws) c h e = read_option by_name n k (read_options by_name k n) g at w ws c (flag_of w) h (flag_is w) e

-- ---- limits

-- what the words limit, and the command with it
record Limited_by (g : Limits) (k : Limits → Command) (ws : List (List ℕ)) (c : Command) : Type 0 where
  end : Limits
  gives : Limit g ws end
  same : c ≡ k end

-- words shorter than so many that are read whole as limits
abbrev LimitBelow : ℕ → (Limits → Command) → Type 0
LimitBelow n k = (g : Limits) (at : ℕ) (ws : List (List ℕ)) (c : Command) → length ws ≤ n → answer (limiting g k) at ws ≡ Ok c →
    Limited_by g k ws c

read_limit : (n : ℕ) (k : Limits → Command) → LimitBelow n k →
    (g : Limits) (at : ℕ) (w : List ℕ) (ws : List (List ℕ)) (c : Command) (o : Option Flag) → length (w ∷ ws) ≤ suc n →
    IsFlag w o → option_map_or (λ next. answer next (at + 1) ws) (after_limit g k o) (Err (at + 1)) ≡ Ok c → Limited_by g k (w ∷ ws) c
read_limit n k ih g at w ws c (Some f.Width) h same e =
    let (free, whole) = free_some (is_none g.width) _ at ws c e in
    let r = read_number most_width _ (at + 1) ws c whole in
    let b = ih _ (at + 1 + 1) r.tail c (shorter n w r.first ws r.tail h r.words) r.whole in
    record {
      end = b.end;
      gives = renamed (λ v. Limit g v b.end) w _ r.first ws r.tail same r.words (limit_width (unset g.width free) r.meant b.gives);
      same = b.same;
    }
read_limit n k ih g at w ws c (Some f.Rounds) h same e =
    let (free, whole) = free_some (is_none g.rounds) _ at ws c e in
    let r = read_number most_rounds _ (at + 1) ws c whole in
    let b = ih _ (at + 1 + 1) r.tail c (shorter n w r.first ws r.tail h r.words) r.whole in
    record {
      end = b.end;
      gives = renamed (λ v. Limit g v b.end) w _ r.first ws r.tail same r.words (limit_rounds (unset g.rounds free) r.meant b.gives);
      same = b.same;
    }
read_limit n k ih g at w ws c (Some f.Policy) h same e = cc
read_limit n k ih g at w ws c (Some f.Reads) h same e = cc
read_limit n k ih g at w ws c (Some f.List) h same e = cc
read_limit n k ih g at w ws c (Some f.Part) h same e = cc
read_limit n k ih g at w ws c (Some f.Clip) h same e = cc
read_limit n k ih g at w ws c (Some f.Exact) h same e = cc
read_limit n k ih g at w ws c (Some f.Keys) h same e =
    let (free, whole) = free_some (not g.keys) _ at ws c e in
    let b = ih _ (at + 1) ws c (omega arith) whole in
    record { end = b.end; gives = subst (λ v. Limit g (v ∷ ws) b.end) (sym same) (limit_keys (not_set g.keys free) b.gives); same = b.same }
read_limit n k ih g at w ws c None h same e = cc

read_limits : (k : Limits → Command) (n : ℕ) → LimitBelow n k
unfolding answer
read_limits k n g at [] c h e = record { end = g; gives = no_limit; same = cc }
read_limits k zero g at (w ∷ ws) c h e = absurd (omega arith)
read_limits k (suc n) g at (w ∷ ws) c h e = read_limit n k (read_limits k n) g at w ws c (flag_of w) h (flag_is w) e

-- ---- commands

data IsName (w : List ℕ) : Option Next → Type 0 where
  is_ask : w ≡ codes "ask" → IsName w (Some after_ask)
  is_query : w ≡ codes "query" → IsName w (Some after_query)
  is_session : w ≡ codes "session" → IsName w (Some after_session)
  is_load : w ≡ codes "load" → IsName w (Some after_load)
  is_info : w ≡ codes "info" → IsName w (Some after_info)
  is_upgrade : w ≡ codes "upgrade" → IsName w (Some after_upgrade)
  is_demo : w ≡ codes "demo" → IsName w (Some after_demo)
  is_combine : w ≡ codes "combine" → IsName w (Some after_combine)
  is_lone : (c : Command) → lone_command w ≡ Some c → IsName w (Some (done c))
  is_no_name : lone_command w ≡ None → IsName w None

lone_name : (w : List ℕ) (o : Option Command) → lone_command w ≡ o → IsName w (option_map done o)
lone_name w None e = is_no_name e
lone_name w (Some c) e = is_lone c e

name_is : (w : List ℕ) → IsName w (after_name w)
unfolding after_name
name_is w =
    if_cases (IsName w) (bytes_eq w (codes "ask")) _ _ (λ t. is_ask (same_bytes w _ t))
    (if_cases (IsName w) (bytes_eq w (codes "query")) _ _ (λ t. is_query (same_bytes w _ t))
    (if_cases (IsName w) (bytes_eq w (codes "session")) _ _ (λ t. is_session (same_bytes w _ t))
    (if_cases (IsName w) (bytes_eq w (codes "load")) _ _ (λ t. is_load (same_bytes w _ t))
    (if_cases (IsName w) (bytes_eq w (codes "info")) _ _ (λ t. is_info (same_bytes w _ t))
    (if_cases (IsName w) (bytes_eq w (codes "upgrade")) _ _ (λ t. is_upgrade (same_bytes w _ t))
    (if_cases (IsName w) (bytes_eq w (codes "demo")) _ _ (λ t. is_demo (same_bytes w _ t))
    (if_cases (IsName w) (bytes_eq w (codes "combine")) _ _ (λ t. is_combine (same_bytes w _ t)) (lone_name w (lone_command w) refl))))))))

said : (words : List (List ℕ)) (given : Given) → Gives nothing_given words given → AreOptions words (options_given given)
said words given gives = record { given = given; gives = gives; say = refl }

-- a word stands where it was read
word_there : {k : List ℕ → Next} {at : ℕ} {ws : List (List ℕ)} {c : Command} (r : Reads k (λ w v. w ≡ v) at ws c) → ws ≡ r.said ∷ r.tail
word_there r = r.words ∙ ap (λ v. v ∷ r.tail) r.meant

two_words : (a b : List ℕ) (ws behind_a behind_b : List (List ℕ)) → ws ≡ a ∷ behind_a → behind_a ≡ b ∷ behind_b → ws ≡ a ∷ b ∷ behind_b
two_words a b ws behind_a behind_b first second = first ∙ ap (λ v. a ∷ v) second

three_words : (a b c : List ℕ) (ws behind_a behind_b behind_c : List (List ℕ)) → ws ≡ a ∷ behind_a → behind_a ≡ b ∷ behind_b →
    behind_b ≡ c ∷ behind_c → ws ≡ a ∷ b ∷ c ∷ behind_c
three_words a b c ws behind_a behind_b behind_c first second third = first ∙ ap (λ v. a ∷ v) (second ∙ ap (λ v. b ∷ v) third)

ask_is : (ws : List (List ℕ)) (c : Command) → answer after_ask 1 ws ≡ Ok c → IsCommand (codes "ask" ∷ ws) c
ask_is ws c e =
    let csv = read_word _ 1 ws c e in
    let schema = read_word _ 2 csv.tail c csv.whole in
    let sql = read_word _ 3 schema.tail c schema.whole in
    let o = read_options true _ (length sql.tail) _ 4 sql.tail c (omega arith) sql.whole in
    let is : IsCommand (codes "ask" ∷ ws) (ask (record {
      csv = csv.said;
      schema = schema.said;
      sql = sql.said;
      options = options_given o.end;
    })) =
    record {
      tail = sql.tail;
      spelled = ap (λ v. codes "ask" ∷ v) (three_words csv.said schema.said sql.said ws csv.tail schema.tail sql.tail
          (csv.words ∙ ap (λ v. v ∷ csv.tail) csv.meant) (schema.words ∙ ap (λ v. v ∷ schema.tail) schema.meant)
          (sql.words ∙ ap (λ v. v ∷ sql.tail) sql.meant));
      options = said sql.tail o.end o.gives;
    } in
    subst (IsCommand (codes "ask" ∷ ws)) (sym o.same) is

-- where nothing may come, nothing is left
read_done : (k : Command) (at : ℕ) (ws : List (List ℕ)) (c : Command) → answer (done k) at ws ≡ Ok c → (ws ≡ []) × (k ≡ c)
unfolding answer
read_done k at [] c e = (refl, cc)
read_done k at (w ∷ ws) c e = cc

query_is : (ws : List (List ℕ)) (c : Command) → answer after_query 1 ws ≡ Ok c → IsCommand (codes "query" ∷ ws) c
query_is ws c e =
    let file = read_word _ 1 ws c e in
    let sql = read_word _ 2 file.tail c file.whole in
    let o = read_options true _ (length sql.tail) _ 3 sql.tail c (omega arith) sql.whole in
    let is : IsCommand (codes "query" ∷ ws) (query (record { file = file.said; sql = sql.said; options = options_given o.end })) =
    record {
      tail = sql.tail;
      spelled = ap (λ v. codes "query" ∷ v) (two_words file.said sql.said ws file.tail sql.tail (word_there file) (word_there sql));
      options = said sql.tail o.end o.gives;
    } in
    subst (IsCommand (codes "query" ∷ ws)) (sym o.same) is

-- an order that may not be a list of names is none
no_names : (order : Option ReadOrder) → ((names : List ℕ) → order ≡ Some (reads names) → false ≡ true) → (names : List ℕ) →
    unwrap_or order (fixed Widest) ≢ reads names
no_names None allowed names e = cc
no_names (Some p) allowed names e = let never = allowed names (ap Some e) in cc

session_is : (ws : List (List ℕ)) (c : Command) → answer after_session 1 ws ≡ Ok c → IsCommand (codes "session" ∷ ws) c
session_is ws c e =
    let file = read_word _ 1 ws c e in
    let script = read_word _ 2 file.tail c file.whole in
    let o = read_options false _ (length script.tail) _ 3 script.tail c (omega arith) script.whole in
    let is : IsCommand (codes "session" ∷ ws) (session (record { file = file.said; script = script.said; options = options_given o.end })) =
    record {
      tail = script.tail;
      spelled = ap (λ v. codes "session" ∷ v) (two_words file.said script.said ws file.tail script.tail (word_there file) (word_there script));
      options = said script.tail o.end o.gives;
      by_policy = no_names o.end.order (o.allowed (λ names e. cc));
    } in
    subst (IsCommand (codes "session" ∷ ws)) (sym o.same) is

load_is : (ws : List (List ℕ)) (c : Command) → answer after_load 1 ws ≡ Ok c → IsCommand (codes "load" ∷ ws) c
load_is ws c e =
    let csv = read_word _ 1 ws c e in
    let file = read_word _ 2 csv.tail c csv.whole in
    let schema = read_word _ 3 file.tail c file.whole in
    let end = read_done _ 4 schema.tail c schema.whole in
    let is : IsCommand (codes "load" ∷ ws) (load (record { csv = csv.said; file = file.said; schema = schema.said })) =
    ap (λ v. codes "load" ∷ v) (three_words csv.said file.said schema.said ws csv.tail file.tail schema.tail (word_there csv) (word_there file) (word_there schema)
    ∙ ap (λ v. csv.said ∷ file.said ∷ schema.said ∷ v) end.0) in
    subst (IsCommand (codes "load" ∷ ws)) end.1 is

info_is : (ws : List (List ℕ)) (c : Command) → answer after_info 1 ws ≡ Ok c → IsCommand (codes "info" ∷ ws) c
info_is ws c e =
    let file = read_word _ 1 ws c e in
    let end = read_done _ 2 file.tail c file.whole in
    let is : IsCommand (codes "info" ∷ ws) (info (record { file = file.said })) =
    ap (λ v. codes "info" ∷ v) (word_there file ∙ ap (λ v. file.said ∷ v) end.0) in
    subst (IsCommand (codes "info" ∷ ws)) end.1 is

upgrade_is : (ws : List (List ℕ)) (c : Command) → answer after_upgrade 1 ws ≡ Ok c → IsCommand (codes "upgrade" ∷ ws) c
upgrade_is ws c e =
    let older = read_word _ 1 ws c e in
    let newer = read_word _ 2 older.tail c older.whole in
    let end = read_done _ 3 newer.tail c newer.whole in
    let is : IsCommand (codes "upgrade" ∷ ws) (upgrade (record { older = older.said; newer = newer.said })) =
    ap (λ v. codes "upgrade" ∷ v) (two_words older.said newer.said ws older.tail newer.tail (word_there older) (word_there newer)
    ∙ ap (λ v. older.said ∷ newer.said ∷ v) end.0) in
    subst (IsCommand (codes "upgrade" ∷ ws)) end.1 is

demo_is : (ws : List (List ℕ)) (c : Command) → answer after_demo 1 ws ≡ Ok c → IsCommand (codes "demo" ∷ ws) c
demo_is ws c e =
    let seed = read_number most_seed _ 1 ws c e in
    let rows = read_number most_rows _ 2 seed.tail c seed.whole in
    let sql = read_word _ 3 rows.tail c rows.whole in
    let o = read_options true _ (length sql.tail) _ 4 sql.tail c (omega arith) sql.whole in
    let is : IsCommand (codes "demo" ∷ ws) (demo (record {
      seed = seed.said;
      rows = rows.said;
      sql = sql.said;
      options = options_given o.end;
    })) =
    record {
      seed = seed.first;
      rows = rows.first;
      tail = sql.tail;
      spelled = ap (λ v. codes "demo" ∷ v) (three_words seed.first rows.first sql.said ws seed.tail rows.tail sql.tail
          seed.words rows.words (sql.words ∙ ap (λ v. v ∷ sql.tail) sql.meant));
      is_seed = seed.meant;
      is_rows = rows.meant;
      options = said sql.tail o.end o.gives;
    } in
    subst (IsCommand (codes "demo" ∷ ws)) (sym o.same) is

combine_is : (ws : List (List ℕ)) (c : Command) → answer after_combine 1 ws ≡ Ok c → IsCommand (codes "combine" ∷ ws) c
combine_is ws c e =
    let count = read_parts _ 1 ws c e in
    let reports = read_word _ 2 count.tail c count.whole in
    let l = read_limits _ (length reports.tail) _ 3 reports.tail c (omega arith) reports.whole in
    let is : IsCommand (codes "combine" ∷ ws) (combine (record {
      parts = count.said;
      reports = reports.said;
      width = unwrap_or l.end.width 0;
      rounds = l.end.rounds;
      keys = l.end.keys;
    })) =
    record {
      parts = count.first;
      tail = reports.tail;
      given = l.end;
      spelled = ap (λ v. codes "combine" ∷ v) (two_words count.first reports.said ws count.tail reports.tail count.words (word_there reports));
      is_parts = count.meant;
      limits = l.gives;
      width = refl;
      rounds = refl;
      keys = refl;
    } in
    subst (IsCommand (codes "combine" ∷ ws)) (sym l.same) is

-- a command of one word is that word
lone_is : (w : List ℕ) (c : Command) → lone_command w ≡ Some c → IsCommand (w ∷ []) c
unfolding lone_command
lone_is w c e =
    let P : Option Command → Type 0 = λ o. o ≡ Some c → IsCommand (w ∷ []) c in
    if_cases P (bytes_eq w (codes "help")) _ _ (λ t s. is_help c s (inl (alone (same_bytes w _ t))))
    (if_cases P (bytes_eq w (codes "--help")) _ _ (λ t s. is_help c s (inr (inl (alone (same_bytes w _ t)))))
    (if_cases P (bytes_eq w (codes "-h")) _ _ (λ t s. is_help c s (inr (inr (alone (same_bytes w _ t)))))
    (if_cases P (bytes_eq w (codes "--version")) _ _ (λ t s. is_version c s (inl (alone (same_bytes w _ t))))
    (if_cases P (bytes_eq w (codes "-V")) _ _ (λ t s. is_version c s (inr (alone (same_bytes w _ t))))
    (λ s. cc))))) e
  where
    some_same : (a b : Command) → Some a ≡ Some b → a ≡ b
    some_same a b s = cc

    alone : {v : List ℕ} → w ≡ v → w ∷ [] ≡ v ∷ []
    alone e = ap (λ v. v ∷ []) e

    is_help : (c : Command) → Some help ≡ Some c → IsHelp (w ∷ []) → IsCommand (w ∷ []) c
    is_help c s is = subst (IsCommand (w ∷ [])) (some_same help c s) is

    is_version : (c : Command) → Some version ≡ Some c → IsVersion (w ∷ []) → IsCommand (w ∷ []) c
    is_version c s is = subst (IsCommand (w ∷ [])) (some_same version c s) is

lone_ends : (w : List ℕ) (ws : List (List ℕ)) (k c : Command) → lone_command w ≡ Some k → answer (done k) 1 ws ≡ Ok c → IsCommand (w ∷ ws) c
lone_ends w ws k c named e =
    let end = read_done k 1 ws c e in
    subst (λ v. IsCommand (w ∷ v) c) (sym end.0) (subst (IsCommand (w ∷ [])) end.1 (lone_is w k named))

named_is : (w : List ℕ) (ws : List (List ℕ)) (c : Command) (o : Option Next) → IsName w o →
    option_map_or (λ next. answer next 1 ws) o (Err 1) ≡ Ok c → IsCommand (w ∷ ws) c
named_is w ws c (Some _) (is_ask same) e = subst (λ v. IsCommand (v ∷ ws) c) (sym same) (ask_is ws c e)
named_is w ws c (Some _) (is_query same) e = subst (λ v. IsCommand (v ∷ ws) c) (sym same) (query_is ws c e)
named_is w ws c (Some _) (is_session same) e = subst (λ v. IsCommand (v ∷ ws) c) (sym same) (session_is ws c e)
named_is w ws c (Some _) (is_load same) e = subst (λ v. IsCommand (v ∷ ws) c) (sym same) (load_is ws c e)
named_is w ws c (Some _) (is_info same) e = subst (λ v. IsCommand (v ∷ ws) c) (sym same) (info_is ws c e)
named_is w ws c (Some _) (is_upgrade same) e = subst (λ v. IsCommand (v ∷ ws) c) (sym same) (upgrade_is ws c e)
named_is w ws c (Some _) (is_demo same) e = subst (λ v. IsCommand (v ∷ ws) c) (sym same) (demo_is ws c e)
named_is w ws c (Some _) (is_combine same) e = subst (λ v. IsCommand (v ∷ ws) c) (sym same) (combine_is ws c e)
named_is w ws c (Some _) (is_lone k named) e = lone_ends w ws k c named e
named_is w ws c None (is_no_name unnamed) e = cc

-- the command that words are read as is theirs
pub command_is : (words : List (List ℕ)) (c : Command) → answer name 0 words ≡ Ok c → IsCommand words c
unfolding answer
command_is [] c e = cc
command_is (w ∷ ws) c e = named_is w ws c (after_name w) (name_is w) e

-- a word that names no command of several words
pub record IsNoName (w : List ℕ) : Type 0 where
  pub ask : w ≢ codes "ask"
  pub query : w ≢ codes "query"
  pub session : w ≢ codes "session"
  pub load : w ≢ codes "load"
  pub info : w ≢ codes "info"
  pub upgrade : w ≢ codes "upgrade"
  pub demo : w ≢ codes "demo"
  pub combine : w ≢ codes "combine"

next_lone : (w : List ℕ) (o : Option Next) → IsName w o → IsNoName w → o ≡ option_map done (lone_command w)
next_lone w (Some _) (is_ask same) none = absurd (none.ask same)
next_lone w (Some _) (is_query same) none = absurd (none.query same)
next_lone w (Some _) (is_session same) none = absurd (none.session same)
next_lone w (Some _) (is_load same) none = absurd (none.load same)
next_lone w (Some _) (is_info same) none = absurd (none.info same)
next_lone w (Some _) (is_upgrade same) none = absurd (none.upgrade same)
next_lone w (Some _) (is_demo same) none = absurd (none.demo same)
next_lone w (Some _) (is_combine same) none = absurd (none.combine same)
next_lone w (Some _) (is_lone c named) none = ap (option_map done) (sym named)
next_lone w None (is_no_name unnamed) none = ap (option_map done) (sym unnamed)

-- behind such a word nothing comes, where it is a command by itself
pub after_lone : (w : List ℕ) → IsNoName w → after_name w ≡ option_map done (lone_command w)
after_lone w none = next_lone w (after_name w) (name_is w) none
