-- How the machine reads lines, field by field.
use Rattle.std.proofs.Common.{◌≡◌, ◌≢◌, ℕ, ◌+◌, ◌-◌, ◌<◌, ◌≤◌, Bool, true, false, All, inl, inr, Some, None, List, [], ◌∷◌, ◌++◌, length, take, drop, get_or, nat_eq, refl, sym, ap, subst, ◌∙◌, arith}
use Rattle.std.proofs.lemmas.Bool.Decides.{nat_tests}
use Rattle.std.proofs.lemmas.List.{drop_all, drop_more, get_or-drop, length-drop, take_more}
use Rattle.std.proofs.lemmas.List.Elements.{All-tail}
use Rattle.csv.proofs.ReadFacts.{part-rest, run-copies}
use Rattle.csv.specs.Machine.{Read, Runs, next_record, step}
use Rattle.csv.specs.Reading.{Reached, default_config}
use Rattle.csv.specs.declared.parser.Config.{Config}
use Rattle.csv.specs.declared.parser.State.{State}
use Rattle.csv.specs.declared.parser.State.TheVariants as st
use Rattle.csv.specs.declared.parser.Action.TheVariants as act
use Rattle.csv_load.specs.Lines.{EndsAt, IsBetween, IsBreak, JoinsField, JoinsQuoted, MayEnd, ReadsField, StopsField, record_at, state_within}
use Rattle.csv_load.specs.Records.{Fields}
use Rattle.csv_load.specs.declared.odd_field.Within.{Within}
use Rattle.csv_load.specs.declared.odd_field.Within.TheVariants.{Start, Bare, Quoted, Closed}

differ : (c k : ℕ) → c ≢ k → nat_eq c k ≡ false
differ c k h = grind (arith, nat_tests, h)

-- bytes that join a field do nothing else
joins : (field : List ℕ) → All JoinsField field → Runs default_config st.InField field
unfolding Runs
joins [] p = tt
joins (c ∷ field) p =
    let byte = p 0 0 (omega arith) in
    (rw (differ c 44 byte.no_comma, differ c 10 byte.no_break, differ c 13 byte.no_return) refl, joins field (All-tail JoinsField c field p))

-- one byte more of what stands from a place on
pub part_more : (text : List ℕ) (from at : ℕ) → from ≤ at → at < length text → take (at + 1 - from) (drop from text) ≡ take (at - from) (drop from text) ++ get_or text at 0 ∷ []
part_more text from at le lt =
    let one : at + 1 - from ≡ (at - from) + 1 = omega (arith, le) in
    let there : from + (at - from) ≡ at = omega (arith, le) in
    let within : at - from < length (drop from text) = omega (arith, length-drop from text, lt, le) in
    ap (λ n. take n (drop from text)) one ∙ take_more (drop from text) (at - from) 0 within ∙ ap (λ b. take (at - from) (drop from text) ++ b ∷ []) (get_or-drop from text (at - from) 0 ∙ ap (λ n. get_or text n 0) there)

-- bytes in quotes do nothing else than join the field
joins_quoted : (field : List ℕ) → All JoinsQuoted field → Runs default_config st.InQuoted field
unfolding Runs
joins_quoted [] p = tt
joins_quoted (c ∷ field) p = (rw (differ c 34 (p 0 0 (omega arith))) refl, joins_quoted field (All-tail JoinsQuoted c field p))

-- a line break between records is passed
pub break_passed : (text : List ℕ) (at : ℕ) → at < length text → IsBreak (get_or text at 0) → record_at text at ≡ record_at text (at + 1)
unfolding next_record
break_passed text at lt (inl e) = rw (drop_more text at 0 lt, e) refl
break_passed text at lt (inr e) = rw (drop_more text at 0 lt, e) refl

-- at the end of the text there is no record
pub none_at_end : (text : List ℕ) (at : ℕ) → length text ≤ at → record_at text at ≡ None
unfolding next_record
none_at_end text at le = rw (drop_all at text le) refl

same_start : (c : ℕ) (rest : List ℕ) → c ≢ 13 → c ≢ 10 → next_record default_config st.StartRecord [] [] (c ∷ rest) ≡ next_record default_config st.StartField [] [] (c ∷ rest)
unfolding next_record
same_start c rest p h = let same : step default_config st.StartRecord c ≡ step default_config st.StartField c = rw (differ c 10 h, differ c 13 p) refl in rw same refl

-- elsewhere the next record begins with a field
pub field_begins : (text : List ℕ) (at : ℕ) → at < length text → get_or text at 0 ≢ 13 → get_or text at 0 ≢ 10
    → record_at text at ≡ next_record default_config st.StartField [] [] (drop at text)
field_begins text at lt p h = rw (drop_more text at 0 lt) (same_start (get_or text at 0) (drop (at + 1) text) p h)

-- behind a CR a text reads as at the start of a record
same_behind : (xs : List ℕ) → next_record default_config st.AfterCr [] [] xs ≡ next_record default_config st.StartRecord [] [] xs
unfolding next_record
same_behind [] = refl
same_behind (c ∷ rest) = rw (same (nat_eq c 10) refl) refl
  where
    same : (b : Bool) → nat_eq c 10 ≡ b → step default_config st.AfterCr c ≡ step default_config st.StartRecord c
    same true e = let is : c ≡ 10 = grind (arith, nat_tests, e) in rw is refl
    same false e = rw e refl

-- between two records a text reads as at the start of one
pub same_between : (s : State) → IsBetween s → (xs : List ℕ) → next_record default_config s [] [] xs ≡ next_record default_config st.StartRecord [] [] xs
same_between s (inl e) xs = rw e refl
same_between s (inr e) xs = rw e (same_behind xs)

-- ---- a field

-- what stands from a place on is a field, and what is behind it
parted : (text : List ℕ) (at end : ℕ) → at ≤ end → drop at text ≡ take (end - at) (drop at text) ++ drop end text
parted text at end le = let there : at + (end - at) ≡ end = omega (arith, le) in subst (λ n. drop at text ≡ take (end - at) (drop at text) ++ drop n text) there (part-rest at (end - at) text)

-- a field's bytes, and then what is behind them
record Begins (field tail : List ℕ) : Type 0 where
  place : Within
  closed : MayEnd place
  read : (fields : Fields) → next_record default_config st.StartField fields [] (field ++ tail) ≡ next_record default_config (state_within place) fields field tail

bare_begins : (field tail : List ℕ) → All JoinsField field → Begins field tail
unfolding next_record Runs
bare_begins [] tail p = record { place = Start; closed = tt; read = λ fields. refl }
bare_begins (c ∷ field) tail p = record { place = Bare; closed = tt; read = λ fields. rw begins (run-copies default_config st.InField fields (c ∷ []) field tail r.1) }
  where
    r : Runs default_config st.InField (c ∷ field)
    r = joins (c ∷ field) p

    begins : step default_config st.StartField c ≡ (st.InField, act.Copy)
    begins = rw (differ c 34 (p 0 0 (omega arith)).no_quote) r.0

-- a field without quotes
pub bare_field : (text : List ℕ) (at end : ℕ) → at ≤ end → end ≤ length text → (end < length text → StopsField (get_or text end 0))
    → All JoinsField (take (end - at) (drop at text)) → ReadsField text at (take (end - at) (drop at text)) end
bare_field text at end le within stops joins =
    let begins = bare_begins (take (end - at) (drop at text)) (drop end text) joins in
    record {
      behind = le;
      within = within;
      stops = stops;
      place = begins.place;
      closed = λ _. begins.closed;
      read = λ fields. subst (λ xs. next_record default_config st.StartField fields [] xs ≡ next_record default_config (state_within begins.place) fields (take (end - at) (drop at text)) (drop end text))
          (sym (parted text at end le)) (begins.read fields);
    }

quotes_read : (fields : Fields) (field tail : List ℕ) → All JoinsQuoted field
    → next_record default_config st.StartField fields [] (34 ∷ field ++ 34 ∷ tail) ≡ next_record default_config st.AfterQuote fields field tail
unfolding next_record
quotes_read fields field tail p = run-copies default_config st.InQuoted fields [] field (34 ∷ tail) (joins_quoted field p)

-- a field in quotes
pub quotes_field : (text : List ℕ) (at close : ℕ) → at < length text → get_or text at 0 ≡ 34 → at + 1 ≤ close → close < length text → get_or text close 0 ≡ 34
    → (close + 1 < length text → StopsField (get_or text (close + 1) 0)) → All JoinsQuoted (take (close - (at + 1)) (drop (at + 1) text))
    → ReadsField text at (take (close - (at + 1)) (drop (at + 1) text)) (close + 1)
quotes_field text at close lt opens le closes closed stops joins = record {
  behind = omega (arith, le);
  within = omega (arith, closes);
  stops = stops;
  place = Closed;
  closed = λ _. tt;
  read = λ fields. subst (λ xs. next_record default_config st.StartField fields [] xs ≡ next_record default_config st.AfterQuote fields (take (close - (at + 1)) (drop (at + 1) text)) (drop (close + 1) text))
      (sym whole) (quotes_read fields (take (close - (at + 1)) (drop (at + 1) text)) (drop (close + 1) text) joins);
}
  where
    opened : drop at text ≡ 34 ∷ drop (at + 1) text
    opened = drop_more text at 0 lt ∙ ap (λ b. b ∷ drop (at + 1) text) opens

    shut : drop close text ≡ 34 ∷ drop (close + 1) text
    shut = drop_more text close 0 closes ∙ ap (λ b. b ∷ drop (close + 1) text) closed

    whole : drop at text ≡ 34 ∷ take (close - (at + 1)) (drop (at + 1) text) ++ 34 ∷ drop (close + 1) text
    whole = opened ∙ ap (λ xs. 34 ∷ xs) (parted text (at + 1) close le ∙ ap (λ xs. take (close - (at + 1)) (drop (at + 1) text) ++ xs) shut)

-- ---- where a field ends

at_end : (place : Within) (bytes : List ℕ) (fields : Fields) → next_record default_config (state_within place) fields bytes [] ≡ Some (fields ++ bytes ∷ [], st.StartRecord, [])
unfolding next_record
at_end Start bytes fields = refl
at_end Bare bytes fields = refl
at_end Quoted bytes fields = refl
at_end Closed bytes fields = refl

at_comma : (place : Within) (bytes : List ℕ) (fields : Fields) (rest : List ℕ) → MayEnd place
    → next_record default_config (state_within place) fields bytes (44 ∷ rest) ≡ next_record default_config st.StartField (fields ++ bytes ∷ []) [] rest
unfolding next_record
at_comma Start bytes fields rest h = refl
at_comma Bare bytes fields rest h = refl
at_comma Quoted bytes fields rest h = absurd h
at_comma Closed bytes fields rest h = refl

at_feed : (place : Within) (bytes : List ℕ) (fields : Fields) (rest : List ℕ) → MayEnd place
    → next_record default_config (state_within place) fields bytes (10 ∷ rest) ≡ Some (fields ++ bytes ∷ [], st.StartRecord, rest)
unfolding next_record
at_feed Start bytes fields rest h = refl
at_feed Bare bytes fields rest h = refl
at_feed Quoted bytes fields rest h = absurd h
at_feed Closed bytes fields rest h = refl

at_return : (place : Within) (bytes : List ℕ) (fields : Fields) (rest : List ℕ) → MayEnd place
    → next_record default_config (state_within place) fields bytes (13 ∷ rest) ≡ Some (fields ++ bytes ∷ [], st.AfterCr, rest)
unfolding next_record
at_return Start bytes fields rest h = refl
at_return Bare bytes fields rest h = refl
at_return Quoted bytes fields rest h = absurd h
at_return Closed bytes fields rest h = refl

stands : (text : List ℕ) (end byte : ℕ) → end < length text → get_or text end 0 ≡ byte → drop end text ≡ byte ∷ drop (end + 1) text
stands text end byte lt e = drop_more text end 0 lt ∙ ap (λ b. b ∷ drop (end + 1) text) e

-- the last field of a text
pub last_field : (text : List ℕ) (fields : Fields) (at : ℕ) (bytes : List ℕ) (end : ℕ) → ReadsField text at bytes end → end ≡ length text
    → next_record default_config st.StartField fields [] (drop at text) ≡ Some (fields ++ bytes ∷ [], st.StartRecord, drop end text)
last_field text fields at bytes end field e =
    let none : drop end text ≡ [] = drop_all end text (omega (arith, e)) in
    field.read fields ∙ rw none (at_end field.place bytes fields)

-- the last field of a line
pub line_field : (text : List ℕ) (fields : Fields) (from at : ℕ) (bytes : List ℕ) (end : ℕ) → ReadsField text at bytes end → end < length text → get_or text end 0 ≢ 44
    → record_at text from ≡ next_record default_config st.StartField fields [] (drop at text) → EndsAt text from (fields ++ bytes ∷ []) (end + 1)
line_field text fields from at bytes end field lt other begun = by (field.stops lt)
  where
    by : StopsField (get_or text end 0) → EndsAt text from (fields ++ bytes ∷ []) (end + 1)
    by (inl comma) = absurd (other comma)
    by (inr (inl e)) = record {
      within = omega (arith, lt);
      state = st.StartRecord;
      between = inl refl;
      read = begun ∙ field.read fields ∙ rw (stands text end 10 lt e) (at_feed field.place bytes fields (drop (end + 1) text) (field.closed lt));
    }
    by (inr (inr e)) = record {
      within = omega (arith, lt);
      state = st.AfterCr;
      between = inr refl;
      read = begun ∙ field.read fields ∙ rw (stands text end 13 lt e) (at_return field.place bytes fields (drop (end + 1) text) (field.closed lt));
    }

-- a field before a comma
pub comma_field : (text : List ℕ) (fields : Fields) (at : ℕ) (bytes : List ℕ) (end : ℕ) → ReadsField text at bytes end → end < length text → get_or text end 0 ≡ 44
    → next_record default_config st.StartField fields [] (drop at text) ≡ next_record default_config st.StartField (fields ++ bytes ∷ []) [] (drop (end + 1) text)
comma_field text fields at bytes end field lt e = field.read fields ∙ rw (stands text end 44 lt e) (at_comma field.place bytes fields (drop (end + 1) text) (field.closed lt))

-- ---- records

-- one more record that was reached
pub reached_more : (cfg : Config) (s : State) (xs : List ℕ) (rows : List Fields) (s2 : State) (ys : List ℕ) (p : Read) → Reached cfg s xs rows s2 ys → next_record cfg s2 [] [] ys ≡ Some p
    → Reached cfg s xs (rows ++ p.0 ∷ []) p.1 p.2
unfolding Reached
reached_more cfg s xs [] s2 ys p h e = (p, rw h.0 (rw h.1 e), refl, (refl, refl))
reached_more cfg s xs (row ∷ rows) s2 ys p h e = (h.0, h.1, h.2, reached_more cfg h.0.1 h.0.2 rows s2 ys p h.3 e)
