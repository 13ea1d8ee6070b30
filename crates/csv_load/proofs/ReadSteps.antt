-- What is known of a CSV after so many of its records, and what one more tells.
use Rattle.std.proofs.Common.{◌≡◌, ◌≢◌, ◌⊎◌, ℕ, ◌+◌, ◌-◌, ◌≤◌, List, [], ◌∷◌, ◌++◌, Option, None, Some, drop, length, length-append, refl, sym, subst, inl, inr, ◌∙◌, arith}
use Rattle.std.proofs.lemmas.List.{nil_from_length}
use Rattle.csv.specs.Reading.{Reached, default_config}
use Rattle.csv.specs.declared.parser.State.{State}
use Rattle.csv.specs.declared.parser.State.TheVariants as st
use Rattle.daq_table.specs.Schemas.{columns_in}
use Rattle.daq_table.specs.declared.schema_item.SchemaItem.{SchemaItem}
use Rattle.csv_load.specs.Faults.{Refuses}
use Rattle.csv_load.specs.Lines.{EndsAt, IsBetween, record_at}
use Rattle.csv_load.specs.Records.{AreRecordsOf, Begins, Fields, without_marks}
use Rattle.csv_load.specs.States.{AreStates, HasRead, HasTaken, RefusesNext, TakesNext, TakesSome}
use Rattle.csv_load.specs.States as States
use Rattle.csv_load.specs.declared.fault.TableFault.{TableFault}
use Rattle.csv_load.specs.declared.fault.TableFault.TheVariants.{NoMemory}
use Rattle.csv_load.specs.declared.limits.Limits.{Limits}
use Rattle.csv_load.proofs.LineFacts.{reached_more, same_between}
use Rattle.csv_load.proofs.RecordSteps.{read_whole, refused_at, taken_at, taken_bound, taken_wide}

-- the text was read to a place between records, and so many were taken
pub record HasReadTo (bytes : List ℕ) (items : List SchemaItem) (limits : Limits) (text : List ℕ) (from count : ℕ) (states : List States.State) : Type 0 where
  pub text_is : text ≡ without_marks bytes
  pub within : from ≤ length text
  pub records : List Fields
  pub state : State
  pub between : IsBetween state
  pub reached : Reached default_config st.StartRecord (without_marks bytes) records state (drop from text)
  pub count_is : length records ≡ count
  pub taken : HasTaken items limits records states

pub none_read : (bytes : List ℕ) (items : List SchemaItem) (limits : Limits) (text : List ℕ) (states : List States.State) → text ≡ without_marks bytes → AreStates (columns_in items) [] states
    → HasReadTo bytes items limits text 0 0 states
unfolding Reached
none_read bytes items limits text states is h = record {
  text_is = is;
  within = omega arith;
  records = [];
  state = st.StartRecord;
  between = inl refl;
  reached = (refl, sym is);
  count_is = refl;
  taken = h;
}

module _ (bytes : List ℕ) (items : List SchemaItem) (limits : Limits) (text : List ℕ) (from count : ℕ) (old : List States.State) (h : HasReadTo bytes items limits text from count old) where
  -- what is reached with the next record
  next_reached : (fields : Fields) (next : ℕ) (ends : EndsAt text from fields next) → Reached default_config st.StartRecord (without_marks bytes) (h.records ++ fields ∷ []) ends.state (drop next text)
  next_reached fields next ends =
      reached_more default_config st.StartRecord (without_marks bytes) h.records h.state (drop from text) (fields, ends.state, drop next text) h.reached (same_between h.state h.between (drop from text) ∙ ends.read)

  pub one_more : (now : List States.State) (next : ℕ) (new : List States.State) → now ≡ old → TakesNext items limits count text from now next new → HasReadTo bytes items limits text next (count + 1) new
  one_more now next new is t = record {
    text_is = h.text_is;
    within = t.ends.within;
    records = h.records ++ t.fields ∷ [];
    state = t.ends.state;
    between = t.ends.between;
    reached = next_reached t.fields next t.ends;
    count_is = omega (arith, length-append h.records (t.fields ∷ []), h.count_is);
    taken = taken_at items limits h.records count old now new t.fields h.taken h.count_is is t.takes;
  }

  pub next_refused : (now : List States.State) (fault : TableFault) → now ≡ old → (fault ≡ NoMemory) ⊎ RefusesNext items limits count text from now fault → Refuses bytes items limits fault
  next_refused now fault is (inl e) = rw e tt
  next_refused now fault is (inr r) =
      let begins : Begins bytes (h.records ++ r.fields ∷ []) = record { state = r.ends.state; rest = drop r.next text; reached = next_reached r.fields r.next r.ends } in
      refused_at bytes items limits h.records count old now r.fields fault h.taken h.count_is is begins r.refuses

  pub count_bound : count ≤ limits.rows + 1
  count_bound = subst (λ n. n ≤ limits.rows + 1) h.count_is (taken_bound items limits h.records old h.taken)

  pub states_wide : length old ≡ length (columns_in items)
  states_wide = taken_wide items limits h.records old h.taken

  -- where there is no further record
  all_read : record_at text from ≡ None → AreRecordsOf bytes h.records
  all_read none = (h.state, drop from text, h.reached, same_between h.state h.between (drop from text) ∙ none)

  pub no_header : record_at text from ≡ None → count ≡ 0 → AreRecordsOf bytes []
  no_header none zero = subst (AreRecordsOf bytes) (nil_from_length h.records (h.count_is ∙ zero)) (all_read none)

  pub whole_read : record_at text from ≡ None → count ≢ 0 → HasRead bytes items limits (count - 1) old
  whole_read none some = subst (λ n. HasRead bytes items limits (n - 1) old) h.count_is (read_whole bytes items limits h.records old h.taken (λ e. some (sym h.count_is ∙ e)) (all_read none))

-- where no record was taken, there is no further one
pub none_taken : (items : List SchemaItem) (limits : Limits) (count : ℕ) (text : List ℕ) (from : ℕ) (old new : List States.State) (found : Option ℕ)
    → ((next : ℕ) → found ≡ Some next → ⊥) → TakesSome items limits count text from old new found → (record_at text from ≡ None) × (new ≡ old)
none_taken items limits count text from old new None other h = h
none_taken items limits count text from old new (Some next) other h = absurd (other next refl)
