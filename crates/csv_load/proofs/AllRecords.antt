-- Each text is read to its end: it has records, and begins with the first of them.
use Rattle.std.proofs.Common.{◌≡◌, ℕ, zero, suc, ◌<◌, ◌≤◌, Bool, true, false, if◌then◌else◌, Option, Some, None, List, [], ◌∷◌, ◌++◌, length, refl, sym, ap, inl, inr, ◌⊎◌, arith}
use Rattle.std.proofs.lemmas.Option.{same_Some}
use Rattle.csv.specs.Machine.{Read, fields_after, field_after, next_record, step}
use Rattle.csv.specs.Reading.{AreRecords, Reached, default_config}
use Rattle.csv.specs.declared.parser.Config.{Config}
use Rattle.csv.specs.declared.parser.State.{State}
use Rattle.csv.specs.declared.parser.State.TheVariants as st
use Rattle.csv_load.specs.Records.{AreRecordsOf, Begins, Fields, without_marks}

one_less : (rest : List ℕ) (c : ℕ) → length rest < length (c ∷ rest)
one_less rest c = omega arith

-- a record leaves fewer bytes, or the text is at its end
abbrev Leaves : Read → List ℕ → Type 0
Leaves p xs = (length p.2 < length xs) ⊎ ((p.1 ≡ st.StartRecord) × (p.2 ≡ []))

ended_here : (b : Bool) (q p : Read) → (if b then Some q else None) ≡ Some p → q ≡ p
ended_here true q p e = same_Some q p e
ended_here false q p e = absurd cc

here_or_later : {X : Type 0} (b : Bool) (q p : Read) (o : Option Read) → (if b then Some q else o) ≡ Some p → (q ≡ p → X) → (o ≡ Some p → X) → X
here_or_later true q p o e f g = f (same_Some q p e)
here_or_later false q p o e f g = g e

shorter : (n m k : ℕ) → n ≡ m → m < k → n < k
shorter n m k e lt = omega (arith, e, lt)

leaves : (cfg : Config) (s : State) (fields : List (List ℕ)) (field xs : List ℕ) (p : Read) → next_record cfg s fields field xs ≡ Some p → Leaves p xs
unfolding next_record
leaves cfg s fields field [] p e =
    let same = ended_here _ _ p e in
    inr (sym (ap (λ (r : Read). r.1) same), sym (ap (λ (r : Read). r.2) same))
leaves cfg s fields field (c ∷ rest) p e =
    here_or_later _ _ p _ e
    (λ same. inl (shorter (length p.2) (length rest) (length (c ∷ rest)) (sym (ap (λ (r : Read). length r.2) same)) (one_less rest c)))
    (λ later.
    elim (leaves cfg (step cfg s c).0 (fields_after (step cfg s c).1 fields field) (field_after (step cfg s c).1 c field) rest p later) [
      | inl lt ↦ inl (omega (arith, lt))
      | inr end ↦ inr end
    ])

none_left : (cfg : Config) (s : State) (xs : List ℕ) → s ≡ st.StartRecord → xs ≡ [] → next_record cfg s [] [] xs ≡ None
unfolding next_record
none_left cfg s xs e f = rw (e, f) refl

-- all records of the bytes from a state
abbrev HasRecords : Config → State → List ℕ → Type 0
HasRecords cfg s xs = (rows : List Fields) × AreRecords cfg s xs rows

record_before : (cfg : Config) (s : State) (xs : List ℕ) (p : Read) → next_record cfg s [] [] xs ≡ Some p → HasRecords cfg p.1 p.2 → HasRecords cfg s xs
unfolding Reached
record_before cfg s xs p e r = (p.0 ∷ r.0, (r.1.0, r.1.1, (p, e, refl, r.1.2), r.1.3))

at_end : (cfg : Config) (s : State) (xs : List ℕ) → next_record cfg s [] [] xs ≡ None → HasRecords cfg s xs
unfolding Reached
at_end cfg s xs e = ([], (s, xs, (refl, refl), e))

by_next : (cfg : Config) (s : State) (xs : List ℕ) → ((p : Read) → length p.2 < length xs → HasRecords cfg p.1 p.2) → (o : Option Read) → next_record cfg s [] [] xs ≡ o → HasRecords cfg s xs
by_next cfg s xs further None e = at_end cfg s xs e
by_next cfg s xs further (Some p) e =
    record_before cfg s xs p e (elim (leaves cfg s [] [] xs p e) [ inl lt ↦ further p lt | inr end ↦ at_end cfg p.1 p.2 (none_left cfg p.1 p.2 end.0 end.1) ])

records_within : (cfg : Config) (n : ℕ) (s : State) (xs : List ℕ) → length xs ≤ n → HasRecords cfg s xs
records_within cfg zero s xs le = by_next cfg s xs (λ p lt. absurd (omega (arith, le, lt))) (next_record cfg s [] [] xs) refl
records_within cfg (suc n) s xs le = by_next cfg s xs (λ p lt. records_within cfg n p.1 p.2 (omega (arith, le, lt))) (next_record cfg s [] [] xs) refl

pub all_records : (bytes : List ℕ) → (records : List Fields) × AreRecordsOf bytes records
all_records bytes = records_within default_config (length (without_marks bytes)) st.StartRecord (without_marks bytes) (omega arith)

reached_part : (cfg : Config) (s s2 : State) (xs ys : List ℕ) (us vs : List Fields) → Reached cfg s xs (us ++ vs) s2 ys → (s1 : State) × (zs : List ℕ) × Reached cfg s xs us s1 zs
unfolding Reached
reached_part cfg s s2 xs ys [] vs h = (s, xs, (refl, refl))
reached_part cfg s s2 xs ys (u ∷ us) vs h =
    let rest = reached_part cfg h.0.1 s2 h.0.2 ys us vs h.3 in
    (rest.0, rest.1, (h.0, h.1, h.2, rest.2))

pub begins_with : (bytes : List ℕ) (us vs : List Fields) → AreRecordsOf bytes (us ++ vs) → Begins bytes us
begins_with bytes us vs h =
    let part = reached_part default_config st.StartRecord h.0 (without_marks bytes) h.1 us vs h.2 in
    record { state = part.0; rest = part.1; reached = part.2 }
