-- Any bytes have an answer, and one alone.
use Rattle.std.proofs.Common.{◌≡◌, ◌≢◌, ◌⊎◌, ℕ, zero, suc, ◌<◌, ◌≤◌, Bool, true, false, List, [], ◌∷◌, length, take, refl, sym, ap, ◌∙◌, subst, inl, inr, arith}
use Rattle.std.proofs.lemmas.Bool.{cases_lt}
use Rattle.std.proofs.lemmas.Str.{IsUtf8-from_is_utf8, is_utf8-from_IsUtf8, IsUtf8-nil, utf8_valid_len-IsUtf8, utf8_valid_len-IsValidUpTo}
use Rattle.std.specs.Str.{IsUtf8, IsValidUpTo, is_utf8}
use Rattle.std.specs.declared.result.Result.{Result}
use Rattle.std.specs.declared.result.Result.TheVariants.{Ok, Err}
use Rattle.session_script.specs.declared.fault.ScriptFault.{ScriptFault}
use Rattle.session_script.specs.declared.fault.ScriptFault.TheVariants.{TooLong, NoText, NoQuery, TooMany, NoMemory}
use Rattle.session_script.specs.Answers.{AnswersAreOne, IsAnswer, IsNoText, IsScript, IsText, HasTooMany, ScriptsHaveAnswers, most_bytes, most_queries}
use Rattle.session_script.specs.Lines.{Line, queries_of}

-- ---- there is one

take_all : (xs : List ℕ) (n : ℕ) → length xs ≤ n → take n xs ≡ xs
take_all [] zero h = refl
take_all [] (suc n) h = refl
take_all (x ∷ xs) zero h = absurd (omega arith)
take_all (x ∷ xs) (suc n) h = ap (λ l. x ∷ l) (take_all xs n (omega arith))

-- the longest front of at most so many bytes that is a text
record IsLongest (script : List ℕ) (most n : ℕ) : Type 0 where
  within : n ≤ most
  front : IsUtf8 (take n script)
  longest : (m : ℕ) → n < m → m ≤ most → ¬ (IsUtf8 (take m script))

longer : (script : List ℕ) (most : ℕ) (test : Bool) → is_utf8 (take (suc most) script) ≡ test → ((n : ℕ) × IsLongest script most n) → (n : ℕ) × IsLongest script (suc most) n
longer script most true e shorter =
    (suc most, record { within = omega arith; front = IsUtf8-from_is_utf8 _ e; longest = λ m over small. absurd (omega arith) })
longer script most false e (n, is) =
    (n, record { within = let w = is.within in omega arith; front = is.front; longest = λ m over small utf8. by m over small utf8 (cases_lt m (suc most)) })
  where
    by : (m : ℕ) → n < m → m ≤ suc most → IsUtf8 (take m script) → (m < suc most) ⊎ (suc most ≤ m) → ⊥
    by m over small utf8 (inl less) = is.longest m over (omega arith) utf8
    by m over small utf8 (inr same) =
        let here : m ≡ suc most = omega arith in
        let yes : is_utf8 (take (suc most) script) ≡ true = is_utf8-from_IsUtf8 _ (subst (λ k. IsUtf8 (take k script)) here utf8) in
        let never : false ≡ true = sym e ∙ yes in cc

longest : (script : List ℕ) (most : ℕ) → (n : ℕ) × IsLongest script most n
longest script zero = (0, record { within = omega arith; front = IsUtf8-nil; longest = λ m over small. absurd (omega arith) })
longest script (suc most) = longer script most (is_utf8 (take (suc most) script)) refl (longest script most)

-- a byte of what is no text belongs to no character
first_bad : (script : List ℕ) → ¬ (IsUtf8 script) → (n : ℕ) × IsValidUpTo script n
first_bad script bad = let (n, is) = longest script (length script) in (n, by n is (cases_lt n (length script)))
  where
    by : (n : ℕ) → IsLongest script (length script) n → (n < length script) ⊎ (length script ≤ n) → IsValidUpTo script n
    by n is (inr all) = absurd (bad (subst IsUtf8 (take_all script n all) is.front))
    by n is (inl short) = record { short = short; front = is.front; longest = λ m over utf8. past m over utf8 (cases_lt (length script) m) }
      where
        past : (m : ℕ) → n < m → IsUtf8 (take m script) → (length script < m) ⊎ (m ≤ length script) → ⊥
        past m over utf8 (inl beyond) = bad (subst IsUtf8 (take_all script m (omega arith)) utf8)
        past m over utf8 (inr within) = is.longest m over within utf8

abbrev Answered : List ℕ → Type 0
Answered script = (answer : Result (List Line) ScriptFault) × IsAnswer script answer

by_queries : (script : List ℕ) → IsText script → (queries : List Line) → queries ≡ queries_of script → Answered script
by_queries script text [] e = (Err NoQuery, (text, sym e))
by_queries script text (query ∷ queries) e = by (cases_lt most_queries (length (query ∷ queries)))
  where
    by : (most_queries < length (query ∷ queries)) ⊎ (length (query ∷ queries) ≤ most_queries) → Answered script
    by (inl many) = (Err (TooMany (length (query ∷ queries))), record { is_text = text; all = ap length e; many = many })
    by (inr few) = (Ok (query ∷ queries), record { is_text = text; all = e; some = λ none. cc; few = few })

by_text : (script : List ℕ) → length script ≤ most_bytes → (test : Bool) → is_utf8 script ≡ test → Answered script
by_text script short true e = by_queries script (record { short = short; text = IsUtf8-from_is_utf8 script e }) (queries_of script) refl
by_text script short false e =
    let (at, first) = first_bad script (λ utf8. let never : false ≡ true = sym e ∙ is_utf8-from_IsUtf8 script utf8 in cc) in
    (Err (NoText at), record { short = short; first = first })

pub scripts_have_answers : ScriptsHaveAnswers
scripts_have_answers script = by (cases_lt most_bytes (length script))
  where
    by : (most_bytes < length script) ⊎ (length script ≤ most_bytes) → Answered script
    by (inl long) = (Err (TooLong most_bytes), (refl, long))
    by (inr short) = by_text script short (is_utf8 script) refl

-- ---- and one alone

-- the bytes are a text, or not
text_once : {A : Type 0} (script : List ℕ) (at : ℕ) → IsText script → IsNoText script at → A
text_once script at text bad =
    let whole = utf8_valid_len-IsUtf8 script text.text in
    let part = utf8_valid_len-IsValidUpTo script at bad.first in
    let short = bad.first.short in
    absurd (omega (arith, whole, part, short))

length_once : {A : Type 0} (script : List ℕ) → length script ≤ most_bytes → most_bytes < length script → A
length_once script short long = absurd (omega arith)

some_once : {A : Type 0} (script : List ℕ) → queries_of script ≡ [] → (queries : List Line) → queries ≡ queries_of script → queries ≢ [] → A
some_once script none queries all some = absurd (some (all ∙ none))

none_many : {A : Type 0} (script : List ℕ) (count : ℕ) → queries_of script ≡ [] → HasTooMany script count → A
none_many script count none is =
    let zero_is : count ≡ 0 = is.all ∙ ap length none in
    let many = is.many in
    absurd (omega (arith, zero_is, many))

few_many : {A : Type 0} (script : List ℕ) (queries : List Line) (count : ℕ) → IsScript script queries → HasTooMany script count → A
few_many script queries count few many =
    let same : count ≡ length queries = many.all ∙ ap length (sym few.all) in
    let a = few.few in
    let b = many.many in
    absurd (omega (arith, same, a, b))

pub answers_are_one : AnswersAreOne
answers_are_one script (Ok a) (Ok b) x y = ap Ok (x.all ∙ sym y.all)
answers_are_one script (Ok a) (Err (TooLong limit)) x y = length_once script x.is_text.short y.1
answers_are_one script (Ok a) (Err (NoText at)) x y = text_once script at x.is_text y
answers_are_one script (Ok a) (Err NoQuery) x y = some_once script y.1 a x.all x.some
answers_are_one script (Ok a) (Err (TooMany count)) x y = few_many script a count x y
answers_are_one script (Ok a) (Err NoMemory) x y = absurd y
answers_are_one script (Err (TooLong limit)) (Ok b) x y = length_once script y.is_text.short x.1
answers_are_one script (Err (TooLong limit)) (Err (TooLong other)) x y = ap (λ n. Err (TooLong n)) (x.0 ∙ sym y.0)
answers_are_one script (Err (TooLong limit)) (Err (NoText at)) x y = length_once script y.short x.1
answers_are_one script (Err (TooLong limit)) (Err NoQuery) x y = length_once script y.0.short x.1
answers_are_one script (Err (TooLong limit)) (Err (TooMany count)) x y = length_once script y.is_text.short x.1
answers_are_one script (Err (TooLong limit)) (Err NoMemory) x y = absurd y
answers_are_one script (Err (NoText at)) (Ok b) x y = text_once script at y.is_text x
answers_are_one script (Err (NoText at)) (Err (TooLong limit)) x y = length_once script x.short y.1
answers_are_one script (Err (NoText at)) (Err (NoText other)) x y =
    ap (λ n. Err (NoText n)) (sym (utf8_valid_len-IsValidUpTo script at x.first) ∙ utf8_valid_len-IsValidUpTo script other y.first)
answers_are_one script (Err (NoText at)) (Err NoQuery) x y = text_once script at y.0 x
answers_are_one script (Err (NoText at)) (Err (TooMany count)) x y = text_once script at y.is_text x
answers_are_one script (Err (NoText at)) (Err NoMemory) x y = absurd y
answers_are_one script (Err NoQuery) (Ok b) x y = some_once script x.1 b y.all y.some
answers_are_one script (Err NoQuery) (Err (TooLong limit)) x y = length_once script x.0.short y.1
answers_are_one script (Err NoQuery) (Err (NoText at)) x y = text_once script at x.0 y
answers_are_one script (Err NoQuery) (Err NoQuery) x y = refl
answers_are_one script (Err NoQuery) (Err (TooMany count)) x y = none_many script count x.1 y
answers_are_one script (Err NoQuery) (Err NoMemory) x y = absurd y
answers_are_one script (Err (TooMany count)) (Ok b) x y = few_many script b count y x
answers_are_one script (Err (TooMany count)) (Err (TooLong limit)) x y = length_once script x.is_text.short y.1
answers_are_one script (Err (TooMany count)) (Err (NoText at)) x y = text_once script at x.is_text y
answers_are_one script (Err (TooMany count)) (Err NoQuery) x y = none_many script count y.1 x
answers_are_one script (Err (TooMany count)) (Err (TooMany other)) x y = ap (λ n. Err (TooMany n)) (x.all ∙ sym y.all)
answers_are_one script (Err (TooMany count)) (Err NoMemory) x y = absurd y
answers_are_one script (Err NoMemory) b x y = absurd x
