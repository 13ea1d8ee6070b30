-- Each word has an answer, and one alone.
use Rattle.std.proofs.Common.{◌≡◌, ◌⊎◌, ℕ, zero, suc, ◌+◌, ◌<◌, ◌≤◌, ◌==◌, true, cond, List, [], ◌∷◌, ◌++◌, length, get_or, take, refl, sym, ap, ◌∙◌, subst, inl, inr, arith, count_by, length-append}
use Rattle.std.proofs.lemmas.Bool.{cases_lt}
use Rattle.std.proofs.lemmas.Bool.Decides.{nat_tests}
use Rattle.std.proofs.lemmas.List.{length-map}
use Rattle.std.proofs.lemmas.List.Sums.{count_by_more_yes, sum_by-take-le}
use Rattle.std.specs.declared.result.Result.{Result}
use Rattle.std.specs.declared.result.Result.TheVariants.{Ok, Err}
use Rattle.daq_table.specs.Tables.{ends_at, frame_of}
use Rattle.daq_table.specs.declared.table_head.Head.{Head}
use Rattle.query_model.specs.Validity.{IsValid}
use Rattle.query_model.specs.Queries.{Query}
use Rattle.plane_reads.specs.declared.fault.ReadsFault.{ReadsFault}
use Rattle.plane_reads.specs.declared.fault.ReadsFault.TheVariants.{UnknownName, PastEnd, NoMemory}
use Rattle.plane_reads.specs.Next.{planes_at}
use Rattle.plane_reads.specs.Reads.{AnswersAreOne, AreAllReads, AreFirstReads, IsAnswer, IsNamed, IsPastEnd, IsUnknownName, WordsHaveAnswers, name_at, names_of}
use Rattle.plane_reads.proofs.FirstReads.{none_yet, one_more, past_end, unknown_name}
use Rattle.plane_reads.proofs.Naming.{named_or_not, one_column}

-- ---- there is one

-- the number is that of the names that are left
seek : (word : List ℕ) (query : Query) (head : Head) (left : ℕ) (columns : List ℕ) → AreFirstReads word query head columns → length columns + left ≡ length (names_of word) →
    (answer : Result (List ℕ) ReadsFault) × IsAnswer word query head answer
seek word query head zero columns first e = (Ok columns, record { first = first; all = omega (arith, e) })
seek word query head (suc left) columns first e = by (λ c next. seek word query head left (columns ++ c ∷ []) next) (named_or_not query head (name_at word (length columns)))
  where
    Answered : Type 0
    Answered = (answer : Result (List ℕ) ReadsFault) × IsAnswer word query head answer

    more : length columns < length (names_of word)
    more = omega (arith, e)

    by : ((c : ℕ) → AreFirstReads word query head (columns ++ c ∷ []) → length (columns ++ c ∷ []) + left ≡ length (names_of word) → Answered) →
        ((c : ℕ) × IsNamed query head c (name_at word (length columns))) ⊎ ((c : ℕ) → ¬ IsNamed query head c (name_at word (length columns))) → Answered
    by later (inr none) = (Err (UnknownName (length columns)), unknown_name word query head columns first more none)
    by later (inl (c, is)) = at (cases_lt (count_by (λ d. d == c) columns) (planes_at query head c))
      where
        at : ((count_by (λ d. d == c) columns < planes_at query head c) ⊎ (planes_at query head c ≤ count_by (λ d. d == c) columns)) → Answered
        at (inl left) = later c (one_more word query head columns c first more (record { named = is; left = left })) (let long : length (columns ++ c ∷ []) ≡ length columns + 1 = length-append columns (c ∷ []) in omega (arith, e, long))
        at (inr ended) = (Err (PastEnd (length columns)), past_end word query head columns c first more (record { named = is; ended = ended }))

pub words_have_answers : WordsHaveAnswers
words_have_answers word query head valid = seek word query head (length (names_of word)) [] (none_yet word query head) (omega arith)

-- ---- and one alone

take_all : (xs : List ℕ) (n : ℕ) → n ≡ length xs → take n xs ≡ xs
take_all [] zero h = refl
take_all [] (suc n) h = absurd (omega arith)
take_all (x ∷ xs) zero h = absurd (omega arith)
take_all (x ∷ xs) (suc n) h = ap (λ l. x ∷ l) (take_all xs n (omega arith))

take_more : (xs : List ℕ) (n : ℕ) → n < length xs → take (suc n) xs ≡ take n xs ++ get_or xs n 0 ∷ []
take_more [] n h = absurd (omega arith)
take_more (x ∷ xs) zero h = refl
take_more (x ∷ xs) (suc n) h = ap (λ l. x ∷ l) (take_more xs n (omega arith))

is_same : (a : ℕ) → (a == a) ≡ true
is_same a = grind (arith, nat_tests)

more_there : (list : List ℕ) (i c : ℕ) → i < length list → get_or list i 0 ≡ c → count_by (λ d. d == c) (take i list) < count_by (λ d. d == c) list
more_there list i c h is =
    let one = count_by_more_yes (λ d. d == c) list i 0 h (subst (λ k. (k == c) ≡ true) (sym is) (is_same c)) in
    let few = sum_by-take-le (λ d. cond (d == c) 1 0) list (i + 1) in
    omega (arith, one, few)

module _ (word : List ℕ) (query : Query) (head : Head) (valid : IsValid head query) where
  same_first : (a b : List ℕ) → AreFirstReads word query head a → AreFirstReads word query head b → (n : ℕ) → n ≤ length a → n ≤ length b → take n a ≡ take n b
  same_first a b fa fb zero h k = refl
  same_first a b fa fb (suc n) h k =
      let before = same_first a b fa fb n (omega arith) (omega arith) in
      let here : get_or a n 0 ≡ get_or b n 0 = one_column query head valid (name_at word n) (get_or a n 0) (get_or b n 0) (fa.named n (omega arith)) (fb.named n (omega arith)) in
      take_more a n (omega arith) ∙ ap (λ l. l ++ get_or a n 0 ∷ []) before ∙ ap (λ x. take n b ++ x ∷ []) here ∙ sym (take_more b n (omega arith))

  -- the names up to a place are read, and none goes past it
  record Stops (place : ℕ) : Type 0 where
    before : List ℕ
    first : AreFirstReads word query head before
    place_is : place ≡ length before
    within : place < length (names_of word)
    stops : (xs : List ℕ) → AreFirstReads word query head xs → place < length xs → ⊥

  unknown_stops : (place : ℕ) → IsUnknownName word query head place → Stops place
  unknown_stops place u = record { before = u.before; first = u.first; place_is = u.place_is; within = u.within; stops = λ xs f h. u.unknown (get_or xs place 0) (f.named place h) }

  ended_stops : (place : ℕ) → IsPastEnd word query head place → Stops place
  ended_stops place e = record {
    before = e.before;
    first = e.first;
    place_is = e.place_is;
    within = e.within;
    stops = λ xs f h. (
        let c : ℕ = e.column in
        let here : get_or xs place 0 ≡ c = one_column query head valid (name_at word place) (get_or xs place 0) c (f.named place h) e.named in
        let known = e.place_is in
        let same : e.before ≡ take place xs = sym (take_all e.before place e.place_is) ∙ same_first e.before xs e.first f place (omega (arith, known)) (omega (arith, h)) in
        let fewer = more_there xs place c h here in
        let counted : count_by (λ d. d == c) (take place xs) ≡ planes_at query head c = ap (count_by (λ d. d == c)) (sym same) ∙ e.ended in
        let few = f.readable.few c (subst (λ n. c < n) (sym (length-map query.columns (ends_at (frame_of head)))) e.named.in_query) in
        omega (arith, fewer, counted, few));
  }

  one_place : (p q : ℕ) → Stops p → Stops q → p ≡ q
  one_place p q sp sq = by (cases_lt p q) (cases_lt q p)
    where
      by : ((p < q) ⊎ (q ≤ p)) → ((q < p) ⊎ (p ≤ q)) → p ≡ q
      by (inl less) other = absurd (sp.stops sq.before sq.first (let k = sq.place_is in omega (arith, less, k)))
      by (inr k) (inl less) = absurd (sq.stops sp.before sp.first (let l = sp.place_is in omega (arith, less, l)))
      by (inr k) (inr l) = omega (arith, k, l)

  not_all : (place : ℕ) (xs : List ℕ) → Stops place → AreAllReads word query head xs → ⊥
  not_all place xs s all = s.stops xs all.first (let w = s.within in let a = all.all in omega (arith, w, a))

  not_both : (p q : ℕ) → IsUnknownName word query head p → IsPastEnd word query head q → ⊥
  not_both p q u e =
      let same : q ≡ p = one_place q p (ended_stops q e) (unknown_stops p u) in
      u.unknown e.column (subst (λ n. IsNamed query head e.column (name_at word n)) same e.named)

  one_list : (a b : List ℕ) → AreAllReads word query head a → AreAllReads word query head b → a ≡ b
  one_list a b aa ab =
      let long = aa.all in
      let long' = ab.all in
      sym (take_all a (length a) refl) ∙ same_first a b aa.first ab.first (length a) (omega arith) (omega (arith, long, long')) ∙ take_all b (length a) (omega (arith, long, long'))

  pub one_answer : (a b : Result (List ℕ) ReadsFault) → IsAnswer word query head a → IsAnswer word query head b → a ≡ b
  one_answer (Ok a) (Ok b) x y = ap Ok (one_list a b x y)
  one_answer (Ok a) (Err (UnknownName q)) x y = absurd (not_all q a (unknown_stops q y) x)
  one_answer (Ok a) (Err (PastEnd q)) x y = absurd (not_all q a (ended_stops q y) x)
  one_answer (Ok a) (Err NoMemory) x y = absurd y
  one_answer (Err (UnknownName p)) (Ok b) x y = absurd (not_all p b (unknown_stops p x) y)
  one_answer (Err (UnknownName p)) (Err (UnknownName q)) x y = ap (λ n. Err (UnknownName n)) (one_place p q (unknown_stops p x) (unknown_stops q y))
  one_answer (Err (UnknownName p)) (Err (PastEnd q)) x y = absurd (not_both p q x y)
  one_answer (Err (UnknownName p)) (Err NoMemory) x y = absurd y
  one_answer (Err (PastEnd p)) (Ok b) x y = absurd (not_all p b (ended_stops p x) y)
  one_answer (Err (PastEnd p)) (Err (UnknownName q)) x y = absurd (not_both q p y x)
  one_answer (Err (PastEnd p)) (Err (PastEnd q)) x y = ap (λ n. Err (PastEnd n)) (one_place p q (ended_stops p x) (ended_stops q y))
  one_answer (Err (PastEnd p)) (Err NoMemory) x y = absurd y
  one_answer (Err NoMemory) b x y = absurd x

pub answers_are_one : AnswersAreOne
answers_are_one word query head a b valid = one_answer word query head valid a b
