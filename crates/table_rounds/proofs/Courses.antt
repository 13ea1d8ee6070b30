-- Laws of courses of reads: one more, one list, one outcome, and that there is one.
use Rattle.std.proofs.Common.{◌≡◌, ◌≢◌, ◌&&◌, Bool, true, false, if◌then◌else◌, ◌⊎◌, inl, inr, ℕ, zero, suc, ◌+◌, ◌<◌, ◌≤◌, ◌==◌, List, [], ◌∷◌, ◌++◌, length, get_or, take, count_by, refl, sym, ap, ◌∙◌, subst, arith, IsNone, IsSome, Option, length-append, append_assoc, append-nil}
use Rattle.std.proofs.KnownBytes.{Appends-trans}
use Rattle.std.proofs.lemmas.Bool.{cases_Bool, cases_eq, cases_lt, false≢true}
use Rattle.std.proofs.lemmas.Bool.Decides.{nat_tests}
use Rattle.std.proofs.lemmas.List.{take-append-le}
use Rattle.std.specs.Io.KnownBytes.{Appends}
use Rattle.std.specs.Option.{is_some}
use Rattle.multi_session.proofs.Named.{get_last}
use Rattle.plane_schedule.proofs.Same.{AreSame, same_choice, unread_there}
use Rattle.plane_schedule.proofs.Same.{turned as turned_outlook}
use Rattle.plane_schedule.specs.Choices.{Chooses, HasChoice, IsSound, Outlook, outlook_of}
use Rattle.plane_schedule.specs.Laws.{ChoicesAreOne}
use Rattle.plane_schedule.specs.declared.progress.Progress.{Progress}
use Rattle.table_rounds.specs.Courses.{AreAllReads, AreReads, Course, HaveSameRead, IsBefore, IsFollowed, IsRefused, Tells, number_after}
use Rattle.table_rounds.specs.Outcomes.{ComeTo, EndIn, Outcome, ended, refused, unreadable}
use Rattle.table_rounds.specs.Courses.{OfEach, OfPlanes, OfRound, Places, places_after, places_of}

-- ---- lists that begin alike

pub get_before : (xs ys : List ℕ) (n : ℕ) → n < length xs → get_or (xs ++ ys) n 0 ≡ get_or xs n 0
get_before [] ys n h = absurd (omega arith)
get_before (x ∷ xs) ys zero h = refl
get_before (x ∷ xs) ys (suc n) h = get_before xs ys n (omega arith)

-- the first so many of both are the same
pub record BeginAlike (a b : List ℕ) (n : ℕ) : Type 0 where
  pub in_a : n ≤ length a
  pub in_b : n ≤ length b
  pub same : (k : ℕ) → k < n → get_or a k 0 ≡ get_or b k 0

pub turned : (a b : List ℕ) (n : ℕ) → BeginAlike a b n → BeginAlike b a n
turned a b n alike = record { in_a = alike.in_b; in_b = alike.in_a; same = λ k h. sym (alike.same k h) }

pub before_more : (reads more : List ℕ) (n : ℕ) → n ≤ length reads → BeginAlike (reads ++ more) reads n
before_more reads more n h = record {
  in_a = (let long = length-append reads more in omega (arith, long, h));
  in_b = h;
  same = λ k less. get_before reads more k (omega (arith, h, less));
}

pub same_take : (a b : List ℕ) (n : ℕ) → BeginAlike a b n → take n a ≡ take n b
same_take a b n alike = by a b n alike.in_a alike.in_b alike.same
  where
    by : (a b : List ℕ) (n : ℕ) → n ≤ length a → n ≤ length b → ((k : ℕ) → k < n → get_or a k 0 ≡ get_or b k 0) → take n a ≡ take n b
    by a b zero h k same = refl
    by [] b (suc n) h k same = absurd (omega (arith, h))
    by (x ∷ xs) [] (suc n) h k same = absurd (omega (arith, k))
    by (x ∷ xs) (y ∷ ys) (suc n) h k same =
        ap (λ z. z ∷ take n xs) (same 0 (omega arith)) ∙ ap (λ l. y ∷ l) (by xs ys n (omega (arith, h)) (omega (arith, k)) (λ i less. same (suc i) (omega (arith, less))))

pub same_list : (a b : List ℕ) → length a ≡ length b → ((k : ℕ) → k < length a → get_or a k 0 ≡ get_or b k 0) → a ≡ b
same_list [] [] long same = refl
same_list [] (y ∷ ys) long same = absurd (omega (arith, long))
same_list (x ∷ xs) [] long same = absurd (omega (arith, long))
same_list (x ∷ xs) (y ∷ ys) long same =
    ap (λ z. z ∷ xs) (same 0 (omega arith)) ∙ ap (λ l. y ∷ l) (same_list xs ys (omega (arith, long)) (λ i less. same (suc i) (omega (arith, less))))

-- later reads change no number of a plane
pub number_before : (reads more : List ℕ) (round column : ℕ) → round ≤ length reads → number_after (reads ++ more) round column ≡ number_after reads round column
number_before reads more round column h = ap (count_by (λ c. c == column)) (take-append-le round reads more h)

-- ---- what is asked of a course

-- it goes by the reads so far alone; and a plane that is refused is refused at one row, and leaves a prefix that is not legal
pub record IsLawful (course : Course) : Type 0 where
  pub ending : (a b : List ℕ) (n : ℕ) → BeginAlike a b n → course.ending a n ≡ course.ending b n
  pub outlook : (a b : List ℕ) (n : ℕ) → BeginAlike a b n → course.outlook a n ≡ course.outlook b n
  pub legal : (a b : List ℕ) (n : ℕ) → BeginAlike a b n → course.legal a n → course.legal b n
  pub illegal : (reads : List ℕ) (c row : ℕ) → IsFollowed course reads c → course.over reads c row → course.legal (reads ++ c ∷ []) (length reads + 1) → ⊥
  pub one_row : (reads : List ℕ) (c a b : ℕ) → IsFollowed course reads c → course.over reads c a → course.over reads c b → a ≡ b

-- it has so many planes, its policy chooses a column while it goes on, and that column's next plane is refused or read
pub record GoesOn (course : Course) : Type 0 where
  pub most : ℕ
  pub few : (reads : List ℕ) → AreReads course reads → length reads ≤ most
  pub chooses : (reads : List ℕ) → AreReads course reads → IsNone (course.ending reads (length reads)) → HasChoice course.policy (course.outlook reads (length reads))
  pub further : (reads : List ℕ) (c : ℕ) → IsFollowed course reads c → ((column plane row : ℕ) × IsRefused course reads column plane row) ⊎ AreReads course (reads ++ c ∷ [])

-- ---- one round more

module _ (course : Course) (law : IsLawful course) (reads : List ℕ) (c : ℕ) where
  pub one_more : IsFollowed course reads c → course.legal (reads ++ c ∷ []) (length reads + 1) → AreReads course (reads ++ c ∷ [])
  one_more followed legal = record {
    going = λ round h. at_going round h (cases_lt round (length reads));
    chosen = λ round h. at_chosen round h (cases_lt round (length reads));
    legal = λ round h. at_legal round h (cases_lt (length reads) round);
  }
    where
      long : length (reads ++ c ∷ []) ≡ length reads + 1
      long = length-append reads (c ∷ [])

      before : (round : ℕ) → round ≤ length reads → BeginAlike reads (reads ++ c ∷ []) round
      before round h = turned (reads ++ c ∷ []) reads round (before_more reads (c ∷ []) round h)

      last : (round : ℕ) → round < length (reads ++ c ∷ []) → length reads ≤ round → length reads ≡ round
      last round h k = omega (arith, long, h, k)

      at_going : (round : ℕ) → round < length (reads ++ c ∷ []) → ((round < length reads) ⊎ (length reads ≤ round)) → IsNone (course.ending (reads ++ c ∷ []) round)
      at_going round h (inl less) = subst IsNone (law.ending reads (reads ++ c ∷ []) round (before round (omega (arith, less)))) (followed.rounds.going round less)
      at_going round h (inr k) =
          subst (λ n. IsNone (course.ending (reads ++ c ∷ []) n)) (last round h k) (subst IsNone (law.ending reads (reads ++ c ∷ []) (length reads) (before (length reads) (omega arith))) followed.going)

      at_chosen : (round : ℕ) → round < length (reads ++ c ∷ []) → ((round < length reads) ⊎ (length reads ≤ round)) → Chooses course.policy (course.outlook (reads ++ c ∷ []) round) (get_or (reads ++ c ∷ []) round 0)
      at_chosen round h (inl less) =
          subst (λ o. Chooses course.policy o (get_or (reads ++ c ∷ []) round 0)) (law.outlook reads (reads ++ c ∷ []) round (before round (omega (arith, less))))
          (subst (Chooses course.policy (course.outlook reads round)) (sym (get_before reads (c ∷ []) round less)) (followed.rounds.chosen round less))
      at_chosen round h (inr k) =
          subst (λ n. Chooses course.policy (course.outlook (reads ++ c ∷ []) n) (get_or (reads ++ c ∷ []) n 0)) (last round h k)
          (subst (λ o. Chooses course.policy o (get_or (reads ++ c ∷ []) (length reads) 0)) (law.outlook reads (reads ++ c ∷ []) (length reads) (before (length reads) (omega arith)))
          (subst (Chooses course.policy (course.outlook reads (length reads))) (sym (get_last reads c (length reads) refl)) followed.chosen))

      at_legal : (round : ℕ) → round ≤ length (reads ++ c ∷ []) → ((length reads < round) ⊎ (round ≤ length reads)) → course.legal (reads ++ c ∷ []) round
      at_legal round h (inl k) = let e : length reads + 1 ≡ round = omega (arith, long, h, k) in subst (course.legal (reads ++ c ∷ [])) e legal
      at_legal round h (inr k) = law.legal reads (reads ++ c ∷ []) round (before round k) (followed.rounds.legal round k)

-- ---- what holds of each plane that was read, and where they lie

pub each_of_none : (P : OfPlanes) (course : Course) → OfEach P course []
each_of_none P course = λ round h. absurd (omega (arith, h))

module _ (course : Course) (reads : List ℕ) (c : ℕ) where
  -- of these, and of the next one: of each of one round more
  pub each_more : (P : OfPlanes) → OfEach P course reads → OfRound P course reads (length reads) c → OfEach P course (reads ++ c ∷ [])
  each_more P each next = λ round h. by round h (cases_lt round (length reads))
    where
      by : (round : ℕ) → round < length (reads ++ c ∷ []) → ((round < length reads) ⊎ (length reads ≤ round)) → OfRound P course (reads ++ c ∷ []) round (get_or (reads ++ c ∷ []) round 0)
      by round h (inl less) =
          subst (λ (d : ℕ). OfRound P course (reads ++ c ∷ []) round d) (sym (get_before reads (c ∷ []) round less))
          (subst (P (course.place (get_or reads round 0))) (sym (number_before reads (c ∷ []) round (get_or reads round 0) (omega (arith, less)))) (each round less))
      by round h (inr k) =
          let long = length-append reads (c ∷ []) in
          let e : length reads ≡ round = omega (arith, long, h, k) in
          subst (λ (n : ℕ). OfRound P course (reads ++ c ∷ []) n (get_or (reads ++ c ∷ []) n 0)) e
          (subst (λ (d : ℕ). OfRound P course (reads ++ c ∷ []) (length reads) d) (sym (get_last reads c (length reads) refl))
          (subst (P (course.place c)) (sym (number_before reads (c ∷ []) (length reads) c (omega arith))) next))

  -- later reads change none of the places
  places_before : (places : Places) (more : List ℕ) (round : ℕ) → round ≤ length reads → places_of places course (reads ++ more) round ≡ places_of places course reads round
  places_before places more zero h = refl
  places_before places more (suc round) h =
      let before = places_of places course reads round in
      let column = get_or reads round 0 in
      ap (λ l. l ++ places_after places course (reads ++ more) round (get_or (reads ++ more) round 0)) (places_before places more round (omega (arith, h)))
      ∙ ap (λ (d : ℕ). before ++ places_after places course (reads ++ more) round d) (get_before reads more round (omega (arith, h)))
      ∙ ap (λ (n : ℕ). before ++ places (course.place column) n) (number_before reads more round column (omega (arith, h)))

  -- with the next plane read, its places are handed over behind those before
  pub next_handed : (places : Places) (old mid new : Option (List ℕ)) → Appends old mid (places_of places course reads (length reads)) →
      Appends mid new (places_after places course reads (length reads) c) → Appends old new (places_of places course (reads ++ c ∷ []) (length (reads ++ c ∷ [])))
  next_handed places old mid new before next =
      let all = reads ++ c ∷ [] in
      let done = places_of places course reads (length reads) in
      let long : length all ≡ suc (length reads) = omega (arith, length-append reads (c ∷ [])) in
      subst (Appends old new)
      (sym (ap (places_of places course all) long
      ∙ ap (λ l. l ++ places_after places course all (length reads) (get_or all (length reads) 0)) (places_before places (c ∷ []) (length reads) (omega arith))
      ∙ ap (λ (d : ℕ). done ++ places_after places course all (length reads) d) (get_last reads c (length reads) refl)
      ∙ ap (λ (n : ℕ). done ++ places (course.place c) n) (number_before reads (c ∷ []) (length reads) c (omega arith))))
      (Appends-trans old mid new done (places_after places course reads (length reads) c) before next)

-- ---- one list

module _ (one : ChoicesAreOne) (course : Course) (law : IsLawful course) where
  -- of two lists of rounds one begins with the other
  pub same_front : (a b : List ℕ) → AreReads course a → AreReads course b → (n : ℕ) → n ≤ length a → n ≤ length b → BeginAlike a b n
  same_front a b ra rb zero ha hb = record { in_a = ha; in_b = hb; same = λ k h. absurd (omega (arith, h)) }
  same_front a b ra rb (suc n) ha hb = by (same_front a b ra rb n (omega (arith, ha)) (omega (arith, hb)))
    where
      here : BeginAlike a b n → get_or a n 0 ≡ get_or b n 0
      here alike =
          one course.policy (course.outlook a n) (get_or a n 0) (get_or b n 0) (ra.chosen n (omega (arith, ha)))
          (subst (λ o. Chooses course.policy o (get_or b n 0)) (sym (law.outlook a b n alike)) (rb.chosen n (omega (arith, hb))))

      at : BeginAlike a b n → (k : ℕ) → k < suc n → ((k < n) ⊎ (n ≤ k)) → get_or a k 0 ≡ get_or b k 0
      at alike k h (inl less) = alike.same k less
      at alike k h (inr le) = let e : n ≡ k = omega (arith, h, le) in subst (λ i. get_or a i 0 ≡ get_or b i 0) e (here alike)

      by : BeginAlike a b n → BeginAlike a b (suc n)
      by alike = record { in_a = ha; in_b = hb; same = λ k h. at alike k h (cases_lt k n) }

  one_next : (reads : List ℕ) (c d : ℕ) → IsFollowed course reads c → IsFollowed course reads d → c ≡ d
  one_next reads c d p r = one course.policy (course.outlook reads (length reads)) c d p.chosen r.chosen

  -- rounds that go further than others
  module _ (a b : List ℕ) (next : ℕ) (followed : IsFollowed course a next) (further : AreReads course b) (h : length a < length b) where
    front : BeginAlike a b (length a)
    front = same_front a b followed.rounds further (length a) (omega arith) (omega (arith, h))

    -- they read the next plane
    next_is : next ≡ get_or b (length a) 0
    next_is =
        one course.policy (course.outlook a (length a)) next (get_or b (length a) 0) followed.chosen
        (subst (λ o. Chooses course.policy o (get_or b (length a) 0)) (sym (law.outlook a b (length a) front)) (further.chosen (length a) h))

    -- so of it holds what holds of each
    of_next : (readable : OfPlanes) → OfEach readable course b → OfRound readable course a (length a) next
    of_next readable each =
        subst (λ c. OfRound readable course a (length a) c) (sym next_is)
        (subst (λ (first : List ℕ). readable (course.place (get_or b (length a) 0)) (count_by (λ d. d == get_or b (length a) 0) first)) (sym (same_take a b (length a) front)) (each (length a) h))

    longer : BeginAlike b (a ++ next ∷ []) (length a + 1)
    longer = record {
      in_a = omega (arith, h);
      in_b = (let long = length-append a (next ∷ []) in omega (arith, long));
      same = λ k less. by k less (cases_lt k (length a));
    }
      where
        by : (k : ℕ) → k < length a + 1 → ((k < length a) ⊎ (length a ≤ k)) → get_or b k 0 ≡ get_or (a ++ next ∷ []) k 0
        by k less (inl below) = sym (front.same k below) ∙ sym (get_before a (next ∷ []) k below)
        by k less (inr past) =
            let e : length a ≡ k = omega (arith, less, past) in
            subst (λ i. get_or b i 0 ≡ get_or (a ++ next ∷ []) i 0) e (sym next_is ∙ sym (get_last a next (length a) refl))

    -- and it is not refused
    not_over : (row : ℕ) → course.over a next row → ⊥
    not_over row over = law.illegal a next row followed over (law.legal b (a ++ next ∷ []) (length a + 1) longer (further.legal (length a + 1) (omega (arith, h))))

  not_ended : (reads : List ℕ) (next : ℕ) → AreAllReads course reads → IsFollowed course reads next → ⊥
  not_ended reads next all followed = false≢true (sym followed.going ∙ all.ended)

  not_past : (a b : List ℕ) → AreAllReads course a → AreReads course b → length a < length b → ⊥
  not_past a b all further h =
      let same = law.ending a b (length a) (same_front a b all.rounds further (length a) (omega arith) (omega (arith, h))) in
      let going : IsNone (course.ending a (length a)) = subst IsNone (sym same) (further.going (length a) h) in
      false≢true (sym going ∙ all.ended)

  as_long : (a b : List ℕ) → AreReads course a → AreReads course b → length a ≡ length b → a ≡ b
  as_long a b ra rb long = same_list a b long (same_front a b ra rb (length a) (omega arith) (omega (arith, long))).same

  pub one_list : (a b : List ℕ) → AreAllReads course a → AreAllReads course b → a ≡ b
  one_list a b ra rb = by (cases_lt (length a) (length b)) (cases_lt (length b) (length a))
    where
      by : ((length a < length b) ⊎ (length b ≤ length a)) → ((length b < length a) ⊎ (length a ≤ length b)) → a ≡ b
      by (inl less) other = absurd (not_past a b ra rb.rounds less)
      by (inr k) (inl less) = absurd (not_past b a rb ra.rounds less)
      by (inr k) (inr l) = as_long a b ra.rounds rb.rounds (omega (arith, k, l))

  -- ---- one outcome

  module _ (readable : OfPlanes) where
    reads_of : (reads : List ℕ) (outcome : Outcome) → ComeTo course readable reads outcome → AreReads course reads
    reads_of reads ended come = come.rounds
    reads_of reads (unreadable column plane) come = come.0.followed.rounds
    reads_of reads (refused column plane row) come = come.0.before.followed.rounds

    -- no rounds go further than an outcome
    not_further : (a b : List ℕ) (outcome : Outcome) → ComeTo course readable a outcome → AreReads course b → OfEach readable course b → length a < length b → ⊥
    not_further a b ended come further each h = not_past a b come further h
    not_further a b (unreadable column plane) (before, bad) further each h =
        bad (subst (λ c. readable c plane) (sym before.column_is)
        (subst (readable (course.place before.next)) (sym before.plane_is) (of_next a b before.next before.followed further h readable each)))
    not_further a b (refused column plane row) (stop, good) further each h = not_over a b stop.before.next stop.before.followed further h row stop.over

    -- after the same rounds one plane is next
    same_plane : (reads : List ℕ) (column plane column' plane' : ℕ) (p : IsBefore course reads column plane) (r : IsBefore course reads column' plane') →
        (p.next ≡ r.next) × (column ≡ column') × (plane ≡ plane')
    same_plane reads column plane column' plane' p r =
        let next = one_next reads p.next r.next p.followed r.followed in
        (next, p.column_is ∙ ap course.place next ∙ sym r.column_is, p.plane_is ∙ ap (number_after reads (length reads)) next ∙ sym r.plane_is)

    not_both : (reads : List ℕ) (column plane column' plane' : ℕ) → IsBefore course reads column plane → (¬ readable column plane) → IsBefore course reads column' plane' → readable column' plane' → ⊥
    not_both reads column plane column' plane' p bad r good =
        let (next, columns, planes) = same_plane reads column plane column' plane' p r in
        bad (subst (λ c. readable c plane) (sym columns) (subst (readable column') (sym planes) good))

    one_outcome : (reads : List ℕ) (x y : Outcome) → ComeTo course readable reads x → ComeTo course readable reads y → x ≡ y
    one_outcome reads ended ended p r = refl
    one_outcome reads ended (unreadable column plane) p (before, bad) = absurd (not_ended reads before.next p before.followed)
    one_outcome reads ended (refused column plane row) p (stop, good) = absurd (not_ended reads stop.before.next p stop.before.followed)
    one_outcome reads (unreadable column plane) ended (before, bad) r = absurd (not_ended reads before.next r before.followed)
    one_outcome reads (unreadable column plane) (unreadable column' plane') (before, bad) (other, bad') =
        let (next, columns, planes) = same_plane reads column plane column' plane' before other in ap (λ c. unreadable c plane) columns ∙ ap (unreadable column') planes
    one_outcome reads (unreadable column plane) (refused column' plane' row) (before, bad) (stop, good) = absurd (not_both reads column plane column' plane' before bad stop.before good)
    one_outcome reads (refused column plane row) ended (stop, good) r = absurd (not_ended reads stop.before.next r stop.before.followed)
    one_outcome reads (refused column plane row) (unreadable column' plane') (stop, good) (before, bad) = absurd (not_both reads column' plane' column plane before bad stop.before good)
    one_outcome reads (refused column plane row) (refused column' plane' row') (stop, good) (other, good') =
        let (next, columns, planes) = same_plane reads column plane column' plane' stop.before other.before in
        let rows = law.one_row reads stop.before.next row row' stop.before.followed stop.over (subst (λ c. course.over reads c row') (sym next) other.over) in
        ap (λ c. refused c plane row) columns ∙ ap (λ n. refused column' n row) planes ∙ ap (refused column' plane') rows

    -- the reads are one, and what they come to
    pub outcomes_are_one : (a b : List ℕ) (x y : Outcome) → EndIn course readable a x → EndIn course readable b y → (a ≡ b) × (x ≡ y)
    outcomes_are_one a b x y p r = by (cases_lt (length a) (length b)) (cases_lt (length b) (length a))
      where
        by : ((length a < length b) ⊎ (length b ≤ length a)) → ((length b < length a) ⊎ (length a ≤ length b)) → (a ≡ b) × (x ≡ y)
        by (inl less) other = absurd (not_further a b x p.come (reads_of b y r.come) r.each less)
        by (inr k) (inl less) = absurd (not_further b a y r.come (reads_of a x p.come) p.each less)
        by (inr k) (inr l) =
            let same = as_long a b (reads_of a x p.come) (reads_of b y r.come) (omega (arith, k, l)) in
            (same, one_outcome b x y (subst (λ reads. ComeTo course readable reads x) same p.come) r.come)

-- ---- some outcome

module _ (course : Course) (law : GoesOn course) (readable : OfPlanes) (judged : (column plane : ℕ) → readable column plane ⊎ (¬ readable column plane)) where
  -- what rounds come to that begin with these
  abbrev pub HasOutcome : List ℕ → Type 0
  HasOutcome reads = (rest : List ℕ) × (outcome : Outcome) × EndIn course readable (reads ++ rest) outcome

  -- the number is a limit that is not reached
  go_on : (left : ℕ) (reads : List ℕ) → AreReads course reads → OfEach readable course reads → law.most < length reads + left → HasOutcome reads
  go_on zero reads rounds each h = absurd (let few = law.few reads rounds in omega (arith, few, h))
  go_on (suc left) reads rounds each h = by (λ c more all k. go_on left (reads ++ c ∷ []) more all k) (cases_Bool (is_some (course.ending reads (length reads))))
    where
      Later : Type 0
      Later = (c : ℕ) → AreReads course (reads ++ c ∷ []) → OfEach readable course (reads ++ c ∷ []) → law.most < length (reads ++ c ∷ []) + left → HasOutcome (reads ++ c ∷ [])

      here : (outcome : Outcome) → ComeTo course readable reads outcome → HasOutcome reads
      here outcome come = ([], outcome, subst (λ all. EndIn course readable all outcome) (sym (append-nil reads)) (record { each = each; come = come }))

      to : (column plane row : ℕ) → IsRefused course reads column plane row → (readable column plane ⊎ (¬ readable column plane)) → HasOutcome reads
      to column plane row stop (inl can) = here (refused column plane row) (stop, can)
      to column plane row stop (inr bad) = here (unreadable column plane) (stop.before, bad)

      further : Later → (c : ℕ) → OfRound readable course reads (length reads) c → (((column plane row : ℕ) × IsRefused course reads column plane row) ⊎ AreReads course (reads ++ c ∷ [])) → HasOutcome reads
      further later c good (inl (column, plane, row, stop)) = to column plane row stop (judged column plane)
      further later c good (inr more) =
          let grown = length-append reads (c ∷ []) in
          let (rest, outcome, ends) = later c more (each_more course reads c readable each good) (omega (arith, h, grown)) in
          (c ∷ rest, outcome, subst (λ all. EndIn course readable all outcome) (append_assoc reads (c ∷ []) rest) ends)

      judge : Later → (c : ℕ) → IsFollowed course reads c → (OfRound readable course reads (length reads) c ⊎ (¬ OfRound readable course reads (length reads) c)) → HasOutcome reads
      judge later c followed (inr bad) =
          here (unreadable (course.place c) (number_after reads (length reads) c)) (record { next = c; followed = followed; column_is = refl; plane_is = refl }, bad)
      judge later c followed (inl good) = further later c good (law.further reads c followed)

      by : Later → (IsSome (course.ending reads (length reads)) ⊎ IsNone (course.ending reads (length reads))) → HasOutcome reads
      by later (inl last) = here ended (record { rounds = rounds; ended = last })
      by later (inr going) =
          let (c, chosen) = law.chooses reads rounds going in
          judge later c (record { rounds = rounds; going = going; chosen = chosen }) (judged (course.place c) (number_after reads (length reads) c))

  pub has_outcome : (reads : List ℕ) → AreReads course reads → OfEach readable course reads → HasOutcome reads
  has_outcome reads rounds each = go_on (suc law.most) reads rounds each (omega arith)

-- ---- what a policy sees

pub tells_of : (o : Outlook) (p : Progress) → IsSound p → AreSame (outlook_of p) o → Tells o p
tells_of o p sound same = record {
  sound = sound;
  unread = λ c. unread_there o (outlook_of p) (turned_outlook (outlook_of p) o same) c;
  back = λ c. unread_there (outlook_of p) o same c;
  choice = λ policy c. same_choice policy o (outlook_of p) (turned_outlook (outlook_of p) o same) c;
  chosen = λ policy c. same_choice policy (outlook_of p) o same c;
}

-- ---- other bits in the place of one plane

abbrev pub with_plane : (ℕ → ℕ → List Bool) → ℕ → ℕ → List Bool → ℕ → ℕ → List Bool
with_plane bits column number plane = λ c j. if c == column && j == number then plane else bits c j

is_same : (a b : ℕ) → a ≡ b → (a == b) ≡ true
is_same a b e = grind (arith, nat_tests)

is_other : (a b : ℕ) → a ≢ b → (a == b) ≡ false
is_other a b n = grind (arith, nat_tests)

pub in_its_place : (bits : ℕ → ℕ → List Bool) (column number : ℕ) (plane : List Bool) → with_plane bits column number plane column number ≡ plane
in_its_place bits column number plane =
    ap (λ b. if b && number == number then plane else bits column number) (is_same column column refl) ∙ ap (λ b. if b then plane else bits column number) (is_same number number refl)

elsewhere : (bits : ℕ → ℕ → List Bool) (column number : ℕ) (plane : List Bool) (c j : ℕ) → ((c ≡ column) → (j ≡ number) → ⊥) → with_plane bits column number plane c j ≡ bits c j
elsewhere bits column number plane c j apart = by (cases_eq c column)
  where
    by : ((c ≡ column) ⊎ (c ≢ column)) → with_plane bits column number plane c j ≡ bits c j
    by (inl e) = ap (λ b. if b && j == number then plane else bits c j) (is_same c column e) ∙ ap (λ b. if b then plane else bits c j) (is_other j number (apart e))
    by (inr n) = ap (λ b. if b && j == number then plane else bits c j) (is_other c column n)

-- other bits in the place of the next plane change nothing that was read
pub same_read : (course : Course) (reads : List ℕ) (c : ℕ) → c < (course.outlook reads (length reads)).columns →
    ((d : ℕ) → d < (course.outlook reads (length reads)).columns → course.place d ≡ course.place c → d ≡ c) → (bits : ℕ → ℕ → List Bool) (plane : List Bool) →
    HaveSameRead course reads bits (with_plane bits (course.place c) (number_after reads (length reads) c) plane)
same_read course reads c inside apart bits plane = λ d j below less.
    sym (elsewhere bits (course.place c) (number_after reads (length reads) c) plane (course.place d) j (λ e k.
    let few = subst (λ (n : ℕ). j < number_after reads (length reads) n) (apart d below e) less in omega (arith, few, k)))
