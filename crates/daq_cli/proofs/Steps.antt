-- Steps that follow one another are as exact, and as complete, as each of them; so are those of a list.
use Rattle.std.proofs.Common.{◌≡◌, ◌≢◌, ℕ, ◌+◌, ◌<◌, ◌≤◌, List, [], ◌∷◌, ◌++◌, append-nil, append_assoc, drop, get_or, length, map, ◌∙◌, inl, inr, refl, subst, sym}
use Rattle.std.proofs.lemmas.List.{drop_all, drop_more, get_or_default}
use Rattle.daq_cli.specs.Steps.{IsComplete, IsExact, Step, StopsStep, done, each, then}
use Rattle.daq_cli.specs.declared.refusal.Refusal.{Refusal}

module _ {A B : Type 0} (first : Step A) (second : A → Step B) (law : IsExact first) (laws : (a : A) → IsExact (second a)) where
  both_once : (x y : B) → (then first second).accepts x → (then first second).accepts y → x ≡ y
  both_once x y (a, p, q) (b, r, s) =
      let same = law.once a b p r in
      (laws a).once x y q (subst (λ c. (second c).accepts y) (sym same) s)

  both_same : (x y : Refusal) → (then first second).shows x → (then first second).shows y → x ≡ y
  both_same x y (inl p) (inl q) = law.same x y p q
  both_same x y (inl p) (inr (b, r, s)) = absurd (law.apart b x r p)
  both_same x y (inr (a, p, q)) (inl r) = absurd (law.apart a y p r)
  both_same x y (inr (a, p, q)) (inr (b, r, s)) =
      let same = law.once a b p r in
      (laws a).same x y q (subst (λ c. (second c).shows y) (sym same) s)

  both_apart : (x : B) (y : Refusal) → (then first second).accepts x → (then first second).shows y → ⊥
  both_apart x y (a, p, q) (inl r) = law.apart a y p r
  both_apart x y (a, p, q) (inr (b, r, s)) =
      let same = law.once a b p r in
      (laws a).apart x y q (subst (λ c. (second c).shows y) (sym same) s)

  pub then_exact : IsExact (then first second)
  then_exact = record { once = both_once; same = both_same; apart = both_apart }

-- ---- a list

pub done_exact : {A : Type 0} (value : A) → IsExact (done value)
done_exact value = record { once = λ a b p r. p ∙ sym r; same = λ x y p r. absurd p; apart = λ a y p r. r }

pub then_complete : {A B : Type 0} (first : Step A) (second : A → Step B) → IsComplete first → ((a : A) → first.accepts a → IsComplete (second a)) → IsComplete (then first second)
then_complete first second (inr (why, shown)) rest = inr (why, inl shown)
then_complete first second (inl (a, accepted)) rest = by (rest a accepted)
  where
    by : IsComplete (second a) → IsComplete (then first second)
    by (inl (b, after)) = inl (b, (a, accepted, after))
    by (inr (why, shown)) = inr (why, inr (a, accepted, shown))

module _ {A B : Type 0} (step : A → Step B) where
  pub each_exact : ((a : A) → IsExact (step a)) → (xs : List A) → IsExact (each step xs)
  each_exact laws [] = done_exact []
  each_exact laws (a ∷ rest) = then_exact _ _ (laws a) (λ b. then_exact _ _ (each_exact laws rest) (λ bs. done_exact (b ∷ bs)))

  pub each_complete : ((a : A) → IsComplete (step a)) → (xs : List A) → IsComplete (each step xs)
  each_complete laws [] = inl ([], refl)
  each_complete laws (a ∷ rest) = then_complete _ _ (laws a) (λ b _. then_complete _ _ (each_complete laws rest) (λ bs _. inl (b ∷ bs, refl)))

  -- what holds of each value holds of all
  pub each_some : (xs : List A) (bs : List B) → xs ≢ [] → (each step xs).accepts bs → bs ≢ []
  each_some [] bs some accepted none = some refl
  each_some (a ∷ rest) bs some (b, one, (others, all, is)) none = absurd (let e : b ∷ others ≡ [] = sym is ∙ none in cc)

pub some_map : {X A : Type 0} (of : X → A) (xs : List X) → xs ≢ [] → map of xs ≢ []
some_map of [] some none = some refl
some_map of (x ∷ xs) some none = absurd cc

module _ {X A B : Type 0} (step : A → Step B) (of : X → A) (all : List X) where
  -- so many of the list were accepted, as these: what becomes of the others becomes of all
  pub record IsLeft (i : ℕ) (values : List B) : Type 0 where
    pub accepts : (bs : List B) → (each step (map of (drop i all))).accepts bs → (each step (map of all)).accepts (values ++ bs)
    pub shows : (why : Refusal) → (each step (map of (drop i all))).shows why → (each step (map of all)).shows why

  pub all_left : IsLeft 0 []
  all_left = record { accepts = λ bs p. p; shows = λ why p. p }

  module _ (i : ℕ) (values : List B) (left : IsLeft i values) where
    pub none_left : length all ≤ i → (each step (map of all)).accepts values
    none_left end =
        subst (each step (map of all)).accepts (append-nil values)
        (left.accepts [] (subst (λ rest. (each step (map of rest)).accepts []) (sym (drop_all i all end)) refl))

    module _ (x : X) (there : i < length all) (is : get_or all i x ≡ x) where
      next : drop i all ≡ x ∷ drop (i + 1) all
      next = subst (λ y. drop i all ≡ y ∷ drop (i + 1) all) is (drop_more all i x there)

      pub one_less : (b : B) → (step (of x)).accepts b → IsLeft (i + 1) (values ++ b ∷ [])
      one_less b accepted = record {
        accepts = λ bs p. subst (each step (map of all)).accepts (sym (append_assoc values (b ∷ []) bs))
            (left.accepts (b ∷ bs) (subst (λ rest. (each step (map of rest)).accepts (b ∷ bs)) (sym next) (b, accepted, (bs, p, refl))));
        shows = λ why p. left.shows why (subst (λ rest. (each step (map of rest)).shows why) (sym next) (inr (b, accepted, inl p)));
      }

      pub one_stops : (why : Refusal) → StopsStep (step (of x)) why → StopsStep (each step (map of all)) why
      one_stops why (inl shown) = inl (left.shows why (subst (λ rest. (each step (map of rest)).shows why) (sym next) (inl shown)))
      one_stops why (inr e) = inr e

    module _ (d : X) (there : i < length all) where
      same_item : get_or all i (get_or all i d) ≡ get_or all i d
      same_item = get_or_default all i (get_or all i d) d there

      pub one_less_at : (b : B) → (step (of (get_or all i d))).accepts b → IsLeft (i + 1) (values ++ b ∷ [])
      one_less_at = one_less (get_or all i d) there same_item

      pub one_stops_at : (why : Refusal) → StopsStep (step (of (get_or all i d))) why → StopsStep (each step (map of all)) why
      one_stops_at = one_stops (get_or all i d) there same_item
