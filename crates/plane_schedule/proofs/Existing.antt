-- Where a plane is unread, each policy but a list chooses a column.
use Rattle.std.proofs.Common.{◌≡◌, ◌≢◌, ◌⊎◌, ℕ, zero, suc, ◌<◌, ◌≤◌, ◌*◌, ◌^◌, cond, Bool, true, false, refl, sym, ap, subst, ◌∙◌, arith, inl, inr, IsTrue, IsFalse}
use Rattle.std.proofs.lemmas.Bool.{cases_Bool, cases_lt, cases_eq, false≢true}
use Rattle.std.specs.declared.option.Option.{Option}
use Rattle.std.specs.declared.option.Option.TheVariants.{Some, None}
use Rattle.plane_schedule.specs.declared.policies.FixedPolicy.TheVariants.{Widest, InOrder, FilterFirst, Balanced}
use Rattle.plane_schedule.specs.declared.progress.Role.{Role}
use Rattle.plane_schedule.specs.declared.progress.Role.TheVariants.{Filter, Group, Value}
use Rattle.plane_schedule.specs.Choices.{HasLeftFor, HasRole, HasUnread, HasUnreadOf, IsBalanced, IsFilterFirst, IsFirst, IsLeastTakenOf, IsLessParted, IsOf, IsReadFor, IsUnread, IsWidestOf, Outlook, PartsRows}
use Rattle.plane_schedule.specs.Laws.{PoliciesChoose}
use Rattle.plane_schedule.proofs.Best.{NoneBelow, WidestBelow, widest_below}
use Rattle.plane_schedule.proofs.Deciding.{Decides, decides_all, decides_at_most, decides_both, decides_either, decides_if, decides_not}
use Rattle.plane_schedule.proofs.Least.{LeastBelow, least_below}

-- ---- the widest of the columns that pass a test

module _ (o : Outlook) (passes : ℕ → Bool) where
  abbrev counted : ℕ → ℕ
  counted c = cond (passes c) (o.unread c) 0

  counts : (c : ℕ) → IsTrue (passes c) → counted c ≡ o.unread c
  counts c h = ap (λ b. cond b (o.unread c) 0) h

  passes_if : (c : ℕ) → 0 < counted c → IsTrue (passes c)
  passes_if c = by (passes c)
    where
      by : (b : Bool) → 0 < cond b (o.unread c) 0 → IsTrue b
      by true h = refl
      by false h = absurd (omega (arith, h))

  -- there is one, or none that passes has an unread plane
  widest_that_passes : ((c : ℕ) × IsWidestOf (λ d. IsTrue (passes d)) o c) ⊎ ((c : ℕ) → IsTrue (passes c) → ¬ IsUnread o c)
  widest_that_passes = by (widest_below counted o.columns)
    where
      found : (c : ℕ) → WidestBelow counted o.columns c → IsWidestOf (λ d. IsTrue (passes d)) o c
      found c w =
          let of_sort = passes_if c w.some in
          let here = counts c of_sort in
          let some = w.some in
          record {
            of_sort = of_sort;
            unread = record { column = w.below; unread = omega (arith, here, some) };
            widest = λ d h is. (let there = counts d h in let most = w.widest d is.column in omega (arith, here, there, most));
            first = λ d less h is. (let there = counts d h in let more = w.first d less in omega (arith, here, there, more));
          }

      by : NoneBelow counted o.columns ⊎ ((c : ℕ) × WidestBelow counted o.columns c) →
          ((c : ℕ) × IsWidestOf (λ d. IsTrue (passes d)) o c) ⊎ ((c : ℕ) → IsTrue (passes c) → ¬ IsUnread o c)
      by (inl none) = inr (λ c h is. let there = counts c h in let nothing = none c is.column in let some = is.unread in omega (arith, there, nothing, some))
      by (inr (c, w)) = inl (c, found c w)

widest_moves : (A B : ℕ → Type 0) (o : Outlook) (c : ℕ) → ((d : ℕ) → A d → B d) → ((d : ℕ) → B d → A d) → IsWidestOf A o c → IsWidestOf B o c
widest_moves A B o c there back w = record {
  of_sort = there c w.of_sort;
  unread = w.unread;
  widest = λ d h. w.widest d (back d h);
  first = λ d less h. w.first d less (back d h);
}

-- ---- widest, in order, filter first

widest_of_all : (o : Outlook) → HasUnread o → (c : ℕ) × IsWidestOf (IsOf o None) o c
widest_of_all o (e, unread) = by (widest_that_passes o (λ _. true))
  where
    by : ((c : ℕ) × IsWidestOf (λ d. IsTrue true) o c) ⊎ ((c : ℕ) → IsTrue true → ¬ IsUnread o c) → (c : ℕ) × IsWidestOf (IsOf o None) o c
    by (inl (c, w)) = (c, widest_moves (λ d. IsTrue true) (IsOf o None) o c (λ d _. tt) (λ d _. refl) w)
    by (inr none) = absurd (none e refl unread)

abbrev is_role : Role → Option Role → Bool
is_role Filter (Some Filter) = true
is_role Filter (Some Group) = false
is_role Filter (Some Value) = false
is_role Group (Some Filter) = false
is_role Group (Some Group) = true
is_role Group (Some Value) = false
is_role Value (Some Filter) = false
is_role Value (Some Group) = false
is_role Value (Some Value) = true
is_role role None = false

has : (role : Role) (r : Option Role) → IsTrue (is_role role r) → r ≡ Some role
has Filter (Some Filter) h = refl
has Filter (Some Group) h = cc
has Filter (Some Value) h = cc
has Group (Some Filter) h = cc
has Group (Some Group) h = refl
has Group (Some Value) h = cc
has Value (Some Filter) h = cc
has Value (Some Group) h = cc
has Value (Some Value) h = refl
has role None h = cc

is : (role : Role) → IsTrue (is_role role (Some role))
is Filter = refl
is Group = refl
is Value = refl

-- the widest of those that are read for this, or none of them has an unread plane
widest_of_role : (role : Role) (o : Outlook) → ((c : ℕ) × IsWidestOf (HasRole o role) o c) ⊎ (¬ HasUnreadOf role o)
widest_of_role role o = by (widest_that_passes o (λ c. is_role role (o.role c)))
  where
    back : (d : ℕ) → HasRole o role d → IsTrue (is_role role (o.role d))
    back d e = subst (λ r. IsTrue (is_role role r)) (sym e) (is role)

    by : ((c : ℕ) × IsWidestOf (λ d. IsTrue (is_role role (o.role d))) o c) ⊎ ((c : ℕ) → IsTrue (is_role role (o.role c)) → ¬ IsUnread o c) →
        ((c : ℕ) × IsWidestOf (HasRole o role) o c) ⊎ (¬ HasUnreadOf role o)
    by (inl (c, w)) = inl (c, widest_moves (λ d. IsTrue (is_role role (o.role d))) (HasRole o role) o c (λ d h. has role (o.role d) h) back w)
    by (inr none) = inr (λ some. none some.0 (back some.0 some.1) some.2)

first_of_all : (o : Outlook) (n : ℕ) → ((c : ℕ) → c < n → ¬ IsUnread o c) ⊎ ((c : ℕ) × IsFirst o c)
first_of_all o zero = inl (λ c h. absurd (omega arith))
first_of_all o (suc n) = by (first_of_all o n) (cases_lt n o.columns) (cases_eq (o.unread n) 0)
  where
    or_below : (c : ℕ) → c < suc n → ¬ IsUnread o n → ((d : ℕ) → d < n → ¬ IsUnread o d) → ¬ IsUnread o c
    or_below c h here before = at (cases_lt c n)
      where
        at : ((c < n) ⊎ (n ≤ c)) → ¬ IsUnread o c
        at (inl less) = before c less
        at (inr k) = let same : n ≡ c = omega arith in subst (λ d. ¬ IsUnread o d) same here

    by : (((c : ℕ) → c < n → ¬ IsUnread o c) ⊎ ((c : ℕ) × IsFirst o c)) → ((n < o.columns) ⊎ (o.columns ≤ n)) → ((o.unread n ≡ 0) ⊎ (o.unread n ≢ 0)) →
        ((c : ℕ) → c < suc n → ¬ IsUnread o c) ⊎ ((c : ℕ) × IsFirst o c)
    by (inr found) a b = inr found
    by (inl none) (inr past) b = inl (λ c h. or_below c h (λ u. let k = u.column in omega (arith, k, past)) none)
    by (inl none) (inl inside) (inl nothing) = inl (λ c h. or_below c h (λ u. let k = u.unread in omega (arith, k, nothing)) none)
    by (inl none) (inl inside) (inr some) = inr (n, record { unread = record { column = inside; unread = omega (arith, some) }; first = none })

in_order : (o : Outlook) → HasUnread o → (c : ℕ) × IsFirst o c
in_order o (e, unread) = by (first_of_all o o.columns)
  where
    by : (((c : ℕ) → c < o.columns → ¬ IsUnread o c) ⊎ ((c : ℕ) × IsFirst o c)) → (c : ℕ) × IsFirst o c
    by (inl none) = absurd (none e unread.column unread)
    by (inr found) = found

filter_first : (o : Outlook) → HasUnread o → (c : ℕ) × IsFilterFirst o c
filter_first o some = by (cases_lt 0 o.unknown) (widest_of_role Filter o)
  where
    rest : ¬ ((0 < o.unknown) × HasUnreadOf Filter o) → (((c : ℕ) × IsWidestOf (HasRole o Group) o c) ⊎ (¬ HasUnreadOf Group o)) → (c : ℕ) × IsFilterFirst o c
    rest no_filter (inl (c, w)) = (
      c,
      record {
        unread = w.unread;
        filter = λ unknown its. absurd (no_filter (unknown, its));
        group = λ _ _. w;
        rest = λ _ no_group. absurd (no_group (c, w.of_sort, w.unread));
      },
    )
    rest no_filter (inr no_group) =
        let (c, w) = widest_of_all o some in (
          c,
          record {
            unread = w.unread;
            filter = λ unknown its. absurd (no_filter (unknown, its));
            group = λ _ its. absurd (no_group its);
            rest = λ _ _. w;
          },
        )

    by : ((0 < o.unknown) ⊎ (o.unknown ≤ 0)) → (((c : ℕ) × IsWidestOf (HasRole o Filter) o c) ⊎ (¬ HasUnreadOf Filter o)) → (c : ℕ) × IsFilterFirst o c
    by (inl unknown) (inl (c, w)) = (
      c,
      record {
        unread = w.unread;
        filter = λ _ _. w;
        group = λ no_filter _. absurd (no_filter (unknown, (c, w.of_sort, w.unread)));
        rest = λ no_filter _. absurd (no_filter (unknown, (c, w.of_sort, w.unread)));
      },
    )
    by (inl unknown) (inr none) = rest (λ its. none its.1) (widest_of_role Group o)
    by (inr known) filter = rest (λ its. let h = its.0 in omega (arith, h, known)) (widest_of_role Group o)

-- ---- balanced

decides_role : (role : Role) (r : Option Role) → Decides (r ≡ Some role)
decides_role role r = by (cases_Bool (is_role role r))
  where
    by : IsTrue (is_role role r) ⊎ IsFalse (is_role role r) → Decides (r ≡ Some role)
    by (inl h) = inl (has role r h)
    by (inr h) = inr (λ e. false≢true (sym h ∙ subst (λ (x : Option Role). IsTrue (is_role role x)) (sym e) (is role)))

decides_gives : (g : Option Bool) → Decides (g ≡ Some true)
decides_gives None = inr not
  where
    not : ¬ (None ≡ Some true)
    not e = cc
decides_gives (Some true) = inl refl
decides_gives (Some false) = inr not
  where
    not : ¬ (Some false ≡ Some true)
    not e = cc

module _ (o : Outlook) where
  decides_read_for : (role : Role) (c : ℕ) → Decides (IsReadFor o role c)
  decides_read_for Filter c = decides_role Filter (o.role c)
  decides_read_for Group c = decides_role Group (o.role c)
  decides_read_for Value c = decides_either ((¬ HasRole o Filter c) × (¬ HasRole o Group c)) (o.gives c ≡ Some true)
      (decides_both (¬ HasRole o Filter c) (¬ HasRole o Group c) (decides_not (HasRole o Filter c) (decides_role Filter (o.role c))) (decides_not (HasRole o Group c) (decides_role Group (o.role c))))
      (decides_gives (o.gives c))

  decides_unread : (c : ℕ) → Decides (IsUnread o c)
  decides_unread c = by (cases_lt c o.columns) (cases_lt 0 (o.unread c))
    where
      by : (c < o.columns) ⊎ (o.columns ≤ c) → (0 < o.unread c) ⊎ (o.unread c ≤ 0) → Decides (IsUnread o c)
      by (inl inside) (inl some) = inl (record { column = inside; unread = some })
      by (inl inside) (inr none) = inr (λ u. let some = u.unread in omega (arith, some, none))
      by (inr past) b = inr (λ u. let inside = u.column in omega (arith, inside, past))

  -- of the columns that are read for this and have an unread plane the one of which the fewest are taken, or there is none
  least_for : (role : Role) → ((c : ℕ) × IsLeastTakenOf (IsReadFor o role) o c) ⊎ (¬ HasLeftFor role o)
  least_for role = by (least_below (λ c. IsReadFor o role c × IsUnread o c) o.taken (λ c. decides_both (IsReadFor o role c) (IsUnread o c) (decides_read_for role c) (decides_unread c)) o.columns)
    where
      by : ((c : ℕ) × LeastBelow (λ c. IsReadFor o role c × IsUnread o c) o.taken o.columns c) ⊎ ((d : ℕ) → d < o.columns → ¬ (IsReadFor o role d × IsUnread o d)) →
          ((c : ℕ) × IsLeastTakenOf (IsReadFor o role) o c) ⊎ (¬ HasLeftFor role o)
      by (inl (c, l)) = inl (
        c,
        record {
          of_sort = l.here.0;
          unread = l.here.1;
          least = λ d h u. l.least d u.column (h, u);
          first = λ d less h u. l.first d less (h, u);
        },
      )
      by (inr none) = inr (λ some. none some.0 some.2.column (some.1, some.2))

  decides_share : (role : Role) → Decides ((c : ℕ) → IsReadFor o role c → IsUnread o c → o.possible ≤ o.unknown * 2 ^ o.taken c)
  decides_share role = by (decides_all (λ c. IsReadFor o role c → IsUnread o c → o.possible ≤ o.unknown * 2 ^ o.taken c) at o.columns)
    where
      at : (c : ℕ) → Decides (IsReadFor o role c → IsUnread o c → o.possible ≤ o.unknown * 2 ^ o.taken c)
      at c = decides_if (IsReadFor o role c) (IsUnread o c → o.possible ≤ o.unknown * 2 ^ o.taken c) (decides_read_for role c)
          (decides_if (IsUnread o c) (o.possible ≤ o.unknown * 2 ^ o.taken c) (decides_unread c) (decides_at_most o.possible (o.unknown * 2 ^ o.taken c)))

      by : Decides ((c : ℕ) → c < o.columns → IsReadFor o role c → IsUnread o c → o.possible ≤ o.unknown * 2 ^ o.taken c) →
          Decides ((c : ℕ) → IsReadFor o role c → IsUnread o c → o.possible ≤ o.unknown * 2 ^ o.taken c)
      by (inl all) = inl (λ c h u. all c u.column h u)
      by (inr never) = inr (λ all. never (λ c below h u. all c h u))

  decides_less_parted : Decides (IsLessParted o)
  decides_less_parted = by (cases_lt 0 o.unknown) (decides_share Group) (decides_share Value)
    where
      by : (0 < o.unknown) ⊎ (o.unknown ≤ 0) → Decides ((c : ℕ) → IsReadFor o Group c → IsUnread o c → o.possible ≤ o.unknown * 2 ^ o.taken c) →
          Decides ((c : ℕ) → IsReadFor o Value c → IsUnread o c → o.possible ≤ o.unknown * 2 ^ o.taken c) → Decides (IsLessParted o)
      by (inl some) (inl keys) (inl values) = inl (record { some = some; keys = keys; values = values })
      by (inr none) k v = inr (λ is. let some = is.some in omega (arith, some, none))
      by (inl some) (inr never) v = inr (λ is. never is.keys)
      by (inl some) (inl keys) (inr never) = inr (λ is. never is.values)

  -- some column is read for the condition, the groups or values
  some_left : (c : ℕ) → IsUnread o c → ¬ HasLeftFor Filter o → ¬ HasLeftFor Group o → HasLeftFor Value o
  some_left c u no_filter no_group = (c, inl (λ is. no_filter (c, is, u), λ is. no_group (c, is, u)), u)

  by_filter : PartsRows o → (c : ℕ) × IsLeastTakenOf (IsReadFor o Filter) o c → (c : ℕ) × IsBalanced o c
  by_filter parts (c, l) = (c, record { unread = l.unread; filter = λ _. l; group = λ never _. absurd (never parts); value = λ never _. absurd (never parts) })

  by_group : ¬ PartsRows o → (c : ℕ) × IsLeastTakenOf (IsReadFor o Group) o c → (c : ℕ) × IsBalanced o c
  by_group never (c, l) = (c, record { unread = l.unread; filter = λ parts. absurd (never parts); group = λ _ _. l; value = λ _ none. absurd (none (c, l.of_sort, l.unread)) })

  by_value : ¬ PartsRows o → ¬ HasLeftFor Group o → (c : ℕ) × IsLeastTakenOf (IsReadFor o Value) o c → (c : ℕ) × IsBalanced o c
  by_value never none (c, l) = (c, record { unread = l.unread; filter = λ parts. absurd (never parts); group = λ _ some. absurd (none some); value = λ _ _. l })

  no_parts : ¬ IsLessParted o → HasLeftFor Group o ⊎ HasLeftFor Value o → ¬ PartsRows o
  no_parts not_less left parts = by left parts.first
    where
      by : HasLeftFor Group o ⊎ HasLeftFor Value o → IsLessParted o ⊎ ((¬ HasLeftFor Group o) × (¬ HasLeftFor Value o)) → ⊥
      by left (inl less) = not_less less
      by (inl group) (inr none) = none.0 group
      by (inr value) (inr none) = none.1 value

  balanced : HasUnread o → (c : ℕ) × IsBalanced o c
  balanced (e, u) = by (least_for Filter) (least_for Group) (least_for Value) decides_less_parted
    where
      some_of : (role : Role) → (c : ℕ) × IsLeastTakenOf (IsReadFor o role) o c → HasLeftFor role o
      some_of role (c, l) = (c, l.of_sort, l.unread)

      by : ((c : ℕ) × IsLeastTakenOf (IsReadFor o Filter) o c) ⊎ (¬ HasLeftFor Filter o) → ((c : ℕ) × IsLeastTakenOf (IsReadFor o Group) o c) ⊎ (¬ HasLeftFor Group o) →
          ((c : ℕ) × IsLeastTakenOf (IsReadFor o Value) o c) ⊎ (¬ HasLeftFor Value o) → Decides (IsLessParted o) → (c : ℕ) × IsBalanced o c
      by (inl filter) group value (inl less) = by_filter (record { filter = some_of Filter filter; first = inl less }) filter
      by (inl filter) (inl group) value (inr not_less) = by_group (no_parts not_less (inl (some_of Group group))) group
      by (inl filter) (inr no_group) (inl value) (inr not_less) = by_value (no_parts not_less (inr (some_of Value value))) no_group value
      by (inl filter) (inr no_group) (inr no_value) (inr not_less) = by_filter (record { filter = some_of Filter filter; first = inr (no_group, no_value) }) filter
      by (inr no_filter) (inl group) value less = by_group (λ parts. no_filter parts.filter) group
      by (inr no_filter) (inr no_group) (inl value) less = by_value (λ parts. no_filter parts.filter) no_group value
      by (inr no_filter) (inr no_group) (inr no_value) less = absurd (no_value (some_left e u no_filter no_group))

pub policies_choose : PoliciesChoose
policies_choose o some Widest = widest_of_all o some
policies_choose o some InOrder = in_order o some
policies_choose o some FilterFirst = filter_first o some
policies_choose o some Balanced = balanced o some
