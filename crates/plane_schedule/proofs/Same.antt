-- Where two outlooks tell the same of each column, a policy chooses the same.
use Rattle.std.proofs.Common.{◌≡◌, ◌⊎◌, ℕ, ◌*◌, ◌^◌, ◌<◌, ◌≤◌, sym, ◌∙◌, subst, arith, inl, inr, slice_get}
use Rattle.std.specs.declared.option.Option.TheVariants.{Some, None}
use Rattle.plane_schedule.specs.declared.policy.Policy.{Policy}
use Rattle.plane_schedule.specs.declared.policies.FixedPolicy.TheVariants.{Widest, InOrder, FilterFirst, Balanced}
use Rattle.plane_schedule.specs.declared.policy.Policy.TheVariants.{By, Listed}
use Rattle.plane_schedule.specs.declared.progress.Role.{Role}
use Rattle.plane_schedule.specs.declared.progress.Role.TheVariants.{Filter, Group, Value}
use Rattle.plane_schedule.specs.Choices.{Chooses, HasLeftFor, HasRole, HasUnreadOf, IsBalanced, IsFilterFirst, IsFirst, IsLeastTakenOf, IsLessParted, IsOf, IsReadFor, IsUnread, IsWidestOf, Outlook, PartsRows}

-- they tell the same of each column
pub record AreSame (a b : Outlook) : Type 0 where
  pub columns : a.columns ≡ b.columns
  pub unread : (c : ℕ) → c < a.columns → a.unread c ≡ b.unread c
  pub taken : (c : ℕ) → c < a.columns → a.taken c ≡ b.taken c
  pub role : (c : ℕ) → c < a.columns → a.role c ≡ b.role c
  pub gives : (c : ℕ) → c < a.columns → a.gives c ≡ b.gives c
  pub unknown : a.unknown ≡ b.unknown
  pub possible : a.possible ≡ b.possible
  pub read : a.read ≡ b.read

pub turned : (a b : Outlook) → AreSame a b → AreSame b a
turned a b same = record {
  columns = sym same.columns;
  unread = λ c h. sym (same.unread c (subst (λ n. c < n) (sym same.columns) h));
  taken = λ c h. sym (same.taken c (subst (λ n. c < n) (sym same.columns) h));
  role = λ c h. sym (same.role c (subst (λ n. c < n) (sym same.columns) h));
  gives = λ c h. sym (same.gives c (subst (λ n. c < n) (sym same.columns) h));
  unknown = sym same.unknown;
  possible = sym same.possible;
  read = sym same.read;
}

pub unread_there : (a b : Outlook) → AreSame a b → (c : ℕ) → IsUnread a c → IsUnread b c
unread_there a b same c is = record {
  column = subst (λ n. c < n) same.columns is.column;
  unread = subst (λ n. 0 < n) (same.unread c is.column) is.unread;
}

role_there : (a b : Outlook) → AreSame a b → (role : Role) (c : ℕ) → c < a.columns → HasRole a role c → HasRole b role c
role_there a b same role c h is = sym (same.role c h) ∙ is

module _ (a b : Outlook) (same : AreSame a b) where
  back : (c : ℕ) → IsUnread b c → IsUnread a c
  back c is = unread_there b a (turned a b same) c is

  role_back : (role : Role) (c : ℕ) → c < a.columns → HasRole b role c → HasRole a role c
  role_back role c h is = role_there b a (turned a b same) role c (subst (λ n. c < n) same.columns h) is

  first_there : (c : ℕ) → IsFirst a c → IsFirst b c
  first_there c is = record { unread = unread_there a b same c is.unread; first = λ d less u. is.first d less (back d u) }

  widest_there : (A B : ℕ → Type 0) → ((c : ℕ) → c < a.columns → A c → B c) → ((c : ℕ) → c < a.columns → B c → A c) → (c : ℕ) → IsWidestOf A a c → IsWidestOf B b c
  widest_there A B sort sort_back c is = record {
    of_sort = sort c is.unread.column is.of_sort;
    unread = unread_there a b same c is.unread;
    widest = λ d h u. (
        let u' = back d u in
        let most = is.widest d (sort_back d u'.column h) u' in
        let here = same.unread c is.unread.column in
        let there = same.unread d u'.column in
        omega (arith, most, here, there));
    first = λ d less h u. (
        let u' = back d u in
        let more = is.first d less (sort_back d u'.column h) u' in
        let here = same.unread c is.unread.column in
        let there = same.unread d u'.column in
        omega (arith, more, here, there));
  }

  widest_of_role_there : (role : Role) (c : ℕ) → IsWidestOf (HasRole a role) a c → IsWidestOf (HasRole b role) b c
  widest_of_role_there role c is = widest_there (HasRole a role) (HasRole b role) (λ d h. role_there a b same role d h) (λ d h. role_back role d h) c is

  has_back : (role : Role) → HasUnreadOf role b → HasUnreadOf role a
  has_back role (c, is, u) = let u' = back c u in (c, role_back role c u'.column is, u')

  has_there : (role : Role) → HasUnreadOf role a → HasUnreadOf role b
  has_there role (c, is, u) = (c, role_there a b same role c u.column is, unread_there a b same c u)

  filter_back : (0 < b.unknown) × HasUnreadOf Filter b → (0 < a.unknown) × HasUnreadOf Filter a
  filter_back (unknown, some) = (subst (λ n. 0 < n) (sym same.unknown) unknown, has_back Filter some)

  filter_there : (0 < a.unknown) × HasUnreadOf Filter a → (0 < b.unknown) × HasUnreadOf Filter b
  filter_there (unknown, some) = (subst (λ n. 0 < n) same.unknown unknown, has_there Filter some)

  filter_first_there : (c : ℕ) → IsFilterFirst a c → IsFilterFirst b c
  filter_first_there c is = record {
    unread = unread_there a b same c is.unread;
    filter = λ unknown some. (let its = filter_back (unknown, some) in widest_of_role_there Filter c (is.filter its.0 its.1));
    group = λ none some. widest_of_role_there Group c (is.group (λ its. none (filter_there its)) (has_back Group some));
    rest = λ none no_group. widest_there (IsOf a None) (IsOf b None) (λ d h x. tt) (λ d h x. tt) c (is.rest (λ its. none (filter_there its)) (λ its. no_group (has_there Group its)));
  }

-- ---- the balanced policy

read_for_there : (a b : Outlook) → AreSame a b → (role : Role) (c : ℕ) → c < a.columns → IsReadFor a role c → IsReadFor b role c
read_for_there a b same Filter c h is = role_there a b same Filter c h is
read_for_there a b same Group c h is = role_there a b same Group c h is
read_for_there a b same Value c h (inl (no_filter, no_group)) = inl (λ is. no_filter (back Filter is), λ is. no_group (back Group is))
  where
    back : (role : Role) → HasRole b role c → HasRole a role c
    back role is = same.role c h ∙ is
read_for_there a b same Value c h (inr gives) = inr (sym (same.gives c h) ∙ gives)

left_there : (a b : Outlook) → AreSame a b → (role : Role) → HasLeftFor role a → HasLeftFor role b
left_there a b same role (c, is, u) = (c, read_for_there a b same role c u.column is, unread_there a b same c u)

share_there : (a b : Outlook) → AreSame a b → (role : Role) → ((c : ℕ) → IsReadFor a role c → IsUnread a c → a.possible ≤ a.unknown * 2 ^ a.taken c) →
    (c : ℕ) → IsReadFor b role c → IsUnread b c → b.possible ≤ b.unknown * 2 ^ b.taken c
share_there a b same role share c is u =
    let u' = unread_there b a (turned a b same) c u in
    let here = share c (read_for_there b a (turned a b same) role c u.column is) u' in
    subst (λ t. b.possible ≤ b.unknown * 2 ^ t) (same.taken c u'.column)
    (subst (λ n. b.possible ≤ n * 2 ^ a.taken c) same.unknown (subst (λ m. m ≤ a.unknown * 2 ^ a.taken c) same.possible here))

less_parted_there : (a b : Outlook) → AreSame a b → IsLessParted a → IsLessParted b
less_parted_there a b same is = record {
  some = subst (λ n. 0 < n) same.unknown is.some;
  keys = share_there a b same Group is.keys;
  values = share_there a b same Value is.values;
}

parts_there : (a b : Outlook) → AreSame a b → PartsRows a → PartsRows b
parts_there a b same parts = record { filter = left_there a b same Filter parts.filter; first = by parts.first }
  where
    back : (role : Role) → ¬ HasLeftFor role a → ¬ HasLeftFor role b
    back role none some = none (left_there b a (turned a b same) role some)

    by : IsLessParted a ⊎ ((¬ HasLeftFor Group a) × (¬ HasLeftFor Value a)) → IsLessParted b ⊎ ((¬ HasLeftFor Group b) × (¬ HasLeftFor Value b))
    by (inl less) = inl (less_parted_there a b same less)
    by (inr (no_group, no_value)) = inr (back Group no_group, back Value no_value)

least_there : (a b : Outlook) → AreSame a b → (role : Role) (c : ℕ) → IsLeastTakenOf (IsReadFor a role) a c → IsLeastTakenOf (IsReadFor b role) b c
least_there a b same role c is = record {
  of_sort = read_for_there a b same role c is.unread.column is.of_sort;
  unread = unread_there a b same c is.unread;
  least = λ d h u. (
      let u' = unread_there b a (turned a b same) d u in
      let least = is.least d (read_for_there b a (turned a b same) role d u.column h) u' in
      let here = same.taken c is.unread.column in
      let there = same.taken d u'.column in
      omega (arith, least, here, there));
  first = λ d less h u. (
      let u' = unread_there b a (turned a b same) d u in
      let fewer = is.first d less (read_for_there b a (turned a b same) role d u.column h) u' in
      let here = same.taken c is.unread.column in
      let there = same.taken d u'.column in
      omega (arith, fewer, here, there));
}

balanced_there : (a b : Outlook) → AreSame a b → (c : ℕ) → IsBalanced a c → IsBalanced b c
balanced_there a b same c is = record {
  unread = unread_there a b same c is.unread;
  filter = λ parts. least_there a b same Filter c (is.filter (back parts));
  group = λ none some. least_there a b same Group c (is.group (no_parts none) (left_there b a (turned a b same) Group some));
  value = λ none no_group. least_there a b same Value c (is.value (no_parts none) (λ some. no_group (left_there a b same Group some)));
}
  where
    back : PartsRows b → PartsRows a
    back parts = parts_there b a (turned a b same) parts

    no_parts : ¬ PartsRows b → ¬ PartsRows a
    no_parts none parts = none (parts_there a b same parts)

pub same_choice : (policy : Policy) (a b : Outlook) → AreSame a b → (c : ℕ) → Chooses policy a c → Chooses policy b c
same_choice (By Widest) a b same c is = widest_there a b same (IsOf a None) (IsOf b None) (λ d h x. tt) (λ d h x. tt) c is
same_choice (By InOrder) a b same c is = first_there a b same c is
same_choice (By FilterFirst) a b same c is = filter_first_there a b same c is
same_choice (By Balanced) a b same c is = balanced_there a b same c is
same_choice (Listed list) a b same c is = record { next = subst (λ n. slice_get list n ≡ Some c) same.read is.next; unread = unread_there a b same c is.unread }

-- what is chosen has an unread plane
pub choice_is_unread : (policy : Policy) (o : Outlook) (c : ℕ) → Chooses policy o c → IsUnread o c
choice_is_unread (By Widest) o c is = is.unread
choice_is_unread (By InOrder) o c is = is.unread
choice_is_unread (By FilterFirst) o c is = is.unread
choice_is_unread (By Balanced) o c is = is.unread
choice_is_unread (Listed list) o c is = is.unread
