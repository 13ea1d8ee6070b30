-- The pair of a row, where the item has a clip.
use Rattle.std.proofs.Common.{◌≡◌, ◌≢◌, ℕ, ℤ, ◌≤ℤ◌, Bool, true, false, cond, ◌&&◌, [], ◌⊎◌, inl, inr, refl, sym, ap, subst, ◌∙◌, arith, IsTrue, IsFalse, Option, Some, None}
use Rattle.std.proofs.lemmas.Bool.{and_parts, false≢true}
use Rattle.std.proofs.lemmas.Int.{ints, clamps}
use Rattle.std.proofs.lemmas.Option.{same_Some}
use Rattle.interval_calc.specs.Intervals.{Interval, Within}
use Rattle.daq_table.specs.Tables.{Frame}
use Rattle.query_model.specs.declared.bounds.Nullity.{Nullity}
use Rattle.query_model.specs.declared.bounds.Nullity.TheVariants.{Never, Possibly, Always}
use Rattle.query_model.specs.declared.bounds.Truth.{Truth}
use Rattle.query_model.specs.declared.bounds.Truth.TheVariants.{False, Unknown, True}
use Rattle.query_model.specs.declared.query.ItemKind.{ItemKind}
use Rattle.query_model.specs.declared.query.ItemKind.TheVariants.{Count, Sum, Min, Max, Avg}
use Rattle.query_model.specs.declared.query.Shape.{Shape}
use Rattle.query_model.specs.declared.query.Shape.TheVariants.{Plain, Grouped, Top}
use Rattle.query_model.specs.Answers.{in_group, groups_of, outcome_of}
use Rattle.query_model.specs.Bounds.{Pair, pair_by, pair_of, pair_unless_false, truth_of_group}
use Rattle.query_model.specs.Knowledge.{Knowledge, ranges_of}
use Rattle.query_model.specs.Laws.{NoneEmpty}
use Rattle.query_model.specs.Meaning.{Row, holds, val}
use Rattle.query_model.specs.Queries.{Aggregate, Condition, Query, Term, Column, Literal, Add, Sub, Mul}
use Rattle.query_model.specs.Truths.{Ranges, and_of, may_be_null, may_be_number, null_of, span_of, truth_among, truth_of, truth_of_number, truths_of}
use Rattle.query_model.proofs.Spans.{declared_outside}
use Rattle.query_model.proofs.Numbers.{Allows}
use Rattle.clip_bounds.specs.declared.clip.Clip.{Clip}
use Rattle.clip_bounds.specs.Clips.{IsLong, clip_in, clip_of, clip_of_argument, is_clipped_kind, is_plain, stands_beside}
use Rattle.clip_bounds.specs.Clipped.{clipped}
use Rattle.clip_bounds.specs.ClipLaws.{IsOfLongs}
use Rattle.clip_bounds.proofs.Passing.{HasNumberIn, HasNumbers, column_of_clip, holds_within, may_hold_within, no_clip, range_of_clip}

-- ---- the query of an item with a clip

pub record IsClippedBy (query : Query) (item : Aggregate) (clip : Clip) : Type 0 where
  pub shape : query.shape ≡ Plain
  pub kind : IsTrue (is_clipped_kind item.kind)
  pub argument : item.arg ≡ Column clip.column
  pub beside : IsFalse (stands_beside query.pred clip.column)
  pub range : clip_in query.pred clip.column ≡ Some clip

-- a choice that is a clip is the first of two
first_of_two : (b : Bool) (o : Option Clip) (clip : Clip) → cond b o None ≡ Some clip → IsTrue b × (o ≡ Some clip)
first_of_two true o clip e = (refl, e)
first_of_two false o clip e = absurd (no_clip clip e)

-- or the second
second_of_two : (b : Bool) (o : Option Clip) (clip : Clip) → cond b None o ≡ Some clip → IsFalse b × (o ≡ Some clip)
second_of_two true o clip e = absurd (no_clip clip e)
second_of_two false o clip e = (refl, e)

plain_shape : (shape : Shape) → IsTrue (is_plain shape) → shape ≡ Plain
plain_shape Plain h = refl
plain_shape (Grouped columns) h = absurd (false≢true h)
plain_shape (Top key down limit) h = absurd (false≢true h)

-- the argument is the clip's column
record IsArgument (pred : Condition) (arg : Term) (clip : Clip) : Type 0 where
  pub column : arg ≡ Column clip.column
  pub beside : IsFalse (stands_beside pred clip.column)
  pub range : clip_in pred clip.column ≡ Some clip

argument_of : (pred : Condition) (arg : Term) (clip : Clip) → clip_of_argument pred arg ≡ Some clip → IsArgument pred arg clip
argument_of pred (Column c) clip e =
    let own = second_of_two (stands_beside pred c) (clip_in pred c) clip e in
    let column = column_of_clip pred c clip own.1 in
    record {
      column = ap (λ d. Column d) (sym column);
      beside = subst (λ d. IsFalse (stands_beside pred d)) (sym column) own.0;
      range = subst (λ d. clip_in pred d ≡ Some clip) (sym column) own.1;
    }
argument_of pred (Literal n) clip e = absurd (no_clip clip e)
argument_of pred (Add a b) clip e = absurd (no_clip clip e)
argument_of pred (Sub a b) clip e = absurd (no_clip clip e)
argument_of pred (Mul a b) clip e = absurd (no_clip clip e)

pub clipped_by : (query : Query) (item : Aggregate) (clip : Clip) → clip_of query item ≡ Some clip → IsClippedBy query item clip
clipped_by query item clip e =
    let both = first_of_two (is_plain query.shape && is_clipped_kind item.kind) (clip_of_argument query.pred item.arg) clip e in
    let tests = and_parts (is_plain query.shape) (is_clipped_kind item.kind) both.0 in
    let argument = argument_of query.pred item.arg clip both.1 in
    record { shape = plain_shape query.shape tests.0; kind = tests.1; argument = argument.column; beside = argument.beside; range = argument.range }

pub not_average : (kind : ItemKind) → IsTrue (is_clipped_kind kind) → kind ≢ Avg
not_average Count h e = false≢true h
not_average Sum h e = cc
not_average Min h e = cc
not_average Max h e = cc
not_average Avg h e = false≢true h

-- ---- a row's pair

pub and_true : (t : Truth) → and_of t True ≡ t
and_true False = refl
and_true Unknown = refl
and_true True = refl

-- the pair by the condition and the column alone
pub column_pair : (query : Query) (item : Aggregate) (clip : Clip) (ranges : Ranges) → IsClippedBy query item clip →
    pair_of query item [] ranges ≡ pair_unless_false (and_of (truth_of query.pred ranges) (truth_of_number (ranges clip.column).null)) (ranges clip.column).numbers
column_pair query item clip ranges own =
    ap (λ (shape : Shape). pair_by (and_of (truth_of query.pred ranges) (truth_of_group (groups_of shape) [] ranges)) item ranges) own.shape
    ∙ ap (λ t. pair_by t item ranges) (and_true (truth_of query.pred ranges))
    ∙ ap (λ e. pair_unless_false (and_of (truth_of query.pred ranges) (truth_of_number (null_of e ranges))) (span_of e ranges)) own.argument

-- what a pair says
pub record IsPairOf (t : Truth) (w : Nullity) (span : Interval) (p : Pair) : Type 0 where
  pub low : p.low ≡ span.low
  pub high : p.high ≡ span.high
  pub holds : Allows t true
  pub number : IsTrue (may_be_number w)
  pub certain : IsTrue p.certain → t ≡ True
  pub uncertain : IsFalse p.certain → Allows t false ⊎ IsTrue (may_be_null w)

pub no_pair : (p : Pair) → None ≡ Some p → ⊥
no_pair p e = cc

pub pair_is : (t : Truth) (w : Nullity) (span : Interval) (p : Pair) → pair_unless_false (and_of t (truth_of_number w)) span ≡ Some p → IsPairOf t w span p
pair_is False w span p e = absurd (no_pair p e)
pair_is Unknown Always span p e = absurd (no_pair p e)
pair_is True Always span p e = absurd (no_pair p e)
pair_is Unknown Possibly span p e = subst (IsPairOf Unknown Possibly span) (same_Some _ p e)
    (record { low = refl; high = refl; holds = tt; number = refl; certain = λ h. absurd (false≢true h); uncertain = λ h. inl tt })
pair_is Unknown Never span p e = subst (IsPairOf Unknown Never span) (same_Some _ p e)
    (record { low = refl; high = refl; holds = tt; number = refl; certain = λ h. absurd (false≢true h); uncertain = λ h. inl tt })
pair_is True Possibly span p e = subst (IsPairOf True Possibly span) (same_Some _ p e)
    (record { low = refl; high = refl; holds = refl; number = refl; certain = λ h. refl; uncertain = λ h. inr refl })
pair_is True Never span p e = subst (IsPairOf True Never span) (same_Some _ p e)
    (record { low = refl; high = refl; holds = refl; number = refl; certain = λ h. refl; uncertain = λ h. absurd (false≢true (sym h)) })

pub pair_at_row : (query : Query) (item : Aggregate) (clip : Clip) (ranges : Ranges) (p : Pair) → IsClippedBy query item clip → pair_of query item [] ranges ≡ Some p →
    IsPairOf (truth_of query.pred ranges) (ranges clip.column).null (ranges clip.column).numbers p
pair_at_row query item clip ranges p own e = pair_is _ _ _ p (sym (column_pair query item clip ranges own) ∙ e)

-- ---- numbers of the column are of 64 bits

pub long_number : (frame : Frame) (known : Knowledge) (r c : ℕ) (x : ℤ) → IsOfLongs frame c → Within (ranges_of frame known r c).numbers x → IsLong x
long_number frame known r c x longs within =
    let outside = declared_outside frame known r c in
    let low = outside.low in
    let high = outside.high in
    let base = longs.base in
    let top = longs.top in
    let above = within.above in
    let below = within.below in
    (omega (arith, ints), omega (arith, ints))

-- ---- what the row gives

-- a condition that is allowed to hold may be true
pub may_hold : (h f n : Bool) → Allows (truth_among (record { may_hold = h; may_fail = f; may_be_null = n })) true → IsTrue h
may_hold true f n a = refl
may_hold false f n a = absurd (false≢true (sym a))

-- where the clip has numbers, a clipped pair is not empty: some number of its span lies in the clip
pub passing_number : (query : Query) (item : Aggregate) (clip : Clip) (ranges : Ranges) (p : Pair) → IsClippedBy query item clip → HasNumbers clip → NoneEmpty ranges →
    ((x : ℤ) → Within (ranges clip.column).numbers x → IsLong x) → pair_of query item [] ranges ≡ Some p → HasNumberIn clip (ranges clip.column)
passing_number query item clip ranges p own full o long e =
    let is = pair_at_row query item clip ranges p own e in
    let truths = truths_of query.pred ranges in
    may_hold_within query.pred clip.column clip ranges own.range full o long (may_hold truths.may_hold truths.may_fail truths.may_be_null is.holds)

pub clipped_ordered : (query : Query) (item : Aggregate) (clip : Clip) (frame : Frame) (known : Knowledge) (r : ℕ) (p : Pair) → IsClippedBy query item clip → HasNumbers clip → IsOfLongs frame clip.column → NoneEmpty (ranges_of frame known r) →
    pair_of query item [] (ranges_of frame known r) ≡ Some p → (clipped clip p).low ≤ℤ (clipped clip p).high
clipped_ordered query item clip frame known r p own full longs o e =
    let ranges = ranges_of frame known r in
    let is = pair_at_row query item clip ranges p own e in
    let found = passing_number query item clip ranges p own full o (λ x w. long_number frame known r clip.column x longs w) e in
    let there : Within (ranges clip.column).numbers found.number = found.there.1 in
    let low = is.low in
    let high = is.high in
    let above = there.above in
    let below = there.below in
    let from = found.within.above in
    let to = found.within.below in
    omega (arith, ints, clamps)

pub and_one : (b : Bool) → (b && true) ≡ b
and_one true = refl
and_one false = refl

-- what passes is the column's number
pub outcome_is : (query : Query) (item : Aggregate) (clip : Clip) (row : Row) → IsClippedBy query item clip → outcome_of query item [] row ≡ cond (holds query.pred row) (row clip.column) None
outcome_is query item clip row own =
    ap (λ (shape : Shape). cond (holds query.pred row && in_group (groups_of shape) [] row) (val item.arg row) None) own.shape
    ∙ ap (λ e. cond (holds query.pred row && true) (val e row) None) own.argument
    ∙ ap (λ b. cond b (row clip.column) None) (and_one (holds query.pred row))

no_number : (x : ℤ) → None ≡ Some x → ⊥
no_number x e = cc

-- a number that the row gives lies in the clip
pub outcome_within : (query : Query) (item : Aggregate) (clip : Clip) (row : Row) (x : ℤ) → IsClippedBy query item clip → outcome_of query item [] row ≡ Some x → (row clip.column ≡ Some x) × (IsLong x → Within (range_of_clip clip) x)
outcome_within query item clip row x own e = by_test (holds query.pred row) refl (sym (outcome_is query item clip row own) ∙ e)
  where
    by_test : (b : Bool) → holds query.pred row ≡ b → cond b (row clip.column) None ≡ Some x → (row clip.column ≡ Some x) × (IsLong x → Within (range_of_clip clip) x)
    by_test true h is =
        let found = holds_within query.pred clip.column clip row own.range h in
        let same : found.0 ≡ x = same_Some found.0 x (sym found.1 ∙ is) in
        (is, subst (λ z. IsLong z → Within (range_of_clip clip) z) same found.2)
    by_test false h is = absurd (no_number x is)
