-- Intervals of values: decimals, days or texts, between which an answer lies, and whether it may be null.
use Rattle.std.specs.Prelude.{◌≡◌, ◌≢◌, ◌⊎◌, Bool, not, List, [], ◌++◌, ℕ, codes, decimal, IsTrue}
use Rattle.std.specs.declared.option.Option.{Option}
use Rattle.std.specs.declared.option.Option.TheVariants.{Some, None}
use Rattle.std.specs.Ordering.{is_gt, is_some_and}
use Rattle.daq_report.specs.Intervals.{ends_text, interval_text}
use Rattle.query_model.specs.declared.bounds.Nullity.{Nullity}
use Rattle.query_model.specs.declared.bounds.Nullity.TheVariants.{Always, Never}
use Rattle.sql_meaning.specs.Values.{Value, compare}
use Rattle.sql_meaning.specs.Answers.{Share, is_same, is_share_at_most}
use Rattle.sql_meaning.specs.Rows.{text_of}

-- two ends, and whether the answer is never null, possibly or always. In a column of texts without one text an end is no value
pub record Interval : Type 0 where
  pub null : Nullity
  pub low : Option Value
  pub high : Option Value

-- the one value is the other, or comes before it
abbrev pub is_at_most : Value → Value → Bool
is_at_most u v = is_some_and (λ o. not (is_gt o)) (compare u v)

-- the same of ends
abbrev pub IsAtMost : Option Value → Option Value → Type 0
IsAtMost low high = (u v : Value) → low ≡ Some u → high ≡ Some v → IsTrue (is_at_most u v)

-- the value lies in the interval, or it may be null
abbrev pub Encloses : Interval → Option Value → Type 0
Encloses interval None = interval.null ≢ Never
Encloses interval (Some v) = (interval.null ≢ Always) × IsAtMost interval.low (Some v) × IsAtMost (Some v) interval.high

-- the interval is the value alone
abbrev pub IsAlone : Interval → Option Value → Type 0
IsAlone interval None = interval.null ≡ Always
IsAlone interval (Some v) =
    (interval.null ≡ Never) × IsTrue (is_same interval.low (Some v)) × IsTrue (is_same interval.high (Some v))

-- the new interval lies inside the old one
pub record LiesInside (old new : Interval) : Type 0 where
  pub null : new.null ≢ Never → old.null ≢ Never
  pub full : new.null ≢ Always → old.null ≢ Always
  pub low : new.null ≢ Always → IsAtMost old.low new.low
  pub high : new.null ≢ Always → IsAtMost new.high old.high

-- ---- averages

-- the same of averages: each end is a value over a count
pub record Shares : Type 0 where
  pub null : Nullity
  pub low : Share
  pub high : Share

abbrev pub EnclosesShare : Shares → Option Share → Type 0
EnclosesShare shares None = shares.null ≢ Never
EnclosesShare shares (Some share) =
    (shares.null ≢ Always) × IsTrue (is_share_at_most shares.low share) × IsTrue (is_share_at_most share shares.high)

-- one value over one count
abbrev pub IsSameShare : Share → Share → Type 0
IsSameShare a b = IsTrue (is_same (Some a.total) (Some b.total)) × (a.count ≡ b.count)

abbrev pub IsShareAlone : Shares → Option Share → Type 0
IsShareAlone shares None = shares.null ≡ Always
IsShareAlone shares (Some share) = (shares.null ≡ Never) × IsSameShare shares.low share × IsSameShare shares.high share

pub record ShareLiesInside (old new : Shares) : Type 0 where
  pub null : new.null ≢ Never → old.null ≢ Never
  pub full : new.null ≢ Always → old.null ≢ Always
  pub low : new.null ≢ Always → IsTrue (is_share_at_most old.low new.low)
  pub high : new.null ≢ Always → IsTrue (is_share_at_most new.high old.high)

-- ---- texts

-- the text of an end is that of its value; what is no value has `-`, or nothing
abbrev pub IsEndText : Option Value → List ℕ → Type 0
IsEndText None text = (text ≡ codes "-") ⊎ (text ≡ [])
IsEndText (Some v) text = text ≡ text_of v

-- the text shows the interval: one value where its ends are one, else both, as they are put together, and whether the answer may be null
pub record ShowsBy (together : Bool → List ℕ → List ℕ → List ℕ) (interval : Interval) (text : List ℕ) : Type 0 where
  pub low : List ℕ
  pub high : List ℕ
  pub are_one : Bool
  pub low_end : IsEndText interval.low low
  pub high_end : IsEndText interval.high high
  pub one : IsTrue are_one → interval.low ≡ interval.high
  pub written : text ≡ interval_text interval.null (together are_one low high)

abbrev pub Shows : Interval → List ℕ → Type 0
Shows = ShowsBy ends_text

-- a value over a count, as `12.5/3`
abbrev pub text_of_share : Share → List ℕ
text_of_share share = text_of share.total ++ (codes "/" ++ decimal share.count)

-- the text shows the averages in the same way
pub record ShowsShares (shares : Shares) (text : List ℕ) : Type 0 where
  pub are_one : Bool
  pub one : IsTrue are_one → shares.low ≡ shares.high
  pub written : text ≡ interval_text shares.null (ends_text are_one (text_of_share shares.low) (text_of_share shares.high))
