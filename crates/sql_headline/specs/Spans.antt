-- Where the answer of an item lies: between two values or, of an average, between two values over counts.
use Rattle.std.specs.Prelude.{List, ℕ}
use Rattle.std.specs.declared.option.Option.{Option}
use Rattle.std.specs.List.{filter_map}
use Rattle.sql_meaning.specs.Answers.{Share, answer, average}
use Rattle.sql_meaning.specs.Conditions.{Row}
use Rattle.sql_meaning.specs.Expressions.{value}
use Rattle.sql_meaning.specs.Values.{Value}
use Rattle.sql_text.specs.declared.tree.CallKind.TheVariants.{Avg}
use Rattle.sql_text.specs.Tree.{Call, Item}
use Rattle.sql_headline.specs.Intervals.{Encloses, EnclosesShare, Interval, IsAlone, IsShareAlone, LiesInside, ShareLiesInside, Shares}
use Rattle.sql_headline.specs.Intervals.{Shows, ShowsShares}

-- what an item answers: a value or null; of an average, a value over a count or null
pub data Answer : Type 0 where
  of_value : Option Value → Answer
  of_share : Option Share → Answer

-- over some rows
abbrev pub answered : Item → List Row → Answer
answered (Call Avg e) rows = of_share (average (filter_map (value e) rows))
answered item rows = of_value (answer item rows)

-- where it lies
pub data Span : Type 0 where
  values : Interval → Span
  shares : Shares → Span

-- the text shows it
abbrev pub IsShown : Span → List ℕ → Type 0
IsShown (values interval) text = Shows interval text
IsShown (shares averages) text = ShowsShares averages text

-- the answer lies there
abbrev pub LiesIn : Span → Answer → Type 0
LiesIn (values interval) (of_value v) = Encloses interval v
LiesIn (values interval) (of_share share) = ⊥
LiesIn (shares averages) (of_value v) = ⊥
LiesIn (shares averages) (of_share share) = EnclosesShare averages share

-- the answer alone does
abbrev pub IsIt : Span → Answer → Type 0
IsIt (values interval) (of_value v) = IsAlone interval v
IsIt (values interval) (of_share share) = ⊥
IsIt (shares averages) (of_value v) = ⊥
IsIt (shares averages) (of_share share) = IsShareAlone averages share

-- the new one lies inside the old one
abbrev pub Narrows : Span → Span → Type 0
Narrows (values old) (values new) = LiesInside old new
Narrows (values old) (shares new) = ⊥
Narrows (shares old) (values new) = ⊥
Narrows (shares old) (shares new) = ShareLiesInside old new
