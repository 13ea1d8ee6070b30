-- What the lines of a report say of an item, in each round: where the answer to the item as it is written lies, in each world.
use Rattle.std.specs.Prelude.{◌≡◌, ◌≢◌, ◌⊎◌, ℕ, ◌+◌, ◌<◌, ◌≤◌, ⊤, true, false, List, [], ◌++◌, codes, decimal, IsTrue}
use Rattle.std.specs.List.{filter_map}
use Rattle.std.specs.declared.option.Option.{Option}
use Rattle.std.specs.declared.option.Option.TheVariants.{Some, None}
use Rattle.daq_table.specs.Tables.{Cells}
use Rattle.query_model.specs.declared.bounds.Nullity.TheVariants.{Always, Possibly}
use Rattle.sql_headline.specs.Intervals.{Interval, IsSameShare, Shares}
use Rattle.sql_headline.specs.Spans.{IsIt, IsShown, LiesIn, Narrows, Span, answered, shares, values}
use Rattle.sql_meaning.specs.Answers.{Share, answer, average, group_of, is_same}
use Rattle.sql_meaning.specs.Attained.{AttainsEnds, AttainsKeys, HasTexts}
use Rattle.sql_meaning.specs.Conditions.{Row}
use Rattle.sql_meaning.specs.Expressions.{value}
use Rattle.sql_meaning.specs.Rows.{rows_at}
use Rattle.sql_meaning.specs.Values.{Value}
use Rattle.sql_text.specs.declared.tree.CallKind.TheVariants.{Avg}
use Rattle.sql_text.specs.Tree.{Call, Expr, Item}
use Rattle.run_headline.specs.Readings.{IsAllRead, IsWorld, Reading, Wanted, last_round, rows_in}

-- ---- how far out the ends are

-- in some world of the round this is the answer to the item over the group of a row: a value, or null
pub record Occurs (reading : Reading) (round : ℕ) (item : Item) (one : Row) (v : Option Value) : Type 0 where
  pub world : Cells
  pub is_world : IsWorld reading round world
  pub is : IsTrue (is_same v (answer item (group_of reading.text one (rows_at reading.head world))))

-- each end is the answer in some world, and where the answer may be null it is so in one
pub record IsTight (reading : Reading) (round : ℕ) (item : Item) (one : Row) (interval : Interval) : Type 0 where
  pub low : interval.null ≢ Always → Occurs reading round item one interval.low
  pub high : interval.null ≢ Always → Occurs reading round item one interval.high
  pub null : interval.null ≡ Possibly → Occurs reading round item one None

-- of an average this is not said
abbrev pub IsTightSpan : Reading → ℕ → Item → Row → Span → Type 0
IsTightSpan reading round item one (values interval) = IsTight reading round item one interval
IsTightSpan reading round item one (shares averages) = ⊤

-- in some world of the round this is the average of an expression over the rows at which the condition is true
pub record OccursShare (reading : Reading) (round : ℕ) (e : Expr) (share : Share) : Type 0 where
  pub world : Cells
  pub is_world : IsWorld reading round world
  pub found : Share
  pub is : average (filter_map (value e) (rows_in reading world 0)) ≡ Some found
  pub same : IsSameShare share found

-- the same of the ends of averages
pub record AreTight (reading : Reading) (round : ℕ) (e : Expr) (averages : Shares) : Type 0 where
  pub low : averages.null ≢ Always → OccursShare reading round e averages.low
  pub high : averages.null ≢ Always → OccursShare reading round e averages.high
  pub null : averages.null ≡ Possibly →
      (world : Cells) × IsWorld reading round world × (average (filter_map (value e) (rows_in reading world 0)) ≡ None)

abbrev pub IsTightAverage : Reading → ℕ → Expr → Span → Type 0
IsTightAverage reading round e (values interval) = ⊥
IsTightAverage reading round e (shares averages) = AreTight reading round e averages

-- ---- what a report says of an item

-- the item has these texts, round by round, and in each round its answer lies in a span
pub record Holds (reading : Reading) (item : Item) (attains : Type 0) (texts : ℕ → Option (List ℕ)) : Type 0 where
  pub spans : ℕ → Span
  -- the text shows it
  pub shown : (round : ℕ) → round ≤ last_round reading → (text : List ℕ) → texts round ≡ Some text → IsShown (spans round) text
  -- in each world the answer lies there
  pub lies : (round : ℕ) (world : Cells) (one : ℕ) → IsWorld reading round world →
      LiesIn (spans round) (answered item (rows_in reading world one))
  -- the span lies inside the one before
  pub narrows : (round : ℕ) → round < last_round reading → Narrows (spans round) (spans (round + 1))
  -- with all planes read it is the answer alone
  pub exact : (round : ℕ) → IsAllRead reading round → (world : Cells) (one : ℕ) → IsWorld reading round world →
      IsIt (spans round) (answered item (rows_in reading world one))
  -- where the query attains the ends, and each column of texts has a text, no end is farther out than it must be: it is tight
  pub tight : (round : ℕ) → round ≤ last_round reading → attains → HasTexts reading.head → (one : Row) →
      IsTightSpan reading round item one (spans round)

-- ---- what it says of an item once more

-- behind the line of an item there is another in each round: this, its text, and then lines of rows. The text holds the answer too, in a
-- span inside the item's own
pub record HoldsAgain (reading : Reading) (item : Item) (own : ℕ → Span) (front : List ℕ) (rows : ℕ → List ℕ)
    (behind : ℕ → Option (List ℕ)) : Type 0 where
  pub texts : ℕ → List ℕ
  pub line : (round : ℕ) → behind round ≡ Some (front ++ (texts round ++ (codes "\n" ++ rows round)))
  pub holds : Holds reading item (AttainsKeys reading.head reading.text) (λ round. Some (texts round))
  pub within : (round : ℕ) → round ≤ last_round reading → Narrows (own round) (holds.spans round)

-- behind it there is nothing in each round
abbrev pub HasNone : (ℕ → Option (List ℕ)) → Type 0
HasNone behind = (round : ℕ) → behind round ≡ Some []

-- behind the line of the item at a place there is nothing. But with `--exact-avg` there is such a line of an average, with lines of the
-- rows that its ends take, of which nothing is said, and it is tight where the query attains the ends; and with `--clip` there is such a
-- line of some other items
abbrev pub IsBehind : Reading → Wanted → ℕ → Item → (ℕ → Span) → (ℕ → Option (List ℕ)) → Type 0
IsBehind reading wanted place (Call Avg e) own behind =
    (wanted.exact ≡ false → HasNone behind)
    × (wanted.exact ≡ true →
    (rows : ℕ → List ℕ) × (told : HoldsAgain reading (Call Avg e) own (decimal (place + 1) ++ codes " exact ") rows behind)
    × ((round : ℕ) → round ≤ last_round reading → AttainsEnds reading.head reading.text (Call Avg e) → HasTexts reading.head →
    IsTightAverage reading round e (told.holds.spans round)))
IsBehind reading wanted place item own behind =
    (wanted.clip ≡ false → HasNone behind)
    × (wanted.clip ≡ true →
    HasNone behind ⊎ HoldsAgain reading item own (decimal (place + 1) ++ codes " clip ") (λ round. []) behind)
