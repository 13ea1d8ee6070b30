-- The report of groups: in each round a block of sections, and what these say of the groups of each world.
use Rattle.std.specs.Prelude.{◌≡◌, ℕ, ◌+◌, ◌<◌, true, false, IsTrue, List, ◌++◌}
use Rattle.std.specs.List.{AllZip, Contains}
use Rattle.daq_table.specs.Tables.{Cells}
use Rattle.query_model.specs.Meaning.{is_sql_true}
use Rattle.sql_headline.specs.Intervals.{LiesInside}
use Rattle.sql_headline.specs.Sections.{AreSections, IsKeyAlone, IsKeyOf, Section, is_same_key}
use Rattle.sql_headline.specs.Spans.{IsIt, LiesIn, Narrows, answered}
use Rattle.sql_meaning.specs.Answers.{asked}
use Rattle.sql_meaning.specs.Attained.{AttainsEnds, AttainsKeys, HasTexts}
use Rattle.sql_meaning.specs.Conditions.{Row, truth_of_where}
use Rattle.sql_meaning.specs.Rows.{row_at}
use Rattle.run_headline.specs.Answers.{IsTightSpan}
use Rattle.run_headline.specs.Printed.{line_of_round}
use Rattle.run_headline.specs.Readings.{IsAllRead, IsWorld, Reading, rows_in}

-- the condition is true at a row of a world: the group of the row is in the result
pub record IsInResult (reading : Reading) (world : Cells) (row : ℕ) : Type 0 where
  pub within : row < reading.head.rows
  pub counts : IsTrue (is_sql_true (truth_of_where reading.text.pred (row_at reading.head world row)))

-- one of these sections is for the group of a row: the values of the row in the columns of GROUP BY lie where it says
pub record IsFor (reading : Reading) (sections : List Section) (world : Cells) (row : ℕ) (section : Section) : Type 0 where
  pub within : row < reading.head.rows
  pub there : Contains sections section
  pub key : IsKeyOf section reading.text (row_at reading.head world row)

-- a group of the result of a world has these values in the columns of GROUP BY
pub record HasGroup (reading : Reading) (world : Cells) (values : Row) : Type 0 where
  pub row : ℕ
  pub in_result : IsInResult reading world row
  pub same : IsTrue (is_same_key reading.text (row_at reading.head world row) values)

-- what the sections of each round say of the groups is so
pub record HoldsGroups (reading : Reading) (sections : ℕ → List Section) : Type 0 where
  -- each group of the result of a world has a section, so a key without one is in no result
  pub each : (round : ℕ) (world : Cells) (row : ℕ) → IsWorld reading round world →
      IsInResult reading world row → (section : Section) × IsFor reading (sections round) world row section
  -- in each world a section of present keys is for a group of the result
  pub present : (round : ℕ) (section : Section) → Contains (sections round) section →
      section.present ≡ true → (world : Cells) → IsWorld reading round world →
      (row : ℕ) × IsInResult reading world row × IsFor reading (sections round) world row section
  -- where the query attains its keys, and each column of texts has a text, keys that are only possible are in the result of one world and
  -- missing in that of another
  pub possible : (round : ℕ) (world : Cells) (row : ℕ) → IsWorld reading round world →
      (section : Section) → IsFor reading (sections round) world row section → section.present ≡ false →
      AttainsKeys reading.head reading.text → HasTexts reading.head →
      ((other : Cells) × IsWorld reading round other × HasGroup reading other (row_at reading.head world row))
      × ((other : Cells) × IsWorld reading round other × ¬ HasGroup reading other (row_at reading.head world row))
  -- the answers over the rows of a group lie in the spans of its section
  pub lies : (round : ℕ) (world : Cells) (row : ℕ) → IsWorld reading round world →
      (section : Section) → IsFor reading (sections round) world row section →
      AllZip (λ span item. LiesIn span (answered item (rows_in reading world row))) section.spans (asked reading.text.head)
  -- where the query attains the ends of an item, each is the answer over the rows of the group in some world, whose group may have no row
  pub tight : (round : ℕ) (world : Cells) (row : ℕ) → IsWorld reading round world →
      (section : Section) → IsFor reading (sections round) world row section → HasTexts reading.head →
      AllZip (λ span item. AttainsEnds reading.head reading.text item → IsTightSpan reading round item (row_at reading.head world row) span)
      section.spans (asked reading.text.head)
  -- parts and spans lie inside those of the round before
  pub narrows : (round : ℕ) (world : Cells) (row : ℕ) → IsWorld reading (round + 1) world →
      (old new : Section) → IsFor reading (sections round) world row old → IsFor reading (sections (round + 1)) world row new →
      AllZip LiesInside old.parts new.parts × AllZip Narrows old.spans new.spans
  -- with all planes read its keys are present, and its parts and spans are the values of the row and the answers alone
  pub exact : (round : ℕ) → IsAllRead reading round → (world : Cells) (row : ℕ) →
      IsWorld reading round world → (section : Section) → IsFor reading (sections round) world row section →
      (section.present ≡ true) × IsKeyAlone section reading.text (row_at reading.head world row)
      × AllZip (λ span item. IsIt span (answered item (rows_in reading world row))) section.spans (asked reading.text.head)

-- the block has the line of its round, and the sections
pub record HasSections (reading : Reading) (round : ℕ) (sections : List Section) (block : List ℕ) : Type 0 where
  pub text : List ℕ
  pub are : AreSections sections text
  pub is : block ≡ line_of_round reading round ++ text

-- these are the blocks of a query with GROUP BY: their sections hold the groups
pub record HoldsSections (reading : Reading) (block : ℕ → List ℕ) : Type 0 where
  pub sections : ℕ → List Section
  pub shown : (round : ℕ) → HasSections reading round (sections round) (block round)
  pub holds : HoldsGroups reading sections
