-- The block of a query of groups: sections of lines, each for the keys that it may be of.
use Rattle.std.specs.Prelude.{◌≡◌, ℕ, Bool, true, false, List, [], ◌∷◌, ◌++◌, codes}
use Rattle.std.specs.List.{AllZip, list_all}
use Rattle.daq_report.specs.Groups.{dotted, listed}
use Rattle.sql_meaning.specs.Answers.{grouping, is_same}
use Rattle.sql_meaning.specs.Attained.{with_names}
use Rattle.sql_meaning.specs.Conditions.{Row}
use Rattle.sql_text.specs.Tree.{Query}
use Rattle.sql_headline.specs.Intervals.{Encloses, Interval, IsAlone, ShowsBy}
use Rattle.sql_headline.specs.Lined.{lines_of}
use Rattle.sql_headline.specs.Spans.{IsShown, Span}

-- a key is the values of a group in the columns of GROUP BY, its parts. What a section says of some keys: where they lie, part by part;
-- whether they are in the result, or may be; and where the answers of the items lie
pub record Section : Type 0 where
  pub parts : List Interval
  pub present : Bool
  pub spans : List Span

-- ---- its text

-- the text shows where a part lies: one value where its ends are one, else the first and the last
abbrev pub ShowsPart : Interval → List ℕ → Type 0
ShowsPart = ShowsBy dotted

abbrev pub presence : Bool → List ℕ
presence true = codes " present\n"
presence false = codes " possible\n"

-- the text is that of the section: a line of its keys, and one for each item
pub record IsSection (section : Section) (text : List ℕ) : Type 0 where
  pub parts : List (List ℕ)
  pub items : List (List ℕ)
  pub each_part : AllZip ShowsPart section.parts parts
  pub each_item : AllZip IsShown section.spans items
  pub is : text ≡ codes "group " ++ (listed parts ++ (presence section.present ++ lines_of 1 items []))

-- the text is that of the sections, one behind the other
abbrev pub AreSections : List Section → List ℕ → Type 0
AreSections [] text = text ≡ []
AreSections (section ∷ sections) text = (first rest : List ℕ) × (text ≡ first ++ rest) × IsSection section first × AreSections sections rest

-- ---- its keys

-- the values of the row in the columns of GROUP BY, each column once, lie where the section says
abbrev pub IsKeyOf : Section → Query → Row → Type 0
IsKeyOf section q row = AllZip (λ part name. Encloses part (row name.name)) section.parts (with_names [] (grouping q.ending))

-- and are what it says alone
abbrev pub IsKeyAlone : Section → Query → Row → Type 0
IsKeyAlone section q row = AllZip (λ part name. IsAlone part (row name.name)) section.parts (with_names [] (grouping q.ending))

-- two rows have the same values there
abbrev pub is_same_key : Query → Row → Row → Bool
is_same_key q row other = list_all (λ name. is_same (row name.name) (other name.name)) (with_names [] (grouping q.ending))
