-- What the line of a group says of its keys.
use Rattle.std.specs.Prelude.{◌≡◌, ℕ, ◌≤ℤ◌, Bool, true, false, List, [], ◌∷◌, ◌++◌, codes, map, if◌then◌else◌}
use Rattle.std.specs.declared.option.Option.{Option}
use Rattle.std.specs.declared.option.Option.TheVariants.{Some, None}
use Rattle.std.specs.Cmp.Lexicographic.{slice_cmp}
use Rattle.std.specs.List.{flat_map}
use Rattle.std.specs.Ordering.{int_eq, is_le, nat_cmp}
use Rattle.std.specs.Str.{bytes_eq}
use Rattle.daq_table.specs.ValueTexts.{quoted_text}
use Rattle.report_text.specs.Forms.{IsIntervalEnd, text_in}
use Rattle.report_text.specs.declared.keys.ShownEnds.{ShownEnds}
use Rattle.report_text.specs.declared.keys.ShownEnds.TheVariants.{NoText, Texts, Values}
use Rattle.report_text.specs.declared.keys.ShownSpan.{ShownSpan}
use Rattle.report_text.specs.declared.keys.TextEnds.{TextEnds}
use Rattle.report_text.specs.declared.keys.ValueEnds.{ValueEnds}

-- one text where both are equal, else both around two dots
abbrev pub dotted : Bool → List ℕ → List ℕ → List ℕ
dotted equal low high = if equal then low else low ++ (codes ".." ++ high)

-- numbers and dates in their form, texts in quotes, and a dash where a column of texts has none
abbrev pub text_of_ends : ShownEnds → List ℕ
text_of_ends (Values ends) = dotted (int_eq ends.low ends.high) (text_in ends.form ends.low) (text_in ends.form ends.high)
text_of_ends (Texts ends) = dotted (bytes_eq ends.low ends.high) (quoted_text ends.low) (quoted_text ends.high)
text_of_ends NoText = codes "-"

-- these are the texts of both ends
abbrev pub HaveTexts : List ℕ → List ℕ → ShownEnds → Type 0
HaveTexts low high (Values ends) = (text_in ends.form ends.low ≡ low) × (text_in ends.form ends.high ≡ high)
HaveTexts low high (Texts ends) = (quoted_text ends.low ≡ low) × (quoted_text ends.high ≡ high)
HaveTexts low high NoText = ⊥

-- what a key may have in a column: values, null, or both
abbrev pub part_text : Bool → Option ShownEnds → List ℕ
part_text false None = []
part_text true None = codes "null"
part_text false (Some ends) = text_of_ends ends
part_text true (Some ends) = text_of_ends ends ++ codes " or null"

abbrev pub span_text : ShownSpan → List ℕ
span_text span = part_text span.null span.ends

-- texts parted by commas
abbrev pub listed : List (List ℕ) → List ℕ
listed [] = []
listed (text ∷ texts) = text ++ flat_map (λ next. codes ", " ++ next) texts

-- column by column, in order
abbrev pub keys_text : List ShownSpan → List ℕ
keys_text keys = listed (map span_text keys)

-- ---- which of them a report shows

-- numbers or dates of one form, in order
pub record AreValueEnds (ends : ValueEnds) : Type 0 where
  pub low : IsIntervalEnd (record { form = ends.form; value = ends.low })
  pub high : IsIntervalEnd (record { form = ends.form; value = ends.high })
  pub ordered : ends.low ≤ℤ ends.high

-- texts in the order of their bytes
abbrev pub AreTextEnds : TextEnds → Type 0
AreTextEnds ends = is_le (slice_cmp nat_cmp ends.low ends.high) ≡ true

abbrev pub AreShownEnds : ShownEnds → Type 0
AreShownEnds (Values ends) = AreValueEnds ends
AreShownEnds (Texts ends) = AreTextEnds ends
AreShownEnds NoText = Unit {0}

-- something is allowed, and what is allowed is shown
abbrev pub IsShownPart : Bool → Option ShownEnds → Type 0
IsShownPart false None = ⊥
IsShownPart true None = Unit {0}
IsShownPart false (Some ends) = AreShownEnds ends
IsShownPart true (Some ends) = AreShownEnds ends

abbrev pub IsShownSpan : ShownSpan → Type 0
IsShownSpan span = IsShownPart span.null span.ends
