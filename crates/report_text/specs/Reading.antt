-- Keys that are read and written column by column.
use Rattle.std.specs.Prelude.{◌≡◌, ◌<◌, ℕ, List, ◌++◌, codes, length, map}
use Rattle.std.specs.List.{All, flat_map}
use Rattle.report_text.specs.Keys.{IsShownSpan, keys_text, span_text}
use Rattle.report_text.specs.declared.keys.ShownSpan.{ShownSpan}

-- the first columns are read, and the text of the others, of which there are some, is left
pub record IsReadTo (keys read : List ShownSpan) (left : List ℕ) : Type 0 where
  pub others : List ShownSpan
  pub split : keys ≡ read ++ others
  pub some : 0 < length others
  pub each : All IsShownSpan others
  pub text : keys_text others ≡ left

-- the texts of the columns behind the first
abbrev pub others_text : List ShownSpan → List ℕ
others_text keys = flat_map (λ next. codes ", " ++ next) (map span_text keys)
