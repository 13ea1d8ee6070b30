-- How the ends of an interval are laid out in a line.
use Rattle.std.specs.Prelude.{◌≡◌, ◌≢◌, ℕ, ◌<◌, ◌||◌, nat_lt, Bool, false, List, [], ◌∷◌, ◌++◌, codes, length, drop}
use Rattle.std.specs.declared.option.Option.{Option}
use Rattle.std.specs.declared.option.Option.TheVariants.{Some, None}
use Rattle.std.specs.List.{before_first, position_or_len}
use Rattle.query_model.specs.declared.bounds.Nullity.{Nullity}
use Rattle.query_model.specs.declared.bounds.Nullity.TheVariants.{Never, Possibly, Always}
use Rattle.report_text.specs.Words.{ends_text, interval_text}
use Rattle.report_text.specs.declared.layouts.Layout.{Layout}

-- a byte that stands in no text of a number: all but digits, `-`, `.` and `/`
abbrev pub is_other : ℕ → Bool
is_other c = nat_lt c 45 || nat_lt 57 c

-- the front of a text without such a byte, and what stands behind it
abbrev pub plain_front : List ℕ → List ℕ
plain_front text = before_first is_other text

abbrev pub behind_front : List ℕ → List ℕ
behind_front text = drop (position_or_len is_other text) text

-- no byte of the text passes the test
abbrev pub Fails : (ℕ → Bool) → List ℕ → Type 0
Fails test [] = Unit {0}
Fails test (c ∷ cs) = (test c ≡ false) × Fails test cs

-- a text of a number or a fraction
pub record IsEnd (text : List ℕ) : Type 0 where
  pub plain : Fails is_other text
  pub some : 0 < length text

-- what stands behind the ends
abbrev pub tail_text : Nullity → List ℕ
tail_text Never = []
tail_text Possibly = codes " or null"
tail_text Always = []

-- two ends behind a bracket, and one end
abbrev pub bracketed_text : Nullity → List ℕ → List ℕ → List ℕ
bracketed_text null low high = low ++ (codes ", " ++ (high ++ (codes "]" ++ tail_text null)))

abbrev pub single_text : Nullity → List ℕ → List ℕ
single_text null end = end ++ tail_text null

-- the word of what stands behind the ends
pub record IsTail (null : Nullity) (text : List ℕ) : Type 0 where
  pub some : null ≢ Always
  pub is : tail_text null ≡ text

-- the text that is laid out so
abbrev pub laid_text : Layout → List ℕ
laid_text layout = interval_text layout.null (ends_text layout.single layout.low.now layout.high.now)

-- the layout has this word and, where there may be an answer, these ends, as one or as two
pub record IsLaid (null : Nullity) (single : Bool) (low high : List ℕ) (layout : Layout) : Type 0 where
  pub word : layout.null ≡ null
  pub single_so : null ≢ Always → layout.single ≡ single
  pub ends : null ≢ Always → (layout.low.now ≡ low) × (layout.high.now ≡ high)

abbrev pub HasLayout : Nullity → Bool → List ℕ → List ℕ → Option Layout → Type 0
HasLayout null single low high None = ⊥
HasLayout null single low high (Some layout) = IsLaid null single low high layout
