-- That an item of groups has no answer but a text, where no part says another.
use Rattle.std.proofs.Common.{◌≡◌, ℕ, zero, suc, Bool, true, false, List, [], ◌∷◌, get_or, map, slice_get, Option, Some, None, refl, sym, ap, ◌∙◌, subst, inl, inr, if◌then◌else◌, arith, All}
use Rattle.std.proofs.lemmas.Bool.{false≢true}
use Rattle.std.proofs.lemmas.List.Elements.{All-head, All-tail}
use Rattle.std.proofs.lemmas.Option.{get_or_from_slice_get, none-some}
use Rattle.std.specs.Option.{option_map}
use Rattle.query_kinds.specs.declared.beside.Beside.{Beside}
use Rattle.query_model.specs.Bounds.{nullity_of}
use Rattle.query_model.specs.declared.bounds.Bound.{Bound}
use Rattle.query_model.specs.declared.bounds.Nullity.{Nullity}
use Rattle.query_model.specs.declared.bounds.Nullity.TheVariants.{Never, Possibly, Always}
use Rattle.query_model.specs.declared.query.ItemKind.{ItemKind}
use Rattle.query_model.specs.declared.query.ItemKind.TheVariants.{Count, Sum, Min, Max, Avg}
use Rattle.report_text.specs.declared.answers.Answer.{Answer}
use Rattle.report_text.specs.declared.answers.Answer.TheVariants as report
use Rattle.report_text.specs.declared.bounds.ShownBound.{ShownBound}
use Rattle.report_text.specs.declared.text_answers.TextAnswer.{TextAnswer}
use Rattle.shard_bounds.specs.Combined.{combined, pair_by_word, pair_of_shard, pairs_of_shards}
use Rattle.shard_groups.specs.Found.{line_over, lines_over}
use Rattle.shard_groups.specs.Groups as cells
use Rattle.shard_groups.specs.Groups.{Said, Value, all_keys, bound_at, bound_over, cells_within, no_rows, only, said_over, share, share_by, shares, uncertain, wider, wider_by}
use Rattle.shard_groups.specs.Keys.{is_within}
use Rattle.shard_groups.specs.declared.cells.Cell.{Cell}
use Rattle.shard_groups.specs.declared.keys.Span.{Span}
use Rattle.text_extremes.specs.declared.extreme.Extreme.{Extreme}
use Rattle.part_groups.specs.Forms.{form_at}
use Rattle.part_groups.specs.Laws.{IsGroupOf}
use Rattle.part_groups.specs.Shown.{answer_in, form_for, group_in}
use Rattle.part_groups.specs.Texts.{extreme_of, texts_over}
use Rattle.part_groups.specs.Whole.{cell_by, cells_by, groups_over, item_by, told_line}
use Rattle.part_groups.specs.declared.forms.EndsForm.{EndsForm}
use Rattle.part_groups.specs.declared.group.Group.{Group}
use Rattle.report_parts.proofs.BesideGroups.{answered, value_by}
use Rattle.report_parts.proofs.GroupBesides.{says}
use Rattle.report_parts.specs.Beside.{answer_by, group_beside, told_at}
use Rattle.report_parts.specs.Combined.{is_possible, may_answer}
use Rattle.report_parts.specs.Entries.{no_answer}
use Rattle.report_parts.specs.GroupHeadline.{HasNoOther, HaveNoOther}

-- ---- what the parts say

always : (null : Nullity) → is_possible null ≡ false → null ≡ Always
always Never e = absurd (false≢true (sym e))
always Possibly e = absurd (false≢true (sym e))
always Always e = refl

null_at : (item : ℕ) (answers : List Answer) → may_answer (told_at item answers) ≡ false →
    (cells.value_by (slice_get (map item_by answers) item)).null ≡ Always
null_at item [] e = refl
null_at zero (report.Value shown ∷ answers) e = always shown.bound.null e
null_at zero (report.Average shown ∷ answers) e = refl
null_at (suc item) (answer ∷ answers) e = null_at item answers e

-- each of these cells says that there is no answer
abbrev AreNull : ℕ → List Cell → Type 0
AreNull item [] = Unit {0}
AreNull item (cell ∷ cells) = ((bound_at item cell).null ≡ Always) × AreNull item cells

abbrev AreAllNull : ℕ → List (List Cell) → Type 0
AreAllNull item [] = Unit {0}
AreAllNull item (shard ∷ shards) = AreNull item shard × AreAllNull item shards

of_groups : (item : ℕ) (groups : List Group) → All (HasNoOther item) groups → AreNull item (map cell_by groups)
of_groups item [] h = tt
of_groups item (group ∷ groups) h =
    (null_at item group.answers (All-head (HasNoOther item) group groups h), of_groups item groups (All-tail (HasNoOther item) group groups h))

of_parts : (item : ℕ) (parts : List (List Group)) → HaveNoOther item parts → AreAllNull item (cells_by parts)
of_parts item [] h = tt
of_parts item (groups ∷ parts) h =
    (of_groups item groups (All-head (λ gs. All (HasNoOther item) gs) groups parts h), of_parts item parts (All-tail (λ gs. All (HasNoOther item) gs) groups parts h))

within_by : (is : Bool) (item : ℕ) (cell : Cell) (cells : List Cell) → (bound_at item cell).null ≡ Always → AreNull item cells →
    AreNull item (if is then cell ∷ cells else cells)
within_by true item cell cells own h = (own, h)
within_by false item cell cells own h = h

within : (item : ℕ) (line : List Span) (cells : List Cell) → AreNull item cells → AreNull item (cells_within line cells)
within item line [] h = tt
within item line (cell ∷ cells) h = within_by (is_within cell.keys line) item cell (cells_within line cells) h.0 (within item line cells h.1)

-- ---- what is said over all parts

-- without rows the least or the greatest is null, and it is a value
record IsOfValues (kind : ItemKind) : Type 0 where
  pub none : (no_rows kind).null ≡ Always
  pub widens : (a b : Bound) → wider kind a b ≡ wider_by a.null b.null a b
  pub combines : (bounds : List Bound) → (combined kind bounds).null ≡ nullity_of (pairs_of_shards bounds)
  pub said : (item : ℕ) (line : List Span) (shards : List (List Cell)) → said_over kind item line shards ≡ Value (bound_over kind item line shards)

of_values : (kind : ItemKind) (extreme : Extreme) → extreme_of kind ≡ Some extreme → IsOfValues kind
of_values Count extreme e = absurd (none-some extreme e)
of_values Sum extreme e = absurd (none-some extreme e)
of_values Min extreme e = record { none = refl; widens = λ a b. refl; combines = λ bounds. refl; said = λ item line shards. refl }
of_values Max extreme e = record { none = refl; widens = λ a b. refl; combines = λ bounds. refl; said = λ item line shards. refl }
of_values Avg extreme e = absurd (none-some extreme e)

-- the answer of the item, which is null
record IsNull (item : ℕ) (group : Group) : Type 0 where
  pub shown : ShownBound
  pub of_item : slice_get group.answers item ≡ Some (report.Value shown)
  pub null : shown.bound.null ≡ Always

module _ (kind : ItemKind) (of_kind : IsOfValues kind) (item : ℕ) where
  uncertain_null : (cells : List Cell) → AreNull item cells → (uncertain kind (map (bound_at item) cells)).null ≡ Always
  uncertain_null [] h = of_kind.none
  uncertain_null (cell ∷ cells) h =
      let rest = uncertain kind (map (bound_at item) cells) in
      ap (λ (bound : Bound). bound.null) (of_kind.widens (bound_at item cell) rest)
      ∙ ap (λ (null : Nullity). (wider_by null rest.null (bound_at item cell) rest).null) h.0
      ∙ uncertain_null cells h.1

  share_null : (line : List Span) (cells : List Cell) → AreNull item cells → (share_by kind item (only line cells) cells).null ≡ Always
  share_null line [] h = of_kind.none
  share_null line (cell ∷ []) h = by (is_within line cell.keys)
    where
      by : (is : Bool) → (share_by kind item (if is then Some cell else None) (cell ∷ [])).null ≡ Always
      by true = h.0
      by false = uncertain_null (cell ∷ []) h
  share_null line (cell ∷ next ∷ cells) h = uncertain_null (cell ∷ next ∷ cells) h

  no_pairs : (line : List Span) (shards : List (List Cell)) → AreAllNull item shards → pairs_of_shards (shares kind item line shards) ≡ []
  no_pairs line [] h = refl
  no_pairs line (shard ∷ shards) h =
      let bound = share kind item line shard in
      let none : pair_of_shard bound ≡ None =
      ap (λ (null : Nullity). pair_by_word null bound.lo bound.hi) (share_null line (cells_within line shard) (within item line shard h.0)) in
      rw (none, no_pairs line shards h.1) refl

  module _ (kinds : List ItemKind) (there : slice_get kinds item ≡ Some kind) (columns items : List (Option EndsForm))
      (texts : List Span → List (Option TextAnswer)) (shards : List (List Cell)) (all_null : AreAllNull item shards) where
    null_line : (keys : List Span) → IsNull item (group_in columns items texts (told_line (line_over kinds shards keys)))
    null_line keys =
        let bound = bound_over kind item keys shards in
        record {
          shown = record { form = form_for bound.null (form_at item items); bound = bound };
          of_item = answered 0 item item items kinds kind keys shards (omega arith) there
              ∙ ap (λ (said : Said). Some (answer_in (form_at item items) said)) (of_kind.said item keys shards);
          null = of_kind.combines (shares kind item keys shards) ∙ ap nullity_of (no_pairs keys shards all_null);
        }

    null_lines : (lines : List (List Span)) (group : Group) →
        IsGroupOf group (map (λ line. group_in columns items texts (told_line line)) (map (line_over kinds shards) lines)) → IsNull item group
    null_lines [] group is = absurd is
    null_lines (keys ∷ lines) group (inl same) = subst (IsNull item) (sym same) (null_line keys)
    null_lines (keys ∷ lines) group (inr is) = null_lines lines group is

-- so it is of the group that is printed
pub no_other : (besides : List (Option Beside)) (columns : ℕ) (kinds : List ItemKind) (parts : List (List Group)) (kind : ItemKind) (extreme : Extreme)
    (item : ℕ) (alone : Group) → slice_get kinds item ≡ Some kind → extreme_of kind ≡ Some extreme → HaveNoOther item parts →
    IsGroupOf alone (groups_over columns kinds parts) → HasNoOther item (group_beside besides alone)
no_other besides columns kinds parts kind extreme item alone there asked none is =
    let said = null_lines kind (of_values kind extreme asked) item kinds there _ _ (texts_over kinds parts) (cells_by parts) (of_parts item parts none)
    (lines_over (all_keys (cells_by parts))) alone is in
    let printed = says besides alone item ∙ ap (option_map (answer_by alone.answers (get_or besides item None))) said.of_item
    ∙ ap Some (value_by alone.answers (get_or besides item None) said.shown) in
    ap (λ (answer : Answer). may_answer answer)
    (get_or_from_slice_get (group_beside besides alone).answers item (report.Value said.shown) no_answer printed)
    ∙ ap is_possible said.null
