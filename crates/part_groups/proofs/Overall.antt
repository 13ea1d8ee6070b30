-- What is found of what the parts tell is a combined report, where they write each column and each item in one form.
use Rattle.std.proofs.Common.{◌≡◌, ◌∙◌, ◌⊎◌, ℕ, zero, suc, ◌+◌, ◌<◌, Bool, true, false, List, [], ◌∷◌, length, map, refl, arith, sym, ap, subst, inl, inr, Option, Some, None, if◌then◌else◌}
use Rattle.std.proofs.lemmas.Bool.{false≢true}
use Rattle.std.specs.List.{range_with_len}
use Rattle.std.proofs.lemmas.List.FromFn.{length-map-range_with_len}
use Rattle.query_model.specs.Bounds.{AverageBound}
use Rattle.query_model.specs.declared.bounds.AverageBound as bounds
use Rattle.query_model.specs.declared.query.ItemKind.{ItemKind}
use Rattle.query_model.specs.declared.query.ItemKind.TheVariants.{Count, Sum, Min, Max, Avg}
use Rattle.report_text.specs.declared.answers.Answer.{Answer}
use Rattle.report_text.specs.declared.answers.Answer.TheVariants as report
use Rattle.shard_bounds.proofs.EqualEnds.{combined_divides}
use Rattle.shard_bounds.proofs.Hulls.{hulls_divide}
use Rattle.shard_bounds.specs.Averages.{AreDivisible, IsDivisible}
use Rattle.shard_groups.specs.Found.{LinesAreFound, line_over, lines_over}
use Rattle.shard_groups.specs.Groups.{AreLinesOver, IsCombined, Said, all_keys, average_at, average_over, average_share, average_share_by, bound_over, cells_within, is_present, keys_in, loosened, only, said_from, said_of, said_over, uncertain_average}
use Rattle.shard_groups.specs.Keys.{is_within}
use Rattle.shard_groups.specs.Laws.{AreCellsDivisible}
use Rattle.shard_groups.specs.Lines.{AreLines, IsAscending}
use Rattle.shard_groups.specs.declared.cells.Cell.{Cell}
use Rattle.shard_groups.specs.declared.cells.ItemBound.{ItemBound}
use Rattle.shard_groups.specs.declared.cells.ItemBound.TheVariants as code
use Rattle.shard_groups.specs.declared.keys.Span.{Span}
use Rattle.part_groups.specs.Cells.{Told, keys_of, said_by, told, told_by}
use Rattle.part_groups.specs.Faults.{IsFirstOther}
use Rattle.part_groups.specs.Forms.{AreAlike, AreSharedForms, AreWrittenAlike, are_alike, form_at, shared_form, told_over}
use Rattle.report_text.specs.declared.text_answers.TextAnswer.{TextAnswer}
use Rattle.part_groups.specs.Shown.{group_in}
use Rattle.part_groups.specs.Texts.{texts_over}
use Rattle.part_groups.specs.Whole.{IsFaultOver, WholeIsCombined, cell_by, cells_by, forms_over, item_by, told_line}
use Rattle.part_groups.specs.declared.fault.CombineFault.TheVariants.{OtherColumn, OtherItem}
use Rattle.part_groups.specs.declared.forms.EndsForm.{EndsForm}
use Rattle.part_groups.specs.declared.forms.Places.{Places}
use Rattle.part_groups.specs.declared.forms.Places.TheVariants.{Columns, Items}
use Rattle.part_groups.specs.declared.group.Group.{Group}
use Rattle.part_groups.proofs.Carried.{are_divisible}

-- ---- no denominator is 0

loosened_divide : (averages : List AverageBound) → AreDivisible averages → AreDivisible (map loosened averages)
loosened_divide [] d = tt
loosened_divide (average ∷ averages) d = (record { lo = d.0.lo; hi = d.0.hi }, loosened_divide averages d.1)

uncertain_divides : (averages : List AverageBound) → AreDivisible averages → IsDivisible (uncertain_average averages)
uncertain_divides averages d = hulls_divide (map loosened averages) (loosened_divide averages d)

each_divides : (item : ℕ) (cells : List Cell) → AreCellsDivisible item cells → AreDivisible (map (average_at item) cells)
each_divides item [] d = tt
each_divides item (cell ∷ cells) d = (d.0, each_divides item cells d.1)

only_divides : (whole : Bool) (item : ℕ) (cell : Cell) → AreCellsDivisible item (cell ∷ []) →
    IsDivisible (average_share_by item (if whole then Some cell else None) (cell ∷ []))
only_divides true item cell d = d.0
only_divides false item cell d = uncertain_divides (average_at item cell ∷ []) (d.0, tt)

share_divides : (item : ℕ) (line : List Span) (cells : List Cell) → AreCellsDivisible item cells → IsDivisible (average_share_by item (only line cells) cells)
share_divides item line [] d = uncertain_divides [] tt
share_divides item line (cell ∷ []) d = only_divides (is_within line cell.keys) item cell d
share_divides item line (cell ∷ next ∷ cells) d =
    uncertain_divides (map (average_at item) (cell ∷ next ∷ cells)) (each_divides item (cell ∷ next ∷ cells) d)

shares_divide : (item : ℕ) (line : List Span) (shards : List (List Cell)) → AreDivisible (map (average_share item line) shards)
shares_divide item line [] = tt
shares_divide item line (shard ∷ shards) =
    (share_divides item line (cells_within line shard) (are_divisible item (cells_within line shard)), shares_divide item line shards)

over_divides : (item : ℕ) (line : List Span) (shards : List (List Cell)) → IsDivisible (average_over item line shards)
over_divides item line shards =
    combined_divides (map (average_share item line) shards) (shares_divide item line shards)

-- ---- the cell of a line

abbrev average_of : (average : AverageBound) → IsDivisible average → bounds.AverageBound
average_of average d = record {
  null = average.null;
  lo = record { num = average.lo.num; den = average.lo.den; divisible = d.lo };
  hi = record { num = average.hi.num; den = average.hi.den; divisible = d.hi };
}

abbrev item_over : ItemKind → ℕ → List Span → List (List Cell) → ItemBound
item_over Count item line shards = code.Value (bound_over Count item line shards)
item_over Sum item line shards = code.Value (bound_over Sum item line shards)
item_over Min item line shards = code.Value (bound_over Min item line shards)
item_over Max item line shards = code.Value (bound_over Max item line shards)
item_over Avg item line shards = code.Average (average_of (average_over item line shards) (over_divides item line shards))

same_item : (kind : ItemKind) (item : ℕ) (line : List Span) (shards : List (List Cell)) → said_of (item_over kind item line shards) ≡ said_over kind item line shards
same_item Count item line shards = refl
same_item Sum item line shards = refl
same_item Min item line shards = refl
same_item Max item line shards = refl
same_item Avg item line shards = refl

abbrev items_from : ℕ → List ItemKind → List Span → List (List Cell) → List ItemBound
items_from item [] line shards = []
items_from item (kind ∷ kinds) line shards = item_over kind item line shards ∷ items_from (item + 1) kinds line shards

same_items : (item : ℕ) (kinds : List ItemKind) (line : List Span) (shards : List (List Cell)) →
    map said_of (items_from item kinds line shards) ≡ said_from item kinds line shards
same_items item [] line shards = refl
same_items item (kind ∷ kinds) line shards =
    ap (λ (said : Said). said ∷ map said_of (items_from (item + 1) kinds line shards)) (same_item kind item line shards)
    ∙ ap (λ (saids : List Said). said_over kind item line shards ∷ saids) (same_items (item + 1) kinds line shards)

abbrev cell_over : List ItemKind → List (List Cell) → List Span → Cell
cell_over kinds shards line = record { keys = line; present = is_present line shards; items = items_from 0 kinds line shards }

same_keys : (kinds : List ItemKind) (shards : List (List Cell)) (lines : List (List Span)) → keys_in (map (cell_over kinds shards) lines) ≡ lines
same_keys kinds shards [] = refl
same_keys kinds shards (line ∷ lines) = ap (λ (ls : List (List Span)). line ∷ ls) (same_keys kinds shards lines)

each_over : (kinds : List ItemKind) (shards : List (List Cell)) (lines : List (List Span)) → AreLinesOver kinds shards (map (cell_over kinds shards) lines)
each_over kinds shards [] = tt
each_over kinds shards (line ∷ lines) = (record { present = refl; items = same_items 0 kinds line shards }, each_over kinds shards lines)

combined : LinesAreFound → (kinds : List ItemKind) (shards : List (List Cell)) → IsCombined kinds shards (map (cell_over kinds shards) (lines_over (all_keys shards)))
combined are_found kinds shards =
    let keys = all_keys shards in
    let found = are_found 0 keys in
    let same = sym (same_keys kinds shards (lines_over keys)) in
    record {
      lines = subst (AreLines keys) same found.are_lines;
      ascending = subst IsAscending same found.ascending;
      each = each_over kinds shards (lines_over keys);
    }

-- ---- what the parts tell

told_item : (answer : Answer) → said_of (item_by answer) ≡ said_by answer
told_item (report.Value shown) = refl
told_item (report.Average shown) = refl

told_items : (answers : List Answer) → map said_of (map item_by answers) ≡ map said_by answers
told_items [] = refl
told_items (answer ∷ answers) =
    ap (λ (said : Said). said ∷ map said_of (map item_by answers)) (told_item answer) ∙ ap (λ (saids : List Said). said_by answer ∷ saids) (told_items answers)

told_group : (group : Group) → told (cell_by group) ≡ told_by group
told_group group = ap (λ (saids : List Said). record { keys = keys_of group.line.keys; present = group.line.present; items = saids }) (told_items group.answers)

told_groups : (groups : List Group) → map told (map cell_by groups) ≡ map told_by groups
told_groups [] = refl
told_groups (group ∷ groups) =
    ap (λ (t : Told). t ∷ map told (map cell_by groups)) (told_group group) ∙ ap (λ (ts : List Told). told_by group ∷ ts) (told_groups groups)

told_parts : (parts : List (List Group)) → map (map told) (cells_by parts) ≡ map (map told_by) parts
told_parts [] = refl
told_parts (groups ∷ parts) =
    ap (λ (ts : List Told). ts ∷ map (map told) (cells_by parts)) (told_groups groups)
    ∙ ap (λ (tss : List (List Told)). map told_by groups ∷ tss) (told_parts parts)

-- ---- the groups

form_from : (form : ℕ → Option EndsForm) (from number count : ℕ) → number < count → form_at number (map form (range_with_len from count)) ≡ form (from + number)
form_from form from number zero h = absurd (omega (arith, h))
form_from form from zero (suc count) h = ap form (let e : from ≡ from + 0 = omega arith in e)
form_from form from (suc number) (suc count) h =
    form_from form (from + 1) number count (omega (arith, h)) ∙ ap form (let e : from + 1 + number ≡ from + suc number = omega arith in e)

forms_shared : (places : Places) (count : ℕ) (parts : List (List Group)) → ((number : ℕ) → number < count → AreAlike places number parts) →
    AreSharedForms places count parts (forms_over places count parts)
forms_shared places count parts alike =
    let form : ℕ → Option EndsForm = λ number. shared_form (told_over places number parts) in
    record {
      all = length-map-range_with_len form 0 count;
      alike = alike;
      each = λ number h. form_from form 0 number count h ∙ ap form (let e : 0 + number ≡ number = omega arith in e);
    }

shown : (columns items : List (Option EndsForm)) (texts : List Span → List (Option TextAnswer)) (kinds : List ItemKind) (shards : List (List Cell)) (lines : List (List Span)) →
    map (λ line. group_in columns items texts (told_line line)) (map (line_over kinds shards) lines)
    ≡ map (λ line. group_in columns items texts (told line)) (map (cell_over kinds shards) lines)
shown columns items texts kinds shards [] = refl
shown columns items texts kinds shards (line ∷ lines) =
    let same = ap (λ (saids : List Said). group_in columns items texts (record { keys = line; present = is_present line shards; items = saids }))
    (sym (same_items 0 kinds line shards)) in
    ap (λ (g : Group). g ∷ map (λ l. group_in columns items texts (told_line l)) (map (line_over kinds shards) lines)) same
    ∙ ap (λ (gs : List Group). group_in columns items texts (told (cell_over kinds shards line)) ∷ gs) (shown columns items texts kinds shards lines)

pub whole_is_combined : LinesAreFound → WholeIsCombined
whole_is_combined are_found count kinds parts alike =
    let columns = forms_over Columns count parts in
    let items = forms_over Items (length kinds) parts in
    let shards = cells_by parts in
    let lines = lines_over (all_keys shards) in
    record {
      columns = columns;
      items = items;
      forms = record { columns_shared = forms_shared Columns count parts alike.columns; items_shared = forms_shared Items (length kinds) parts alike.items };
      lines = map (cell_over kinds shards) lines;
      are_lines = record { cells = shards; tell = told_parts parts; combined = combined are_found kinds shards };
      shown = shown columns items (texts_over kinds parts) kinds shards lines;
    }

-- ---- other forms

below_or : (n k : ℕ) → n < k + 1 → (n < k) ⊎ (n ≡ k)
below_or n k h = grind (arith, h)

first_if : (alike : Bool) (places : Places) (count : ℕ) (parts : List (List Group)) → are_alike (told_over places count parts) ≡ alike →
    ((number : ℕ) → number < count → AreAlike places number parts) →
    ((number : ℕ) → number < count + 1 → AreAlike places number parts) ⊎ ((number : ℕ) × IsFirstOther places number (count + 1) parts)
first_if true places count parts e all = inl (λ number below. elim (below_or number count below) [
  | inl less ↦ all number less
  | inr same ↦ subst (λ (n : ℕ). AreAlike places n parts) (sym same) e
])
first_if false places count parts e all = inr (count, record { there = omega arith; other = λ t. false≢true (sym e ∙ t); before = all })

first_other : (places : Places) (count : ℕ) (parts : List (List Group)) →
    ((number : ℕ) → number < count → AreAlike places number parts) ⊎ ((number : ℕ) × IsFirstOther places number count parts)
first_other places zero parts = inl (λ number below. absurd (omega (arith, below)))
first_other places (suc count) parts = elim (first_other places count parts) [
  | inl all ↦ subst (λ (n : ℕ). ((number : ℕ) → number < n → AreAlike places number parts) ⊎ ((number : ℕ) × IsFirstOther places number n parts))
      (let next : count + 1 ≡ suc count = omega arith in next) (first_if (are_alike (told_over places count parts)) places count parts refl all)
  | inr (number, f) ↦ inr (number, record { there = let h = f.there in omega (arith, h); other = f.other; before = f.before })
]

-- the first column or item that the parts write in two forms, if they do
pub alike_or_other : (count : ℕ) (kinds : List ItemKind) (parts : List (List Group)) → AreWrittenAlike count kinds parts
    ⊎ (((column : ℕ) × IsFaultOver (OtherColumn column) count kinds parts) ⊎ ((item : ℕ) × IsFaultOver (OtherItem item) count kinds parts))
alike_or_other count kinds parts = elim (first_other Columns count parts) [
  | inr (column, f) ↦ inr (inl (column, f))
  | inl columns ↦ elim (first_other Items (length kinds) parts) [
    | inl items ↦ inl (record { columns = columns; items = items })
    | inr (item, f) ↦ inr (inr (item, (columns, f)))
  ]
]
