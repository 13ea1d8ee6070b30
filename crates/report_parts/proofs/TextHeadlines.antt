-- That a combined report is certain of the text of all rows together, where each part's report is certain of its own.
use Rattle.std.proofs.Common.{◌≡◌, ◌≢◌, ℕ, ◌+◌, ◌-◌, min, ℤ, Bool, true, false, not, ◌||◌, List, [], ◌∷◌, map, length, get_or, slice_get, is_some, Option, Some, None, refl, sym, ap, subst, ◌∙◌, if◌then◌else◌}
use Rattle.std.proofs.lemmas.Bool.{false≢true}
use Rattle.std.proofs.lemmas.Option.{none-some}
use Rattle.query_model.specs.Bounds.{Pair, nullity_of}
use Rattle.query_model.specs.declared.bounds.Nullity.{Nullity}
use Rattle.query_model.specs.declared.bounds.Nullity.TheVariants.{Never, Possibly, Always}
use Rattle.query_model.specs.declared.query.ItemKind.{ItemKind}
use Rattle.query_model.specs.declared.query.ItemKind.TheVariants.{Count, Sum, Min, Max, Avg}
use Rattle.report_text.specs.declared.answers.Answer.{Answer}
use Rattle.report_text.specs.declared.answers.Answer.TheVariants.{Average, Value}
use Rattle.report_text.specs.declared.text_answers.TextAnswer.{TextAnswer}
use Rattle.shard_bounds.specs.Combined.{pair_by_word, pair_of_shard, pairs_of_shards}
use Rattle.text_extremes.proofs.TextOrder.{itself}
use Rattle.text_extremes.specs.Answers.{answer_by, bound_told}
use Rattle.text_extremes.specs.Bounds.{Admits, IsNested, Tells, TextBound, combined, joined}
use Rattle.text_extremes.specs.Laws.{CombinationsContain, CombinationsNest, CombinationsTell, OfEach, answer_over as text_of_all}
use Rattle.text_extremes.specs.Texts.{of_both}
use Rattle.text_extremes.specs.Texts as texts
use Rattle.text_extremes.specs.declared.extreme.Extreme.{Extreme}
use Rattle.text_extremes.specs.declared.extreme.Extreme.TheVariants.{Least}
use Rattle.query_kinds.specs.declared.beside.Beside.{Beside}
use Rattle.part_groups.specs.Texts.{extreme_of}
use Rattle.report_parts.proofs.Headlines.{answer_stays, as_answers, extra_stays, last_below, next_in, printed_item, said_in, told_behind}
use Rattle.report_parts.specs.Beside.{entry_by}
use Rattle.report_parts.specs.Combined.{answer_over, bound_of, clip_of_all, entry_over, extra_over, is_possible, may_answer}
use Rattle.report_parts.specs.Entries.{extras_of, have_extras, or_no_answer}
use Rattle.report_parts.specs.Headline.{IsOfTotals}
use Rattle.report_parts.specs.Reports.{entries_over}
use Rattle.report_parts.specs.Rounds.{entries_in}
use Rattle.report_parts.specs.TextHeadline.{AreClippedTexts, AreTextsTold, CombinedTextClipsAreCertain, CombinedTextsAreCertain}
use Rattle.report_parts.specs.TextHeadline.{IsCertainText, IsTextIn, TextLine, bound_in, clip_line, own_line}
use Rattle.report_parts.specs.Texts.{clips_of, said_by, tell_text, text_over}
use Rattle.report_parts.specs.Told.{Told}
use Rattle.report_parts.specs.declared.entry.Entry.{Entry}
use Rattle.report_parts.specs.declared.shape.Shape.{Shape}

-- ---- what is said is the bound over all parts

not_not : (b : Bool) → not (not b) ≡ b
not_not true = refl
not_not false = refl

abbrev with_certain : TextBound → Bool → Option TextBound
with_certain bound certain = Some (record { certain = certain; low = bound.low; high = bound.high })

said_back : (bound : Option TextBound) → bound_told (answer_by bound) ≡ bound
said_back None = refl
said_back (Some bound) = ap (λ (c : Bool). with_certain bound c) (not_not bound.certain)

-- where no part tells a text there is none
none_with : (extreme : Extreme) (text : Option TextAnswer) (rest : Bool) (others : Option TextBound) → (is_some text || rest) ≡ false →
    (rest ≡ false → others ≡ None) → of_both (joined extreme) (bound_told text) others ≡ None
none_with extreme None rest others e h = h e
none_with extreme (Some text) rest others e h = absurd (false≢true (sym e))

none_over : (extreme : Extreme) (texts : List (Option TextAnswer)) → tell_text texts ≡ false → combined extreme (map bound_told texts) ≡ None
none_over extreme [] e = refl
none_over extreme (text ∷ texts) e =
    none_with extreme text (tell_text texts) (combined extreme (map bound_told texts)) e (none_over extreme texts)

told_by : (b : Bool) (kind : ItemKind) (extreme : Extreme) (texts : List (Option TextAnswer)) → extreme_of kind ≡ Some extreme → tell_text texts ≡ b →
    bound_told (if b then said_by (extreme_of kind) texts else None) ≡ combined extreme (map bound_told texts)
told_by true kind extreme texts asked e =
    ap (λ (x : Option Extreme). bound_told (said_by x texts)) asked ∙ said_back (combined extreme (map bound_told texts))
told_by false kind extreme texts asked e = sym (none_over extreme texts e)

-- ---- what is printed in a line

-- of the item that stands beside this it is what the parts say in that line
record IsLineOver (line : TextLine) (beside : Option Beside) (round item : ℕ) (kind : ItemKind) (kinds : List ItemKind) (parts : List Told) : Type 0 where
  text : line.text (said_in beside round item kind kinds parts) ≡ text_over kind (map line.text (entries_in round item parts))
  other : line.other (said_in beside round item kind kinds parts) ≡ answer_over kind (map line.other (entries_in round item parts))

text_stays : (block : List Entry) (beside : Option Beside) (entry : Entry) → (entry_by block beside entry).text ≡ entry.text
text_stays block None entry = refl
text_stays block (Some beside) entry = refl

clip_stays : (block : List Entry) (beside : Option Beside) (entry : Entry) → (entry_by block beside entry).clip ≡ entry.clip
clip_stays block None entry = refl
clip_stays block (Some beside) entry = refl

no_average : (kind : ItemKind) (extreme : Extreme) → extreme_of kind ≡ Some extreme → kind ≢ Avg
no_average kind extreme asked = λ e. none-some extreme (ap (λ (k : ItemKind). extreme_of k) (sym e) ∙ asked)

own_over : (beside : Option Beside) (round item : ℕ) (kind : ItemKind) (kinds : List ItemKind) (parts : List Told) → kind ≢ Avg →
    IsLineOver own_line beside round item kind kinds parts
own_over beside round item kind kinds parts other = record {
  text = text_stays (entries_over round 0 kinds parts) beside (entry_over kind (entries_in round item parts));
  other = answer_stays (entries_over round 0 kinds parts) beside kind (entries_in round item parts) other;
}

clip_behind : (kind : ItemKind) (entries : List Entry) → have_extras entries ≡ true → clip_of_all kind entries ≡ text_over kind (clips_of entries)
clip_behind kind entries e = rw e refl

extra_behind : (beside : Option Beside) (round item : ℕ) (kind : ItemKind) (kinds : List ItemKind) (parts : List Told) →
    have_extras (entries_in round item parts) ≡ true →
    (said_in beside round item kind kinds parts).extra ≡ Some (extra_over kind (extras_of (entries_in round item parts)))
extra_behind beside round item kind kinds parts all =
    extra_stays (entries_over round 0 kinds parts) beside (entry_over kind (entries_in round item parts))
    ∙ told_behind kind (entries_in round item parts) all

clip_over : (beside : Option Beside) (round item : ℕ) (kind : ItemKind) (kinds : List ItemKind) (parts : List Told) → kind ≢ Avg →
    have_extras (entries_in round item parts) ≡ true → IsLineOver clip_line beside round item kind kinds parts
clip_over beside round item kind kinds parts other all = record {
  text =
      clip_stays (entries_over round 0 kinds parts) beside (entry_over kind (entries_in round item parts))
      ∙ clip_behind kind (entries_in round item parts) all;
  other =
      ap (λ (extra : Option Answer). or_no_answer extra) (extra_behind beside round item kind kinds parts all)
      ∙ as_answers kind (extras_of (entries_in round item parts)) other;
}

abbrev bounds_in : TextLine → ℕ → ℕ → List Told → List (Option TextBound)
bounds_in line round item parts = map bound_told (map line.text (entries_in round item parts))

said_is : (line : TextLine) (beside : Option Beside) (round item : ℕ) (kind : ItemKind) (extreme : Extreme) (kinds : List ItemKind) (parts : List Told) →
    extreme_of kind ≡ Some extreme → IsLineOver line beside round item kind kinds parts →
    bound_in line (said_in beside round item kind kinds parts) ≡ combined extreme (bounds_in line round item parts)
said_is line beside round item kind extreme kinds parts asked over =
    let texts = map line.text (entries_in round item parts) in
    ap (λ (text : Option TextAnswer). bound_told text) over.text
    ∙ told_by (tell_text texts) kind extreme texts asked refl

-- ---- each part in a round

contained : (line : TextLine) (round item : ℕ) (extreme : Extreme) (parts : List Told) (tables : List (List (List ℕ))) → OfEach (IsCertainText line item extreme) parts tables →
    OfEach (λ (bound : Option TextBound) (given : List (List ℕ)). Admits bound (texts.extreme_of extreme given)) (bounds_in line round item parts) tables
contained line round item extreme [] [] h = tt
contained line round item extreme [] (given ∷ tables) h = absurd h
contained line round item extreme (part ∷ parts) [] h = absurd h
contained line round item extreme (part ∷ parts) (given ∷ tables) h =
    (h.0.contains (min round (length part.blocks - 1)) (last_below round (length part.blocks) h.0.some), contained line round item extreme parts tables h.1)

each_told : (line : TextLine) (round item : ℕ) (extreme : Extreme) (parts : List Told) (tables : List (List (List ℕ))) → AreTextsTold line round item extreme parts tables →
    OfEach (λ (bound : Option TextBound) (given : List (List ℕ)). Tells bound (texts.extreme_of extreme given)) (bounds_in line round item parts) tables
each_told line round item extreme [] [] h = tt
each_told line round item extreme [] (given ∷ tables) h = absurd h
each_told line round item extreme (part ∷ parts) [] h = absurd h
each_told line round item extreme (part ∷ parts) (given ∷ tables) h = (h.0, each_told line round item extreme parts tables h.1)

stays_nested : (bound : Option TextBound) → IsNested bound bound
stays_nested None = tt
stays_nested (Some bound) = record { certain = λ c. c; low = itself Least bound.low; high = itself Least bound.high }

nested : (line : TextLine) (round item : ℕ) (extreme : Extreme) (parts : List Told) (tables : List (List (List ℕ))) → OfEach (IsCertainText line item extreme) parts tables →
    OfEach IsNested (bounds_in line round item parts) (bounds_in line (round + 1) item parts)
nested line round item extreme [] [] h = tt
nested line round item extreme [] (given ∷ tables) h = absurd h
nested line round item extreme (part ∷ parts) [] h = absurd h
nested line round item extreme (part ∷ parts) (given ∷ tables) h =
    (next_in (λ entry. bound_in line entry) IsNested stays_nested round item part h.0.nests, nested line round item extreme parts tables h.1)

-- ---- no other answer

no_pair_by : (null : Nullity) (lo hi : ℤ) → is_possible null ≡ false → pair_by_word null lo hi ≡ None
no_pair_by Never lo hi e = absurd (false≢true (sym e))
no_pair_by Possibly lo hi e = absurd (false≢true (sym e))
no_pair_by Always lo hi e = refl

no_pair : (answer : Answer) → may_answer answer ≡ false → pair_of_shard (bound_of answer) ≡ None
no_pair (Value shown) e = no_pair_by shown.bound.null shown.bound.lo shown.bound.hi e
no_pair (Average shown) e = refl

no_pairs : (line : TextLine) (round item : ℕ) (extreme : Extreme) (parts : List Told) (tables : List (List (List ℕ))) → OfEach (IsCertainText line item extreme) parts tables →
    pairs_of_shards (map bound_of (map line.other (entries_in round item parts))) ≡ []
no_pairs line round item extreme [] [] h = refl
no_pairs line round item extreme [] (given ∷ tables) h = absurd h
no_pairs line round item extreme (part ∷ parts) [] h = absurd h
no_pairs line round item extreme (part ∷ parts) (given ∷ tables) h =
    let here = h.0.no_other (min round (length part.blocks - 1)) (last_below round (length part.blocks) h.0.some) in
    rw (no_pair _ here, no_pairs line round item extreme parts tables h.1) refl

no_other_over : (kind : ItemKind) (extreme : Extreme) (answers : List Answer) → extreme_of kind ≡ Some extreme →
    pairs_of_shards (map bound_of answers) ≡ [] → may_answer (answer_over kind answers) ≡ false
no_other_over Count extreme answers asked e = absurd (none-some extreme asked)
no_other_over Sum extreme answers asked e = absurd (none-some extreme asked)
no_other_over Min extreme answers asked e = ap (λ (ps : List Pair). is_possible (nullity_of ps)) e
no_other_over Max extreme answers asked e = ap (λ (ps : List Pair). is_possible (nullity_of ps)) e
no_other_over Avg extreme answers asked e = absurd (none-some extreme asked)

certain_in : CombinationsContain → CombinationsNest → CombinationsTell → (line : TextLine) (item : ℕ) (kind : ItemKind) (extreme : Extreme) (shape : Shape)
    (parts : List Told) (tables : List (List (List ℕ))) (round : ℕ) → IsOfTotals shape → slice_get shape.kinds item ≡ Some kind →
    extreme_of kind ≡ Some extreme → OfEach (IsCertainText line item extreme) parts tables →
    IsLineOver line (get_or shape.besides item None) round item kind shape.kinds parts →
    IsLineOver line (get_or shape.besides item None) (round + 1) item kind shape.kinds parts → IsTextIn line round item extreme shape parts tables
certain_in contains nests tells line item kind extreme shape parts tables round totals there asked h over over_next =
    let beside = get_or shape.besides item None in
    let here = said_is line beside round item kind extreme shape.kinds parts asked over in
    let behind = said_is line beside (round + 1) item kind extreme shape.kinds parts asked over_next in
    record {
      entry = said_in beside round item kind shape.kinds parts;
      next = said_in beside (round + 1) item kind shape.kinds parts;
      printed = printed_item round item shape kind parts totals there;
      printed_next = printed_item (round + 1) item shape kind parts totals there;
      contains = subst (λ (b : Option TextBound). Admits b (text_of_all extreme tables)) (sym here)
          (contains extreme (bounds_in line round item parts) tables (contained line round item extreme parts tables h));
      no_other = ap (λ (answer : Answer). may_answer answer) over.other
          ∙ no_other_over kind extreme (map line.other (entries_in round item parts)) asked (no_pairs line round item extreme parts tables h);
      nests = subst (λ (b : Option TextBound). IsNested b (bound_in line (said_in beside (round + 1) item kind shape.kinds parts))) (sym here)
          (subst (λ (b : Option TextBound). IsNested (combined extreme (bounds_in line round item parts)) b) (sym behind)
          (nests extreme (bounds_in line round item parts) (bounds_in line (round + 1) item parts) (nested line round item extreme parts tables h)));
      exact = λ told. subst (λ (b : Option TextBound). Tells b (text_of_all extreme tables)) (sym here)
          (tells extreme (bounds_in line round item parts) tables (each_told line round item extreme parts tables told));
    }

pub certain : CombinationsContain → CombinationsNest → CombinationsTell → CombinedTextsAreCertain
certain contains nests tells item kind extreme shape parts tables round totals there asked h =
    let beside = get_or shape.besides item None in
    let other = no_average kind extreme asked in
    certain_in contains nests tells own_line item kind extreme shape parts tables round totals there asked h
    (own_over beside round item kind shape.kinds parts other) (own_over beside (round + 1) item kind shape.kinds parts other)

-- ---- the lines behind

all_shown : (round item : ℕ) (extreme : Extreme) (parts : List Told) (tables : List (List (List ℕ))) → AreClippedTexts item extreme parts tables →
    have_extras (entries_in round item parts) ≡ true
all_shown round item extreme [] tables h = refl
all_shown round item extreme (part ∷ parts) [] h = absurd h
all_shown round item extreme (part ∷ parts) (given ∷ tables) h =
    let here = h.0.shown (min round (length part.blocks - 1)) (last_below round (length part.blocks) h.0.certain.some) in
    rw (here, all_shown round item extreme parts tables h.1) refl

each_certain : (item : ℕ) (extreme : Extreme) (parts : List Told) (tables : List (List (List ℕ))) → AreClippedTexts item extreme parts tables →
    OfEach (IsCertainText clip_line item extreme) parts tables
each_certain item extreme [] [] h = tt
each_certain item extreme [] (given ∷ tables) h = absurd h
each_certain item extreme (part ∷ parts) [] h = absurd h
each_certain item extreme (part ∷ parts) (given ∷ tables) h = (h.0.certain, each_certain item extreme parts tables h.1)

pub clips_certain : CombinationsContain → CombinationsNest → CombinationsTell → CombinedTextClipsAreCertain
unfolding certain_in
clips_certain contains nests tells item kind extreme shape parts tables round totals there asked h =
    let beside = get_or shape.besides item None in
    let other = no_average kind extreme asked in
    let all = all_shown round item extreme parts tables h in
    record {
      certain = certain_in contains nests tells clip_line item kind extreme shape parts tables round totals there asked (each_certain item extreme parts tables h)
          (clip_over beside round item kind shape.kinds parts other all)
          (clip_over beside (round + 1) item kind shape.kinds parts other (all_shown (round + 1) item extreme parts tables h));
      shown = ap (λ (extra : Option Answer). is_some extra) (extra_behind beside round item kind shape.kinds parts all);
    }
