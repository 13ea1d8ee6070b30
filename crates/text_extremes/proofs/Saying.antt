-- What is said over all parts has its ends in order, where what each part says has.
use Rattle.std.proofs.Common.{ℕ, Bool, true, false, not, List, [], ◌∷◌, map, Option, Some, None, IfSome, IsTrue}
use Rattle.std.specs.List.{All}
use Rattle.std.proofs.lemmas.List.Elements.{All-head, All-tail}
use Rattle.report_text.specs.TextAnswers.{IsTextAnswer}
use Rattle.report_text.specs.declared.keys.TextEnds.{TextEnds}
use Rattle.report_text.specs.declared.text_answers.TextAnswer.{TextAnswer}
use Rattle.text_extremes.proofs.TextOrder.{chain, first_left, first_right}
use Rattle.text_extremes.proofs.TwoParts.{far_both}
use Rattle.text_extremes.specs.Answers.{AnswersAreShown, answer_by, bound_by, bound_told}
use Rattle.text_extremes.specs.Bounds.{TextBound, bound_with, combined, far_end, joined, near_end}
use Rattle.text_extremes.specs.Texts.{comes_first, first_of, of_both, text_le}
use Rattle.text_extremes.specs.declared.extreme.Extreme.{Extreme}
use Rattle.text_extremes.specs.declared.extreme.Extreme.TheVariants.{Least, Greatest}

abbrev IsInOrder : Option TextBound → Type 0
IsInOrder None = Unit {0}
IsInOrder (Some bound) = IsTrue (text_le bound.low bound.high)

ends_rise : (e : Extreme) (bound : TextBound) → IsInOrder (Some bound) → IsTrue (comes_first e (near_end e bound) (far_end e bound))
ends_rise Least bound h = h
ends_rise Greatest bound h = h

rise_with : (e : Extreme) (c : Bool) (near far : List ℕ) → IsTrue (comes_first e near far) → IsInOrder (Some (bound_with e c near far))
rise_with Least c near far h = h
rise_with Greatest c near far h = h

both_rise : (e : Extreme) (a b : Option TextBound) → IsInOrder a → IsInOrder b → IsInOrder (of_both (joined e) a b)
both_rise e None b h k = k
both_rise e (Some a) None h k = h
both_rise e (Some a) (Some b) h k =
    let n = near_end e a in
    let m = near_end e b in
    let near = first_of e n m in
    rise_with e _ near _
    (far_both e a.certain b.certain near (far_end e a) (far_end e b) (chain e near n (far_end e a) (first_left e n m) (ends_rise e a h))
    (chain e near m (far_end e b) (first_right e n m) (ends_rise e b k)))

told_by : (null : Bool) (ends : Option TextEnds) → IsTextAnswer (record { null = null; ends = ends }) → IsInOrder (bound_by null ends)
told_by null None h = tt
told_by true (Some ends) h = h
told_by false (Some ends) h = h

told_rises : (answer : Option TextAnswer) → IfSome answer IsTextAnswer → IsInOrder (bound_told answer)
told_rises None h = tt
told_rises (Some answer) h = told_by answer.null answer.ends h

all_rise : (e : Extreme) (answers : List (Option TextAnswer)) → All (λ answer. IfSome answer IsTextAnswer) answers →
    IsInOrder (combined e (map bound_told answers))
all_rise e [] h = tt
all_rise e (answer ∷ answers) h =
    both_rise e (bound_told answer) (combined e (map bound_told answers))
    (told_rises answer (All-head (λ (x : Option TextAnswer). IfSome x IsTextAnswer) answer answers h))
    (all_rise e answers (All-tail (λ (x : Option TextAnswer). IfSome x IsTextAnswer) answer answers h))

shown_with : (c : Bool) (low high : List ℕ) → IsTrue (text_le low high) →
    IsTextAnswer (record { null = not c; ends = Some (record { low = low; high = high }) })
shown_with true low high h = h
shown_with false low high h = h

shown_of : (bound : Option TextBound) → IsInOrder bound → IfSome (answer_by bound) IsTextAnswer
shown_of None h = tt
shown_of (Some bound) h = shown_with bound.certain bound.low bound.high h

pub answers_are_shown : AnswersAreShown
answers_are_shown e answers h = shown_of (combined e (map bound_told answers)) (all_rise e answers h)
