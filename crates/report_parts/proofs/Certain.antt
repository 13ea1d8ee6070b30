-- That what is combined is certain, by the laws of the bounds over shards.
use Rattle.std.proofs.Common.{◌≡◌, ◌≢◌, List, [], ◌∷◌, map, refl, sym, subst, arith}
use Rattle.query_model.specs.Bounds.{Admits, IsNested}
use Rattle.query_model.specs.declared.bounds.Bound.{Bound}
use Rattle.query_model.specs.declared.query.ItemKind.{ItemKind}
use Rattle.query_model.specs.declared.query.ItemKind.TheVariants.{Count, Sum, Min, Max, Avg}
use Rattle.report_text.specs.declared.answers.Answer.{Answer}
use Rattle.report_text.specs.declared.answers.Answer.TheVariants.{Average, Value}
use Rattle.shard_bounds.specs.Averages.{AreDivisible, IsDivisible}
use Rattle.shard_bounds.specs.Combined.{combined}
use Rattle.shard_bounds.specs.Combined as shards
use Rattle.shard_bounds.specs.Laws.{CombinationsContain, CombinationsNest, CombinationsReportAverages, CombinationsTell, Tells}
use Rattle.report_parts.specs.Combined.{answer_over, average_of, bound_of}
use Rattle.report_parts.specs.Laws.{AnswersContain, AnswersNest, AnswersTell, AveragesReport}

-- the bound that the combined answer tells
is_combined : (kind : ItemKind) (answers : List Answer) → kind ≢ Avg → bound_of (answer_over kind answers) ≡ combined kind (map bound_of answers)
is_combined Count answers h = refl
is_combined Sum answers h = refl
is_combined Min answers h = refl
is_combined Max answers h = refl
is_combined Avg answers h = absurd (h refl)

pub contain : CombinationsContain → AnswersContain
contain law kind answers parts other h =
    subst (λ (b : Bound). Admits b (shards.answer_over kind parts)) (sym (is_combined kind answers other)) (law kind (map bound_of answers) parts other h)

pub tell : CombinationsTell → AnswersTell
tell law kind answers parts other h =
    subst (λ (b : Bound). Tells b (shards.answer_over kind parts)) (sym (is_combined kind answers other)) (law kind (map bound_of answers) parts other h)

pub nest : CombinationsNest → AnswersNest
nest law kind olds news other are h =
    subst (λ (b : Bound). IsNested b (bound_of (answer_over kind news))) (sym (is_combined kind olds other))
    (subst (λ (b : Bound). IsNested (combined kind (map bound_of olds)) b) (sym (is_combined kind news other)) (law kind (map bound_of olds) (map bound_of news) other are h))

pub divisible : (answer : Answer) → IsDivisible (average_of answer)
divisible (Value shown) = record { lo = omega arith; hi = omega arith }
divisible (Average shown) = record { lo = omega arith; hi = omega arith }

pub all_divisible : (answers : List Answer) → AreDivisible (map average_of answers)
all_divisible [] = tt
all_divisible (answer ∷ answers) = (divisible answer, all_divisible answers)

pub averages : CombinationsReportAverages → AveragesReport
averages law answers parts h = law (map average_of answers) parts (all_divisible answers) h
