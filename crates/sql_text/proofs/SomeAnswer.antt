-- A text is a query, or has a fault.
use Rattle.std.proofs.Common.{◌≡◌, ◌≢◌, ℕ, ◌-◌, ◌≤◌, List, [], ◌∷◌, length, Result, Ok, Err, refl, inl, inr, ◌⊎◌}
use Rattle.std.proofs.lemmas.Bool.{cases_lt}
use Rattle.sql_tokens.specs.Lexeme.{Lexeme}
use Rattle.sql_tokens.specs.Spelling.{Splits}
use Rattle.sql_tokens.proofs.SomeCut.{some_cut}
use Rattle.sql_text.specs.declared.fault.Cause.{Cause}
use Rattle.sql_text.specs.declared.fault.Cause.TheVariants as causes
use Rattle.sql_text.specs.declared.fault.Stop.{Stop}
use Rattle.sql_text.specs.declared.fault.SqlFault.{SqlFault}
use Rattle.sql_text.specs.declared.fault.SqlFault.TheVariants.{TooLong, Syntax, NoMemory}
use Rattle.sql_text.specs.Tree.{Query}
use Rattle.sql_text.specs.Number.{is_small}
use Rattle.sql_text.specs.Reading.{turns, sentence}
use Rattle.sql_text.specs.Answer.{most_levels, IsText, IsFault, fault_of, place}
use Rattle.sql_text.specs.Laws.{IsAnswered}
use Rattle.sql_text.proofs.Answering.{is_text, breaks, breaks_behind, faulted}

Answered : List ℕ → Type 0
Answered text = ((q : Query) × IsText text q) ⊎ ((fault : SqlFault) × (fault ≢ NoMemory) × IsFault text fault)

not_memory : (c : Cause) (i : ℕ) → fault_of c i ≢ NoMemory
not_memory causes.Syntax i e = absurd cc
not_memory causes.TooDeep i e = absurd cc
not_memory causes.TooLarge i e = absurd cc

module _ (text : List ℕ) (short : length text ≤ 4096) (ts : List Lexeme) where
  -- the tokens are a sentence: nothing is left behind them, or what is left is the fault
  by_rest : (rest : List ℕ) → Splits 0 text ts rest → (q : Query) → sentence turns is_small most_levels ts ≡ Ok q → Answered text
  unfolding Answered
  by_rest [] cut q e = inl (q, is_text text ts [] short cut q refl e)
  by_rest (b ∷ rest) cut q e = inr (Syntax (length text - length (b ∷ rest)), not_memory causes.Syntax (length text - length (b ∷ rest)), breaks_behind text ts (b ∷ rest) short cut q e (λ nil. absurd cc))

  by_sentence : (rest : List ℕ) → Splits 0 text ts rest → (x : Result Query Stop) → sentence turns is_small most_levels ts ≡ x → Answered text
  unfolding Answered
  by_sentence rest cut (Ok q) e = by_rest rest cut q e
  by_sentence rest cut (Err stop) e =
      let at = place (length text - length rest) ts stop.left in
      inr (fault_of stop.cause at, not_memory stop.cause at, faulted text stop.cause at (breaks text ts rest short cut stop e))

pub is_answered : IsAnswered
unfolding Answered
is_answered text = elim (cases_lt 4096 (length text)) [
  | inl long ↦ inr (TooLong, (λ e. absurd cc), long)
  | inr short ↦ let cut = some_cut text in by_sentence text short cut.0 cut.1 cut.2 (sentence turns is_small most_levels cut.0) refl
]
