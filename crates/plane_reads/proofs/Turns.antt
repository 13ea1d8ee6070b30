-- A turn of the loop over the names of a word.
use Rattle.std.proofs.Common.{◌≡◌, ℕ, ◌<◌, List, [], ◌∷◌, ◌++◌, length, get_or, sym, ap, ◌∙◌, subst, arith}
use Rattle.std.proofs.lemmas.List.{get_or_default}
use Rattle.std.specs.declared.result.Result.{Result}
use Rattle.std.specs.declared.result.Result.TheVariants.{Err}
use Rattle.std.specs.Result.{IfErr}
use Rattle.daq_table.specs.declared.table_head.Head.{Head}
use Rattle.query_model.specs.Queries.{Query}
use Rattle.plane_reads.specs.declared.fault.ReadsFault.{ReadsFault}
use Rattle.plane_reads.specs.declared.fault.ReadsFault.TheVariants.{UnknownName, PastEnd, NoMemory}
use Rattle.plane_reads.specs.Next.{IsNext, IsNextFault}
use Rattle.plane_reads.specs.Reads.{AreFirstReads, IsNamed, IsPastEnd, IsUnknownName, Refuses, name_at, names_of}
use Rattle.plane_reads.proofs.FirstReads.{one_more, past_end, unknown_name}

-- the name of this turn is that behind the columns so far
pub record IsTurn (word columns name : List ℕ) : Type 0 where
  pub more : length columns < length (names_of word)
  pub name_is : name ≡ name_at word (length columns)

pub turn_of : (word columns name : List ℕ) (count : ℕ) → length columns ≡ count → (count < length (names_of word)) × (name ≡ get_or (names_of word) count name) → IsTurn word columns name
turn_of word columns name count e (more, is) = record {
  more = omega (arith, e, more);
  name_is = is ∙ get_or_default (names_of word) count name [] more ∙ ap (name_at word) (sym e);
}

pub fault_there : (word : List ℕ) (query : Query) (head : Head) (columns name : List ℕ) (fault : ReadsFault) → AreFirstReads word query head columns → IsTurn word columns name →
    IsNextFault query head columns name fault → Refuses word query head fault
fault_there word query head columns name (UnknownName place) first turn (e, unknown) =
    subst (IsUnknownName word query head) (sym e) (unknown_name word query head columns first turn.more (subst (λ n. (c : ℕ) → ¬ IsNamed query head c n) turn.name_is unknown))
fault_there word query head columns name (PastEnd place) first turn (e, (c, is)) =
    subst (IsPastEnd word query head) (sym e) (past_end word query head columns c first turn.more (record { named = subst (IsNamed query head c) turn.name_is is.named; ended = is.ended }))
fault_there word query head columns name NoMemory first turn is = absurd is

pub next_read : (word : List ℕ) (query : Query) (head : Head) (columns name : List ℕ) (c : ℕ) → AreFirstReads word query head columns → IsTurn word columns name →
    IsNext query head columns name c → AreFirstReads word query head (columns ++ c ∷ [])
next_read word query head columns name c first turn next =
    one_more word query head columns c first turn.more (record { named = subst (IsNamed query head c) turn.name_is next.named; left = next.left })

pub refused : {T : Type 0} (r : Result T ReadsFault) (fault : ReadsFault) (P : ReadsFault → Type 0) → r ≡ Err fault → P fault → IfErr r P
refused r fault P e p = subst (λ x. IfErr x P) (sym e) p
