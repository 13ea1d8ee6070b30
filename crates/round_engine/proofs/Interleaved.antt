-- Steps of different columns may change places.
use Rattle.std.proofs.Common.{◌≡◌, ◌≢◌, ℕ, ◌<◌, Bool, cond, List, [], ◌∷◌, length, get_or, Some, None, inl, inr, refl, sym, ap, ◌∙◌, subst}
use Rattle.std.specs.List.{cons_option}
use Rattle.std.proofs.lemmas.Bool.{cases_eq, eq-eqb, ne_eqb}
use Rattle.std.proofs.lemmas.List.{same_lists, get_or_default, get_or-set_same, get_or-set_other, length-set}
use Rattle.query_model.specs.Knowledge.{ColumnKnowledge, Knowledge, known_at, longer_column, taken}
use Rattle.round_engine.specs.Progresses.{OrdersAgree, Step, known_after, planes_of_column}

-- what is known of one column after some planes of it
abbrev column_after : ColumnKnowledge → List (List Bool) → ColumnKnowledge
column_after column [] = column
column_after column (bits ∷ rest) = column_after (longer_column column bits) rest

planes_there : (s : Step) (ss : List Step) (c : ℕ) → s.column ≡ c → planes_of_column c (s ∷ ss) ≡ s.bits ∷ planes_of_column c ss
planes_there s ss c e = ap (λ b. cons_option (cond b (Some s.bits) None) (planes_of_column c ss)) (eq-eqb s.column c e)

planes_elsewhere : (s : Step) (ss : List Step) (c : ℕ) → s.column ≢ c → planes_of_column c (s ∷ ss) ≡ planes_of_column c ss
planes_elsewhere s ss c e = ap (λ b. cons_option (cond b (Some s.bits) None) (planes_of_column c ss)) (ne_eqb s.column c e)

step_there : (known : Knowledge) (c : ℕ) (bits : List Bool) (d : ColumnKnowledge) → c < length known → get_or (taken known c bits) c d ≡ longer_column (get_or known c d) bits
step_there known c bits d h =
    let nothing : ColumnKnowledge = record { read = 0; prefixes = [] } in
    get_or-set_same known c (longer_column (known_at known c) bits) d h ∙ ap (λ w. longer_column w bits) (get_or_default known c nothing d h)

columns_kept : (known : Knowledge) (steps : List Step) → length (known_after known steps) ≡ length known
columns_kept known [] = refl
columns_kept known (s ∷ ss) = columns_kept (taken known s.column s.bits) ss ∙ length-set known s.column (longer_column (known_at known s.column) s.bits)

-- only its own planes change what is known of a column
column_of : (steps : List Step) (known : Knowledge) (c : ℕ) (d : ColumnKnowledge) → c < length known → get_or (known_after known steps) c d ≡ column_after (get_or known c d) (planes_of_column c steps)
column_of [] known c d h = refl
column_of (s ∷ ss) known c d h =
    let next = taken known s.column s.bits in
    let inside : c < length next = subst (λ n. c < n) (sym (length-set known s.column (longer_column (known_at known s.column) s.bits))) h in
    let rest : get_or (known_after next ss) c d ≡ column_after (get_or next c d) (planes_of_column c ss) = column_of ss next c d inside in
    elim (cases_eq s.column c) [
      | inl e ↦
          (let longer : get_or next c d ≡ longer_column (get_or known c d) s.bits =
          subst (λ k. get_or next k d ≡ longer_column (get_or known k d) s.bits) e (step_there known s.column s.bits d (subst (λ k. k < length known) (sym e) h)) in
          rest ∙ ap (λ w. column_after w (planes_of_column c ss)) longer ∙ sym (ap (column_after (get_or known c d)) (planes_there s ss c e)))
      | inr e ↦
          (let same : get_or next c d ≡ get_or known c d = get_or-set_other known s.column c (longer_column (known_at known s.column) s.bits) d (λ k. e (sym k)) in
          rest ∙ ap (λ w. column_after w (planes_of_column c ss)) same ∙ sym (ap (column_after (get_or known c d)) (planes_elsewhere s ss c e)))
    ]

pub orders_agree : OrdersAgree
orders_agree known a b same =
    same_lists (known_after known a) (known_after known b) (columns_kept known a ∙ sym (columns_kept known b)) (λ k d h.
    let inside : k < length known = subst (λ n. k < n) (columns_kept known a) h in
    column_of a known k d inside ∙ ap (column_after (get_or known k d)) (same k) ∙ sym (column_of b known k d inside))
