-- A tree is typed, or has a fault.
use Rattle.std.proofs.Common.{◌≡◌, ◌≢◌, Option, Some, None, IfSome, inl, inr, ◌⊎◌, refl, subst}
use Rattle.daq_table.specs.Tables.{frame_of}
use Rattle.daq_table.specs.declared.table_head.Head.{Head}
use Rattle.query_model.specs.Projection.{projected_frame}
use Rattle.query_model.specs.Queries.{Query}
use Rattle.sql_text.specs.Tree as tree
use Rattle.sql_typing.specs.Faults.{first_fault}
use Rattle.sql_typing.specs.Laws.{HasTyping}
use Rattle.sql_typing.specs.Refusals.{IsTyped, Refuses}
use Rattle.sql_typing.specs.Typing.{typed}
use Rattle.sql_typing.specs.declared.fault.TypeFault.{TypeFault}
use Rattle.sql_typing.specs.declared.fault.TypeFault.TheVariants.{TooWide, NoMemory}
use Rattle.sql_typing.proofs.Decided.{fit_or_not}
use Rattle.sql_typing.proofs.Early.{IsEarly, early, refused}

module _ (q : tree.Query) (head : Head) where
  Typing : Type 0
  Typing = ((query : Query) × IsTyped q head query) ⊎ ((fault : TypeFault) × (fault ≢ NoMemory) × Refuses q head fault)

  of_faultless : first_fault head.columns q ≡ None → Typing
  unfolding Typing
  of_faultless none = elim (fit_or_not (projected_frame (typed head.columns q) (frame_of head)) (typed head.columns q).items) [
    | inl fits ↦ inl (typed head.columns q, record { faultless = none; same = refl; fits = fits })
    | inr unfit ↦ inr (TooWide unfit.0, (λ e. absurd cc), record { faultless = none; unfit = unfit.1 })
  ]

  by_fault : (o : Option TypeFault) → first_fault head.columns q ≡ o → Typing
  unfolding Typing
  by_fault None e = of_faultless e
  by_fault (Some fault) e =
      let is_early : IsEarly fault = subst (λ (o : Option TypeFault). IfSome o IsEarly) e (early head.columns q) in
      inr (fault, (λ memory. subst IsEarly memory is_early), refused q head fault (inr e))

pub has_typing : HasTyping
unfolding Typing
has_typing q head = by_fault q head (first_fault head.columns q) refl
