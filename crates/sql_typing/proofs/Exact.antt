-- A tree has one fault at most, none where it is typed, and one typed query.
use Rattle.std.proofs.Common.{◌≡◌, ◌≢◌, ℕ, zero, suc, ◌<◌, List, [], ◌∷◌, Some, slice_get, inl, inr, ◌⊎◌, refl, sym, ap, subst, ◌∙◌, arith}
use Rattle.std.specs.List.{AllByRecursion}
use Rattle.daq_table.specs.Tables.{Frame, frame_of}
use Rattle.daq_table.specs.declared.table_head.Head.{Head}
use Rattle.query_model.specs.Projection.{projected_frame}
use Rattle.query_model.specs.Queries.{Aggregate, Query}
use Rattle.query_model.specs.Validity.{FitsItem}
use Rattle.sql_text.specs.Tree as tree
use Rattle.sql_typing.specs.Faults.{first_fault}
use Rattle.sql_typing.specs.Refusals.{IsFirstUnfit, IsTooWide, IsTyped, Refuses}
use Rattle.sql_typing.specs.Typing.{typed}
use Rattle.sql_typing.specs.declared.fault.TypeFault.{TypeFault}
use Rattle.sql_typing.specs.declared.fault.TypeFault.TheVariants.{UnknownTable, UnknownColumn, TooManyColumns, TooManyItems, KindsDiffer, ScaleTooFine, NotGrouped, TooManyValues, LimitOutOfRange, GroupTooWide, TooWide, NoMemory}

-- a fault is that of an early check, or of the last
record IsLate (q : tree.Query) (head : Head) (fault : TypeFault) : Type 0 where
  item : ℕ
  is : fault ≡ TooWide item
  wide : IsTooWide q head item

sorted : (q : tree.Query) (head : Head) (fault : TypeFault) → fault ≢ NoMemory → Refuses q head fault → (first_fault head.columns q ≡ Some fault) ⊎ IsLate q head fault
sorted q head NoMemory memory h = absurd (memory refl)
sorted q head (TooWide item) memory h = inr (record { item = item; is = refl; wide = h })
sorted q head (UnknownTable at) memory h = inl h
sorted q head (UnknownColumn at) memory h = inl h
sorted q head TooManyColumns memory h = inl h
sorted q head TooManyItems memory h = inl h
sorted q head (KindsDiffer at) memory h = inl h
sorted q head (ScaleTooFine at) memory h = inl h
sorted q head (NotGrouped at) memory h = inl h
sorted q head (TooManyValues at) memory h = inl h
sorted q head (LimitOutOfRange at) memory h = inl h
sorted q head (GroupTooWide bits) memory h = inl h

-- ---- the first item that does not fit

at_place : {A : Type 0} (P : A → Type 0) (xs : List A) (i : ℕ) (x : A) → AllByRecursion P xs → slice_get xs i ≡ Some x → P x
at_place P [] i x h e = absurd cc
at_place P (y ∷ xs) zero x h e = let here : y ≡ x = cc in subst P here h.0
at_place P (y ∷ xs) (suc i) x h e = at_place P xs i x h.1 e

not_before : (frame : Frame) (items : List Aggregate) (i j : ℕ) → IsFirstUnfit frame items i → IsFirstUnfit frame items j → i < j → ⊥
not_before frame items i j first second less = let unfit = first.1 in unfit.2 (second.0 i unfit.0 less unfit.1)

either_less : (i j : ℕ) → (i < j → ⊥) → (j < i → ⊥) → i ≡ j
either_less i j h k = elim (compare i j) [
  | inl less ↦ absurd (h less)
  | inr rest ↦ elim rest [ inl more ↦ absurd (k more) | inr same ↦ same ]
] where
  compare : (i j : ℕ) → (i < j) ⊎ ((j < i) ⊎ (i ≡ j))
  compare i j = grind arith

wide_once : (q : tree.Query) (head : Head) (i j : ℕ) → IsTooWide q head i → IsTooWide q head j → i ≡ j
wide_once q head i j h k = either_less i j (not_before _ _ i j h.unfit k.unfit) (not_before _ _ j i k.unfit h.unfit)

-- ---- faults

both_ways : (q : tree.Query) (head : Head) (one other : TypeFault) → (first_fault head.columns q ≡ Some one) ⊎ IsLate q head one → (first_fault head.columns q ≡ Some other) ⊎ IsLate q head other → one ≡ other
both_ways q head one other (inl h) (inl k) = cc
both_ways q head one other (inl h) (inr k) = let none = k.wide.faultless in absurd cc
both_ways q head one other (inr h) (inl k) = let none = h.wide.faultless in absurd cc
both_ways q head one other (inr h) (inr k) = h.is ∙ (ap TooWide (wide_once q head h.item k.item h.wide k.wide) ∙ sym k.is)

pub one_fault : (q : tree.Query) (head : Head) (one other : TypeFault) → one ≢ NoMemory → other ≢ NoMemory → Refuses q head one → Refuses q head other → one ≡ other
one_fault q head one other m n h k = both_ways q head one other (sorted q head one m h) (sorted q head other n k)

pub all_fit : (q : tree.Query) (head : Head) (query : Query) → IsTyped q head query → AllByRecursion (FitsItem (projected_frame (typed head.columns q) (frame_of head))) (typed head.columns q).items
all_fit q head query h = subst (λ (x : Query). AllByRecursion (FitsItem (projected_frame x (frame_of head))) x.items) h.same h.fits

no_late : (q : tree.Query) (head : Head) (fault : TypeFault) (query : Query) → IsTyped q head query → (first_fault head.columns q ≡ Some fault) ⊎ IsLate q head fault → ⊥
no_late q head fault query is_typed (inl h) = let none = is_typed.faultless in absurd cc
no_late q head fault query is_typed (inr h) =
    let unfit = h.wide.unfit.1 in
    unfit.2 (at_place (FitsItem (projected_frame (typed head.columns q) (frame_of head))) (typed head.columns q).items h.item unfit.0 (all_fit q head query is_typed) unfit.1)

pub faultless : (q : tree.Query) (head : Head) (fault : TypeFault) (query : Query) → fault ≢ NoMemory → IsTyped q head query → ¬ Refuses q head fault
faultless q head fault query memory is_typed refused = no_late q head fault query is_typed (sorted q head fault memory refused)

pub typed_once : (q : tree.Query) (head : Head) (one other : Query) → IsTyped q head one → IsTyped q head other → one ≡ other
typed_once q head one other h k = h.same ∙ sym k.same
