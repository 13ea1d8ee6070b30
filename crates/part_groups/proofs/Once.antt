-- Reports have one fault at most, and none where they can be combined.
use Rattle.std.proofs.Common.{◌≡◌, ◌≢◌, ◌⊎◌, ℕ, ◌<◌, List, length, refl, ap, inl, inr, arith}
use Rattle.query_model.specs.declared.query.ItemKind.{ItemKind}
use Rattle.report_text.specs.Answers.{CanBeWritten}
use Rattle.shard_groups.proofs.Firsts.{first_in_not_all, first_in_once}
use Rattle.shard_groups.specs.Groups.{FitsSaid}
use Rattle.part_groups.specs.Faults.{IsFirstOther}
use Rattle.part_groups.specs.Forms.{AreAllAlike}
use Rattle.part_groups.specs.Whole.{CanBeCombined, FaultsAreOne, IsFaultOver, IsTooWideOver, answers_over, said_over}
use Rattle.part_groups.specs.declared.fault.CombineFault.{CombineFault}
use Rattle.part_groups.specs.declared.fault.CombineFault.TheVariants.{NoMemory, OtherColumn, OtherItem, TooWide}
use Rattle.part_groups.specs.declared.forms.Places.{Places}
use Rattle.part_groups.specs.declared.group.Group.{Group}

which : (a b : ℕ) → (a < b) ⊎ ((a ≡ b) ⊎ (b < a))
which a b = grind arith

not_alike : (places : Places) (number count : ℕ) (parts : List (List Group)) → IsFirstOther places number count parts → AreAllAlike places count parts → ⊥
not_alike places number count parts h alike = h.other (alike number h.there)

other_once : (places : Places) (a b count : ℕ) (parts : List (List Group)) → IsFirstOther places a count parts → IsFirstOther places b count parts → a ≡ b
other_once places a b count parts h k = elim (which a b) [
  | inl less ↦ absurd (h.other (k.before a less))
  | inr (inl same) ↦ same
  | inr (inr more) ↦ absurd (k.other (h.before b more))
]

module _ (count : ℕ) (kinds : List ItemKind) (parts : List (List Group)) where
  wide_once : (a b : ℕ) → IsTooWideOver count kinds parts a → IsTooWideOver count kinds parts b → a ≡ b
  wide_once a b (inl h) (inl k) = first_in_once FitsSaid (said_over kinds parts) a b h k
  wide_once a b (inl h) (inr k) = absurd (first_in_not_all FitsSaid (said_over kinds parts) a h k.0)
  wide_once a b (inr h) (inl k) = absurd (first_in_not_all FitsSaid (said_over kinds parts) b k h.0)
  wide_once a b (inr h) (inr k) = first_in_once CanBeWritten (answers_over count kinds parts) a b h.1 k.1

  not_wide : (item : ℕ) → IsTooWideOver count kinds parts item → CanBeCombined count kinds parts → ⊥
  not_wide item (inl h) can = first_in_not_all FitsSaid (said_over kinds parts) item h can.fit
  not_wide item (inr h) can = first_in_not_all CanBeWritten (answers_over count kinds parts) item h.1 can.written

  once : (a b : CombineFault) → a ≢ NoMemory → b ≢ NoMemory → IsFaultOver a count kinds parts → IsFaultOver b count kinds parts → a ≡ b
  once NoMemory b some other h k = absurd (some refl)
  once (OtherColumn column) NoMemory some other h k = absurd (other refl)
  once (OtherColumn column) (OtherColumn again) some other h k = ap (λ (n : ℕ). OtherColumn n) (other_once _ column again count parts h k)
  once (OtherColumn column) (OtherItem item) some other h k = absurd (not_alike _ column count parts h k.0)
  once (OtherColumn column) (TooWide item) some other h k = absurd (not_alike _ column count parts h k.0.columns)
  once (OtherItem item) NoMemory some other h k = absurd (other refl)
  once (OtherItem item) (OtherColumn column) some other h k = absurd (not_alike _ column count parts k h.0)
  once (OtherItem item) (OtherItem again) some other h k = ap (λ (n : ℕ). OtherItem n) (other_once _ item again (length kinds) parts h.1 k.1)
  once (OtherItem item) (TooWide again) some other h k = absurd (not_alike _ item (length kinds) parts h.1 k.0.items)
  once (TooWide item) NoMemory some other h k = absurd (other refl)
  once (TooWide item) (OtherColumn column) some other h k = absurd (not_alike _ column count parts k h.0.columns)
  once (TooWide item) (OtherItem again) some other h k = absurd (not_alike _ again (length kinds) parts k.1 h.0.items)
  once (TooWide item) (TooWide again) some other h k = ap (λ (n : ℕ). TooWide n) (wide_once item again h.1 k.1)

  none : (why : CombineFault) → why ≢ NoMemory → IsFaultOver why count kinds parts → CanBeCombined count kinds parts → ⊥
  none NoMemory some h can = some refl
  none (OtherColumn column) some h can = not_alike _ column count parts h can.alike.columns
  none (OtherItem item) some h can = not_alike _ item (length kinds) parts h.1 can.alike.items
  none (TooWide item) some h can = not_wide item h.1 can

pub faults_are_one : FaultsAreOne
faults_are_one = record {
  alone = λ why other count kinds parts some others h k. once count kinds parts why other some others h k;
  none = λ why count kinds parts some h can. none count kinds parts why some h can;
}
