-- What a store shows that tells its bytes is why its file is not opened.
use Rattle.std.proofs.Common.{◌≡◌, ℕ, List, IfSome, refl, sym, ap, ◌∙◌, subst, inl, inr, ◌⊎◌, Option, Some, None}
use Rattle.outer_world.specs.Device.{Rose, StoreState}
use Rattle.plane_file.specs.Bytes.{AreBytes}
use Rattle.plane_file.specs.Checks.{file_fault}
use Rattle.plane_file.specs.Laws as laws
use Rattle.plane_file.specs.Opening.{HasFault, Opened, Opens}
use Rattle.plane_file.specs.declared.file_fault.FileFault.{FileFault}
use Rattle.plane_file.specs.declared.file_fault.FileFault.TheVariants as f
use Rattle.daq_cli.specs.Faults as of
use Rattle.daq_cli.specs.Files.{ShowsFile, StopsOpening, file_step}
use Rattle.daq_cli.specs.Steps.{IsComplete, IsExact}
use Rattle.daq_cli.specs.declared.refusal.Refusal.{Refusal}
use Rattle.daq_cli.specs.declared.refusal.Refusal.TheVariants.{File, NoMemory}

pub if_told : (P : List ℕ → Type 0) (held : Option (List ℕ)) (bytes : List ℕ) → held ≡ Some bytes → IfSome held P → P bytes
if_told P held bytes e h = subst (λ (o : Option (List ℕ)). IfSome o P) e h

module _ (planes planes' : StoreState) (bytes : List ℕ) (told : planes.held ≡ Some bytes) where
  -- a file that was opened is accepted
  pub opened_told : (file : Opened) → Opens planes planes' file → (file_step bytes).accepts file
  opened_told file opens = if_told (λ b. (file_step b).accepts file) planes.held bytes told opens.spelled

  by_fault : (fault : FileFault) (why : Refusal) → why ≡ of.opening fault → HasFault planes planes' fault →
      ShowsFile bytes why ⊎ (why ≡ NoMemory) ⊎ Rose planes.faults planes'.faults
  by_fault f.BadMagic why is has = inl (record { fault = f.BadMagic; is = is; faulty = if_told (λ b. file_fault b ≡ Some f.BadMagic) planes.held bytes told has })
  by_fault (f.UnknownVersion found) why is has =
      inl (record { fault = f.UnknownVersion found; is = is; faulty = if_told (λ b. file_fault b ≡ Some (f.UnknownVersion found)) planes.held bytes told has })
  by_fault (f.BadHead at) why is has = inl (record { fault = f.BadHead at; is = is; faulty = if_told (λ b. file_fault b ≡ Some (f.BadHead at)) planes.held bytes told has })
  by_fault (f.LimitPassed at) why is has = inl (record { fault = f.LimitPassed at; is = is; faulty = if_told (λ b. file_fault b ≡ Some (f.LimitPassed at)) planes.held bytes told has })
  by_fault (f.WrongSize found wanted) why is has =
      inl (record { fault = f.WrongSize found wanted; is = is; faulty = if_told (λ b. file_fault b ≡ Some (f.WrongSize found wanted)) planes.held bytes told has })
  by_fault f.WentShort why is has = absurd (if_told (λ b. ⊥) planes.held bytes told has.1)
  by_fault f.Fault why is has = inr (inr has)
  by_fault f.NoMemory why is has = inr (inl is)

  -- a file that was not opened is shown to be none, unless memory ran out or a read failed
  pub stop_told : (why : Refusal) → StopsOpening planes planes' why → (file_step bytes).shows why ⊎ (why ≡ NoMemory) ⊎ Rose planes.faults planes'.faults
  stop_told why stop = by_fault stop.fault why stop.is stop.refused.cause

-- ---- the step

one_file : (a b : Opened) → (a.version ≡ b.version) × (a.head ≡ b.head) → a ≡ b
one_file a b (versions, heads) =
    ap (λ v. record { head = a.head; version = v }) versions ∙ ap (λ h. record { head = h; version = b.version }) heads

same_fault : (found : Option FileFault) (a b : FileFault) → found ≡ Some a → found ≡ Some b → a ≡ b
same_fault found a b e f = cc

no_fault : (found : Option FileFault) (a : FileFault) → found ≡ None → found ≡ Some a → ⊥
no_fault found a e f = cc

pub file_exact : laws.AreFaultless → laws.HaveOneHead → (bytes : List ℕ) → IsExact (file_step bytes)
file_exact faultless one bytes = record {
  once = λ a b p r. one_file a b (one bytes a.version b.version a.head b.head p r);
  same = λ why other p r. p.is ∙ ap File (same_fault (file_fault bytes) p.fault r.fault p.faulty r.faulty) ∙ sym r.is;
  apart = λ file why is p. no_fault (file_fault bytes) p.fault (faultless bytes file.version file.head is) p.faulty;
}

pub file_complete : laws.HasHead → (bytes : List ℕ) → AreBytes bytes → IsComplete (file_step bytes)
file_complete heads bytes are = by (file_fault bytes) refl
  where
    by : (found : Option FileFault) → file_fault bytes ≡ found → IsComplete (file_step bytes)
    by None e = let (version, head, is) = heads bytes are e in inl (record { head = head; version = version }, is)
    by (Some fault) e = inr (File fault, record { fault = fault; is = refl; faulty = e })
