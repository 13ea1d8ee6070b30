-- What several reads of a source come to.
use Rattle.std.proofs.Common.{◌≡◌, ℕ, ◌+◌, ◌<◌, ◌≤◌, true, false, List, [], ◌∷◌, ◌++◌, length, append_assoc, append-nil, length-append, subst, sym, ap, ◌∙◌, refl, arith}
use Rattle.std.proofs.KnownBytes.{Consumes-kept, Consumes-nil, Consumes-trans}
use Rattle.std.specs.Io.KnownBytes.{Consumes, Keeps}
use Rattle.outer_world.specs.Device.{Rose, SourceState}
use Rattle.source_lines.specs.declared.fault.LineFault.{LineFault}
use Rattle.source_lines.specs.declared.fault.LineFault.TheVariants.{Fault, LineTooLong, TooLong, NoMemory}
use Rattle.source_lines.specs.Lines.{IsFull, IsRest, LinesState, ReadsOn, StopsLines, Took, has_line, line_length, most_bytes, most_line}

-- nothing was read
pub reads_none : (s : LinesState) (source : SourceState) → s.total ≤ most_bytes → ReadsOn s s source source
reads_none s source few = record {
  bytes = [];
  came = Consumes-nil source.left;
  pending = sym (append-nil s.pending);
  total = omega arith;
  within = few;
}

pub reads_both : (a b c : LinesState) (r s t : SourceState) → ReadsOn a b r s → ReadsOn b c s t → ReadsOn a c r t
reads_both a b c r s t first second = record {
  bytes = first.bytes ++ second.bytes;
  came = Consumes-trans r.left s.left t.left first.bytes second.bytes first.came second.came;
  pending = second.pending ∙ ap (λ v. v ++ second.bytes) first.pending ∙ append_assoc a.pending first.bytes second.bytes;
  total = let long = length-append first.bytes second.bytes in let one = first.total in let two = second.total in omega arith;
  within = second.within;
}

-- a fact of what stands there in all
moved : (P : List ℕ → Type 0) (a b : LinesState) (r s : SourceState) (first : ReadsOn a b r s) (bytes : List ℕ) → P (b.pending ++ bytes) →
    P (a.pending ++ (first.bytes ++ bytes))
moved P a b r s first bytes holds =
    subst P (ap (λ v. v ++ bytes) first.pending ∙ append_assoc a.pending first.bytes bytes) holds

took_both : (P Q : List ℕ → Type 0) (a b : LinesState) (r s t : SourceState) (first : ReadsOn a b r s) →
    ((bytes : List ℕ) → P bytes → Q (first.bytes ++ bytes)) → Took P b s t → Took Q a r t
took_both P Q a b r s t first step took =
    record {
      bytes = first.bytes ++ took.bytes;
      came = Consumes-trans r.left s.left t.left first.bytes took.bytes first.came took.came;
      within =
          let long = length-append first.bytes took.bytes in
          let total = first.total in
          let few = took.within in
          omega (arith, long, total, few);
      holds = step took.bytes took.holds;
    }

rose_later : (before mid now : ℕ) → before ≤ mid → Rose mid now → Rose before now
rose_later before mid now later rose = omega (arith, later, rose)

full_behind : (a b : LinesState) (r s t : SourceState) (first : ReadsOn a b r s) → IsFull b s t → IsFull a r t
full_behind a b r s t first is = record {
  front = first.bytes ++ is.front;
  last = is.last;
  came = subst (λ v. Consumes r.left t.left v) (sym (append_assoc first.bytes is.front (is.last ∷ [])))
      (Consumes-trans r.left s.left t.left first.bytes (is.front ++ is.last ∷ []) first.came is.came);
  full =
      let long = length-append first.bytes is.front in
      let total = first.total in
      let full = is.full in
      omega (arith, long, total, full);
  rest = moved (λ v. IsRest v) a b r s first is.front is.rest;
}

-- it stops behind what was read before
pub stops_behind : (a b : LinesState) (r s t : SourceState) (why : LineFault) → r.faults ≤ s.faults → ReadsOn a b r s →
    StopsLines b s t why → StopsLines a r t why
stops_behind a b r s t Fault later first stop = record {
  rose = rose_later r.faults s.faults t.faults later stop.rose;
  took = took_both _ _ a b r s t first (λ bytes. moved (λ v. IsRest v) a b r s first bytes) stop.took;
}
stops_behind a b r s t LineTooLong later first stop =
    took_both _ _ a b r s t first (λ bytes. moved (λ v. most_line < line_length v) a b r s first bytes) stop
stops_behind a b r s t TooLong later first stop = full_behind a b r s t first stop
stops_behind a b r s t NoMemory later first stop = took_both _ _ a b r s t first (λ bytes any. tt) stop

-- ---- one read

-- a fact of what stands there
here : (P : List ℕ → Type 0) (pending : List ℕ) → P pending → P (pending ++ [])
here P pending holds = subst P (sym (append-nil pending)) holds

-- the read failed
pub stops_failed : (s : LinesState) (r t : SourceState) → Rose r.faults t.faults → Keeps r.left t.left → s.total ≤ most_bytes → IsRest s.pending →
    StopsLines s r t Fault
stops_failed s r t rose kept few rest = record {
  rose = rose;
  took = record {
    bytes = [];
    came = Consumes-kept r.left r.left t.left [] (Consumes-nil r.left) kept;
    within = omega (arith, few);
    holds = here (λ v. IsRest v) s.pending rest;
  };
}

one_byte : (bytes : List ℕ) → length bytes ≡ 1 → (last : ℕ) × (bytes ≡ last ∷ [])
one_byte (last ∷ []) e = (last, refl)
one_byte (last ∷ next ∷ bytes) e = absurd (omega (arith, e))
one_byte [] e = absurd (omega (arith, e))

-- one byte came more than may come
pub stops_full : (s : LinesState) (r t : SourceState) (bytes : List ℕ) → Consumes r.left t.left bytes → length bytes ≡ 1 →
    s.total ≡ most_bytes → IsRest s.pending → StopsLines s r t TooLong
stops_full s r t bytes came one full rest = record {
  front = [];
  last = (one_byte bytes one).0;
  came = subst (λ v. Consumes r.left t.left v) (one_byte bytes one).1 came;
  full = omega (arith, full);
  rest = here (λ v. IsRest v) s.pending rest;
}

-- there is no memory for them
pub stops_starved : (s : LinesState) (r t : SourceState) (bytes : List ℕ) → Consumes r.left t.left bytes → s.total + length bytes ≤ most_bytes →
    StopsLines s r t NoMemory
stops_starved s r t bytes came within = record { bytes = bytes; came = came; within = within; holds = tt }

-- the line is too long
pub stops_long : (s : LinesState) (r : SourceState) → s.total ≤ most_bytes → most_line < line_length s.pending → StopsLines s r r LineTooLong
stops_long s r few long = record {
  bytes = [];
  came = Consumes-nil r.left;
  within = omega (arith, few);
  holds = here (λ v. most_line < line_length v) s.pending long;
}

-- where a line stands nothing is read
pub never_idle : {A : Type 0} (a b : LinesState) → has_line a.pending ≡ true → b ≡ a → has_line b.pending ≡ false → A
never_idle a b some same none =
    let no : true ≡ false = sym some ∙ ap (λ s. has_line s.pending) (sym same) ∙ none in cc
