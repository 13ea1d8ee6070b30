-- The steps of opening a file, one after the other.
use Rattle.std.proofs.Common.{◌≡◌, ℕ, ◌+◌, ◌-◌, ◌≤◌, ◌<◌, Option, Some, None, List, ◌++◌, Result, Ok, Err, length, take, drop, refl, sym, ap, subst, ◌∙◌, arith, append-nil, take-append-drop, inl, inr, IfSome, IfErr, IfOk, OnOk}
use Rattle.std.proofs.Math.ListN.{drop_of_length-le}
use Rattle.std.proofs.lemmas.List.{drop_at, length-append, take_all, take_at}
use Rattle.outer_world.proofs.Steps.{handed_none, take_both}
use Rattle.outer_world.specs.Device.{StoreState}
use Rattle.outer_world.specs.Whole.{Fills, HandsOver, HoldsSame, places_from}
use Rattle.plane_file.proofs.Bytewise.{fault_front, fault_header, fault_heads, fault_small, front_is, heads-take, readable_front, readable_large, same_header}
use Rattle.plane_file.proofs.Refusals.{HasRoom, Shows, first_of_bytes, front_of_bytes, hands_both, refuses, starves, stops}
use Rattle.plane_file.specs.Checks.{file_fault, first_fault, front_checks, front_of, header_checks, heads_in, readable}
use Rattle.plane_file.specs.Fronts.{FillsBehind, HandsFront, HandsHeader, HasFront, HasStart, IsFrontOf, MayFail, StopsAt}
use Rattle.plane_file.specs.Opening.{IsFileHead, Opened, Opens, Refuses}
use Rattle.plane_file.specs.declared.file_fault.FileFault.{FileFault}
use Rattle.plane_file.specs.declared.file_fault.FileFault.TheVariants.{NoMemory, WrongSize}

-- what follows where a value is told
pub then_told : {X : Type 0} (o : Option X) (P Q : X → Type 0) → ((x : X) → P x → Q x) → IfSome o P → IfSome o Q
then_told None P Q f h = tt
then_told (Some x) P Q f h = f x h

pub then_ok : {A E : Type 0} (r : Result A E) (P Q : Type 0) → (P → Q) → OnOk r P → OnOk r Q
then_ok (Ok x) P Q f h = f h
then_ok (Err e) P Q f h = tt

pub then_if_ok : {A E : Type 0} (r : Result A E) (P Q : A → Type 0) → ((x : A) → P x → Q x) → IfOk r P → IfOk r Q
then_if_ok (Ok x) P Q f h = f x h
then_if_ok (Err e) P Q f h = tt

pub then_err : {A E : Type 0} (r : Result A E) (P Q : E → Type 0) → ((e : E) → P e → Q e) → IfErr r P → IfErr r Q
then_err (Ok x) P Q f h = tt
then_err (Err e) P Q f h = f e h

abbrev IsSize : ℕ → List ℕ → Type 0
IsSize size bytes = size ≡ length bytes

-- the size is below 32
pub small_refused : (old new : StoreState) (size : ℕ) → new.pieces ≡ old.pieces → IfSome old.held (IsSize size) → size < 32 → Refuses old new (WrongSize size 32)
small_refused old new size same told lt =
    refuses old new (WrongSize size 32) 0 refl (rw same (handed_none old.pieces 0))
    (then_told old.held (IsSize size) (Shows (WrongSize size 32) 0) (λ bytes e. record { found = rw e (fault_small bytes (omega (arith, e))); few = omega arith }) told)

room_32 : (size : ℕ) (bytes : List ℕ) → 32 ≤ size → size ≡ length bytes → HasRoom 32 bytes
room_32 size bytes le e = let large : 32 ≤ length bytes = omega arith in record { there = large; may = readable_large bytes large }

-- the header could not be read
pub header_stops : (old mid new : StoreState) (size count : ℕ) (why : FileFault) → mid.held ≡ old.held → mid.pieces ≡ old.pieces → old.faults ≤ mid.faults → old.ends ≤ mid.ends
    → IfSome old.held (IsSize size) → 32 ≤ size → count ≡ 32 → StopsAt mid new 0 count why → Refuses old new why
header_stops old mid new size count why held pieces faults ends told le e stopped =
    let here : StopsAt mid new 0 32 why = subst (λ (n : ℕ). StopsAt mid new 0 n why) e stopped in
    stops old mid new 0 32 why held faults ends (rw pieces (handed_none old.pieces 0)) (then_told old.held (IsSize size) (HasRoom (0 + 32)) (λ bytes same. room_32 size bytes le same) told) here

-- the header was read
pub record IsStarted (old new : StoreState) (header : List ℕ) (size : ℕ) : Type 0 where
  pub long : length header ≡ 32
  pub large : 32 ≤ size
  pub told : IfSome old.held (λ bytes. HasStart bytes header size)
  pub handed : HandsOver old.pieces new.pieces (places_from 0 32)

pub started : (old mid new : StoreState) (size : ℕ) (header : List ℕ) → mid.held ≡ old.held → mid.pieces ≡ old.pieces → IfSome old.held (IsSize size) → 32 ≤ size → length header ≡ 32 → Fills mid new 0 header
    → IsStarted old new header size
started old mid new size header held pieces told le long filled =
    let front : IfSome old.held (λ bytes. header ≡ take (length header) (drop 0 bytes)) = subst (λ (o : Option (List ℕ)). IfSome o (λ bytes. header ≡ take (length header) (drop 0 bytes))) held filled.bytes in
    let handed : HandsOver old.pieces new.pieces (places_from 0 32) = rw (← pieces, ← long) filled.handed in
    record {
      long = long;
      large = le;
      told = both old.held told front;
      handed = handed;
    }
  where
    both : (o : Option (List ℕ)) → IfSome o (IsSize size) → IfSome o (λ bytes. header ≡ take (length header) (drop 0 bytes)) → IfSome o (λ bytes. HasStart bytes header size)
    both None p q = tt
    both (Some bytes) p q = record { header_is = q ∙ ap (λ (n : ℕ). take n bytes) long; size_is = p }

-- a check of the header fails
pub header_refused : (old new : StoreState) (header : List ℕ) (size : ℕ) (why : FileFault) → IsStarted old new header size → first_fault (header_checks header) ≡ Some why → Refuses old new why
header_refused old new header size why s e =
    refuses old new why 32 (first_of_bytes (header_checks header) why refl e) s.handed
    (then_told old.held (λ bytes. HasStart bytes header size) (Shows why 32) (λ bytes h. shows bytes h) s.told)
  where
    shows : (bytes : List ℕ) → HasStart bytes header size → Shows why 32 bytes
    shows bytes h =
        let large : 32 ≤ length bytes = omega (arith, s.large, h.size_is) in
        record { found = fault_header bytes why large (rw h.header_is at e); few = readable_large bytes large }

-- the size has no room for the heads
pub room_refused : (old new : StoreState) (header : List ℕ) (size wanted : ℕ) → IsStarted old new header size → first_fault (header_checks header) ≡ None → wanted ≡ 32 + heads_in header → size < wanted
    → Refuses old new (WrongSize size wanted)
room_refused old new header size wanted s e same lt =
    refuses old new (WrongSize size wanted) 32 refl s.handed (then_told old.held (λ bytes. HasStart bytes header size) (Shows (WrongSize size wanted) 32) (λ bytes h. shows bytes h) s.told)
  where
    shows : (bytes : List ℕ) → HasStart bytes header size → Shows (WrongSize size wanted) 32 bytes
    shows bytes h =
        let large : 32 ≤ length bytes = omega (arith, s.large, h.size_is) in
        let passed : first_fault (header_checks (take 32 bytes)) ≡ None = rw h.header_is at e in
        let less : length bytes < 32 + heads_in (take 32 bytes) = omega (arith, h.size_is, same, ap heads_in h.header_is) in
        let all : wanted ≡ 32 + heads_in (take 32 bytes) = same ∙ ap (λ (xs : List ℕ). 32 + heads_in xs) h.header_is in
        record { found = rw (h.size_is, all) (fault_heads bytes large passed less); few = readable_large bytes large }

-- what a header that passes its checks says of the bytes
record IsLarge (bytes header : List ℕ) : Type 0 where
  large : 32 ≤ length bytes
  passed : first_fault (header_checks (take 32 bytes)) ≡ None
  room : 32 + heads_in (take 32 bytes) ≤ length bytes
  same : heads_in header ≡ heads_in bytes

is_large : (old mid : StoreState) (bytes header : List ℕ) (size : ℕ) → HandsHeader old mid header size → HasStart bytes header size → IsLarge bytes header
is_large old mid bytes header size h start =
    let front : heads_in header ≡ heads_in (take 32 bytes) = ap heads_in start.header_is in
    record {
      large = omega (arith, h.room, start.size_is);
      passed = rw start.header_is at h.passed;
      room = omega (arith, h.room, start.size_is, front);
      same = front ∙ heads-take bytes 32 (omega arith);
    }

may_start : (old mid : StoreState) (header : List ℕ) (size : ℕ) → HandsHeader old mid header size → IfSome old.held (λ bytes. 32 ≤ readable bytes)
may_start old mid header size h =
    then_told old.held (λ bytes. HasStart bytes header size) (λ bytes. 32 ≤ readable bytes) (λ bytes start. let l = is_large old mid bytes header size h start in readable_large bytes l.large) h.told

-- there is no memory for the heads
pub header_starves : (old mid : StoreState) (header : List ℕ) (size : ℕ) → HandsHeader old mid header size → Refuses old mid NoMemory
header_starves old mid header size h = starves old mid 32 h.handed (may_start old mid header size h)

-- the heads could not be read
pub behind_stops : (old mid new : StoreState) (header : List ℕ) (size count : ℕ) (why : FileFault) → HoldsSame old mid → HandsHeader old mid header size → count ≡ heads_in header → StopsAt mid new 32 count why
    → Refuses old new why
behind_stops old mid new header size count why same h e stopped =
    stops old mid new 32 count why same.held same.faults same.ends h.handed (then_told old.held (λ bytes. HasStart bytes header size) (HasRoom (32 + count)) (λ bytes start. room bytes start) h.told) stopped
  where
    room : (bytes : List ℕ) → HasStart bytes header size → HasRoom (32 + count) bytes
    room bytes start =
        let l = is_large old mid bytes header size h start in
        record {
          there = omega (arith, e, h.room, start.size_is);
          may = omega (arith, e, l.same, readable_front bytes l.large l.passed l.room);
        }

-- a buffer of the header, and of what follows it
pub fills_behind : (old new : StoreState) (header first behind : List ℕ) → first ≡ header → length header ≡ 32 → Fills old new 32 behind → FillsBehind old new header (first ++ behind)
fills_behind old new header first behind e long filled =
    let front : length first ≡ 32 = ap length e ∙ long in
    let rest : drop 32 (first ++ behind) ≡ behind = drop_at first behind 32 front in
    let count : length (first ++ behind) - 32 ≡ length behind = omega (arith, length-append first behind, front) in
    record {
      header_is = take_at first behind 32 front ∙ e;
      told = rw (rest, count) filled.bytes;
      handed = rw count filled.handed;
    }

-- all up to the first plane was read
pub hands_front : (old mid new : StoreState) (header : List ℕ) (size : ℕ) (front : List ℕ) → HoldsSame old mid → HandsHeader old mid header size → FillsBehind mid new header front → length front ≡ 32 + heads_in header
    → HandsFront old new front size
hands_front old mid new header size front same h behind long =
    let passed : first_fault (header_checks front) ≡ None = sym (same_header front) ∙ ap (λ (xs : List ℕ). first_fault (header_checks xs)) behind.header_is ∙ h.passed in
    let heads : heads_in header ≡ heads_in front = ap heads_in (sym behind.header_is) ∙ heads-take front 32 (omega arith) in
    let count : 32 + (length front - 32) ≡ length front = omega (arith, long) in
    let rest : IfSome old.held (λ bytes. drop 32 front ≡ take (length front - 32) (drop 32 bytes)) = subst (λ (o : Option (List ℕ)). IfSome o (λ bytes. drop 32 front ≡ take (length front - 32) (drop 32 bytes))) same.held behind.told in
    record {
      header = record { passed = passed; whole = omega (arith, long, heads) };
      told = both old.held h.told rest;
      handed = subst (λ (n : ℕ). HandsOver old.pieces new.pieces (places_from 0 n)) count (hands_both old mid new 32 (length front - 32) h.handed behind.handed);
    }
  where
    shown : (bytes : List ℕ) → HasStart bytes header size → drop 32 front ≡ take (length front - 32) (drop 32 bytes) → HasFront bytes front size
    shown bytes start rest =
        let l = is_large old mid bytes header size h start in
        let count : 32 + (length front - 32) ≡ length front = omega (arith, long) in
        let whole : front ≡ take (length front) bytes =
        sym (take-append-drop 32 front) ∙ ap (λ (xs : List ℕ). xs ++ drop 32 front) (behind.header_is ∙ start.header_is) ∙ ap (λ (xs : List ℕ). take 32 bytes ++ xs) rest
        ∙ sym (take_both 32 (length front - 32) bytes l.large) ∙ ap (λ (n : ℕ). take n bytes) count in
        let end : 32 + heads_in bytes ≡ length front = omega (arith, long, l.same) in
        let here : front_of bytes ≡ front = front_is bytes ∙ ap (λ (n : ℕ). take n bytes) end ∙ sym whole in
        record {
          front_is = whole;
          size_is = start.size_is;
          fault_is = fault_front bytes l.large l.passed l.room ∙ ap (λ (xs : List ℕ). first_fault (front_checks xs (length bytes))) here ∙ ap (λ (n : ℕ). first_fault (front_checks front n)) (sym start.size_is);
          readable_is = readable_front bytes l.large l.passed l.room ∙ end;
        }

    both : (o : Option (List ℕ)) → IfSome o (λ bytes. HasStart bytes header size) → IfSome o (λ bytes. drop 32 front ≡ take (length front - 32) (drop 32 bytes)) → IfSome o (λ bytes. HasFront bytes front size)
    both None p q = tt
    both (Some bytes) p q = shown bytes p q

-- the front shows a fault, or there is no memory for its head
pub front_refused : (old new : StoreState) (front : List ℕ) (size : ℕ) (why : FileFault) → HandsFront old new front size → MayFail (first_fault (front_checks front size)) why → Refuses old new why
front_refused old new front size why h (inl none) =
    rw none (starves old new (length front) h.handed (then_told old.held (λ bytes. HasFront bytes front size) (λ bytes. length front ≤ readable bytes) (λ bytes told. let e = told.readable_is in omega arith) h.told))
front_refused old new front size why h (inr found) =
    refuses old new why (length front) (first_of_bytes (front_checks front size) why (front_of_bytes front size) found) h.handed
    (then_told old.held (λ bytes. HasFront bytes front size) (Shows why (length front)) (λ bytes told. let e = told.readable_is in record { found = told.fault_is ∙ found; few = omega arith }) h.told)

-- the front is that of a file
pub front_opened : (old new : StoreState) (front : List ℕ) (size : ℕ) (file : Opened) → HandsFront old new front size → IsFrontOf front size file → Opens old new file
front_opened old new front size file h f = record {
  faultless = then_told old.held (λ bytes. HasFront bytes front size) (λ bytes. file_fault bytes ≡ None) (λ bytes told. told.fault_is ∙ f.passed) h.told;
  spelled = then_told old.held (λ bytes. HasFront bytes front size) (λ bytes. IsFileHead bytes file.version file.head) (λ bytes told. record {
    opened = f.opened;
    same = ap (λ (n : ℕ). take n bytes) (sym f.long) ∙ sym told.front_is ∙ f.same;
    size = sym told.size_is ∙ f.size_is;
  }) h.told;
  handed = subst (λ (n : ℕ). HandsOver old.pieces new.pieces (places_from 0 n)) f.long h.handed;
}

-- what a loan of all items gives back
pub given_back : (count : ℕ) (now items : List ℕ) → length now ≡ length items → count ≡ length items → take count (now ++ drop (length now) items) ≡ now
given_back count now items same e =
    rw (drop_of_length-le items {i = length now} (omega arith), append-nil now) (take_all count now (omega arith))
