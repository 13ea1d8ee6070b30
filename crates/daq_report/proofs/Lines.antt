-- The lines of the items, one after the other.
use Rattle.std.proofs.Common.{◌≡◌, ℕ, zero, suc, ◌+◌, ◌<◌, List, [], ◌∷◌, ◌++◌, length, get_or, take, drop, slice_get, Some, Ok, Err, IsErr, refl, sym, ap, subst, ◌∙◌, arith, append_assoc, append-nil}
use Rattle.std.proofs.lemmas.Option.{slice_get-get_or}
use Rattle.query_model.specs.declared.query.Item.{Item}
use Rattle.daq_table.specs.declared.table_head.Head.{Head}
use Rattle.outer_world.proofs.Writes.{writes_both, writes_cut}
use Rattle.outer_world.specs.Device.{SinkState}
use Rattle.outer_world.specs.Whole.{Writes}
use Rattle.round_engine.specs.Stages.{Stage}
use Rattle.std.specs.declared.result.Result.{Result}
use Rattle.daq_report.specs.declared.scope.Scope.{Scope}
use Rattle.daq_report.specs.Items.{item_line, item_lines}

-- the item at a place of the same list
pub item_there : (items held : List Item) (place : ℕ) (item : Item) → held ≡ items → place < length held → item ≡ get_or held place item → slice_get items place ≡ Some item
item_there items held place item same lt is = subst (λ l. slice_get l place ≡ Some item) same (slice_get-get_or held place item lt ∙ ap Some (sym is))

-- one more
one_more : (head : Head) (stage : Stage) (scope : Scope) (n : ℕ) (items : List Item) (place : ℕ) (item : Item) → slice_get items place ≡ Some item →
    item_lines head stage scope n (take (suc place) items) ≡ item_lines head stage scope n (take place items) ++ item_line head stage scope (place + n) item
one_more head stage scope n [] place item e = absurd (cc)
one_more head stage scope n (i ∷ is) zero item e =
    let same : i ≡ item = cc in
    let first : n ≡ 0 + n = omega arith in
    append-nil (item_line head stage scope n i) ∙ ap (λ (k : ℕ). item_line head stage scope k i) first ∙ ap (item_line head stage scope (0 + n)) same
one_more head stage scope n (i ∷ is) (suc place) item e =
    let later : place + (n + 1) ≡ suc place + n = omega arith in
    ap (λ l. item_line head stage scope n i ++ l) (one_more head stage scope (n + 1) is place item e ∙ ap (λ (k : ℕ). item_lines head stage scope (n + 1) (take place is) ++ item_line head stage scope k item) later)
    ∙ sym (append_assoc (item_line head stage scope n i) (item_lines head stage scope (n + 1) (take place is)) (item_line head stage scope (suc place + n) item))

-- so many, and the rest
parted : (head : Head) (stage : Stage) (scope : Scope) (n : ℕ) (items : List Item) (place : ℕ) →
    item_lines head stage scope n items ≡ item_lines head stage scope n (take place items) ++ item_lines head stage scope (place + n) (drop place items)
parted head stage scope n items zero = let first : n ≡ 0 + n = omega arith in ap (λ (k : ℕ). item_lines head stage scope k items) first
parted head stage scope n [] (suc place) = refl
parted head stage scope n (i ∷ is) (suc place) =
    let later : place + (n + 1) ≡ suc place + n = omega arith in
    ap (λ l. item_line head stage scope n i ++ l) (parted head stage scope (n + 1) is place ∙ ap (λ (k : ℕ). item_lines head stage scope (n + 1) (take place is) ++ item_lines head stage scope k (drop place is)) later)
    ∙ sym (append_assoc (item_line head stage scope n i) (item_lines head stage scope (n + 1) (take place is)) (item_lines head stage scope (suc place + n) (drop place is)))

-- the lines so far, and one more
pub line_after : {A B C E : Type 0} (x : A) (y : B) (z : C) (head : Head) (stage : Stage) (scope : Scope) (items : List Item) (place : ℕ) (item : Item) (a b c : SinkState) →
    slice_get items place ≡ Some item → Writes {E = E} (Ok x) a b (item_lines head stage scope 1 (take place items)) →
    Writes {E = E} (Ok y) b c (item_line head stage scope (place + 1) item) → Writes {E = E} (Ok z) a c (item_lines head stage scope 1 (take (place + 1) items))
line_after {E = E} x y z head stage scope items place item a b c there before line =
    let next : suc place ≡ place + 1 = omega arith in
    let both = writes_both x (Ok y) a b c _ _ before line in
    let text = one_more head stage scope 1 items place item there in
    subst (λ (k : ℕ). Writes {E = E} (Ok z) a c (item_lines head stage scope 1 (take k items))) next
    (subst (Writes {E = E} (Ok z) a c) (sym text) (record { done = both.done; part = tt; cause = record { later = both.cause.later; failed = tt } }))

-- the lines so far, and a part of one more
pub line_cut : {A T E F : Type 0} (x : A) (e : F) (result : Result T E) (head : Head) (stage : Stage) (scope : Scope) (items : List Item) (place : ℕ) (item : Item) (a b c : SinkState) →
    slice_get items place ≡ Some item → Writes {E = E} (Ok x) a b (item_lines head stage scope 1 (take place items)) → IsErr result →
    Writes {T = T} (Err e) b c (item_line head stage scope (place + 1) item) → Writes result a c (item_lines head stage scope 1 items)
line_cut x e result head stage scope items place item a b c there before failed line =
    let lines = item_lines head stage scope 1 (take place items) in
    let rest = item_lines head stage scope (suc place + 1) (drop (suc place) items) in
    let text = parted head stage scope 1 items (suc place) ∙ ap (λ l. l ++ rest) (one_more head stage scope 1 items place item there) ∙ append_assoc lines (item_line head stage scope (place + 1) item) rest in
    subst (Writes result a c) (sym text) (writes_both x result a b c lines _ before (writes_cut e result b c _ _ failed line))
