-- Lines that cut the cells of a shard into runs.
use Rattle.std.proofs.Common.{◌≡◌, ℕ, zero, suc, ◌+◌, ◌-◌, ◌≤◌, ◌<◌, Bool, true, false, List, [], ◌∷◌, ◌++◌, take, drop, length, get_or, nat_eq, refl, arith, sym, ap, ◌∙◌, subst, inl, inr, if◌then◌else◌, IsTrue, IsFalse}
use Rattle.std.proofs.lemmas.Bool.Decides.{nat_tests}
use Rattle.std.proofs.lemmas.Bool.{and_parts, both_ways, cases_Bool, false≢true}
use Rattle.std.proofs.lemmas.List.Elements.{filter-append}
use Rattle.std.proofs.lemmas.List.{append-nil, drop-drop, drop_all, drop_more, get_or_default, length-drop, take-append-drop, take_more}
use Rattle.shard_groups.specs.declared.cells.Cell.{Cell}
use Rattle.shard_groups.specs.declared.keys.Span.{Span}
use Rattle.shard_groups.specs.declared.runs.Run.{Run}
use Rattle.shard_groups.specs.declared.runs.Run.TheVariants.{All, Part}
use Rattle.shard_groups.specs.Cuts.{AreBehind, AreBeside, AreNear, AreOn, ArePartsOf, IsNear, IsOn, IsPartOf, behind, cells_of, is_cut, is_of}
use Rattle.shard_groups.specs.Groups.{cells_within}
use Rattle.shard_groups.specs.Keys.{is_within, meets}
use Rattle.shard_groups.specs.Lines.{AreApart, IsApart}
use Rattle.shard_groups.proofs.Later.{keep_rest}
use Rattle.shard_groups.proofs.LineSets.{meets_not}
use Rattle.shard_groups.proofs.Spans.{meets_both}

-- ---- a line

-- what is of one line does not lie within another
elsewhere : (line other : List Span) (cell : Cell) → IsFalse (meets line other) → IsTrue (is_of line cell) → IsTrue (is_within cell.keys other) → ⊥
elsewhere line other cell apart t w =
    let e = and_parts (meets cell.keys cell.keys) (is_within cell.keys line) t in
    both_ways (meets line other) apart (meets_both cell.keys cell.keys line other e.1 w e.0)

behind_by : (t : Bool) (line other : List Span) (cell : Cell) (cells : List Cell) → is_of line cell ≡ t → IsFalse (meets line other) →
    cells_within other cells ≡ cells_within other (behind line cells) →
    cells_within other (cell ∷ cells) ≡ cells_within other (if t then behind line cells else cell ∷ cells)
behind_by true line other cell cells e apart same =
    keep_rest (is_within cell.keys other) cell (cells_within other cells) (elsewhere line other cell apart e) ∙ same
behind_by false line other cell cells e apart same = refl

-- another line has none of the cells in front
behind_same : (line other : List Span) (cells : List Cell) → IsFalse (meets line other) → cells_within other cells ≡ cells_within other (behind line cells)
behind_same line other [] apart = refl
behind_same line other (cell ∷ cells) apart =
    behind_by (is_of line cell) line other cell cells refl apart (behind_same line other cells apart)

-- what others cut into runs is none of the line's
cut_elsewhere : (line : List Span) (lines : List (List Span)) (cells : List Cell) → IsApart line lines → IsTrue (is_cut lines cells) →
    cells_within line cells ≡ []
cut_elsewhere line [] [] apart t = refl
cut_elsewhere line [] (cell ∷ cells) apart t = absurd (false≢true t)
cut_elsewhere line (other ∷ lines) cells apart t =
    behind_same other line cells (meets_not line other apart.0) ∙ cut_elsewhere line lines (behind other cells) apart.1 t

-- ---- the next run

near_front : (line : List Span) (cells : List Cell) (n : ℕ) → cells_within line (drop n cells) ≡ [] → cells_within line (take n cells) ≡ cells_within line cells
near_front line cells n none =
    sym (append-nil (cells_within line (take n cells))) ∙ ap (λ (cs : List Cell). cells_within line (take n cells) ++ cs) (sym none)
    ∙ sym (filter-append (λ (cell : Cell). is_within cell.keys line) (take n cells) (drop n cells))
    ∙ ap (cells_within line) (take-append-drop n cells)

all_behind : (line : List Span) (lines : List (List Span)) (cells rest : List Cell) → IsApart line lines → AreBehind lines cells rest →
    AreBehind lines cells (behind line rest)
all_behind line [] cells rest apart h = tt
all_behind line (other ∷ lines) cells rest apart h =
    (h.0 ∙ behind_same line other rest apart.0, all_behind line lines cells rest apart.1 h.1)

part_on : (line : List Span) (lines : List (List Span)) (cells : List Cell) (from to n : ℕ) → n ≤ length (drop to cells) →
    drop n (drop to cells) ≡ behind line (drop to cells) → AreApart (line ∷ lines) → IsOn (line ∷ lines) cells (Part from to) →
    IsNear line cells (Part to (to + n)) × IsOn lines cells (Part to (to + n))
part_on line lines cells from to n fits e apart on =
    let rest = drop to cells in
    let none : cells_within line (drop n rest) ≡ [] = ap (cells_within line) e ∙ cut_elsewhere line lines (behind line rest) apart.0 on.2 in
    let count : length rest ≡ length cells - to = length-drop to cells in
    let size : to ≤ length cells = on.1 in
    let end : to + n ≤ length cells = omega (arith, fits, count, size) in
    let up : to ≤ to + n = omega arith in
    let there : drop (to + n) cells ≡ behind line rest = sym (drop-drop n to cells) ∙ e in
    let length_of : to + n - to ≡ n = omega arith in
    let same : take (to + n - to) rest ≡ take n rest = ap (λ (k : ℕ). take k rest) length_of in (
      record { part = (up, end); same = ap (cells_within line) same ∙ near_front line rest n none ∙ sym on.3.0 },
      (
        up,
        end,
        subst (λ (cs : List Cell). IsTrue (is_cut lines cs)) (sym there) on.2,
        subst (AreBehind lines cells) (sym there) (all_behind line lines cells rest apart.0 on.3.1),
      ),
    )

-- as the code has it
pub next_part : (line : List Span) (lines : List (List Span)) (cells rest : List Cell) (from to n : ℕ) → rest ≡ drop to cells → n ≤ length rest →
    drop n rest ≡ behind line rest → AreApart (line ∷ lines) → IsOn (line ∷ lines) cells (Part from to) →
    IsNear line cells (Part to (to + n)) × IsOn lines cells (Part to (to + n))
next_part line lines cells rest from to n is fits e apart on =
    part_on line lines cells from to n (subst (λ (cs : List Cell). n ≤ length cs) is fits)
    (subst (λ (cs : List Cell). drop n cs ≡ behind line cs) is e) apart on

-- ---- the first run

all_same : (lines : List (List Span)) (cells : List Cell) → AreBehind lines cells cells
all_same [] cells = tt
all_same (line ∷ lines) cells = (refl, all_same lines cells)

pub first_part : (lines : List (List Span)) (cells : List Cell) → IsTrue (is_cut lines cells) → IsOn lines cells (Part 0 0)
first_part lines cells t = (omega arith, omega arith, t, all_same lines cells)

left_over : (cells : List Cell) (at : ℕ) → at < length cells → is_cut [] (drop at cells) ≡ false
left_over [] at h = absurd (let none : at < 0 = h in omega (arith, none))
left_over (cell ∷ cells) zero h = refl
left_over (cell ∷ cells) (suc n) h = left_over cells n (let more : suc n < suc (length cells) = h in omega (arith, more))

alike : (a b : ℕ) → a ≡ b → nat_eq a b ≡ true
alike a b h = grind (arith, nat_tests, h)

unlike : (a b : ℕ) → a < b → nat_eq a b ≡ false
unlike a b h = grind (arith, nat_tests, h)

cut_end : (cells : List Cell) (at : ℕ) → at ≤ length cells → nat_eq at (length cells) ≡ is_cut [] (drop at cells)
cut_end cells at h =
    let count = length cells in
    elim (cases_Bool (nat_eq at count)) [
      | inl t ↦
          (let no : at < count → ⊥ = λ k. both_ways (nat_eq at count) (unlike at count k) t in
          t ∙ sym (ap (is_cut []) (drop_all at cells (omega (arith, no)))))
      | inr f ↦
          (let no : count ≤ at → ⊥ = λ k. both_ways (nat_eq at count) f (alike at count (omega (arith, h, k))) in
          f ∙ sym (left_over cells at (omega (arith, h, no))))
    ]

-- where all lines are passed, the cells are cut if none is left
pub cut_done : (lines : List (List Span)) (cells : List Cell) (i at : ℕ) → length lines ≤ i → at ≤ length cells →
    is_cut (drop i lines) (drop at cells) ≡ is_cut lines cells → nat_eq at (length cells) ≡ is_cut lines cells
cut_done lines cells i at end h e =
    cut_end cells at h ∙ ap (λ (ls : List (List Span)). is_cut ls (drop at cells)) (sym (drop_all i lines end)) ∙ e

-- ---- two lists side by side

pub beside_push : {X Y : Type 0} (rel : X → Y → Type 0) (xs : List X) (ys : List Y) (x : X) (y : Y) → AreBeside rel xs ys → rel x y →
    AreBeside rel (xs ++ x ∷ []) (ys ++ y ∷ [])
beside_push rel [] [] x y h k = (k, tt)
beside_push rel [] (b ∷ ys) x y h k = absurd h
beside_push rel (a ∷ xs) [] x y h k = absurd h
beside_push rel (a ∷ xs) (b ∷ ys) x y h k = (h.0, beside_push rel xs ys x y h.1 k)

pub beside_length : {X Y : Type 0} (rel : X → Y → Type 0) (xs : List X) (ys : List Y) → AreBeside rel xs ys → length xs ≡ length ys
beside_length rel [] [] h = refl
beside_length rel [] (b ∷ ys) h = absurd h
beside_length rel (a ∷ xs) [] h = absurd h
beside_length rel (a ∷ xs) (b ∷ ys) h = ap suc (beside_length rel xs ys h.1)

pub beside_at : {X Y : Type 0} (rel : X → Y → Type 0) (xs : List X) (ys : List Y) (i : ℕ) (d : X) (e : Y) → i < length xs → AreBeside rel xs ys →
    rel (get_or xs i d) (get_or ys i e)
beside_at rel [] [] i d e h k = absurd (let none : i < 0 = h in omega (arith, none))
beside_at rel [] (b ∷ ys) i d e h k = absurd k
beside_at rel (a ∷ xs) [] i d e h k = absurd k
beside_at rel (a ∷ xs) (b ∷ ys) zero d e h k = k.0
beside_at rel (a ∷ xs) (b ∷ ys) (suc i) d e h k = beside_at rel xs ys i d e (let more : suc i < suc (length xs) = h in omega (arith, more)) k.1

-- one more of the first of some
pub beside_more : {X Y : Type 0} (rel : X → Y → Type 0) (xs : List X) (ys next : List Y) (i : ℕ) (x : X) (y : Y) → i < length xs → x ≡ get_or xs i x →
    next ≡ ys ++ y ∷ [] → AreBeside rel (take i xs) ys → rel x y → AreBeside rel (take (i + 1) xs) next
beside_more rel xs ys next i x y h e f k r =
    subst (AreBeside rel (take (i + 1) xs)) (sym f)
    (subst (λ zs. AreBeside rel zs (ys ++ y ∷ [])) (ap (λ z. take i xs ++ z ∷ []) e ∙ sym (take_more xs i x h)) (beside_push rel (take i xs) ys x y k r))

parts_by : (lines : List (List Span)) (cells : List Cell) (run : Run) → IsOn lines cells run → IsPartOf run cells
parts_by lines cells All h = tt
parts_by lines cells (Part from to) h = (h.0, h.1)

pub parts_of : (lines : List (List Span)) (shards : List (List Cell)) (runs : List Run) → AreOn lines shards runs → ArePartsOf shards runs
parts_of lines [] [] h = tt
parts_of lines [] (run ∷ runs) h = absurd h
parts_of lines (cells ∷ shards) [] h = absurd h
parts_of lines (cells ∷ shards) (run ∷ runs) h = (parts_by lines cells run h.0, parts_of lines shards runs h.1)

-- ---- the run of a shard

pub near_part : (line : List Span) (shards : List (List Cell)) (runs : List Run) (i : ℕ) (x : List Cell) → i < length shards → x ≡ get_or shards i x →
    AreNear line shards runs → IsPartOf (get_or runs i All) x
near_part line shards runs i x h is near = subst (IsPartOf (get_or runs i All)) (sym is) (beside_at (IsNear line) shards runs i x All h near).part

pub near_same : (line : List Span) (shards : List (List Cell)) (runs : List Run) (i : ℕ) (x y : List Cell) → i < length shards → x ≡ get_or shards i x →
    y ≡ cells_of (get_or runs i All) x → AreNear line shards runs → cells_within line y ≡ cells_within line (get_or shards i [])
near_same line shards runs i x y h is e near =
    ap (cells_within line) (e ∙ ap (cells_of (get_or runs i All)) is) ∙ (beside_at (IsNear line) shards runs i x All h near).same
    ∙ ap (cells_within line) (get_or_default shards i x [] h)

-- ---- from line to line

behind_apart : (i : ℕ) (lines : List (List Span)) → AreApart lines → AreApart (drop i lines)
behind_apart zero lines h = h
behind_apart (suc i) [] h = tt
behind_apart (suc i) (line ∷ lines) h = behind_apart i lines h.1

-- what a step gives for any lines to come, it gives for those that do come
pub on_next : (lines : List (List Span)) (shards : List (List Cell)) (before after : List Run) (i : ℕ) (line : List Span) → i < length lines →
    line ≡ get_or lines i line → AreApart lines → AreOn (drop i lines) shards before →
    ((rest : List (List Span)) → AreApart (line ∷ rest) → AreOn (line ∷ rest) shards before → AreNear line shards after × AreOn rest shards after) →
    AreNear line shards after × AreOn (drop (i + 1) lines) shards after
on_next lines shards before after i line h is apart on step =
    let e : drop i lines ≡ line ∷ drop (i + 1) lines =
    drop_more lines i line h ∙ ap (λ (l : List Span). l ∷ drop (i + 1) lines) (sym is) in
    step (drop (i + 1) lines) (subst AreApart e (behind_apart i lines apart)) (subst (λ (ls : List (List Span)). AreOn ls shards before) e on)
