-- Sums that are kept: where nothing is read, and after the next plane of a column.
use Rattle.std.proofs.Common.{◌≡◌, ◌≢◌, ℕ, ◌+◌, ◌*◌, ◌<◌, ◌≤◌, Bool, true, false, List, [], length, get_or, map, replicate, slice_get, ◌⊎◌, Option, None, Some, inl, inr, sym, ap, subst, ◌∙◌, arith}
use Rattle.std.specs.Prelude.{IfSome}
use Rattle.std.proofs.lemmas.Bool.{cases_eq, cases_lt, false≢true, true≢false}
use Rattle.std.proofs.lemmas.List.{get_or-replicate, get_or-set_other, get_or-set_same, get_or_past}
use Rattle.std.proofs.lemmas.List.Elements.{All-from_recursion}
use Rattle.std.proofs.lemmas.Option.{get_or_from_slice_get, slice_get_within}
use Rattle.aggregates.specs.declared.kept_sum.KeptSum.{KeptSum}
use Rattle.aggregates.specs.KeptSums.{CanFollow, HasFollowed, IsKept}
use Rattle.aggregates.specs.Selections.{has_row}
use Rattle.aggregates.proofs.KeptSums.{still_kept}
use Rattle.daq_table.specs.Tables.{ends_at}
use Rattle.known_column.specs.Columns.{KnownColumn, read_further, rows_of_column}
use Rattle.known_column.specs.KnownTables.{column_at}
use Rattle.kleene_filter.specs.Filters.{is_certain, is_possible, truths_under, AreSettled}
use Rattle.kleene_filter.proofs.Decided.{bit_under, stays}
use Rattle.query_model.specs.Knowledge.{CanTake, ColumnKnowledge, known_at, longer_column, taken}
use Rattle.query_model.specs.declared.bounds.Truth.{Truth}
use Rattle.query_model.specs.Meaning.{ReadsBelow}
use Rattle.query_model.specs.Queries.{Aggregate, Column}
use Rattle.round_engine.specs.KeptSums.{IsOpenSum, IsSumOf, columns_of}
use Rattle.round_engine.specs.Stages.{IsOpenItem, IsOpenStage, Stage, stepped}

-- the columns that items of an open stage read are there
pub column_there : (stage : Stage) (i : ℕ) (item : Aggregate) (c : ℕ) → IsOpenStage stage → slice_get stage.query.items i ≡ Some item → item.arg ≡ Column c → c < length stage.frame.columns
column_there stage i item c is at arg =
    let items = stage.query.items in
    let within : i < length items = slice_get_within items i item at in
    let all = All-from_recursion (IsOpenItem stage.frame) items is.open_query.items in
    let here : IsOpenItem stage.frame item = subst (IsOpenItem stage.frame) (get_or_from_slice_get items i item item at) (all i item within) in
    subst (ReadsBelow (length stage.frame.columns)) arg here.columns

-- where each block has a bit of 1, none has a bit of 0
never_off : (blocks : List Bool) (block : ℕ) → block < length blocks → blocks ≡ replicate (length blocks) true → get_or blocks block false ≢ false
never_off blocks block within all off = false≢true (sym off ∙ ap (λ l. get_or l block false) all ∙ get_or-replicate (length blocks) block true false within)

-- of columns of which nothing is read
pub held_sum : (stage : Stage) (item : Aggregate) (sum : Option KeptSum) → IfSome sum (IsOpenSum stage.frame.rows) → ((c : ℕ) → item.arg ≡ Column c → rows_of_column (column_at (columns_of stage) c) ≡ stage.frame.rows) →
    IfSome sum (λ sum. (c : ℕ) → item.arg ≡ Column c → IsSumOf stage c sum)
held_sum stage item None room rows = tt
held_sum stage item (Some s) opened rows = λ c arg. record {
  is = opened.is (column_at (columns_of stage) c) (rows c arg);
  room = opened.moves.room;
  tight = opened.moves.tight;
  settled = λ block j few inside off. absurd (never_off s.blocks block (omega (arith, inside, opened.moves.room)) opened.moves.each off);
}

-- what is known of a column after a plane of one: of this one a digit more, of another the same
pub column_longer : (before : Stage) (column c : ℕ) (bits : List Bool) → IsOpenStage before → c < length before.frame.columns → c ≡ column →
    column_at (columns_of (stepped before column bits)) c ≡ read_further (column_at (columns_of before) c) bits
column_longer before column c bits is there here =
    let known = before.known in
    let none : ColumnKnowledge = record { read = 0; prefixes = [] } in
    let after : ColumnKnowledge → KnownColumn = λ w. record { ends = ends_at before.frame c; known = w } in
    ap after (ap (λ k. known_at (taken known k bits) c) (sym here) ∙ get_or-set_same known c (longer_column (known_at known c) bits) none (omega (arith, there, is.knowledge.columns)))

pub column_same : (before : Stage) (column c : ℕ) (bits : List Bool) → c ≢ column → column_at (columns_of (stepped before column bits)) c ≡ column_at (columns_of before) c
column_same before column c bits other =
    let known = before.known in
    let none : ColumnKnowledge = record { read = 0; prefixes = [] } in
    let after : ColumnKnowledge → KnownColumn = λ w. record { ends = ends_at before.frame c; known = w } in
    ap after (get_or-set_other known column c (longer_column (known_at known column) bits) none other)

pub column_after : (P : KnownColumn → Type 0) (before : Stage) (column c : ℕ) (bits : List Bool) → IsOpenStage before → c < length before.frame.columns → P (column_at (columns_of before) c) →
    (c ≡ column → P (read_further (column_at (columns_of before) c) bits)) → P (column_at (columns_of (stepped before column bits)) c)
column_after P before column c bits is there same further =
    elim (cases_eq c column) [
      | inl here ↦ subst P (sym (column_longer before column c bits is there here)) (further here)
      | inr other ↦ subst P (sym (column_same before column c bits other)) same
    ]

-- after the next plane of a column
pub sum_stays : (before : Stage) (column : ℕ) (bits : List Bool) (item : Aggregate) (sum : Option KeptSum) → IsOpenStage before → length bits ≡ before.frame.rows → CanTake before.frame before.known column bits →
    ((c : ℕ) → item.arg ≡ Column c → c < length before.frame.columns) → IfSome sum (λ sum. (c : ℕ) → item.arg ≡ Column c → IsSumOf before c sum) →
    IfSome sum (λ sum. (c : ℕ) → item.arg ≡ Column c → IsSumOf (stepped before column bits) c sum)
sum_stays before column bits item None is long legal there told = tt
sum_stays before column bits item (Some s) is long legal there told = λ c arg.
    let sum = told c arg in
    record {
      is = column_after (λ k. IsKept k s) before column c bits is (there c arg) sum.is (λ here. still_kept (column_at (columns_of before) c) bits s (long ∙ sym (is.knowledge.rows c (there c arg))) sum.is);
      room = sum.room;
      tight = sum.tight;
      settled = λ block j few inside off.
          let at = sum.settled block j few inside off in
          let stay = stays before.query.pred (columns_of before) column bits (512 * block + j) (record { few_rows = is.open_query.few_rows; knowledge = is.knowledge }) legal inside (sym at.certain ∙ at.possible) in
          record { plain = at.plain; certain = at.certain ∙ ap is_certain (sym stay); possible = at.possible ∙ ap is_possible (sym stay) };
    }

-- ---- the rows that move

-- what is kept is that of a column
pub kept_of : (stage : Stage) (c : ℕ) (known : KnownColumn) (kept : Option KeptSum) → known ≡ column_at (columns_of stage) c → IfSome kept (IsSumOf stage c) → IfSome kept (IsKept known)
kept_of stage c known None is sums = tt
kept_of stage c known (Some s) is sums = subst (λ k. IsKept k s) (sym is) sums.is

-- the rows of a column that may be null: each may move
pub follows_null : (stage : Stage) (c : ℕ) (kept : Option KeptSum) (must next : List Bool) → rows_of_column (column_at (columns_of stage) c) ≡ stage.frame.rows → (column_at (columns_of stage) c).ends.nullable ≡ true →
    length must ≡ stage.frame.rows → stage.frame.rows ≤ 512 * length next → 512 * length next < stage.frame.rows + 512 → IfSome kept (IsSumOf stage c) → IfSome kept (CanFollow must next)
follows_null stage c None must next rows null long room tight sum = tt
follows_null stage c (Some s) must next rows null long room tight sum = record {
  moves = record { room = omega (arith, sum.is.rows, rows, sum.room); same = λ block j few off. here block j few off (cases_lt (512 * block + j) stage.frame.rows) };
  count = omega (arith, room, tight, sum.room, sum.tight);
}
  where
    here : (block j : ℕ) → j < 512 → has_row s.blocks block ≡ false → (512 * block + j < stage.frame.rows) ⊎ (stage.frame.rows ≤ 512 * block + j) → has_row must (512 * block + j) ≡ has_row s.mask (512 * block + j)
    here block j few off (inl inside) = (let at = sum.settled block j few inside off in absurd (true≢false (sym null ∙ at.plain)))
    here block j few off (inr past) = get_or_past must (512 * block + j) false (omega (arith, long, past)) ∙ sym (get_or_past s.mask (512 * block + j) false (omega (arith, sum.is.rows, rows, past)))

-- those at which a condition holds: of what is decided no row moves
pub follows_truths : (stage : Stage) (c : ℕ) (kept : Option KeptSum) (truths : List Truth) (must next : List Bool) → rows_of_column (column_at (columns_of stage) c) ≡ stage.frame.rows →
    truths ≡ truths_under stage.query.pred (columns_of stage) → must ≡ map is_certain truths → length must ≡ stage.frame.rows → AreSettled (map is_certain truths) (map is_possible truths) next →
    IfSome kept (IsSumOf stage c) → IfSome kept (CanFollow must next)
follows_truths stage c None truths must next rows judged is long settled sum = tt
follows_truths stage c (Some s) truths must next rows judged is long settled sum = record {
  moves = record { room = omega (arith, sum.is.rows, rows, sum.room); same = λ block j few off. here block j few off (cases_lt (512 * block + j) stage.frame.rows) };
  count = omega (arith, settled.room, settled.tight, ap length is, long, sum.room, sum.tight);
}
  where
    here : (block j : ℕ) → j < 512 → has_row s.blocks block ≡ false → (512 * block + j < stage.frame.rows) ⊎ (stage.frame.rows ≤ 512 * block + j) → has_row must (512 * block + j) ≡ has_row s.mask (512 * block + j)
    here block j few off (inl inside) =
        (let at = sum.settled block j few inside off in
        ap (λ l. has_row l (512 * block + j)) (is ∙ ap (map is_certain) judged) ∙ bit_under is_certain stage.query.pred (columns_of stage) (512 * block + j) inside ∙ sym at.certain)
    here block j few off (inr past) = get_or_past must (512 * block + j) false (omega (arith, long, past)) ∙ sym (get_or_past s.mask (512 * block + j) false (omega (arith, sum.is.rows, rows, past)))

-- what is kept afterwards, where it followed or stayed as it was
pub followed_null : (stage : Stage) (c : ℕ) (known : KnownColumn) (old new : Option KeptSum) (must next : List Bool) → known ≡ column_at (columns_of stage) c → stage.frame.rows ≤ 512 * length next → 512 * length next < stage.frame.rows + 512 →
    next ≡ replicate (length next) true → IfSome old (IsSumOf stage c) → IfSome new (IsKept known) → (new ≡ old) ⊎ IfSome new (HasFollowed must next) → IfSome new (IsSumOf stage c)
followed_null stage c known old new must next is room tight all sums kept (inl same) = subst (λ k. IfSome k (IsSumOf stage c)) (sym same) sums
followed_null stage c known old None must next is room tight all sums kept (inr followed) = tt
followed_null stage c known old (Some s) must next is room tight all sums kept (inr followed) = record {
  is = subst (λ k. IsKept k s) is kept;
  room = omega (arith, room, ap length followed.blocks);
  tight = omega (arith, tight, ap length followed.blocks);
  settled = λ block j few inside off. absurd (never_off next block (omega (arith, inside, room)) all (ap (λ l. get_or l block false) (sym followed.blocks) ∙ off));
}

pub followed_truths : (stage : Stage) (c : ℕ) (known : KnownColumn) (old new : Option KeptSum) (truths : List Truth) (must next : List Bool) → known ≡ column_at (columns_of stage) c → known.ends.nullable ≡ false →
    truths ≡ truths_under stage.query.pred (columns_of stage) → must ≡ map is_certain truths → length must ≡ stage.frame.rows → AreSettled (map is_certain truths) (map is_possible truths) next →
    IfSome old (IsSumOf stage c) → IfSome new (IsKept known) → (new ≡ old) ⊎ IfSome new (HasFollowed must next) → IfSome new (IsSumOf stage c)
followed_truths stage c known old new truths must next is plain judged must_is long settled sums kept (inl same) = subst (λ k. IfSome k (IsSumOf stage c)) (sym same) sums
followed_truths stage c known old None truths must next is plain judged must_is long settled sums kept (inr followed) = tt
followed_truths stage c known old (Some s) truths must next is plain judged must_is long settled sums kept (inr followed) = record {
  is = subst (λ k. IsKept k s) is kept;
  room = omega (arith, settled.room, ap length must_is, long, ap length followed.blocks);
  tight = omega (arith, settled.tight, ap length must_is, long, ap length followed.blocks);
  settled = λ block j few inside off.
      let row = 512 * block + j in
      let certain : has_row s.mask row ≡ get_or (map is_certain truths) row false = ap (λ l. has_row l row) (followed.rows ∙ must_is) in
      let both = settled.same block j few (ap (λ l. has_row l block) (sym followed.blocks) ∙ off) in
      record {
        plain = sym (ap (λ (k : KnownColumn). k.ends.nullable) is) ∙ plain;
        certain = certain ∙ ap (λ ts. get_or (map is_certain ts) row false) judged ∙ bit_under is_certain stage.query.pred (columns_of stage) row inside;
        possible = certain ∙ both ∙ ap (λ ts. get_or (map is_possible ts) row false) judged ∙ bit_under is_possible stage.query.pred (columns_of stage) row inside;
      };
}
