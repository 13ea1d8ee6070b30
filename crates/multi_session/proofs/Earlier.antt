-- What was known of columns after fewer of their planes: a plane that is read later changes nothing of it.
use Rattle.std.proofs.Common.{◌≡◌, ◌≢◌, ◌⊎◌, inl, inr, ℕ, suc, ◌+◌, ◌-◌, ◌*◌, ◌/◌, ◌^◌, ◌<◌, ◌≤◌, Bool, true, false, cond, List, [], ◌∷◌, length, map, get_or, refl, sym, ap, ◌∙◌, subst, arith, slice_index}
use Rattle.std.proofs.Math.Nat.{div-div-eq-div-mul, div-one, pow-succ'}
use Rattle.std.proofs.lemmas.Bool.{cases_eq}
use Rattle.std.proofs.lemmas.List.{get_or-map, get_or-set_other, get_or-set_same, length-map, length-set, same_lists}
use Rattle.std.specs.Simd.Lanes.{zip2}
use Rattle.daq_table.specs.Tables.{ends_at, no_ends, planes}
use Rattle.known_column.specs.KnownTables.{IsKnownTable, KnownTable, column_at, frame_at, lent_table, read_column}
use Rattle.known_column.specs.Columns.{KnownColumn}
use Rattle.query_model.specs.Knowledge.{CanTake, ColumnKnowledge, IsLegal, Knowledge, known_at, longer, longer_column, taken}
use Rattle.multi_session.specs.Members.{CountAll, earlier, earlier_table}

abbrev nothing : ColumnKnowledge
nothing = record { read = 0; prefixes = [] }

-- ---- one column

undivided : (unread : ℕ) → unread ≡ 0 → (ps : List ℕ) → map (λ p. p / 2 ^ unread) ps ≡ ps
undivided unread e [] = refl
undivided unread e (p ∷ ps) = rw (ap (λ n. p / 2 ^ n) e ∙ div-one p, undivided unread e ps) refl

-- after all planes that were read, what is known now
pub earlier_all : (column : ColumnKnowledge) → earlier column.read column ≡ column
earlier_all column = ap (λ ps. let all : ColumnKnowledge = record { read = column.read; prefixes = ps } in all) (undivided (column.read - column.read) (omega arith) column.prefixes)

half : (p : ℕ) (b : Bool) → (2 * p + cond b 1 0) / 2 ≡ p
half p true = omega arith
half p false = omega arith

quotient : (n p : ℕ) (b : Bool) → (2 * p + cond b 1 0) / 2 ^ suc n ≡ p / 2 ^ n
quotient n p b =
    ap (λ k. (2 * p + cond b 1 0) / k) (pow-succ' 2 n) ∙ sym (div-div-eq-div-mul (2 * p + cond b 1 0) 2 (2 ^ n)) ∙ ap (λ m. m / 2 ^ n) (half p b)

divided-longer : (n : ℕ) (ps : List ℕ) (bits : List Bool) → length bits ≡ length ps → map (λ p. p / 2 ^ suc n) (longer ps bits) ≡ map (λ p. p / 2 ^ n) ps
divided-longer n [] bits e = refl
divided-longer n (p ∷ ps) [] e = absurd (omega arith)
divided-longer n (p ∷ ps) (b ∷ bits) e = rw (quotient n p b, divided-longer n ps bits (omega arith)) refl

-- one more plane changes nothing of it
earlier_longer : (count : ℕ) (column : ColumnKnowledge) (bits : List Bool) → count ≤ column.read → length bits ≡ length column.prefixes →
    earlier count (longer_column column bits) ≡ earlier count column
earlier_longer count column bits few wide =
    let more : column.read + 1 - count ≡ suc (column.read - count) = omega (arith, few) in
    ap (λ ps. let then : ColumnKnowledge = record { read = count; prefixes = ps } in then)
    (ap (λ n. map (λ p. p / 2 ^ n) (longer column.prefixes bits)) more ∙ divided-longer (column.read - count) column.prefixes bits wide)

-- ---- the columns of a session

module _ (table : KnownTable) (column : ℕ) (bits : List Bool) where
  -- the column itself has one plane more, the others are as they were
  pub known_there : column < length table.known → known_at (taken table.known column bits) column ≡ longer_column (known_at table.known column) bits
  known_there h = get_or-set_same table.known column (longer_column (known_at table.known column) bits) nothing h

  pub known_elsewhere : (number : ℕ) → number ≢ column → known_at (taken table.known column bits) number ≡ known_at table.known number
  known_elsewhere number other = get_or-set_other table.known column number (longer_column (known_at table.known column) bits) nothing other

  pub column_known : IsKnownTable table → CanTake table.frame table.known column bits → column < length table.known
  column_known known legal = let inside = legal.column in let all = known.knowledge.columns in omega (arith, inside, all)

  still_earlier : IsKnownTable table → CanTake table.frame table.known column bits → (number count : ℕ) → count ≤ (known_at table.known number).read →
      earlier count (known_at (taken table.known column bits) number) ≡ earlier count (known_at table.known number)
  still_earlier known legal number count few = by (cases_eq number column)
    where
      by : (number ≡ column) ⊎ (number ≢ column) → earlier count (known_at (taken table.known column bits) number) ≡ earlier count (known_at table.known number)
      by (inl e) = subst (λ n. earlier count (known_at (taken table.known column bits) n) ≡ earlier count (known_at table.known n)) (sym e)
          (ap (earlier count) (known_there (column_known known legal))
          ∙ earlier_longer count (known_at table.known column) bits (subst (λ n. count ≤ (known_at table.known n).read) e few)
          (legal.rows ∙ sym (known.knowledge.rows column legal.column)))
      by (inr other) = ap (earlier count) (known_elsewhere number other)

  known_still : IsKnownTable table → CanTake table.frame table.known column bits → (numbers counts : List ℕ) → length counts ≡ length numbers →
      ((c : ℕ) → c < length numbers → slice_index counts c ≤ (known_at table.known (slice_index numbers c)).read) →
      zip2 (λ number count. earlier count (known_at (taken table.known column bits) number)) numbers counts
      ≡ zip2 (λ number count. earlier count (known_at table.known number)) numbers counts
  known_still known legal [] counts long few = refl
  known_still known legal (n ∷ ns) [] long few = refl
  known_still known legal (n ∷ ns) (k ∷ ks) long few =
      rw (still_earlier known legal n k (few 0 (omega arith)), known_still known legal ns ks (omega arith) (λ c h. few (suc c) (omega arith))) refl

  -- what a query took of its columns does not change as the session reads on
  pub table_still : IsKnownTable table → CanTake table.frame table.known column bits → (numbers counts : List ℕ) → length counts ≡ length numbers →
      ((c : ℕ) → c < length numbers → slice_index counts c ≤ (known_at table.known (slice_index numbers c)).read) →
      earlier_table (read_column table column bits) numbers counts ≡ earlier_table table numbers counts
  table_still known legal numbers counts long few =
      ap (λ ks. let some : KnownTable = record { frame = frame_at table.frame numbers; known = ks } in some) (known_still known legal numbers counts long few)

  -- ---- columns that are lent

  -- a query that does not read the column
  pub lent_still : (numbers : List ℕ) → ((c : ℕ) → c < length numbers → slice_index numbers c ≢ column) →
      lent_table (read_column table column bits) numbers ≡ lent_table table numbers
  lent_still numbers others =
      ap (λ ks. let some : KnownTable = record { frame = frame_at table.frame numbers; known = ks } in some) (same numbers others)
    where
      same : (numbers : List ℕ) → ((c : ℕ) → c < length numbers → slice_index numbers c ≢ column) →
          map (known_at (taken table.known column bits)) numbers ≡ map (known_at table.known) numbers
      same [] others = refl
      same (n ∷ ns) others = rw (known_elsewhere n (others 0 (omega arith)), same ns (λ c h. others (suc c) (omega arith))) refl

  -- a query that reads it as a column of its own takes the plane as one of that column
  pub lent_more : (numbers : List ℕ) (own : ℕ) → column < length table.known → own < length numbers → slice_index numbers own ≡ column →
      ((c : ℕ) → c < length numbers → c ≢ own → slice_index numbers c ≢ column) →
      lent_table (read_column table column bits) numbers ≡ read_column (lent_table table numbers) own bits
  lent_more numbers own known inside is others =
      ap (λ ks. let some : KnownTable = record { frame = frame_at table.frame numbers; known = ks } in some)
      (same_lists (map next numbers) (taken lent own bits)
      (length-map numbers next ∙ sym (length-map numbers (known_at table.known)) ∙ sym (length-set lent own (longer_column (known_at lent own) bits)))
      (λ k d h. each k d (subst (λ n. k < n) (length-map numbers next) h) (cases_eq k own)))
    where
      next : ℕ → ColumnKnowledge
      next = known_at (taken table.known column bits)

      lent : Knowledge
      lent = map (known_at table.known) numbers

      there : known_at lent own ≡ known_at table.known column
      there = get_or-map (known_at table.known) numbers own 0 nothing inside ∙ ap (known_at table.known) is

      each : (k : ℕ) (d : ColumnKnowledge) → k < length numbers → (k ≡ own) ⊎ (k ≢ own) → get_or (map next numbers) k d ≡ get_or (taken lent own bits) k d
      each k d h (inl e) = subst (λ i. get_or (map next numbers) i d ≡ get_or (taken lent own bits) i d) (sym e)
          (get_or-map next numbers own 0 d inside ∙ ap next is ∙ known_there known ∙ ap (λ m. longer_column m bits) (sym there)
          ∙ sym (get_or-set_same lent own (longer_column (known_at lent own) bits) d (subst (λ n. own < n) (sym (length-map numbers (known_at table.known))) inside)))
      each k d h (inr other) =
          get_or-map next numbers k 0 d h ∙ known_elsewhere (slice_index numbers k) (others k h other)
          ∙ sym (get_or-map (known_at table.known) numbers k 0 d h)
          ∙ sym (get_or-set_other lent own k (longer_column (known_at lent own) bits) d other)

-- ---- queries that took all planes

known_all : (table : KnownTable) (numbers counts : List ℕ) → length counts ≡ length numbers → CountAll table numbers counts →
    zip2 (λ number count. earlier count (known_at table.known number)) numbers counts ≡ map (known_at table.known) numbers
known_all table [] counts long all = refl
known_all table (n ∷ ns) [] long all = absurd (omega arith)
known_all table (n ∷ ns) (k ∷ ks) long all =
    rw (
      ap (λ m. earlier m (known_at table.known n)) (all 0 (omega arith)) ∙ earlier_all (known_at table.known n),
      known_all table ns ks (omega arith) (λ c h. all (suc c) (omega arith)),
    ) refl

-- what they took is what is known
pub table_all : (table : KnownTable) (numbers counts : List ℕ) → length counts ≡ length numbers → CountAll table numbers counts →
    earlier_table table numbers counts ≡ lent_table table numbers
table_all table numbers counts long all =
    ap (λ ks. let some : KnownTable = record { frame = frame_at table.frame numbers; known = ks } in some) (known_all table numbers counts long all)

-- ---- one of the columns that are lent

pub lent_column : (table : KnownTable) (numbers : List ℕ) (c : ℕ) → c < length numbers → column_at (lent_table table numbers) c ≡ column_at table (slice_index numbers c)
lent_column table numbers c h =
    ap (λ e. let column : KnownColumn = record { ends = e; known = known_at (map (known_at table.known) numbers) c } in column) (get_or-map (ends_at table.frame) numbers c 0 no_ends h)
    ∙ ap (λ k. let column : KnownColumn = record { ends = ends_at table.frame (slice_index numbers c); known = k } in column) (get_or-map (known_at table.known) numbers c 0 nothing h)

-- a plane that the session's column takes is one that the lent column takes
pub lent_takes : (table : KnownTable) (numbers : List ℕ) (own column : ℕ) (bits : List Bool) → own < length numbers → slice_index numbers own ≡ column →
    CanTake table.frame table.known column bits → CanTake (lent_table table numbers).frame (lent_table table numbers).known own bits
lent_takes table numbers own column bits inside is legal =
    let same : column_at (lent_table table numbers) own ≡ column_at table column = lent_column table numbers own inside ∙ ap (column_at table) is in
    record {
      column = subst (λ n. own < n) (sym (length-map numbers (ends_at table.frame))) inside;
      unread = subst (λ (k : KnownColumn). k.known.read < planes k.ends) (sym same) legal.unread;
      rows = legal.rows;
      legal = λ r h. subst (λ (k : KnownColumn). IsLegal k.ends (k.known.read + 1) (slice_index (longer k.known.prefixes bits) r)) (sym same) (legal.legal r h);
    }
