-- Sums of products that are kept stay, whatever plane is read.
use Rattle.std.proofs.Common.{◌≡◌, ℕ, zero, suc, ◌+◌, ◌-◌, ◌*◌, ◌/◌, ◌%◌, ◌^◌, ◌<◌, ◌≤◌, ◌==◌, ◌&&◌, inl, inr, pos, ◌*ℤ◌, Bool, true, false, cond, List, [], ◌∷◌, length, map, refl, ap, sym, ◌∙◌, arith, get_or, subst, IsTrue, IfSome}
use Rattle.std.specs.Prelude.{◌≢◌, None, Some, slice_index}
use Rattle.std.specs.declared.option.Option.{Option}
use Rattle.std.specs.Simd.Lanes.{zip2}
use Rattle.std.specs.Int.{int_wrap, w128}
use Rattle.std.proofs.Math.Nat.{div-div-eq-div-mul, pow-suc}
use Rattle.std.proofs.lemmas.Bool.{cases_eq}
use Rattle.std.proofs.lemmas.List.{get_or-set_other, get_or-set_same}
use Rattle.std.proofs.lemmas.List.Elements.{All-weaker}
use Rattle.std.proofs.lemmas.Simd.{length-zip2}
use Rattle.daq_table.specs.Tables.{ends_at, planes}
use Rattle.daq_table.specs.declared.head.Ends.{Ends}
use Rattle.aggregates.specs.ExtremeRows.{number_at}
use Rattle.aggregates.specs.Selections.{has_row}
use Rattle.aggregates.proofs.BlockWords.{place, row_within}
use Rattle.aggregates.proofs.EarlyNumbers.{early_row}
use Rattle.known_column.specs.Columns.{digit_of, number_of}
use Rattle.known_column.specs.KnownTables.{IsKnownTable, KnownTable, column_at, read_column}
use Rattle.query_model.specs.Knowledge.{ColumnKnowledge, IsLegal, Knowledge, known_at, longer, longer_column, taken}
use Rattle.query_model.specs.Meaning.{ReadsBelow}
use Rattle.query_model.specs.Queries.{Term, Column, Literal, Add, Sub, Mul}
use Rattle.product_sums.specs.declared.kept_column.KeptColumns.{KeptColumns}
use Rattle.product_sums.specs.declared.kept_column.Third.{Third}
use Rattle.product_sums.specs.declared.kept_planes.Kept.{Kept}
use Rattle.product_sums.specs.declared.kept_product.KeptProduct.{KeptProduct}
use Rattle.product_sums.specs.declared.pair_sums.Pair.{Pair}
use Rattle.product_sums.specs.declared.pair_sums.PairSums.{PairSums}
use Rattle.product_sums.specs.KeptProducts.{AreColumnsOf, AreKeptEnds, ArePairSums, ArePlaneSums, IsKept, IsKeptProduct, IsPair, IsThird, first_number, no_sums, rows_with}
use Rattle.product_sums.specs.Fetched.{ones_of}
use Rattle.product_sums.proofs.KeptProducts.{length-ones}
use Rattle.product_sums.proofs.PairSums.{unread_are}
use Rattle.product_sums.proofs.RowSums.{over_same}

-- ---- planes of another column

module _ (known : Knowledge) (d : ℕ) (bits : List Bool) where
  pub same_known : (c : ℕ) → c ≢ d → known_at (taken known d bits) c ≡ known_at known c
  same_known c other = get_or-set_other known d c (longer_column (known_at known d) bits) (record { read = 0; prefixes = [] }) other

-- ---- the first digits of a prefix stay where a digit follows

longer_row : (ps : List ℕ) (bits : List Bool) (r : ℕ) → length bits ≡ length ps → r < length ps → slice_index (longer ps bits) r ≡ 2 * slice_index ps r + cond (get_or bits r false) 1 0
longer_row [] bits r e small = absurd (omega (arith, small))
longer_row (p ∷ ps) [] r e small = absurd (omega (arith, e))
longer_row (p ∷ ps) (b ∷ bits) zero e small = refl
longer_row (p ∷ ps) (b ∷ bits) (suc r) e small = longer_row ps bits r (omega (arith, e)) (omega (arith, small))

digits_stay : (p k : ℕ) (b : Bool) → (2 * p + cond b 1 0) / 2 ^ suc k ≡ p / 2 ^ k
digits_stay p k b =
    let twice : 2 ^ suc k ≡ 2 * 2 ^ k = pow-suc 2 k ∙ omega arith in
    ap (λ n. (2 * p + cond b 1 0) / n) twice ∙ sym (div-div-eq-div-mul (2 * p + cond b 1 0) 2 (2 ^ k)) ∙ ap (λ n. n / 2 ^ k) (half b)
  where
    half : (b : Bool) → (2 * p + cond b 1 0) / 2 ≡ p
    half true = omega arith
    half false = omega arith

-- the digits of the planes before stay too
digit_stays : (read j p : ℕ) (b : Bool) → j < read → digit_of (read + 1) j (2 * p + cond b 1 0) ≡ digit_of read j p
digit_stays read j p b below =
    let one_more : read + 1 - (j + 1) ≡ suc (read - (j + 1)) = omega (arith, below) in
    ap (λ k. ((2 * p + cond b 1 0) / 2 ^ k) % 2 == 1) one_more ∙ ap (λ n. n % 2 == 1) (digits_stay p (read - (j + 1)) b)

longer_digits : (read j : ℕ) (ps : List ℕ) (bits : List Bool) → length bits ≡ length ps → j < read → map (digit_of (read + 1) j) (longer ps bits) ≡ map (digit_of read j) ps
longer_digits read j [] bits e below = refl
longer_digits read j (p ∷ ps) [] e below = absurd (omega (arith, e))
longer_digits read j (p ∷ ps) (b ∷ bits) e below =
    ap (λ x. x ∷ map (digit_of (read + 1) j) (longer ps bits)) (digit_stays read j p b below) ∙ ap (λ l. digit_of read j p ∷ l) (longer_digits read j ps bits (omega (arith, e)) below)

-- ---- a plane of any column

module _ (table : KnownTable) (known : IsKnownTable table) (d : ℕ) (bits : List Bool) (bits_long : length bits ≡ table.frame.rows) (next : IsKnownTable (read_column table d bits)) where
  abbrev read_after : KnownTable
  read_after = read_column table d bits

  read_once : (c : ℕ) → c < length table.frame.columns → c ≡ d → known_at (taken table.known d bits) c ≡ longer_column (known_at table.known c) bits
  read_once c there here =
      ap (λ k. known_at (taken table.known k bits) c) (sym here) ∙ get_or-set_same table.known c (longer_column (known_at table.known c) bits) (record { read = 0; prefixes = [] }) (omega (arith, there, known.knowledge.columns))

  read_grows : (c : ℕ) → c < length table.frame.columns → (known_at table.known c).read ≤ (known_at (taken table.known d bits) c).read
  read_grows c there = elim (cases_eq c d) [
    | inl here ↦ (let once : (known_at (taken table.known d bits) c).read ≡ (known_at table.known c).read + 1 = ap (λ (w : ColumnKnowledge). w.read) (read_once c there here) in omega (arith, once))
    | inr other ↦ (let same : (known_at (taken table.known d bits) c).read ≡ (known_at table.known c).read = ap (λ (w : ColumnKnowledge). w.read) (same_known table.known d bits c other) in omega (arith, same))
  ]

  module _ (c : ℕ) (there : c < length table.frame.columns) (had : ℕ) (some : had ≤ (known_at table.known c).read) where
    abbrev ends : Ends
    ends = ends_at table.frame c

    abbrev now : ColumnKnowledge
    now = known_at table.known c

    -- what the first planes told of a row's number stays
    longer_stays : c ≡ d → (r : ℕ) → r < table.frame.rows →
        number_of ends (now.read + 1) (slice_index (longer now.prefixes bits) r) / 2 ^ (now.read + 1 - had) ≡ number_of ends now.read (slice_index now.prefixes r) / 2 ^ (now.read - had)
    longer_stays here r below =
        let p = slice_index now.prefixes r in
        let q = slice_index (longer now.prefixes bits) r in
        let rows = known.knowledge.rows c there in
        let read_more : now.read + 1 ≤ planes ends = subst (λ (v : ColumnKnowledge). v.read ≤ planes ends) (read_once c there here) (next.knowledge.read c there) in
        let legal_more = subst (λ (v : ColumnKnowledge). IsLegal ends v.read (slice_index v.prefixes r)) (read_once c there here) (next.knowledge.legal c r there below) in
        let one_more : now.read + 1 - had ≡ suc (now.read - had) = omega (arith, some) in
        let first : q / 2 ^ (now.read + 1 - had) ≡ p / 2 ^ (now.read - had) =
        ap (λ n. n / 2 ^ (now.read + 1 - had)) (longer_row now.prefixes bits r (bits_long ∙ sym rows) (omega (arith, below, rows)))
        ∙ ap (λ k. (2 * p + cond (get_or bits r false) 1 0) / 2 ^ k) one_more ∙ digits_stay p (now.read - had) (get_or bits r false) in
        sym (early_row ends (now.read + 1) had q read_more (omega (arith, some)) legal_more) ∙ ap (number_of ends had) first
        ∙ early_row ends now.read had p (known.knowledge.read c there) some (known.knowledge.legal c r there below)

    pub number_stays : (r : ℕ) → r < table.frame.rows →
        number_at (column_at read_after c) r / 2 ^ ((known_at (taken table.known d bits) c).read - had) ≡ number_at (column_at table c) r / 2 ^ (now.read - had)
    number_stays r below = elim (cases_eq c d) [
      | inl here ↦ ap (λ (v : ColumnKnowledge). number_of ends v.read (slice_index v.prefixes r) / 2 ^ (v.read - had)) (read_once c there here) ∙ longer_stays here r below
      | inr other ↦ ap (λ (v : ColumnKnowledge). number_of ends v.read (slice_index v.prefixes r) / 2 ^ (v.read - had)) (same_known table.known d bits c other)
    ]

  -- what planes of two columns gave stays
  pub sums_stay : (mask : List Bool) (pair : Pair) (sums : PairSums) → IsPair table pair → ArePairSums table mask pair sums → ArePairSums read_after mask pair sums
  sums_stay mask pair sums is are =
      let below : (r : ℕ) → IsTrue (has_row mask r) → r < table.frame.rows = λ r has. omega (arith, row_within mask r has, are.rows) in
      let first : (r : ℕ) → IsTrue (has_row mask r) → pos (first_number table pair.first sums.first_read r) ≡ pos (first_number read_after pair.first sums.first_read r) =
      λ r has. ap pos (sym (number_stays pair.first is.first sums.first_read are.first_read r (below r has))) in
      let second : (r : ℕ) → IsTrue (has_row mask r) → pos (first_number table pair.second sums.second_read r) ≡ pos (first_number read_after pair.second sums.second_read r) =
      λ r has. ap pos (sym (number_stays pair.second is.second sums.second_read are.second_read r (below r has))) in
      record {
        rows = are.rows;
        first_read = omega (arith, are.first_read, read_grows pair.first is.first);
        second_read = omega (arith, are.second_read, read_grows pair.second is.second);
        first = are.first
            ∙ ap (int_wrap w128) (over_same mask (λ r. pos (first_number table pair.first sums.first_read r)) (λ r. pos (first_number read_after pair.first sums.first_read r)) first);
        second = are.second
            ∙ ap (int_wrap w128) (over_same mask (λ r. pos (first_number table pair.second sums.second_read r)) (λ r. pos (first_number read_after pair.second sums.second_read r)) second);
        both = are.both
            ∙ ap (int_wrap w128) (over_same mask (λ r. pos (first_number table pair.first sums.first_read r) *ℤ pos (first_number table pair.second sums.second_read r))
            (λ r. pos (first_number read_after pair.first sums.first_read r) *ℤ pos (first_number read_after pair.second sums.second_read r))
            (λ r has. ap (λ z. z *ℤ pos (first_number table pair.second sums.second_read r)) (first r has) ∙ ap (λ z. pos (first_number read_after pair.first sums.first_read r) *ℤ z) (second r has)));
      }

  -- the rows with the bit of a plane
  ones_stay : (c j : ℕ) → c < length table.frame.columns → j < (known_at table.known c).read → ones_of (column_at read_after c) j ≡ ones_of (column_at table c) j
  ones_stay c j there below = elim (cases_eq c d) [
    | inl here ↦ ap (λ (v : ColumnKnowledge). map (digit_of v.read j) v.prefixes) (read_once c there here)
        ∙ longer_digits (known_at table.known c).read j (known_at table.known c).prefixes bits (bits_long ∙ sym (known.knowledge.rows c there)) below
    | inr other ↦ ap (λ (v : ColumnKnowledge). map (digit_of v.read j) v.prefixes) (same_known table.known d bits c other)
  ]

  -- what planes gave over them stays, and a plane that is new has given nothing yet
  planes_stay : (mask : List Bool) (pair : Pair) (c : ℕ) (sums : List PairSums) → IsPair table pair → length mask ≡ table.frame.rows → ArePlaneSums table mask pair c sums → ArePlaneSums read_after mask pair c sums
  planes_stay mask pair c sums is long are =
      let grows = read_grows c are.there in
      let pair_after : IsPair read_after pair = record { first = is.first; second = is.second } in
      let within : (known_at (taken table.known d bits) c).read ≤ planes (ends_at table.frame c) = next.knowledge.read c are.there in
      record {
        there = are.there;
        size = are.size;
        read = λ j from below. elim (place j (known_at table.known c).read) [
          | inl h ↦ (let old : ArePairSums table (rows_with table mask c j) pair (get_or sums j no_sums) = are.read j (omega (arith, from, grows)) h in
              subst (λ l. ArePairSums read_after (zip2 (λ a b. a && b) mask l) pair (get_or sums j no_sums)) (sym (ones_stay c j are.there h)) (sums_stay (rows_with table mask c j) pair (get_or sums j no_sums) is old))
          | inr h ↦ (let rows : length (rows_with read_after mask c j) ≡ table.frame.rows =
              length-zip2 (λ a b. a && b) mask (ones_of (column_at read_after c) j) (long ∙ sym (length-ones read_after next c are.there j)) ∙ long in
              unread_are read_after (rows_with read_after mask c j) pair next pair_after rows (get_or sums j no_sums) (are.unread j h (omega (arith, below, within, are.size))))
        ];
        unread = λ j from below. are.unread j (omega (arith, from, grows)) below;
      }

  kept_stays : (columns : KeptColumns) (kept : Kept) → IsPair table columns.pair → IsKept table columns kept → IsKept read_after columns kept
  kept_stays columns kept is are = record {
    whole = sums_stay kept.whole.mask columns.pair kept.whole.sums is are.whole;
    planes = by_third columns.third are.planes;
    top = sums_stay kept.top.mask columns.pair kept.top.sums is are.top;
  }
    where
      by_third : (third : Option Third) → IfSome third (λ third. ArePlaneSums table kept.whole.mask columns.pair third.column kept.planes.items) →
          IfSome third (λ third. ArePlaneSums read_after kept.whole.mask columns.pair third.column kept.planes.items)
      by_third None planes = tt
      by_third (Some third) planes = planes_stay kept.whole.mask columns.pair third.column kept.planes.items is are.whole.rows planes

  third_stays : (third : Third) (term : Term) → IsThird table third term → IsThird read_after third term
  third_stays third (Column k) is = is
  third_stays third (Literal n) is = is
  third_stays third (Add a b) is = is
  third_stays third (Sub a b) is = is
  third_stays third (Mul a b) is = is

  columns_stay : (term : Term) (columns : KeptColumns) → AreColumnsOf table term columns → AreColumnsOf read_after term columns
  columns_stay term columns are = record {
    pair_is = record { first = are.pair_is.first; second = are.pair_is.second };
    product = are.product;
    linear = are.linear;
    third = by_third columns.third are.third;
  }
    where
      by_third : (third : Option Third) → IfSome third (λ third. IsThird table third term) → IfSome third (λ third. IsThird read_after third term)
      by_third None is = tt
      by_third (Some third) is = third_stays third term is

  -- the ends of an expression
  pub product_stays : (term : Term) (kept : KeptProduct) → ReadsBelow (length table.frame.columns) term → IsKeptProduct table term kept → IsKeptProduct read_after term kept
  product_stays term kept reads is = record {
    columns_are = columns_stay term kept.columns is.columns_are;
    cells_are = All-weaker (AreKeptEnds table kept.columns) (AreKeptEnds read_after kept.columns) (λ ends are. record {
      low = kept_stays kept.columns ends.low is.columns_are.pair_is are.low;
      high = kept_stays kept.columns ends.high is.columns_are.pair_is are.high;
    }) kept.cells.items is.cells_are;
    room_is = is.room_is;
  }
