-- A search is begun, goes on, and ends.
use Rattle.std.proofs.Common.{◌≡◌, ℕ, ◌<◌, ◌≤◌, Bool, ◌&&◌, not, List, length, inl, inr, refl, sym, ap, subst, ◌∙◌, arith}
use Rattle.std.specs.Simd.Lanes.{zip2}
use Rattle.std.proofs.lemmas.Bool.{cases_lt}
use Rattle.std.proofs.lemmas.Simd.{length-zip2}
use Rattle.query_model.proofs.Nesting.{length-longer}
use Rattle.known_column.specs.Columns.{KnownColumn, read_further, rows_of_column}
use Rattle.known_column.specs.RowBlocks.{IsKnownColumn}
use Rattle.topk_bounds.specs.declared.cut.Cut.{Cut}
use Rattle.topk_bounds.specs.declared.rivals.Rivals.{Rivals}
use Rattle.topk_bounds.specs.declared.rivals.Rivals.TheVariants.{Must, May}
use Rattle.topk_bounds.specs.declared.search.Search.{Search}
use Rattle.topk_bounds.specs.Cuts.{AreNested, Begins, FindsFirst, HaveOneRange, IsCut, Settles, place_in}
use Rattle.topk_bounds.specs.Searches.{HasSearched, HasSearchedSome, IsSearch, IsWhole, SearchesGoOn}
use Rattle.topk_bounds.specs.Standings.{standing_in, standings_by}
use Rattle.topk_bounds.proofs.Cutting.{begun, cut_same}
use Rattle.topk_bounds.proofs.Finding.{all_found, cut_finds, cut_is_one}
use Rattle.topk_bounds.proofs.Judging.{standings_found}
use Rattle.topk_bounds.proofs.Places.{place_of, place_stays}

pub search_begun : (down : Bool) (key : KnownColumn) (counted among : List Bool) (limit there : ℕ) (cut : Cut) → length counted ≡ length among → 1 ≤ limit → Begins counted among cut there →
    IsSearch down key counted among limit (record { cut = cut; share = record { wanted = limit; there = there }; read = 0 })
search_begun down key counted among limit there cut same some begins =
    elim (cases_lt there limit) [
      | inl few ↦ inl (record { few = omega (arith, begins.total, few); told = few; level = begins.level })
      | inr enough ↦ inr (begun counted among limit there (place_in down key 0) cut (λ r. refl) same some (omega (arith, enough)) begins)
    ]

module _ (down : Bool) (key : KnownColumn) (counted among : List Bool) (limit : ℕ) (search : Search) where
  -- where the counted rows are enough, they are cut
  pub search_cut : IsSearch down key counted among limit search → search.share.wanted ≤ search.share.there → IsCut counted among limit (place_in down key search.read) search.cut search.share
  search_cut (inl whole) enough = (let told = whole.told in absurd (omega arith))
  search_cut (inr is) enough = is

  -- and else all are found
  pub search_whole : IsSearch down key counted among limit search → search.share.there < search.share.wanted → IsWhole counted among limit search
  search_whole (inl whole) few = whole
  search_whole (inr is) few = (let enough = is.wanted in absurd (omega arith))

  -- where all planes are followed, rows are parted by all digits
  pub searched_cut : HasSearched down key counted among limit search → search.share.wanted ≤ search.share.there → IsCut counted among limit (place_of down key) search.cut search.share
  searched_cut has enough = subst (λ k. IsCut counted among limit (place_in down key k) search.cut search.share) has.read (search_cut has.searches enough)

  pub whole_finds : (rivals : Rivals) (found : List Bool) → IsKnownColumn key → length among ≡ rows_of_column key → length counted ≡ rows_of_column key → HasSearched down key counted among limit search →
      search.share.there < search.share.wanted → found ≡ search.cut.level → FindsFirst rivals down key counted among limit found
  whole_finds rivals found known rows same has few is =
      let whole = search_whole has.searches few in
      subst (λ (l : List Bool). FindsFirst rivals down key counted among limit l) (sym (is ∙ whole.level)) (all_found rivals down key known counted among limit rows (same ∙ sym rows) whole.few)

  pub cut_found : (rivals : Rivals) (found : List Bool) → IsKnownColumn key → length among ≡ rows_of_column key → HasSearched down key counted among limit search →
      search.share.wanted ≤ search.share.there → Settles rivals key search.share search.cut found → AreNested rivals counted among → FindsFirst rivals down key counted among limit found
  cut_found rivals found known rows has enough settles nested = cut_finds rivals down key known counted among limit rows search.cut search.share (searched_cut has enough) found settles nested

  -- one plane more of the key leaves what the first tell
  pub search_stays : (bits : List Bool) → search.read ≤ key.known.read → length among ≡ rows_of_column key → length bits ≡ rows_of_column key → IsSearch down key counted among limit search →
      IsSearch down (read_further key bits) counted among limit search
  search_stays bits read rows long (inl whole) = inl (record { few = whole.few; told = whole.told; level = whole.level })
  search_stays bits read rows long (inr is) =
      inr (cut_same counted among limit (place_in down key search.read) (place_in down (read_further key bits) search.read) search.cut search.share
      (λ r h. place_stays down key bits search.read r read (omega (arith, h, rows)) long) is)

module _ (key : KnownColumn) (search : Search) (has : HasSearchedSome key search) (enough : search.share.wanted ≤ search.share.there) where
  abbrev found_cut : IsCut has.counted has.among has.limit (place_of has.down key) search.cut search.share
  found_cut = searched_cut has.down key has.counted has.among has.limit search has.searched enough

  pub counted_one_range : (rivals : Rivals) → IsKnownColumn key → HaveOneRange key search.cut
  counted_one_range rivals known = cut_is_one rivals has.down key known has.counted has.among has.limit has.rows search.cut search.share found_cut

-- ---- both searches

pub searches_go_on : SearchesGoOn
searches_go_on kept must may key bits judged must_rows may_rows long within =
    let longer : rows_of_column (read_further key bits) ≡ rows_of_column key = length-longer key.known.prefixes bits (sym long) in (
      record {
        must = must;
        may = may;
        must_rows = must_rows ∙ sym longer;
        may_rows = may_rows ∙ sym longer;
        within = within;
        must_read = omega (arith, judged.must_searched.read);
        may_read = omega (arith, judged.may_searched.read);
        must_searches = search_stays kept.down key must may kept.limit kept.must bits (omega (arith, judged.must_searched.read)) may_rows long judged.must_searched.searches;
        may_searches = search_stays kept.down key may must kept.limit kept.may bits (omega (arith, judged.may_searched.read)) must_rows long judged.may_searched.searches;
      },
      refl,
      refl,
    )

-- the rows that were found tell the standings
pub standings_told : (key : KnownColumn) (must may : List Bool) (down : Bool) (limit : ℕ) (found other sure rest : List Bool) → length found ≡ rows_of_column key → length other ≡ rows_of_column key →
    sure ≡ zip2 (λ a b. a && b) other found → rest ≡ zip2 (λ a b. a && not b) found sure → FindsFirst Must down key must may limit found → FindsFirst May down key may must limit other →
    zip2 standing_in sure rest ≡ standings_by (record { limit = limit; down = down; must = must; may = may; key = key })
standings_told key must may down limit found other sure rest rows other_rows sure_is rest_is some certain =
    ap (λ (l : List Bool). zip2 standing_in l rest) sure_is
    ∙ ap (λ (l : List Bool). zip2 standing_in (zip2 (λ a b. a && b) other found) l) (rest_is ∙ ap (λ (l : List Bool). zip2 (λ a b. a && not b) found l) sure_is)
    ∙ standings_found other found (other_rows ∙ sym rows) (record { limit = limit; down = down; must = must; may = may; key = key }) other_rows some certain

pub sure_rows : (found other sure : List Bool) (n : ℕ) → length found ≡ n → length other ≡ n → sure ≡ zip2 (λ a b. a && b) other found → length sure ≡ n
sure_rows found other sure n rows other_rows is = ap length is ∙ length-zip2 (λ a b. a && b) other found (other_rows ∙ sym rows) ∙ other_rows
