-- The lines of rows, one by one.
use Rattle.std.proofs.Common.{◌≡◌, ℕ, ◌+◌, ◌<◌, not, cond, List, ◌∷◌, ◌++◌, drop, get_or, length, map, refl, sym, ap, ◌∙◌, subst}
use Rattle.std.specs.List.{filter}
use Rattle.std.proofs.lemmas.List.{drop_more, get_or-map, length-map}
use Rattle.query_model.specs.declared.bounds.Standing.{Standing}
use Rattle.query_model.specs.declared.bounds.Standing.TheVariants.{Certain, Possible, Excluded}
use Rattle.part_rows.specs.declared.listed.ListedRow.{ListedRow}
use Rattle.query_kinds.specs.declared.rows.FirstRows.{FirstRows}
use Rattle.part_rows.specs.declared.row.PartRow.{PartRow}
use Rattle.part_rows.specs.Combined.{Listing, line_by, line_if, line_of, lines_of, listing, row_of, standing_in}
use Rattle.part_rows.specs.Standings.{standing, standings}
use Rattle.part_rows.specs.Tables.{is_certain, is_excluded}

first_of : (asked : FirstRows) (rows : List PartRow) (row : Listing) (others : List Listing) (known : Standing) →
    standing_in asked rows row ≡ known →
    map (line_of asked rows) (cond (not (is_excluded known)) (row ∷ others) others) ≡ line_if known row ++ map (line_of asked rows) others
first_of asked rows row others Certain e = ap (λ s. line_by (is_certain s) row ∷ map (line_of asked rows) others) e
first_of asked rows row others Possible e = ap (λ s. line_by (is_certain s) row ∷ map (line_of asked rows) others) e
first_of asked rows row others Excluded e = refl

-- the line of the first row, if it has one, and those of the others
first_line : (asked : FirstRows) (rows : List PartRow) (row : Listing) (rest : List Listing) (known : Standing) →
    standing_in asked rows row ≡ known → lines_of asked rows (row ∷ rest) ≡ line_if known row ++ lines_of asked rows rest
first_line asked rows row rest known e =
    let others = filter (λ r. not (is_excluded (standing_in asked rows r))) rest in
    ap (λ s. map (line_of asked rows) (cond (not (is_excluded s)) (row ∷ others) others)) e ∙ first_of asked rows row others known e

-- so from each place on
pub one_more : (asked : FirstRows) (rows : List PartRow) (listed : List ListedRow) (place : ℕ) (d : ListedRow) (e : Standing) →
    rows ≡ map row_of (map listing listed) → place < length listed →
    lines_of asked rows (map listing (drop place listed))
    ≡ line_if (get_or (standings asked rows) place e) (listing (get_or listed place d)) ++ lines_of asked rows (map listing (drop (place + 1) listed))
one_more asked rows listed place d e r lt =
    let row = get_or listed place d in
    let none = row_of (listing d) in
    let there : place < length (map listing listed) = subst (λ n. place < n) (sym (length-map listed listing)) lt in
    let same : get_or rows place none ≡ row_of (listing row) =
    ap (λ rs. get_or rs place none) r ∙ get_or-map row_of (map listing listed) place (listing d) none there
    ∙ ap row_of (get_or-map listing listed place d (listing d) lt) in
    let as_many : length rows ≡ length listed =
    ap length r ∙ length-map (map listing listed) row_of ∙ length-map listed listing in
    let judged : get_or (standings asked rows) place e ≡ standing asked rows (get_or rows place none) =
    get_or-map (standing asked rows) rows place none e (subst (λ n. place < n) (sym as_many) lt) in
    ap (λ l. lines_of asked rows (map listing l)) (drop_more listed place d lt)
    ∙ first_line asked rows (listing row) (map listing (drop (place + 1) listed)) (get_or (standings asked rows) place e)
    (sym (judged ∙ ap (standing asked rows) same))
