-- Where planes stand in a file.
use Rattle.std.proofs.Common.{◌≡◌, ℕ, zero, suc, ◌+◌, ◌*◌, ◌<◌, ◌≤◌, List, [], ◌∷◌, length, map, take, get_or, ap, ◌∙◌, arith}
use Rattle.std.proofs.Math.Nat.{mul-add, mul-le-mul}
use Rattle.std.proofs.lemmas.List.Sums.{sum_by-cons, sum_by-take-le}
use Rattle.daq_table.specs.Tables.{ends_at, ends_of, frame_of, no_ends, planes}
use Rattle.daq_table.specs.declared.head.ColumnHead.{ColumnHead}
use Rattle.daq_table.specs.declared.table_head.Head.{Head}
use Rattle.plane_file.specs.Format.{file_size, plane_count, plane_size, planes_at}
use Rattle.plane_file.specs.Places.{plane_at}

-- the planes of one column more
count_more : (columns : List ColumnHead) (c : ℕ) → c < length columns → plane_count (take (suc c) columns) ≡ plane_count (take c columns) + planes (get_or (map ends_of columns) c no_ends)
count_more [] c h = absurd (omega (arith, h))
count_more (column ∷ columns) zero h = sum_by-cons (λ k. planes (ends_of k)) column [] ∙ omega arith
count_more (column ∷ columns) (suc c) h =
    let all = sum_by-cons (λ k. planes (ends_of k)) column (take (suc c) columns) in
    let some = sum_by-cons (λ k. planes (ends_of k)) column (take c columns) in
    let rest = count_more columns c (omega (arith, h)) in
    omega (arith, all, some, rest)

pub next_count : (head : Head) (c : ℕ) → c < length head.columns → plane_count (take (c + 1) head.columns) ≡ plane_count (take c head.columns) + planes (ends_at (frame_of head) c)
next_count head c h = let more : c + 1 ≡ suc c = omega arith in ap (λ k. plane_count (take k head.columns)) more ∙ count_more head.columns c h

-- a plane behind the first of its column
pub place_in_column : (head : Head) (c j : ℕ) → plane_at head c j ≡ plane_at head c 0 + plane_size head.rows * j
place_in_column head c j =
    let size = plane_size head.rows in
    let before = plane_count (take c head.columns) in
    let none : before + 0 ≡ before = omega arith in
    let first = ap (λ n. planes_at head + size * n) none in
    omega (arith, mul-add size before j, first)

-- the first plane of a column, behind the planes of those before
pub place_of_column : (head : Head) (c : ℕ) → plane_at head c 0 ≡ planes_at head + plane_size head.rows * plane_count (take c head.columns)
place_of_column head c = let none : plane_count (take c head.columns) + 0 ≡ plane_count (take c head.columns) = omega arith in ap (λ n. planes_at head + plane_size head.rows * n) none

-- the first plane of the next column stands behind the planes of this one
pub place_of_next : (head : Head) (c : ℕ) → c < length head.columns → plane_at head (c + 1) 0 ≡ plane_at head c 0 + plane_size head.rows * planes (ends_at (frame_of head) c)
place_of_next head c h =
    let size = plane_size head.rows in
    let before = plane_count (take c head.columns) in
    let some = planes (ends_at (frame_of head) c) in
    let more = ap (λ n. planes_at head + size * n) (next_count head c h) in
    omega (arith, place_of_column head (c + 1), place_of_column head c, more, mul-add size before some)

-- each column ends within the file
pub column_within : (head : Head) (c : ℕ) → c < length head.columns → plane_at head c 0 + plane_size head.rows * planes (ends_at (frame_of head) c) ≤ file_size head
column_within head c h =
    let size = plane_size head.rows in
    let few = sum_by-take-le (λ k. planes (ends_of k)) head.columns (c + 1) in
    let below : size * plane_count (take (c + 1) head.columns) ≤ size * plane_count head.columns = mul-le-mul (omega arith) few in
    omega (arith, place_of_next head c h, place_of_column head (c + 1), below)

-- and so does each plane
pub plane_within : (head : Head) (c j : ℕ) → c < length head.columns → j < planes (ends_at (frame_of head) c) → plane_at head c j + plane_size head.rows ≤ file_size head
plane_within head c j h lt =
    let size = plane_size head.rows in
    let below : size * (j + 1) ≤ size * planes (ends_at (frame_of head) c) = mul-le-mul (omega arith) (omega (arith, lt)) in
    let one : size * (j + 1) ≡ size * j + size = mul-add size j 1 ∙ omega arith in
    omega (arith, place_in_column head c j, column_within head c h, below, one)
