-- Where the planes of a file stand.
use Rattle.std.proofs.Common.{◌≡◌, ℕ, zero, suc, ◌+◌, ◌*◌, ◌<◌, ◌≤◌, List, [], ◌∷◌, length, map, take, get_or, arith}
use Rattle.std.proofs.Math.Nat.{mul-add, mul-le-mul_left}
use Rattle.std.proofs.lemmas.List.Sums.{sum_by-cons}
use Rattle.daq_table.specs.Tables.{ends_at, ends_of, frame_of, no_ends, planes}
use Rattle.daq_table.specs.declared.head.ColumnHead.{ColumnHead}
use Rattle.daq_table.specs.declared.table_head.Head.{Head}
use Rattle.plane_file.specs.Format.{file_size, plane_count, plane_size}
use Rattle.plane_file.specs.Places.{plane_at, planes_before}

-- so many planes of these columns together
pub count_cons : (column : ColumnHead) (columns : List ColumnHead) → plane_count (column ∷ columns) ≡ planes (ends_of column) + plane_count columns
count_cons column columns = sum_by-cons (λ c. planes (ends_of c)) column columns

-- a plane of a column is one of the file
before_all : (columns : List ColumnHead) (c j : ℕ) → c < length columns → j < planes (get_or (map ends_of columns) c no_ends) → planes_before columns c j + 1 ≤ plane_count columns
before_all [] c j h lt = absurd (omega (arith, h))
before_all (column ∷ columns) zero j h lt = omega (arith, lt, count_cons column columns)
before_all (column ∷ columns) (suc c) j h lt =
    let rest = before_all columns c j (omega (arith, h)) lt in
    omega (arith, rest, count_cons column columns, count_cons column (take c columns))

-- and ends within it
pub within_file : (head : Head) (c j : ℕ) → c < length head.columns → j < planes (ends_at (frame_of head) c) → plane_at head c j + plane_size head.rows ≤ file_size head
within_file head c j h lt =
    let size = plane_size head.rows in
    let before = before_all head.columns c j h lt in
    let most : size * (planes_before head.columns c j + 1) ≤ size * plane_count head.columns = mul-le-mul_left size before in
    let more = mul-add size (planes_before head.columns c j) 1 in
    omega (arith, most, more)
