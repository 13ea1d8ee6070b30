use Rattle.std.proofs.Common.{◌≡◌, ◌+◌, ◌≤◌, ◌∙◌, List, ℕ, length, arith}
use Rattle.outer_world.proofs.Steps.{told}
use Rattle.plane_file.specs.Format.{file_size, plane_size}
use Rattle.plane_file.specs.Places.{plane_at}
use Rattle.plane_file.proofs.ColumnSteps.{taken_read}
use Rattle.plane_file.proofs.PlanePlaces.{plane_within}
use Rattle.plane_file.proofs.column_reading.read_next.Goals as goal

pub read_plane-requires-clause-holds : goal.read_plane-requires-clause-holds
read_plane-requires-clause-holds g c =
    let head = c.args.file.now.head in
    let within = plane_within head c.args.column c.args.number c.requires.column c.requires.number in
    told (g.P.Store.state c.args.store.now).held (λ (bytes : List ℕ). length bytes ≡ file_size head) (λ (bytes : List ℕ). length bytes ≡ file_size head)
    (λ (bytes : List ℕ). plane_at head c.args.column c.args.number + plane_size head.rows ≤ length bytes) (λ bytes long _. omega (arith, long, within)) c.requires.holds c.requires.holds

pub returns-in-Ok-clause-read : goal.returns-in-Ok-clause-read
returns-in-Ok-clause-read g c =
    let long = c.read_plane.ensures.rows ∙ c.requires.rows in
    record {
      bits = c.read_plane.new.into;
      rows = long;
      read = c.in_ok-read_plane.ensures.read;
      after_is = c.in-Ok.ensures.taken;
      is_read = taken_read c.args.file.now.head c.args.column c.args.number c.args.known.now c.take.new.self c.read_plane.new.into c.requires.known c.in-Ok.ensures.taken long c.in-Ok.ensures.legal;
    }
