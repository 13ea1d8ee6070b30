use Rattle.std.proofs.Common.{ℕ, ◌+◌, ◌*◌, ◌<◌, take}
use Rattle.kleene_filter.specs.Members.{AreBlockMembers, HaveRow}
use Rattle.kleene_filter.proofs.members.block_members.Given as goal

abbrev pub invariant-loop-level : goal.invariant-loop-level
invariant-loop-level l = (row : ℕ) → row < 512 → HaveRow (512 * l.block + row) l.levels → AreBlockMembers (take l.level-index l.levels) l.block row (record { may = l.may; must = l.must })
