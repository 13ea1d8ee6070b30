use Rattle.std.proofs.Common.{◌≡◌, ◌-◌, take}
use Rattle.kleene_filter.specs.Kept.{kept_by_all}
use Rattle.kleene_filter.proofs.filter.room_beside.Given as goal

-- what is left is the room beside the masks walked
abbrev pub invariant-loop-own : goal.invariant-loop-own
invariant-loop-own l = l.room ≡ l.most - kept_by_all (take l.own-index l.masks)
