-- An end of a clip and of a level, and what part of a number widens a sum at that end.
use Rattle.std.specs.Prelude.{ℤ, pos}
use Rattle.std.specs.Int.{int_min, int_max}
use Rattle.aggregates.specs.declared.ends.End.{End}
use Rattle.aggregates.specs.declared.ends.End.TheVariants.{Low, High}
use Rattle.clip_bounds.specs.declared.clip.Clip.{Clip}
use Rattle.clip_bounds.specs.declared.level.Level.{Level}

abbrev pub clip_end : End → Clip → ℤ
clip_end Low clip = clip.low
clip_end High clip = clip.high

abbrev pub level_end : End → Level → ℤ
level_end Low level = level.low
level_end High level = level.high

-- the part of a number below 0 at the low end, above 0 at the high end
abbrev pub part_of : End → ℤ → ℤ
part_of Low n = int_min n (pos 0)
part_of High n = int_max n (pos 0)
