-- `version`: which version of the program this is.
use Rattle.std.specs.Prelude.{ℕ, List, codes}

unfoldable pub version_text : List ℕ
version_text = codes "daq 0.9.0\n"
