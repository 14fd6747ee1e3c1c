-- How the header of a text spells its version.
use Rattle.std.specs.Prelude.{ℕ, List, codes}
use Rattle.smx_types.specs.declared.version.Version.{Version}
use Rattle.smx_types.specs.declared.version.Version.TheVariants.{V1, V2}

-- the word after the name of the text
abbrev pub version_word : Version → List ℕ
version_word V1 = codes "1"
version_word V2 = codes "2"
