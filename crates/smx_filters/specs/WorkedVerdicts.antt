-- Worked verdicts: their lines, typed in by hand.
use Rattle.std.specs.Prelude.{◌≡◌, refl, codes}
use Rattle.std.specs.Fmt.{digits}
use Rattle.smx_config.specs.declared.verdict.Verdict.TheVariants.{Legal, Illegal, ConfigDiffers}
use Rattle.smx_filters.specs.CheckText.{verdict_line}

-- no entry
pub none_is_legal : verdict_line 0 Legal ≡ codes "legal 0\n"
unfolding digits
none_is_legal = refl

-- the largest number of entries
pub all_are_legal : verdict_line 100000 Legal ≡ codes "legal 100000\n"
unfolding digits
all_are_legal = refl

-- the second of seven entries
pub second_is_illegal : verdict_line 7 (Illegal 2) ≡ codes "illegal 2\n"
unfolding digits
second_is_illegal = refl

-- any number of entries
pub config_differs : verdict_line 7 ConfigDiffers ≡ codes "config differs\n"
config_differs = refl
