-- The script format: which commands that are no calls print a line. Of the others the format says "prints nothing".
use Rattle.std.specs.Prelude.{Bool, true, false}
use Rattle.script_words.specs.declared.command.Play.{Play}
use Rattle.script_words.specs.declared.command.Play.TheVariants.{Show, Digest}

abbrev pub prints : Play → Bool
prints (Show area at count) = true
prints Digest = true
prints other = false
