-- Which lines make a call. Such a line prints nothing before the call's answer.
use Rattle.std.specs.Prelude.{Bool, true, false}
use Rattle.script_player.specs.declared.play.Turn.{Turn}
use Rattle.script_player.specs.declared.play.Turn.TheVariants.{Call}

abbrev pub calls : Turn → Bool
calls (Call call) = true
calls other = false
