-- A line taken of an input, where it is known which bytes the input gives; what a read that fails leaves; an output that grows.
use Rattle.std.specs.Prelude.{ℕ, ◌≡◌, ◌<◌, ◌⊎◌, Bool, true, false, List, [], ◌∷◌, ◌++◌, length, take, drop, Option}
use Rattle.std.specs.Io.{StartsWith}
use Rattle.std.specs.Io.KnownBytes.{prepend_known, Appends, Consumes, IsAtEnd}
use Rattle.script_words.specs.Word.{before}
use Rattle.script_player.specs.declared.input.Line.{Line}

-- what is still to come: the bytes of a buffer from a place to a place, and what the input gives
abbrev pub coming : List ℕ → ℕ → ℕ → Option (List ℕ) → Option (List ℕ)
coming buf from to rest = prepend_known (drop from (take to buf)) rest

abbrev pub bytes_of : List ℕ → Line → List ℕ
bytes_of buf line = drop line.start (take line.end buf)

-- what ends a line: a newline, but for the last
abbrev pub ending : Bool → List ℕ
ending true = []
ending false = 10 ∷ []

-- a line has no newline within and is taken, with the newline that ends it, from the front of what was to come; it is the last only where the input
-- has ended, or where it is too long
pub record Taken (first rest : Option (List ℕ)) (buf : List ℕ) (line : Line) : Type 0 where
  pub one : before 10 (bytes_of buf line) ≡ bytes_of buf line
  pub from : Consumes first (coming buf line.next line.held rest) (bytes_of buf line ++ ending line.last)
  pub last : line.last ≡ true → IsAtEnd rest ⊎ (8191 < length (bytes_of buf line))

-- a read failed: the buffer begins with the bytes that were held and, behind them, all those that the input gave since
pub record Unfinished (held : List ℕ) (before after : Option (List ℕ)) (buf : List ℕ) : Type 0 where
  pub since : List ℕ
  pub stands : StartsWith buf (held ++ since)
  pub given : Consumes before after since

-- an output whose known bytes stay at the front and grow by some text
pub record Grown (before after : Option (List ℕ)) : Type 0 where
  pub text : List ℕ
  pub appended : Appends before after text
