-- The rows of the table that are calls on all three buffers, together.
use Rattle.std.specs.Prelude.{List, [], ◌∷◌}
use Rattle.entries.specs.Keeps.{Entry}
use Rattle.entries.specs.Observed.{Observed, Right}
use Rattle.entries.specs.Table.{lookup, list, stat, read, create, mkdir, remove-file, remove-directory, rename, write, setlen, forder, push, fsync, cut, take, renew}

-- the entries that are lent all three buffers
abbrev pub table : List (Entry Observed Right)
table =
    lookup
    ∷ list
    ∷ stat
    ∷ read
    ∷ create
    ∷ mkdir
    ∷ remove-file
    ∷ remove-directory
    ∷ rename
    ∷ write
    ∷ setlen
    ∷ forder
    ∷ push
    ∷ fsync
    ∷ cut
    ∷ take
    ∷ renew
    ∷ []
