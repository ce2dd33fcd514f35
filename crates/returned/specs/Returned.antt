-- Document 01, "Returned numbers": each number under its name, with document 01's reason. They stand here and nowhere else.
use Rattle.std.specs.Prelude.{ℕ}

-- the call is accepted; document 01 gives 0 as the result of format, mount, push, cut and renew
abbrev pub accepted : ℕ
accepted = 0

-- "n, b, m or a buffer length not as above"
abbrev pub wrong_buffer : ℕ
wrong_buffer = 1

-- "stored form broken; or an operation being sent does not apply to the server"
abbrev pub damaged : ℕ
damaged = 2

-- "32 or more"
abbrev pub bad_program : ℕ
bad_program = 3

-- "the program is marked"
abbrev pub marked : ℕ
marked = 4

-- "name or path text, other than length over 60"
abbrev pub bad_name : ℕ
bad_name = 5

-- "over 60 bytes"
abbrev pub long_name : ℕ
long_name = 6

-- "object n or more; 0 created; bad forder list"
abbrev pub bad_number : ℕ
bad_number = 7

-- "entry free, or a name to be found is absent"
abbrev pub no_object : ℕ
no_object = 8

-- "file for directory or the reverse; directory leaving its parent"
abbrev pub wrong_kind : ℕ
wrong_kind = 9

-- "name or new number in use"
abbrev pub taken : ℕ
taken = 10

-- "directory removed or displaced has children"
abbrev pub not_empty : ℕ
not_empty = 11

-- "write of 0 bytes, across blocks .., beyond length or b; length over b × 1,024; read offset beyond length": across the end of file a
-- write is two operations (document 02, K1)
abbrev pub bad_range : ℕ
bad_range = 12

-- "m slots used"
abbrev pub log_full : ℕ
log_full = 13

-- "next number is 4,294,967,295"
abbrev pub spent : ℕ
spent = 14

-- "a predecessor waits"
abbrev pub not_first : ℕ
not_first = 15

-- "sequence not waiting; no loss to take"
abbrev pub none : ℕ
none = 16

-- "fsync with k below d"
abbrev pub link_lost : ℕ
link_lost = 17

-- "renew before the program took all losses of its own operations"
abbrev pub losses_left : ℕ
losses_left = 18

-- "list does not fit; take below 1,040 bytes"
abbrev pub short_buffer : ℕ
short_buffer = 19

-- "not one valid record at the start"
abbrev pub bad_record : ℕ
bad_record = 20

-- "The lowest number wins": of the numbers whose reasons hold the one of the lowest rank, which is the number itself
abbrev pub rank_of : ℕ → ℕ
rank_of n = n
