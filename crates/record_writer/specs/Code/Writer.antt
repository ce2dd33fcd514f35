-- Document 01, "Loss record", for the writer: the record that each writer is given the fields of, and what a writer leaves.
use Rattle.std.specs.Prelude.{ℕ, ◌≤◌, ◌≡◌, List, [], ◌++◌, true, length, drop, Option, None, Some}
use Rattle.record.specs.declared.kind.Kind.{Kind}
use Rattle.record.specs.Kind.{map_of_kind}
use Rattle.record.specs.Operation.{rename, set_length, forder, Record, record_of}
use Rattle.buffer.specs.Numeral.{bytes}
use Rattle.record.specs.Fields.{parted, encode, valid, objects_of, operation_of}

-- "A record could be written exactly if it is valid"; and it must fit the buffer
pub record Writable (r : Record) (before : List ℕ) : Type 0 where
  pub sound : valid r ≡ true
  pub room : length (encode r) ≤ length before

-- the record's bytes stand at the start of the buffer, the rest is as before, and the answer is their count
pub record Written (r : Record) (before after : List ℕ) (n : ℕ) : Type 0 where
  pub count : n ≡ length (encode r)
  pub held : after ≡ encode r ++ drop (length (encode r)) before

-- a record of create file, make directory or remove
unfoldable pub entry_record : Kind → ℕ → ℕ → ℕ → ℕ → List ℕ → Record
entry_record k sequence program object parent name =
    record_of sequence program (operation_of k (map_of_kind k) (parted object parent 0 0 name [] 0 [] []))

-- the bytes of a displaced object, if there is one: "3 displaced object (2)"
abbrev pub displaced_bytes : Option ℕ → List ℕ
displaced_bytes None = []
displaced_bytes (Some d) = bytes 2 d

unfoldable pub rename_record : ℕ → ℕ → ℕ → ℕ → ℕ → Option ℕ → List ℕ → List ℕ → Record
rename_record sequence program object parent second displaced name second_name =
    record_of sequence program (rename object parent second displaced name second_name)

-- a record of overwrite or append
unfoldable pub range_record : Kind → ℕ → ℕ → ℕ → ℕ → List ℕ → Record
range_record k sequence program object offset block =
    record_of sequence program (operation_of k (map_of_kind k) (parted object 0 0 0 [] [] offset block []))

unfoldable pub length_record : ℕ → ℕ → ℕ → ℕ → Record
length_record sequence program object new_length = record_of sequence program (set_length object new_length)

-- "Forder's list is lent as 2 bytes an object"
unfoldable pub forder_record : ℕ → ℕ → List ℕ → Record
forder_record sequence program list = record_of sequence program (forder (objects_of list))
