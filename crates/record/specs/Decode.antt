-- Document 01, "Loss record": the record that some bytes begin with.
use Rattle.record.specs.declared.kind.Kind.{Kind}
use Rattle.std.specs.Prelude.{ℕ, ◌*◌, List, [], ◌∷◌, Bool, true, false, ◌&&◌, cond, take, drop, eqb}
use Rattle.std.specs.Prelude.{Option, None, Some}
use Rattle.record.specs.Kind.{kind_of_code}
use Rattle.buffer.specs.Numeral.{numeral}
use Rattle.record.specs.Operation.{Record}
use Rattle.record.specs.Fields.{Parts, parted, stands_in, encode, valid, objects_of, operation_of}

-- a number of w bytes, or 0 where its bit does not stand; and the bytes behind it
unfoldable pub number : Bool → ℕ → List ℕ → ℕ × List ℕ
number true w s = (numeral (take w s), drop w s)
number false w s = (0, s)

-- a count of w bytes and the bytes of that many items, or none where their bit does not stand; and the bytes behind them
unfoldable pub counted : Bool → ℕ → ℕ → List ℕ → List ℕ × List ℕ
counted true w size s = (take (numeral (take w s) * size) (drop w s), drop (numeral (take w s) * size) (drop w s))
counted false w size s = ([], s)

-- "only the fields whose bit stands, in bit order: 0 object (2), 1 parent (2), 2 second parent (2), 3 displaced object (2),
-- 4 name (length 1, bytes), 5 second name (same), 6 offset (4), 7 data (length 2, bytes), 8 list (count 1, objects 2 each)"
unfoldable pub read_parts : ℕ → List ℕ → Parts
read_parts m s =
    let object = number (stands_in m 1) 2 s in
    let parent = number (stands_in m 2) 2 object.1 in
    let second = number (stands_in m 4) 2 parent.1 in
    let displaced = number (stands_in m 8) 2 second.1 in
    let name = counted (stands_in m 16) 1 1 displaced.1 in
    let second_name = counted (stands_in m 32) 1 1 name.1 in
    let offset = number (stands_in m 64) 4 second_name.1 in
    let block = counted (stands_in m 128) 2 1 offset.1 in
    let list = counted (stands_in m 256) 1 2 block.1 in
    parted object.0 parent.0 second.0 displaced.0 name.0 second_name.0 offset.0 block.0 (objects_of list.0)

-- "A bit map of 2 bytes, sequence (4), program (1), kind (1), then only the fields whose bit stands": what they say of an
-- operation of that kind, whatever else stands in them
abbrev pub record_of_kind : Option Kind → List ℕ → Option Record
record_of_kind None s = None
record_of_kind (Some k) s =
    let m = numeral (take 2 s) in
    Some (record { sequence = numeral (take 4 (drop 2 s)); program = numeral (take 1 (drop 6 s)); operation = operation_of k m (read_parts m (drop 8 s)) })

unfoldable pub read_record : List ℕ → Option Record
read_record s = record_of_kind (kind_of_code (numeral (take 1 (drop 7 s)))) s

-- whether bytes begin with some others
unfoldable pub begins : List ℕ → List ℕ → Bool
begins s [] = true
begins [] (b ∷ t) = false
begins (a ∷ s) (b ∷ t) = eqb a b && begins s t

abbrev pub if_encoded : List ℕ → Option Record → Option Record
if_encoded s None = None
if_encoded s (Some r) = cond (valid r && begins s (encode r)) (Some r) None

-- the record that bytes begin with: the one that their fields tell, exactly if it is valid and they begin with its very bytes;
-- "20 Bad record: not one valid record at the start" in all other cases
unfoldable pub decode_record : List ℕ → Option Record
decode_record s = if_encoded s (read_record s)
