-- Document 01, "Cases to prove": C1 to C12 as one table, proved through one statement about the definitions; beside it further
-- examples, and those of document 02.
use Rattle.std.specs.Prelude.{ℕ, ◌≡◌, refl, List, [], ◌∷◌, ◌++◌, map, cond, replicate, eqb}
use Rattle.std.specs.Prelude.{Option, None, Some}
use Rattle.names.specs.Name.{permitted_byte, all_permitted, is_dots, good_text, name_text_of, lower_case, same_name}
use Rattle.paths.specs.Path.{path_text_of, on_first, split, components}
use Rattle.record.specs.Kind.{kind_of_code}
use Rattle.buffer.specs.Numeral.{bytes, numeral}
use Rattle.record.specs.Operation.{Operation, Record, forder as forder_operation, operands}
use Rattle.buffer.specs.Patch.{patch}
use Rattle.record.specs.Fields.{valid_objects, valid_names, valid_range, tied, valid_parts, valid, encode, fields, head_bytes, object_fields, name_fields, range_fields, pairs, member, different, all_up_to, valid_list, valid_head, differing, in_block, objects_of}
use Rattle.record.specs.Decode.{number, counted, read_parts, read_record, begins, decode_record}
use Rattle.volume_entry.specs.Entry.{usage}
use Rattle.volume_tree.specs.Volume.{every, lowest, search, has_children, formatted}
use Rattle.volume_apply.specs.Apply.{applies, apply}
use Rattle.log_rules.specs.Programs.{with, without, union_of}
use Rattle.log_rules.specs.Slot.{empty_log, with_next}
use Rattle.log_rules.specs.Order.{shares, directly_precedes, any, closure, needed, predecessors, preceded}
use Rattle.log_rules.specs.Cases.Order.{order_in, order}
use Rattle.log_rules.specs.Depend.{reach, noted}
use Rattle.log_rules.specs.Change.{waiting_of, issue, removed, dependents_of, discard, earliest, waiting_at}
use Rattle.session.specs.Call.{Geometry, Issuer, issuer, Call, lookup, list, stat, read, create_file, make_directory, remove_file, remove_directory, rename, write, set_length, push, fsync, cut, take, renew, geometry}
use Rattle.session.specs.Refusal.{lowest_number}
use Rattle.session.specs.Model.{Model, with_log}
use Rattle.volume_questions.specs.Listing.{listing}
use Rattle.volume_questions.specs.Answer.{stat_answer, object_answer, read_answer, read_leaves, list_answer, list_leaves}
use Rattle.volume_lookup.specs.Lookup.{component_answer, components_answer, components_objects, lookup_answer, lookup_operands}
use Rattle.log_rules.specs.Sends.{applying}
use Rattle.session.specs.Send.{push_of, fsync_of, take_of, renew_of}
use Rattle.session.specs.Effect.{perform, perform_all, issuing, effects_of}
use Rattle.session.specs.Step.{answer_of, leaves_of}

-- what format and mount leave: a root, and an empty log
unfoldable pub mounted : Geometry → Model
mounted g = record { server = formatted g.objects; view = formatted g.objects; log = empty_log }

-- what some calls leave, if each of them is accepted
unfoldable pub after : Geometry → List Call → Option Model → Option Model
after g [] x = x
after g (c ∷ cs) None = None
after g (c ∷ cs) (Some x) =
    after g cs (cond (eqb (answer_of g c x).returned 0) (Some (leaves_of g c x)) None)

-- of each call its returned number and its other results
unfoldable pub answers : Geometry → List Call → Model → List (List ℕ)
answers g [] x = []
answers g (c ∷ cs) x =
    let a = answer_of g c x in
    (a.returned ∷ a.results) ∷ answers g cs (leaves_of g c x)

-- what a row asks
pub data Asked : Type 0 where
  -- calls on a volume as mounted that are all accepted, and then calls: what do these answer?
  answers_to : Geometry → List Call → List Call → Asked
  -- the same, where the next number is another before the last calls
  answers_from : ℕ → Geometry → List Call → List Call → Asked
  -- calls on a volume as mounted that are all accepted: which of the waiting operations precede each?
  order_after : Geometry → List Call → Asked
  -- calls on a volume as mounted that are all accepted, and then a call: what stands in its own buffer after it?
  left_by : Geometry → List Call → Call → Asked
  -- bytes: which record stands at their start?
  record_of : List ℕ → Asked

-- what document 01 tells
pub data Said : Type 0 where
  -- of each call the returned number, then its other results
  numbers : List (List ℕ) → Said
  -- of each waiting operation its sequence number, then those of the operations that precede it
  precede : List (List ℕ) → Said
  -- the bytes of a buffer
  left : List ℕ → Said
  -- a record
  a_record : Record → Said
  -- some call before was refused, or there is no record
  nothing : Said

abbrev pub on_model : Option Model → (Model → Said) → Said
on_model None f = nothing
on_model (Some x) f = f x

abbrev pub on_record : Option Record → Said
on_record None = nothing
on_record (Some r) = a_record r

unfoldable pub answer_to : Asked → Said
answer_to (answers_to g before calls) = on_model (after g before (Some (mounted g))) (λ x. numbers (answers g calls x))
answer_to (answers_from n g before calls) =
    on_model (after g before (Some (mounted g))) (λ x. numbers (answers g calls (with_log (with_next n x.log) x)))
answer_to (order_after g before) = on_model (after g before (Some (mounted g))) (λ x. precede (order (waiting_of x.log.slots)))
answer_to (left_by g before c) = on_model (after g before (Some (mounted g))) (λ x. left (answer_of g c x).buffer)
answer_to (record_of s) = on_record (decode_record s)

pub record Row : Type 0 where
  pub number : ℕ
  pub asked : Asked
  pub told : Said

abbrev pub C : ℕ → Asked → Said → Row
C n q t = record { number = n; asked = q; told = t }

abbrev pub small : Geometry
small = geometry 4 1 6

-- a program that makes a change
abbrev pub by : ℕ → Issuer
by p = issuer p

-- a name of one byte
abbrev pub named : ℕ → List ℕ
named b = b ∷ []

-- a file 1 of some bytes, sent
abbrev pub file_of : ℕ → List Call
file_of n = create_file (by 0) 0 (named 102) 1 ∷ set_length (by 0) 1 n ∷ push 1 ∷ push 2 ∷ []

-- a write of so many bytes to file 1 from an offset on
abbrev pub write_at : ℕ → ℕ → Call
write_at f n = write (by 0) 1 f (replicate n 7)

-- the directories a, b, c, d and e are 1 to 5, and the files 6 to 9 lie in a, b, c and d; all of them sent
abbrev pub figure3 : List Call
figure3 =
    make_directory (by 0) 0 (named 97) 1
    ∷ make_directory (by 0) 0 (named 98) 2
    ∷ make_directory (by 0) 0 (named 99) 3
    ∷ make_directory (by 0) 0 (named 100) 4
    ∷ make_directory (by 0) 0 (named 101) 5
    ∷ create_file (by 0) 1 (named 102) 6
    ∷ create_file (by 0) 2 (named 102) 7
    ∷ create_file (by 0) 3 (named 102) 8
    ∷ create_file (by 0) 4 (named 102) 9
    ∷ fsync 0 0 5
    ∷ push 6
    ∷ push 7
    ∷ push 8
    ∷ push 9
    ∷ []

abbrev pub four_renames : List Call
four_renames =
    rename (by 0) 1 (named 102) 4 (named 1)
    ∷ rename (by 0) 2 (named 102) 5 (named 2)
    ∷ rename (by 0) 3 (named 102) 4 (named 3)
    ∷ rename (by 0) 4 (named 102) 5 (named 4)
    ∷ []

-- three operations of file 1 that wait
abbrev pub three_waiting : List Call
three_waiting = file_of 8 ++ (write_at 0 4 ∷ write_at 4 4 ∷ set_length (by 0) 1 8 ∷ [])

abbrev pub cases : List Row
cases =
    -- "C1 "/" is 0."
    C 1 (answers_to small [] (lookup 0 (47 ∷ []) ∷ [])) (numbers ((0 ∷ 0 ∷ []) ∷ []))
    -- "C2 60-byte name passes, 61 gives 6."
    ∷ C 2 (answers_to small [] (create_file (by 0) 0 (replicate 60 97) 1 ∷ create_file (by 0) 0 (replicate 61 97) 2 ∷ []))
    (numbers ((0 ∷ 1 ∷ []) ∷ (6 ∷ 0 ∷ []) ∷ []))
    -- "C3 overwrites of bytes 0..3 and 4..7: no order."
    ∷ C 3 (order_after small (file_of 8 ++ (write_at 0 4 ∷ write_at 4 4 ∷ []))) (precede ((3 ∷ []) ∷ (4 ∷ []) ∷ []))
    -- "C4 bytes 0..4 and 4..7: order."
    ∷ C 4 (order_after small (file_of 8 ++ (write_at 0 5 ∷ write_at 4 4 ∷ []))) (precede ((3 ∷ []) ∷ (4 ∷ 3 ∷ []) ∷ []))
    -- "C5 length 511 has usage 0, 512 has 1."
    ∷ C 5 (answers_to small (file_of 511) (stat 0 1 ∷ [])) (numbers ((0 ∷ 1 ∷ 511 ∷ 0 ∷ []) ∷ []))
    ∷ C 5 (answers_to small (file_of 512) (stat 0 1 ∷ [])) (numbers ((0 ∷ 1 ∷ 512 ∷ 1 ∷ []) ∷ []))
    -- "C6 (002, figure 3) renames in a and d, in b and e, in c and d, then from d to e: third after first, fourth after all,
    -- first two free."
    ∷ C 6 (order_after (geometry 10 1 9) (figure3 ++ four_renames))
    (precede ((10 ∷ []) ∷ (11 ∷ []) ∷ (12 ∷ 10 ∷ []) ∷ (13 ∷ 10 ∷ 11 ∷ 12 ∷ []) ∷ []))
    -- "C7 d = 3: k = 3 succeeds, k = 2 gives 17 and 2."
    ∷ C 7 (answers_to small three_waiting (fsync 0 1 3 ∷ [])) (numbers ((0 ∷ 3 ∷ []) ∷ []))
    ∷ C 7 (answers_to small three_waiting (fsync 0 1 2 ∷ [])) (numbers ((17 ∷ 2 ∷ []) ∷ []))
    -- "C8 file of 1,024: 4 bytes at 1,020 pass, 5 give 12."
    ∷ C 8 (answers_to small (file_of 1024) (write_at 1020 4 ∷ write_at 1020 5 ∷ [])) (numbers ((0 ∷ 3 ∷ []) ∷ (12 ∷ 0 ∷ []) ∷ []))
    -- "C9 m = 1: a second change gives 13, and passes after a push."
    ∷ C 9
    (answers_to (geometry 4 1 1) (create_file (by 0) 0 (named 97) 1 ∷ [])
    (create_file (by 0) 0 (named 98) 2 ∷ push 1 ∷ create_file (by 0) 0 (named 98) 2 ∷ []))
    (numbers ((13 ∷ 0 ∷ []) ∷ (0 ∷ []) ∷ (0 ∷ 2 ∷ []) ∷ []))
    -- "C10 program 31 passes, 32 gives 3."
    ∷ C 10 (answers_to small [] (create_file (by 31) 0 (named 97) 1 ∷ create_file (by 32) 0 (named 98) 2 ∷ []))
    (numbers ((0 ∷ 1 ∷ []) ∷ (3 ∷ 0 ∷ []) ∷ []))
    -- "C11 set length to the present length follows earlier overwrites."
    ∷ C 11 (order_after small three_waiting) (precede ((3 ∷ []) ∷ (4 ∷ []) ∷ (5 ∷ 3 ∷ 4 ∷ []) ∷ []))
    -- "C12 bytes 0 1 7 0 0 0 3 8 2 5 0 6 0 are forder 7 by program 3 on 5 and 6."
    ∷ C 12 (record_of (0 ∷ 1 ∷ 7 ∷ 0 ∷ 0 ∷ 0 ∷ 3 ∷ 8 ∷ 2 ∷ 5 ∷ 0 ∷ 6 ∷ 0 ∷ []))
    (a_record (record { sequence = 7; program = 3; operation = forder_operation (5 ∷ 6 ∷ []) }))
    ∷ []

-- a directory 1 and a file 2 in it, of program 1, waiting
abbrev pub filled : List Call
filled = make_directory (by 1) 0 (named 97) 1 ∷ create_file (by 1) 1 (named 98) 2 ∷ []

-- a buffer that a take accepts
abbrev pub buffer : List ℕ
buffer = replicate 1040 0

-- further examples: what calls do, seen by calls after them
abbrev pub examples : List Row
examples =
    -- "Refusal 17 sends the first k, then cuts, and reports k": one of three is lost, and the caller is marked
    C 1 (answers_to small three_waiting (fsync 0 1 2 ∷ stat 0 1 ∷ take 0 buffer ∷ take 0 buffer ∷ renew 0 ∷ stat 0 1 ∷ []))
    (numbers ((17 ∷ 2 ∷ []) ∷ (4 ∷ 0 ∷ 0 ∷ 0 ∷ []) ∷ (0 ∷ 14 ∷ []) ∷ (16 ∷ 0 ∷ []) ∷ (0 ∷ []) ∷ (0 ∷ 1 ∷ 8 ∷ 0 ∷ []) ∷ []))
    -- "Cut .. copies the server to the view": what was not sent is gone; "renew before the program took all losses"
    ∷ C 2 (answers_to small filled (cut ∷ renew 1 ∷ take 1 buffer ∷ take 1 buffer ∷ renew 1 ∷ stat 1 1 ∷ []))
    (numbers ((0 ∷ []) ∷ (18 ∷ []) ∷ (0 ∷ 14 ∷ []) ∷ (0 ∷ 14 ∷ []) ∷ (0 ∷ []) ∷ (8 ∷ 0 ∷ 0 ∷ 0 ∷ []) ∷ []))
    -- a program that looked up what was lost is marked, and no other
    ∷ C 3 (answers_to small filled (lookup 2 (47 ∷ 97 ∷ []) ∷ cut ∷ stat 2 0 ∷ stat 3 0 ∷ []))
    (numbers ((0 ∷ 1 ∷ []) ∷ (0 ∷ []) ∷ (4 ∷ 0 ∷ 0 ∷ 0 ∷ []) ∷ (0 ∷ 2 ∷ 0 ∷ 0 ∷ []) ∷ []))
    -- "Refused calls bring no dependence."
    ∷ C 4 (answers_to small filled (read 2 2 1 buffer ∷ cut ∷ stat 2 0 ∷ [])) (numbers ((12 ∷ 0 ∷ []) ∷ (0 ∷ []) ∷ (0 ∷ 2 ∷ 0 ∷ 0 ∷ []) ∷ []))
    -- "Fsync counts as such a call even if the link fails."
    ∷ C 5 (answers_to small filled (fsync 2 2 0 ∷ stat 2 0 ∷ [])) (numbers ((17 ∷ 0 ∷ []) ∷ (4 ∷ 0 ∷ 0 ∷ 0 ∷ []) ∷ []))
    -- "The lowest number wins": a bad program, a filled directory in a full log, an absent name
    ∷ C 6 (answers_to (geometry 4 1 2) filled (remove_directory (by 32) 9 [] ∷ remove_directory (by 0) 0 (named 97) ∷ remove_file (by 0) 0 (named 99) ∷ remove_file (by 0) 1 (named 98) ∷ []))
    (numbers ((3 ∷ 0 ∷ []) ∷ (11 ∷ 0 ∷ []) ∷ (8 ∷ 0 ∷ []) ∷ (13 ∷ 0 ∷ []) ∷ []))
    ∷ []

-- document 02, K1: writes across the end of a file
abbrev pub across : List Row
across =
    -- "ten bytes at the tail of a file, five old and five new": consecutive numbers, "the first is returned"; the file is longer; the append
    -- may not be sent first; "A cut may keep the overwrite without the append", which is then the program's one loss, of 21 bytes
    C 1
    (answers_to small (file_of 5)
    (write_at 0 10 ∷ stat 0 1 ∷ push 4 ∷ push 3 ∷ cut ∷ stat 1 1 ∷ stat 0 1 ∷ take 0 buffer ∷ take 0 buffer ∷ []))
    (numbers
    ((0 ∷ 3 ∷ [])
    ∷ (0 ∷ 1 ∷ 10 ∷ 0 ∷ [])
    ∷ (15 ∷ [])
    ∷ (0 ∷ [])
    ∷ (0 ∷ [])
    ∷ (0 ∷ 1 ∷ 5 ∷ 0 ∷ [])
    ∷ (4 ∷ 0 ∷ 0 ∷ 0 ∷ [])
    ∷ (0 ∷ 21 ∷ [])
    ∷ (16 ∷ 0 ∷ [])
    ∷ []))
    -- "and never the reverse": the append follows the overwrite
    ∷ C 1 (order_after small (file_of 5 ++ (write_at 0 10 ∷ []))) (precede ((3 ∷ []) ∷ (4 ∷ 3 ∷ []) ∷ []))
    -- "refusal 13 comes if fewer than two slots are free": with one slot free no write across the end, but an append; with two both
    ∷ C 2 (answers_to (geometry 4 1 2) (file_of 5 ++ (create_file (by 0) 0 (named 103) 2 ∷ [])) (write_at 0 10 ∷ write_at 5 5 ∷ write_at 0 20 ∷ []))
    (numbers ((13 ∷ 0 ∷ []) ∷ (0 ∷ 4 ∷ []) ∷ (13 ∷ 0 ∷ []) ∷ []))
    ∷ C 2 (answers_to (geometry 4 1 2) (file_of 5) (write_at 0 10 ∷ write_at 0 1 ∷ [])) (numbers ((0 ∷ 3 ∷ []) ∷ (13 ∷ 0 ∷ []) ∷ []))
    -- "and 14 if fewer than two numbers are left": the last number is for one operation, the last two for both
    ∷ C 3 (answers_from 4294967294 small (file_of 5) (write_at 0 10 ∷ write_at 0 5 ∷ write_at 0 5 ∷ []))
    (numbers ((14 ∷ 0 ∷ []) ∷ (0 ∷ 4294967294 ∷ []) ∷ (14 ∷ 0 ∷ []) ∷ []))
    ∷ C 3 (answers_from 4294967293 small (file_of 5) (write_at 0 10 ∷ write_at 0 5 ∷ [])) (numbers ((0 ∷ 4294967293 ∷ []) ∷ (14 ∷ 0 ∷ []) ∷ []))
    -- "within one block": up to the block's end, and no further
    ∷ C 4 (answers_to (geometry 4 2 6) (file_of 1020) (write_at 1019 5 ∷ write_at 1019 6 ∷ [])) (numbers ((0 ∷ 3 ∷ []) ∷ (12 ∷ 0 ∷ []) ∷ []))
    ∷ []

-- three spellings of one name
abbrev pub Task : List ℕ
Task = 84 ∷ 97 ∷ 115 ∷ 107 ∷ []

abbrev pub task : List ℕ
task = 116 ∷ 97 ∷ 115 ∷ 107 ∷ []

abbrev pub TASK : List ℕ
TASK = 84 ∷ 65 ∷ 83 ∷ 75 ∷ []

-- the root's list, for a program
abbrev pub list_for : ℕ → ℕ → Call
list_for p n = list p 0 (replicate n 0)

-- a file 1 that was sent as Task, and its rename to another case, lost
abbrev pub spelling_lost : List Call
spelling_lost = create_file (by 0) 0 Task 1 ∷ push 1 ∷ rename (by 0) 0 task 0 TASK ∷ cut ∷ []

-- document 02, K2: letter case in names
abbrev pub spelling : List Row
spelling =
    -- "Two pupils made Task and task in one folder": the second is refused, and every spelling finds and removes the first
    C 1
    (answers_to small (create_file (by 0) 0 Task 1 ∷ [])
    (create_file (by 1) 0 task 2 ∷ make_directory (by 1) 0 TASK 2 ∷ lookup 1 (47 ∷ task) ∷ lookup 1 (47 ∷ TASK) ∷ remove_file (by 1) 0 TASK ∷ lookup 1 (47 ∷ Task) ∷ []))
    (numbers ((10 ∷ 0 ∷ []) ∷ (10 ∷ 0 ∷ []) ∷ (0 ∷ 1 ∷ []) ∷ (0 ∷ 1 ∷ []) ∷ (0 ∷ 2 ∷ []) ∷ (8 ∷ 0 ∷ []) ∷ []))
    -- no other byte has a second spelling: "@" and "`" are two names
    ∷ C 2
    (answers_to small (create_file (by 0) 0 (named 64) 1 ∷ [])
    (create_file (by 0) 0 (named 96) 2 ∷ lookup 0 (47 ∷ 64 ∷ []) ∷ lookup 0 (47 ∷ 96 ∷ []) ∷ []))
    (numbers ((0 ∷ 2 ∷ []) ∷ (0 ∷ 1 ∷ []) ∷ (0 ∷ 2 ∷ []) ∷ []))
    -- "kept as typed"
    ∷ C 3 (left_by small (create_file (by 0) 0 Task 1 ∷ []) (list_for 0 8)) (left (1 ∷ 0 ∷ 1 ∷ 4 ∷ Task))
    -- "one that only changes the case of the stored name displaces nothing and changes the stored spelling"
    ∷ C 4 (left_by small (create_file (by 0) 0 Task 1 ∷ rename (by 0) 0 task 0 TASK ∷ []) (list_for 0 8)) (left (1 ∷ 0 ∷ 1 ∷ 4 ∷ TASK))
    -- "in the same parent, only the stored spelling itself changes nothing"
    ∷ C 4 (left_by small (create_file (by 0) 0 Task 1 ∷ rename (by 0) 0 task 0 Task ∷ []) (list_for 0 8)) (left (1 ∷ 0 ∷ 1 ∷ 4 ∷ Task))
    -- "records keep both names as typed", and the lost rename displaced nothing; the server keeps the old spelling
    ∷ C 5 (left_by small spelling_lost (take 0 buffer))
    (left (encode (record { sequence = 2; program = 0; operation = Operation.rename 1 0 0 None task TASK }) ++ replicate 1016 0))
    ∷ C 5 (left_by small spelling_lost (list_for 1 8)) (left (1 ∷ 0 ∷ 1 ∷ 4 ∷ Task))
    -- another spelling of another object's name displaces that one: "b" is stored, and B is gone
    ∷ C 6 (left_by small (create_file (by 0) 0 (named 97) 1 ∷ create_file (by 0) 0 (named 66) 2 ∷ rename (by 0) 0 (named 65) 0 (named 98) ∷ []) (list_for 0 5))
    (left (1 ∷ 0 ∷ 1 ∷ 1 ∷ 98 ∷ []))
    -- sent in issue order, each applies to the spelling that it meets
    ∷ C 7
    (answers_to small (create_file (by 0) 0 Task 1 ∷ []) (rename (by 0) 0 TASK 0 task ∷ remove_file (by 0) 0 TASK ∷ push 1 ∷ push 3 ∷ push 2 ∷ push 3 ∷ []))
    (numbers ((0 ∷ 2 ∷ []) ∷ (0 ∷ 3 ∷ []) ∷ (0 ∷ []) ∷ (15 ∷ []) ∷ (0 ∷ []) ∷ (0 ∷ []) ∷ []))
    ∷ []

-- the filled directory 1, the file 2 in it, and an empty directory 3
abbrev pub of_each_kind : List Call
of_each_kind = filled ++ (make_directory (by 1) 0 (named 99) 3 ∷ [])

-- a loss of operation 2, which removes object 1, as take leaves it
abbrev pub removal_lost : Said
removal_lost = left (encode (record { sequence = 2; program = 0; operation = Operation.remove 1 0 (named 97) }) ++ replicate 1026 0)

-- document 02, K4: remove is two calls
abbrev pub removal : List Row
removal =
    -- "remove directory [takes] only empty directories": no file, which remove file takes
    C 1 (answers_to small of_each_kind (remove_directory (by 0) 1 (named 98) ∷ remove_file (by 0) 1 (named 98) ∷ [])) (numbers ((9 ∷ 0 ∷ []) ∷ (0 ∷ 4 ∷ []) ∷ []))
    -- "Remove file takes only files": no empty directory, which remove directory takes
    ∷ C 2 (answers_to small of_each_kind (remove_file (by 0) 0 (named 99) ∷ remove_directory (by 0) 0 (named 99) ∷ [])) (numbers ((9 ∷ 0 ∷ []) ∷ (0 ∷ 4 ∷ []) ∷ []))
    -- "Refusal 9 covers the wrong choice and comes before 11": of a filled directory, remove file says 9 and remove directory 11
    ∷ C 3 (answers_to small of_each_kind (remove_file (by 0) 0 (named 97) ∷ remove_directory (by 0) 0 (named 97) ∷ [])) (numbers ((9 ∷ 0 ∷ []) ∷ (11 ∷ 0 ∷ []) ∷ []))
    -- and before 13; a refused choice changes nothing and brings no dependence
    ∷ C 4
    (answers_to (geometry 4 1 3) of_each_kind (remove_directory (by 2) 1 (named 98) ∷ remove_file (by 2) 0 (named 99) ∷ remove_file (by 2) 1 (named 98) ∷ cut ∷ stat 2 0 ∷ []))
    (numbers ((9 ∷ 0 ∷ []) ∷ (9 ∷ 0 ∷ []) ∷ (13 ∷ 0 ∷ []) ∷ (0 ∷ []) ∷ (0 ∷ 2 ∷ 0 ∷ 0 ∷ []) ∷ []))
    -- "Kind 3 stays in the record, so stored losses read as they did": the same loss by either call
    ∷ C 5 (left_by small (create_file (by 0) 0 (named 97) 1 ∷ push 1 ∷ remove_file (by 0) 0 (named 97) ∷ cut ∷ []) (take 0 buffer)) removal_lost
    ∷ C 5 (left_by small (make_directory (by 0) 0 (named 97) 1 ∷ push 1 ∷ remove_directory (by 0) 0 (named 97) ∷ cut ∷ []) (take 0 buffer)) removal_lost
    ∷ []

-- a directory 1 and a file 2 of 8 bytes in it, sent
abbrev pub sent_tree : List Call
sent_tree = make_directory (by 0) 0 (named 97) 1 ∷ create_file (by 0) 1 (named 98) 2 ∷ set_length (by 0) 2 8 ∷ push 1 ∷ push 2 ∷ push 3 ∷ []

-- and an overwrite of program 1 that waits, with the file as its only operand; or a new file 3 in the directory, with these two as operands
abbrev pub file_waits : List Call
file_waits = sent_tree ++ (write (by 1) 2 0 (replicate 4 7) ∷ [])

abbrev pub directory_waits : List Call
directory_waits = sent_tree ++ (create_file (by 1) 1 (named 99) 3 ∷ [])

-- of a program that made one call before a cut
abbrev pub is_marked : List ℕ
is_marked = 4 ∷ 0 ∷ 0 ∷ 0 ∷ []

abbrev pub is_not : List ℕ
is_not = 0 ∷ 2 ∷ 0 ∷ 0 ∷ []

-- "Order and dependence": "a later successful call of its own has an operand which that operation .. touches"
abbrev pub dependence : List Row
dependence =
    -- "the others have their object": stat, read and list
    C 1 (answers_to small file_waits (stat 2 2 ∷ cut ∷ stat 2 0 ∷ [])) (numbers ((0 ∷ 1 ∷ 8 ∷ 0 ∷ []) ∷ (0 ∷ []) ∷ is_marked ∷ []))
    ∷ C 2 (answers_to small file_waits (read 2 2 0 (replicate 4 0) ∷ cut ∷ stat 2 0 ∷ [])) (numbers ((0 ∷ 4 ∷ []) ∷ (0 ∷ []) ∷ is_marked ∷ []))
    ∷ C 3 (answers_to small directory_waits (list 2 1 (replicate 10 0) ∷ cut ∷ stat 2 0 ∷ [])) (numbers ((0 ∷ 10 ∷ []) ∷ (0 ∷ []) ∷ is_marked ∷ []))
    -- "Lookup's operands are the directories it searches and the object found", below the root too
    ∷ C 4 (answers_to small file_waits (lookup 2 (47 ∷ 97 ∷ 47 ∷ 98 ∷ []) ∷ cut ∷ stat 2 0 ∷ [])) (numbers ((0 ∷ 2 ∷ []) ∷ (0 ∷ []) ∷ is_marked ∷ []))
    ∷ C 4 (answers_to small directory_waits (lookup 2 (47 ∷ 97 ∷ 47 ∷ 98 ∷ []) ∷ cut ∷ stat 2 0 ∷ [])) (numbers ((0 ∷ 2 ∷ []) ∷ (0 ∷ []) ∷ is_marked ∷ []))
    ∷ C 4 (answers_to small file_waits (lookup 2 (47 ∷ 97 ∷ []) ∷ cut ∷ stat 2 0 ∷ [])) (numbers ((0 ∷ 1 ∷ []) ∷ (0 ∷ []) ∷ is_not ∷ []))
    -- a change: the overwrite of other bytes is sent, and its program still depends on the one that it touched
    ∷ C 5 (answers_to small file_waits (write (by 2) 2 4 (replicate 4 7) ∷ push 5 ∷ cut ∷ stat 2 0 ∷ [])) (numbers ((0 ∷ 5 ∷ []) ∷ (0 ∷ []) ∷ (0 ∷ []) ∷ is_marked ∷ []))
    -- an accepted fsync sends all that it depends on
    ∷ C 6 (answers_to small file_waits (fsync 2 2 1 ∷ cut ∷ stat 2 0 ∷ [])) (numbers ((0 ∷ 1 ∷ []) ∷ (0 ∷ []) ∷ is_not ∷ []))
    ∷ []

abbrev pub table : List Row
table = cases ++ (examples ++ (across ++ (spelling ++ (removal ++ dependence))))

-- every row: the definitions give what the documents tell
pub cases-hold : map (λ r. answer_to r.asked) table ≡ map (λ r. r.told) table
unfolding permitted_byte all_permitted is_dots good_text name_text_of lower_case same_name path_text_of kind_of_code numeral operands member different all_up_to valid_list valid_head differing in_block objects_of number counted read_parts read_record begins decode_record valid_objects valid_names valid_range tied valid_parts valid usage every lowest search has_children formatted applies apply with union_of shares directly_precedes any closure needed predecessors preceded order_in reach noted waiting_of issue removed dependents_of discard earliest waiting_at lowest_number push_of applying fsync_of perform perform_all issuing effects_of answer_of leaves_of lookup_answer lookup_operands stat_answer object_answer mounted after answers answer_to encode fields head_bytes object_fields name_fields range_fields bytes pairs patch read_answer read_leaves take_of renew_of without components split on_first components_answer component_answer components_objects listing list_answer list_leaves
cases-hold = refl
