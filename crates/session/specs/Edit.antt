-- Document 01, "Calls" and "Returned numbers": the changes and forder, each a table of refusals.
use Rattle.std.specs.Prelude.{ℕ, ◌+◌, ◌*◌, ◌%◌, List, [], ◌∷◌, ◌++◌, Bool, false, not, ◌&&◌, ◌||◌, length, ltb, eqb}
use Rattle.std.specs.Prelude.{Option, None, Some}
use Rattle.buffer.specs.Geometry.{block_bytes}
use Rattle.returned.specs.Returned
use Rattle.names.specs.Name.{name_text_of}
use Rattle.record.specs.Fields.{different, objects_of}
use Rattle.volume_entry.specs.Entry.{Entry, is_used, is_file, is_directory, kind_number, contents_of}
use Rattle.volume_tree.specs.Volume.{Volume, entry_at, search, has_children}
use Rattle.volume_apply.specs.Apply.{is_absent}
use Rattle.log_rules.specs.Order.{any}
use Rattle.session.specs.Class.{Change, create_file, make_directory, remove_file, remove_directory, rename, write, set_length, forder}
use Rattle.session.specs.Call.{Geometry, Call, Answer, answer}
use Rattle.session.specs.Issue.{displaced, issues}
use Rattle.session.specs.Refusal.{Row, row}
use Rattle.session.specs.Model.{Model, unless, program_rows, is_bad, is_long, outside, is_free, object_rows, room_for, told_of}

-- room for what the call issues: "m slots used", "next number is 4,294,967,295"; across the end of a file "fewer than two slots are
-- free", "fewer than two numbers are left" (document 02, K1)
abbrev pub room_rows : Geometry → Call → Model → List Row
room_rows g c x = room_for g x.log (length (issues (told_of x) c))

-- a change is refused by its table, or "gives its sequence number"
abbrev pub changed : Geometry → Call → ℕ → List Row → Model → Answer
changed g c p rows x = unless c (program_rows x.log p ++ (rows ++ room_rows g c x)) (answer Returned.accepted (x.log.head.next ∷ []) [])

-- "Create and make directory take an unused object number from the caller."
abbrev pub make_rows : Volume → ℕ → List ℕ → ℕ → List Row
make_rows v d n o =
    row Returned.bad_name (is_bad (name_text_of n))
    ∷ row Returned.long_name (is_long (name_text_of n))
    ∷ row Returned.bad_number (outside v d || (outside v o || eqb o 0))
    ∷ row Returned.no_object (is_free v d)
    ∷ row Returned.wrong_kind (not (is_directory (entry_at v d)))
    ∷ row Returned.taken (not (is_absent (search v d n)) || is_used (entry_at v o))
    ∷ []

-- what is asked of an object where one was found
abbrev pub of_found : Option ℕ → (ℕ → Bool) → Bool
of_found None f = false
of_found (Some o) f = f o

-- "Remove file takes only files, remove directory only empty directories." (document 02, K4): the kind that a call takes is all that the two
-- differ in. "Refusal 9 covers the wrong choice and comes before 11."
abbrev pub remove_rows : (Entry → Bool) → Volume → ℕ → List ℕ → List Row
remove_rows takes v d n =
    row Returned.bad_name (is_bad (name_text_of n))
    ∷ row Returned.long_name (is_long (name_text_of n))
    ∷ row Returned.bad_number (outside v d)
    ∷ row Returned.no_object (is_free v d || (is_directory (entry_at v d) && is_absent (search v d n)))
    ∷ row Returned.wrong_kind (not (is_directory (entry_at v d)) || of_found (search v d n) (λ o. not (takes (entry_at v o))))
    ∷ row Returned.not_empty (of_found (search v d n) (has_children v))
    ∷ []

-- "A directory stays in its parent"; "file for directory or the reverse": the object and what it displaces are of one kind
abbrev pub wrong_rename : Volume → ℕ → ℕ → List ℕ → ℕ → Bool
wrong_rename v d e k o =
    (is_directory (entry_at v o) && not (eqb d e))
    || of_found (displaced o (search v e k)) (λ i. not (eqb (kind_number (entry_at v i)) (kind_number (entry_at v o))))

-- "Rename replaces a file by a file or an empty directory by a directory. A directory stays in its parent. Renaming to the
-- same name is logged with map 55", and "changes nothing" where that is the stored spelling (document 02, K2). 8 and 9 are judged on what
-- can be judged over both sides.
abbrev pub rename_rows : Volume → ℕ → List ℕ → ℕ → List ℕ → List Row
rename_rows v d n e k =
    row Returned.bad_name (is_bad (name_text_of n) || is_bad (name_text_of k))
    ∷ row Returned.long_name (is_long (name_text_of n) || is_long (name_text_of k))
    ∷ row Returned.bad_number (outside v d || outside v e)
    ∷ row Returned.no_object ((is_free v d || is_free v e) || (is_directory (entry_at v d) && is_absent (search v d n)))
    ∷ row Returned.wrong_kind
    ((not (is_directory (entry_at v d)) || not (is_directory (entry_at v e))) || of_found (search v d n) (wrong_rename v d e k))
    ∷ row Returned.not_empty (of_found (search v d n) (λ o. of_found (displaced o (search v e k)) (has_children v)))
    ∷ []

-- "write of 0 bytes, across blocks .., beyond length or b"; the end of the file is no bound within the block (document 02, K1)
abbrev pub bad_range : ℕ → ℕ → ℕ → ℕ → Bool
bad_range b len f n = (eqb n 0 || ltb block_bytes (f % block_bytes + n)) || (ltb len f || ltb (block_bytes * b) (f + n))

-- a file by its number: 7, 8, 9
abbrev pub file_rows : Volume → ℕ → List Row → List Row
file_rows v o l = object_rows v o ++ (row Returned.wrong_kind (not (is_file (entry_at v o))) ∷ l)

-- "Write lies in one block"
abbrev pub write_rows : ℕ → Volume → ℕ → ℕ → List ℕ → List Row
write_rows b v o f s = file_rows v o (row Returned.bad_range (bad_range b (length (contents_of (entry_at v o))) f (length s)) ∷ [])

-- "length over b × 1,024"
abbrev pub length_rows : ℕ → Volume → ℕ → ℕ → List Row
length_rows b v o f = file_rows v o (row Returned.bad_range (ltb (block_bytes * b) f) ∷ [])

-- "a length of 0, odd or over 16, or an object named twice, is a bad list"
abbrev pub bad_list : Volume → List ℕ → Bool
bad_list v s =
    (eqb (length s) 0 || (eqb (length s % 2) 1 || ltb 16 (length s)))
    || (not (different (objects_of s)) || any (outside v) (objects_of s))

-- "(forder's change to the view is none)"
abbrev pub forder_rows : Volume → List ℕ → List Row
forder_rows v s = row Returned.bad_number (bad_list v s) ∷ row Returned.no_object (any (is_free v) (objects_of s)) ∷ []

-- the table of a change
abbrev pub change_rows : Geometry → Volume → Change → List Row
change_rows g v (create_file d n o) = make_rows v d n o
change_rows g v (make_directory d n o) = make_rows v d n o
change_rows g v (remove_file d n) = remove_rows is_file v d n
change_rows g v (remove_directory d n) = remove_rows is_directory v d n
change_rows g v (rename d n e k) = rename_rows v d n e k
change_rows g v (write o f s) = write_rows g.blocks v o f s
change_rows g v (set_length o f) = length_rows g.blocks v o f
change_rows g v (forder s) = forder_rows v s
