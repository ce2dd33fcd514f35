-- Document 01, "Calls": what stat, read and list answer and leave in their buffers, with the returned number of each answer.
use Rattle.volume_questions.specs.declared.object.ObjectError.TheVariants.{BadNumber, NoObject}
use Rattle.std.specs.Prelude.{ℕ, List, [], ◌∷◌, cond, length, take, drop, ltb, Result, Ok, Err}
use Rattle.returned.specs.Returned
use Rattle.buffer.specs.Patch.{patch}
use Rattle.volume_entry.specs.Entry.{Entry, is_used, is_file, kind_number, contents_of, usage}
use Rattle.volume_tree.specs.Volume.{Volume, entry_at}
use Rattle.volume_questions.specs.Listing.{listing}
use Rattle.volume_questions.specs.declared.object.ObjectKind.{ObjectKind}
use Rattle.volume_questions.specs.declared.object.ObjectError.{ObjectError}
use Rattle.volume_questions.specs.declared.object.ObjectKind.TheVariants.{File, Directory}
use Rattle.volume_questions.specs.declared.object.Stat.{Stat}
use Rattle.volume_questions.specs.declared.reading.ReadError.{ReadError}
use Rattle.volume_questions.specs.declared.reading.ReadError.TheVariants.{BadNumber as ReadBadNumber, NoObject as ReadNoObject, WrongKind as ReadWrongKind, BadRange}
use Rattle.volume_questions.specs.declared.listing.ListError.{ListError}
use Rattle.volume_questions.specs.declared.listing.ListError.TheVariants.{BadNumber as ListBadNumber, NoObject as ListNoObject, WrongKind as ListWrongKind, Short}

-- "7 Bad number: object n or more", "8 No object: entry free"
abbrev pub object_of : Entry → Result ObjectKind ObjectError
object_of e = cond (is_used e) (cond (is_file e) (Ok File) (Ok Directory)) (Err NoObject)

unfoldable pub object_answer : Volume → ℕ → Result ObjectKind ObjectError
object_answer v o = cond (ltb o (length v)) (object_of (entry_at v o)) (Err BadNumber)

-- "stat (kind, length, usage)"
abbrev pub stat : ℕ → ℕ → ℕ → Stat
stat k l u = record { kind = k; len = l; usage = u }

abbrev pub stat_of : Result ObjectKind ObjectError → Entry → Result Stat ObjectError
stat_of (Err BadNumber) e = Err BadNumber
stat_of (Err NoObject) e = Err NoObject
stat_of (Ok File) e = (Ok (stat (kind_number e) (length (contents_of e)) (usage (length (contents_of e)))))
stat_of (Ok Directory) e = (Ok (stat (kind_number e) (length (contents_of e)) (usage (length (contents_of e)))))

unfoldable pub stat_answer : Volume → ℕ → Result Stat ObjectError
stat_answer v o = stat_of (object_answer v o) (entry_at v o)

-- the returned number of what an object's number names
abbrev pub object_number : Result ObjectKind ObjectError → ℕ
object_number (Ok File) = Returned.accepted
object_number (Ok Directory) = Returned.accepted
object_number (Err BadNumber) = Returned.bad_number
object_number (Err NoObject) = Returned.no_object

-- the results besides the returned number: "The other results of a refusal are 0"
abbrev pub stat_results : Result Stat ObjectError → List ℕ
stat_results (Ok t) = t.kind ∷ t.len ∷ t.usage ∷ []
stat_results (Err BadNumber) = 0 ∷ 0 ∷ 0 ∷ []
stat_results (Err NoObject) = 0 ∷ 0 ∷ 0 ∷ []

abbrev pub stat_number : Result Stat ObjectError → ℕ
stat_number (Ok t) = Returned.accepted
stat_number (Err BadNumber) = object_number (Err BadNumber)
stat_number (Err NoObject) = object_number (Err NoObject)

-- "9 Wrong kind: file for directory or the reverse", "12 Bad range: .. read offset beyond length"; "Read gives the smaller
-- of the buffer length and what follows the offset"
abbrev pub read_of : Result ObjectKind ObjectError → List ℕ → ℕ → List ℕ → Result ℕ ReadError
read_of (Err BadNumber) c f own = Err ReadBadNumber
read_of (Err NoObject) c f own = Err ReadNoObject
read_of (Ok Directory) c f own = Err ReadWrongKind
read_of (Ok File) c f own = cond (ltb (length c) f) (Err BadRange) (Ok (length (take (length own) (drop f c))))

unfoldable pub read_answer : Volume → ℕ → ℕ → List ℕ → Result ℕ ReadError
read_answer v o f own = read_of (object_answer v o) (contents_of (entry_at v o)) f own

-- "other bytes stay"
abbrev pub read_left : Result ℕ ReadError → List ℕ → List ℕ → List ℕ
read_left (Ok k) s own = patch own 0 s
read_left (Err ReadBadNumber) s own = own
read_left (Err ReadNoObject) s own = own
read_left (Err ReadWrongKind) s own = own
read_left (Err BadRange) s own = own

unfoldable pub read_leaves : Volume → ℕ → ℕ → List ℕ → List ℕ
read_leaves v o f own = read_left (read_answer v o f own) (take (length own) (drop f (contents_of (entry_at v o)))) own

abbrev pub read_results : Result ℕ ReadError → List ℕ
read_results (Ok k) = k ∷ []
read_results (Err ReadBadNumber) = 0 ∷ []
read_results (Err ReadNoObject) = 0 ∷ []
read_results (Err ReadWrongKind) = 0 ∷ []
read_results (Err BadRange) = 0 ∷ []

abbrev pub read_number : Result ℕ ReadError → ℕ
read_number (Ok k) = Returned.accepted
read_number (Err ReadBadNumber) = object_number (Err BadNumber)
read_number (Err ReadNoObject) = object_number (Err NoObject)
read_number (Err ReadWrongKind) = Returned.wrong_kind
read_number (Err BadRange) = Returned.bad_range

-- "19 Short buffer: list does not fit"
abbrev pub list_of : Result ObjectKind ObjectError → List ℕ → List ℕ → Result ℕ ListError
list_of (Err BadNumber) s own = Err ListBadNumber
list_of (Err NoObject) s own = Err ListNoObject
list_of (Ok File) s own = Err ListWrongKind
list_of (Ok Directory) s own = cond (ltb (length own) (length s)) (Err Short) (Ok (length s))

unfoldable pub list_answer : Volume → ℕ → List ℕ → Result ℕ ListError
list_answer v o own = list_of (object_answer v o) (listing v o (length v)) own

-- "List and take also fill their buffer from the start and leave the rest."
abbrev pub list_left : Result ℕ ListError → List ℕ → List ℕ → List ℕ
list_left (Ok k) s own = patch own 0 s
list_left (Err ListBadNumber) s own = own
list_left (Err ListNoObject) s own = own
list_left (Err ListWrongKind) s own = own
list_left (Err Short) s own = own

unfoldable pub list_leaves : Volume → ℕ → List ℕ → List ℕ
list_leaves v o own = list_left (list_answer v o own) (listing v o (length v)) own

abbrev pub list_results : Result ℕ ListError → List ℕ
list_results (Ok k) = k ∷ []
list_results (Err ListBadNumber) = 0 ∷ []
list_results (Err ListNoObject) = 0 ∷ []
list_results (Err ListWrongKind) = 0 ∷ []
list_results (Err Short) = 0 ∷ []

abbrev pub list_number : Result ℕ ListError → ℕ
list_number (Ok k) = Returned.accepted
list_number (Err ListBadNumber) = object_number (Err BadNumber)
list_number (Err ListNoObject) = object_number (Err NoObject)
list_number (Err ListWrongKind) = Returned.wrong_kind
list_number (Err Short) = Returned.short_buffer
