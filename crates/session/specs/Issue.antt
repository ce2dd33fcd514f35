-- Document 01, "Calls": the operations that a change or forder issues, completed from what it is told.
use Rattle.std.specs.Prelude.{ℕ, ◌-◌, List, [], ◌∷◌, ◌++◌, cond, length, eqb}
use Rattle.std.specs.Prelude.{Option, None, Some}
use Rattle.std.proofs.Math.ListN
use Rattle.record.specs.Operation.{Operation}
use Rattle.record.specs.Fields.{objects_of}
use Rattle.volume_entry.specs.Entry.{contents_of}
use Rattle.volume_tree.specs.Volume.{Volume, entry_at, search}
use Rattle.session.specs.Told.{Told}
use Rattle.session.specs.Class.{Change, create_file, make_directory, remove_file, remove_directory, rename, write, set_length, forder}
use Rattle.session.specs.Call.{Call, question, change, link, recovery}

-- the object that a rename displaces: what its second name leads to, unless that is the object itself
abbrev pub displaced : ℕ → Option ℕ → Option ℕ
displaced o None = None
displaced o (Some i) = cond (eqb i o) None (Some i)

-- the operation on the object that was found; none where nothing was, which no accepted call meets
abbrev pub on_found : Option ℕ → (ℕ → Operation) → List Operation
on_found None f = []
on_found (Some o) f = f o ∷ []

-- the operation that writes some bytes; none where there are none
abbrev pub on_bytes : List ℕ → (List ℕ → Operation) → List Operation
on_bytes [] f = []
on_bytes (a ∷ s) f = f (a ∷ s) ∷ []

-- "wholly inside the length (overwrite) or beginning at the length (append)"; across the end of the file "an overwrite and then an
-- append" (document 02, K1): an overwrite of the bytes up to the length, and an append of the rest at the length
abbrev pub writes_at : ℕ → ℕ → ℕ → List ℕ → List Operation
writes_at len o f s =
    on_bytes (ListN.take (len - f) s) (λ t. Operation.overwrite o f t) ++ on_bytes (ListN.drop (len - f) s) (λ t. Operation.append o len t)

abbrev pub writes : Volume → ℕ → ℕ → List ℕ → List Operation
writes v o f s = writes_at (length (contents_of (entry_at v o))) o f s

-- "Kind 3 stays in the record" (document 02, K4): a file or a directory, one operation removes what the name leads to
abbrev pub removes : Volume → ℕ → List ℕ → List Operation
removes v d n = on_found (search v d n) (λ o. Operation.remove o d n)

-- the operations that a change is
abbrev pub operations_of : Told → Change → List Operation
operations_of t (create_file d n o) = Operation.create_file o d n ∷ []
operations_of t (make_directory d n o) = Operation.make_directory o d n ∷ []
operations_of t (remove_file d n) = removes t.view d n
operations_of t (remove_directory d n) = removes t.view d n
operations_of t (rename d n e k) = on_found (search t.view d n) (λ o. Operation.rename o d e (displaced o (search t.view e k)) n k)
operations_of t (write o f s) = writes t.view o f s
operations_of t (set_length o f) = Operation.set_length o f ∷ []
operations_of t (forder s) = Operation.forder (objects_of s) ∷ []

-- the operations that a call issues where it is accepted
abbrev pub issues : Told → Call → List Operation
issues t (question p q) = []
issues t (change i c) = operations_of t c
issues t (link l) = []
issues t (recovery p l) = []
