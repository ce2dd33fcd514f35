-- `volume_lookup::lookup::seek` meets its contract: the text, the kind of the object and the search settle the answer of `component_answer`.
-- Assumes nothing.
use Rattle.volume_lookup.specs.declared.lookup.LookupError.TheVariants.{NoObject, WrongKind}
use Rattle.std.specs.Prelude.{None, Some, Ok, Err}
use Prim.Native.Nat.{ℕ}
use mathlib.Core.Bool.{Bool, true, false}
use mathlib.Core.List.{List}
use mathlib.Core.Path.{◌≡◌, sym}
use Rattle.names.specs.Name.{name_text_of}
use Rattle.volume_entry.specs.Entry.{Entry, is_directory}
use Rattle.volume_entry.specs.Stored.{read_entry}
use Rattle.volume_tree.specs.Volume.{Volume, entry_at, search as search_in}
use Rattle.volume_tree.specs.Stored.{read_volume}
use Rattle.volume_tree.specs.Laws.Lent.{entry-long}
use Rattle.volume_tree.specs.Laws.Answer.{found_at, found_nothing}
use Rattle.volume_lookup.specs.Lookup.{component_answer}
use Rattle.volume_lookup.proofs.lookup.seek.Goals as goal

-- the answer to a text that is fine, in an object that is a directory or not
module _ (v : Volume) (o : ℕ) (c : List ℕ) (t : name_text_of c ≡ Ok tt) (e : Entry) (q : e ≡ entry_at v o) (d : Bool) (k : d ≡ is_directory e) where
  module _ (y : d ≡ true) where
    there : (i : ℕ) → Some i ≡ ((search_in v o c)) → Ok i ≡ component_answer v o c
    unfolding component_answer
    there i f = rw (t, ← q, ← k, y, found_at (search_in v o c) i f)

    nowhere : None ≡ ((search_in v o c)) → Err NoObject ≡ component_answer v o c
    unfolding component_answer
    nowhere f = rw (t, ← q, ← k, y, found_nothing (search_in v o c) f)

  no-directory : d ≡ false → Err WrongKind ≡ component_answer v o c
  unfolding component_answer
  no-directory y = rw (t, ← q, ← k, y)

pub entry-requires : goal.entry-requires
entry-requires c = record { lent = c.requires.lent; i_lt_n = c.requires.o_lt_n }

pub is_directory-requires : goal.is_directory-requires
is_directory-requires c = entry-long c.entry.ensures

pub search-requires : goal.search-requires
search-requires c =
    c.requires.lent

pub returns-in-Err-Bad : goal.returns-in-Err-Bad
unfolding component_answer
returns-in-Err-Bad c = rw (sym c.name_text.ensures, c.in-Err-Bad.is, c.in-Err-Bad.field-0-is)

pub returns-in-Err-Long : goal.returns-in-Err-Long
unfolding component_answer
returns-in-Err-Long c = rw (sym c.name_text.ensures, c.in-Err-Long.is, c.in-Err-Long.field-0-is)

pub returns-in-Some : goal.returns-in-Some
returns-in-Some c =
    let a = c.args in
    there (read_volume a.n a.b a.s.now) a.o a.text.now (sym c.in-Ok.ensures)
    (read_entry c.entry.result.now) c.entry.ensures.tells
    c.is_directory.result c.is_directory.ensures c.if-is_directory.true
    c.in-Some.i c.in-Some.ensures

pub returns-in-None : goal.returns-in-None
returns-in-None c =
    let a = c.args in
    nowhere (read_volume a.n a.b a.s.now) a.o a.text.now (sym c.in-Ok.ensures)
    (read_entry c.entry.result.now) c.entry.ensures.tells
    c.is_directory.result c.is_directory.ensures c.if-is_directory.true
    c.in-None.ensures

pub returns-else-is_directory : goal.returns-else-is_directory
returns-else-is_directory c =
    let a = c.args in
    no-directory (read_volume a.n a.b a.s.now) a.o a.text.now (sym c.in-Ok.ensures)
    (read_entry c.entry.result.now) c.entry.ensures.tells
    c.is_directory.result c.is_directory.ensures c.if-is_directory.false
