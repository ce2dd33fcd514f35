-- Document 02, K4, "Remove becomes two calls": what a remove meets, and what it took.
use Rattle.std.specs.Prelude.{ℕ, ◌≡◌, List, Bool, true, false, ltb, Ok}
use Rattle.std.specs.Prelude.{Some}
use Rattle.names.specs.Name.{name_text_of}
use Rattle.volume_entry.specs.Entry.{Entry, is_directory}
use Rattle.volume_tree.specs.Volume.{entry_at, search, has_children}
use Rattle.session.specs.Model.{Model, is_marked, outside}

-- no number below 9 refuses a remove, and its name leads to an object; the log may be full and the numbers spent
pub record Leads (x : Model) (p d : ℕ) (n : List ℕ) (o : ℕ) : Type 0 where
  pub program : ltb p 32 ≡ true
  pub unmarked : (is_marked x.log p).holds ≡ false
  pub text : name_text_of n ≡ Ok tt
  pub number : outside x.view d ≡ false
  pub parent : is_directory (entry_at x.view d) ≡ true
  pub found : search x.view d n ≡ Some o

-- an object that a remove may take: of the kind that the call takes, and without children
pub record Removable (x : Model) (takes : Entry → Bool) (d : ℕ) (n : List ℕ) : Type 0 where
  pub object : ℕ
  pub found : search x.view d n ≡ Some object
  pub kind : takes (entry_at x.view object) ≡ true
  pub empty : has_children x.view object ≡ false
