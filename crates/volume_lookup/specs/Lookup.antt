-- Document 01, "Names and paths" and "Calls": where a path leads, and lookup's operands.
use Rattle.volume_lookup.specs.declared.lookup.LookupError.TheVariants.{BadName, LongName, NoObject, WrongKind}
use Rattle.volume_lookup.specs.declared.lookup.LookupError.{LookupError}
use Rattle.std.specs.Prelude.{ℕ, List, [], ◌∷◌, cond, Result, Ok, Err}
use Rattle.std.specs.Prelude.{Option, None, Some}
use Rattle.returned.specs.Returned
use Rattle.names.specs.declared.NameError.{NameError}
use Rattle.names.specs.declared.NameError.TheVariants.{Bad, Long}
use Rattle.paths.specs.declared.PathText.{PathText}
use Rattle.paths.specs.declared.PathText.TheVariants.{Root, Components}
use Rattle.names.specs.Name.{name_text_of, name_number}
use Rattle.paths.specs.Path.{path_text_of, components}
use Rattle.volume_entry.specs.Entry.{is_directory}
use Rattle.volume_tree.specs.Volume.{Volume, entry_at, search}
use Rattle.volume_tree.specs.Answer.{found_number}

-- "a name to be found is absent"
abbrev pub sought_answer : Option ℕ → Result ℕ LookupError
sought_answer None = Err NoObject
sought_answer (Some i) = Ok i

-- a component's "text checked and then looked up"
abbrev pub checked_answer : Result (Unit {0}) NameError → Result ℕ LookupError → Result ℕ LookupError
checked_answer (Ok x) next = next
checked_answer (Err Bad) next = Err BadName
checked_answer (Err Long) next = Err LongName

-- one component in an object: "A name is sought only in a directory; seeking one in a file gives 9 and not 8"
unfoldable pub component_answer : Volume → ℕ → List ℕ → Result ℕ LookupError
component_answer v o c = checked_answer (name_text_of c) (cond (is_directory (entry_at v o)) (sought_answer (search v o c)) (Err WrongKind))

-- the answer after one component: what comes next from the object found, or its refusal
abbrev pub next_answer : Result ℕ LookupError → (ℕ → Result ℕ LookupError) → Result ℕ LookupError
next_answer (Ok i) next = next i
next_answer (Err BadName) next = Err BadName
next_answer (Err LongName) next = Err LongName
next_answer (Err NoObject) next = Err NoObject
next_answer (Err WrongKind) next = Err WrongKind

-- components one after another, each "its text checked and then looked up, before the next"
unfoldable pub components_answer : Volume → ℕ → List (List ℕ) → Result ℕ LookupError
components_answer v o [] = Ok o
components_answer v o (c ∷ cs) = next_answer (component_answer v o c) (λ i. components_answer v i cs)

-- ""/" is the root. Otherwise each component .."
abbrev pub path_answer : Option PathText → Result ℕ LookupError → Result ℕ LookupError
path_answer None next = Err BadName
path_answer (Some Root) next = Ok 0
path_answer (Some Components) next = next

-- the object that a path leads to, or the first refusal by component
unfoldable pub lookup_answer : Volume → List ℕ → Result ℕ LookupError
lookup_answer v path = path_answer (path_text_of path) (components_answer v 0 (components path))

-- the object that one component leads to, and those that come next; none at a refusal
abbrev pub next_objects : Result ℕ LookupError → (ℕ → List ℕ) → List ℕ
next_objects (Ok i) next = i ∷ next i
next_objects (Err BadName) next = []
next_objects (Err LongName) next = []
next_objects (Err NoObject) next = []
next_objects (Err WrongKind) next = []

-- the objects that components lead to one after another, up to the first refusal
unfoldable pub components_objects : Volume → ℕ → List (List ℕ) → List ℕ
components_objects v o [] = []
components_objects v o (c ∷ cs) = next_objects (component_answer v o c) (λ i. components_objects v i cs)

abbrev pub path_objects : Option PathText → List ℕ → List ℕ
path_objects None next = []
path_objects (Some Root) next = 0 ∷ []
path_objects (Some Components) next = 0 ∷ next

-- "Lookup's operands are the directories it searches and the object found"; of a path that is refused, those met before
unfoldable pub lookup_operands : Volume → List ℕ → List ℕ
lookup_operands v path = path_objects (path_text_of path) (components_objects v 0 (components path))

-- the returned number of each answer
abbrev pub reached_number : Result ℕ LookupError → ℕ
reached_number (Ok o) = found_number (Some o)
reached_number (Err BadName) = name_number (Err Bad)
reached_number (Err LongName) = name_number (Err Long)
reached_number (Err NoObject) = found_number None
reached_number (Err WrongKind) = Returned.wrong_kind

-- "Lookup .. gives an object number"; "The other results of a refusal are 0"
abbrev pub reached_results : Result ℕ LookupError → List ℕ
reached_results (Ok o) = o ∷ []
reached_results (Err BadName) = 0 ∷ []
reached_results (Err LongName) = 0 ∷ []
reached_results (Err NoObject) = 0 ∷ []
reached_results (Err WrongKind) = 0 ∷ []
