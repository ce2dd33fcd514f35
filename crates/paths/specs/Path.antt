-- Document 01, "Names and paths": the text of a path, and its components.
use Rattle.std.specs.Prelude.{ℕ, List, [], ◌∷◌, ◌++◌, ◌&&◌, cond, length, get_or, drop, leb, eqb, Option, None, Some}
use Rattle.returned.specs.Returned
use Rattle.paths.specs.declared.PathText.{PathText}
use Rattle.paths.specs.declared.PathText.TheVariants.{Root, Components}

-- "A path has 1..1,023 bytes and starts with a slash; "/" is the root."
unfoldable pub path_text_of : List ℕ → Option PathText
path_text_of p =
    cond (leb 1 (length p) && (leb (length p) 1023 && eqb (get_or p 0 0) 47))
    (cond (eqb (length p) 1) (Some Root) (Some Components))
    None

-- the returned number of each answer, before any component is looked at
abbrev pub path_number : Option PathText → ℕ
path_number None = Returned.bad_name
path_number (Some Root) = Returned.accepted
path_number (Some Components) = Returned.accepted

-- the bytes before the first slash, all of them where there is none
unfoldable pub up_to_slash : List ℕ → List ℕ
up_to_slash [] = []
up_to_slash (b ∷ bs) = cond (eqb b 47) [] (b ∷ up_to_slash bs)

-- "each component is handed out as a part of the caller's path": the part that begins at a place
unfoldable pub component_at : List ℕ → ℕ → List ℕ
component_at p at = up_to_slash (drop at p)

-- a byte put in front of the first of some components
unfoldable pub on_first : ℕ → List (List ℕ) → List (List ℕ)
on_first b [] = (b ∷ []) ∷ []
on_first b (c ∷ cs) = (b ∷ c) ∷ cs

-- a text cut at each slash: "Doubled and trailing slashes give an empty name"
unfoldable pub split : List ℕ → List (List ℕ)
split [] = [] ∷ []
split (b ∷ bs) = cond (eqb b 47) ([] ∷ split bs) (on_first b (split bs))

-- the components of a path that is not the root alone: what stands after its leading slash, cut at each slash
unfoldable pub components : List ℕ → List (List ℕ)
components p = split (drop 1 p)

-- each component behind a slash
unfoldable pub joined : List (List ℕ) → List ℕ
joined [] = []
joined (c ∷ cs) = 47 ∷ (c ++ joined cs)
