-- What stat tells besides the returned number: "stat (kind, length, usage)".
use Rattle.std.specs.Prelude.{ℕ, List, [], ◌∷◌, Result, Ok, Err}
use Rattle.returned.specs.declared.Refusal.{Refusal}
use Rattle.volume_questions.specs.declared.object.Stat.{Stat}

-- "The other results of a refusal are 0"
abbrev pub status_or0 : Result Stat Refusal → List ℕ
status_or0 (Ok t) = t.kind ∷ t.len ∷ t.usage ∷ []
status_or0 (Err r) = 0 ∷ 0 ∷ 0 ∷ []
