-- What the code's answers say: of an entry from its bytes, and of what a search found.
-- Assumes nothing.
use Rattle.std.specs.Prelude.{ℕ, ◌≡◌, refl, List}
use Rattle.std.proofs.Common.{sym, ap, ◌∙◌, arith}
use Rattle.std.specs.Prelude.{Option, None, Some}
use Rattle.volume_entry.specs.Entry.{Entry}
use Rattle.volume_entry.specs.Stored.{read_entry}
use Rattle.volume_tree.specs.Volume.{entry_at}
use Rattle.volume_tree.specs.Stored.{read_volume}
use Rattle.volume_tree.specs.Code.Lent.{IsEntry}

-- What an answer is, and what the contract says of it, are the same.
pub settled : {A : Type 0} {r x y : A} → r ≡ x → r ≡ y → x ≡ y
settled e h = sym e ∙ h

-- An answer from an entry's bytes is the answer of the entry.
pub of_entry : {A : Type 0} {n b i : ℕ} {s e : List ℕ} (f : Entry → A) → IsEntry n b s i e → {r : A} → r ≡ f (read_entry e) → r ≡ f (entry_at (read_volume n b s) i)
of_entry f h q = q ∙ ap f h.tells

-- An object in the answer is the one that was found.
pub found_at : (x : Option ℕ) (i : ℕ) → Some i ≡ x → x ≡ Some i
found_at None i e = let z : ◌≡◌ {A = ℕ} 0 1 = cc in absurd (omega arith)
found_at (Some j) i e = cc

-- Where the answer has none, nothing was found.
pub found_nothing : (x : Option ℕ) → None ≡ x → x ≡ None
found_nothing None e = refl
found_nothing (Some j) e = let z : ◌≡◌ {A = ℕ} 0 1 = cc in absurd (omega arith)
