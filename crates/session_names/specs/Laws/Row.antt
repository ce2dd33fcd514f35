-- A name's text, the object that a name leads to, and what is asked behind these, as the tables of the calls on names have them.
-- Assumes nothing.
use Rattle.std.specs.Prelude.{ℕ, ◌<◌, ◌≡◌, List, [], ◌∷◌, Bool, not, ◌&&◌, ◌||◌, length, Result, Ok, Err, cond, eqb}
use Rattle.std.proofs.Common.{arith, ◌∙◌, eqb-true}
use Rattle.std.proofs.Math.Path.{refl, sym, ap}
use Rattle.std.proofs.Math.Bool.{true, false}
use Rattle.std.specs.Prelude.{Option, None, Some}
use Rattle.returned.specs.Returned
use Rattle.names.specs.declared.NameError.{NameError}
use Rattle.names.specs.declared.NameError.TheVariants.{Bad, Long}
use Rattle.names.specs.Name.{name_text_of, name_number}
use Rattle.volume_entry.specs.Entry.{is_directory}
use Rattle.volume_tree.specs.Volume.{Volume, entry_at, search}
use Rattle.volume_tree.specs.Laws.Search.{search-found, named-inv}
use Rattle.volume_apply.specs.Apply.{is_absent}
use Rattle.session.specs.Refusal.{row, lower}
use Rattle.session.specs.Model.{is_bad, is_long, outside, is_free}
use Rattle.session.specs.Code.Table.{first_number}
use Rattle.session_admission.specs.Code.Objects.{directory_rows}
use Rattle.session_names.specs.Code.Rows.{text_rows, found_rows}

-- A text's rows give the number of the text.
pub text-number : (n : List ℕ) → name_number (name_text_of n) ≡ first_number (text_rows n)
unfolding first_number
text-number n = go (name_text_of n)
  where
    go : (t : Result (Unit {0}) NameError) → name_number t ≡ first_number (row Returned.bad_name (is_bad t) ∷ row Returned.long_name (is_long t) ∷ [])
    go (Ok x) = refl
    go (Err Bad) = refl
    go (Err Long) = refl

-- Beside 0, which is none, a number is the lower one.
pub lower-second : (k : ℕ) → lower k 0 ≡ k
lower-second k = go (eqb k 0) refl
  where
    go : (b : Bool) → eqb k 0 ≡ b → cond b 0 k ≡ k
    go true e = sym (eqb-true k 0 e)
    go false e = refl

-- A name that is to be found in a directory: the directory's number refuses, or the search decides.
module _ (v : Volume) (d : ℕ) (n : List ℕ) (k : ℕ) (e : k ≡ first_number (directory_rows v d)) where
  pub found-refused : (k ≡ 0 → ⊥) → k ≡ first_number (found_rows v d n)
  unfolding first_number
  found-refused z = sym (go (outside v d) (is_free v d) (is_directory (entry_at v d)) (is_absent (search v d n)) (sym e))
    where
      go : (o f t a : Bool) → first_number (row 7 o ∷ row 8 f ∷ row 9 (not t) ∷ []) ≡ k → first_number (row 7 o ∷ row 8 (f || (t && a)) ∷ row 9 (not t) ∷ []) ≡ k
      go true f t a h = h
      go false true t a h = h
      go false false false a h = h
      go false false true a h = absurd (z (sym h))

  found-decided : k ≡ 0 → first_number (found_rows v d n) ≡ first_number (row 8 (is_absent (search v d n)) ∷ [])
  unfolding first_number
  found-decided z = go (outside v d) (is_free v d) (is_directory (entry_at v d)) (is_absent (search v d n)) (sym e ∙ z)
    where
      go : (o f t a : Bool) → first_number (row 7 o ∷ row 8 f ∷ row 9 (not t) ∷ []) ≡ 0
          → first_number (row 7 o ∷ row 8 (f || (t && a)) ∷ row 9 (not t) ∷ []) ≡ first_number (row 8 a ∷ [])
      go true f t a h = absurd (omega arith)
      go false true t a h = absurd (omega arith)
      go false false false a h = absurd (omega arith)
      go false false true a h = refl

  pub found-absent : k ≡ 0 → search v d n ≡ None → 8 ≡ first_number (found_rows v d n)
  unfolding first_number
  found-absent z h = sym (found-decided z ∙ ap (λ (f : Option ℕ). first_number (row 8 (is_absent f) ∷ [])) h)

  pub found-there : k ≡ 0 → (i : ℕ) → search v d n ≡ Some i → 0 ≡ first_number (found_rows v d n)
  unfolding first_number
  found-there z i h = sym (found-decided z ∙ ap (λ (f : Option ℕ). first_number (row 8 (is_absent f) ∷ [])) h)

-- A place, and what is asked of what was found there: a number of the place refuses, and with none what was found decides.
module _ (p q r w x : Bool) (k : ℕ) (e : k ≡ first_number (row 7 p ∷ row 8 q ∷ row 9 r ∷ [])) where
  pub place-refused : (k ≡ 0 → ⊥) → k ≡ first_number (row 7 p ∷ row 8 q ∷ row 9 (r || w) ∷ row 11 x ∷ [])
  unfolding first_number
  place-refused z = go p q r e
    where
      go : (a b c : Bool) → k ≡ first_number (row 7 a ∷ row 8 b ∷ row 9 c ∷ []) → k ≡ first_number (row 7 a ∷ row 8 b ∷ row 9 (c || w) ∷ row 11 x ∷ [])
      go true b c h = h
      go false true c h = h
      go false false true h = h
      go false false false h = absurd (z h)

  pub place-decided : k ≡ 0 → first_number (row 9 w ∷ row 11 x ∷ []) ≡ first_number (row 7 p ∷ row 8 q ∷ row 9 (r || w) ∷ row 11 x ∷ [])
  unfolding first_number
  place-decided z = go p q r (sym e ∙ z)
    where
      go : (a b c : Bool) → first_number (row 7 a ∷ row 8 b ∷ row 9 c ∷ []) ≡ 0
          → first_number (row 9 w ∷ row 11 x ∷ []) ≡ first_number (row 7 a ∷ row 8 b ∷ row 9 (c || w) ∷ row 11 x ∷ [])
      go true b c h = absurd (omega arith)
      go false true c h = absurd (omega arith)
      go false false true h = absurd (omega arith)
      go false false false h = refl

-- What a search finds is an object of the volume, and not the root.
pub found-object : (v : Volume) (d : ℕ) (n : List ℕ) (i : ℕ) → search v d n ≡ Some i → (i < length v) × (i ≡ 0 → ⊥)
found-object v d n i h = let f = search-found v d n i h in (f.1, (named-inv v d n i f.0).other)
