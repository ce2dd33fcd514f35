-- The table of rename, part by part: the texts, the two sides, what was found and what it displaces. Assumes nothing.
use Rattle.returned.specs.declared.Refusal.{Refusal}
use Rattle.returned.specs.Refusal.{refusal_number, number_of}
use Rattle.returned.specs.Laws.Refusal.{refused-number, refused-some, refused-none, accepted-number}
use Rattle.session_rename.specs.declared.Move.{Move}
use Rattle.session_rename.specs.Code.Rename.{move}
use Rattle.std.proofs.Common.{subst}
use Rattle.std.specs.Prelude.{ℕ, ◌≡◌, refl, List, [], ◌∷◌, Bool, true, false, not, ◌&&◌, ◌||◌, eqb, Result, Ok, Err}
use Rattle.std.proofs.Common.{sym, ap, ◌∙◌}
use Rattle.std.specs.Prelude.{Option, None, Some}
use borrow.Author.Tests.{eqb-true, eqb-false, eq-eqb, ne_eqb}
use Rattle.returned.specs.Returned
use Rattle.names.specs.Name.{name_text_of}
use Rattle.volume_entry.specs.Entry.{is_directory, kind_number}
use Rattle.volume_tree.specs.Volume.{Volume, entry_at, search, has_children}
use Rattle.volume_apply.specs.Apply.{is_absent}
use Rattle.session.specs.Issue.{displaced}
use Rattle.session.specs.Refusal.{Row, row, lower}
use Rattle.session.specs.Model.{is_bad, is_long, outside, is_free}
use Rattle.session.specs.Edit.{of_found, wrong_rename, rename_rows}
use Rattle.session.specs.Code.Table.{first_number}
use Rattle.session.proofs.Laws.Refusal.{lower-is}
use Rattle.session_admission.specs.Code.Objects.{directory_rows}
use Rattle.session_change.specs.Laws.Change.{stops_first, goes_on}
use Rattle.session_names.specs.Code.Rows.{text_rows, found_rows, Finds}
use Rattle.session_names.specs.Laws.Row.{place-refused, place-decided}
use Rattle.session_rename.specs.Code.Rename.{move_rows, Moves}

-- Two names: the lower number of their texts.
abbrev pub texts_rows : List ℕ → List ℕ → List Row
texts_rows n s = row Returned.bad_name (is_bad (name_text_of n) || is_bad (name_text_of s)) ∷ row Returned.long_name (is_long (name_text_of n) || is_long (name_text_of s)) ∷ []

pub texts-number : (n s : List ℕ) → lower (first_number (text_rows n)) (first_number (text_rows s)) ≡ first_number (texts_rows n s)
unfolding first_number
texts-number n s = go (is_bad (name_text_of n)) (is_bad (name_text_of s)) (is_long (name_text_of n)) (is_long (name_text_of s))
  where
    go : (a b c d : Bool) → lower (first_number (row 5 a ∷ row 6 c ∷ [])) (first_number (row 5 b ∷ row 6 d ∷ [])) ≡ first_number (row 5 (a || b) ∷ row 6 (c || d) ∷ [])
    go true true c d = refl
    go true false c true = refl
    go true false c false = refl
    go false true true d = refl
    go false true false d = refl
    go false false true true = refl
    go false false true false = refl
    go false false false true = refl
    go false false false false = refl

-- The conditions that both sides of a rename have, and what is asked after the texts of its names.
abbrev none_below : Volume → ℕ → ℕ → Bool
none_below v d e = outside v d || outside v e

abbrev no_objects : Volume → ℕ → List ℕ → ℕ → Bool
no_objects v d n e = (is_free v d || is_free v e) || (is_directory (entry_at v d) && is_absent (search v d n))

abbrev no_directories : Volume → ℕ → ℕ → Bool
no_directories v d e = not (is_directory (entry_at v d)) || not (is_directory (entry_at v e))

abbrev displaces_full : Volume → ℕ → List ℕ → ℕ → List ℕ → Bool
displaces_full v d n e s = of_found (search v d n) (λ o. of_found (displaced o (search v e s)) (has_children v))

abbrev pub places_rows : Volume → ℕ → List ℕ → ℕ → List ℕ → List Row
places_rows v d n e s =
    row Returned.bad_number (none_below v d e)
    ∷ row Returned.no_object (no_objects v d n e)
    ∷ row Returned.wrong_kind (no_directories v d e || of_found (search v d n) (wrong_rename v d e s))
    ∷ row Returned.not_empty (displaces_full v d n e s)
    ∷ []

abbrev sides_rows : Volume → ℕ → List ℕ → ℕ → List Row
sides_rows v d n e =
    row Returned.bad_number (none_below v d e) ∷ row Returned.no_object (no_objects v d n e) ∷ row Returned.wrong_kind (no_directories v d e) ∷ []

-- the lower number of two directories' rows is that of both together
both-number : (a₁ a₂ a₃ b₁ b₂ b₃ : Bool) → lower (first_number (row 7 a₁ ∷ row 8 a₂ ∷ row 9 a₃ ∷ [])) (first_number (row 7 b₁ ∷ row 8 b₂ ∷ row 9 b₃ ∷ []))
    ≡ first_number (row 7 (a₁ || b₁) ∷ row 8 (a₂ || b₂) ∷ row 9 (a₃ || b₃) ∷ [])
unfolding first_number
both-number true a₂ a₃ true b₂ b₃ = refl
both-number true a₂ a₃ false true b₃ = refl
both-number true a₂ a₃ false false true = refl
both-number true a₂ a₃ false false false = refl
both-number false true a₃ true b₂ b₃ = refl
both-number false true a₃ false true b₃ = refl
both-number false true a₃ false false true = refl
both-number false true a₃ false false false = refl
both-number false false true true b₂ b₃ = refl
both-number false false true false true b₃ = refl
both-number false false true false false true = refl
both-number false false true false false false = refl
both-number false false false true b₂ b₃ = refl
both-number false false false false true b₃ = refl
both-number false false false false false true = refl
both-number false false false false false false = refl

or_swap : (a b c : Bool) → ((a || c) || b) ≡ ((a || b) || c)
or_swap true b c = refl
or_swap false true true = refl
or_swap false true false = refl
or_swap false false true = refl
or_swap false false false = refl

-- with 0 of both, both are 0
pub lower-zero : (a b : ℕ) → lower a b ≡ 0 → (a ≡ 0) × (b ≡ 0)
lower-zero a b h = let l = lower-is a b in (go a (λ z. (l.first z).1 h), go b (λ z. (l.second z).1 h))
  where
    go : (j : ℕ) → ((j ≡ 0 → ⊥) → ⊥) → j ≡ 0
    go j f = pick (eqb j 0) refl
      where
        pick : (t : Bool) → eqb j 0 ≡ t → j ≡ 0
        pick true e = eqb-true j 0 e
        pick false e = absurd (f (eqb-false j 0 e))

module _ (v : Volume) (d : ℕ) (n : List ℕ) (e : ℕ) (s : List ℕ) where
  sides-number : lower (first_number (found_rows v d n)) (first_number (directory_rows v e)) ≡ first_number (sides_rows v d n e)
  sides-number =
      both-number (outside v d) (is_free v d || (is_directory (entry_at v d) && is_absent (search v d n))) (not (is_directory (entry_at v d)))
      (outside v e) (is_free v e) (not (is_directory (entry_at v e)))
      ∙ rw (or_swap (is_free v d) (is_free v e) (is_directory (entry_at v d) && is_absent (search v d n)))

  module _ (i j : ℕ) (a : i ≡ first_number (found_rows v d n)) (b : j ≡ first_number (directory_rows v e)) (k : ℕ) (is : k ≡ lower i j) where
    whole : k ≡ first_number (sides_rows v d n e)
    whole = is ∙ rw (a, b) sides-number

    -- A number of either side refuses.
    pub places-refused : (k ≡ 0 → ⊥) → k ≡ first_number (places_rows v d n e s)
    places-refused z = place-refused (none_below v d e) (no_objects v d n e) (no_directories v d e) (of_found (search v d n) (wrong_rename v d e s)) (displaces_full v d n e s) k whole z

    -- With none, what was found decides.
    pub places-decided : k ≡ 0 → (o : ℕ) → search v d n ≡ Some o → first_number (move_rows v d e o (displaced o (search v e s))) ≡ first_number (places_rows v d n e s)
    places-decided z o h =
        ap (λ (f : Option ℕ). first_number (row 9 (of_found f (wrong_rename v d e s)) ∷ row 11 (of_found f (λ i. of_found (displaced i (search v e s)) (has_children v))) ∷ [])) (sym h)
        ∙ place-decided (none_below v d e) (no_objects v d n e) (no_directories v d e) (of_found (search v d n) (wrong_rename v d e s)) (displaces_full v d n e s) k whole z

-- What a rename displaces.
module _ (v : Volume) (o e : ℕ) (s : List ℕ) where
  pub displaces-itself : (i : ℕ) → search v e s ≡ Some i → i ≡ o → None ≡ displaced o (search v e s)
  displaces-itself i h q = rw (h, eq-eqb i o q)

  pub displaces-another : (i : ℕ) → search v e s ≡ Some i → (i ≡ o → ⊥) → Some i ≡ displaced o (search v e s)
  displaces-another i h q = rw (h, ne_eqb i o q)

  pub displaces-none : search v e s ≡ None → None ≡ displaced o (search v e s)
  displaces-none h = rw h

-- What was found and what it displaces, test by test.
module _ (v : Volume) (d e o : ℕ) where
  pub move-leaves : (t : Option ℕ) → (is_directory (entry_at v o) && not (eqb d e)) ≡ true → 9 ≡ first_number (move_rows v d e o t)
  unfolding first_number
  move-leaves t h = rw h

  module _ (stays : (is_directory (entry_at v o) && not (eqb d e)) ≡ false) where
    pub move-free : (t : Option ℕ) → ((i : ℕ) → t ≡ Some i → ⊥) → 0 ≡ first_number (move_rows v d e o t)
    unfolding first_number
    move-free (Some i) f = absurd (f i refl)
    move-free None f = rw stays

    module _ (t : ℕ) where
      pub move-mixed : (kind_number (entry_at v t) ≡ kind_number (entry_at v o) → ⊥) → 9 ≡ first_number (move_rows v d e o (Some t))
      unfolding first_number
      move-mixed q = rw (stays, ne_eqb (kind_number (entry_at v t)) (kind_number (entry_at v o)) q)

      pub move-full : kind_number (entry_at v t) ≡ kind_number (entry_at v o) → has_children v t ≡ true → 11 ≡ first_number (move_rows v d e o (Some t))
      unfolding first_number
      move-full q h = rw (stays, eq-eqb (kind_number (entry_at v t)) (kind_number (entry_at v o)) q, h)

      pub move-fine : kind_number (entry_at v t) ≡ kind_number (entry_at v o) → has_children v t ≡ false → 0 ≡ first_number (move_rows v d e o (Some t))
      unfolding first_number
      move-fine q h = rw (stays, eq-eqb (kind_number (entry_at v t)) (kind_number (entry_at v o)) q, h)

-- Rename, part by part: the texts, the two sides, and what was found.
module _ (v : Volume) (d : ℕ) (n : List ℕ) (e : ℕ) (s : List ℕ) (i j : ℕ) (first : i ≡ first_number (text_rows n)) (second : j ≡ first_number (text_rows s))
    (q : Result (Unit {0}) Refusal) (lowest : number_of q ≡ lower i j) where
  text : number_of q ≡ first_number (texts_rows n s)
  text = lowest ∙ rw (first, second) (texts-number n s)

  pub rename-text : (f : Refusal) → q ≡ Err f → Moves v d n e s (Err f)
  rename-text f w =
      record {
        number = sym (refused-number w) ∙ stops_first (texts_rows n s) (places_rows v d n e s) (number_of q) text (refused-some w);
        found = λ x z. refused-none f x z;
        displaces = λ x z. refused-none f x z;
      }

  module _ (z : number_of q ≡ 0) (p : Result ℕ Refusal) (to : ℕ) (f : Finds v d n (found_rows v d n) p) (there : to ≡ first_number (directory_rows v e)) (k : Result ℕ Refusal)
      (low : number_of k ≡ lower (number_of p) to) (own : (x : ℕ) → k ≡ Ok x → p ≡ Ok x) where
    beyond : (x : ℕ) → x ≡ first_number (places_rows v d n e s) → x ≡ first_number (rename_rows v d n e s)
    beyond x h = goes_on 0 (texts_rows n s) (places_rows v d n e s) refl (number_of q) x text z h

    pub rename-place : (r : Refusal) → k ≡ Err r → Moves v d n e s (Err r)
    rename-place r w =
        record {
          number = sym (refused-number w) ∙ beyond (number_of k) (places-refused v d n e s (number_of p) to f.number there (number_of k) low (refused-some w));
          found = λ x y. refused-none r x y;
          displaces = λ x y. refused-none r x y;
        }

    module _ (o : ℕ) (w : k ≡ Ok o) where
      pub rename-found : search v d n ≡ Some o
      rename-found = f.found o (own o w)

      -- the number of what was found and what it displaces is the rename's
      pub rename-number : (r : Option ℕ) → r ≡ displaced o (search v e s) → (x : ℕ) → x ≡ first_number (move_rows v d e o r) → x ≡ first_number (rename_rows v d n e s)
      rename-number r h x g =
          let moves = ap (λ (w : Option ℕ). first_number (move_rows v d e o w)) h in
          beyond x (g ∙ moves ∙ places-decided v d n e s (number_of p) to f.number there (number_of k) low (accepted-number w) o rename-found)

      pub rename-refused : (r : Option ℕ) → r ≡ displaced o (search v e s) → (a : Refusal) → refusal_number a ≡ first_number (move_rows v d e o r) → Moves v d n e s (Err a)
      rename-refused r h a g = record { number = rename-number r h (refusal_number a) g; found = λ x y. refused-none a x y; displaces = λ x y. refused-none a x y }

      pub rename-moved : (r : Option ℕ) → r ≡ displaced o (search v e s) → 0 ≡ first_number (move_rows v d e o r) → Moves v d n e s (Ok (move o r))
      rename-moved r h g =
          record {
            number = rename-number r h 0 g;
            found = λ x y. let m : move o r ≡ x = cc in subst (λ (x : Move). search v d n ≡ Some x.object) m rename-found;
            displaces = λ x y. let m : move o r ≡ x = cc in subst (λ (x : Move). x.displaced ≡ displaced x.object (search v e s)) m h;
          }
