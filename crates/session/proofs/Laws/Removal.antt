-- The two removes (document 02, K4): on any volumes and any log one that finds an object of the other kind is refused with 9, whatever else is
-- amiss with it; on those of the right form an accepted one took an object of its kind, without children. Assumes nothing.
use Rattle.std.specs.Prelude.{ℕ, ◌≡◌, List, [], ◌∷◌, ◌++◌, Bool, eqb}
use Rattle.std.proofs.Common.{arith, ap, ◌∙◌, subst, eqb-true}
use Rattle.std.proofs.Math.Path.{refl, sym}
use Rattle.std.proofs.Math.Bool.{true, false, not, false≢true, and-eq-true_iff}
use Rattle.std.specs.Prelude.{Option, None, Some}
use Rattle.std.proofs.lemmas.Bool.{eqb-false, not-true, not-false}
use Rattle.returned.specs.Returned
use Rattle.volume_entry.specs.Entry.{Entry, is_file, is_directory, has_name}
use Rattle.volume_entry.specs.Laws.Entry.{directory-used, file-no-directory, directory-no-file}
use Rattle.volume_tree.specs.Volume.{Volume, entry_at, is_child, search, has_children}
use Rattle.volume_tree.specs.Form.{well_formed}
use Rattle.volume_tree.specs.Laws.Search.{no-children}
use Rattle.volume_tree.specs.Laws.Change.{well-formed-sound}
use Rattle.session.specs.Call.{Geometry, Issuer, Call, remove_file, remove_directory, refusal}
use Rattle.session.specs.Refusal.{row}
use Rattle.session.specs.Model.{Model, program_rows, told_of}
use Rattle.session.specs.Issue.{removes, issues}
use Rattle.session.specs.Edit.{room_rows, changed, remove_rows, of_found}
use Rattle.session.specs.Step.{answer_of}
use Rattle.session.specs.Removal.{Leads, Removable}
use Rattle.session.specs.Code.Table.{first_number}
use Rattle.session.proofs.Laws.Possible.{Sound}
use Rattle.session.proofs.Laws.Refusal.{neither}
use Rattle.session.proofs.Laws.Edit.{change-passed, remove-accepted}
use Rattle.session.proofs.Laws.Table.{first-lowest, unless-refuses, unless-number}

-- in a well-formed volume a file has no children
file-childless : (n b : ℕ) (v : Volume) → well_formed n b v ≡ true → (o : ℕ) → is_file (entry_at v o) ≡ true → has_children v o ≡ false
file-childless n b v w o h = no-children v o (λ i lt. go i (is_child v o i) refl)
  where
    go : (i : ℕ) (t : Bool) → is_child v o i ≡ t → t ≡ false
    go i true e =
        let a = (and-eq-true_iff (not (eqb i 0)) _).0 e in
        let u = (and-eq-true_iff (has_name (entry_at v i)) _).0 a.1 in
        let dir = (well-formed-sound n b v w).parent i (eqb-false i 0 (not-true _ a.0)) u.0 in
        let here : is_directory (entry_at v o) ≡ true = subst (λ (k : ℕ). is_directory (entry_at v k) ≡ true) (eqb-true _ _ u.1) dir in
        sym here ∙ file-no-directory (entry_at v o) h
    go i false e = refl

-- a table of a remove that gives 11: the row of 11 holds, and that of 9 does not
eleven : (a b c d e f g h i j : Bool)
    → first_number (row 3 a ∷ row 4 b ∷ row 5 c ∷ row 6 d ∷ row 7 e ∷ row 8 f ∷ row 9 g ∷ row 11 h ∷ row 13 i ∷ row 14 j ∷ []) ≡ 11 → (g ≡ false) × (h ≡ true)
unfolding first_number
eleven true b c d e f g h i j z = absurd (omega arith)
eleven false true c d e f g h i j z = absurd (omega arith)
eleven false false true d e f g h i j z = absurd (omega arith)
eleven false false false true e f g h i j z = absurd (omega arith)
eleven false false false false true f g h i j z = absurd (omega arith)
eleven false false false false false true g h i j z = absurd (omega arith)
eleven false false false false false false true h i j z = absurd (omega arith)
eleven false false false false false false false true i j z = (refl, refl)
eleven false false false false false false false false true j z = absurd (omega arith)
eleven false false false false false false false false false true z = absurd (omega arith)
eleven false false false false false false false false false false z = absurd (omega arith)

module _ (g : Geometry) (x : Model) (i : Issuer) (d : ℕ) (n : List ℕ) (o : ℕ) (l : Leads x i.program d n o) where
  -- the first number of a remove's table is the answer
  refused-by : (takes : Entry → Bool) (c : Call) (k : ℕ) → first_number (program_rows x.log i.program ++ (remove_rows takes x.view d n ++ room_rows g c x)) ≡ k → (k ≡ 0 → ⊥)
      → changed g c i.program (remove_rows takes x.view d n) x ≡ refusal k c
  refused-by takes c k e z =
      let rows = program_rows x.log i.program ++ (remove_rows takes x.view d n ++ room_rows g c x) in
      unless-refuses c rows _ k (first-lowest 0 rows refl ∙ e) z

  -- "Refusal 9 covers the wrong choice and comes before 11", and before 13 and 14
  wrong-choice : (takes : Entry → Bool) (c : Call) → takes (entry_at x.view o) ≡ false → changed g c i.program (remove_rows takes x.view d n) x ≡ refusal Returned.wrong_kind c
  unfolding first_number
  wrong-choice takes c h =
      refused-by takes c 9 (rw (l.program, l.unmarked, l.text, l.number, directory-used (entry_at x.view d) l.parent, l.parent, l.found, h)) (λ z. omega arith)

  -- a directory by remove file, filled or not
  pub directory-kept : is_directory (entry_at x.view o) ≡ true → answer_of g (remove_file i d n) x ≡ refusal Returned.wrong_kind (remove_file i d n)
  unfolding answer_of
  directory-kept h = wrong-choice is_file (remove_file i d n) (directory-no-file (entry_at x.view o) h)

  -- a file by remove directory
  pub file-kept : is_file (entry_at x.view o) ≡ true → answer_of g (remove_directory i d n) x ≡ refusal Returned.wrong_kind (remove_directory i d n)
  unfolding answer_of
  file-kept h = wrong-choice is_directory (remove_directory i d n) (file-no-directory (entry_at x.view o) h)

  -- a filled directory by remove directory
  pub filled-kept : is_directory (entry_at x.view o) ≡ true → has_children x.view o ≡ true
      → answer_of g (remove_directory i d n) x ≡ refusal Returned.not_empty (remove_directory i d n)
  unfolding answer_of first_number
  filled-kept h k =
      refused-by is_directory (remove_directory i d n) 11
      (rw (l.program, l.unmarked, l.text, l.number, directory-used (entry_at x.view d) l.parent, l.parent, l.found, h, k)) (λ z. omega arith)

module _ (g : Geometry) (x : Model) (s : Sound g x) (i : Issuer) (d : ℕ) (n : List ℕ) where
  kind-removed : (takes : Entry → Bool) (c : Call) → issues (told_of x) c ≡ removes x.view d n → (changed g c i.program (remove_rows takes x.view d n) x).returned ≡ 0 → Removable x takes d n
  kind-removed takes c is e =
      let r = (change-passed g c i.program (remove_rows takes x.view d n) x refl e).1 in
      let f = remove-accepted g x s takes i.program d n c is e in
      let other = (neither (not (is_directory (entry_at x.view d))) (of_found (search x.view d n) (λ o. not (takes (entry_at x.view o)))) r.1.1.1.1.0).1 in
      record {
        object = f.0;
        found = f.1;
        kind = not-false _ (ap (λ (o : Option ℕ). of_found o (λ i. not (takes (entry_at x.view i)))) (sym f.1) ∙ other);
        empty = ap (λ (o : Option ℕ). of_found o (has_children x.view)) (sym f.1) ∙ r.1.1.1.1.1.0;
      }

  -- "Remove file takes only files"
  pub file-removed : (answer_of g (remove_file i d n) x).returned ≡ 0 → Removable x is_file d n
  unfolding answer_of
  file-removed e = kind-removed is_file (remove_file i d n) refl e

  -- "remove directory only empty directories"
  pub directory-removed : (answer_of g (remove_directory i d n) x).returned ≡ 0 → Removable x is_directory d n
  unfolding answer_of
  directory-removed e = kind-removed is_directory (remove_directory i d n) refl e

  -- so remove file never says "not empty": in a well-formed volume a file has no children
  pub file-never-full : (answer_of g (remove_file i d n) x).returned ≡ Returned.not_empty → ⊥
  unfolding answer_of
  file-never-full e =
      let rows = program_rows x.log i.program ++ (remove_rows is_file x.view d n ++ room_rows g (remove_file i d n) x) in
      let first : first_number rows ≡ 11 = sym (first-lowest 0 rows refl) ∙ unless-number (remove_file i d n) rows _ 11 refl (λ z. omega arith) e in
      let k = eleven _ _ _ _ _ _ _ _ _ _ first in
      go (search x.view d n) refl (neither (not (is_directory (entry_at x.view d))) _ k.0).1 k.1
    where
      go : (f : Option ℕ) → search x.view d n ≡ f → of_found f (λ o. not (is_file (entry_at x.view o))) ≡ false → of_found f (has_children x.view) ≡ true → ⊥
      go None is h k = false≢true k
      go (Some o) is h k = false≢true (sym (file-childless g.objects g.blocks x.view s.view o (not-false _ h)) ∙ k)
