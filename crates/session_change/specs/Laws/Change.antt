-- A change's table, decided by the number that its own rows give: refused, or accepted. Assumes nothing.
use Rattle.std.specs.Prelude.{ℕ, ◌≡◌, List, [], ◌∷◌, ◌++◌, Bool, true, false, not, cond, ltb, eqb, Result, Err}
use Rattle.std.proofs.Common.{arith, ◌∙◌, eqb-true, eq-eqb, ne_eqb}
use Rattle.std.proofs.Math.Path.{refl, sym, ap}
use Rattle.std.proofs.Math.Bool.{and-eq-true_iff}
use Rattle.std.proofs.lemmas.Bool.{eqb-false}
use Rattle.returned.specs.Returned
use Rattle.returned.specs.Returned.{rank_of}
use Rattle.returned.specs.declared.Refusal.{Refusal}
use Rattle.returned.specs.Refusal.{refusal_number, number_of}
use Rattle.returned.specs.Laws.Refusal.{refused-some}
use Rattle.volume_tree.specs.Stored.{read_volume}
use Rattle.log_rules.specs.Programs.{holds}
use Rattle.log_rules.specs.Slot.{Log}
use Rattle.log_rules.specs.Stored.{read_log}
use Rattle.session.specs.Class.{Change}
use Rattle.session.specs.Call.{Geometry, Buffers, Issuer, change, Answer, geometry, buffers, answer}
use Rattle.session.specs.Refusal.{Row}
use Rattle.session.specs.Model.{program_rows, room_for}
use Rattle.session.specs.Edit.{room_rows, change_rows}
use Rattle.session.specs.Step.{given, answer_of, step}
use Rattle.session.specs.Code.Table.{first_number, rising}
use Rattle.session.proofs.Laws.Table.{first-left, first-right}
use Rattle.session_admission.specs.Code.Admitted.{admission, model_in}
use Rattle.session_admission.specs.Laws.Admitted.{not-admitted}
use Rattle.session_admission.specs.Laws.Turn.{refused, answered}
use Rattle.session_change.specs.Code.Change.{own_row, change_number, ChangeBy}

-- The first of two tables that stand one behind the other rises too.
pub rising-left : (k : ℕ) (a b : List Row) → rising k (a ++ b) ≡ true → rising k a ≡ true
rising-left k [] b h = refl
rising-left k (r ∷ a) b h =
    let both = (and-eq-true_iff (ltb k (rank_of r.number)) (rising (rank_of r.number) (a ++ b))).0 h in
    rw both.0 (rising-left (rank_of r.number) a b both.1)

-- A chain of tests over two tables: the number of the first, where it gives one, and else that of the second.
pub stops_first : (a b : List Row) (k : ℕ) → k ≡ first_number a → (k ≡ 0 → ⊥) → k ≡ first_number (a ++ b)
stops_first a b k e z = sym (first-left k a b (sym e) z)

pub goes_on : (j : ℕ) (a b : List Row) → rising j a ≡ true → (i k : ℕ) → i ≡ first_number a → i ≡ 0 → k ≡ first_number b → k ≡ first_number (a ++ b)
goes_on j a b h i k e z f = f ∙ sym (first-right j a b h (sym e ∙ z))

-- A program's rows first.
over-program : (l : Log) (p : ℕ) (a b : List Row) → first_number a ≡ first_number b → first_number (program_rows l p ++ a) ≡ first_number (program_rows l p ++ b)
unfolding first_number
over-program l p a b e = rw e

-- A table's number stands for the table.
own_first : (k : ℕ) (rows rest more : List Row) → rising (rank_of Returned.marked) rows ≡ true → k ≡ first_number rows → (k ≡ 0 → first_number rest ≡ first_number more)
    → first_number (own_row k ∷ rest) ≡ first_number (rows ++ more)
unfolding first_number
own_first k rows rest more h e f = go (eqb k 0) refl
  where
    go : (t : Bool) → eqb k 0 ≡ t → cond (not t) k (first_number rest) ≡ first_number (rows ++ more)
    go true z = let y = eqb-true k 0 z in goes_on (rank_of Returned.marked) rows more h k (first_number rest) e y (f y)
    go false z = stops_first rows more k e (eqb-false k 0 z)

-- The number of a change, by which of the three gives it.
module _ (g : Geometry) (l : Log) (p own count : ℕ) (i : ℕ) (e : i ≡ first_number (program_rows l p)) where
  pub by-program : (i ≡ 0 → ⊥) → i ≡ change_number g l p own count
  unfolding change_number
  by-program z = stops_first (program_rows l p) (own_row own ∷ room_for g l count) i e z

  module _ (z : i ≡ 0) where
    pub by-own : (own ≡ 0 → ⊥) → own ≡ change_number g l p own count
    unfolding change_number first_number
    by-own y = goes_on 0 (program_rows l p) (own_row own ∷ room_for g l count) refl i own e z (rw (ne_eqb own 0 y))

    pub by-room : own ≡ 0 → (k : ℕ) → k ≡ first_number (room_for g l count) → k ≡ change_number g l p own count
    unfolding change_number first_number
    by-room y k f = goes_on 0 (program_rows l p) (own_row own ∷ room_for g l count) refl i k e z (f ∙ rw (eq-eqb own 0 y))

-- With 0 the own table gave 0.
own-passes : (g : Geometry) (l : Log) (p own count : ℕ) → change_number g l p own count ≡ 0 → own ≡ 0
unfolding change_number first_number
own-passes g l p own count h = go (not (ltb p 32)) (holds l.head.marks p) (eqb own 0) refl h
  where
    go : (a c t : Bool) → eqb own 0 ≡ t → cond a 3 (cond c 4 (cond (not t) own (first_number (room_for g l count)))) ≡ 0 → own ≡ 0
    go true c t q e = absurd (omega arith)
    go false true t q e = absurd (omega arith)
    go false false true q e = eqb-true own 0 q
    go false false false q e = e

-- A change that is refused for what it is lent.
pub lent-refuses : (g : Geometry) (i : Issuer) (c : Change) (s : Buffers) (q : Result (Unit {0}) Refusal) → number_of q ≡ admission g s → (f : Refusal) → q ≡ Err f
    → given (refusal_number f) (0 ∷ []) [] s ≡ step g (change i c) s
lent-refuses g i c s q e f w =
    (λ j. record { gives = answer (number_of (sym w j)) (0 ∷ []) []; leaves = s }) ∙ sym (not-admitted g (change i c) s (number_of q) (sym e) (refused-some w))

module _ {n b m : ℕ} {i : Issuer} {s v l : List ℕ} {c : Change} {own count : ℕ} (ch : ChangeBy n b m i s v l c own count) where
  -- its own rows
  abbrev own-rows : List Row
  own-rows = change_rows (geometry n b m) (read_volume n b v) c

  -- The code's number is that of the whole table.
  table-number : change_number (geometry n b m) (read_log m l) i.program own count
      ≡ first_number (program_rows (read_log m l) i.program ++ (own-rows ++ room_rows (geometry n b m) (change i c) (model_in n b m s v l)))
  unfolding change_number
  table-number =
      let g = geometry n b m in
      let x = model_in n b m s v l in
      over-program (read_log m l) i.program (own_row own ∷ room_for g (read_log m l) count) (own-rows ++ room_rows g (change i c) x)
      (own_first own own-rows (room_for g (read_log m l) count) (room_rows g (change i c) x) (rising-left (rank_of Returned.marked) own-rows (room_rows g (change i c) x) ch.rise) ch.number
      (λ z. ap (λ (k : ℕ). first_number (room_for g (read_log m l) k)) (sym (ch.many z))))

  -- Refused: nothing changes.
  pub change-refuses : {A : Type 0} (q : Result A Refusal) → number_of q ≡ change_number (geometry n b m) (read_log m l) i.program own count → (f : Refusal) → q ≡ Err f
      → given (refusal_number f) (0 ∷ []) [] (buffers s v l) ≡ step (geometry n b m) (change i c) (buffers s v l)
  unfolding answer_of
  change-refuses q e f w =
      (λ j. record { gives = answer (number_of (sym w j)) (0 ∷ []) []; leaves = buffers s v l })
      ∙ sym (refused n b m s v l ch.held (change i c) (program_rows (read_log m l) i.program ++ (own-rows ++ room_rows (geometry n b m) (change i c) (model_in n b m s v l)))
      (answer 0 ((read_log m l).head.next ∷ []) []) refl ch.rise (number_of q) (e ∙ table-number) (refused-some w) refl)

  -- Accepted: the answer is the next sequence number.
  pub change-passes : (k : ℕ) → k ≡ change_number (geometry n b m) (read_log m l) i.program own count → k ≡ 0
      → 0 ≡ first_number (program_rows (read_log m l) i.program ++ (own-rows ++ room_rows (geometry n b m) (change i c) (model_in n b m s v l)))
  change-passes k e z = sym z ∙ e ∙ table-number

  pub change-accepted : (k : ℕ) → k ≡ change_number (geometry n b m) (read_log m l) i.program own count → k ≡ 0
      → (answer_of (geometry n b m) (change i c) (model_in n b m s v l)).returned ≡ 0
  unfolding answer_of
  change-accepted k e z =
      ap (λ (a : Answer). a.returned)
      (answered n b m s v l ch.held (change i c) (program_rows (read_log m l) i.program ++ (own-rows ++ room_rows (geometry n b m) (change i c) (model_in n b m s v l)))
      (answer 0 ((read_log m l).head.next ∷ []) []) refl ch.rise (change-passes k e z))

  -- Its own rows let it pass.
  pub change-own : (k : ℕ) → k ≡ change_number (geometry n b m) (read_log m l) i.program own count → k ≡ 0 → own ≡ 0
  change-own k e z = own-passes (geometry n b m) (read_log m l) i.program own count (sym e ∙ z)
