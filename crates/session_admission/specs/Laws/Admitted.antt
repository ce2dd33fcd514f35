-- The test of lengths and form decides what `step` asks first. Assumes nothing.
use Rattle.std.specs.Prelude.{ℕ, ◌≡◌, refl, Bool, true, false, ◌&&◌, cond, length, eqb}
use Rattle.std.proofs.Common.{arith, ap, ◌∙◌, subst}
use Rattle.std.proofs.Math.Path.{sym}
use mathlib.Core.List.{List}
use Rattle.std.proofs.Math.Bool.{and-eq-true_iff}
use Rattle.std.specs.Prelude.{Option, None, Some}
use Rattle.std.proofs.Math.Dec.{leb}
use Rattle.buffer.specs.Decoded.{is_some}
use Rattle.returned.specs.Returned
use Rattle.volume_tree.specs.Volume.{Volume}
use Rattle.volume_tree.specs.Stored.{volume_bytes, lent, formed, read_volume, decode_volume}
use Rattle.volume_tree.specs.Code.Lent.{Formed}
use Rattle.volume_tree.specs.Laws.Stored as VolumeLaws
use Rattle.volume_tree.specs.Laws.Lent as LentLaws
use Rattle.log_rules.specs.Slot.{Log}
use Rattle.log_rules.specs.Stored.{log_bytes, lent_log, formed_log, decode_log, read_log}
use Rattle.log_rules.specs.Code.Slots.{Logged}
use Rattle.log_rules.proofs.Laws.Stored as StoredLaws
use Rattle.log_form.specs.Laws.Form as FormLaws
use Rattle.session.specs.Call.{Geometry, Buffers, Call, geometry, buffers, in_range, server_fits, lengths_fit}
use Rattle.session.specs.Model.{Model, agreeing}
use Rattle.session.specs.Step.{join_model, encode_model, decode_model, turned_down, on_model, step}
use Rattle.session.proofs.Laws.Edit.{objects-few, blocks-few}
use Rattle.session.proofs.Laws.Step.{Holds, model-stored, model-read}
use Rattle.session_admission.specs.Code.Admitted.{admission, model_in, Admitted}

-- six tests, asked in two orders
regrouped : (a b c s v l : Bool) → (a && (b && s)) && ((a && (b && v)) && (a && (b && (c && l)))) ≡ (a && (b && c)) && (s && (v && l))
regrouped false b c s v l = refl
regrouped true false c s v l = refl
regrouped true true false false v l = refl
regrouped true true false true false l = refl
regrouped true true false true true l = refl
regrouped true true true false v l = refl
regrouped true true true true false l = refl
regrouped true true true true true l = refl

module _ (n b m : ℕ) (s v l : List ℕ) where
  -- n, b, m and the three lengths are right exactly if each buffer is lent as it should be.
  pub lengths-lent : lent n b s && (lent n b v && lent_log n b m l) ≡ in_range (geometry n b m) && lengths_fit (geometry n b m) (buffers s v l)
  unfolding lent lent_log in_range lengths_fit server_fits
  lengths-lent =
      regrouped (leb 2 n && leb n 256) (leb 1 b && leb b 64) (leb 1 m && leb m 1024) (eqb (length s) (volume_bytes n b)) (eqb (length v) (volume_bytes n b))
      (eqb (length l) (log_bytes m))

  -- whether there is something where a test passes is the test
  there : (x : Model) (t : Bool) → t ≡ is_some {A = Model} (cond t (Some x) None)
  there x true = refl
  there x false = refl

  -- three that hold, where they hold something, what the bytes tell of
  read-model : (x y : Volume) (z : Log) (a c : Option Volume) (d : Option Log) → ((u : Volume) → a ≡ Some u → x ≡ u) → ((u : Volume) → c ≡ Some u → y ≡ u) → ((u : Log) → d ≡ Some u → z ≡ u)
      → is_some a && (is_some c && (is_some d && agreeing (record { server = x; view = y; log = z }))) ≡ is_some (join_model a c d)
  read-model x y z None c d f g k = refl
  read-model x y z (Some u) None d f g k = refl
  read-model x y z (Some u) (Some w) None f g k = refl
  read-model x y z (Some u) (Some w) (Some q) f g k =
      (λ i. agreeing (record { server = f u refl i; view = g w refl i; log = k q refl i }))
      ∙ there (record { server = u; view = w; log = q }) (agreeing (record { server = u; view = w; log = q }))

  -- Where the lengths are right, the three buffers store a model exactly if each is of the right form and they agree.
  pub form-model : in_range (geometry n b m) && lengths_fit (geometry n b m) (buffers s v l) ≡ true
      → formed n b s && (formed n b v && (formed_log n b m l && agreeing (model_in n b m s v l))) ≡ is_some (decode_model (geometry n b m) (buffers s v l))
  unfolding formed formed_log decode_model
  form-model h =
      let all = (and-eq-true_iff (lent n b s) (lent n b v && lent_log n b m l)).0 (lengths-lent ∙ h) in
      let two = (and-eq-true_iff (lent n b v) (lent_log n b m l)).0 all.1 in
      let range = ((and-eq-true_iff (in_range (geometry n b m)) (lengths_fit (geometry n b m) (buffers s v l))).0 h).0 in
      let volume : (t : List ℕ) (u : Volume) → decode_volume n b t ≡ Some u → read_volume n b t ≡ u =
      λ t u e.
      let d = VolumeLaws.encode-decode n b t u e in
      sym (ap (read_volume n b) d.1) ∙ VolumeLaws.read-good n b u (objects-few (geometry n b m) range) (blocks-few (geometry n b m) range) d.0 in
      let log : (u : Log) → decode_log n b m l ≡ Some u → read_log m l ≡ u =
      λ u e. let d = StoredLaws.encode-decode n b m l u e in sym (ap (read_log m) d.1) ∙ StoredLaws.read-log n b m u d.0 in
      (rw (all.0, two.0, two.1))
      ∙ read-model (read_volume n b s) (read_volume n b v) (read_log m l) (decode_volume n b s) (decode_volume n b v) (decode_log n b m l) (volume s) (volume v) log

-- A call that is refused for what it is lent is refused by `step` alike.
pub not-admitted : (g : Geometry) (c : Call) (s : Buffers) (k : ℕ) → admission g s ≡ k → (k ≡ 0 → ⊥) → step g c s ≡ turned_down k c s
unfolding admission step
not-admitted g c s k e n = go (in_range g && lengths_fit g s) (decode_model g s) e
  where
    go : (t : Bool) (d : Option Model) → cond t (cond (is_some d) Returned.accepted Returned.damaged) Returned.wrong_buffer ≡ k
        → cond t (on_model g c s d) (turned_down Returned.wrong_buffer c s) ≡ turned_down k c s
    go false d h = ap (λ (j : ℕ). turned_down j c s) h
    go true None h = ap (λ (j : ℕ). turned_down j c s) h
    go true (Some x) h = absurd (n (sym h))

-- A call that is not refused so has three buffers of the right form, which store what their bytes tell of.
pub admitted : (n b m : ℕ) (s v l : List ℕ) → admission (geometry n b m) (buffers s v l) ≡ 0 → Admitted n b m s v l
unfolding admission decode_model
admitted n b m s v l e = go (in_range g && lengths_fit g t) (is_some (decode_model g t)) refl refl e
  where
    g : Geometry
    g = geometry n b m

    t : Buffers
    t = buffers s v l

    go : (h d : Bool) → (in_range g && lengths_fit g t) ≡ h → is_some (decode_model g t) ≡ d → cond h (cond d Returned.accepted Returned.damaged) Returned.wrong_buffer ≡ 0 → Admitted n b m s v l
    go false d hf hd z = absurd (omega arith)
    go true false hf hd z = absurd (omega arith)
    go true true hf hd z =
        let x = model_in n b m s v l in
        let all = (and-eq-true_iff (formed n b s) (formed n b v && (formed_log n b m l && agreeing x))).0 (form-model n b m s v l hf ∙ hd) in
        let two = (and-eq-true_iff (formed n b v) (formed_log n b m l && agreeing x)).0 all.1 in
        let three = (and-eq-true_iff (formed_log n b m l) (agreeing x)).0 two.1 in
        let fit = (and-eq-true_iff (in_range g) (lengths_fit g t)).0 hf in
        let fs = LentLaws.formed-inv n b s all.0 in
        let fv = LentLaws.formed-inv n b v two.0 in
        let fl = FormLaws.formed-logged n b m l three.0 in
        let ds = LentLaws.formed-decoded n b s fs in
        let dv = LentLaws.formed-decoded n b v fv in
        let dl : decode_log n b m l ≡ Some (read_log m l) = ap (decode_log n b m) (sym fl.stored) ∙ StoredLaws.decode-encode n b m (read_log m l) fl.form in
        record {
          server = fs;
          view = fv;
          log = fl;
          holds = model-read g t x (record { range = fit.0; lengths = fit.1; read = rw (ds, dv, dl, three.1) });
        }

-- Three buffers of the right form that agree, for a geometry in range, are as if they had passed.
pub formed-admitted : (n b m : ℕ) (s v l : List ℕ) → in_range (geometry n b m) ≡ true → Formed n b s → Formed n b v → Logged n b m l
    → agreeing (model_in n b m s v l) ≡ true → Admitted n b m s v l
formed-admitted n b m s v l range fs fv fl agree =
    let x = model_in n b m s v l in
    let stored : encode_model (geometry n b m) x ≡ buffers s v l = λ i. record { server = fs.stored i; view = fv.stored i; log = fl.stored i } in
    record {
      server = fs;
      view = fv;
      log = fl;
      holds =
          subst (λ (y : Buffers). Holds (geometry n b m) y x) stored
          (model-stored (geometry n b m) x (record { range = range; server = fs.form; view = fv.form; log = fl.form; agree = agree }));
    }

-- Two tests, one after the other: what is known where the first is passed, and where it is not.
pub passes : (x y : Bool) → x ≡ true → y ≡ x && y
passes x y e = rw e

pub stops : (x y : Bool) → x ≡ false → false ≡ x && y
stops x y e = rw e

module _ (g : Geometry) (s : Buffers) where
  -- What was tested decides the number.
  pub number-fine : in_range g && lengths_fit g s ≡ true → is_some (decode_model g s) ≡ true → 0 ≡ admission g s
  unfolding admission
  number-fine e f = rw (e, f)

  pub number-damaged : in_range g && lengths_fit g s ≡ true → is_some (decode_model g s) ≡ false → 2 ≡ admission g s
  unfolding admission
  number-damaged e f = rw (e, f)

  pub number-wrong : in_range g && lengths_fit g s ≡ false → 1 ≡ admission g s
  unfolding admission
  number-wrong e = rw e
