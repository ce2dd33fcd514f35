-- What was tested decides what format and mount give and leave. Assumes nothing.
use Rattle.std.specs.Prelude.{ℕ, ◌*◌, ◌-◌, ◌≤◌, ◌<◌, ◌≡◌, refl, Bool, true, false, ◌&&◌, length, set, replicate, leb}
use Rattle.std.proofs.Common.{arith, ap, ap₂, ◌∙◌, le-leb}
use Rattle.std.proofs.Math.Path.{sym}
use mathlib.Core.List.{List, [], ◌++◌}
use Rattle.std.proofs.Math.Bool.{and-eq-true_iff}
use Rattle.std.proofs.lemmas.List.{replicate-append-replicate, set-append_left}
use Rattle.std.proofs.lemmas.Bool.{lt-leb}
use Rattle.buffer.specs.Decoded.{is_some}
use Rattle.volume_tree.specs.Volume.{formatted}
use Rattle.volume_tree.specs.Stored.{encode_volume, lent, formed, decode_volume}
use Rattle.volume_tree.specs.Code.Lent.{Lent}
use Rattle.volume_tree.specs.Laws.Lent.{lent-inv, formed-decode}
use Rattle.log_rules.specs.Slot.{empty_log}
use Rattle.log_rules.specs.Stored.{next_at, head_bytes, log_bytes, slot_bytes, lent_log, encode_slots, encode_log}
use Rattle.log_rules.proofs.Laws.Head.{empty-head}
use Rattle.log_form.specs.Laws.Form as FormLaws
use Rattle.session.specs.Call.{Geometry, Buffers, geometry, buffers, in_range, server_fits, lengths_fit}
use Rattle.session.proofs.Laws.Geometry.{range-lent}
use Rattle.session.specs.Step.{given, format, format_leaves, mount}
use Rattle.session_admission.specs.Laws.Admitted.{lengths-lent}

-- The bytes of an empty log: zeros, but for the next number 1.
pub empty-log : (m : ℕ) → set (replicate (log_bytes m) 0) next_at 1 ≡ encode_log m empty_log
unfolding encode_log encode_slots
empty-log m =
    let all : m * slot_bytes ≡ m * slot_bytes - 0 = omega arith in
    ap (λ (z : List ℕ). set z next_at 1) (sym (replicate-append-replicate head_bytes (m * slot_bytes) 0))
    ∙ set-append_left (replicate head_bytes 0) (replicate (m * slot_bytes) 0) next_at 1 (omega arith)
    ∙ ap₂ (λ (h : List ℕ) (k : ℕ). h ++ replicate k 0) empty-head all

module _ (n b m : ℕ) (s : List ℕ) where
  -- n, b, m and the length of a volume.
  pub fits-range : lent n b s ≡ true → 1 ≤ m → leb m 1024 ≡ in_range (geometry n b m) && server_fits (geometry n b m) s
  fits-range e h = (rw (e, le-leb 1 m h)) ∙ sym (range-lent (geometry n b m) s)

  pub fits-no-slot : m < 1 → false ≡ in_range (geometry n b m) && server_fits (geometry n b m) s
  fits-no-slot h = and-false (lent n b s) ∙ (rw (lt-leb 1 m h)) ∙ sym (range-lent (geometry n b m) s)
    where
      and-false : (t : Bool) → false ≡ t && false
      and-false true = refl
      and-false false = refl

  pub fits-not-lent : lent n b s ≡ false → false ≡ in_range (geometry n b m) && server_fits (geometry n b m) s
  fits-not-lent e = (rw e) ∙ sym (range-lent (geometry n b m) s)

  pub fits-lent : in_range (geometry n b m) && server_fits (geometry n b m) s ≡ true → Lent n b s
  fits-lent e = lent-inv n b s ((and-eq-true_iff (lent n b s) (leb 1 m && leb m 1024)).0 (sym (range-lent (geometry n b m) s) ∙ e)).0

module _ (g : Geometry) (s : List ℕ) where
  pub format-fits : in_range g && server_fits g s ≡ true → 0 ≡ format g s
  unfolding format
  format-fits e = rw e

  pub format-wrong : in_range g && server_fits g s ≡ false → 1 ≡ format g s
  unfolding format
  format-wrong e = rw e

  pub format-made : in_range g && server_fits g s ≡ true → encode_volume g.blocks (formatted g.objects) ≡ format_leaves g s
  unfolding format_leaves
  format-made e = rw e

  pub format-left : in_range g && server_fits g s ≡ false → s ≡ format_leaves g s
  unfolding format_leaves
  format-left e = rw e

module _ (n b m : ℕ) (s v l : List ℕ) (fit : in_range (geometry n b m) && lengths_fit (geometry n b m) (buffers s v l) ≡ true) where
  parts : (lent n b s ≡ true) × (lent n b v ≡ true) × (lent_log n b m l ≡ true)
  parts =
      let all = (and-eq-true_iff (lent n b s) (lent n b v && lent_log n b m l)).0 (lengths-lent n b m s v l ∙ fit) in
      let two = (and-eq-true_iff (lent n b v) (lent_log n b m l)).0 all.1 in
      (all.0, two.0, two.1)

  -- The three lengths.
  pub lengths-same : length v ≡ length s
  lengths-same =
      let x = (lent-inv n b s parts.0).whole in
      let y = (lent-inv n b v parts.1).whole in
      y ∙ sym x

  pub log-whole : length l ≡ log_bytes m
  log-whole = (FormLaws.lent-inv n b m l parts.2).whole

  decoded : formed n b s ≡ is_some (decode_volume n b s)
  decoded = formed-decode n b s (lent-inv n b s parts.0)

  pub mount-made : formed n b s ≡ true → (w k : List ℕ) → w ≡ s → k ≡ encode_log m empty_log → given 0 [] [] (buffers s w k) ≡ mount (geometry n b m) (buffers s v l)
  unfolding mount
  mount-made e w k f h = (λ i. given 0 [] [] (buffers s (f i) (h i))) ∙ (rw (fit, sym decoded ∙ e))

  pub mount-damaged : formed n b s ≡ false → given 2 [] [] (buffers s v l) ≡ mount (geometry n b m) (buffers s v l)
  unfolding mount
  mount-damaged e = rw (fit, sym decoded ∙ e)

pub mount-wrong : (g : Geometry) (t : Buffers) → in_range g && lengths_fit g t ≡ false → given 1 [] [] t ≡ mount g t
unfolding mount
mount-wrong g t e = rw e
