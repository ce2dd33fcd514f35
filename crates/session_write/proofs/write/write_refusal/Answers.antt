-- `session_write::write::write_refusal` meets its contract: where the object is a file the range decides. Assumes nothing.
use Rattle.returned.specs.Laws.Refusal.{refused-number, refused-some, not-refused}
use mathlib.Core.Path.{◌≡◌, sym, ap, ◌∙◌}
use mathlib.Core.List.{[], ◌∷◌}
use lib.ListN.{length}
use Prim.Native.Nat.{ℕ}
use Rattle.volume_entry.specs.Entry.{contents_of}
use Rattle.volume_tree.specs.Volume.{entry_at}
use Rattle.volume_tree.specs.Stored.{read_volume}
use Rattle.session.specs.Refusal.{row}
use Rattle.session.specs.Edit.{bad_range}
use Rattle.session_change.specs.Laws.File.{file-refused, range-refused, range-passed}
use Rattle.session_write.proofs.write.write_refusal.Goals as goal

pub returns-in-Err : goal.returns-in-Err
returns-in-Err c =
    let a = c.args in
    let v = read_volume a.n a.b a.view.now in
    let bad = bad_range a.b (length (contents_of (entry_at v a.object))) a.offset (length a.«data».now) in
    sym (refused-number c.in-Err.is)
    ∙ file-refused v a.object (row 12 bad ∷ []) _ c.file_refusal.ensures (refused-some c.in-Err.is)

pub returns-then-bad_range : goal.returns-then-bad_range
returns-then-bad_range c =
    let a = c.args in
    let v = read_volume a.n a.b a.view.now in
    let bad = bad_range a.b (length (contents_of (entry_at v a.object))) a.offset (length a.«data».now) in
    -- the test of the range, in the volume's own terms
    let told : c.bad_range.result ≡ bad = c.bad_range.ensures ∙ ap (λ (k : ℕ). bad_range a.b k a.offset (length a.«data».now)) c.length_of-len.ensures in
    range-refused v a.object bad (sym (not-refused _ c.in_default.not-Err) ∙ c.file_refusal.ensures) (sym told ∙ c.if-bad_range.true)

pub returns : goal.returns
returns c =
    let a = c.args in
    let v = read_volume a.n a.b a.view.now in
    let bad = bad_range a.b (length (contents_of (entry_at v a.object))) a.offset (length a.«data».now) in
    let told : c.bad_range.result ≡ bad = c.bad_range.ensures ∙ ap (λ (k : ℕ). bad_range a.b k a.offset (length a.«data».now)) c.length_of-len.ensures in
    range-passed v a.object bad (sym (not-refused _ c.in_default.not-Err) ∙ c.file_refusal.ensures) (sym told ∙ c.if-bad_range.false)
