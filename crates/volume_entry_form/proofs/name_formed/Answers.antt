-- `volume_entry_form::name_formed` meets its contract: the name's length, its text, and the bytes behind it, one after the other.
-- Assumes nothing.
use Prim.Native.Nat.{ℕ, ◌+◌, ◌-◌}
use mathlib.Core.Path.{◌≡◌, sym, ap, ◌∙◌}
use mathlib.Core.List.{List}
use native.Mathlib.Nat.{add-sub_cancel_left}
use native.Mathlib.Omega.{arith}
use lib.ListN.{take, drop}
use Rattle.std.specs.Prelude.{Result}
use Rattle.names.specs.declared.NameError.{NameError}
use Rattle.names.specs.Name.{name_text_of}
use Rattle.names.proofs.Laws.Name.{fine-valid, error-invalid}
use Rattle.buffer.specs.Code.Zero.{zeros}
use Rattle.volume_entry_form.specs.Laws.Test.{take_part, name-long, name-invalid, name-zeros}
use Rattle.volume_entry_form.proofs.name_formed.Goals as goal

-- the text that was asked about is the name's
text : (s : List ℕ) (len : ℕ) (x : Result (Unit {0}) NameError) → x ≡ name_text_of (take (4 + len - 4) (drop 4 s)) → name_text_of (take len (drop 4 s)) ≡ x
text s len x e = sym (rw (add-sub_cancel_left 4 len) at e)

pub returns-then-len-gt-LONGEST_NAME : goal.returns-then-len-gt-LONGEST_NAME
returns-then-len-gt-LONGEST_NAME c =
    sym (name-long c.args.e.now c.byte_at-len.result c.byte_at-len.ensures.0 c.if-len-gt-LONGEST_NAME.true)

pub returns-in-Ok : goal.returns-in-Ok
returns-in-Ok c =
    let s = c.args.e.now in
    let len = c.byte_at-len.result in
    let fine = text s len _ (sym c.in-Ok.is ∙ c.name_text.ensures) in
    c.all_zero.ensures
    ∙ ap zeros (take_part (4 + len) 64 s (omega arith) (omega arith))
    ∙ sym (name-zeros s len c.byte_at-len.ensures.0 c.if-len-gt-LONGEST_NAME.false (fine-valid _ fine))

pub returns-in-Err : goal.returns-in-Err
returns-in-Err c =
    let s = c.args.e.now in
    let wrong = text s c.byte_at-len.result _ (sym c.in-Err.is ∙ c.name_text.ensures) in
    sym (name-invalid s c.byte_at-len.result c.byte_at-len.ensures.0 (error-invalid _ _ wrong))
