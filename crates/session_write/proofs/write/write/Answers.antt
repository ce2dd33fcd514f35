-- `session_write::write::write` meets its contract: refused for what it is lent, refused by its table, or issued. Assumes nothing.
use native.Mathlib.Omega.{arith}
use Prim.Native.Nat.{ℕ}
use Rattle.returned.specs.Laws.Refusal.{not-refused}
use mathlib.Core.Path.{◌≡◌, refl, sym, ap, ◌∙◌, subst}
use lib.ListN.{length}
use Rattle.volume_tree.specs.Stored.{read_volume}
use Rattle.log_rules.specs.Stored.{read_log}
use Rattle.session.specs.Class
use Rattle.session.specs.Call.{geometry, buffers, issuer}
use Rattle.session.specs.Issue.{writes_at, writes}
use Rattle.session.proofs.Laws.Write.{writes-few}
use Rattle.session_admission.specs.Laws.Admitted.{admitted}
use Rattle.log_draft.specs.Code.Issued.{AllIssued}
use Rattle.session_change.specs.Code.Change.{MayIssue}
use Rattle.session_change.specs.Laws.Change.{lent-refuses, change-refuses}
use Rattle.session_change.specs.Laws.Issued.{changed-outcome}
use Rattle.session_write.specs.Laws.Call.{write-change, write_bytes, write-issuing}
use Rattle.session_write.proofs.write.write.Goals as goal

pub returns-in-Err : goal.returns-in-Err
returns-in-Err c =
    let a = c.args in
    lent-refuses (geometry a.n a.b a.m) (issuer a.program) (Class.write a.object a.offset a.«data».now) (buffers a.server.now a.view.now a.log.now)
    _ c.admit.ensures _ c.in-Err.is

pub write_refusal-own-requires : goal.write_refusal-own-requires
write_refusal-own-requires c =
    let a = c.args in
    (admitted a.n a.b a.m a.server.now a.view.now a.log.now (sym c.admit.ensures ∙ not-refused _ c.in_default.not-Err)).view.lent

pub length_of-len-requires : goal.length_of-len-requires
length_of-len-requires c =
    let a = c.args in
    (admitted a.n a.b a.m a.server.now a.view.now a.log.now (sym c.admit.ensures ∙ not-refused _ c.in_default.not-Err)).view.lent

pub accept_change-requires : goal.accept_change-requires
accept_change-requires c =
    let a = c.args in
    let h = admitted a.n a.b a.m a.server.now a.view.now a.log.now (sym c.admit.ensures ∙ not-refused _ c.in_default.not-Err) in
    let few = writes-few c.length_of-len.result a.object a.offset a.«data».now in
    record { logged = h.log; count_bound = omega (arith, c.operations-count.ensures a.object, few) }

pub returns-in-Err-accept_change : goal.returns-in-Err-accept_change
returns-in-Err-accept_change c =
    let a = c.args in
    let h = admitted a.n a.b a.m a.server.now a.view.now a.log.now (sym c.admit.ensures ∙ not-refused _ c.in_default.not-Err) in
    let v = read_volume a.n a.b a.view.now in
    let w = c.write_refusal-own in
    let n = c.operations-count in
    -- the count is that of the operations that the write issues
    let counted : n.result ≡ length (writes v a.object a.offset a.«data».now) =
    n.ensures a.object ∙ ap (λ (len : ℕ). length (writes_at len a.object a.offset a.«data».now)) c.length_of-len.ensures in
    let ch = write-change h (issuer a.program) a.object a.offset a.«data».now _ _ w.ensures counted in
    let r = c.accept_change in
    change-refuses ch _ r.ensures.number _ c.in-Err-accept_change.is

pub issue_writes-number-requires : goal.issue_writes-number-requires
issue_writes-number-requires c =
    let a = c.args in
    let h = admitted a.n a.b a.m a.server.now a.view.now a.log.now (sym c.admit.ensures ∙ not-refused _ c.in_default.not-Err) in
    let v = read_volume a.n a.b a.view.now in
    let w = c.write_refusal-own in
    let n = c.operations-count in
    let counted : n.result ≡ length (writes v a.object a.offset a.«data».now) =
    n.ensures a.object ∙ ap (λ (len : ℕ). length (writes_at len a.object a.offset a.«data».now)) c.length_of-len.ensures in
    let r = c.accept_change in
    record {
      in_bounds = write_bytes h (issuer a.program) a.object a.offset a.«data».now _ _ w.ensures counted _ r.ensures.number (not-refused _ c.in_default-accept_change.not-Err);
      may_issue = subst (λ (len : ℕ). MayIssue a.n a.b a.m a.program a.view.now a.log.now (writes_at len a.object a.offset a.«data».now))
          (sym c.length_of-len.ensures)
          (write-issuing h (issuer a.program) a.object a.offset a.«data».now _ _ w.ensures counted _ r.ensures.number (not-refused _ c.in_default-accept_change.not-Err));
    }

pub returns : goal.returns
returns c =
    let a = c.args in
    let h = admitted a.n a.b a.m a.server.now a.view.now a.log.now (sym c.admit.ensures ∙ not-refused _ c.in_default.not-Err) in
    let v = read_volume a.n a.b a.view.now in
    let w = c.write_refusal-own in
    let n = c.operations-count in
    let counted : n.result ≡ length (writes v a.object a.offset a.«data».now) =
    n.ensures a.object ∙ ap (λ (len : ℕ). length (writes_at len a.object a.offset a.«data».now)) c.length_of-len.ensures in
    let ch = write-change h (issuer a.program) a.object a.offset a.«data».now _ _ w.ensures counted in
    let r = c.accept_change in
    let i = c.issue_writes-number in
    changed-outcome ch _ r.ensures.number (not-refused _ c.in_default-accept_change.not-Err) (writes v a.object a.offset a.«data».now) refl i.result i.new.log i.new.view
    (subst (λ (len : ℕ). AllIssued a.b a.m i.result i.new.log i.new.view v (read_log a.m a.log.now) a.program (writes_at len a.object a.offset a.«data».now))
    c.length_of-len.ensures i.ensures)
