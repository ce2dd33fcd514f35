-- The two removes, on every list of calls: what each took was of its kind and without children, in the view, and on the server if it was sent.
use Rattle.std.specs.Prelude.{ℕ, ◌≡◌, refl, Bool, true}
use Rattle.std.proofs.Common.{sym, ap, ◌∙◌, subst}
use mathlib.Core.List.{List, [], ◌∷◌, ◌++◌, Memᴰ}
use Rattle.std.specs.Prelude.{Option}
use Rattle.record.specs.Operation.{Operation, operands}
use Rattle.record.specs.Fields.{member}
use Rattle.volume_entry.specs.Entry.{Entry, is_file, is_directory}
use Rattle.volume_tree.specs.Volume.{Volume, search}
use Rattle.volume_apply.proofs.Laws.Local.{member-first}
use Rattle.session.specs.Told.{Told}
use Rattle.session.specs.Call.{Geometry, Buffers, Issuer, Call, remove_file, remove_directory, Answer}
use Rattle.session.specs.Model.{Model, mounted_model, told_of}
use Rattle.session.specs.Issue.{on_found, removes}
use Rattle.session.specs.Effect.{Effect, issuing, accepted_effects}
use Rattle.session.specs.Step.{answer_of, effects_in, mount}
use Rattle.session.specs.Removal.{Removable}
use Rattle.session.proofs.Laws.Removal.{file-removed, directory-removed}
use Rattle.session.proofs.Laws.Possible.{Sound}
use Rattle.register.specs.Replay.{replay}
use Rattle.register.specs.Register.{Register, begun, view_of}
use Rattle.register.proofs.Laws.Happen.{happen_all}
use Rattle.register.specs.Run.{State, Moment, Mounted, next, play}
use Rattle.register.specs.Removal.{Removes, Bare, Removed, Removals}
use Rattle.register.proofs.Laws.Kept.{view-replayed}
use Rattle.register.proofs.Laws.Run.{led-fed, next-led, run-led, run-met, mounted-led}
use Rattle.register.proofs.Laws.Claim.{accepted-effects}
use Rattle.register.proofs.Laws.Spelling.{issued_in, one-issued}
use Rattle.register.proofs.Laws.Meets.{as-issued}

-- what a removal removes is an operand of it
removed-operand : (o d : ℕ) (n : List ℕ) → member o (operands (Operation.remove o d n)) ≡ true
unfolding operands
removed-operand o d n = member-first o (d ∷ [])

-- on every list of calls from an accepted mount on
pub removals : (g : Geometry) (s : Buffers) (v : Volume) → Mounted g s v → (cs : List Call) → Removals g v (play g s v cs)
removals g s v mounted cs =
    record {
      files = λ m h w. took is_file remove_file (λ x k i d n e. file-removed g x k i d n e) (λ i d n t. refl) m h w;
      directories = λ m h w. took is_directory remove_directory (λ x k i d n e. directory-removed g x k i d n e) (λ i d n t. refl) m h w;
    }
  where
    begin : State
    begin = record { buffers = (mount g s).leaves; register = begun v }

    took : (kind : Entry → Bool) (call : Issuer → ℕ → List ℕ → Call)
        → ((x : Model) → Sound g x → (i : Issuer) (d : ℕ) (n : List ℕ) → (answer_of g (call i d n) x).returned ≡ 0 → Removable x kind d n)
        → ((i : Issuer) (d : ℕ) (n : List ℕ) (t : Told) → accepted_effects (call i d n) t ≡ issuing i.program (removes t.view d n))
        → (m : Moment) → Memᴰ m (play g s v cs).moments → (w : Removes call m) → Removed g v (play g s v cs) kind m w.by.program w.parent w.name
    took kind call takes does m h w =
        let start = mounted-led g s v mounted in
        let met = run-met g v cs begin (mounted_model v) start m h in
        let end = run-led g v cs begin (mounted_model v) start in
        let x = met.model in
        let r = m.before.register in
        let after = next-led g v m.before x met.led m.call in
        let accepted : (answer_of g m.call x).returned ≡ 0 = ap (λ (y : Answer). y.returned) (sym met.answer) ∙ w.accepted in
        let t = takes x met.led.good.kept.sound w.by w.parent w.name (ap (λ (c : Call). (answer_of g c x).returned) (sym w.made) ∙ accepted) in
        let o : Operation = Operation.remove t.object w.parent w.name in
        let effects : effects_in g m.call x ≡ issuing w.by.program (o ∷ []) =
        accepted-effects g m.call x accepted ∙ ap (λ (c : Call). accepted_effects c (told_of x)) w.made
        ∙ does w.by w.parent w.name (told_of x)
        ∙ ap (λ (y : Option ℕ). issuing w.by.program (on_found y (λ i. Operation.remove i w.parent w.name))) t.found in
        let seen : view_of r ≡ x.view = view-replayed g r x met.led.good.kept in
        let a = issued_in w.by.program o r in
        let added : (next g m.call m.before).register.operations ≡ r.operations ++ (a ∷ []) =
        ap (λ (y : Register). y.operations) (led-fed g v m.before x met.led m.call ∙ ap (λ (es : List Effect). happen_all es r) effects) ∙ one-issued w.by.program o r in
        record {
          object = t.object;
          found = ap (λ (y : Volume). search y w.parent w.name) seen ∙ t.found;
          seen = subst (λ (y : Volume). Bare kind y t.object) (sym seen) (t.kind, t.empty);
          removal = a;
          added = added;
          logged = refl;
          sent = λ z.
              let k = as-issued g r _ (play g s v cs).last.register x _ _ met.led.good.kept after.good end.good met.since a added refl refl z in
              let same = k.3 t.object (removed-operand t.object w.parent w.name) in
              record {
                before = k.0;
                after = k.1;
                among = k.2;
                there = subst (λ (y : Volume). Bare kind (replay y k.0) t.object) met.led.mounted (ap kind (sym same.entry) ∙ t.kind, sym same.kids ∙ t.empty);
              };
        }
