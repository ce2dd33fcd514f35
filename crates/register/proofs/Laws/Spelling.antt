-- Letter case in names, on every list of calls: no two names of one directory are the same; a rename to another spelling displaces nothing
-- and leaves that spelling. And on any buffers: two such names in one directory are refused with 2, by mount and by every call.
use Rattle.std.specs.Prelude.{ℕ, ◌+◌, ◌≡◌, ◌⊎◌, Bool, true, false, ◌&&◌, cond, length}
use Rattle.std.proofs.Math.Path.{refl}
use Rattle.std.proofs.Common.{sym, ap, ◌∙◌, subst, subst₂, ⊎_elim, eq-eqb}
use mathlib.Core.List.{List, [], ◌∷◌, ◌++◌, Memᴰ}
use Rattle.std.proofs.Math.Bool.{and-eq-true_iff}
use Rattle.std.specs.Prelude.{Option, None, Some}
use Rattle.returned.specs.Returned
use Rattle.names.specs.Name.{same_name}
use Rattle.names.proofs.Laws.Name.{same_refl}
use Rattle.record.specs.Operation.{Operation, Record, record_of}
use Rattle.volume_entry.specs.Entry.{name_of}
use Rattle.volume_tree.specs.Volume.{Volume, entry_at, is_child, search}
use Rattle.volume_tree.specs.Form.{well_formed}
use Rattle.volume_tree.specs.Stored.{read_volume, decode_volume}
use Rattle.volume_tree.specs.Laws.Search.{Named, named-inv, search-spelling}
use Rattle.volume_tree.specs.Laws.Change.{well-formed-sound}
use Rattle.volume_apply.specs.Apply.{applies, apply}
use Rattle.volume_apply.specs.Spelling.{Respelled}
use Rattle.volume_apply.proofs.Laws.Spelling.{respelled}
use Rattle.log_rules.specs.Slot.{Log}
use Rattle.session.specs.Told.{Told}
use Rattle.session.specs.Call.{Geometry, Buffers, Issuer, Call, rename, Answer, answer, in_range, lengths_fit}
use Rattle.session.specs.Model.{Model, mounted_model, told_of}
use Rattle.session.specs.Issue.{displaced, on_found, issues}
use Rattle.session.specs.Effect.{Effect, issuing, accepted_effects, perform, perform_all}
use Rattle.session.specs.Step.{answer_of, effects_in, leaves_of, turned_down, join_model, decode_model, step, mount}
use Rattle.session.proofs.Laws.Possible.{Sound}
use Rattle.session.proofs.Laws.Edit.{rename-accepted}
use Rattle.register.specs.Replay.{replay}
use Rattle.register.specs.Register.{Register, begun, Acknowledged, waiting, view_of}
use Rattle.register.proofs.Laws.Happen.{happen, happen_all}
use Rattle.register.specs.Run.{State, Moment, Mounted, next, play}
use Rattle.register.specs.Spelling.{TwoAlike, SameNames, NewSpelling, Spellings}
use Rattle.register.proofs.Laws.Kept.{view-replayed}
use Rattle.register.proofs.Laws.Run.{Led, led-fed, next-led, run-led, run-met, last_model, mounted-led, read-once}
use Rattle.register.proofs.Laws.Claim.{accepted-effects, demand}

-- in a well-formed volume no two objects of one directory have the same name
pub none_alike : (n b : ℕ) (v : Volume) → well_formed n b v ≡ true → TwoAlike v → ⊥
none_alike n b v w t =
    let m = name_of (entry_at v t.other) in
    let named : (i : ℕ) → is_child v t.directory i ≡ true → same_name (name_of (entry_at v i)) m ≡ true → Named v t.directory m i =
    λ i c e. named-inv v t.directory m i ((and-eq-true_iff (is_child v t.directory i) _).1 (c, e)) in
    t.differ ((well-formed-sound n b v w).one t.directory m t.one t.other (named t.one t.first t.same) (named t.other t.second (same_refl m)))

-- so bytes that tell of two are not of the right form
alike-unread : (n b : ℕ) (s : List ℕ) → TwoAlike (read_volume n b s) → decode_volume n b s ≡ None
unfolding decode_volume
alike-unread n b s t = go (well_formed n b (read_volume n b s)) refl
  where
    go : (f : Bool) → well_formed n b (read_volume n b s) ≡ f → decode_volume n b s ≡ None
    go true e = absurd (none_alike n b (read_volume n b s) e t)
    go false e = rw e

-- "Mount refuses by 2 a volume with two such names in one directory"
pub alike-unmounted : (g : Geometry) (s : Buffers) → in_range g && lengths_fit g s ≡ true → TwoAlike (read_volume g.objects g.blocks s.server)
    → mount g s ≡ record { gives = answer Returned.damaged [] []; leaves = s }
unfolding mount
alike-unmounted g s f t = rw (f, alike-unread g.objects g.blocks s.server t)

-- and so does every other call, be they on the server or in the view
pub alike-refused : (g : Geometry) (s : Buffers) → in_range g && lengths_fit g s ≡ true
    → TwoAlike (read_volume g.objects g.blocks s.server) ⊎ TwoAlike (read_volume g.objects g.blocks s.view)
    → (c : Call) → step g c s ≡ turned_down Returned.damaged c s
unfolding step decode_model
alike-refused g s f t c =
    ⊎_elim (λ (h : TwoAlike (read_volume g.objects g.blocks s.server)). rw (f, alike-unread _ _ _ h))
    (λ (h : TwoAlike (read_volume g.objects g.blocks s.view)). rw (f, alike-unread _ _ _ h, unjoined (decode_volume g.objects g.blocks s.server) _)) t
  where
    unjoined : (x : Option Volume) (l : Option Log) → join_model x None l ≡ None
    unjoined None l = refl
    unjoined (Some v) l = refl

-- what an accepted rename in one parent to another spelling issues
pub record Issued (t : Told) (i : Issuer) (d : ℕ) (n k : List ℕ) : Type 0 where
  pub object : ℕ
  pub found : search t.view d n ≡ Some object
  pub operation : issues t (rename i d n d k) ≡ Operation.rename object d d None n k ∷ []
  pub fit : applies t.view (Operation.rename object d d None n k) ≡ true

spelling-issued : (g : Geometry) (x : Model) → Sound g x → (i : Issuer) (d : ℕ) (n k : List ℕ) → (answer_of g (rename i d n d k) x).returned ≡ 0 → same_name n k ≡ true → Issued (told_of x) i d n k
unfolding answer_of
spelling-issued g x s i d n k a e =
    let v = x.view in
    let f = rename-accepted g x s i d n d k a in
    let o = f.0 in
    let none-displaced : displaced o (search v d k) ≡ None =
    ap (displaced o) (sym (search-spelling v d n k e) ∙ f.1) ∙ ap (λ (t : Bool). cond t None (Some o)) (eq-eqb o o refl) in
    record {
      object = o;
      found = f.1;
      operation =
          ap (λ (y : Option ℕ). on_found y (λ i. Operation.rename i d d (displaced i (search v d k)) n k)) f.1
          ∙ ap (λ (y : Option ℕ). Operation.rename o d d y n k ∷ []) none-displaced;
      fit = ap (λ (y : Option ℕ). applies v (Operation.rename o d d y n k)) (sym none-displaced) ∙ f.2.fit.0;
    }

-- an operation that a call issues, as the register adds it, and as the view has it
module _ (p : ℕ) (o : Operation) where
  abbrev pub issued_in : Register → Acknowledged
  issued_in r = record { recorded = record_of (length r.operations + 1) p o; issued = r.happened + 1; fate = waiting }

  pub one-issued : (r : Register) → (happen_all (issuing p (o ∷ [])) r).operations ≡ r.operations ++ (issued_in r ∷ [])
  unfolding issuing happen_all happen
  one-issued r = refl

  one-performed : (x : Model) → (perform_all (issuing p (o ∷ [])) x).view ≡ apply x.view o
  unfolding issuing perform_all perform
  one-performed x = refl

-- a replay and one operation more, which applies
replay-one : (v : Volume) (l : List Record) (q : Record) → applies (replay v l) q.operation ≡ true → replay v (l ++ (q ∷ [])) ≡ apply (replay v l) q.operation
unfolding replay
replay-one v [] q e = rw e
replay-one v (r ∷ l) q e = replay-one (cond (applies v r.operation) (apply v r.operation) v) l q e

-- on every list of calls from an accepted mount on
pub spellings : (g : Geometry) (s : Buffers) (v : Volume) → Mounted g s v → (cs : List Call) → Spellings g v (play g s v cs)
unfolding leaves_of
spellings g s v mounted cs =
    record {
      apart =
          λ x e.
          let sound : Sound g x = subst (Sound g) (read-once g _ _ x led.holds e) led.holds.sound in
          (none_alike _ _ x.server sound.server, none_alike _ _ x.view sound.view);
      renamed = spelled;
      sent =
          λ before after q e o p n k is.
          let fit = (demand g s v mounted cs).applied before after q e in
          subst (λ (w : Volume). Respelled (replay v before) w o k) (sym (replay-one v before q fit ∙ ap (apply (replay v before)) is))
          (respelled (replay v before) o p n k (ap (applies (replay v before)) (sym is) ∙ fit));
    }
  where
    begin : State
    begin = record { buffers = (mount g s).leaves; register = begun v }

    led : Led g v (play g s v cs).last (last_model g v cs (mounted_model v))
    led = run-led g v cs begin (mounted_model v) (mounted-led g s v mounted)

    spelled : (m : Moment) → Memᴰ m (play g s v cs).moments → (w : SameNames m) → NewSpelling g m w
    spelled m h w =
        let met = run-met g v cs begin (mounted_model v) (mounted-led g s v mounted) m h in
        let x = met.model in
        let r = m.before.register in
        let after = next-led g v m.before x met.led m.call in
        let accepted : (answer_of g m.call x).returned ≡ 0 = ap (λ (y : Answer). y.returned) (sym met.answer) ∙ w.accepted in
        let i = spelling-issued g x met.led.good.kept.sound w.by w.parent w.name w.second_name (ap (λ (c : Call). (answer_of g c x).returned) (sym w.call) ∙ accepted) w.same in
        let o : Operation = Operation.rename i.object w.parent w.parent None w.name w.second_name in
        let effects : effects_in g m.call x ≡ issuing w.by.program (o ∷ []) =
        accepted-effects g m.call x accepted ∙ ap (λ (c : Call). accepted_effects c (told_of x)) w.call ∙ ap (issuing w.by.program) i.operation in
        let seen : view_of r ≡ x.view = view-replayed g r x met.led.good.kept in
        let left : view_of (next g m.call m.before).register ≡ apply x.view o =
        view-replayed g _ _ after.good.kept ∙ ap (λ (es : List Effect). (perform_all es x).view) effects ∙ one-performed w.by.program o x in
        record {
          object = i.object;
          found = ap (λ (y : Volume). search y w.parent w.name) seen ∙ i.found;
          renaming = issued_in w.by.program o r;
          added = ap (λ (y : Register). y.operations) (led-fed g v m.before x met.led m.call ∙ ap (λ (es : List Effect). happen_all es r) effects) ∙ one-issued w.by.program o r;
          waits = refl;
          logged = refl;
          view =
              subst₂ (λ (y z : Volume). Respelled y z i.object w.second_name) (sym seen) (sym left)
              (respelled x.view i.object w.parent w.name w.second_name i.fit);
        }
