-- What the counted sends of an fsync come to. Assumes nothing.
use Rattle.std.specs.Prelude.{ℕ, suc, ◌≤◌, ◌<◌, min, ◌≡◌, Bool, cond, length, take}
use Rattle.std.proofs.Common.{arith, sym, ◌∙◌, subst, length-take}
use Rattle.std.proofs.Math.Path.{ap}
use mathlib.Core.List.{List, [], ◌∷◌}
use Rattle.std.proofs.Math.Bool.{true, false}
use Rattle.std.proofs.Math.Dec.{leb, ltb}
use borrow.Author.Tests.{lt-ltb, le-ltb, le-leb, lt-leb}
use Rattle.record.specs.Operation.{Record}
use Rattle.volume_tree.specs.Volume.{Volume}
use Rattle.volume_tree.specs.Stored.{encode_volume}
use Rattle.volume_apply.specs.Apply.{applies, apply}
use Rattle.log_rules.specs.Slot.{Slot, Log, well_formed_log, with_slots}
use Rattle.log_rules.specs.Stored.{encode_log, read_log}
use Rattle.log_rules.proofs.Laws.Stored.{read-log}
use Rattle.log_rules.specs.Order.{needed}
use Rattle.log_rules.specs.Change.{waiting_of, note, discard}
use Rattle.log_rules.proofs.Laws.Change.{note-good}
use Rattle.log_rules.specs.Sends.{applying, apply_all, sent_all}
use Rattle.log_rules.proofs.Laws.Freed.{formed-rising, sent-kept, kept-formed, chosen-noted, wait-noted}
use Rattle.log_rules.proofs.Laws.Geometry.{logged-whole}
use Rattle.log_rules.specs.Code.Slots.{Logged}
use Rattle.log_rules.specs.Code.Flags.{chosen, kept, AllWait}
use Rattle.log_send.specs.Code.Sends.{SentFound}
use Rattle.log_fsync.specs.declared.Synced.{Synced}
use Rattle.log_fsync.specs.declared.Synced.TheVariants.{Sent, Stopped, Lost}
use Rattle.log_fsync.specs.Code.Synced.{needed_in, sync_result, SyncLeaves}

-- At most all of some operations apply.
applying-most : (rs : List Record) (v : Volume) → applying rs v ≤ length rs
unfolding applying
applying-most [] v = omega arith
applying-most (r ∷ rs) v = go (applies v r.operation) (applying-most rs (apply v r.operation))
  where
    go : (t : Bool) → applying rs (apply v r.operation) ≤ length rs → cond t (suc (applying rs (apply v r.operation))) 0 ≤ suc (length rs)
    go true h = omega arith
    go false h = omega arith

-- what is known after the operations that an object needs were found and sent
pub record Counted (b k : ℕ) (need : List Record) (v : Volume) (slots : List Slot) (server found : List ℕ) (sent d : ℕ) : Type 0 where
  pub all : d ≡ length need
  pub count : sent ≡ applying (take k need) v
  pub first : chosen found slots ≡ take sent need
  pub waits : AllWait found slots
  pub server' : server ≡ encode_volume b (apply_all (take sent need) v)

pub counted : (b k o : ℕ) (v : Volume) (l : Log) (j : List Slot) (server found₁ found₂ : List ℕ) (sent d : ℕ) → j ≡ l.slots
    → chosen found₁ j ≡ needed o (waiting_of j) → AllWait found₁ j → d ≡ length (needed o (waiting_of j)) → SentFound b k j v found₁ server found₂ sent
    → Counted b k (needed_in o l) v l.slots server found₂ sent d
counted b k o v l j server found₁ found₂ sent d e f w c h =
    let n : chosen found₁ j ≡ needed_in o l = f ∙ ap (λ (y : List Slot). needed o (waiting_of y)) e in
    record {
      all = c ∙ ap (λ (y : List Slot). length (needed o (waiting_of y))) e;
      count = h.count ∙ ap (λ (y : List Record). applying (take k y) v) n;
      first = ap (chosen found₂) (sym e) ∙ h.first ∙ ap (take sent) n;
      waits = subst (AllWait found₂) e (h.waits w);
      server' = h.server ∙ ap (λ (y : List Record). encode_volume b (apply_all (take sent y) v)) n;
    }

module _ (b k p o m : ℕ) (v : Volume) (l : Log) (server found : List ℕ) (sent d : ℕ) (c : Counted b k (needed_in o l) v l.slots server found sent d) where
  -- The first k are as many as k and d allow.
  first-long : length (take k (needed_in o l)) ≡ min k d
  first-long = length-take k (needed_in o l) ∙ ap (min k) (sym c.all)

  -- A bad one among them: the answer, the server and the log.
  pub stopped : sent < min k d → (log : List ℕ) → log ≡ encode_log m (sent_all (chosen found l.slots) l) → SyncLeaves b m p o k v l server log (Stopped sent)
  unfolding sync_result
  stopped h log e =
      let t : ltb (applying (take k (needed_in o l)) v) (length (take k (needed_in o l))) ≡ true = lt-ltb (applying (take k (needed_in o l)) v) (length (take k (needed_in o l))) (omega (arith, c.count, first-long)) in
      record {
        gives = rw t (ap {B = Synced} Stopped c.count);
        sent_to = c.server';
        leaves = e ∙ ap (λ (y : List Record). encode_log m (sent_all y l)) c.first;
      }

  -- All that the link carries was sent.
  module _ (h : min k d ≤ sent) where
    all-sent : sent ≡ min k d
    all-sent = let a = applying-most (take k (needed_in o l)) v in omega (arith, c.count, first-long)

    none-bad : ltb (applying (take k (needed_in o l)) v) (length (take k (needed_in o l))) ≡ false
    none-bad = le-ltb (applying (take k (needed_in o l)) v) (length (take k (needed_in o l))) (omega (arith, c.count, first-long))

    -- It was all that is needed.
    pub carried : d ≤ k → (log : List ℕ) → log ≡ encode_log m (sent_all (take sent (needed_in o l)) (note p (o ∷ []) l)) → SyncLeaves b m p o k v l server log (Sent sent)
    unfolding sync_result
    carried g log e =
        let t : leb (length (needed_in o l)) k ≡ true = le-leb (length (needed_in o l)) k (omega (arith, c.all)) in
        record { gives = rw (none-bad, t) (ap {B = Synced} Sent (omega (arith, all-sent, c.all))); sent_to = c.server'; leaves = e }

    -- It was not: the link fell after k.
    pub fell : k < d → (log : List ℕ) → log ≡ encode_log m (discard (sent_all (take sent (needed_in o l)) (note p (o ∷ []) l))) → SyncLeaves b m p o k v l server log (Lost sent)
    unfolding sync_result
    fell g log e =
        let t : leb (length (needed_in o l)) k ≡ false = lt-leb (length (needed_in o l)) k (omega (arith, c.all)) in
        record { gives = rw (none-bad, t) (ap {B = Synced} Lost (omega (arith, all-sent))); sent_to = c.server'; leaves = e }

  -- The log with the program's dependence noted, and then with the slots of what was sent freed.
  module _ (s : List ℕ) (u : Logged 256 64 m s) (e : read_log m s ≡ l) (small : p < 32) (s₁ : List ℕ) (q : s₁ ≡ encode_log m (note p (o ∷ []) (read_log m s))) where
    noted-form : well_formed_log 256 64 m (note p (o ∷ []) l) ≡ true
    noted-form = note-good 256 64 m p (o ∷ []) l small (subst (λ (y : Log). well_formed_log 256 64 m y ≡ true) e u.form)

    noted-is : s₁ ≡ encode_log m (note p (o ∷ []) l)
    noted-is = q ∙ ap (λ (y : Log). encode_log m (note p (o ∷ []) y)) e

    pub noted-logged : Logged 256 64 m s₁
    noted-logged = subst (Logged 256 64 m) (sym noted-is) (logged-whole 256 64 m (note p (o ∷ []) l) noted-form (omega arith) (omega arith) u.most)

    noted_read : read_log m s₁ ≡ note p (o ∷ []) l
    noted_read = ap (read_log m) noted-is ∙ read-log 256 64 m (note p (o ∷ []) l) noted-form

    pub noted-waits : AllWait found (read_log m s₁).slots
    noted-waits = subst (λ (y : Log). AllWait found y.slots) (sym noted_read) (wait-noted found p (o ∷ []) l.slots c.waits)

    module _ (s₂ : List ℕ) (g : s₂ ≡ encode_log m (sent_all (chosen found (read_log m s₁).slots) (read_log m s₁))) where
      pub freed : s₂ ≡ encode_log m (sent_all (take sent (needed_in o l)) (note p (o ∷ []) l))
      freed =
          g ∙ ap (λ (y : Log). encode_log m (sent_all (chosen found y.slots) y)) noted_read
          ∙ ap (λ (y : List Record). encode_log m (sent_all y (note p (o ∷ []) l))) (chosen-noted found p (o ∷ []) l.slots ∙ c.first)

      freed-form : well_formed_log 256 64 m (sent_all (take sent (needed_in o l)) (note p (o ∷ []) l)) ≡ true
      freed-form =
          let x = note p (o ∷ []) l in
          let y : sent_all (take sent (needed_in o l)) x ≡ with_slots (kept found x.slots) x =
          ap (λ (r : List Record). sent_all r x) (sym (chosen-noted found p (o ∷ []) l.slots ∙ c.first))
          ∙ sent-kept x (formed-rising 256 64 m x noted-form) found (wait-noted found p (o ∷ []) l.slots c.waits) in
          subst (λ (z : Log). well_formed_log 256 64 m z ≡ true) (sym y) (kept-formed 256 64 m found x noted-form)

      pub freed-logged : Logged 256 64 m s₂
      freed-logged = subst (Logged 256 64 m) (sym freed) (logged-whole 256 64 m (sent_all (take sent (needed_in o l)) (note p (o ∷ []) l)) freed-form (omega arith) (omega arith) u.most)

      -- What a cut then leaves.
      pub cut-after : (s₃ : List ℕ) → s₃ ≡ encode_log m (discard (read_log m s₂)) → s₃ ≡ encode_log m (discard (sent_all (take sent (needed_in o l)) (note p (o ∷ []) l)))
      cut-after s₃ z = z ∙ ap (λ (y : Log). encode_log m (discard y)) (ap (read_log m) freed ∙ read-log 256 64 m (sent_all (take sent (needed_in o l)) (note p (o ∷ []) l)) freed-form)
