-- Every list of calls keeps what is kept: each call, accepted or refused, and with it the whole list.
use Rattle.std.specs.Prelude.{ℕ, ◌≡◌, refl}
use Rattle.std.proofs.Math.Path.{sym, ap, subst}
use Rattle.std.proofs.Common.{◌∙◌}
use Rattle.std.proofs.Math.Logic.{⊎_elim}
use mathlib.Core.List.Memᴰ
use mathlib.Core.List.{List, [], ◌∷◌, ◌++◌, map, Memᴰ, append_assoc, append-nil, map-append}
use Rattle.std.specs.Prelude.{Some}
use Rattle.record.specs.Operation.{Record}
use Rattle.record.specs.Fields.{encode}
use Rattle.volume_tree.specs.Volume.{Volume}
use Rattle.session.specs.Call.{Geometry, Buffers, Call, Answer}
use Rattle.session.specs.Model.{Model, mounted_model}
use Rattle.session.specs.Effect.{Effect, note, issue, send, discard, take, renew, perform}
use Rattle.session.specs.Step.{answer_of, effects_in, leaves_of, step, mount, decode_model}
use Rattle.session.proofs.Laws.Possible.{Possible}
use Rattle.session.proofs.Laws.Effect.{perform-sound}
use Rattle.session.proofs.Laws.Call.{call-possible}
use Rattle.session.proofs.Laws.Step.{Holds, step-holds, mount-holds}
use Rattle.register.specs.Register.{Register, begun}
use Rattle.register.specs.Feed.{feed}
use Rattle.register.proofs.Laws.Happen.{happen, happen_all}
use Rattle.register.specs.Run.{State, Moment, Run, next, run, Mounted}
use Rattle.register.specs.Takes.{fetched_by}
use Rattle.register.specs.Takes
use Rattle.register.proofs.Laws.Invariant.{Good}
use Rattle.register.proofs.Laws.Good.{effect-good, good-all, begun-good}
use Rattle.register.proofs.Laws.Fed.{fed}
use Rattle.register.proofs.Laws.Since.{Since, since-same, since-then, all-since}
use Rattle.register.proofs.Laws.Known.{Known, begun-known, known-all}
use Rattle.register.proofs.Laws.Fetched.{Fetched, fetched_in}
use Rattle.register.proofs.Laws.Fetch.{fetched-all, fetched-same}
use Rattle.register.proofs.Laws.Take.{wrote-taken}

-- the buffers store a model, with which the register agrees
pub record Led (g : Geometry) (v : Volume) (s : State) (x : Model) : Type 0 where
  pub holds : Holds g s.buffers x
  pub good : Good g s.register x
  pub known : Known s.register x.log
  pub mounted : s.register.mounted ≡ v

happen-mounted : (e : Effect) (r : Register) → (happen e r).mounted ≡ r.mounted
unfolding happen
happen-mounted (note p ops) r = refl
happen-mounted (issue p o) r = refl
happen-mounted (send q) r = refl
happen-mounted discard r = refl
happen-mounted (take p) r = refl
happen-mounted (renew p) r = refl

all-mounted : (es : List Effect) (r : Register) → (happen_all es r).mounted ≡ r.mounted
unfolding happen_all
all-mounted [] r = refl
all-mounted (e ∷ es) r = all-mounted es (happen e r) ∙ happen-mounted e r

module _ (g : Geometry) where
  -- one effect
  pub effect-kept : (r : Register) (x : Model) (e : Effect) → Good g r x → Possible g x e → Good g (happen e r) (perform e x)
  effect-kept r x e k h = effect-good g r x k e h (perform-sound g x e k.kept.sound h)

  module _ (v : Volume) where
    -- the register is fed with the call's effects on the model
    pub led-fed : (s : State) (x : Model) → Led g v s x → (c : Call) → (next g c s).register ≡ happen_all (effects_in g c x) s.register
    led-fed s x l c = ap (λ (a : Answer). feed c a s.register) (step-holds g c s.buffers x l.holds).gives ∙ fed g s.register x l.good c

    -- one call
    pub next-led : (s : State) (x : Model) → Led g v s x → (c : Call) → Led g v (next g c s) (leaves_of g c x)
    unfolding leaves_of
    next-led s x l c =
        let es = effects_in g c x in
        let can = call-possible g c x l.good.kept.sound in
        let fed = sym (led-fed s x l c) in
        record {
          holds = (step-holds g c s.buffers x l.holds).holds;
          good = subst (λ (r : Register). Good g r (leaves_of g c x)) fed (good-all g es s.register x l.good can (λ y e. perform-sound g y e));
          known = subst (λ (r : Register). Known r (leaves_of g c x).log) fed (known-all g es s.register x l.good l.known can (λ r y e. effect-kept r y e));
          mounted = ap (λ (r : Register). r.mounted) (led-fed s x l c) ∙ all-mounted es s.register ∙ l.mounted;
        }

    pub next-since : (s : State) (x : Model) → Led g v s x → (c : Call) → Since s.register (next g c s).register
    next-since s x l c =
        subst (Since s.register) (sym (led-fed s x l c)) (all-since g (λ e r y. effect-kept r y e) (effects_in g c x) s.register x l.good (call-possible g c x l.good.kept.sound))

    -- what a list of calls leaves of the model
    unfoldable pub last_model : List Call → Model → Model
    last_model [] x = x
    last_model (c ∷ cs) x = last_model cs (leaves_of g c x)

    pub run-led : (cs : List Call) (s : State) (x : Model) → Led g v s x → Led g v (run g cs s).last (last_model cs x)
    unfolding run last_model
    run-led [] s x l = l
    run-led (c ∷ cs) s x l = run-led cs (next g c s) (leaves_of g c x) (next-led s x l c)

    pub run-since : (cs : List Call) (s : State) (x : Model) → Led g v s x → Since s.register (run g cs s).last.register
    unfolding run
    run-since [] s x l = since-same s.register
    run-since (c ∷ cs) s x l =
        since-then s.register (next g c s).register (run g cs (next g c s)).last.register (next-since s x l c) (run-since cs (next g c s) (leaves_of g c x) (next-led s x l c))

    -- what each call of a run met and answered, and that the register went on from there
    pub record Met (m : Moment) (r : Run) : Type 0 where
      pub model : Model
      pub led : Led g v m.before model
      pub answer : m.answer ≡ answer_of g m.call model
      pub since : Since (next g m.call m.before).register r.last.register

    pub run-met : (cs : List Call) (s : State) (x : Model) → Led g v s x → (m : Moment) → Memᴰ m (run g cs s).moments → Met m (run g cs s)
    unfolding run
    run-met [] s x l m h = absurd (Memᴰ.not-nil h)
    run-met (c ∷ cs) s x l m h =
        ⊎_elim
        (λ (e : m ≡ record { call = c; before = s; answer = (step g c s.buffers).gives }).
        subst (λ (n : Moment). Met n (run g (c ∷ cs) s)) (sym e)
        (record { model = x; led = l; answer = (step-holds g c s.buffers x l.holds).gives; since = run-since cs (next g c s) (leaves_of g c x) (next-led s x l c) }))
        (λ (t : Memᴰ m (run g cs (next g c s)).moments).
        let k = run-met cs (next g c s) (leaves_of g c x) (next-led s x l c) m t in
        record { model = k.model; led = k.led; answer = k.answer; since = k.since })
        (Memᴰ.cases_cons h)

    -- what was fetched over a list of calls
    pub record Took (cs : List Call) (s : State) (x : Model) (done : ℕ → List Record) : Type 0 where
      pub all : ℕ → List Record
      pub told : (p : ℕ) → map encode (all p) ≡ fetched_by p (run g cs s).moments
      pub kept : Fetched (run g cs s).last.register.operations (last_model cs x).log.slots (λ p. done p ++ all p)

    pub run-took : (cs : List Call) (s : State) (x : Model) → Led g v s x → (done : ℕ → List Record) → Fetched s.register.operations x.log.slots done → Took cs s x done
    unfolding run last_model fetched_by leaves_of
    run-took [] s x l done f = record { all = λ p. []; told = λ p. refl; kept = fetched-same _ _ done f (λ p. done p ++ []) (λ p. append-nil (done p)) }
    run-took (c ∷ cs) s x l done f =
        let es = effects_in g c x in
        let one = fetched-all g es s.register x l.good done f (call-possible g c x l.good.kept.sound) (λ r y e. effect-kept r y e) in
        let here : Fetched (next g c s).register.operations (leaves_of g c x).log.slots (λ p. done p ++ fetched_in p x es) =
        subst (λ (r : Register). Fetched r.operations (leaves_of g c x).log.slots (λ p. done p ++ fetched_in p x es)) (sym (led-fed s x l c)) one in
        let rest = run-took cs (next g c s) (leaves_of g c x) (next-led s x l c) (λ p. done p ++ fetched_in p x es) here in
        let wrote : (p : ℕ) → Takes.wrote p c (step g c s.buffers).gives ≡ map encode (fetched_in p x es) =
        λ p. ap (Takes.wrote p c) (step-holds g c s.buffers x l.holds).gives ∙ wrote-taken g c x p in
        record {
          all = λ p. fetched_in p x es ++ rest.all p;
          told = λ p. map-append encode (fetched_in p x es) (rest.all p) ∙ (λ i. sym (wrote p) i ++ rest.told p i);
          kept = fetched-same _ _ (λ p. (done p ++ fetched_in p x es) ++ rest.all p) rest.kept (λ p. done p ++ (fetched_in p x es ++ rest.all p)) (λ p. sym (append_assoc (done p) (fetched_in p x es) (rest.all p)));
        }

-- as an accepted mount leaves it
pub mounted-led : (g : Geometry) (s : Buffers) (v : Volume) → Mounted g s v → Led g v (record { buffers = (mount g s).leaves; register = begun v }) (mounted_model v)
mounted-led g s v m =
    let mh = mount-holds g s m.accepted in
    let both : Some mh.0 ≡ Some v = sym mh.1 ∙ m.server in
    let v-is : mh.0 ≡ v = cc in
    let holds : Holds g (mount g s).leaves (mounted_model v) = subst (λ (w : Volume). Holds g (mount g s).leaves (mounted_model w)) v-is mh.2 in
    record { holds = holds; good = begun-good g v holds.sound; known = begun-known v; mounted = refl }

-- a model that buffers store is read from them
pub read-once : (g : Geometry) (s : Buffers) (x y : Model) → Holds g s x → decode_model g s ≡ Some y → x ≡ y
read-once g s x y h e = let both : Some x ≡ Some y = sym h.read ∙ e in cc
