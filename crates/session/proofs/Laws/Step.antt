-- What the entries leave in the buffers: bytes of the right form, for every geometry in range and every call.
use Rattle.std.specs.Prelude.{ℕ, ◌≡◌, refl, [], Bool, true, false, ◌&&◌, cond}
use Rattle.std.proofs.Common.{arith, sym, ap, subst, eq-eqb}
use Rattle.std.specs.Prelude.{Option, None, Some}
use Rattle.buffer.specs.Decoded.{is_some}
use Rattle.volume_tree.specs.Volume.{Volume}
use Rattle.volume_tree.specs.Stored.{decode_volume}
use Rattle.volume_tree.specs.Laws.Stored as VolumeLaws
use Rattle.log_rules.specs.Slot.{Log, empty_log}
use Rattle.log_rules.proofs.Laws.Slot.{empty-good}
use Rattle.log_rules.specs.Stored.{encode_log}
use Rattle.log_rules.proofs.Laws.Stored as LogLaws
use Rattle.session.specs.Call.{Geometry, Buffers, Call, in_range, server_fits, lengths_fit}
use Rattle.session.specs.Model.{Model, mounted_model, agreeing}
use Rattle.session.specs.Step.{Result, Stores, answer_of, leaves_of, encode_model, join_model, decode_model, on_model, step, mount}
use Rattle.session.proofs.Laws.Possible.{Sound}
use Rattle.session.proofs.Laws.Agree.{mounted-agrees}
use Rattle.session.proofs.Laws.Edit.{objects-few, blocks-few}
use Rattle.session.proofs.Laws.Call.{call-sound}

-- buffers of the right lengths that store a model
pub record Holds (g : Geometry) (s : Buffers) (x : Model) : Type 0 where
  pub sound : Sound g x
  pub fit : lengths_fit g s ≡ true
  pub stored : encode_model g x ≡ s
  pub read : decode_model g s ≡ Some x

-- each of the three is read for itself, and together they agree
join-inv : (s v : Option Volume) (l : Option Log) (x : Model) → join_model s v l ≡ Some x
    → (s ≡ Some x.server) × (v ≡ Some x.view) × (l ≡ Some x.log) × (agreeing x ≡ true)
join-inv None v l x e = let z : ◌≡◌ {A = ℕ} 0 1 = cc in absurd (omega arith)
join-inv (Some s) None l x e = let z : ◌≡◌ {A = ℕ} 0 1 = cc in absurd (omega arith)
join-inv (Some s) (Some v) None x e = let z : ◌≡◌ {A = ℕ} 0 1 = cc in absurd (omega arith)
join-inv (Some s) (Some v) (Some l) x e = go (agreeing all) refl e
  where
    all : Model
    all = record { server = s; view = v; log = l }

    go : (t : Bool) → agreeing all ≡ t → cond t (Some all) None ≡ Some x
        → (Some s ≡ Some x.server) × (Some v ≡ Some x.view) × (Some l ≡ Some x.log) × (agreeing x ≡ true)
    go true a f =
        let m : all ≡ x = cc in
        (ap (λ (y : Model). Some y.server) m, ap (λ (y : Model). Some y.view) m, ap (λ (y : Model). Some y.log) m, subst (λ (y : Model). agreeing y ≡ true) m a)
    go false a f = let z : ◌≡◌ {A = ℕ} 0 1 = cc in absurd (omega arith)

-- a sound model is stored in buffers of the right lengths, and read from them again
pub model-stored : (g : Geometry) (x : Model) → Sound g x → Holds g (encode_model g x) x
unfolding lengths_fit server_fits decode_model
model-stored g x s =
    let n = objects-few g s.range in
    let b = blocks-few g s.range in
    let ds = VolumeLaws.decode-encode g.objects g.blocks x.server n b s.server in
    let dv = VolumeLaws.decode-encode g.objects g.blocks x.view n b s.view in
    let dl = LogLaws.decode-encode g.objects g.blocks g.capacity x.log s.log in
    record {
      sound = s;
      fit =
          rw (
            eq-eqb _ _ (VolumeLaws.length-good g.objects g.blocks x.server s.server),
            eq-eqb _ _ (VolumeLaws.length-good g.objects g.blocks x.view s.view),
            eq-eqb _ _ (LogLaws.length-log g.objects g.blocks g.capacity x.log s.log),
          );
      stored = refl;
      read = rw (ds, dv, dl, s.agree);
    }

-- what buffers store is sound, and they are its bytes
pub model-read : (g : Geometry) (s : Buffers) (x : Model) → Stores g s x → Holds g s x
unfolding decode_model
model-read g s x h =
    let j = join-inv _ _ _ x h.read in
    let es = VolumeLaws.encode-decode g.objects g.blocks s.server x.server j.0 in
    let ev = VolumeLaws.encode-decode g.objects g.blocks s.view x.view j.1 in
    let el = LogLaws.encode-decode g.objects g.blocks g.capacity s.log x.log j.2 in
    record {
      sound = record { range = h.range; server = es.0; view = ev.0; log = el.0; agree = j.3 };
      fit = h.lengths;
      stored = λ i. record { server = es.1 i; view = ev.1 i; log = el.1 i };
      read = h.read;
    }

-- a call on buffers that store a model gives the model's answer and leaves what the model's call leaves, of the right form again
pub record Steps (g : Geometry) (c : Call) (s : Buffers) (x : Model) : Type 0 where
  pub gives : (step g c s).gives ≡ answer_of g c x
  pub leaves : (step g c s).leaves ≡ encode_model g (leaves_of g c x)
  pub holds : Holds g (step g c s).leaves (leaves_of g c x)

pub step-holds : (g : Geometry) (c : Call) (s : Buffers) (x : Model) → Holds g s x → Steps g c s x
unfolding step
step-holds g c s x h =
    let is : step g c s ≡ on_model g c s (Some x) = rw (h.sound.range, h.fit, h.read) in
    record {
      gives = ap (λ (y : Result). y.gives) is;
      leaves = ap (λ (y : Result). y.leaves) is;
      holds = subst (λ (y : Buffers). Holds g y (leaves_of g c x)) (sym (ap (λ (y : Result). y.leaves) is)) (model-stored g (leaves_of g c x) (call-sound g c x h.sound));
    }

-- an accepted mount leaves buffers that store the volume of the server's bytes twice and an empty log
pub mount-holds : (g : Geometry) (s : Buffers) → (mount g s).gives.returned ≡ 0 → (v : Volume) × (decode_volume g.objects g.blocks (mount g s).leaves.server ≡ Some v) × Holds g (mount g s).leaves (mounted_model v)
unfolding mount
mount-holds g s e = go (in_range g) (lengths_fit g s) (decode_volume g.objects g.blocks s.server) refl refl refl e
  where
    after : Result
    after =
        record {
          gives = record { returned = 0; results = []; buffer = [] };
          leaves = record { server = s.server; view = s.server; log = encode_log g.capacity empty_log };
        }

    refusal : ℕ → Result
    refusal n = record { gives = record { returned = n; results = []; buffer = [] }; leaves = s }

    go : (r f : Bool) (d : Option Volume) → in_range g ≡ r → lengths_fit g s ≡ f → decode_volume g.objects g.blocks s.server ≡ d
        → (cond (r && f) (cond (is_some d) after (refusal 2)) (refusal 1)).gives.returned ≡ 0
        → (v : Volume) × (decode_volume g.objects g.blocks (cond (r && f) (cond (is_some d) after (refusal 2)) (refusal 1)).leaves.server ≡ Some v)
        × Holds g (cond (r && f) (cond (is_some d) after (refusal 2)) (refusal 1)).leaves (mounted_model v)
    go true true (Some v) hr hf hd k =
        let d = VolumeLaws.encode-decode g.objects g.blocks s.server v hd in
        let sound : Sound g (mounted_model v) = record { range = hr; server = d.0; view = d.0; log = empty-good g.objects g.blocks g.capacity; agree = mounted-agrees v } in
        (v, hd, subst (λ (y : Buffers). Holds g y (mounted_model v)) (λ i. record { server = d.1 i; view = d.1 i; log = encode_log g.capacity empty_log }) (model-stored g (mounted_model v) sound))
    go true true None hr hf hd k = let z : ◌≡◌ {A = ℕ} 0 1 = cc in absurd (omega arith)
    go true false d hr hf hd k = let z : ◌≡◌ {A = ℕ} 0 1 = cc in absurd (omega arith)
    go false f d hr hf hd k = let z : ◌≡◌ {A = ℕ} 0 1 = cc in absurd (omega arith)
