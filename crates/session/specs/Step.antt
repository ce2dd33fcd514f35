-- What each entry does, on all inputs: format, mount, and every call over the three buffers.
use Rattle.std.specs.Prelude.{ℕ, ◌≡◌, List, [], true, ◌&&◌, cond}
use Rattle.std.specs.Prelude.{Option, None, Some}
use Rattle.buffer.specs.Decoded.{is_some}
use Rattle.returned.specs.Returned
use Rattle.volume_tree.specs.Volume.{Volume, formatted}
use Rattle.volume_tree.specs.Stored.{encode_volume, decode_volume}
use Rattle.log_rules.specs.Slot.{Log, empty_log}
use Rattle.log_rules.specs.Stored.{encode_log, decode_log}
use Rattle.session.specs.Class.{push, fsync, cut, take, renew}
use Rattle.session.specs.Call.{Geometry, Buffers, Call, question, change, link, recovery, Answer, answer, refusal, in_range, server_fits, lengths_fit}
use Rattle.session.specs.Model.{Model, agreeing, told_of}
use Rattle.session.specs.Effect.{Effect, perform_all, effects_of}
use Rattle.session.specs.Question.{asked, question_answer}
use Rattle.session.specs.Edit.{changed, change_rows}
use Rattle.session.specs.Send.{push_of, fsync_of, take_of, renew_of}

-- what a call answers
unfoldable pub answer_of : Geometry → Call → Model → Answer
answer_of g (question p q) x = asked (question p q) p x (question_answer x.view q)
answer_of g (change i c) x = changed g (change i c) i.program (change_rows g x.view c) x
answer_of g (link (push q)) x = push_of q x
answer_of g (link (fsync p o k)) x = fsync_of p o k x
answer_of g (link cut) x = answer Returned.accepted [] []
answer_of g (recovery p (take s)) x = take_of p s x
answer_of g (recovery p renew) x = renew_of p x

-- what a call does to the volumes and the log, and what these then are
abbrev pub effects_in : Geometry → Call → Model → List Effect
effects_in g c x = effects_of c (answer_of g c x) (told_of x)

unfoldable pub leaves_of : Geometry → Call → Model → Model
leaves_of g c x = perform_all (effects_in g c x) x

-- what an entry answers and what it leaves in the three buffers; its own buffer is in the answer
pub record Result : Type 0 where
  pub gives : Answer
  pub leaves : Buffers

-- the returned number, the other results, the call's own buffer as it is left, and the three buffers as they are left
abbrev pub given : ℕ → List ℕ → List ℕ → Buffers → Result
given n r own s = record { gives = answer n r own; leaves = s }

abbrev pub turned_down : ℕ → Call → Buffers → Result
turned_down n c s = record { gives = refusal n c; leaves = s }

abbrev pub encode_model : Geometry → Model → Buffers
encode_model g x =
    record {
      server = encode_volume g.blocks x.server;
      view = encode_volume g.blocks x.view;
      log = encode_log g.capacity x.log;
    }

-- a model whose parts agree
abbrev pub if_agreeing : Model → Option Model
if_agreeing x = cond (agreeing x) (Some x) None

-- the model that the three buffers store: each of the three has its own form, and together they agree
abbrev pub join_model : Option Volume → Option Volume → Option Log → Option Model
join_model None v l = None
join_model (Some s) None l = None
join_model (Some s) (Some v) None = None
join_model (Some s) (Some v) (Some l) = if_agreeing (record { server = s; view = v; log = l })

unfoldable pub decode_model : Geometry → Buffers → Option Model
decode_model g s =
    join_model (decode_volume g.objects g.blocks s.server) (decode_volume g.objects g.blocks s.view)
    (decode_log g.objects g.blocks g.capacity s.log)

-- buffers of the right lengths, for a geometry in range, that store a model
pub record Stores (g : Geometry) (s : Buffers) (x : Model) : Type 0 where
  pub range : in_range g ≡ true
  pub lengths : lengths_fit g s ≡ true
  pub read : decode_model g s ≡ Some x

abbrev pub on_model : Geometry → Call → Buffers → Option Model → Result
on_model g c s None = turned_down Returned.damaged c s
on_model g c s (Some x) = record { gives = answer_of g c x; leaves = encode_model g (leaves_of g c x) }

-- "1 Wrong buffer", then "2 Damaged: stored form broken", then the call: "Every other entry is lent all three and checks their form."
unfoldable pub step : Geometry → Call → Buffers → Result
step g c s = cond (in_range g && lengths_fit g s) (on_model g c s (decode_model g s)) (turned_down Returned.wrong_buffer c s)

-- "Format looks only at the server volume's length"
unfoldable pub format : Geometry → List ℕ → ℕ
format g s = cond (in_range g && server_fits g s) Returned.accepted Returned.wrong_buffer

unfoldable pub format_leaves : Geometry → List ℕ → List ℕ
format_leaves g s = cond (in_range g && server_fits g s) (encode_volume g.blocks (formatted g.objects)) s

-- "Mount checks the server volume, copies it to the view and begins an empty log"; "mount at all three lengths and the server
-- volume's form"
unfoldable pub mount : Geometry → Buffers → Result
mount g s =
    cond (in_range g && lengths_fit g s)
    (cond (is_some (decode_volume g.objects g.blocks s.server))
    (record {
      gives = answer Returned.accepted [] [];
      leaves = record { server = s.server; view = s.server; log = encode_log g.capacity empty_log };
    })
    (record { gives = answer Returned.damaged [] []; leaves = s }))
    (record { gives = answer Returned.wrong_buffer [] []; leaves = s })
