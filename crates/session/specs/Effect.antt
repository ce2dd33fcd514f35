-- Document 01, "Calls" and "Order and dependence": the few effects that calls are made of, what each leaves of the volumes and the
-- log, and which a call has.
use Rattle.std.specs.Prelude.{ℕ, List, [], ◌∷◌, ◌++◌, map, cond, get_or, eqb}
use Rattle.std.specs.Prelude.{Option, None, Some}
use Rattle.std.proofs.Math.ListN
use Rattle.returned.specs.Returned
use Rattle.record.specs.Operation.{Operation, Record, operands}
use Rattle.volume_tree.specs.Volume.{Volume}
use Rattle.volume_apply.specs.Apply.{apply}
use Rattle.volume_lookup.specs.Lookup.{lookup_operands}
use Rattle.log_rules.specs.Order.{needed}
use Rattle.log_rules.specs.Change
use Rattle.session.specs.Told.{Told}
use Rattle.session.specs.Class.{Question, lookup, list, stat, read, push, fsync, cut}
use Rattle.session.specs.Class
use Rattle.session.specs.Call.{Call, question, change, link, recovery, Answer}
use Rattle.session.specs.Issue.{operations_of}
use Rattle.session.specs.Model.{Model, with_server, with_view, with_log}

pub data Effect : Type 0 where
  -- program, operands: an accepted call brings the program's dependence on what its operands reach
  note : ℕ → List ℕ → Effect
  -- program, operation: it alters the view, takes a sequence number and waits
  issue : ℕ → Operation → Effect
  -- sequence number: the waiting operation is applied to the server and its slot freed
  send : ℕ → Effect
  -- all waiting operations become lost ones, their dependents are marked, and the view shows the server
  discard : Effect
  -- program: its earliest loss is fetched and its slot freed
  take : ℕ → Effect
  -- program: its mark is cleared
  renew : ℕ → Effect

-- the operation that was found under a sequence number is sent
abbrev pub sent_found : Option Record → Model → Model
sent_found None x = x
sent_found (Some r) x = with_server (apply x.server r.operation) (with_log (Change.sent r.sequence x.log) x)

unfoldable pub perform : Effect → Model → Model
perform (note p ops) x = with_log (Change.note p ops x.log) x
-- "Each accepted change, and forder, alters the view, takes one sequence number and waits"; "The server is untouched."
perform (issue p o) x = with_view (apply x.view o) (with_log (Change.issue p o x.log) x)
-- "Push sends the waiting operation of a given sequence number and frees its slot."
perform (send q) x = sent_found (Change.waiting_at q x.log) x
-- "Cut turns all waiting ones into lost ones, marks the dependents, and copies the server to the view."
perform discard x = with_view x.server (with_log (Change.discard x.log) x)
-- "Take writes the earliest loss of a program and frees its slot. Renew clears its mark."
perform (take p) x = with_log (Change.taken p x.log) x
perform (renew p) x = with_log (Change.renewed p x.log) x

-- one after the other
unfoldable pub perform_all : List Effect → Model → Model
perform_all [] x = x
perform_all (e ∷ es) x = perform_all es (perform e x)

-- sends of some operations, in their order
abbrev pub sends : List Record → List Effect
sends l = map (λ (r : Record). send r.sequence) l

-- the operations of one call: each brings its dependence and is issued
unfoldable pub issuing : ℕ → List Operation → List Effect
issuing p [] = []
issuing p (o ∷ os) = note p (operands o) ∷ issue p o ∷ issuing p os

-- "Lookup's operands are the directories it searches and the object found; the others have their object."
abbrev pub asked_of : Volume → Question → List ℕ
asked_of v (lookup s) = lookup_operands v s
asked_of v (list o s) = o ∷ []
asked_of v (stat o) = o ∷ []
asked_of v (read o f s) = o ∷ []

-- what an accepted call does. Fsync "needs d sends .. in issue order"
abbrev pub accepted_effects : Call → Told → List Effect
accepted_effects (question p q) t = note p (asked_of t.view q) ∷ []
accepted_effects (change i c) t = issuing i.program (operations_of t c)
accepted_effects (link (push q)) t = send q ∷ []
accepted_effects (link (fsync p o k)) t = note p (o ∷ []) ∷ sends (needed o t.waiting)
accepted_effects (link cut) t = discard ∷ []
accepted_effects (recovery p (Class.take s)) t = take p ∷ []
accepted_effects (recovery p Class.renew) t = renew p ∷ []

-- "no buffer changes, with two exceptions. Refusal 17 sends the first k, then cuts": "Fsync counts as such a call even if the link
-- fails". Refusal 2 "without a cut, keeps the sends before it", as many as it reports
abbrev pub broken_sync : ℕ → ℕ → ℕ → Answer → List Record → List Effect
broken_sync p o k a need =
    cond (eqb a.returned Returned.link_lost) (note p (o ∷ []) ∷ (sends (ListN.take k need) ++ (discard ∷ [])))
    (cond (eqb a.returned Returned.damaged) (sends (ListN.take (get_or a.results 0 0) need)) [])

abbrev pub refused_effects : Call → Answer → Told → List Effect
refused_effects (question p q) a t = []
refused_effects (change i c) a t = []
refused_effects (link (push q)) a t = []
refused_effects (link (fsync p o k)) a t = broken_sync p o k a (needed o t.waiting)
refused_effects (link cut) a t = []
refused_effects (recovery p l) a t = []

-- what a call does, told from its arguments, its answer, and what it is told
unfoldable pub effects_of : Call → Answer → Told → List Effect
effects_of c a t = cond (eqb a.returned Returned.accepted) (accepted_effects c t) (refused_effects c a t)
