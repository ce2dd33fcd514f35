-- The demands of document 01 on what calls do: one claim.
use Rattle.std.specs.Prelude.{ℕ, ◌+◌, ◌<◌, ◌≡◌, ◌⊎◌, ◌↔◌, Bool, true, false, cond, length, replicate, take, eqb}
use mathlib.Core.List.{List, [], ◌∷◌, ◌++◌, map, Memᴰ}
use Rattle.std.specs.Prelude.{Some}
use Rattle.returned.specs.Returned
use Rattle.record.specs.Operation.{Operation, Record, operands}
use Rattle.record.specs.Fields.{encode, valid}
use Rattle.record.specs.Decode.{decode_record}
use Rattle.volume_tree.specs.Volume.{Volume}
use Rattle.volume_tree.specs.Stored.{encode_volume}
use Rattle.volume_apply.specs.Apply.{applies, apply}
use Rattle.log_rules.specs.Programs.{holds}
use Rattle.log_rules.specs.Slot.{Slot, with_slots, sequence_of, is_waiting as slot_waits}
use Rattle.log_rules.specs.Order.{any, PrecedesIn, needed}
use Rattle.log_rules.specs.Change.{waiting_of, losses_of}
use Rattle.session.specs.Class.{Question, Change}
use Rattle.session.specs.Call.{Geometry, Buffers, Issuer, Call, question, change, fsync, push, cut, take as take_loss, renew, Answer, result_count, own_buffer}
use Rattle.session.specs.Model.{Model}
use Rattle.session.specs.Step.{Result, Stores, step, mount, decode_model, encode_model}
use Rattle.register.specs.Replay.{replay}
use Rattle.register.specs.Register.{Register, Acknowledged, is_waiting, is_sent, is_lost, sent_in, waiting_in, lost_in, view_of, recorded_of}
use Rattle.register.specs.History.{Is, Precedes, Marked}
use Rattle.register.specs.Feed.{has_object, needed_for, operations_in, operands_in}
use Rattle.register.specs.Fates.{Fates, Nobody, Adds, Enters}
use Rattle.register.specs.Run.{Moment, Run, Mounted, next, play, CouldHaveBeenSent}
use Rattle.register.specs.Takes.{lost_records, fetched_by, accepted_takes, Distinct}

-- each record of a list applies to the replay of those before it
abbrev pub AppliesInTurn : Volume → List Record → Type 0
AppliesInTurn v l = (before after : List Record) (r : Record) → l ≡ before ++ (r ∷ after) → applies (replay v before) r.operation ≡ true

-- the operation of a number is sent
abbrev pub SentAt : Register → ℕ → Type 0
SentAt r q = (a : Acknowledged) × Is a r × (a.recorded.sequence ≡ q) × (is_sent a ≡ true)

-- the waiting operations that a test picks "and their predecessors", as they wait. What a successful fsync covers are those "with that object
-- as operand" (`has_object`) and theirs
pub record Covers (r : Register) (pick : Acknowledged → Bool) (a : Acknowledged) : Type 0 where
  pub acknowledged : Is a r
  pub waits : is_waiting a ≡ true
  pub why : (pick a ≡ true) ⊎ ((b : Acknowledged) × Is b r × (is_waiting b ≡ true) × (pick b ≡ true) × Precedes r a b)

-- no waiting operation precedes one
abbrev pub Unpreceded : Register → Acknowledged → Type 0
Unpreceded r a = (b : Acknowledged) → Is b r → is_waiting b ≡ true → Precedes r b a → ⊥

-- a call that breaks the link, after which a list may end: a cut, or an fsync that was refused with 17
pub data Breaks (m : Moment) : Type 0 where
  by_cut : m.call ≡ cut → Breaks m
  by_fsync : (p o k : ℕ) → m.call ≡ fsync p o k → m.answer.returned ≡ Returned.link_lost → Breaks m

-- every closed set, told by the members' numbers: all that the whole list sent, none that was lost before a call, and no predecessor of
-- a member left out. Where the list ends in that call, and it is a cut or loses the link, the set adds only what this call lost
pub record ClosedSet (before after : Register) (set : ℕ → Bool) : Type 0 where
  pub sent : (a : Acknowledged) → Is a after → is_sent a ≡ true → set a.recorded.sequence ≡ true
  pub added : (a : Acknowledged) → Is a before → is_lost a ≡ true → set a.recorded.sequence ≡ false
  pub closed : (a b : Acknowledged) → Is a after → Is b after → Precedes after a b → set b.recorded.sequence ≡ true → set a.recorded.sequence ≡ true

-- what was fetched by a program, and then what the log still holds of its losses
abbrev pub own_losses : ℕ → Run → Model → List (List ℕ)
own_losses p r x = fetched_by p r.moments ++ map encode (losses_of p x.log.slots)

-- one of the first k operations that an fsync covers, in issue order
abbrev pub First : ℕ → ℕ → Register → Acknowledged → Type 0
First k o r a = Memᴰ a.recorded (take k (needed_for o r))

-- what a call makes of a register r, which then is s: a clause for each sentence of "The register", with the operands that the call has by
-- "Order and dependence"
pub record Registered (r s : Register) (c : Call) (a : Answer) : Type 0 where
  -- "An accepted change or forder adds its operation, waiting, numbered on from 1, its record completed from the replay of the sent and
  -- waiting": it has the operands of its operations
  pub changed :
      (i : Issuer) (d : Change) → c ≡ change i d → a.returned ≡ 0
      → Adds r s i.program (operations_in (view_of r) d) × Enters r s (map (λ (o : Operation). (i.program, operands o)) (operations_in (view_of r) d)) []
  -- "An accepted push sends its operation", which waits
  pub pushed :
      (q : ℕ) → c ≡ push q → a.returned ≡ 0
      → ((b : Acknowledged) × Is b r × (b.recorded.sequence ≡ q) × (is_waiting b ≡ true)) × Fates r s (λ b. b.recorded.sequence ≡ q) Nobody × Enters r s [] []
  -- "an accepted fsync the d it needs (it covers them)"
  pub synced : (p o k : ℕ) → c ≡ fsync p o k → a.returned ≡ 0 → Fates r s (Covers r (has_object o)) Nobody × Enters r s ((p, o ∷ []) ∷ []) []
  -- "refusal 17 the first k", and all else that waits is lost: "Fsync counts as such a call even if the link fails", so its caller is marked
  pub link_lost :
      (p o k : ℕ) → c ≡ fsync p o k → a.returned ≡ Returned.link_lost
      → Fates r s (First k o r) (λ b. (is_waiting b ≡ true) × (First k o r b → ⊥)) × Enters r s ((p, o ∷ []) ∷ []) [] × Marked s p
  -- "A cut .. makes all waiting ones lost."
  pub cut_off : c ≡ cut → a.returned ≡ 0 → Fates r s Nobody (λ b. is_waiting b ≡ true) × Enters r s [] []
  -- "Nothing else here changes it": an accepted question brings its operands, a renewal itself, and a take nothing
  pub asked : (p : ℕ) (q : Question) → c ≡ question p q → a.returned ≡ 0 → (s.operations ≡ r.operations) × Enters r s ((p, operands_in (view_of r) q) ∷ []) []
  pub renewed : (p : ℕ) → c ≡ renew p → a.returned ≡ 0 → (s.operations ≡ r.operations) × Enters r s [] (p ∷ [])
  pub taken : (p : ℕ) (own : List ℕ) → c ≡ take_loss p own → s ≡ r
  -- "Refused calls bring no dependence."
  pub refused : (a.returned ≡ 0 → ⊥) → (a.returned ≡ Returned.link_lost → ⊥) → s ≡ r

-- what a call answers: an accepted change or forder the number of the first operation that the register adds, and it adds some; an accepted
-- fsync how many it needs, and an fsync that loses the link the k that it sends
pub record Answers (r : Register) (c : Call) (a : Answer) : Type 0 where
  pub number :
      (i : Issuer) (d : Change) → c ≡ change i d → a.returned ≡ 0 → (o : Operation) (os : List Operation) → operations_in (view_of r) d ≡ o ∷ os
      → a.results ≡ (length r.operations + 1) ∷ []
  pub some : (i : Issuer) (d : Change) → c ≡ change i d → a.returned ≡ 0 → (o : Operation) × (os : List Operation) × (operations_in (view_of r) d ≡ o ∷ os)
  pub sync : (p o k : ℕ) → c ≡ fsync p o k → a.returned ≡ 0 → a.results ≡ length (needed_for o r) ∷ []
  pub link : (p o k : ℕ) → c ≡ fsync p o k → a.returned ≡ Returned.link_lost → (a.results ≡ k ∷ []) × (k < length (needed_for o r))

-- after a list of calls on what an accepted mount of the volume v left
pub record Demand (g : Geometry) (v : Volume) (r : Run) : Type 0 where
  -- the server's bytes are those of the replay, in issue order, of the sent operations on the mounted volume
  pub replayed : r.last.buffers.server ≡ encode_volume g.blocks (replay v (sent_in r.last.register))
  -- every sent operation applies where it stands in that replay, so none is passed over
  pub applied : AppliesInTurn v (sent_in r.last.register)
  -- no call is refused because an operation being sent does not apply
  pub undamaged : (m : Moment) → Memᴰ m r.moments → m.answer.returned ≡ Returned.damaged → ⊥
  -- the view's bytes are those of the replay of the sent and the waiting ones
  pub viewed : r.last.buffers.view ≡ encode_volume g.blocks (view_of r.last.register)
  -- the three buffers are of the right form: a server volume, a view and a log are read from them
  pub stored : (x : Model) × (decode_model g r.last.buffers ≡ Some x)
  -- what waits in the log is what waits in the register
  pub waits : (x : Model) → decode_model g r.last.buffers ≡ Some x → waiting_of x.log.slots ≡ waiting_in r.last.register
  -- what a program has fetched and what it has still lost in the log is what it has lost
  pub losses : (x : Model) → decode_model g r.last.buffers ≡ Some x → (p : ℕ) → lost_records p r.last.register ≡ own_losses p r x
  -- the sent set leaves out no predecessor of a member
  pub closed : (a c : Acknowledged) → Is a r.last.register → Is c r.last.register → is_sent c ≡ true → Precedes r.last.register a c → is_sent a ≡ true
  -- what fsync of an object needs is exactly what it covers
  pub needs : (o : ℕ) (q : Record) → Memᴰ q (needed_for o r.last.register) ↔ ((a : Acknowledged) × (a.recorded ≡ q) × Covers r.last.register (has_object o) a)
  -- the sent set holds what each successful fsync of the list covered
  pub covered :
      (m : Moment) → Memᴰ m r.moments → (p o k : ℕ) → m.call ≡ fsync p o k → m.answer.returned ≡ 0
      → (a : Acknowledged) → Covers m.before.register (has_object o) a → SentAt r.last.register a.recorded.sequence
  -- each call makes of the register what the paper's sentences say
  pub registered : (m : Moment) → Memᴰ m r.moments → Registered m.before.register (next g m.call m.before).register m.call m.answer
  -- each call answers the numbers of what it did
  pub answered : (m : Moment) → Memᴰ m r.moments → Answers m.before.register m.call m.answer
  -- the push of a waiting operation is accepted if and only if no waiting operation precedes it
  pub pushed :
      (a : Acknowledged) → Is a r.last.register → is_waiting a ≡ true
      → ((step g (push a.recorded.sequence) r.last.buffers).gives.returned ≡ 0) ↔ Unpreceded r.last.register a
  -- every closed set could have been sent: in place of the last call, and of any call of the list
  pub could_have_been_sent :
      (m : Moment) → Memᴰ m r.moments → (set : ℕ → Bool)
      → ClosedSet m.before.register r.last.register set → CouldHaveBeenSent g m.before set
  -- and in place of whatever call would come next
  pub can_be_sent : (set : ℕ → Bool) → ClosedSet r.last.register r.last.register set → CouldHaveBeenSent g r.last set
  -- a program is marked in the log if and only if it depended on something discarded since mount or its last renewal
  pub marked :
      (x : Model) → decode_model g r.last.buffers ≡ Some x → (p : ℕ) → p < 32
      → (holds x.log.head.marks p ≡ true) ↔ Marked r.last.register p
  -- a program's takes fetch its losses in issue order, from the first on
  pub fetched : (p : ℕ) → (left : List (List ℕ)) × (lost_records p r.last.register ≡ fetched_by p r.moments ++ left)
  -- each once
  pub fetched_once : (p : ℕ) → Distinct (fetched_by p r.moments)
  -- all: where a take is refused with 16, none is left
  pub fetched_all :
      (p : ℕ) (own : List ℕ) → (step g (take_loss p own) r.last.buffers).gives.returned ≡ Returned.none
      → fetched_by p r.moments ≡ lost_records p r.last.register
  -- so do as many accepted takes as there are losses
  pub fetched_count : (p : ℕ) → accepted_takes p r.moments ≡ length (lost_records p r.last.register) → fetched_by p r.moments ≡ lost_records p r.last.register
  -- what a take wrote is read as the record of a lost operation of the program, which is valid
  pub decoded :
      (p : ℕ) (b : List ℕ) → Memᴰ b (fetched_by p r.moments)
      → (a : Acknowledged) × Is a r.last.register × (is_lost a ≡ true) × (a.recorded.program ≡ p) × (valid a.recorded ≡ true) × (decode_record b ≡ Some a.recorded)

-- two runs of which each ended in a broken link, and which acknowledged the same operations: what is lost and what was sent determine
-- each other, and the server's bytes
pub record Determined (g h : Geometry) (r q : Run) : Type 0 where
  pub from_lost : lost_in r.last.register ≡ lost_in q.last.register → sent_in r.last.register ≡ sent_in q.last.register
  pub from_sent : sent_in r.last.register ≡ sent_in q.last.register → lost_in r.last.register ≡ lost_in q.last.register
  pub bytes : sent_in r.last.register ≡ sent_in q.last.register → r.last.buffers.server ≡ q.last.buffers.server
  -- as a host sees it, program by program: what was fetched, and then what the log still holds
  pub from_fetched :
      (x y : Model) → decode_model g r.last.buffers ≡ Some x → decode_model h q.last.buffers ≡ Some y
      → ((p : ℕ) → p < 32 → own_losses p r x ≡ own_losses p q y) → sent_in r.last.register ≡ sent_in q.last.register
  pub to_fetched :
      (x y : Model) → decode_model g r.last.buffers ≡ Some x → decode_model h q.last.buffers ≡ Some y
      → sent_in r.last.register ≡ sent_in q.last.register → (p : ℕ) → own_losses p r x ≡ own_losses p q y

-- the last call of a run broke the link
pub record Broken (r : Run) : Type 0 where
  pub moment : Moment
  pub others : List Moment
  pub ends : r.moments ≡ others ++ (moment ∷ [])
  pub breaks : Breaks moment

-- "The other results of a refusal are 0, and no buffer changes, with two exceptions"
pub record Unchanged (c : Call) (s : Buffers) (y : Result) : Type 0 where
  pub buffers : y.leaves ≡ s
  pub results : y.gives.results ≡ replicate (result_count c) 0
  pub own : y.gives.buffer ≡ own_buffer c

-- a push that is accepted: the server has that operation applied, its slot is freed, and all else stands as it stood
pub record Sent (g : Geometry) (x : Model) (q : ℕ) (s : Buffers) : Type 0 where
  pub before : List Slot
  pub slot : Slot
  pub after : List Slot
  pub among : x.log.slots ≡ before ++ (slot ∷ after)
  pub waits : slot_waits slot ≡ true
  pub number : sequence_of slot ≡ q
  pub leaves : s ≡ encode_model g (record { server = apply x.server slot.recorded.operation; view = x.view; log = with_slots (before ++ after) x.log })

-- the slots but for those of some records
unfoldable pub freed_of : List Record → List Slot → List Slot
freed_of l [] = []
freed_of l (s ∷ k) = cond (any (λ r. eqb (sequence_of s) r.sequence) l) (freed_of l k) (s ∷ freed_of l k)

-- an fsync that meets an operation which does not apply: it reports how many were sent before that one, which stay sent, and all else stands
-- as it stood: no cut, no dependence
pub record Stopped (g : Geometry) (k : ℕ) (x : Model) (need : List Record) (y : Result) : Type 0 where
  pub before : List Record
  pub bad : Record
  pub after : List Record
  pub among : need ≡ before ++ (bad ∷ after)
  pub carried : length before < k
  pub applied : AppliesInTurn x.server before
  pub fails : applies (replay x.server before) bad.operation ≡ false
  pub told : y.gives.results ≡ length before ∷ []
  pub leaves : y.leaves ≡ encode_model g (record { server = replay x.server before; view = x.view; log = with_slots (freed_of before x.log.slots) x.log })

-- the whole claim: on every list of calls from an accepted mount on, on two such lists, and on any buffers at all
pub record Demands : Type 0 where
  pub lists : (g : Geometry) (s : Buffers) (v : Volume) → Mounted g s v → (cs : List Call) → Demand g v (play g s v cs)
  -- "Same mounted volume: equal bytes, n and b; same operation .. equal record"
  pub determined :
      (g h : Geometry) (s t : Buffers) (v w : Volume) → Mounted g s v → Mounted h t w
      → g.objects ≡ h.objects → g.blocks ≡ h.blocks → (mount g s).leaves.server ≡ (mount h t).leaves.server
      → (cs ds : List Call) → Broken (play g s v cs) → Broken (play h t w ds)
      → map recorded_of (play g s v cs).last.register.operations ≡ map recorded_of (play h t w ds).last.register.operations
      → Determined g h (play g s v cs) (play h t w ds)
  -- a waiting operation that applies may be sent if and only if nothing that must precede it still waits
  pub pushed :
      (g : Geometry) (s : Buffers) (x : Model) → Stores g s x → (q : Record) → Memᴰ q (waiting_of x.log.slots) → applies x.server q.operation ≡ true
      → ((step g (push q.sequence) s).gives.returned ≡ 0) ↔ ((a : Record) → Memᴰ a (waiting_of x.log.slots) → PrecedesIn (waiting_of x.log.slots) a q → ⊥)
  -- a push that is accepted sends just its operation
  pub sends :
      (g : Geometry) (s : Buffers) (x : Model) → Stores g s x → (q : ℕ) → (step g (push q) s).gives.returned ≡ 0 → Sent g x q (step g (push q) s).leaves
  -- a refused call changes nothing, but for fsync with 17, and with 2 where the buffers are of the right form
  pub unchanged :
      (g : Geometry) (c : Call) (s : Buffers) → ((step g c s).gives.returned ≡ 0 → ⊥) → ((step g c s).gives.returned ≡ Returned.link_lost → ⊥)
      → ((step g c s).gives.returned ≡ Returned.damaged → (x : Model) → Stores g s x → (p o k : ℕ) → c ≡ fsync p o k → ⊥) → Unchanged c s (step g c s)
  -- an fsync reports how many were sent before the operation that does not apply, and leaves these sent
  pub stopped :
      (g : Geometry) (s : Buffers) (x : Model) → Stores g s x → (p o k : ℕ) → (step g (fsync p o k) s).gives.returned ≡ Returned.damaged
      → Stopped g k x (needed o (waiting_of x.log.slots)) (step g (fsync p o k) s)
  -- a loss record is read if and only if it could be written: bytes begin with a valid record's, and are read as that record
  pub read : (s : List ℕ) (q : Record) → (decode_record s ≡ Some q) ↔ ((valid q ≡ true) × ((rest : List ℕ) × (s ≡ encode q ++ rest)))
