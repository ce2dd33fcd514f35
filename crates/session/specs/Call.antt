-- Document 01, "Calls": the calls with their arguments (the three buffers apart), what each answers, and what they are
-- lent.
use Rattle.std.specs.Prelude.{ℕ, List, [], Bool, ◌&&◌, length, replicate, eqb}
use Rattle.buffer.specs.Geometry.{good_objects, good_blocks, good_capacity}
use Rattle.volume_tree.specs.Stored.{volume_bytes}
use Rattle.log_rules.specs.Stored.{log_bytes}
use Rattle.session.specs.Class.{Question, Change, Link, Recovery}
use Rattle.session.specs.Class

-- "A caller gives n objects .., b blocks a file .. and m log slots"
pub record Geometry : Type 0 where
  pub objects : ℕ
  pub blocks : ℕ
  pub capacity : ℕ

abbrev pub geometry : ℕ → ℕ → ℕ → Geometry
geometry n b m = record { objects = n; blocks = b; capacity = m }

-- "It lends a server volume, a view and a log."
pub record Buffers : Type 0 where
  pub server : List ℕ
  pub view : List ℕ
  pub log : List ℕ

abbrev pub buffers : List ℕ → List ℕ → List ℕ → Buffers
buffers s v l = record { server = s; view = v; log = l }

-- who makes a change: a program, which is given by its number
pub record Issuer : Type 0 where
  pub program : ℕ

abbrev pub issuer : ℕ → Issuer
issuer p = record { program = p }

-- a call with its arguments; a question and a recovery are a program's too
pub data Call : Type 0 where
  question : ℕ → Question → Call
  change : Issuer → Change → Call
  link : Link → Call
  recovery : ℕ → Recovery → Call

-- the calls by their names, each with its program or issuer first where it has one
abbrev pub lookup : ℕ → List ℕ → Call
lookup p s = question p (Class.lookup s)

abbrev pub list : ℕ → ℕ → List ℕ → Call
list p o s = question p (Class.list o s)

abbrev pub stat : ℕ → ℕ → Call
stat p o = question p (Class.stat o)

abbrev pub read : ℕ → ℕ → ℕ → List ℕ → Call
read p o f s = question p (Class.read o f s)

abbrev pub create_file : Issuer → ℕ → List ℕ → ℕ → Call
create_file i d n o = change i (Class.create_file d n o)

abbrev pub make_directory : Issuer → ℕ → List ℕ → ℕ → Call
make_directory i d n o = change i (Class.make_directory d n o)

abbrev pub remove_file : Issuer → ℕ → List ℕ → Call
remove_file i d n = change i (Class.remove_file d n)

abbrev pub remove_directory : Issuer → ℕ → List ℕ → Call
remove_directory i d n = change i (Class.remove_directory d n)

abbrev pub rename : Issuer → ℕ → List ℕ → ℕ → List ℕ → Call
rename i d n e k = change i (Class.rename d n e k)

abbrev pub write : Issuer → ℕ → ℕ → List ℕ → Call
write i o f s = change i (Class.write o f s)

abbrev pub set_length : Issuer → ℕ → ℕ → Call
set_length i o f = change i (Class.set_length o f)

abbrev pub forder : Issuer → List ℕ → Call
forder i s = change i (Class.forder s)

abbrev pub push : ℕ → Call
push q = link (Class.push q)

abbrev pub fsync : ℕ → ℕ → ℕ → Call
fsync p o k = link (Class.fsync p o k)

abbrev pub cut : Call
cut = link Class.cut

abbrev pub take : ℕ → List ℕ → Call
take p s = recovery p (Class.take s)

abbrev pub renew : ℕ → Call
renew p = recovery p Class.renew

-- the returned number (0 where the call is accepted), then the other results in document 01's order, and the call's own
-- buffer as it is left
pub record Answer : Type 0 where
  pub returned : ℕ
  pub results : List ℕ
  pub buffer : List ℕ

abbrev pub answer : ℕ → List ℕ → List ℕ → Answer
answer n r b = record { returned = n; results = r; buffer = b }

-- how many results a call has besides the returned number
abbrev pub result_count : Call → ℕ
result_count (question p (Class.lookup s)) = 1
result_count (question p (Class.list o s)) = 1
result_count (question p (Class.stat o)) = 3
result_count (question p (Class.read o f s)) = 1
result_count (change i c) = 1
result_count (link (Class.push q)) = 0
result_count (link (Class.fsync p o k)) = 1
result_count (link Class.cut) = 0
result_count (recovery p (Class.take s)) = 1
result_count (recovery p Class.renew) = 0

-- the buffer that a call is lent to write, before the call; none where it has none
abbrev pub own_buffer : Call → List ℕ
own_buffer (question p (Class.lookup s)) = []
own_buffer (question p (Class.list o s)) = s
own_buffer (question p (Class.stat o)) = []
own_buffer (question p (Class.read o f s)) = s
own_buffer (change i c) = []
own_buffer (link l) = []
own_buffer (recovery p (Class.take s)) = s
own_buffer (recovery p Class.renew) = []

-- "The other results of a refusal are 0, and no buffer changes"
abbrev pub refusal : ℕ → Call → Answer
refusal n c = answer n (replicate (result_count c) 0) (own_buffer c)

-- "n objects (2..256), b blocks a file (1..64) and m log slots (1..1,024)"
unfoldable pub in_range : Geometry → Bool
in_range g = good_objects g.objects && (good_blocks g.blocks && good_capacity g.capacity)

unfoldable pub server_fits : Geometry → List ℕ → Bool
server_fits g s = eqb (length s) (volume_bytes g.objects g.blocks)

-- "Wrong buffer: n, b, m or a buffer length not as above"
unfoldable pub lengths_fit : Geometry → Buffers → Bool
lengths_fit g s =
    server_fits g s.server && (server_fits g s.view && eqb (length s.log) (log_bytes g.capacity))
