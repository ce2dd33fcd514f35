-- What every list of calls keeps between the register and the model that the buffers store, and what the register keeps by itself.
use Rattle.std.specs.Prelude.{ℕ, ◌+◌, ◌<◌, ◌≡◌, List, [], ◌∷◌, map, true, length}
use Rattle.volume_tree.specs.Volume.{Volume}
use Rattle.volume_tree.specs.Form.{well_formed}
use Rattle.log_rules.specs.Change.{waiting_of}
use Rattle.log_rules.proofs.Laws.Partition.{apply_each, EachApplies, AllFit, picked, Closed}
use Rattle.session.specs.Call.{Geometry}
use Rattle.session.specs.Model.{Model}
use Rattle.session.proofs.Laws.Possible.{Sound}
use Rattle.register.specs.Register.{lost, Acknowledged, Register, is_waiting, is_sent, recorded_of}
use Rattle.register.specs.History.{directly}
use Rattle.register.proofs.Laws.Fate.{Among, is_live}

-- the operations are "numbered on from 1"
abbrev pub NumberedFrom : ℕ → List Acknowledged → Type 0
NumberedFrom k [] = Unit {0}
NumberedFrom k (a ∷ l) = (a.recorded.sequence ≡ k) × NumberedFrom (k + 1) l

-- between the mounted volume, the operations of the register and the model
pub record KeptBy (g : Geometry) (v : Volume) (l : List Acknowledged) (x : Model) : Type 0 where
  pub sound : Sound g x
  pub mounted : well_formed g.objects g.blocks v ≡ true
  pub numbers : NumberedFrom 1 l
  pub next : x.log.head.next ≡ length l + 1
  pub fit : AllFit recorded_of g.objects g.blocks l
  pub turn : EachApplies recorded_of v (picked is_live l)
  pub view : x.view ≡ apply_each recorded_of v (picked is_live l)
  pub server : x.server ≡ apply_each recorded_of v (picked is_sent l)
  pub closed : Closed recorded_of is_sent (picked is_live l)
  pub waiting : waiting_of x.log.slots ≡ map recorded_of (picked is_waiting l)

abbrev pub Kept : Geometry → Register → Model → Type 0
Kept g r x = KeptBy g r.mounted r.operations x

-- when operations were issued and lost, and that the sent ones leave out no direct predecessor
pub record Timed (l : List Acknowledged) (happened : ℕ) : Type 0 where
  pub issued : (a : Acknowledged) → Among a l → a.issued < happened
  pub past : (a : Acknowledged) (t : ℕ) → Among a l → a.fate ≡ lost t → t < happened
  pub later : (a b : Acknowledged) (t : ℕ) → Among a l → Among b l → a.fate ≡ lost t → is_waiting b ≡ true → t < b.issued
  pub shut : (a c : Acknowledged) → Among a l → Among c l → is_sent c ≡ true → directly a c ≡ true → is_sent a ≡ true

pub record GoodBy (g : Geometry) (v : Volume) (l : List Acknowledged) (happened : ℕ) (x : Model) : Type 0 where
  pub kept : KeptBy g v l x
  pub timed : Timed l happened

abbrev pub Good : Geometry → Register → Model → Type 0
Good g r x = GoodBy g r.mounted r.operations r.happened x
