-- `volume_form::parents::leads` meets its contract. The loop's invariant: the entry reached leads to 0 in the steps that are left as the
-- first one does in all. Assumes nothing.
use Prim.Native.Nat.{◌-◌, ◌<◌}
use mathlib.Core.Path.{◌≡◌}
use Rattle.volume_form.specs.Code.Checks.{climbs_by}
use Rattle.volume_form.proofs.parents.leads.Given as goal

abbrev pub invariant-loop : goal.invariant-loop
invariant-loop l = (l.at < 256) × (climbs_by (l.n - l.counter) l.parents l.at ≡ climbs_by l.n l.parents l.i)
