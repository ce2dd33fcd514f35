-- Demand 3 on the entries themselves: the calls of a host from an accepted mount on are a run, and the claim holds of it.
use Rattle.std.specs.Prelude.{◌≡◌, refl, List, [], ◌∷◌}
use Rattle.std.proofs.Common.{sym, ap, ◌∙◌}
use Rattle.volume_tree.specs.Volume.{Volume}
use Rattle.session.specs.Call.{Geometry, Buffers}
use Rattle.session.specs.Step.{Result, given, step, mount}
use Rattle.session.proofs.Laws.Step.{mount-holds}
use Rattle.register.specs.Register.{begun}
use Rattle.register.specs.Run.{State, Mounted, next, run, play}
use Rattle.register.specs.Claim.{Demand}
use Rattle.register.proofs.Laws.Demand.{demands}
use Rattle.register.specs.Entries.{Seen, Promised, calls_of, Shows}

-- calls that keep their contracts are those of the run from the same buffers
pub entries-run : (g : Geometry) (xs : List Seen) (st : State) (t : Buffers) → st.buffers ≡ t → Promised g t xs
    → Shows (run g (calls_of xs) st).moments (run g (calls_of xs) st).last t xs
unfolding run
entries-run g [] st t e p = e
entries-run g (x ∷ xs) st t e p =
    let same : step g x.call st.buffers ≡ record { gives = x.answer; leaves = x.after } = ap (step g x.call) e ∙ sym p.0 in
    (refl, e, ap (λ (r : Result). r.gives) same, entries-run g xs (next g x.call st) x.after (ap (λ (r : Result). r.leaves) same) p.1)

-- what a host has after an accepted mount and any calls: the volume as mounted, a run that shows just what it saw, and the whole claim on it
pub record DemandOnCalls (g : Geometry) (s t : Buffers) (xs : List Seen) : Type 0 where
  pub volume : Volume
  pub mounted : Mounted g s volume
  pub shows : Shows (play g s volume (calls_of xs)).moments (play g s volume (calls_of xs)).last t xs
  pub demand : Demand g volume (play g s volume (calls_of xs))

-- From the contract of `wb_mount`, answered with 0, and the contracts of the calls that follow.
pub entries-demand : (g : Geometry) (s t : Buffers) (xs : List Seen) → given 0 [] [] t ≡ mount g s → Promised g t xs → DemandOnCalls g s t xs
entries-demand g s t xs e p =
    let h = mount-holds g s (ap (λ (r : Result). r.gives.returned) (sym e)) in
    let v = h.0 in
    let m : Mounted g s v = record { accepted = ap (λ (r : Result). r.gives.returned) (sym e); server = h.1 } in
    record {
      volume = v;
      mounted = m;
      shows = entries-run g xs (record { buffers = (mount g s).leaves; register = begun v }) t (ap (λ (r : Result). r.leaves) (sym e)) p;
      demand = demands.lists g s v m (calls_of xs);
    }
