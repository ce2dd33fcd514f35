-- The code of each entry is in the environment that a link of the crates makes, so an entry called there ends and is right.
use mathlib.Core.Path.{◌≡◌, sym, subst}
use mathlib.Core.Logic.{◌⊎◌, inl, inr}
use mathlib.Core.Bool.{true}
use mathlib.Core.List.Memᴰ
use mathlib.Core.List.{List, [], ◌∷◌, Memᴰ}
use seplogic.Ra.Ura.{Ura}
use base.Logic.{SProp, sep, emp}
use prog.Memory.{Memory}
use prog.Model.{Model}
use prog.Routine.{Env}
use prog.Wired.{Code, Wired}
use prog.Linked.{in_world}
use prog.LinkedThreads.{HasT, tie_t}
use types.Logic.{Logic}
use contract.Running.{Running}
use contract.Adequate.{Satisfies}
use denote.Triple.Entry.{on_entry}
use denote.Triple.Bound.{Bound}
use Rattle.writebehind.proofs.wb_format.Symbol as format
use Rattle.writebehind.proofs.Linked as link
use Rattle.writebehind.proofs.World.{world, there-writebehind}
use Rattle.entries.specs.Keeps.{Entry}
use Rattle.entries.specs.Observed.{Observed, Right, Mounting, RightMount, Reading, RightReading}
use Rattle.entries.specs.Ran.{Ran}
use Rattle.entries.specs.Table.{lookup, list, stat, read, create, mkdir, remove-file, remove-directory, rename, write, setlen, forder, push, fsync, cut, take, renew, mount, record-reader}
use Rattle.entries.proofs.Rows.{table}
use Rattle.entries.proofs.Laws.Called.{entry_runs}
use Rattle.entries.proofs.Laws.Wired.{linked_wired}

-- the environment that has the functions of all the crates of the entries
abbrev pub linked : Env
linked = tie_t (in_world world)

abbrev Found : Code → Type 0
Found c = HasT (in_world world) true c

abbrev Each : List (Entry Observed Right) → Type 0
Each [] = Unit {0}
Each (e ∷ es) = Found e.code × Each es

each : Each table
unfolding lookup list stat read create mkdir remove-file remove-directory rename write setlen forder push fsync cut take renew
each = (
  link.linked-wb_lookup world there-writebehind,
  (
    link.linked-wb_list world there-writebehind,
    (
      link.linked-wb_stat world there-writebehind,
      (
        link.linked-wb_read world there-writebehind,
        (
          link.linked-wb_create world there-writebehind,
          (
            link.linked-wb_mkdir world there-writebehind,
            (
              link.linked-wb_remove_file world there-writebehind,
              (
                link.linked-wb_remove_directory world there-writebehind,
                (
                  link.linked-wb_rename world there-writebehind,
                  (
                    link.linked-wb_write world there-writebehind,
                    (
                      link.linked-wb_setlen world there-writebehind,
                      (
                        link.linked-wb_forder world there-writebehind,
                        (
                          link.linked-wb_push world there-writebehind,
                          (
                            link.linked-wb_fsync world there-writebehind,
                            (
                              link.linked-wb_cut world there-writebehind,
                              (
                                link.linked-wb_take world there-writebehind,
                                (link.linked-wb_renew world there-writebehind, tt),
                              ),
                            ),
                          ),
                        ),
                      ),
                    ),
                  ),
                ),
              ),
            ),
          ),
        ),
      ),
    ),
  ),
)

either : (d e : Entry Observed Right) (es : List (Entry Observed Right)) → Found d.code → (Memᴰ e es → Found e.code) → (e ≡ d) ⊎ Memᴰ e es → Found e.code
either d e es h k (inl q) = subst (λ (z : Entry Observed Right). Found z.code) (sym q) h
either d e es h k (inr m) = k m

among : (es : List (Entry Observed Right)) → Each es → (e : Entry Observed Right) → Memᴰ e es → Found e.code
among [] h e m = absurd (Memᴰ.not-nil m)
among (d ∷ es) h e m = either d e es h.0 (λ (k : Memᴰ e es). among es h.1 e k) (Memᴰ.cases_cons m)

-- it has the code of each row of the table
pub row_wired : (e : Entry Observed Right) → Memᴰ e table → Wired linked e.code
row_wired e m = linked_wired (in_world world) e.code (among table each e m)

-- and of mount
pub mount_wired : Wired linked mount.code
unfolding mount
mount_wired = linked_wired (in_world world) mount.code (link.linked-wb_mount world there-writebehind)

-- and of the reader of records
pub record_wired : Wired linked record-reader.code
unfolding record-reader
record_wired = linked_wired (in_world world) record-reader.code (link.linked-wb_record world there-writebehind)

-- and of format
pub format_wired : Wired linked format.code
format_wired = linked_wired (in_world world) format.code (link.linked-wb_format world there-writebehind)

module _ {M : Type 1} {𝓤 : Ura M} (𝓛 : Logic 𝓤) (𝓜 : Model 𝓤 𝓛.H) (𝓡 : Running 𝓤 𝓛.H 𝓜) where
  -- what it is that an entry, called there from any memory that has its arguments, whatever else there is, ends and is a call that ran
  abbrev pub Runs : {Sight : Type 0} {Right : Sight → Type 0} → Entry Sight Right → Type 2
  Runs {Sight} {Right} e =
      (x : Bound 𝓛 e.ended.signature) (σ : Memory) (F : SProp 𝓤) → Satisfies 𝓤 𝓛.H 𝓜 σ (sep 𝓤 (sep 𝓤 (on_entry 𝓛 e.ended.signature x.0 x.1 x.3 x.4) (emp 𝓤)) F)
      → ∥ Ran 𝓛 𝓜 e.ended (linked e.name) (λ κs a r z. Right (e.observed κs a r z)) x σ F ∥₁

  -- each row of the table runs
  pub row_runs : (e : Entry Observed Right) → Memᴰ e table → Runs e
  row_runs e m x σ F s = entry_runs 𝓛 𝓜 𝓡 e linked (row_wired e m) x σ F s

  -- mount runs
  pub mount_runs : Runs mount
  mount_runs x σ F s = entry_runs 𝓛 𝓜 𝓡 mount linked mount_wired x σ F s

  -- the reader of records runs
  pub record_runs : Runs record-reader
  record_runs x σ F s = entry_runs 𝓛 𝓜 𝓡 record-reader linked record_wired x σ F s
