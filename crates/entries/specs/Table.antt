-- The entries of the archive: each with its own signature, code and theorem, as the crate `writebehind` has them, and how its arguments, its result and
-- what it leaves read as a call.
use Rattle.std.specs.Prelude.{◌≡◌, [], ◌∷◌}
use Rattle.session.specs.Call.{Geometry, Buffers, Call, Answer, geometry, buffers, answer, issuer}
use Rattle.session.specs.Call
use Rattle.session.specs.Step.{format, format_leaves}
use Rattle.writebehind.specs.contracts
use Rattle.writebehind.proofs.wb_lookup
use Rattle.writebehind.proofs.wb_list
use Rattle.writebehind.proofs.wb_stat
use Rattle.writebehind.proofs.wb_read
use Rattle.writebehind.proofs.wb_create
use Rattle.writebehind.proofs.wb_mkdir
use Rattle.writebehind.proofs.wb_remove_file
use Rattle.writebehind.proofs.wb_remove_directory
use Rattle.writebehind.proofs.wb_rename
use Rattle.writebehind.proofs.wb_write
use Rattle.writebehind.proofs.wb_setlen
use Rattle.writebehind.proofs.wb_forder
use Rattle.writebehind.proofs.wb_push
use Rattle.writebehind.proofs.wb_fsync
use Rattle.writebehind.proofs.wb_cut
use Rattle.writebehind.proofs.wb_take
use Rattle.writebehind.proofs.wb_renew
use Rattle.writebehind.proofs.wb_mount
use Rattle.writebehind.proofs.wb_format
use Rattle.writebehind.proofs.wb_record
use Rattle.entries.specs.Keeps.{Entry, KeepsBoth}
use Rattle.entries.specs.Observed.{Observed, Right, Mounting, RightMount, Reading, RightReading}

abbrev seen : Geometry → Buffers → Call → Answer → Buffers → Observed
seen g s c a t = record { geometry = g; before = s; call = c; answer = a; after = t }

unfoldable pub lookup : Entry Observed Right
lookup =
    record {
      name = wb_lookup.Symbol.name;
      ended = contracts.wb_lookup.ended;
      code = wb_lookup.Symbol.code;
      observed = λ κs a r e.
          seen (geometry a.0 a.1.0 a.1.1.0) (buffers a.1.1.1.0.now a.1.1.1.1.0.now a.1.1.1.1.1.0.now)
          (Call.lookup a.1.1.1.1.1.1.0 a.1.1.1.1.1.1.1.0.now)
          (answer r.returned (r.value ∷ []) []) (buffers a.1.1.1.0.now a.1.1.1.1.0.now e.1.1.1.1.1.0.now);
      kept = λ M. wb_lookup.Met.met {M = M};
    }

unfoldable pub list : Entry Observed Right
list =
    record {
      name = wb_list.Symbol.name;
      ended = contracts.wb_list.ended;
      code = wb_list.Symbol.code;
      observed = λ κs a r e.
          seen (geometry a.0 a.1.0 a.1.1.0) (buffers a.1.1.1.0.now a.1.1.1.1.0.now a.1.1.1.1.1.0.now)
          (Call.list a.1.1.1.1.1.1.0 a.1.1.1.1.1.1.1.0 a.1.1.1.1.1.1.1.1.0.now)
          (answer r.returned (r.value ∷ []) e.1.1.1.1.1.1.1.1.0.now) (buffers a.1.1.1.0.now a.1.1.1.1.0.now e.1.1.1.1.1.0.now);
      kept = λ M. wb_list.Met.met {M = M};
    }

unfoldable pub stat : Entry Observed Right
stat =
    record {
      name = wb_stat.Symbol.name;
      ended = contracts.wb_stat.ended;
      code = wb_stat.Symbol.code;
      observed = λ κs a r e.
          seen (geometry a.0 a.1.0 a.1.1.0) (buffers a.1.1.1.0.now a.1.1.1.1.0.now a.1.1.1.1.1.0.now)
          (Call.stat a.1.1.1.1.1.1.0 a.1.1.1.1.1.1.1.0)
          (answer r.returned (r.kind ∷ r.length ∷ r.usage ∷ []) []) (buffers a.1.1.1.0.now a.1.1.1.1.0.now e.1.1.1.1.1.0.now);
      kept = λ M. wb_stat.Met.met {M = M};
    }

unfoldable pub read : Entry Observed Right
read =
    record {
      name = wb_read.Symbol.name;
      ended = contracts.wb_read.ended;
      code = wb_read.Symbol.code;
      observed = λ κs a r e.
          seen (geometry a.0 a.1.0 a.1.1.0) (buffers a.1.1.1.0.now a.1.1.1.1.0.now a.1.1.1.1.1.0.now)
          (Call.read a.1.1.1.1.1.1.0 a.1.1.1.1.1.1.1.0 a.1.1.1.1.1.1.1.1.0 a.1.1.1.1.1.1.1.1.1.0.now)
          (answer r.returned (r.value ∷ []) e.1.1.1.1.1.1.1.1.1.0.now) (buffers a.1.1.1.0.now a.1.1.1.1.0.now e.1.1.1.1.1.0.now);
      kept = λ M. wb_read.Met.met {M = M};
    }

unfoldable pub create : Entry Observed Right
create =
    record {
      name = wb_create.Symbol.name;
      ended = contracts.wb_create.ended;
      code = wb_create.Symbol.code;
      observed = λ κs a r e.
          seen (geometry a.0 a.1.0 a.1.1.0) (buffers a.1.1.1.0.now a.1.1.1.1.0.now a.1.1.1.1.1.0.now)
          (Call.create_file (issuer a.1.1.1.1.1.1.0) a.1.1.1.1.1.1.1.0 a.1.1.1.1.1.1.1.1.0.now a.1.1.1.1.1.1.1.1.1.0)
          (answer r.returned (r.value ∷ []) []) (buffers a.1.1.1.0.now e.1.1.1.1.0.now e.1.1.1.1.1.0.now);
      kept = λ M. wb_create.Met.met {M = M};
    }

unfoldable pub mkdir : Entry Observed Right
mkdir =
    record {
      name = wb_mkdir.Symbol.name;
      ended = contracts.wb_mkdir.ended;
      code = wb_mkdir.Symbol.code;
      observed = λ κs a r e.
          seen (geometry a.0 a.1.0 a.1.1.0) (buffers a.1.1.1.0.now a.1.1.1.1.0.now a.1.1.1.1.1.0.now)
          (Call.make_directory (issuer a.1.1.1.1.1.1.0) a.1.1.1.1.1.1.1.0 a.1.1.1.1.1.1.1.1.0.now a.1.1.1.1.1.1.1.1.1.0)
          (answer r.returned (r.value ∷ []) []) (buffers a.1.1.1.0.now e.1.1.1.1.0.now e.1.1.1.1.1.0.now);
      kept = λ M. wb_mkdir.Met.met {M = M};
    }

unfoldable pub remove-file : Entry Observed Right
remove-file =
    record {
      name = wb_remove_file.Symbol.name;
      ended = contracts.wb_remove_file.ended;
      code = wb_remove_file.Symbol.code;
      observed = λ κs a r e.
          seen (geometry a.0 a.1.0 a.1.1.0) (buffers a.1.1.1.0.now a.1.1.1.1.0.now a.1.1.1.1.1.0.now)
          (Call.remove_file (issuer a.1.1.1.1.1.1.0) a.1.1.1.1.1.1.1.0 a.1.1.1.1.1.1.1.1.0.now)
          (answer r.returned (r.value ∷ []) []) (buffers a.1.1.1.0.now e.1.1.1.1.0.now e.1.1.1.1.1.0.now);
      kept = λ M. wb_remove_file.Met.met {M = M};
    }

unfoldable pub remove-directory : Entry Observed Right
remove-directory =
    record {
      name = wb_remove_directory.Symbol.name;
      ended = contracts.wb_remove_directory.ended;
      code = wb_remove_directory.Symbol.code;
      observed = λ κs a r e.
          seen (geometry a.0 a.1.0 a.1.1.0) (buffers a.1.1.1.0.now a.1.1.1.1.0.now a.1.1.1.1.1.0.now)
          (Call.remove_directory (issuer a.1.1.1.1.1.1.0) a.1.1.1.1.1.1.1.0 a.1.1.1.1.1.1.1.1.0.now)
          (answer r.returned (r.value ∷ []) []) (buffers a.1.1.1.0.now e.1.1.1.1.0.now e.1.1.1.1.1.0.now);
      kept = λ M. wb_remove_directory.Met.met {M = M};
    }

unfoldable pub rename : Entry Observed Right
rename =
    record {
      name = wb_rename.Symbol.name;
      ended = contracts.wb_rename.ended;
      code = wb_rename.Symbol.code;
      observed = λ κs a r e.
          seen (geometry a.0 a.1.0 a.1.1.0) (buffers a.1.1.1.0.now a.1.1.1.1.0.now a.1.1.1.1.1.0.now)
          (Call.rename (issuer a.1.1.1.1.1.1.0) a.1.1.1.1.1.1.1.0 a.1.1.1.1.1.1.1.1.0.now a.1.1.1.1.1.1.1.1.1.0 a.1.1.1.1.1.1.1.1.1.1.0.now)
          (answer r.returned (r.value ∷ []) []) (buffers a.1.1.1.0.now e.1.1.1.1.0.now e.1.1.1.1.1.0.now);
      kept = λ M. wb_rename.Met.met {M = M};
    }

unfoldable pub write : Entry Observed Right
write =
    record {
      name = wb_write.Symbol.name;
      ended = contracts.wb_write.ended;
      code = wb_write.Symbol.code;
      observed = λ κs a r e.
          seen (geometry a.0 a.1.0 a.1.1.0) (buffers a.1.1.1.0.now a.1.1.1.1.0.now a.1.1.1.1.1.0.now)
          (Call.write (issuer a.1.1.1.1.1.1.0) a.1.1.1.1.1.1.1.0 a.1.1.1.1.1.1.1.1.0 a.1.1.1.1.1.1.1.1.1.0.now)
          (answer r.returned (r.value ∷ []) []) (buffers a.1.1.1.0.now e.1.1.1.1.0.now e.1.1.1.1.1.0.now);
      kept = λ M. wb_write.Met.met {M = M};
    }

unfoldable pub setlen : Entry Observed Right
setlen =
    record {
      name = wb_setlen.Symbol.name;
      ended = contracts.wb_setlen.ended;
      code = wb_setlen.Symbol.code;
      observed = λ κs a r e.
          seen (geometry a.0 a.1.0 a.1.1.0) (buffers a.1.1.1.0.now a.1.1.1.1.0.now a.1.1.1.1.1.0.now)
          (Call.set_length (issuer a.1.1.1.1.1.1.0) a.1.1.1.1.1.1.1.0 a.1.1.1.1.1.1.1.1.0)
          (answer r.returned (r.value ∷ []) []) (buffers a.1.1.1.0.now e.1.1.1.1.0.now e.1.1.1.1.1.0.now);
      kept = λ M. wb_setlen.Met.met {M = M};
    }

unfoldable pub forder : Entry Observed Right
forder =
    record {
      name = wb_forder.Symbol.name;
      ended = contracts.wb_forder.ended;
      code = wb_forder.Symbol.code;
      observed = λ κs a r e.
          seen (geometry a.0 a.1.0 a.1.1.0) (buffers a.1.1.1.0.now a.1.1.1.1.0.now a.1.1.1.1.1.0.now)
          (Call.forder (issuer a.1.1.1.1.1.1.0) a.1.1.1.1.1.1.1.0.now)
          (answer r.returned (r.value ∷ []) []) (buffers a.1.1.1.0.now a.1.1.1.1.0.now e.1.1.1.1.1.0.now);
      kept = λ M. wb_forder.Met.met {M = M};
    }

unfoldable pub push : Entry Observed Right
push =
    record {
      name = wb_push.Symbol.name;
      ended = contracts.wb_push.ended;
      code = wb_push.Symbol.code;
      observed = λ κs a r e.
          seen (geometry a.0 a.1.0 a.1.1.0) (buffers a.1.1.1.0.now a.1.1.1.1.0.now a.1.1.1.1.1.0.now)
          (Call.push a.1.1.1.1.1.1.0)
          (answer r.returned [] []) (buffers e.1.1.1.0.now a.1.1.1.1.0.now e.1.1.1.1.1.0.now);
      kept = λ M. wb_push.Met.met {M = M};
    }

unfoldable pub fsync : Entry Observed Right
fsync =
    record {
      name = wb_fsync.Symbol.name;
      ended = contracts.wb_fsync.ended;
      code = wb_fsync.Symbol.code;
      observed = λ κs a r e.
          seen (geometry a.0 a.1.0 a.1.1.0) (buffers a.1.1.1.0.now a.1.1.1.1.0.now a.1.1.1.1.1.0.now)
          (Call.fsync a.1.1.1.1.1.1.0 a.1.1.1.1.1.1.1.0 a.1.1.1.1.1.1.1.1.0)
          (answer r.returned (r.value ∷ []) []) (buffers e.1.1.1.0.now e.1.1.1.1.0.now e.1.1.1.1.1.0.now);
      kept = λ M. wb_fsync.Met.met {M = M};
    }

unfoldable pub cut : Entry Observed Right
cut =
    record {
      name = wb_cut.Symbol.name;
      ended = contracts.wb_cut.ended;
      code = wb_cut.Symbol.code;
      observed = λ κs a r e.
          seen (geometry a.0 a.1.0 a.1.1.0) (buffers a.1.1.1.0.now a.1.1.1.1.0.now a.1.1.1.1.1.0.now)
          Call.cut
          (answer r.returned [] []) (buffers a.1.1.1.0.now e.1.1.1.1.0.now e.1.1.1.1.1.0.now);
      kept = λ M. wb_cut.Met.met {M = M};
    }

unfoldable pub take : Entry Observed Right
take =
    record {
      name = wb_take.Symbol.name;
      ended = contracts.wb_take.ended;
      code = wb_take.Symbol.code;
      observed = λ κs a r e.
          seen (geometry a.0 a.1.0 a.1.1.0) (buffers a.1.1.1.0.now a.1.1.1.1.0.now a.1.1.1.1.1.0.now)
          (Call.take a.1.1.1.1.1.1.0 a.1.1.1.1.1.1.1.0.now)
          (answer r.returned (r.value ∷ []) e.1.1.1.1.1.1.1.0.now) (buffers a.1.1.1.0.now a.1.1.1.1.0.now e.1.1.1.1.1.0.now);
      kept = λ M. wb_take.Met.met {M = M};
    }

unfoldable pub renew : Entry Observed Right
renew =
    record {
      name = wb_renew.Symbol.name;
      ended = contracts.wb_renew.ended;
      code = wb_renew.Symbol.code;
      observed = λ κs a r e.
          seen (geometry a.0 a.1.0 a.1.1.0) (buffers a.1.1.1.0.now a.1.1.1.1.0.now a.1.1.1.1.1.0.now)
          (Call.renew a.1.1.1.1.1.1.0)
          (answer r.returned [] []) (buffers a.1.1.1.0.now a.1.1.1.1.0.now e.1.1.1.1.1.0.now);
      kept = λ M. wb_renew.Met.met {M = M};
    }

unfoldable pub mount : Entry Mounting RightMount
mount =
    record {
      name = wb_mount.Symbol.name;
      ended = contracts.wb_mount.ended;
      code = wb_mount.Symbol.code;
      observed = λ κs a r e.
          record {
            geometry = geometry a.0 a.1.0 a.1.1.0;
            before = buffers a.1.1.1.0.now a.1.1.1.1.0.now a.1.1.1.1.1.0.now;
            returned = r.returned;
            after = buffers a.1.1.1.0.now e.1.1.1.1.0.now e.1.1.1.1.1.0.now;
          };
      kept = λ M. wb_mount.Met.met {M = M};
    }

unfoldable pub record-reader : Entry Reading RightReading
record-reader =
    record {
      name = wb_record.Symbol.name;
      ended = contracts.wb_record.ended;
      code = wb_record.Symbol.code;
      observed = λ κs a r e. record { place = a.0; bytes = a.1.0.now; told = r };
      kept = λ M. wb_record.Met.met {M = M};
    }

-- format's contract has two clauses
pub format-kept : (M : Type 1) → KeepsBoth contracts.wb_format.ended wb_format.Symbol.code wb_format.Symbol.name
    (λ κs a r e. r.returned ≡ format (geometry a.0 a.1.0 a.1.1.0) a.1.1.1.0.now)
    (λ κs a r e. e.1.1.1.0.now ≡ format_leaves (geometry a.0 a.1.0 a.1.1.0) a.1.1.1.0.now) M
format-kept M = wb_format.Met.met {M = M}
