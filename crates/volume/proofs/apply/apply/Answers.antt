-- `volume::apply::apply` meets its contract: by kind, each change is what the definition leaves.
-- Assumes nothing.
use mathlib.Core.Path.{sym, ap, ◌∙◌, subst}
use mathlib.Core.Bool.{Bool}
use lib.ListN.{set}
use native.Mathlib.Omega.{arith}
use Rattle.record.specs.Fields.{displaced_if}
use Rattle.volume_entry.specs.Entry.{renamed}
use Rattle.volume_apply.specs.Apply.{without_displaced}
use Rattle.volume_tree.specs.Code.Lent.{entry_in}
use Rattle.volume_applies.specs.Code.Held.{Displaces}
use Rattle.volume_tree.specs.Stored.{encode_volume, read_volume}
use Rattle.volume.specs.Laws.Kind as held
use Rattle.volume.proofs.apply.apply.Goals as goal

pub make_entry-requires : goal.make_entry-requires
make_entry-requires c =
    let a = c.args in
    let p = c.requires in
    let x = held.create-ready a.n a.b a.s.now a.rec.now a.w p.formed p.fitting p.w_value
    c.stretch_of-name.result.now c.stretch_of-name.ensures c.in-CreateFile.is in
    record { formed = p.formed; i_lt_n = (x.0, x.1); le_kind = (omega arith, omega arith, x.2) }

pub make_entry-requires-in-MakeDirectory : goal.make_entry-requires-in-MakeDirectory
make_entry-requires-in-MakeDirectory c =
    let a = c.args in
    let p = c.requires in
    let x = held.directory-ready a.n a.b a.s.now a.rec.now a.w p.formed p.fitting p.w_value
    c.stretch_of-name.result.now c.stretch_of-name.ensures c.in-MakeDirectory.is in
    record { formed = p.formed; i_lt_n = (x.0, x.1); le_kind = (omega arith, omega arith, x.2) }

pub free_entry-requires : goal.free_entry-requires
free_entry-requires c =
    let a = c.args in
    let p = c.requires in
    let x = held.remove-ready a.n a.b a.s.now a.rec.now a.w p.formed p.fitting p.w_value c.in-Remove.is in
    record { formed = p.formed; i_lt_n = x }

pub apply_rename-requires : goal.apply_rename-requires
apply_rename-requires c =
    let a = c.args in
    let p = c.requires in
    let x = held.rename-ready a.n a.b a.s.now a.rec.now a.w p.formed p.fitting p.w_value
    c.stretch_of.result.now c.stretch_of.ensures c.in-Rename.is in
    record {
      formed = p.formed;
      object_lt_n = (x.0, x.1, x.2);
      displaces =
          subst (λ (d : Bool). Displaces a.n a.b (read_volume a.n a.b a.s.now) a.w.objects.object (displaced_if d a.w.objects.displaced))
          (sym c.stands.ensures) x.3;
    }

pub overwrite_file-requires : goal.overwrite_file-requires
overwrite_file-requires c =
    let a = c.args in
    let p = c.requires in
    let x = held.overwrite-needs a.n a.b a.s.now a.rec.now a.w p.formed p.fitting p.w_value
    c.stretch_of-src.result.now c.stretch_of-src.ensures c.in-Overwrite.is in
    record { formed = p.formed; i_lt_n = (x.0, x.1); in_bounds = (x.2, x.3, x.4) }

pub append_file-requires : goal.append_file-requires
append_file-requires c =
    let a = c.args in
    let p = c.requires in
    let x = held.append-needs a.n a.b a.s.now a.rec.now a.w p.formed p.fitting p.w_value
    c.stretch_of-src.result.now c.stretch_of-src.ensures c.in-Append.is in
    record { formed = p.formed; i_lt_n = (x.0, x.1, x.2); in_bounds = (x.3, x.4, x.5) }

pub set_file_length-requires : goal.set_file_length-requires
set_file_length-requires c =
    let a = c.args in
    let p = c.requires in
    let x = held.length-needs a.n a.b a.s.now a.rec.now a.w p.formed p.fitting p.w_value c.in-SetLength.is in
    record { formed = p.formed; i_lt_n = (x.0, x.1, x.2) }

pub returns-in-CreateFile : goal.returns-in-CreateFile
returns-in-CreateFile c =
    let a = c.args in
    let p = c.requires in
    c.make_entry.ensures
    ∙ held.create-leaves a.n a.b a.s.now a.rec.now a.w p.formed p.fitting p.w_value
    c.stretch_of-name.result.now c.stretch_of-name.ensures c.in-CreateFile.is

pub returns-in-MakeDirectory : goal.returns-in-MakeDirectory
returns-in-MakeDirectory c =
    let a = c.args in
    let p = c.requires in
    c.make_entry-in-MakeDirectory.ensures
    ∙ held.directory-leaves a.n a.b a.s.now a.rec.now a.w p.formed p.fitting p.w_value
    c.stretch_of-name.result.now c.stretch_of-name.ensures c.in-MakeDirectory.is

pub returns-in-Remove : goal.returns-in-Remove
returns-in-Remove c =
    let a = c.args in
    let p = c.requires in
    c.free_entry.ensures
    ∙ held.remove-leaves a.n a.b a.s.now a.rec.now a.w p.formed p.fitting p.w_value c.in-Remove.is

pub returns-in-Rename : goal.returns-in-Rename
returns-in-Rename c =
    let a = c.args in
    let p = c.requires in
    c.apply_rename.ensures
    ∙ ap (λ (d : Bool). encode_volume a.b (set (without_displaced (read_volume a.n a.b a.s.now) (displaced_if d a.w.objects.displaced)) a.w.objects.object
    (renamed (entry_in a.n a.b a.s.now a.w.objects.object) c.stretch_of.result.now a.w.objects.second))) c.stands.ensures
    ∙ held.rename-leaves a.n a.b a.s.now a.rec.now a.w p.formed p.fitting p.w_value
    c.stretch_of.result.now c.stretch_of.ensures c.in-Rename.is

pub returns-in-Overwrite : goal.returns-in-Overwrite
returns-in-Overwrite c =
    let a = c.args in
    let p = c.requires in
    c.overwrite_file.ensures
    ∙ held.overwrite-leaves a.n a.b a.s.now a.rec.now a.w p.formed p.fitting p.w_value
    c.stretch_of-src.result.now c.stretch_of-src.ensures c.in-Overwrite.is

pub returns-in-Append : goal.returns-in-Append
returns-in-Append c =
    let a = c.args in
    let p = c.requires in
    c.append_file.ensures
    ∙ held.append-leaves a.n a.b a.s.now a.rec.now a.w p.formed p.fitting p.w_value
    c.stretch_of-src.result.now c.stretch_of-src.ensures c.in-Append.is

pub returns-in-SetLength : goal.returns-in-SetLength
returns-in-SetLength c =
    let a = c.args in
    let p = c.requires in
    c.set_file_length.ensures
    ∙ held.length-leaves a.n a.b a.s.now a.rec.now a.w p.formed p.fitting p.w_value c.in-SetLength.is

pub returns-in-Forder : goal.returns-in-Forder
returns-in-Forder c =
    let a = c.args in
    let p = c.requires in
    held.forder-leaves a.n a.b a.s.now a.rec.now a.w p.formed p.fitting p.w_value c.in-Forder.is
