-- `volume_applies::applies::applies` meets its contract: by its kind, an operation applies where the test of that kind says so.
-- Assumes nothing.
use Prim.Native.Nat.{ℕ}
use mathlib.Core.Bool.{Bool}
use mathlib.Core.List.{List}
use mathlib.Core.Path.{◌≡◌, refl, sym, ap, ◌∙◌}
use lib.ListN.{length}
use Rattle.record.specs.declared.kind.Kind.{Kind}
use Rattle.record.specs.declared.kind.Kind.TheVariants.{CreateFile, MakeDirectory, Remove, Rename, Overwrite, Append, SetLength, Forder}
use Rattle.record_reader.specs.declared.Whole.{Whole}
use Rattle.record.specs.Fields.{operation_of, displaced_if}
use Rattle.volume_entry.specs.Entry.{is_file}
use Rattle.volume_apply.specs.Apply.{has_room, removable, renamable, overwritable, applies as meets}
use Rattle.volume_tree.specs.Volume.{Volume}
use Rattle.volume_tree.specs.Stored.{read_volume}
use Rattle.volume_applies.specs.Code.Held.{operation_in}
use Rattle.volume_applies.specs.Laws.Held.{parts_in, operation-kind, objects-below}
use Rattle.volume_applies.proofs.applies.applies.Goals as goal

-- what holds of the operation of a kind holds of the one in the slice
told : (v : Volume) (s : List ℕ) (w : Whole) (k : Kind) → w.head.kind ≡ k → (r : Bool) → r ≡ meets v (operation_of k w.head.map (parts_in s w))
    → r ≡ meets v (operation_in s w)
told v s w k e r h = h ∙ sym (ap (meets v) (operation-kind s w k e))

pub has_room-requires : goal.has_room-requires
has_room-requires c =
    let a = c.args in
    record {
      lent = c.requires.lent;
      o_lt_n = objects-below a.n a.b a.rec.now a.w c.requires.fitting CreateFile c.in-CreateFile.is;
    }

pub has_room-requires-in-MakeDirectory : goal.has_room-requires-in-MakeDirectory
has_room-requires-in-MakeDirectory c =
    let a = c.args in
    record {
      lent = c.requires.lent;
      o_lt_n = objects-below a.n a.b a.rec.now a.w c.requires.fitting MakeDirectory c.in-MakeDirectory.is;
    }

pub is_removable-requires : goal.is_removable-requires
is_removable-requires c =
    let a = c.args in
    record {
      lent = c.requires.lent;
      p_lt_n = (objects-below a.n a.b a.rec.now a.w c.requires.fitting Remove c.in-Remove.is).1;
    }

pub is_renamable-requires : goal.is_renamable-requires
is_renamable-requires c =
    let a = c.args in
    let x = objects-below a.n a.b a.rec.now a.w c.requires.fitting Rename c.in-Rename.is in
    record { lent = c.requires.lent; object_lt_n = (x.0, x.1, x.2) }

pub is_overwritable-requires : goal.is_overwritable-requires
is_overwritable-requires c =
    let a = c.args in
    record {
      lent = c.requires.lent;
      o_lt_n = objects-below a.n a.b a.rec.now a.w c.requires.fitting Overwrite c.in-Overwrite.is;
    }

pub is_appendable-requires : goal.is_appendable-requires
is_appendable-requires c =
    let a = c.args in
    record {
      lent = c.requires.lent;
      o_lt_n = objects-below a.n a.b a.rec.now a.w c.requires.fitting Append c.in-Append.is;
    }

pub entry-requires : goal.entry-requires
entry-requires c =
    let a = c.args in
    record {
      lent = c.requires.lent;
      i_lt_n = objects-below a.n a.b a.rec.now a.w c.requires.fitting SetLength c.in-SetLength.is;
    }

pub returns-in-CreateFile : goal.returns-in-CreateFile
unfolding meets
returns-in-CreateFile c =
    let a = c.args in
    let v = read_volume a.n a.b a.s.now in
    let x = a.w.objects in
    told v a.rec.now a.w CreateFile c.in-CreateFile.is _
    (c.has_room.ensures ∙ ap (has_room v x.object x.parent) c.stretch_of-name.ensures)

pub returns-in-MakeDirectory : goal.returns-in-MakeDirectory
unfolding meets
returns-in-MakeDirectory c =
    let a = c.args in
    let v = read_volume a.n a.b a.s.now in
    let x = a.w.objects in
    told v a.rec.now a.w MakeDirectory c.in-MakeDirectory.is _
    (c.has_room-in-MakeDirectory.ensures ∙ ap (has_room v x.object x.parent) c.stretch_of-name.ensures)

pub returns-in-Remove : goal.returns-in-Remove
unfolding meets
returns-in-Remove c =
    let a = c.args in
    let v = read_volume a.n a.b a.s.now in
    let x = a.w.objects in
    told v a.rec.now a.w Remove c.in-Remove.is _
    (c.is_removable.ensures ∙ ap (removable v x.object x.parent) c.stretch_of-name.ensures)

pub returns-in-Rename : goal.returns-in-Rename
unfolding meets
returns-in-Rename c =
    let a = c.args in
    let v = read_volume a.n a.b a.s.now in
    let x = a.w.objects in
    told v a.rec.now a.w Rename c.in-Rename.is _
    (c.is_renamable.ensures
    ∙ (λ i. renamable v x.object x.parent x.second (displaced_if (c.stands.ensures i) x.displaced) (c.stretch_of-name.ensures i)
    (c.stretch_of.ensures i)))

pub returns-in-Overwrite : goal.returns-in-Overwrite
unfolding meets
returns-in-Overwrite c =
    let a = c.args in
    let v = read_volume a.n a.b a.s.now in
    let x = a.w.objects in
    told v a.rec.now a.w Overwrite c.in-Overwrite.is _
    (c.is_overwritable.ensures ∙ ap (λ (y : List ℕ). overwritable v x.object a.w.range.offset (length y)) c.stretch_of-src.ensures)

pub returns-in-Append : goal.returns-in-Append
unfolding meets
returns-in-Append c =
    let a = c.args in
    let v = read_volume a.n a.b a.s.now in
    told v a.rec.now a.w Append c.in-Append.is _ c.is_appendable.ensures

pub returns-in-SetLength : goal.returns-in-SetLength
unfolding meets
returns-in-SetLength c =
    let a = c.args in
    let v = read_volume a.n a.b a.s.now in
    told v a.rec.now a.w SetLength c.in-SetLength.is _
    (c.is_file.ensures ∙ ap is_file c.entry.ensures.tells)

pub returns-in-Forder : goal.returns-in-Forder
unfolding meets
returns-in-Forder c =
    let a = c.args in
    let v = read_volume a.n a.b a.s.now in
    told v a.rec.now a.w Forder c.in-Forder.is _ refl
