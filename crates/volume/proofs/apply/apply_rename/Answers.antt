-- `volume::apply::apply_rename` meets its contract: the displaced object is freed first, and the volume is well formed then too.
-- Assumes nothing.
use mathlib.Core.Path.{ap, ◌∙◌}
use Rattle.volume_entry.specs.Entry.{has_name}
use Rattle.volume_tree.specs.Stored.{read_volume}
use Rattle.volume.specs.Laws.Rename.{displaces, freed-formed, freed-entry, renamed-after, renamed-alone}
use Rattle.volume.proofs.apply.apply_rename.Goals as goal

pub free_entry-requires : goal.free_entry-requires
free_entry-requires c =
    let a = c.args in
    let x = displaces a.n a.b (read_volume a.n a.b a.s.now) a.objects.object a.displacing a.objects.displaced c.requires.displaces c.if-displacing.true in
    record { formed = c.requires.formed; i_lt_n = x.0 }

pub rename_entry-requires : goal.rename_entry-requires
rename_entry-requires c =
    let a = c.args in
    let x = displaces a.n a.b (read_volume a.n a.b a.s.now) a.objects.object a.displacing a.objects.displaced c.requires.displaces c.if-displacing.true in
    let f = freed-formed a.n a.b a.s.now c.requires.formed a.objects.displaced x.2 c.free_entry.new.s c.free_entry.ensures in
    let e = freed-entry a.n a.b a.s.now c.requires.formed a.objects.displaced x.2 c.free_entry.new.s c.free_entry.ensures a.objects.object x.1 in
    record {
      formed = f;
      i_lt_n = (c.requires.object_lt_n.0, ap has_name e ∙ c.requires.object_lt_n.1, c.requires.object_lt_n.2);
    }

pub returns-then-displacing : goal.returns-then-displacing
returns-then-displacing c =
    let a = c.args in
    let x = displaces a.n a.b (read_volume a.n a.b a.s.now) a.objects.object a.displacing a.objects.displaced c.requires.displaces c.if-displacing.true in
    c.rename_entry.ensures
    ∙ renamed-after a.n a.b a.s.now c.requires.formed a.objects.displaced x.2 c.free_entry.new.s c.free_entry.ensures
    a.objects.object x.1 a.name.now a.objects.second a.displacing c.if-displacing.true

pub rename_entry-requires-2 : goal.rename_entry-requires-2
rename_entry-requires-2 c = record { formed = c.requires.formed; i_lt_n = c.requires.object_lt_n }

pub returns : goal.returns
returns c =
    let a = c.args in
    c.rename_entry-2.ensures
    ∙ renamed-alone a.n a.b a.s.now a.objects.object a.objects.displaced a.name.now a.objects.second a.displacing c.if-displacing.false
