-- The operation that a slice holds, kind by kind: what its change of the volume may rely on, and that this change is what
-- applying the operation leaves.
-- Assumes nothing.
use Rattle.std.specs.Prelude.{ℕ, ◌+◌, ◌*◌, ◌%◌, ◌≤◌, ◌<◌, ◌≡◌, true, List, [], ◌++◌, length, set}
use Rattle.std.proofs.Common.{sym}
use Rattle.record.specs.declared.kind.Kind.TheVariants.{CreateFile, MakeDirectory, Remove, Rename, Overwrite, Append, SetLength, Forder}
use Rattle.record_reader.specs.declared.Whole.{Whole}
use Rattle.record.specs.Fields.{stands_in, displaced_if}
use Rattle.buffer.specs.Code.Span.{stretch}
use Rattle.record_reader.specs.Code.Found.{record_from}
use Rattle.volume_entry.specs.Entry.{free, is_file, has_name, contents_of, renamed, refilled}
use Rattle.volume_entry.specs.Stored.{entry_of}
use Rattle.buffer.specs.Patch.{patch}
use Rattle.volume_entry.specs.Write.{resized}
use Rattle.volume_apply.specs.Apply.{without_displaced, applies, apply}
use Rattle.volume_tree.specs.Stored.{encode_volume, read_volume}
use Rattle.volume_tree.specs.Code.Lent.{Formed, entry_in, with_entry}
use Rattle.volume_tree.specs.Laws.Lent.{length-read, encoded-formed}
use Rattle.volume_apply.proofs.Laws.Apply.{apply-good}
use Rattle.volume_applies.specs.Code.Held.{operation_in, Fitting, Displaces}
use Rattle.volume_applies.specs.Laws.Held.{operation-kind}
use Rattle.volume.specs.Laws.Applied.{file-made, directory-made, removed, renamed-ready, overwrite-ready, append-ready, length-ready}

module _ (n b : ℕ) (s t : List ℕ) (w : Whole) (f : Formed n b s) (g : Fitting n b t w)
    (a : applies (read_volume n b s) (operation_in t w) ≡ true) where
  below : (o : ℕ) → o < length (read_volume n b s) → o < n
  below o h = rw (length-read n b s) at h

  -- create file and make directory, with the name as it was found
  module _ (m : List ℕ) (q : m ≡ stretch t w.names.name) where
    pub create-ready : w.head.kind ≡ CreateFile → (w.objects.object < n) × (entry_in n b s w.objects.object ≡ free) × (length m ≤ 60)
    create-ready e =
        let x = file-made n b (read_volume n b s) (record_from t w) f.form g.sound g.fit a _ _ _ (operation-kind t w CreateFile e) in
        (below _ x.0, x.1, rw q x.2)

    pub create-leaves : w.head.kind ≡ CreateFile
        → with_entry n b s w.objects.object (entry_of 1 m w.objects.parent []) ≡ encode_volume b (apply (read_volume n b s) (operation_in t w))
    unfolding apply
    create-leaves e = rw (operation-kind t w CreateFile e, q)

    pub directory-ready : w.head.kind ≡ MakeDirectory → (w.objects.object < n) × (entry_in n b s w.objects.object ≡ free) × (length m ≤ 60)
    directory-ready e =
        let x = directory-made n b (read_volume n b s) (record_from t w) f.form g.sound g.fit a _ _ _ (operation-kind t w MakeDirectory e) in
        (below _ x.0, x.1, rw q x.2)

    pub directory-leaves : w.head.kind ≡ MakeDirectory
        → with_entry n b s w.objects.object (entry_of 2 m w.objects.parent []) ≡ encode_volume b (apply (read_volume n b s) (operation_in t w))
    unfolding apply
    directory-leaves e = rw (operation-kind t w MakeDirectory e, q)

  pub remove-ready : w.head.kind ≡ Remove → w.objects.object < n
  remove-ready e = below _ (removed n b (read_volume n b s) (record_from t w) f.form g.sound g.fit a _ _ _ (operation-kind t w Remove e))

  pub remove-leaves : w.head.kind ≡ Remove
      → with_entry n b s w.objects.object free ≡ encode_volume b (apply (read_volume n b s) (operation_in t w))
  unfolding apply
  remove-leaves e = rw (operation-kind t w Remove e)

  -- rename, with the second name as it was found
  module _ (m : List ℕ) (q : m ≡ stretch t w.names.second) where
    pub rename-ready : w.head.kind ≡ Rename
        → (w.objects.object < n) × (has_name (entry_in n b s w.objects.object) ≡ true) × (length m ≤ 60)
        × Displaces n b (read_volume n b s) w.objects.object (displaced_if (stands_in w.head.map 8) w.objects.displaced)
    rename-ready e =
        let x = renamed-ready n b (read_volume n b s) (record_from t w) f.form g.sound g.fit a _ _ _ _ _ _ (operation-kind t w Rename e) in
        (below _ x.0, x.1, rw q x.2, x.3)

    pub rename-leaves : w.head.kind ≡ Rename
        → encode_volume b (set (without_displaced (read_volume n b s) (displaced_if (stands_in w.head.map 8) w.objects.displaced)) w.objects.object
        (renamed (entry_in n b s w.objects.object) m w.objects.second))
        ≡ encode_volume b (apply (read_volume n b s) (operation_in t w))
    unfolding apply
    rename-leaves e = rw (operation-kind t w Rename e, q)

  -- overwrite and append, with the data as they were found
  module _ (c : List ℕ) (q : c ≡ stretch t w.range.content) where
    pub overwrite-needs : w.head.kind ≡ Overwrite
        → (w.objects.object < n) × (is_file (entry_in n b s w.objects.object) ≡ true) × (1 ≤ length c) × (w.range.offset % 1024 + length c ≤ 1024)
        × (w.range.offset + length c ≤ length (contents_of (entry_in n b s w.objects.object)))
    overwrite-needs e =
        let x = overwrite-ready n b (read_volume n b s) (record_from t w) f.form g.sound g.fit a _ _ _ (operation-kind t w Overwrite e) in
        (below _ x.0, x.1, rw q x.2, rw q x.3, rw q x.4)

    pub overwrite-leaves : w.head.kind ≡ Overwrite
        → with_entry n b s w.objects.object
        (refilled (entry_in n b s w.objects.object) (patch (contents_of (entry_in n b s w.objects.object)) w.range.offset c))
        ≡ encode_volume b (apply (read_volume n b s) (operation_in t w))
    unfolding apply
    overwrite-leaves e = rw (operation-kind t w Overwrite e, q)

    pub append-needs : w.head.kind ≡ Append
        → (w.objects.object < n) × (is_file (entry_in n b s w.objects.object) ≡ true)
        × (w.range.offset ≡ length (contents_of (entry_in n b s w.objects.object))) × (1 ≤ length c) × (w.range.offset % 1024 + length c ≤ 1024)
        × (w.range.offset + length c ≤ 1024 * b)
    append-needs e =
        let x = append-ready n b (read_volume n b s) (record_from t w) f.form g.sound g.fit a _ _ _ (operation-kind t w Append e) in
        (below _ x.0, x.1, x.2, rw q x.3, rw q x.4, rw q x.5)

    pub append-leaves : w.head.kind ≡ Append
        → with_entry n b s w.objects.object (refilled (entry_in n b s w.objects.object) (contents_of (entry_in n b s w.objects.object) ++ c))
        ≡ encode_volume b (apply (read_volume n b s) (operation_in t w))
    unfolding apply
    append-leaves e = rw (operation-kind t w Append e, q)

  pub length-needs : w.head.kind ≡ SetLength
      → (w.objects.object < n) × (is_file (entry_in n b s w.objects.object) ≡ true) × (w.range.offset ≤ 1024 * b)
  length-needs e =
      let x = length-ready n b (read_volume n b s) (record_from t w) f.form g.sound g.fit a _ _ (operation-kind t w SetLength e) in
      (below _ x.0, x.1, x.2)

  pub length-leaves : w.head.kind ≡ SetLength
      → with_entry n b s w.objects.object (refilled (entry_in n b s w.objects.object) (resized (contents_of (entry_in n b s w.objects.object)) w.range.offset))
      ≡ encode_volume b (apply (read_volume n b s) (operation_in t w))
  unfolding apply
  length-leaves e = rw (operation-kind t w SetLength e)

  -- "forder's change to the view is none"
  pub forder-leaves : w.head.kind ≡ Forder → s ≡ encode_volume b (apply (read_volume n b s) (operation_in t w))
  unfolding apply
  forder-leaves e = rw (operation-kind t w Forder e) (sym f.stored)

  -- What applying leaves is of the right form again, and tells of the volume that the definition leaves.
  pub apply-formed : Formed n b (encode_volume b (apply (read_volume n b s) (operation_in t w)))
  apply-formed =
      let l = f.lent in
      encoded-formed n b (apply (read_volume n b s) (operation_in t w)) l.fewest l.most l.least l.blocks
      (apply-good n b (read_volume n b s) (record_from t w) f.form g.sound g.fit a)
