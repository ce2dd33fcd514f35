-- Document 02, K2, "Letter case in names": a rename in one parent to another spelling of the name applies, displaces nothing and leaves
-- the new spelling, in the view as on the server. Assumes nothing.
use Rattle.std.specs.Prelude.{ℕ, ◌≡◌, refl, true, not, ◌&&◌, List, set}
use Rattle.std.proofs.Common.{sym, ap, ◌∙◌, eq-eqb}
use Rattle.std.proofs.Math.Bool.{and-eq-true_iff}
use Rattle.std.specs.Prelude.{None}
use Rattle.std.proofs.lemmas.List.{set-get_or}
use Rattle.buffer.specs.Laws.Test.{or_right}
use Rattle.names.specs.Name.{same_name}
use Rattle.record.specs.Operation.{rename}
use Rattle.volume_entry.specs.Entry.{free, is_directory, kind_number, name_of, parent_of, contents_of, renamed}
use Rattle.volume_entry.specs.Laws.Entry.{renamed-name, renamed-parent, renamed-kind, renamed-contents, renamed-own}
use Rattle.volume_tree.specs.Volume.{Volume, entry_at, search}
use Rattle.volume_tree.specs.Laws.Search.{entry-set-same, entry_set_other, named-below, search-spelling}
use Rattle.volume_apply.specs.Apply.{is_absent, is_at, leads, stays, yields, applies, apply}
use Rattle.volume_apply.specs.Spelling.{Respelled}
use Rattle.volume_apply.proofs.Laws.Apply.{leads-named}

-- Where a name leads to an object, a rename to another spelling of it, in the same parent and without a displaced object, applies.
pub spelling-applies : (v : Volume) (o p : ℕ) (n k : List ℕ) → leads v p n o ≡ true → same_name n k ≡ true → applies v (rename o p p None n k) ≡ true
unfolding applies
spelling-applies v o p n k l e =
    let a = (and-eq-true_iff (is_directory (entry_at v p)) (is_at o (search v p n))).0 l in
    let y : yields v o p None k ≡ true = or_right (is_absent (search v p k)) _ (ap (is_at o) (sym (search-spelling v p n k e)) ∙ a.1) in
    let s : stays v o p p ≡ true = or_right (not (is_directory (entry_at v o))) _ (eq-eqb p p refl) in
    rw (l, a.0, s, y)

-- A rename in one parent that applies and displaces nothing leaves its second name as typed, and changes nothing else; it changes nothing
-- at all exactly where that is the stored spelling.
pub respelled : (v : Volume) (o p : ℕ) (n k : List ℕ) → applies v (rename o p p None n k) ≡ true → Respelled v (apply v (rename o p p None n k)) o k
unfolding applies apply
respelled v o p n k t =
    let x = (leads-named v p n o ((and-eq-true_iff (leads v p n o) (is_directory (entry_at v p) && (stays v o p p && yields v o p None k))).0 t).0).1 in
    let e = renamed (entry_at v o) k p in
    let there : entry_at (set v o e) o ≡ e = entry-set-same v o e (named-below v o x.named) in
    let name : name_of (entry_at (set v o e) o) ≡ k = ap name_of there ∙ renamed-name (entry_at v o) k p x.named in
    record {
      spelling = name;
      kind = ap kind_number there ∙ renamed-kind (entry_at v o) k p;
      parent = ap parent_of there ∙ renamed-parent (entry_at v o) k p x.named ∙ sym x.parent;
      contents = ap contents_of there ∙ renamed-contents (entry_at v o) k p;
      others = λ i z. entry_set_other v o e i z;
      nothing = (
        λ w. ap (λ (u : Volume). name_of (entry_at u o)) (sym w) ∙ name,
        λ w. (λ i. set v o (renamed (entry_at v o) (sym w i) (sym x.parent i))) ∙ ap (set v o) (renamed-own (entry_at v o)) ∙ set-get_or v o free,
      );
    }
