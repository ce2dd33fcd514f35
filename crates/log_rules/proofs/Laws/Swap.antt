-- Document 01, "Order and dependence": two operations in a row of which the first does not directly precede the second may
-- change places.
-- Assumes nothing.
use Rattle.std.specs.Prelude.{ℕ, ◌+◌, ◌-◌, ◌≤◌, ◌<◌, ◌≡◌, refl, Bool, true, false, not, ◌&&◌, ◌||◌, List, [], ◌∷◌, ◌++◌, length, set, take, drop, leb, ltb, eqb}
use Rattle.std.proofs.Common.{arith, sym, ap, ◌∙◌, append_assoc, length-append, length-take, length-drop, take-append-drop, set-set, leb-true, ltb-false, eqb-true}
use Rattle.std.proofs.Math.Bool.{and-eq-true_iff, and_comm}
use Rattle.std.proofs.lemmas.Bool.{false≢true, not-true, not-false}
use Rattle.std.specs.Prelude.{Option, None, Some}
use Rattle.buffer.specs.Laws.Test.{or_left, or_right, same_test}
use Rattle.record.specs.Operation.{Operation, overwrite, Record, operands, Stretch, overwrite_of}
use Rattle.record.proofs.Laws.Operation.{overwrites}
use Rattle.record.specs.Fields.{member, valid, fits}
use Rattle.volume_entry.specs.Entry.{Entry, is_file, contents_of, refilled}
use Rattle.volume_tree.specs.Volume.{Volume, entry_at}
use Rattle.volume_tree.specs.Form.{well_formed}
use Rattle.buffer.specs.Patch.{patch}
use Rattle.volume_entry.specs.Laws.Entry.{refilled-kind, refilled-contents, refilled-twice}
use Rattle.volume_entry.specs.Laws.Field.{alike-file}
use Rattle.volume_entry.specs.Laws.Write.{length-patch, patch-between}
use Rattle.volume_apply.specs.Apply.{applies, apply}
use Rattle.volume_tree.specs.Laws.Search.{entry-set-same, file-below}
use Rattle.volume_apply.proofs.Laws.Apply.{apply-good, apply-length}
use Rattle.volume_apply.proofs.Laws.Local.{Agree, same-volume, member-first, member-next, applies-local, apply-local, apply-elsewhere}
use Rattle.log_rules.specs.Order.{shares, touches, overlap, separate, directly_precedes}

-- A common member of two lists is shared.
pub in_both : (i : ℕ) (k l : List ℕ) → member i k ≡ true → member i l ≡ true → shares k l ≡ true
unfolding shares member
in_both i [] l m n = m
in_both i (o ∷ k) l m n = go (eqb i o) refl m (λ h. in_both i k l h n)
  where
    go : (b : Bool) → eqb i o ≡ b → b || member i k ≡ true → (member i k ≡ true → shares k l ≡ true) → member o l || shares k l ≡ true
    go true e m r = or_left (member o l) (shares k l) (ap (λ (x : ℕ). member x l) (sym (eqb-true i o e)) ∙ n)
    go false e m r = or_right (member o l) (shares k l) (r m)

-- Lists that share have a common member.
pub shares-some : (k l : List ℕ) → shares k l ≡ true → (i : ℕ) × ((member i k ≡ true) × (member i l ≡ true))
unfolding shares
shares-some [] l e = absurd (false≢true e)
shares-some (o ∷ k) l e = go (member o l) refl e (shares-some k l)
  where
    go : (b : Bool) → member o l ≡ b → b || shares k l ≡ true → (shares k l ≡ true → (i : ℕ) × ((member i k ≡ true) × (member i l ≡ true)))
        → (i : ℕ) × ((member i (o ∷ k) ≡ true) × (member i l ≡ true))
    go true t e h = (o, (member-first o k, t))
    go false t e h = let r = h e in (r.0, (member-next r.0 o k r.1.0, r.1.1))

-- Of two lists that do not share, no member of one is a member of the other.
pub shares-none : (k l : List ℕ) → shares k l ≡ false → (i : ℕ) → member i k ≡ true → member i l ≡ false
shares-none k l e i m = go (member i l) refl
  where
    go : (b : Bool) → member i l ≡ b → member i l ≡ false
    go true n = absurd (false≢true (sym e ∙ in_both i k l m n))
    go false n = n

pub shares-sym : (k l : List ℕ) → shares k l ≡ shares l k
shares-sym k l = same_test (shares k l) (shares l k) (one k l) (one l k)
  where
    one : (k l : List ℕ) → shares k l ≡ true → shares l k ≡ true
    one k l e = let r = shares-some k l e in in_both r.0 l k r.1.1 r.1.0

-- two operations without order: no shared operand, or two overwrites of one file without a common byte
pub data Apart (a b : Operation) : Type 0 where
  disjoint : shares (operands a) (operands b) ≡ false → Apart a b
  stretches : (o f g : ℕ) (c d : List ℕ) → a ≡ overwrite o f c → b ≡ overwrite o g d → overlap f c g d ≡ false → Apart a b

-- two stretches without a common byte
separated : (s t : Option Stretch) → separate s t ≡ true
    → (u : Stretch) × (w : Stretch) × (s ≡ Some u) × (t ≡ Some w) × (overlap u.offset u.content w.offset w.content ≡ false)
separated None t e = absurd (false≢true e)
separated (Some s) None e = absurd (false≢true e)
separated (Some s) (Some t) e = (s, t, refl, refl, not-true _ e)

one-shared : (o p : ℕ) → shares (o ∷ []) (p ∷ []) ≡ true → o ≡ p
unfolding shares member
one-shared o p e = go (eqb o p) refl e
  where
    go : (b : Bool) → eqb o p ≡ b → (b || false) || false ≡ true → o ≡ p
    go true t e = eqb-true o p t
    go false t e = absurd (false≢true e)

-- Of two operations the first does not directly precede the second only if they are apart.
pub apart : (a b : Operation) → directly_precedes a b ≡ false → Apart a b
unfolding directly_precedes
apart a b e = go (touches a b) refl e
  where
    go : (t : Bool) → touches a b ≡ t → t && not (separate (overwrite_of a) (overwrite_of b)) ≡ false → Apart a b
    go false s e = disjoint s
    go true s e =
        let x = separated (overwrite_of a) (overwrite_of b) (not-false _ e) in
        let f = x.0.offset in
        let c = x.0.content in
        let g = x.1.offset in
        let d = x.1.content in
        let oa = overwrites a x.0 x.2 in
        let ob = overwrites b x.1 x.3 in
        let q : oa.object ≡ ob.object = one-shared oa.object ob.object (rw (oa.operand, ob.operand) at s) in
        stretches oa.object f g c d oa.is (ob.is ∙ ap (λ (i : ℕ). overwrite i g d) (sym q)) x.4

pub apart-sym : {a b : Operation} → Apart a b → Apart b a
apart-sym {a} {b} (disjoint e) = disjoint (shares-sym (operands b) (operands a) ∙ e)
apart-sym (stretches o f g c d ea eb e) = stretches o g f d c eb ea (and_comm (ltb g (f + length c)) (ltb f (g + length d)) ∙ e)

-- two writes over parts of one list
writes : (p x y z t c d : List ℕ) (f g : ℕ) → length p ≡ f → length x ≡ length c → f + length c + length y ≡ g → length z ≡ length d
    → patch (patch (p ++ (x ++ (y ++ (z ++ t)))) f c) g d ≡ patch (patch (p ++ (x ++ (y ++ (z ++ t)))) g d) f c
writes p x y z t c d f g h k l m =
    let regroup : (s a : List ℕ) → (p ++ (s ++ y)) ++ (a ++ t) ≡ p ++ (s ++ (y ++ (a ++ t))) = λ s a. simp append_assoc in
    let second : (s : List ℕ) → length s ≡ length c → patch (p ++ (s ++ (y ++ (z ++ t)))) g d ≡ p ++ (s ++ (y ++ (d ++ t))) =
    λ s e. ap (λ (r : List ℕ). patch r g d) (sym (regroup s z)) ∙ patch-between (p ++ (s ++ y)) z t g d (simp length-append (omega arith)) m ∙ regroup s d in
    ap (λ (r : List ℕ). patch r g d) (patch-between p x (y ++ (z ++ t)) f c h k) ∙ second c refl
    ∙ sym (ap (λ (r : List ℕ). patch r f c) (second x k) ∙ patch-between p x (y ++ (d ++ t)) f c h k)

-- Two writes inside some contents, one behind the other, commute.
written_behind : (k : List ℕ) (f g : ℕ) (c d : List ℕ) → f + length c ≤ g → g + length d ≤ length k
    → patch (patch k f c) g d ≡ patch (patch k g d) f c
written_behind k f g c d h l =
    let p = take f k in
    let r = drop f k in
    let x = take (length c) r in
    let s = drop (length c) r in
    let y = take (g - (f + length c)) s in
    let u = drop (g - (f + length c)) s in
    let z = take (length d) u in
    let t = drop (length d) u in
    let whole : p ++ (x ++ (y ++ (z ++ t))) ≡ k =
    ap (λ (a : List ℕ). p ++ (x ++ (y ++ a))) (take-append-drop (length d) u) ∙ ap (λ (a : List ℕ). p ++ (x ++ a)) (take-append-drop (g - (f + length c)) s)
    ∙ ap (λ (a : List ℕ). p ++ a) (take-append-drop (length c) r) ∙ take-append-drop f k in
    let e = writes p x y z t c d f g (simp length-take (omega arith)) (simp (length-take, length-drop) (omega arith))
    (simp (length-take, length-drop) (omega arith)) (simp (length-take, length-drop) (omega arith)) in
    rw whole at e

-- Two writes inside some contents without a common byte commute.
pub written-swap : (k : List ℕ) (f g : ℕ) (c d : List ℕ) → overlap f c g d ≡ false → f + length c ≤ length k → g + length d ≤ length k
    → patch (patch k f c) g d ≡ patch (patch k g d) f c
written-swap k f g c d e h l = go (ltb f (g + length d)) refl e
  where
    go : (b : Bool) → ltb f (g + length d) ≡ b → b && ltb g (f + length c) ≡ false → patch (patch k f c) g d ≡ patch (patch k g d) f c
    go true t e = written_behind k f g c d (ltb-false g (f + length c) e) l
    go false t e = sym (written_behind k g f d c (ltb-false f (g + length d) t) h)

-- a file with bytes written over its contents
abbrev overwritten : Entry → ℕ → List ℕ → Entry
overwritten e f c = refilled e (patch (contents_of e) f c)

-- whether a stretch lies inside a file
abbrev covers : Entry → ℕ → List ℕ → Bool
covers e f c = is_file e && leb (f + length c) (length (contents_of e))

covers-inv : (e : Entry) (f : ℕ) (c : List ℕ) → covers e f c ≡ true → (is_file e ≡ true) × (f + length c ≤ length (contents_of e))
covers-inv e f c t =
    let h = (and-eq-true_iff (is_file e) (leb (f + length c) (length (contents_of e)))).0 t in
    (h.0, leb-true (f + length c) (length (contents_of e)) h.1)

-- a write keeps what stretches lie inside
covers_kept : (e : Entry) (f g : ℕ) (c d : List ℕ) → covers e f c ≡ true → covers (overwritten e f c) g d ≡ covers e g d
covers_kept e f g c d t =
    let h = covers-inv e f c t in
    rw (alike-file (overwritten e f c) e (refilled-kind e _), refilled-contents e (patch (contents_of e) f c) h.0, length-patch (contents_of e) f c h.1)

overwritten-swap : (e : Entry) (f g : ℕ) (c d : List ℕ) → overlap f c g d ≡ false → covers e f c ≡ true → covers e g d ≡ true
    → overwritten (overwritten e f c) g d ≡ overwritten (overwritten e g d) f c
overwritten-swap e f g c d o s t =
    let h = covers-inv e f c s in
    let k = covers-inv e g d t in
    twice f g c d h.0 ∙ ap (refilled e) (written-swap (contents_of e) f g c d o h.1 k.1) ∙ sym (twice g f d c h.0)
  where
    twice : (f g : ℕ) (c d : List ℕ) → is_file e ≡ true → overwritten (overwritten e f c) g d ≡ refilled e (patch (patch (contents_of e) f c) g d)
    twice f g c d h = refilled-twice e _ _ ∙ ap (λ (k : List ℕ). refilled e (patch k g d)) (refilled-contents e (patch (contents_of e) f c) h)

covers_below : (v : Volume) (o f : ℕ) (c : List ℕ) → covers (entry_at v o) f c ≡ true → o < length v
covers_below v o f c t = file-below v o (covers-inv (entry_at v o) f c t).0

stretch-unmoved : (v : Volume) (o f g : ℕ) (c d : List ℕ) → applies v (overwrite o f c) ≡ true
    → applies (apply v (overwrite o f c)) (overwrite o g d) ≡ applies v (overwrite o g d)
unfolding applies apply
stretch-unmoved v o f g c d t =
    ap (λ (e : Entry). covers e g d) (entry-set-same v o (overwritten (entry_at v o) f c) (covers_below v o f c t)) ∙ covers_kept (entry_at v o) f g c d t

stretch-commute : (v : Volume) (o f g : ℕ) (c d : List ℕ) → overlap f c g d ≡ false → applies v (overwrite o f c) ≡ true → applies v (overwrite o g d) ≡ true
    → apply (apply v (overwrite o f c)) (overwrite o g d) ≡ apply (apply v (overwrite o g d)) (overwrite o f c)
unfolding applies apply
stretch-commute v o f g c d e t u =
    twice f g c d ∙ ap (set v o) (overwritten-swap (entry_at v o) f g c d e t u) ∙ sym (twice g f d c)
  where
    below : o < length v
    below = covers_below v o f c t

    twice : (f g : ℕ) (c d : List ℕ)
        → set (set v o (overwritten (entry_at v o) f c)) o (overwritten (entry_at (set v o (overwritten (entry_at v o) f c)) o) g d)
        ≡ set v o (overwritten (overwritten (entry_at v o) f c) g d)
    twice f g c d =
        let x = overwritten (entry_at v o) f c in
        ap (λ (e : Entry). set (set v o x) o (overwritten e g d)) (entry-set-same v o x below) ∙ set-set v o x (overwritten x g d)

-- An operation that is apart from another applies after it exactly if it applies before.
pub unmoved : (v : Volume) (a b : Operation) → Apart a b → applies v a ≡ true → applies (apply v a) b ≡ applies v b
unmoved v a b (disjoint e) t =
    applies-local (apply v a) v b (apply-length v a)
    (λ i m. apply-elsewhere v a t i (shares-none (operands b) (operands a) (shares-sym (operands b) (operands a) ∙ e) i m))
unmoved v a b (stretches o f g c d ea eb e) t = rw (ea, eb) (stretch-unmoved v o f g c d (rw ea at t))

-- Of two operations that apply to a volume and have no order, each applies after the other.
pub both : (v : Volume) (a b : Operation) → directly_precedes a b ≡ false → applies v a ≡ true → applies v b ≡ true
    → (applies (apply v b) a ≡ true) × (applies (apply v a) b ≡ true)
both v a b e t u = let x = apart a b e in (unmoved v b a (apart-sym x) u ∙ t, unmoved v a b x t ∙ u)

module _ (n b : ℕ) (v : Volume) (r q : Record) (w : well_formed n b v ≡ true) (hr : valid r ≡ true) (fr : fits n b r ≡ true) (hq : valid q ≡ true) (fq : fits n b q ≡ true) where
  -- Two operations without a shared operand leave the same volume in either order.
  disjoint-commute : shares (operands r.operation) (operands q.operation) ≡ false → applies v r.operation ≡ true → applies v q.operation ≡ true
      → apply (apply v r.operation) q.operation ≡ apply (apply v q.operation) r.operation
  disjoint-commute e t u =
      same-volume (apply v1 y) (apply v2 x) (apply-length v1 y ∙ apply-length v x ∙ sym (apply-length v y) ∙ sym (apply-length v2 x))
      (λ i l. go i (member i (operands x)) (member i (operands y)) refl refl)
    where
      x : Operation
      x = r.operation

      y : Operation
      y = q.operation

      v1 : Volume
      v1 = apply v x

      v2 : Volume
      v2 = apply v y

      e' : shares (operands y) (operands x) ≡ false
      e' = shares-sym (operands y) (operands x) ∙ e

      t2 : applies v2 x ≡ true
      t2 = unmoved v y x (disjoint e') u ∙ t

      u1 : applies v1 y ≡ true
      u1 = unmoved v x y (disjoint e) t ∙ u

      left : Agree (apply v2 x) v1 (operands x)
      left = apply-local n b v2 v r (apply-good n b v q w hq fq u) w hr fr (λ i m. apply-elsewhere v y u i (shares-none (operands x) (operands y) e i m)) t2

      right : Agree (apply v1 y) v2 (operands y)
      right = apply-local n b v1 v q (apply-good n b v r w hr fr t) w hq fq (λ i m. apply-elsewhere v x t i (shares-none (operands y) (operands x) e' i m)) u1

      go : (i : ℕ) (k l : Bool) → member i (operands x) ≡ k → member i (operands y) ≡ l → entry_at (apply v1 y) i ≡ entry_at (apply v2 x) i
      go i true l m k =
          (apply-elsewhere v1 y u1 i (shares-none (operands x) (operands y) e i m)).entry ∙ sym (left i m).entry
      go i false true m k = (right i k).entry ∙ sym (apply-elsewhere v2 x t2 i m).entry
      go i false false m k =
          (apply-elsewhere v1 y u1 i k).entry ∙ (apply-elsewhere v x t i m).entry ∙ sym (apply-elsewhere v y u i k).entry ∙ sym (apply-elsewhere v2 x t2 i m).entry

  -- Two operations that apply to a volume and have no order leave the same in either order.
  pub commute : directly_precedes r.operation q.operation ≡ false → applies v r.operation ≡ true → applies v q.operation ≡ true
      → apply (apply v r.operation) q.operation ≡ apply (apply v q.operation) r.operation
  commute e t u = go (apart r.operation q.operation e)
    where
      go : Apart r.operation q.operation → apply (apply v r.operation) q.operation ≡ apply (apply v q.operation) r.operation
      go (disjoint s) = disjoint-commute s t u
      go (stretches o f g c d er eq s) = rw (er, eq) (stretch-commute v o f g c d s (rw er at t) (rw eq at u))

  -- Two operations in a row, the first not directly preceding the second: the second applies without the first, the first
  -- after it, and both orders leave the same volume.
  pub swap : directly_precedes r.operation q.operation ≡ false → applies v r.operation ≡ true → applies (apply v r.operation) q.operation ≡ true
      → (applies v q.operation ≡ true) × (applies (apply v q.operation) r.operation ≡ true) × (apply (apply v r.operation) q.operation ≡ apply (apply v q.operation) r.operation)
  swap e t u =
      let k : applies v q.operation ≡ true = sym (unmoved v r.operation q.operation (apart r.operation q.operation e) t) ∙ u in
      (k, (both v r.operation q.operation e t k).0, commute e t k)
