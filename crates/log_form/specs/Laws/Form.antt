-- What a caller knows of bytes that are found to be a well-formed log, and of which bytes it is found. Assumes nothing.
use Rattle.std.specs.Prelude.{ℕ, ◌≤◌, ◌≡◌, refl, true, ◌&&◌, List, length, leb, eqb}
use Rattle.std.proofs.Common.{sym, ap, ◌∙◌, leb-true, eqb-true}
use Rattle.std.proofs.Math.Bool.{and-eq-true_iff}
use Rattle.std.proofs.lemmas.Bool.{false≢true}
use Rattle.std.specs.Prelude.{Option, None, Some}
use Rattle.buffer.specs.Decoded.{is_some}
use Rattle.log_rules.specs.Slot.{Log, well_formed_log}
use Rattle.log_rules.specs.Stored.{log_bytes, encode_log, read_log, decode_log, lent_log, formed_log}
use Rattle.log_rules.proofs.Laws.Stored.{read-log, encode-decode}
use Rattle.log_rules.specs.Code.Slots.{Logged}

-- what is asked of n, b, m and the length, part by part
pub record Lent (n b m : ℕ) (s : List ℕ) : Type 0 where
  pub fewest : 2 ≤ n
  pub objects : n ≤ 256
  pub least : 1 ≤ b
  pub blocks : b ≤ 64
  pub some : 1 ≤ m
  pub most : m ≤ 1024
  pub whole : length s ≡ log_bytes m

-- What passes the test is lent as it should be.
pub lent-inv : (n b m : ℕ) (s : List ℕ) → lent_log n b m s ≡ true → Lent n b m s
unfolding lent_log
lent-inv n b m s t =
    let last = eqb (length s) (log_bytes m) in
    let x = (and-eq-true_iff (leb 2 n && leb n 256) ((leb 1 b && leb b 64) && ((leb 1 m && leb m 1024) && last))).0 t in
    let y = (and-eq-true_iff (leb 1 b && leb b 64) ((leb 1 m && leb m 1024) && last)).0 x.1 in
    let z = (and-eq-true_iff (leb 1 m && leb m 1024) last).0 y.1 in
    let n₁ = (and-eq-true_iff (leb 2 n) (leb n 256)).0 x.0 in
    let b₁ = (and-eq-true_iff (leb 1 b) (leb b 64)).0 y.0 in
    let m₁ = (and-eq-true_iff (leb 1 m) (leb m 1024)).0 z.0 in
    record {
      fewest = leb-true 2 n n₁.0;
      objects = leb-true n 256 n₁.1;
      least = leb-true 1 b b₁.0;
      blocks = leb-true b 64 b₁.1;
      some = leb-true 1 m m₁.0;
      most = leb-true m 1024 m₁.1;
      whole = eqb-true (length s) (log_bytes m) z.1;
    }

-- Bytes that are found to be a well-formed log are those of the one that is read from them.
pub formed-logged : (n b m : ℕ) (s : List ℕ) → formed_log n b m s ≡ true → Logged n b m s
unfolding formed_log
formed-logged n b m s h =
    let x = (and-eq-true_iff (lent_log n b m s) (is_some (decode_log n b m s))).0 h in
    go (lent-inv n b m s x.0) (decode_log n b m s) refl x.1
  where
    go : Lent n b m s → (x : Option Log) → decode_log n b m s ≡ x → is_some x ≡ true → Logged n b m s
    go f None e t = absurd (false≢true t)
    go f (Some l) e t =
        let d = encode-decode n b m s l e in
        let back : read_log m s ≡ l = ap (read_log m) (sym d.1) ∙ read-log n b m l d.0 in
        record {
          objects = f.objects;
          blocks = f.blocks;
          most = f.most;
          whole = f.whole;
          form = ap (well_formed_log n b m) back ∙ d.0;
          stored = ap (encode_log m) back ∙ d.1;
        }
