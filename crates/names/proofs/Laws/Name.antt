-- Laws of names (document 01, "Names and paths"): the test of a name says exactly what the document's sentence says, and to be the
-- same name is to be equal in lower case (document 02, K2), so an equivalence of texts.
-- Assumes nothing.
use Rattle.std.specs.Prelude.{ℕ, zero, suc, ◌+◌, ◌%◌, ◌≤◌, ◌<◌, ◌≡◌, refl, Bool, true, false, not, ◌&&◌, cond, List, [], ◌∷◌, ◌++◌, map, length, get_or, drop, replicate, leb, eqb, Result, Ok, Err}
use Rattle.std.proofs.Common.{suc-le-suc, sym, ap, ap₂, ◌∙◌, le_of_suc-le-suc, not-suc-le-zero, add-one, arith, drop-cons, le-leb, leb-true, eq-eqb, ne_eqb, eqb-true}
use Rattle.std.proofs.Math.Bool.{and-eq-true_iff, and-false}
use Rattle.std.proofs.lemmas.Bool.{false≢true, lt-leb, eqb-false, not-true}
use Rattle.names.specs.declared.NameError.{NameError}
use Rattle.names.specs.declared.NameError.TheVariants.{Bad, Long}
use Rattle.names.specs.Name.{permitted_byte, all_permitted, is_dots, good_text, valid_name, name_text_of, lower_case, same_name}

-- A byte that is permitted is neither 0 nor a slash.
pub permitted-rule : (v : ℕ) → permitted_byte v ≡ true → (v ≡ 0 → ⊥) × (v ≡ 47 → ⊥)
unfolding permitted_byte
permitted-rule v e =
    let h = (and-eq-true_iff (not (eqb v 0)) (not (eqb v 47))).0 e in
    (eqb-false v 0 (not-true (eqb v 0) h.0), eqb-false v 47 (not-true (eqb v 47) h.1))

-- A byte that is neither 0 nor a slash is permitted.
pub rule-permitted : (v : ℕ) → (v ≡ 0 → ⊥) → (v ≡ 47 → ⊥) → permitted_byte v ≡ true
unfolding permitted_byte
rule-permitted v z s = simp (ne_eqb v 0 z, ne_eqb v 47 s)

-- A text is permitted from a place on where its byte there is, and the text is from the next place on.
pub all-step : (s : List ℕ) (i : ℕ) → i < length s
    → all_permitted (drop i s) ≡ permitted_byte (get_or s i 0) && all_permitted (drop (i + 1) s)
unfolding all_permitted
all-step s i h = rw (add-one, drop-cons s i 0)

-- Each byte of a text that is permitted is permitted.
pub all-at : (s : List ℕ) → all_permitted s ≡ true → (i : ℕ) → i < length s → permitted_byte (get_or s i 0) ≡ true
unfolding all_permitted
all-at [] e i h = absurd (not-suc-le-zero h)
all-at (b ∷ bs) e zero h = ((and-eq-true_iff (permitted_byte b) (all_permitted bs)).0 e).0
all-at (b ∷ bs) e (suc i) h =
    all-at bs ((and-eq-true_iff (permitted_byte b) (all_permitted bs)).0 e).1 i (le_of_suc-le-suc h)

-- A text each of whose bytes is permitted is permitted.
pub at_all : (s : List ℕ) → ((i : ℕ) → i < length s → permitted_byte (get_or s i 0) ≡ true) → all_permitted s ≡ true
unfolding all_permitted
at_all [] h = refl
at_all (b ∷ bs) h =
    (and-eq-true_iff (permitted_byte b) (all_permitted bs)).1
    (h 0 (omega arith), at_all bs (λ i k. h (suc i) (suc-le-suc k)))

-- The text is fine only where it is a valid name.
pub fine-valid : (s : List ℕ) → name_text_of s ≡ Ok (tt {0}) → valid_name s ≡ true
unfolding name_text_of valid_name
fine-valid s e = go (good_text s) (leb (length s) 60) e
  where
    go : (g l : Bool) → cond g (cond l (Ok (tt {0})) (Err Long)) (Err Bad) ≡ Ok (tt {0}) → g && l ≡ true
    go true true e = refl
    go true false e = cc
    go false l e = cc

-- The text is fine wherever it is a valid name.
pub valid-fine : (s : List ℕ) → valid_name s ≡ true → name_text_of s ≡ Ok (tt {0})
unfolding name_text_of valid_name
valid-fine s e = go (good_text s) (leb (length s) 60) e
  where
    go : (g l : Bool) → g && l ≡ true → cond g (cond l (Ok (tt {0})) (Err Long)) (Err Bad) ≡ Ok (tt {0})
    go true true e = refl
    go true false e = cc
    go false l e = cc

-- A text of more than 60 bytes is no name: nothing is cut.
pub long-refused : (s : List ℕ) → 60 < length s → valid_name s ≡ false
unfolding valid_name
long-refused s h = simp (lt-leb (length s) 60 h, and-false)

-- "A name has 1..60 bytes, none 0 or 47 (slash), and is neither "." nor ".."", with no test in it.
pub record IsName (s : List ℕ) : Type 0 where
  pub some : 1 ≤ length s
  pub short : length s ≤ 60
  pub bytes : (i : ℕ) → i < length s → (get_or s i 0 ≡ 0 → ⊥) × (get_or s i 0 ≡ 47 → ⊥)
  pub dot : s ≡ 46 ∷ [] → ⊥
  pub dots : s ≡ 46 ∷ 46 ∷ [] → ⊥

-- "." and ".." pass the test for dots.
dot-is : is_dots (46 ∷ []) ≡ true
unfolding is_dots
dot-is = refl

dots-is : is_dots (46 ∷ 46 ∷ []) ≡ true
unfolding is_dots
dots-is = refl

pair-dots : (a b : ℕ) → (a ≡ 46 → b ≡ 46 → ⊥) → eqb a 46 && eqb b 46 ≡ false
pair-dots a b h = go (eqb a 46) (eqb b 46) refl refl
  where
    go : (x y : Bool) → eqb a 46 ≡ x → eqb b 46 ≡ y → x && y ≡ false
    go true true p q = absurd (h (eqb-true a 46 p) (eqb-true b 46 q))
    go true false p q = refl
    go false y p q = refl

-- No text but "." and ".." passes the test for dots.
dots-are : (s : List ℕ) → (s ≡ 46 ∷ [] → ⊥) → (s ≡ 46 ∷ 46 ∷ [] → ⊥) → is_dots s ≡ false
unfolding is_dots
dots-are [] d dd = refl
dots-are (a ∷ []) d dd = simp (ne_eqb a 46 (λ e. d (ap (λ (v : ℕ). v ∷ []) e)))
dots-are (a ∷ b ∷ []) d dd =
    pair-dots a b (λ p q. dd (ap₂ (λ (v w : ℕ). v ∷ w ∷ []) p q))
dots-are (a ∷ b ∷ c ∷ s) d dd =
    simp (
      ne_eqb (length (a ∷ b ∷ c ∷ s)) 1 (λ e. omega arith),
      ne_eqb (length (a ∷ b ∷ c ∷ s)) 2 (λ e. omega arith),
    )

-- A text that passes the test of a valid name is a name.
pub valid-name : (s : List ℕ) → valid_name s ≡ true → IsName s
unfolding valid_name good_text
valid-name s e =
    let v = (and-eq-true_iff (good_text s) (leb (length s) 60)).0 e in
    let g = (and-eq-true_iff (leb 1 (length s)) (not (is_dots s) && all_permitted s)).0 v.0 in
    let t = (and-eq-true_iff (not (is_dots s)) (all_permitted s)).0 g.1 in
    record {
      some = leb-true 1 (length s) g.0;
      short = leb-true (length s) 60 v.1;
      bytes = λ i h. permitted-rule (get_or s i 0) (all-at s t.1 i h);
      dot = λ d. false≢true (sym (not-true (is_dots s) t.0) ∙ ap is_dots d ∙ dot-is);
      dots = λ d. false≢true (sym (not-true (is_dots s) t.0) ∙ ap is_dots d ∙ dots-is);
    }

-- A name passes the test of a valid name.
pub name-valid : (s : List ℕ) → IsName s → valid_name s ≡ true
unfolding valid_name good_text
name-valid s n =
    simp (
      le-leb 1 (length s) n.some,
      le-leb (length s) 60 n.short,
      dots-are s n.dot n.dots,
      at_all s (λ i h. rule-permitted (get_or s i 0) (n.bytes i h).0 (n.bytes i h).1),
    )

-- A valid name has 1 to 60 bytes.
pub valid-length : (s : List ℕ) → valid_name s ≡ true → (1 ≤ length s) × (length s ≤ 60)
valid-length s e = let n = valid-name s e in (n.some, n.short)

-- A to Z become a to z, and no other byte changes.
pub capital-lower : (v : ℕ) → 65 ≤ v → v ≤ 90 → lower_case v ≡ v + 32
unfolding lower_case
capital-lower v a z = rw (le-leb 65 v a, le-leb v 90 z)

pub below-lower : (v : ℕ) → v < 65 → lower_case v ≡ v
unfolding lower_case
below-lower v h = rw (lt-leb 65 v h)

pub above_lower : (v : ℕ) → 90 < v → lower_case v ≡ v
unfolding lower_case
above_lower v h = rw (lt-leb v 90 h, and-false (leb 65 v))

-- A letter's two cases differ by 32, so they have one remainder by 32.
pub lower-rest : (v : ℕ) → lower_case v % 32 ≡ v % 32
unfolding lower_case
lower-rest v = go (leb 65 v && leb v 90)
  where
    go : (b : Bool) → cond b (v + 32) v % 32 ≡ v % 32
    go true = omega arith
    go false = refl

-- Two texts that are equal in lower case are the same name.
pub lower-same : (s t : List ℕ) → map lower_case s ≡ map lower_case t → same_name s t ≡ true
unfolding same_name
lower-same [] [] e = refl
lower-same [] (b ∷ t) e = let z = ap length e in absurd (omega arith)
lower-same (a ∷ s) [] e = let z = ap length e in absurd (omega arith)
lower-same (a ∷ s) (b ∷ t) e =
    (and-eq-true_iff (eqb (lower_case a) (lower_case b)) (same_name s t)).1
    (eq-eqb (lower_case a) (lower_case b) (ap (λ (l : List ℕ). get_or l 0 0) e), lower-same s t (ap (drop 1) e))

-- Two texts that are the same name are equal in lower case, to the last byte.
pub same-lower : (s t : List ℕ) → same_name s t ≡ true → map lower_case s ≡ map lower_case t
unfolding same_name
same-lower [] [] e = refl
same-lower [] (b ∷ t) e = absurd (false≢true e)
same-lower (a ∷ s) [] e = absurd (false≢true e)
same-lower (a ∷ s) (b ∷ t) e =
    let h = (and-eq-true_iff (eqb (lower_case a) (lower_case b)) (same_name s t)).0 e in
    ap₂ (λ (v : ℕ) (r : List ℕ). v ∷ r) (eqb-true (lower_case a) (lower_case b) h.0) (same-lower s t h.1)

-- A text is the same name as itself.
pub same_refl : (s : List ℕ) → same_name s s ≡ true
same_refl s = lower-same s s refl

-- Two texts are the same name in either order.
pub same-sym : (s t : List ℕ) → same_name s t ≡ true → same_name t s ≡ true
same-sym s t e = lower-same t s (sym (same-lower s t e))

-- Two texts that are the same name as a third are the same name.
pub same-trans : (s t r : List ℕ) → same_name s t ≡ true → same_name t r ≡ true → same_name s r ≡ true
same-trans s t r e f = lower-same s r (same-lower s t e ∙ same-lower t r f)

-- A text is the same name as another exactly where it is the same name as every other spelling of that.
pub same-either : (s t : List ℕ) → same_name s t ≡ true → (r : List ℕ) → same_name r s ≡ same_name r t
same-either s t e r = go (same_name r s) (same_name r t) refl refl
  where
    go : (x y : Bool) → same_name r s ≡ x → same_name r t ≡ y → x ≡ y
    go true y p q = sym (same-trans r s t p e) ∙ q
    go false true p q = sym p ∙ same-trans r t s q (same-sym s t e)
    go false false p q = refl

-- Two texts of different lengths are not the same name.
pub lengths_differ : (s t : List ℕ) → (length s ≡ length t → ⊥) → same_name s t ≡ false
unfolding same_name
lengths_differ [] [] h = absurd (h refl)
lengths_differ [] (b ∷ t) h = refl
lengths_differ (a ∷ s) [] h = refl
lengths_differ (a ∷ s) (b ∷ t) h =
    ap (λ (x : Bool). eqb (lower_case a) (lower_case b) && x) (lengths_differ s t (λ e. h (ap suc e))) ∙ and-false (eqb (lower_case a) (lower_case b))

-- Two texts are the same name from a place on where their bytes there are equal in lower case, and they are from the next place on.
pub same_step : (s t : List ℕ) (i : ℕ) → i < length s → i < length t
    → same_name (drop i s) (drop i t) ≡ eqb (lower_case (get_or s i 0)) (lower_case (get_or t i 0)) && same_name (drop (i + 1) s) (drop (i + 1) t)
unfolding same_name
same_step s t i h k = simp (add-one, drop-cons s i 0 h, drop-cons t i 0 k)

-- Document 01's limits: 60 bytes are fine and 61 are long; "", "." and ".." are bad, "..." is fine; 61 bytes with a slash are
-- bad and not long.
pub name-examples :
    (name_text_of (replicate 60 97) ≡ Ok (tt {0}))
    × (name_text_of (replicate 61 97) ≡ Err Long)
    × (name_text_of [] ≡ Err Bad)
    × (name_text_of (46 ∷ []) ≡ Err Bad)
    × (name_text_of (46 ∷ 46 ∷ []) ≡ Err Bad)
    × (name_text_of (46 ∷ 46 ∷ 46 ∷ []) ≡ Ok (tt {0}))
    × (name_text_of (97 ∷ 0 ∷ []) ≡ Err Bad)
    × (name_text_of (replicate 60 97 ++ (47 ∷ [])) ≡ Err Bad)
unfolding name_text_of good_text is_dots all_permitted permitted_byte
name-examples = (refl, refl, refl, refl, refl, refl, refl, refl)

-- Document 02, K2: "Task" and "task", and names that differ in the case of their last byte, are the same name. So are A and a, Z and z; no
-- other byte has another spelling: not the neighbours @ and `, [ and {, not the digits, not bytes above 127. A part is another name.
pub case-examples :
    (same_name (84 ∷ 97 ∷ 115 ∷ 107 ∷ []) (116 ∷ 97 ∷ 115 ∷ 107 ∷ []) ≡ true)
    × (same_name (replicate 59 65 ++ (90 ∷ [])) (replicate 59 97 ++ (122 ∷ [])) ≡ true)
    × (same_name (97 ∷ 66 ∷ []) (65 ∷ 98 ∷ []) ≡ true)
    × (same_name (97 ∷ 66 ∷ []) (97 ∷ 99 ∷ []) ≡ false)
    × (same_name (64 ∷ []) (96 ∷ []) ≡ false)
    × (same_name (91 ∷ []) (123 ∷ []) ≡ false)
    × (same_name (48 ∷ []) (80 ∷ []) ≡ false)
    × (same_name (48 ∷ []) (16 ∷ []) ≡ false)
    × (same_name (192 ∷ []) (224 ∷ []) ≡ false)
    × (same_name (65 ∷ []) (97 ∷ 97 ∷ []) ≡ false)
unfolding same_name lower_case
case-examples = (refl, refl, refl, refl, refl, refl, refl, refl, refl, refl)

-- a text that is not fine is no valid name
pub not-fine : (t : List ℕ) (x : Result (Unit {0}) NameError) → name_text_of t ≡ x → (x ≡ Ok (tt {0}) → ⊥) → valid_name t ≡ false
not-fine t x e n = go (valid_name t) refl
  where
    go : (b : Bool) → valid_name t ≡ b → valid_name t ≡ false
    go true v = absurd (n (sym e ∙ valid-fine t v))
    go false v = v

bad-not-fine : ◌≡◌ {A = Result (Unit {0}) NameError} (Err Bad) (Ok tt) → ⊥
bad-not-fine e = let z : ◌≡◌ {A = ℕ} 0 1 = cc in omega arith

long-not-fine : ◌≡◌ {A = Result (Unit {0}) NameError} (Err Long) (Ok tt) → ⊥
long-not-fine e = let z : ◌≡◌ {A = ℕ} 0 1 = cc in omega arith

pub bad-invalid : (t : List ℕ) → name_text_of t ≡ Err Bad → valid_name t ≡ false
bad-invalid t e = not-fine t (Err Bad) e bad-not-fine

pub long-invalid : (t : List ℕ) → name_text_of t ≡ Err Long → valid_name t ≡ false
long-invalid t e = not-fine t (Err Long) e long-not-fine

-- a text with an error is no valid name
pub error-invalid : (t : List ℕ) (e : NameError) → name_text_of t ≡ Err e → valid_name t ≡ false
error-invalid t Bad e = bad-invalid t e
error-invalid t Long e = long-invalid t e
