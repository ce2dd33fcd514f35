-- Rows and their bytes determine each other. Assumes nothing.
use Rattle.std.specs.Prelude.{ℕ, zero, suc, ◌+◌, ◌*◌, ◌-◌, ◌/◌, ◌%◌, ◌^◌, ◌≤◌, ◌<◌, ◌≡◌, refl, List, [], ◌∷◌, ◌++◌, Bool, true, ◌&&◌, length, take, drop, replicate, leb, ltb, eqb}
use Rattle.std.proofs.Common.{zero-add, suc-add, arith, sym, ap, ap₂, ◌∙◌, append_assoc, length-append, length-take, length-drop, take-append-drop, drop_at, drop-drop, take-add, get_or-drop, leb-true, eqb-true, ltb-true, lt-ltb}
use Rattle.std.proofs.Math.Nat.{pow-le-pow_right}
use Rattle.std.proofs.Math.Bool.{and-eq-true_iff, and-true}
use Rattle.std.proofs.lemmas.List.{length-replicate, replicate-append-replicate, take-append-le, drop-append-le}
use Rattle.buffer.specs.Numeral.{bytes, numeral, Bytes}
use Rattle.buffer.specs.Laws.Numeral.{numeral-bytes, numeral-below, bytes-part, number-back}
use Rattle.buffer.specs.Laws.Zero.{zeros-at}
use Rattle.rows.specs.declared.Row.{Row}
use Rattle.rows.specs.Stored.{row_bytes, most_rows, encode_row, encode_rows, read_row, read_rows, rows_in, rows_fit, fits_four, all_fit_four, rows_lent}

length-row : (r : Row) → length (encode_row r) ≡ row_bytes
unfolding bytes
length-row r = refl

-- So many rows have 12 bytes each, and so many are read.
pub length-rows : (k : ℕ) (l : List Row) → length (encode_rows k l) ≡ k * row_bytes
unfolding encode_rows
length-rows zero l = refl
length-rows (suc k) [] = omega (arith, length-rows k [])
length-rows (suc k) (r ∷ l) = length-append (encode_row r) (encode_rows k l) ∙ omega (arith, length-row r, length-rows k l)

pub rows-length : (k : ℕ) (s : List ℕ) → length (read_rows k s) ≡ k
unfolding read_rows
rows-length zero s = refl
rows-length (suc k) s = ap suc (rows-length k (drop row_bytes s))

-- A row that fits is read back from its bytes.
read-row : (r : Row) (t : List ℕ) → fits_four r ≡ true → read_row (encode_row r ++ t) ≡ r
unfolding bytes
read-row r t f =
    let x = (and-eq-true_iff (ltb r.shortest (2 ^ 32)) (ltb r.longest (2 ^ 32) && ltb r.seconds (2 ^ 32))).0 f in
    let y = (and-eq-true_iff (ltb r.longest (2 ^ 32)) (ltb r.seconds (2 ^ 32))).0 x.1 in
    rw (
      numeral-bytes 4 r.shortest (ltb-true r.shortest (2 ^ 32) x.0),
      numeral-bytes 4 r.longest (ltb-true r.longest (2 ^ 32) y.0),
      numeral-bytes 4 r.seconds (ltb-true r.seconds (2 ^ 32) y.1),
    )

behind-row : (r : Row) (t : List ℕ) → drop row_bytes (encode_row r ++ t) ≡ t
unfolding bytes
behind-row r t = refl

-- Rows that fit are read back from their bytes.
pub read-rows : (k : ℕ) (l : List Row) (t : List ℕ) → length l ≤ k → all_fit_four l ≡ true → read_rows (length l) (encode_rows k l ++ t) ≡ l
unfolding read_rows encode_rows all_fit_four
read-rows k [] t h f = refl
read-rows zero (r ∷ l) t h f = absurd (omega arith)
read-rows (suc k) (r ∷ l) t h f =
    let x = (and-eq-true_iff (fits_four r) (all_fit_four l)).0 f in
    let rest = encode_rows k l ++ t in
    rw (append_assoc (encode_row r) (encode_rows k l) t)
    (ap₂ (λ (a : Row) (s : List Row). a ∷ s) (read-row r rest x.0) (ap (read_rows (length l)) (behind-row r rest) ∙ read-rows k l t (omega arith) x.1))

-- 4 bytes, or what is left of them, hold a number of 4 bytes.
four_below : (at : ℕ) (s : List ℕ) → Bytes s → numeral (take 4 (drop at s)) < 2 ^ 32
four_below at s b =
    let t = take 4 (drop at s) in
    let l : length t ≤ 4 = rw length-take (omega arith) in
    let p : 256 ^ length t ≤ 256 ^ 4 = pow-le-pow_right (omega arith) l in
    omega (arith, numeral-below t (bytes-part s 4 at b))

bytes-behind : (n : ℕ) (s : List ℕ) → Bytes s → Bytes (drop n s)
bytes-behind n s b i = rw (get_or-drop n s i 0) (b (n + i))

-- What is read fits.
row_fits : (s : List ℕ) → Bytes s → fits_four (read_row s) ≡ true
row_fits s b = rw (lt-ltb _ _ (four_below 0 s b), lt-ltb _ _ (four_below 4 s b), lt-ltb _ _ (four_below 8 s b))

pub rows_fit_four : (k : ℕ) (s : List ℕ) → Bytes s → all_fit_four (read_rows k s) ≡ true
unfolding read_rows all_fit_four
rows_fit_four zero s b = refl
rows_fit_four (suc k) s b = rw (row_fits s b) (rows_fit_four k (drop row_bytes s) (bytes-behind row_bytes s b))

-- Bytes are those of the rows that they hold, with zeros behind them.
encode-none : (k : ℕ) → encode_rows k [] ≡ replicate (k * row_bytes) 0
unfolding encode_rows
encode-none zero = refl
encode-none (suc k) =
    let e : row_bytes + k * row_bytes ≡ suc k * row_bytes = omega arith in
    rw (encode-none k, replicate-append-replicate {A = ℕ} row_bytes (k * row_bytes) 0, e)

row_back : (s : List ℕ) → Bytes s → row_bytes ≤ length s → encode_row (read_row s) ≡ take row_bytes s
row_back s b h =
    rw (number-back 4 0 s (omega arith) b, number-back 4 4 s (omega arith) b, number-back 4 8 s (omega arith) b)
    (sym (take-add 4 8 s ∙ ap (λ (t : List ℕ). take 4 s ++ t) (take-add 4 4 (drop 4 s) ∙ rw (drop-drop 4 4 s))))

pub rows_back : (j k : ℕ) (s : List ℕ) → Bytes s → length s ≡ (j + k) * row_bytes → drop (j * row_bytes) s ≡ replicate (k * row_bytes) 0 → encode_rows (j + k) (read_rows j s) ≡ s
unfolding encode_rows read_rows
rows_back zero k s b e z = rw (zero-add k) (encode-none k ∙ sym z)
rows_back (suc j) k s b e z =
    let rest = drop row_bytes s in
    let d : row_bytes + j * row_bytes ≡ suc j * row_bytes = omega arith in
    let y : drop (j * row_bytes) rest ≡ replicate (k * row_bytes) 0 = drop-drop (j * row_bytes) row_bytes s ∙ ap (λ (n : ℕ). drop n s) d ∙ z in
    let l : length rest ≡ (j + k) * row_bytes = length-drop row_bytes s ∙ omega arith in
    let ih : encode_rows (j + k) (read_rows j rest) ≡ rest = rows_back j k rest (bytes-behind row_bytes s b) l y in
    rw (suc-add j k) (ap₂ (λ (x t : List ℕ). x ++ t) (row_back s b (omega arith)) ih ∙ take-append-drop row_bytes s)

-- What stands behind so many rows is not read.
row-taken : (s t : List ℕ) → row_bytes ≤ length s → read_row (s ++ t) ≡ read_row s
row-taken s t h =
    rw (
      take-append-le 4 s t (omega arith),
      drop-append-le 4 s t (omega arith),
      drop-append-le 8 s t (omega arith),
      take-append-le 4 (drop 4 s) t (rw length-drop (omega arith)),
      take-append-le 4 (drop 8 s) t (rw length-drop (omega arith)),
    )

pub rows_taken : (k : ℕ) (s t : List ℕ) → length s ≡ k * row_bytes → read_rows k (s ++ t) ≡ read_rows k s
unfolding read_rows
rows_taken zero s t e = refl
rows_taken (suc k) s t e =
    ap₂ (λ (r : Row) (l : List Row). r ∷ l) (row-taken s t (omega arith))
    (rw (drop-append-le row_bytes s t (omega arith)) (rows_taken k (drop row_bytes s) t (length-drop row_bytes s ∙ omega arith)))

bytes-append : (s t : List ℕ) → Bytes s → Bytes t → Bytes (s ++ t)
bytes-append [] t b d i = d i
bytes-append (a ∷ s) t b d zero = b 0
bytes-append (a ∷ s) t b d (suc i) = bytes-append s t (λ j. b (suc j)) d i

-- Rows that are lent, as they are stored: zeros behind them.
pub rows-lent : (s : List ℕ) → Bytes s → rows_fit s ≡ true → encode_rows most_rows (rows_in s) ≡ s ++ replicate (most_rows * row_bytes - length s) 0
rows-lent s b f =
    let x = (and-eq-true_iff (eqb (length s % row_bytes) 0) (leb (length s / row_bytes) most_rows)).0 f in
    let whole : length s % row_bytes ≡ 0 = eqb-true _ _ x.0 in
    let few : length s / row_bytes ≤ most_rows = leb-true _ _ x.1 in
    let j = length s / row_bytes in
    let k = most_rows - j in
    let z = replicate {A = ℕ} (k * row_bytes) 0 in
    let long : length s ≡ j * row_bytes = omega arith in
    let most : j + k ≡ most_rows = omega arith in
    let left : k * row_bytes ≡ most_rows * row_bytes - length s = omega arith in
    let byte : Bytes (s ++ z) = bytes-append s z b (λ i. rw (zeros-at (k * row_bytes) i) (omega arith)) in
    let all : length (s ++ z) ≡ (j + k) * row_bytes = length-append s z ∙ omega (arith, length-replicate {A = ℕ} (k * row_bytes) 0) in
    ap (λ (n : ℕ). encode_rows n (rows_in s)) (sym most)
    ∙ ap (encode_rows (j + k)) (sym (rows_taken j s z long))
    ∙ rows_back j k (s ++ z) byte all (drop_at s z (j * row_bytes) long)
    ∙ ap (λ (n : ℕ). s ++ replicate n 0) left

-- No rows: "unused rows zero".
pub empty-rows : encode_rows most_rows [] ≡ replicate (most_rows * row_bytes) 0
empty-rows = encode-none most_rows

-- Of bytes no more is asked than their length.
pub lent-fit : (s : List ℕ) → Bytes s → rows_lent s ≡ rows_fit s
lent-fit s h = ap (λ (t : Bool). rows_fit s && t) (rows_fit_four (length s / row_bytes) s h) ∙ and-true (rows_fit s)
