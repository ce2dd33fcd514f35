-- A digest a byte at a time.
use Rattle.std.specs.Prelude.{◌≡◌, ℕ, ◌+◌, ◌*◌, ◌/◌, ◌%◌, ◌^◌, ◌<◌, List, length, drop, bit_xor, slice_index}
use Rattle.std.proofs.Common.{add-one, arith, sym, ap, ◌∙◌, drop_of_length-le, drop-cons}
use Rattle.std.proofs.Math.Nat.{add-mul-mod_self_left}
use Rattle.script_areas.specs.Digest.{prime, digest_from}

pub digest-more : (h : ℕ) (s : List ℕ) (i : ℕ) → i < length s → digest_from (bit_xor h (slice_index s i) * prime % 2 ^ 64) (drop (i + 1) s) ≡ digest_from h (drop i s)
unfolding digest_from
digest-more h s i k = rw (add-one, drop-cons s i 0 k)

pub digest-whole : (h : ℕ) (s : List ℕ) (i : ℕ) → i ≡ length s → h ≡ digest_from h (drop i s)
unfolding digest_from
digest-whole h s i k = rw (drop_of_length-le s {i = i} (omega arith))

-- a multiple of 2^64 more changes nothing
more : (a b k : ℕ) → a ≡ b + 2 ^ 64 * k → a % 2 ^ 64 ≡ b % 2 ^ 64
more a b k e = ap (λ (x : ℕ). x % 2 ^ 64) e ∙ add-mul-mod_self_left b (2 ^ 64) k

-- the product from its parts
pub in_parts : (h : ℕ) → ((h % 4294967296 * 435 + h / 4294967296 * 435 % 4294967296 * 4294967296) % 2 ^ 64 + h % 16777216 * 1099511627776) % 2 ^ 64 ≡ h * prime % 2 ^ 64
in_parts h =
    let sum = h % 4294967296 * 435 + h / 4294967296 * 435 % 4294967296 * 4294967296 in
    let shifted = h % 16777216 * 1099511627776 in
    let whole : h * prime ≡ sum + shifted + 2 ^ 64 * (h / 4294967296 * 435 / 4294967296 + h / 16777216) = omega arith in
    let part : sum + shifted ≡ sum % 2 ^ 64 + shifted + 2 ^ 64 * (sum / 2 ^ 64) = omega arith in
    sym (more (h * prime) (sum + shifted) _ whole ∙ more (sum + shifted) (sum % 2 ^ 64 + shifted) _ part)
