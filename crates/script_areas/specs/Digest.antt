-- FNV-1a in 64 bits: each byte is joined to the number so far by an exclusive or, and the result is multiplied by a prime.
use Rattle.std.specs.Prelude.{ℕ, ◌*◌, ◌%◌, ◌^◌, List, [], ◌∷◌, bit_xor}

abbrev pub prime : ℕ
prime = 1099511628211

abbrev pub offset : ℕ
offset = 14695981039346656037

-- the digest of some bytes, behind those that gave a number
unfoldable pub digest_from : ℕ → List ℕ → ℕ
digest_from h [] = h
digest_from h (b ∷ s) = digest_from (bit_xor h b * prime % 2 ^ 64) s
