-- Document 01, "Geometry and stored form": the numbers that a caller gives, and the bytes of a block.
use Rattle.std.specs.Prelude.{ℕ, Bool, ◌&&◌, leb}

-- "n objects (2..256)"
abbrev pub good_objects : ℕ → Bool
good_objects n = leb 2 n && leb n 256

-- "b blocks a file (1..64)"
abbrev pub good_blocks : ℕ → Bool
good_blocks b = leb 1 b && leb b 64

-- "m log slots (1..1,024)"
abbrev pub good_capacity : ℕ → Bool
good_capacity m = leb 1 m && leb m 1024

-- the bytes of a block: a file of b blocks has 1,024 × b
abbrev pub block_bytes : ℕ
block_bytes = 1024
