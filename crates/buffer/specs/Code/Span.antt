-- A stretch of a buffer: where it lies, and its bytes.
use Rattle.std.specs.Prelude.{ℕ, List, take, drop}
use Rattle.buffer.specs.declared.span.Span.{Span}

abbrev pub span : ℕ → ℕ → Span
span start n = record { start = start; len = n }

-- the bytes of a stretch
abbrev pub stretch : List ℕ → Span → List ℕ
stretch s p = take p.len (drop p.start s)
