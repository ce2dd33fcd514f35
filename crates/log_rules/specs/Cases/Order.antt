-- Document 01, "Cases to prove", where they speak of operations alone, and what a cut and an fsync make of a log: one table,
-- proved through one statement.
use Rattle.std.specs.Prelude.{ℕ, ◌+◌, ◌≡◌, refl, List, [], ◌∷◌, map, replicate}
use Rattle.std.specs.Prelude.{None}
use Rattle.record.specs.Operation.{Operation, create_file, make_directory, rename, overwrite, set_length, Record, operands}
use Rattle.record.specs.Fields.{member}
use Rattle.log_rules.specs.Programs.{union_of}
use Rattle.log_rules.specs.Slot.{waiting, lost, Log}
use Rattle.log_rules.specs.Order.{shares, directly_precedes, any, closure, needed, predecessors}
use Rattle.log_rules.specs.Change.{waiting_of, dependents_of, discard}

abbrev pub sequences : List Record → List ℕ
sequences l = map (λ r. r.sequence) l

-- each of some operations by its sequence number, and behind it the numbers of those that precede it
unfoldable pub order_in : List Record → List Record → List (List ℕ)
order_in l [] = []
order_in l (b ∷ bs) = (b.sequence ∷ sequences (predecessors l b)) ∷ order_in l bs

abbrev pub order : List Record → List (List ℕ)
order l = order_in l l

-- operations of program 0 as they wait, numbered on
unfoldable pub numbered_from : ℕ → List Operation → List Record
numbered_from q [] = []
numbered_from q (o ∷ os) = record { sequence = q; program = 0; operation = o } ∷ numbered_from (q + 1) os

-- what a row asks
pub data Question : Type 0 where
  -- of operations in issue order, which of them precede each
  order_of : List Operation → Question
  -- of an object and operations in issue order, those that fsync of the object needs
  sends_for : ℕ → List Operation → Question
  -- of a log, the operations that wait after a cut, and the marks
  cut_of : Log → Question

unfoldable pub answer_to : Question → List (List ℕ)
answer_to (order_of os) = order (numbered_from 1 os)
answer_to (sends_for o os) = sequences (needed o (numbered_from 1 os)) ∷ []
answer_to (cut_of l) = sequences (waiting_of (discard l).slots) ∷ ((discard l).head.marks ∷ []) ∷ []

pub record Row : Type 0 where
  pub asked : Question
  pub told : List (List ℕ)

abbrev pub row : Question → List (List ℕ) → Row
row q t = record { asked = q; told = t }

-- an overwrite of so many bytes of object 1 from an offset on
abbrev pub over : ℕ → ℕ → Operation
over f n = overwrite 1 f (replicate n 7)

-- the directories a, b, c, d and e of figure 3 are 1 to 5, its files 6 to 9
abbrev pub renames : List Operation
renames =
    rename 6 1 4 None (97 ∷ []) (101 ∷ [])
    ∷ rename 7 2 5 None (98 ∷ []) (102 ∷ [])
    ∷ rename 8 3 4 None (99 ∷ []) (103 ∷ [])
    ∷ rename 9 4 5 None (100 ∷ []) (104 ∷ [])
    ∷ []

-- a lost operation of program 1, then two waiting ones; programs 0 and 2 depend on the first, 2 and 3 on the second
abbrev pub waiting_log : Log
waiting_log =
    record {
      head = record { next = 4; marks = 2 };
      slots =
          record { state = lost; dependents = 0; recorded = record { sequence = 1; program = 1; operation = over 0 4 } }
          ∷ record { state = waiting; dependents = 5; recorded = record { sequence = 2; program = 0; operation = over 0 4 } }
          ∷ record { state = waiting; dependents = 12; recorded = record { sequence = 3; program = 2; operation = over 4 4 } }
          ∷ [];
    }

abbrev pub rows : List Row
rows =
    -- "C3 overwrites of bytes 0..3 and 4..7: no order."
    row (order_of (over 0 4 ∷ over 4 4 ∷ [])) ((1 ∷ []) ∷ (2 ∷ []) ∷ [])
    -- "C4 bytes 0..4 and 4..7: order."
    ∷ row (order_of (over 0 5 ∷ over 4 4 ∷ [])) ((1 ∷ []) ∷ (2 ∷ 1 ∷ []) ∷ [])
    -- "C6 (002, figure 3) renames in a and d, in b and e, in c and d, then from d to e: third after first, fourth after all,
    -- first two free."
    ∷ row (order_of renames) ((1 ∷ []) ∷ (2 ∷ []) ∷ (3 ∷ 1 ∷ []) ∷ (4 ∷ 1 ∷ 2 ∷ 3 ∷ []) ∷ [])
    -- "C11 set length to the present length follows earlier overwrites."
    ∷ row (order_of (over 0 4 ∷ over 4 4 ∷ set_length 1 8 ∷ [])) ((1 ∷ []) ∷ (2 ∷ []) ∷ (3 ∷ 1 ∷ 2 ∷ []) ∷ [])
    -- "An operation precedes another also through a third": the second overwrite is ordered after the first by the set length
    ∷ row (order_of (over 0 4 ∷ set_length 1 8 ∷ over 4 4 ∷ [])) ((1 ∷ []) ∷ (2 ∷ 1 ∷ []) ∷ (3 ∷ 1 ∷ 2 ∷ []) ∷ [])
    -- "all waiting operations with that object as operand and their predecessors": not only those of the named file
    ∷ row (sends_for 3 (make_directory 2 0 (97 ∷ []) ∷ create_file 1 0 (98 ∷ []) ∷ create_file 3 2 (99 ∷ []) ∷ set_length 1 8 ∷ [])) ((1 ∷ 3 ∷ []) ∷ [])
    -- "Cut turns all waiting ones into lost ones, marks the dependents": none waits, and programs 0 to 3 are marked
    ∷ row (cut_of waiting_log) ([] ∷ (15 ∷ []) ∷ [])
    ∷ []

pub rows-hold : map (λ r. answer_to r.asked) rows ≡ map (λ r. r.told) rows
unfolding answer_to numbered_from order_in predecessors closure any directly_precedes shares member operands needed waiting_of dependents_of discard union_of
rows-hold = refl
