-- Document 01, "Calls": the calls by what they are about, with their arguments (the program and the three buffers apart). A text, list or
-- data is its bytes; a lent buffer is its bytes before.
use Rattle.std.specs.Prelude.{ℕ, List}

-- "Lookup .., list .., stat .. and read answer from the view."
pub data Question : Type 0 where
  -- path
  lookup : List ℕ → Question
  -- object, buffer
  list : ℕ → List ℕ → Question
  -- object
  stat : ℕ → Question
  -- object, offset, buffer
  read : ℕ → ℕ → List ℕ → Question

-- "Each accepted change, and forder, alters the view, takes one sequence number and waits"
pub data Change : Type 0 where
  -- parent, name, object
  create_file make_directory : ℕ → List ℕ → ℕ → Change
  -- parent, name
  remove_file remove_directory : ℕ → List ℕ → Change
  -- parent, name, second parent, second name
  rename : ℕ → List ℕ → ℕ → List ℕ → Change
  -- object, offset, data
  write : ℕ → ℕ → List ℕ → Change
  -- object, new length
  set_length : ℕ → ℕ → Change
  -- list of 2 bytes an object
  forder : List ℕ → Change

-- what goes over the link, and its end
pub data Link : Type 0 where
  -- sequence
  push : ℕ → Link
  -- program, object, sends that the link still carries
  fsync : ℕ → ℕ → ℕ → Link
  cut : Link

-- what a program does about its losses: "Take and renew skip 4."
pub data Recovery : Type 0 where
  -- buffer
  take : List ℕ → Recovery
  renew : Recovery
