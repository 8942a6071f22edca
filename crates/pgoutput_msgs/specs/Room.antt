-- Bytes that are appended to a `Vec` that has room for them.
use Rattle.std.specs.Prelude.{◌≡◌, ℕ, ◌+◌, ◌≤◌, List, ◌++◌, length}
use Rattle.std.specs.Global.{Vec}
use Rattle.std.specs.Vec.{vec_len, vec_capacity}

-- there is room for these bytes
abbrev pub HasRoom : Vec ℕ → List ℕ → Type 0
HasRoom out bytes = vec_len out + length bytes ≤ vec_capacity out

-- they were appended, and the other room is kept
pub record Puts (old new : Vec ℕ) (bytes : List ℕ) : Type 0 where
  pub appended : new.items ≡ old.items ++ bytes
  pub longer : vec_len new ≡ vec_len old + length bytes
  pub kept : vec_capacity old ≤ vec_capacity new
