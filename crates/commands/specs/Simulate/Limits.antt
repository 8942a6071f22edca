-- How many commits a log may take.
use Rattle.std.specs.Prelude.{◌≤◌, ℕ}

-- a number of commits that a log may take
pub record IsLogLimit (limit : ℕ) : Type 0 where
  pub some : 1 ≤ limit
  pub most : limit ≤ 1000000000
