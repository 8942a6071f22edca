-- Reading the word of a step leaves fewer tokens.
use Rattle.std.proofs.Common.{◌≡◌, ◌<◌, Some, arith}
use Rattle.sql_reader.specs.Items.{Items, Stop, Broken, Then, size}
use Rattle.sql_reader.specs.Reading.{rest_of}
use Rattle.pub_reader.specs.declared.step_word.StepWord.{StepWord}
use Rattle.pub_reader.specs.Steps.{step_ahead}

pub rest_of_step_is_fewer : (ts : Items) (word : StepWord) → step_ahead ts ≡ Some word → size (rest_of ts) < size ts
unfolding step_ahead
rest_of_step_is_fewer (Stop place) word h = cc
rest_of_step_is_fewer (Broken place kind) word h = cc
rest_of_step_is_fewer (Then token rest) word h = omega arith
