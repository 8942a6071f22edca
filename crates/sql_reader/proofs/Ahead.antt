-- Consuming a token leaves fewer tokens.
use Rattle.std.proofs.Common.{◌≡◌, ℤ, ◌<◌, ◌≤◌, Bool, true, Some, IsSome, arith}
use Rattle.sql_reader.specs.declared.item.Item.{Item}
use Rattle.sql_reader.specs.Items.{Items, Stop, Broken, Then, size}
use Rattle.sql_reader.specs.Reading.{is_ahead, item_ahead, rest_of}
use Rattle.sql_reader.specs.Numbers.{number_ahead}
use Rattle.sql_reader.specs.Names.{name_ahead}

pub rest_is_fewer : (item : Item) (ts : Items) → is_ahead item ts ≡ true → size (rest_of ts) < size ts
unfolding is_ahead
rest_is_fewer item (Stop place) h = cc
rest_is_fewer item (Broken place kind) h = cc
rest_is_fewer item (Then token rest) h = omega arith

pub rest_of_name_is_fewer : (ts : Items) → name_ahead ts ≡ true → size (rest_of ts) < size ts
unfolding name_ahead
rest_of_name_is_fewer (Stop place) h = cc
rest_of_name_is_fewer (Broken place kind) h = cc
rest_of_name_is_fewer (Then token rest) h = omega arith

pub rest_of_some_is_fewer : (ts : Items) → IsSome (item_ahead ts) → size (rest_of ts) < size ts
rest_of_some_is_fewer (Stop place) h = cc
rest_of_some_is_fewer (Broken place kind) h = cc
rest_of_some_is_fewer (Then token rest) h = omega arith

pub rest_of_number_is_fewer : (negative : Bool) (ts : Items) (number : ℤ)
    → number_ahead negative (item_ahead ts) ≡ Some number → size (rest_of ts) < size ts
rest_of_number_is_fewer negative (Stop place) number h = cc
rest_of_number_is_fewer negative (Broken place kind) number h = cc
rest_of_number_is_fewer negative (Then token rest) number h = omega arith

pub rest_is_no_more : (ts : Items) → size (rest_of ts) ≤ size ts
rest_is_no_more (Stop place) = omega arith
rest_is_no_more (Broken place kind) = omega arith
rest_is_no_more (Then token rest) = omega arith
