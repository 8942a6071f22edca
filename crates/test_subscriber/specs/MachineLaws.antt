-- That what a subscriber does with a message depends only on its machine, at each OID and key.
use Rattle.pgoutput_msgs.specs.declared.message.Msg.{Msg}
use Rattle.test_subscriber.specs.Answers.{SameOutcome}
use Rattle.test_subscriber.specs.Hearing.{hear}
use Rattle.test_subscriber.specs.Machine.{Machine, Alike}

-- machines that are alike hear a message alike
abbrev pub HearAlike : Type 0
HearAlike = (message : Msg) (one other : Machine) → Alike one other
    → SameOutcome (hear message one) (hear message other)
