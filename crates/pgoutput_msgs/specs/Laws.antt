-- What lets a reader separate spellings, and that a spelling is decoded as its message: PostgreSQL 15, 55.9. Logical
-- Replication Message Formats.
use Rattle.std.specs.Prelude.{◌≡◌, ◌<◌, ℕ, List, [], ◌∷◌, ◌++◌, get_or, Ok, Err}
use Rattle.pgoutput_msgs.specs.declared.error.MsgError.{MsgError}
use Rattle.pgoutput_msgs.specs.declared.error.MsgError.TheVariants.{Trailing}
use Rattle.pgoutput_msgs.specs.declared.message.Msg.{Msg}
use Rattle.pgoutput_msgs.specs.Faults.{HasFault}
use Rattle.pgoutput_msgs.specs.Ranges.{IsMessage}
use Rattle.pgoutput_msgs.specs.Reading.{decoded}
use Rattle.pgoutput_msgs.specs.Spelling.{spelling_of}

-- if a spelling begins with another, nothing is left after it
abbrev pub NoneIsProperPrefix : Type 0
NoneIsProperPrefix = (one other : Msg) (rest : List ℕ) → IsMessage one → IsMessage other
    → spelling_of one ++ rest ≡ spelling_of other → rest ≡ []

-- messages that are spelled alike are the same
abbrev pub EachSpellsOne : Type 0
EachSpellsOne = (one other : Msg) → IsMessage one → IsMessage other → spelling_of one ≡ spelling_of other → one ≡ other

-- each number is below 256
abbrev pub IsBytes : List ℕ → Type 0
IsBytes bytes = (i : ℕ) → get_or bytes i 0 < 256

-- a spelling is decoded as its message
abbrev pub SpellingsAreDecoded : Type 0
SpellingsAreDecoded = (message : Msg) → IsMessage message → decoded (spelling_of message) ≡ Ok message

-- what is decoded has this spelling
abbrev pub DecodedAreSpellings : Type 0
DecodedAreSpellings = (bytes : List ℕ) (message : Msg) → IsBytes bytes → decoded bytes ≡ Ok message
    → IsMessage message × (bytes ≡ spelling_of message)

-- a spelling with bytes after it is refused because of them
abbrev pub NothingMayFollow : Type 0
NothingMayFollow = (message : Msg) (next : ℕ) (more : List ℕ) → IsMessage message
    → decoded (spelling_of message ++ next ∷ more) ≡ Err Trailing

-- a fault is true of the bytes
abbrev pub FaultsAreTrue : Type 0
FaultsAreTrue = (bytes : List ℕ) (fault : MsgError) → IsBytes bytes → decoded bytes ≡ Err fault → HasFault bytes fault
