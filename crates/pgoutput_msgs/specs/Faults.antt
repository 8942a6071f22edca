-- What each fault says about bytes that spell no message: PostgreSQL 15, 55.9. Logical Replication Message Formats.
use Rattle.std.specs.Prelude.{◌≡◌, ◌<◌, ◌≤◌, ◌⊎◌, ℕ, List, [], ◌∷◌, ◌++◌, length, codes, slice_index, Contains}
use Rattle.std.specs.Str.{IsUtf8}
use Rattle.pgoutput_msgs.specs.declared.error.MsgError.{MsgError}
use Rattle.pgoutput_msgs.specs.declared.error.MsgError.TheVariants.{Unknown, Toast, BadCount, Short, BadText, Trailing, OutOfMemory}
use Rattle.pgoutput_msgs.specs.declared.message.Msg.{Msg}
use Rattle.pgoutput_msgs.specs.Ranges.{IsName, IsMessage}
use Rattle.pgoutput_msgs.specs.Spelling.{string, spelling_of}

-- some message is spelled by these bytes and others after them
pub record Begins (bytes : List ℕ) : Type 0 where
  pub message : Msg
  pub rest : List ℕ
  pub is : IsMessage message
  pub spelled : spelling_of message ≡ bytes ++ rest

-- The first fault is in a field of this kind: a message may begin with what is before the field, and none begins with
-- the field too.
pub record HasBadField (IsBad : List ℕ → Type 0) (bytes : List ℕ) : Type 0 where
  pub before : List ℕ
  pub field : List ℕ
  pub after : List ℕ
  pub bytes_are : bytes ≡ before ++ (field ++ after)
  pub begins : Begins before
  pub is_bad : IsBad field
  pub none : ¬ Begins (before ++ field)

-- a count or a length, of 16 or 32 bits, whose first bit says that it is negative
pub record IsNegative (field : List ℕ) : Type 0 where
  pub sign : 128 ≤ slice_index field 0
  pub width : (length field ≡ 2) ⊎ (length field ≡ 4)

-- each message that begins with `before` has more bytes after it than `part` has
abbrev pub IsTooFew : List ℕ → List ℕ → Type 0
IsTooFew before part = (message : Msg) (rest : List ℕ) → IsMessage message → spelling_of message ≡ before ++ rest
    → length part < length rest

-- any name may come after `before`, and `part` has no zero byte, which would end it
pub record IsUnended (before part : List ℕ) : Type 0 where
  pub is_name : (name : List ℕ) → IsName name → Begins (before ++ string name)
  pub no_end : ¬ Contains part 0

-- the bytes end within a field: there is only this part of it
pub record EndsEarly (bytes : List ℕ) : Type 0 where
  pub before : List ℕ
  pub part : List ℕ
  pub bytes_are : bytes ≡ before ++ part
  pub begins : Begins before
  pub lacks : IsTooFew before part ⊎ IsUnended before part

-- there are bytes after a message
pub record GoesOn (bytes : List ℕ) : Type 0 where
  pub message : Msg
  pub next : ℕ
  pub more : List ℕ
  pub is : IsMessage message
  pub bytes_are : bytes ≡ spelling_of message ++ next ∷ more

-- what a fault says about the bytes
abbrev pub HasFault : List ℕ → MsgError → Type 0
HasFault bytes (Unknown found) = HasBadField (λ field. field ≡ found ∷ []) bytes
HasFault bytes Toast = HasBadField (λ field. field ≡ codes "u") bytes
HasFault bytes BadCount = HasBadField IsNegative bytes
HasFault bytes BadText = HasBadField (λ field. ¬ IsUtf8 field) bytes
HasFault bytes Short = EndsEarly bytes
HasFault bytes Trailing = GoesOn bytes
HasFault bytes OutOfMemory = Unit {0}
