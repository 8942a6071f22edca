-- The frame that requests the stream of a slot: PostgreSQL 15, 55.4. Streaming Replication Protocol (START_REPLICATION
-- SLOT slot_name LOGICAL), 55.5.1. Logical Streaming Replication Parameters, 8.20. pg_lsn Type, 4.1.1. Identifiers and
-- Key Words, 4.1.2.1. String Constants, and 55.7. Message Formats (Query).
use Rattle.std.specs.Prelude.{◌≡◌, ℕ, ◌/◌, ◌%◌, ◌^◌, nat_lt, true, if◌then◌else◌, List, [], ◌∷◌, ◌++◌, length, codes, Result, Ok, Err, OnOk, OnErr, IfErr}
use Rattle.std.specs.Fmt.{digits}
use Rattle.std.specs.List.{join_by}
use Rattle.copy_frames.specs.Frames.{framed}
use Rattle.copy_frames.specs.declared.fault.FrameFault.TheVariants.{FrameTooLong}
use Rattle.sql_tokens.specs.Doubled.{in_quotes}
use Rattle.test_subscriber.specs.Copies.{RefusedBy}
use Rattle.test_subscriber.specs.declared.fault.SubFault.{SubFault}
use Rattle.test_subscriber.specs.declared.fault.SubFault.TheVariants as f

-- the high and the low 32 bits in upper case hexadecimal, with a slash between them
abbrev pub lsn_text : ℕ → List ℕ
lsn_text lsn = digits 16 true (lsn / 2 ^ 32) ++ (47 ∷ digits 16 true (lsn % 2 ^ 32))

-- each between double quotes, separated by commas
abbrev pub names_text : List (List ℕ) → List ℕ
names_text names = join_by (in_quotes 34) (codes ",") names

abbrev pub start_text : List ℕ → List (List ℕ) → ℕ → List ℕ
start_text slot publications lsn =
    codes "START_REPLICATION SLOT " ++ (in_quotes 34 slot ++ (codes " LOGICAL " ++ (lsn_text lsn
    ++ (codes " (proto_version '1', publication_names " ++ (in_quotes 39 (names_text publications) ++ codes ")")))))

-- a text in a Query
abbrev pub query : List ℕ → List ℕ
query text = framed (record { kind = 81; body = text ++ (0 ∷ []) })

-- the length of a frame of a client is at most 65,536, with itself and the zero byte at the end of the text
abbrev pub query_of : List ℕ → Result (List ℕ) SubFault
query_of text = if nat_lt 65531 (length text) then Err (f.Frame FrameTooLong) else Ok (query text)

abbrev pub start_query : List ℕ → List (List ℕ) → ℕ → Result (List ℕ) SubFault
start_query slot publications lsn = query_of (start_text slot publications lsn)

-- the frame comes after what waits
abbrev pub Asks : Result (List ℕ) SubFault → List ℕ → List ℕ → Type 0
Asks (Ok frame) old new = new ≡ old ++ frame
Asks (Err fault) old new = ⊥

-- the frame is appended, or the error is its fault or out of memory, and nothing is appended
pub record Appends (frame : Result (List ℕ) SubFault) (old : List ℕ) (result : Result (Unit {0}) SubFault)
    (new : List ℕ) : Type 0 where
  pub ok : OnOk result (Asks frame old new)
  pub fault : IfErr result (RefusedBy frame)
  pub err : OnErr result (new ≡ old)
