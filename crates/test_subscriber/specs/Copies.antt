-- What calls do to a subscriber's copy of a table, in which the changes of a transaction are staged until it commits:
-- PostgreSQL 15, 3.4. Transactions.
use Rattle.std.specs.Prelude.{◌≡◌, false, List, Option, Some, None, Result, Ok, Err, OnOk, IfErr}
use Rattle.filter_tree.specs.Datum.{Datum}
use Rattle.filter_tree.specs.Memory.{TellsFault}
use Rattle.tables_log.specs.Staging.{kept, seen}
use Rattle.test_subscriber.specs.Hearing.{RowsChange}
use Rattle.test_subscriber.specs.RowChanges.{Found}
use Rattle.test_subscriber.specs.declared.fault.SubFault.{SubFault}
use Rattle.test_subscriber.specs.declared.fault.SubFault.TheVariants.{Frame, Msg, OutOfPlace, NoRelation, BadValue, DuplicateKey, Refused, Closed, OutOfMemory}
use Rattle.test_subscriber.specs.declared.table_copy.TableCopy.{TableCopy}

-- the fault that an error reports, if any
abbrev pub sub_fault : SubFault → Option SubFault
sub_fault (Frame fault) = Some (Frame fault)
sub_fault (Msg fault) = Some (Msg fault)
sub_fault OutOfPlace = Some OutOfPlace
sub_fault (NoRelation oid) = Some (NoRelation oid)
sub_fault BadValue = Some BadValue
sub_fault DuplicateKey = Some DuplicateKey
sub_fault (Refused code) = Some (Refused code)
sub_fault Closed = Some Closed
sub_fault OutOfMemory = None

-- the error is that of the answer, or memory was refused
abbrev pub RefusedBy : {A : Type 0} → Result A SubFault → SubFault → Type 0
RefusedBy answer error = TellsFault (sub_fault error) answer

-- the rows that are found are those of the answer
abbrev pub Leaves : Result Found SubFault → Found → Type 0
Leaves (Ok wanted) found = (key : List Datum) → found key ≡ wanted key
Leaves (Err fault) found = ⊥

-- all but the changes that are staged
pub record StaysCopy (old new : TableCopy) : Type 0 where
  pub shape : new.shape ≡ old.shape
  pub is_known : new.is_known ≡ old.is_known
  pub keeps : (key : List Datum) → kept new.rows key ≡ kept old.rows key

-- the change is staged, or refused with its fault or because memory ran out
pub record ChangesCopy (change : RowsChange) (old : TableCopy) (result : Result (Unit {0}) SubFault) (new : TableCopy) :
    Type 0 where
  pub stays : StaysCopy old new
  pub ok : OnOk result (Leaves (change old.shape (seen old.rows)) (seen new.rows))
  pub fault : IfErr result (RefusedBy (change old.shape (seen old.rows)))

-- what was seen of a copy is kept
pub record SettlesCopy (old new : TableCopy) : Type 0 where
  pub shape : new.shape ≡ old.shape
  pub is_known : new.is_known ≡ old.is_known
  pub keeps : (key : List Datum) → kept new.rows key ≡ seen old.rows key
  pub sees : (key : List Datum) → seen new.rows key ≡ seen old.rows key

-- what was kept of it is seen, and its Relation has to come again
pub record ForgetsCopy (old new : TableCopy) : Type 0 where
  pub shape : new.shape ≡ old.shape
  pub is_known : new.is_known ≡ false
  pub keeps : (key : List Datum) → kept new.rows key ≡ kept old.rows key
  pub sees : (key : List Datum) → seen new.rows key ≡ kept old.rows key

abbrev pub OfEach : (TableCopy → TableCopy → Type 0) → Option TableCopy → Option TableCopy → Type 0
OfEach Does None None = Unit {0}
OfEach Does (Some old) (Some new) = Does old new
OfEach Does old new = ⊥
