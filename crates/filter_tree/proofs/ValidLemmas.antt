-- A row has no fault exactly if it is valid.
use Rattle.std.proofs.Common.{◌≡◌, ℕ, zero, suc, ◌+◌, ◌≤◌, ℤ, Bool, true, false, List, [], ◌∷◌, length, refl, sym, subst, ◌∙◌, arith}
use Rattle.std.specs.Prelude.{Option, Some, None, IfSome, if◌then◌else◌, slice_get, Contains, int_le, nat_le, ◌==◌}
use Rattle.std.specs.List.{list_any}
use Rattle.std.proofs.lemmas.Map.Views.{list_any-from_Contains, Contains-from_any}
use Rattle.std.proofs.lemmas.Bool.{eqb-true, leb-true}
use Rattle.std.specs.Str.{IsUtf8, is_utf8}
use Rattle.std.proofs.lemmas.Str.{IsUtf8-from_is_utf8, is_utf8-from_IsUtf8}
use Rattle.std.specs.Bool.{Decides, passes}
use Rattle.std.proofs.lemmas.Bool.Decides.{nat_tests}
use Rattle.std.specs.Cmp.{decided, unsigned_Decides}
use Rattle.std.specs.Int.Signed.{le_z_yes}
use Rattle.filter_tree.specs.Datum.{Constant, Number, Truth, Bytes, Datum, Missing, Known, value_at}
use Rattle.filter_tree.specs.Range.{least_of, greatest_of}
use Rattle.filter_tree.specs.Valid.{IsWithin, IsText, IsOf, Fits, IsValid, number_fault, string_fault, bytes_fault, constant_fault, value_fault, first_row_fault, columns_fault, row_fault}
use Rattle.filter_tree.specs.declared.table.ColType.{ColType}
use Rattle.filter_tree.specs.declared.table.ColType.TheVariants.{SmallInt, Integer, BigInt, Boolean, Text}
use Rattle.filter_tree.specs.declared.table.Column.{Column}
use Rattle.filter_tree.specs.declared.validity.RowFault.{RowFault}
use Rattle.filter_tree.specs.declared.validity.RowFault.TheVariants.{Width, NullInNotNull, WrongType}
use Rattle.filter_tree.proofs.Tests.{by_test, both_true, from_test}

-- a test that decides whether there is a fault
passed : (b : Bool) (fault : RowFault) → (if b then None else Some fault) ≡ None → b ≡ true
passed true fault h = refl
passed false fault h = absurd cc

number_fits : (k : ℕ) (kind : ColType) (n : ℤ) → number_fault k kind n ≡ None → IsWithin kind n
number_fits k kind n h =
    let both = both_true (int_le (least_of kind) n) (int_le n (greatest_of kind)) (passed _ _ h) in
    record { above_least = le_z_yes (passes _ both.0); below_greatest = le_z_yes (passes _ both.1) }

fits_number : (k : ℕ) (kind : ColType) (n : ℤ) → IsWithin kind n → number_fault k kind n ≡ None
fits_number k kind n h =
    let low : int_le (least_of kind) n ≡ true = from_test _ h.above_least.le in
    let high : int_le n (greatest_of kind) ≡ true = from_test _ h.below_greatest.le in
    rw (low, high) refl

-- equality of bytes with its sides swapped, as a search for a byte makes it
swapped_decides : (x y : ℕ) → Decides (y == x) (x ≡ y)
swapped_decides x y =
    let decides = unsigned_Decides y x in
    (λ e. sym (decides.0 e), λ e. decides.1 (sym e))

has_zero : (bytes : List ℕ) → Contains bytes 0 → list_any (λ byte. byte == 0) bytes ≡ true
has_zero bytes h = list_any-from_Contains {eq = λ x y. y == x} (decided (λ x y. y == x) swapped_decides) 0 bytes h

zero_in : (bytes : List ℕ) → list_any (λ byte. byte == 0) bytes ≡ true → Contains bytes 0
zero_in bytes h = Contains-from_any {eq = λ x y. y == x} (λ x y. (swapped_decides x y).0) 0 bytes h

at_most : (m n : ℕ) → m ≤ n → nat_le m n ≡ true
at_most m n h = grind (arith, nat_tests)

text_fits : (k : ℕ) (bytes : List ℕ) → string_fault k bytes ≡ None → IsText bytes
text_fits k bytes h = by_test (list_any (λ byte. byte == 0) bytes)
    (λ found. absurd (let clash = rw found at h in cc))
    (λ missed. let short = rw missed at h in record {
      no_zero = λ contained. let found = has_zero bytes contained in cc;
      short = leb-true _ _ (passed _ _ short);
    })

fits_text : (k : ℕ) (bytes : List ℕ) → IsText bytes → string_fault k bytes ≡ None
fits_text k bytes h = by_test (list_any (λ byte. byte == 0) bytes)
    (λ found. absurd (h.no_zero (zero_in bytes found)))
    (λ missed. let short = at_most (length bytes) 65535 h.short in rw (missed, short) refl)

-- a test that decides whether there is another fault
unless_fault : (b : Bool) (later : Option RowFault) (fault : RowFault) → (if b then later else Some fault) ≡ None
    → (b ≡ true) × (later ≡ None)
unless_fault true later fault h = (refl, h)
unless_fault false later fault h = absurd cc

-- for bytes that are UTF-8 only the text's fault is left
pub utf8_fault : (k : ℕ) (bytes : List ℕ) → IsUtf8 bytes → bytes_fault k bytes ≡ string_fault k bytes
utf8_fault k bytes utf8 = rw (is_utf8-from_IsUtf8 bytes utf8) refl

bytes_fit : (k : ℕ) (bytes : List ℕ) → bytes_fault k bytes ≡ None → IsUtf8 bytes × IsText bytes
bytes_fit k bytes h =
    let both = unless_fault (is_utf8 bytes) (string_fault k bytes) (WrongType k) h in
    (IsUtf8-from_is_utf8 bytes both.0, text_fits k bytes both.1)

fits_bytes : (k : ℕ) (bytes : List ℕ) → IsUtf8 bytes × IsText bytes → bytes_fault k bytes ≡ None
fits_bytes k bytes h = utf8_fault k bytes h.0 ∙ fits_text k bytes h.1

constant_fits : (k : ℕ) (kind : ColType) (constant : Constant) → constant_fault k kind constant ≡ None
    → IsOf kind constant
constant_fits k SmallInt (Number n) h = number_fits k SmallInt n h
constant_fits k Integer (Number n) h = number_fits k Integer n h
constant_fits k BigInt (Number n) h = number_fits k BigInt n h
constant_fits k Boolean (Truth b) h = tt
constant_fits k Text (Bytes bytes) h = bytes_fit k bytes h
constant_fits k Boolean (Number n) h = cc
constant_fits k Text (Number n) h = cc
constant_fits k SmallInt (Truth b) h = cc
constant_fits k Integer (Truth b) h = cc
constant_fits k BigInt (Truth b) h = cc
constant_fits k Text (Truth b) h = cc
constant_fits k SmallInt (Bytes s) h = cc
constant_fits k Integer (Bytes s) h = cc
constant_fits k BigInt (Bytes s) h = cc
constant_fits k Boolean (Bytes s) h = cc

fits_constant : (k : ℕ) (kind : ColType) (constant : Constant) → IsOf kind constant
    → constant_fault k kind constant ≡ None
fits_constant k SmallInt (Number n) h = fits_number k SmallInt n h
fits_constant k Integer (Number n) h = fits_number k Integer n h
fits_constant k BigInt (Number n) h = fits_number k BigInt n h
fits_constant k Boolean (Truth b) h = refl
fits_constant k Text (Bytes bytes) h = fits_bytes k bytes h
fits_constant k Boolean (Number n) h = absurd h
fits_constant k Text (Number n) h = absurd h
fits_constant k SmallInt (Truth b) h = absurd h
fits_constant k Integer (Truth b) h = absurd h
fits_constant k BigInt (Truth b) h = absurd h
fits_constant k Text (Truth b) h = absurd h
fits_constant k SmallInt (Bytes s) h = absurd h
fits_constant k Integer (Bytes s) h = absurd h
fits_constant k BigInt (Bytes s) h = absurd h
fits_constant k Boolean (Bytes s) h = absurd h

null_fits : (k : ℕ) (not_null : Bool) → (if not_null then Some (NullInNotNull k) else None) ≡ None → not_null ≡ false
null_fits k true h = absurd cc
null_fits k false h = refl

value_fits : (k : ℕ) (column : Column) (value : Datum) → value_fault k column value ≡ None → Fits column value
value_fits k column Missing h = null_fits k column.not_null h
value_fits k column (Known constant) h = constant_fits k column.kind constant h

fits_value : (k : ℕ) (column : Column) (value : Datum) → Fits column value → value_fault k column value ≡ None
fits_value k column Missing h = rw h refl
fits_value k column (Known constant) h = fits_constant k column.kind constant h

first_of_none : (f g : Option RowFault) → first_row_fault f g ≡ None → (f ≡ None) × (g ≡ None)
first_of_none None g h = (refl, h)
first_of_none (Some f) g h = absurd cc

columns_fit : (row : List Datum) (number : ℕ) (columns : List Column) → columns_fault number columns row ≡ None
    → (k : ℕ) → IfSome (slice_get columns k) (λ column. Fits column (value_at row (number + k)))
columns_fit row number [] h k = tt
columns_fit row number (column ∷ columns) h zero =
    let fault = value_fault number column (value_at row number) in
    let both : (fault ≡ None) × (columns_fault (number + 1) columns row ≡ None) = first_of_none _ _ h in
    let e : number ≡ number + 0 = omega arith in
    subst (λ i. Fits column (value_at row i)) e (value_fits number column _ both.0)
columns_fit row number (column ∷ columns) h (suc k) =
    let fault = value_fault number column (value_at row number) in
    let both : (fault ≡ None) × (columns_fault (number + 1) columns row ≡ None) = first_of_none _ _ h in
    let e : number + 1 + k ≡ number + suc k = omega arith in
    subst (λ i. IfSome (slice_get columns k) (λ column. Fits column (value_at row i))) e
    (columns_fit row (number + 1) columns both.1 k)

fit_columns : (row : List Datum) (number : ℕ) (columns : List Column)
    → ((k : ℕ) → IfSome (slice_get columns k) (λ column. Fits column (value_at row (number + k))))
    → columns_fault number columns row ≡ None
fit_columns row number [] fits = refl
fit_columns row number (column ∷ columns) fits =
    let e : number + 0 ≡ number = omega arith in
    let here = fits_value number column _ (subst (λ i. Fits column (value_at row i)) e (fits 0)) in
    let later = fit_columns row (number + 1) columns (λ k. let f : number + suc k ≡ number + 1 + k = omega arith in
    subst (λ i. IfSome (slice_get columns k) (λ column. Fits column (value_at row i))) f (fits (suc k))) in
    cc

-- a test of the width that comes before another fault
width_passed : (b : Bool) (later : Option RowFault) → (if b then later else Some Width) ≡ None → (b ≡ true)
    × (later ≡ None)
width_passed true later h = (refl, h)
width_passed false later h = absurd cc

pub valid_from_no_fault : (columns : List Column) (row : List Datum) → row_fault columns row ≡ None
    → IsValid columns row
valid_from_no_fault columns row h =
    let both = width_passed (length row == length columns) (columns_fault 0 columns row) h in
    record {
      wide = eqb-true _ _ both.0;
      fits = λ k. let e : 0 + k ≡ k = omega arith in
          subst (λ i. IfSome (slice_get columns k) (λ column. Fits column (value_at row i))) e
          (columns_fit row 0 columns both.1 k);
    }

pub no_fault_from_valid : (columns : List Column) (row : List Datum) → IsValid columns row
    → row_fault columns row ≡ None
no_fault_from_valid columns row h =
    let wide : (length row == length columns) ≡ true = (unsigned_Decides _ _).1 h.wide in
    let fits = fit_columns row 0 columns (λ k. let e : k ≡ 0 + k = omega arith in
    subst (λ i. IfSome (slice_get columns k) (λ column. Fits column (value_at row i))) e (h.fits k)) in
    rw wide fits
