-- The names of the reasons why a text is not a certificate, without the places that they carry. Certificates are
-- specific to this project, and no section of PostgreSQL's documentation describes them.
use Rattle.std.specs.Prelude.{ℕ, List, codes}
use Rattle.split_cert.specs.declared.error.CertError.{CertError}
use Rattle.split_cert.specs.declared.error.CertError.TheVariants as e

abbrev pub error_name : CertError → List ℕ
error_name (e.BadToken place) = codes "BadToken"
error_name e.Ended = codes "Ended"
error_name (e.Trailing place) = codes "Trailing"
error_name e.TooLarge = codes "TooLarge"
error_name e.TooDeep = codes "TooDeep"
error_name e.OutOfMemory = codes "OutOfMemory"
