use Rattle.std.proofs.Common.{◌≡◌, ◌<◌, ◌^◌, drop}
use Rattle.std.specs.Str.{all_ascii_digits}
use Rattle.split_cert.specs.Numbers.{number_from}
use Rattle.split_cert.proofs.number.value_of.Given as goal

abbrev pub invariant-loop-byte : goal.invariant-loop-byte
invariant-loop-byte l = record {
  digital : all_ascii_digits (drop l.byte-index l.digits) ≡ all_ascii_digits l.digits;
  so_far : number_from l.value (drop l.byte-index l.digits) ≡ number_from 0 l.digits;
  small : l.value < 2 ^ 32;
}
