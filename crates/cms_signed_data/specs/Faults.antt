-- Faults of X.509 values as those of signed content.
use Rattle.std.specs.Prelude.{ℕ}
use Rattle.x509_spelling.specs.declared.fault.X509Fault.{X509Fault}
use Rattle.x509_spelling.specs.declared.fault.X509Fault.TheVariants as x509
use Rattle.cms_signed_data.specs.declared.fault.SignedFault.{SignedFault}
use Rattle.cms_signed_data.specs.declared.fault.SignedFault.TheVariants.{Unreadable, Memory}

-- The number of a fault of signed data: 1 or 2.
abbrev pub fault_number : SignedFault → ℕ
fault_number Unreadable = 1
fault_number Memory = 2

abbrev pub fault_of : X509Fault → SignedFault
fault_of x509.Memory = Memory
fault_of fault = Unreadable
