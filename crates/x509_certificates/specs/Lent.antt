-- What a list of purposes is once the loan of its parts ends.
use Rattle.std.specs.Prelude.{List, length}
use Rattle.std.specs.List.{refill}
use Rattle.std.specs.Borrow.{follows, Fml, MutBor, Array}
use Rattle.std.specs.declared.slice.IterMut.{IterMut}
use Rattle.std.specs.Slice.Iter.{iter_mut_name}
use Rattle.picky_asn1.specs.declared.wrapper.ObjectIdentifierAsn1.{ObjectIdentifierAsn1}
use Rattle.picky_asn1.specs.contracts.wrapper.ObjectIdentifierAsn1 as identifier
use Rattle.x509_certificates.specs.contracts.extended_key_usage.ExtendedKeyUsage as usage

-- the list holds what was last written through the iterator, and has its length
abbrev pub LendsPurposes : MutBor (List ObjectIdentifierAsn1) → IterMut ObjectIdentifierAsn1 → Fml
LendsPurposes lender purposes = follows usage.the_row (Array identifier.the_row 0) lender.ghost_name (iter_mut_name purposes) (refill (length lender.now) lender.now)
