-- A request without options is the plain one.
use Rattle.std.proofs.Common.{List}
use Rattle.krb_time.specs.Units.{Micros}
use Rattle.picky_asn1.specs.Bytes.{Bytes}
use Rattle.asn1_leaves.specs.declared.date.GeneralizedTime.{GeneralizedTime}
use Rattle.krb_crypto.specs.declared.suite.CipherSuite.{CipherSuite}
use Rattle.krb_messages.specs.RandomBytes.{Random}
use Rattle.krb_client.specs.AsRequest.{AsksAsOfSuites, AsksAsWith}
use Rattle.krb_client.specs.Client.{ClientRecord, CredentialRecord}
use Rattle.krb_client.specs.Means.{MeansRecord}
use Rattle.krb_client.specs.Options.{plain_options}
use Rattle.krb_client.specs.TgsRequest.{AsksTgsOfSuites, AsksTgsWith}

pub plain_as : {client : ClientRecord} {suites : List CipherSuite} {means : MeansRecord} {service : List Bytes} {till : GeneralizedTime} {moment : Micros} {words : Random} {bytes : Bytes}
    → AsksAsWith client suites plain_options means service till moment words bytes → AsksAsOfSuites client suites means service till moment words bytes
plain_as x = record { padata = x.padata; shown = x.shown; encoding = x.encoding }

pub as_plain : {client : ClientRecord} {suites : List CipherSuite} {means : MeansRecord} {service : List Bytes} {till : GeneralizedTime} {moment : Micros} {words : Random} {bytes : Bytes}
    → AsksAsOfSuites client suites means service till moment words bytes → AsksAsWith client suites plain_options means service till moment words bytes
as_plain x = record { padata = x.padata; shown = x.shown; encoding = x.encoding }

pub plain_tgs : {client : ClientRecord} {suites : List CipherSuite} {credential : CredentialRecord} {service : List Bytes} {till : GeneralizedTime} {moment : Micros} {words : Random} {bytes : Bytes}
    → AsksTgsWith client suites plain_options credential service till moment words bytes → AsksTgsOfSuites client suites credential service till moment words bytes
plain_tgs x = record { request = x.request; authenticates = x.authenticates; encoding = x.encoding }

pub tgs_plain : {client : ClientRecord} {suites : List CipherSuite} {credential : CredentialRecord} {service : List Bytes} {till : GeneralizedTime} {moment : Micros} {words : Random} {bytes : Bytes}
    → AsksTgsOfSuites client suites credential service till moment words bytes → AsksTgsWith client suites plain_options credential service till moment words bytes
tgs_plain x = record { request = x.request; authenticates = x.authenticates; encoding = x.encoding }
