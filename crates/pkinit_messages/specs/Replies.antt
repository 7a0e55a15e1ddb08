-- A reply to preauthentication by certificate (RFC 4556, section 3.2.3) as one of two alternatives.
use Rattle.std.specs.Prelude.{◌≡◌, ℕ, List, refl}
use Rattle.picky_asn1_der.specs.declared.choice.Choice.{Choice}
use Rattle.picky_asn1_der.specs.declared.choice.Choice.TheVariants.{This, Other}
use Rattle.picky_asn1_der.specs.declared.choice.Last.{Last}
use Rattle.picky_asn1_der.specs.declared.wrapper.ExplicitContextTag.{ExplicitContextTag}
use Rattle.picky_asn1_der.specs.declared.implicit_tag.ImplicitContextTag.{ImplicitContextTag}
use Rattle.pkinit_messages.specs.declared.dh_rep_info.DhRepInfo.{DhRepInfo}
use Rattle.pkinit_messages.specs.declared.pa_pk_as_rep.PaPkAsRep.{PaPkAsRep}
use Rattle.pkinit_messages.specs.declared.pa_pk_as_rep.PaPkAsRep.TheVariants.{DhInfo, EncKeyPack}

abbrev pub reply_choice : PaPkAsRep → Choice (ExplicitContextTag 0 DhRepInfo) (Last (ImplicitContextTag 1 (List ℕ)))
reply_choice (DhInfo info) = This info
reply_choice (EncKeyPack pack) = Other (record { 0 = pack })

abbrev pub reply_made : Choice (ExplicitContextTag 0 DhRepInfo) (Last (ImplicitContextTag 1 (List ℕ))) → PaPkAsRep
reply_made (This info) = DhInfo info
reply_made (Other last) = EncKeyPack last.0

pub reply_back : (v : PaPkAsRep) → reply_made (reply_choice v) ≡ v
reply_back (DhInfo info) = refl
reply_back (EncKeyPack pack) = refl
