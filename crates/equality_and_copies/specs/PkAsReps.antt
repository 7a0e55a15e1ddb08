-- A copy of PA-PK-AS-REP, from copies of what its choices hold.
use Rattle.std.proofs.Common.{ap, List, ℕ}
use Rattle.picky_asn1_der.specs.declared.implicit_tag.ImplicitContextTag.{ImplicitContextTag}
use Rattle.picky_asn1_der.specs.declared.wrapper.ExplicitContextTag.{ExplicitContextTag}
use Rattle.pkinit_messages.specs.declared.dh_rep_info.DhRepInfo.{DhRepInfo}
use Rattle.pkinit_messages.specs.declared.pa_pk_as_rep.PaPkAsRep.{PaPkAsRep}
use Rattle.pkinit_messages.specs.declared.pa_pk_as_rep.PaPkAsRep.TheVariants.{DhInfo, EncKeyPack}
use Rattle.equality_and_copies.specs.Copied.{IsCopied}

module _ (C : ExplicitContextTag 0 DhRepInfo → ExplicitContextTag 0 DhRepInfo → Type 0) (D : ImplicitContextTag 1 (List ℕ) → ImplicitContextTag 1 (List ℕ) → Type 0) where
  abbrev pub BothInfosOrPacks : PaPkAsRep → PaPkAsRep → Type 0
  BothInfosOrPacks (DhInfo v) (DhInfo w) = C v w
  BothInfosOrPacks (DhInfo v) (EncKeyPack w) = ⊥
  BothInfosOrPacks (EncKeyPack v) (DhInfo w) = ⊥
  BothInfosOrPacks (EncKeyPack v) (EncKeyPack w) = D v w

pub pa_pk_as_rep : {C : ExplicitContextTag 0 DhRepInfo → ExplicitContextTag 0 DhRepInfo → Type 0} {D : ImplicitContextTag 1 (List ℕ) → ImplicitContextTag 1 (List ℕ) → Type 0} → IsCopied C → IsCopied D → IsCopied (BothInfosOrPacks C D)
pa_pk_as_rep info pack (DhInfo v) (DhInfo w) c = ap DhInfo (info v w c)
pa_pk_as_rep info pack (DhInfo v) (EncKeyPack w) c = absurd c
pa_pk_as_rep info pack (EncKeyPack v) (DhInfo w) c = absurd c
pa_pk_as_rep info pack (EncKeyPack v) (EncKeyPack w) c = ap EncKeyPack (pack v w c)
