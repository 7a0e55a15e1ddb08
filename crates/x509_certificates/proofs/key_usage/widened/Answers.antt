use Rattle.std.proofs.Common.{◌≡◌, ℕ, ◌-◌, List, [], ◌∷◌, get_or, sym, ap, ◌∙◌, subst}
use Rattle.picky_asn1.specs.BitString.{IsBitString}
use Rattle.x509_certificates.proofs.UseLemmas.{widened_valid, below_8}
use Rattle.x509_certificates.proofs.key_usage.widened.Goals as goal

pub bits_of-requires-2 : goal.bits_of-requires-2
bits_of-requires-2 c =
    let first : c.first_octet-first.result ≡ get_or c.args.bits.now.octets 0 0 =
    c.first_octet-first.ensures ∙ ap (λ (octets : List ℕ). get_or octets 0 0) c.as_bytes.ensures.value in
    subst (λ (octet : ℕ). IsBitString (record { octets = octet ∷ []; unused = 8 - c.args.count })) (sym first)
    (widened_valid c.args.bits.now.octets c.args.bits.now.unused c.args.count c.as_bytes.ensures.valid c.requires.more
    (below_8 c.args.count c.requires.few c.if-count-eq9.false))
