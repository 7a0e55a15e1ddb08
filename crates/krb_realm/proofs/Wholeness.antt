-- Elements that are there can be written.
use Rattle.std.proofs.Common.{◌≡◌, ℕ, Bool, true, false, List, ◌∙◌}
use Rattle.picky_asn1_der.specs.Raw.{Raw, has_low_number, raw_tree}
use Rattle.asn1_der.specs.Length.{element}
use Rattle.asn1_der.specs.Tree.{IsWhole, der, leaf}
use Rattle.asn1_der.proofs.Elements.{element-split}
use Rattle.picky_asn1.specs.BitString.{bit_content, is_bit_string}
use Rattle.pkinit_validation.specs.PublicKeys.{IsPublicKey}
use Rattle.pkinit_validation.specs.declared.public_key.AgreementPublicKey.{AgreementPublicKey}

-- what is written as an element is there
there : (valid : Bool) (first : ℕ) (content : List ℕ) (other : ℕ) (held : List ℕ) → der (leaf valid first content) ≡ element other held → IsWhole (leaf valid first content)
there true first content other held e = tt
there false first content other held e = let never = e ∙ element-split other held in absurd (cc (never))

-- an element that is a public key is there, and so are the key's bits
pub key_element : (element : Raw) (key : AgreementPublicKey) → IsPublicKey element key → IsWhole (raw_tree element)
unfolding IsPublicKey
key_element raw key is = there (has_low_number raw.first) raw.first raw.content 48 _ is.1

pub key_bits : (element : Raw) (key : AgreementPublicKey) → IsPublicKey element key
    → IsWhole (leaf (is_bit_string key.subject_public_key) 3 (bit_content key.subject_public_key))
unfolding IsPublicKey
key_bits raw key is = is.0.1.0
