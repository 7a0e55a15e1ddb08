-- Public keys that can be used.
use Rattle.std.proofs.Common.{◌≡◌, ℕ, Bool, true, false, cond, List, length, Some, Result, Ok, Err, MatchResult, refl, sym, ap, ◌∙◌}
use Rattle.std.specs.Option.{is_none, option_map}
use Rattle.picky_asn1.specs.Integer.{unsigned_octets}
use Rattle.x509_keys.specs.declared.rsa_public_key.RsaPublicKey.{RsaPublicKey}
use Rattle.modular_arithmetic.specs.Naturals.{os2ip}
use Rattle.public_key_cryptography.specs.Keys.{refusal_of}
use Rattle.public_key_cryptography.specs.Pkcs1.{IsKeyOf}
use Rattle.public_key_cryptography.specs.declared.public_key.PublicKey.{PublicKey}
use Rattle.rsa_keys.specs.OwnKeys.{IsUsable, has_naturals, key_refusal, refusal_in}
use Rattle.rsa_keys.specs.Signatures.{Numbers, numbers_of, refusal_named}
use Rattle.rsa_keys.specs.declared.refusal.RsaKeyRefusal.{RsaKeyRefusal}
use Rattle.rsa_keys.specs.declared.refusal.RsaKeyRefusal.TheVariants.{NegativeNumber}

record AreNumbers (b : Bool) (m x n e : List ℕ) : Type 0 where
  pub holds : b ≡ true
  pub modulus : n ≡ m
  pub exponent : e ≡ x

abbrev taken : Numbers → Result Numbers RsaKeyRefusal
taken numbers = Ok numbers

abbrev refused : Result Numbers RsaKeyRefusal
refused = Err NegativeNumber

ok_one : (a b : Numbers) → taken a ≡ taken b → a ≡ b
ok_one a b e = cc

err_ok : (b : Numbers) → refused ≡ taken b → ⊥
err_ok b e = cc

numbers_are : (b : Bool) (m x n e : List ℕ) → cond b (taken (m, x)) refused ≡ taken (n, e) → AreNumbers b m x n e
numbers_are true m x n e h =
    let pair = ok_one (m, x) (n, e) h in
    record { holds = refl; modulus = ap (λ (numbers : Numbers). numbers.0) (sym pair); exponent = ap (λ (numbers : Numbers). numbers.1) (sym pair) }
numbers_are false m x n e h = absurd (err_ok (n, e) h)

pub usable : (key : RsaPublicKey) (n e : List ℕ) (result : Result PublicKey RsaKeyRefusal) → numbers_of key ≡ Ok (n, e)
    → MatchResult result (λ made. IsKeyOf made n e) (λ refusal. option_map refusal_named (refusal_of n e) ≡ Some refusal)
    → MatchResult result (λ made. IsUsable made key) (λ refusal. key_refusal key ≡ Some refusal)
usable key n e (Ok made) is h =
    let parts = numbers_are (has_naturals key) (unsigned_octets key.modulus) (unsigned_octets key.public_exponent) n e is in
    record {
      naturals = parts.holds;
      taken = ap is_none (sym (λ i. refusal_of (parts.modulus i) (parts.exponent i)) ∙ h.taken);
      len = h.len ∙ ap (λ octets. length octets) parts.modulus;
      exponent = h.exponent ∙ ap (λ octets. os2ip octets) parts.exponent;
      value = h.modulus.value ∙ ap (λ octets. os2ip octets) parts.modulus;
    }
usable key n e (Err refusal) is h = ap refusal_in is ∙ h
