-- Which clients are made, by what their parts say.
use Rattle.std.proofs.Common.{◌≡◌, Bool, true, false, List, Ok, Err, inl, inr, refl, ap, subst}
use Rattle.std.specs.Prelude.{if◌then◌else◌, not, ◌&&◌}
use Rattle.picky_asn1.specs.Bytes.{Bytes}
use Rattle.krb_crypto.specs.declared.suite.CipherSuite.{CipherSuite}
use Rattle.krb_crypto.specs.Sealing.{password_key_of}
use Rattle.krb_realm_accounts.specs.Names.{are_components, is_realm_name}
use Rattle.krb_realm_accounts.specs.Passwords.{password_salt}
use Rattle.krb_client.specs.ByPassword as password
use Rattle.krb_client.specs.Client.{ClientRecord}
use Rattle.krb_client.specs.declared.by_key.ByKey as held
use Rattle.krb_client.specs.Refusals.{IsMemoryAside}
use Rattle.krb_client.specs.declared.refusal.AskRefusal.{AskRefusal}
use Rattle.krb_client.specs.declared.refusal.AskRefusal.TheVariants.{BadName, Memory}
use Rattle.krb_realm.specs.Clients.{ByKey, ClientState, client_by_password}

-- what was made is that
pub was_made : {T : Type 0} (P : T → Type 0) (bad : Bool) (x t : T) → P x → IsMemoryAside (Ok t) (if bad then Err BadName else Ok x) → P t
was_made P true x t p (inl memory) = absurd (cc (memory))
was_made P true x t p (inr other) = absurd (cc (other))
was_made P false x t p (inl memory) = absurd (cc (memory))
was_made P false x t p (inr is) = let same : x ≡ t = cc (is) in subst P same p

pub client_made : {T U : Type 0} (f : T → U) (bad : Bool) (x t : T) → IsMemoryAside (Ok t) (if bad then Err BadName else Ok x)
    → IsMemoryAside (Ok (f t)) (if bad then Err BadName else Ok (f x))
client_made f true x t (inl memory) = absurd (cc (memory))
client_made f true x t (inr other) = absurd (cc (other))
client_made f false x t (inl memory) = absurd (cc (memory))
client_made f false x t (inr is) = let same : t ≡ x = cc (is) in inr (ap (λ y. Ok (f y)) same)

pub client_refused : {T U : Type 0} (f : T → U) (bad : Bool) (x : T) (refusal : AskRefusal) → IsMemoryAside (Err refusal) (if bad then Err BadName else Ok x)
    → IsMemoryAside (Err refusal) (if bad then Err BadName else Ok (f x))
client_refused f bad x refusal (inl memory) = inl (let same : refusal ≡ Memory = cc (memory) in ap Err same)
client_refused f true x refusal (inr is) = inr (let same : refusal ≡ BadName = cc (is) in ap Err same)
client_refused f false x refusal (inr is) = absurd (cc (is))

pub refused_first : {T U : Type 0} (f : T → U) (bad : Bool) (x : T) (refusal : AskRefusal) → (if bad then Err BadName else Ok (f x)) ≡ Err refusal → (if bad then Err BadName else Ok x) ≡ Err refusal
refused_first f true x refusal is = let same : BadName ≡ refusal = cc (is) in ap Err same
refused_first f false x refusal is = absurd (cc (is))

module _ (realm : Bytes) (components : List Bytes) (suite : CipherSuite) (secret : Bytes) where
  abbrev bad : Bool
  bad = not (is_realm_name realm && are_components components)

  abbrev named : ClientRecord × held.ByKey
  named = (
    record { realm = realm; components = components; suite = suite },
    record { key = record { suite = suite; bytes = password_key_of suite secret (password_salt realm components) } },
  )

  abbrev whole : ClientRecord × held.ByKey → ClientState
  whole made = record { client = made.0; by = ByKey made.1.key }

  pub by_password : (made : ClientRecord × held.ByKey) → IsMemoryAside (Ok made) (password.client_by_password realm components suite secret)
      → IsMemoryAside (Ok (whole made)) (client_by_password realm components suite secret)
  by_password made = client_made whole bad named made

  pub of_suite : (made : ClientRecord × held.ByKey) → IsMemoryAside (Ok made) (password.client_by_password realm components suite secret) → made.1.key.suite ≡ made.0.suite
  of_suite made = was_made (λ (m : ClientRecord × held.ByKey). m.1.key.suite ≡ m.0.suite) bad named made refl

  pub not_by_password : (refusal : AskRefusal) → IsMemoryAside (Err refusal) (password.client_by_password realm components suite secret)
      → IsMemoryAside (Err refusal) (client_by_password realm components suite secret)
  not_by_password = client_refused whole bad named

  pub first_refusal : (refusal : AskRefusal) → client_by_password realm components suite secret ≡ Err refusal → password.client_by_password realm components suite secret ≡ Err refusal
  first_refusal = refused_first whole bad named
