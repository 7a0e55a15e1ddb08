-- The encodings of what a ticket's part and a reply's part hold are bytes, where names, realm and nonce are short.
use Rattle.std.proofs.Common.{◌≡◌, ◌<◌, ℕ, ◌+◌, ◌-◌, ◌^◌, List, [], ◌∷◌, Option, None, Some, refl, arith}
use Rattle.std.specs.Prelude.{ℤ, pos}
use Rattle.asn1_der.specs.Tagged.{tagged_tree}
use Rattle.asn1_der.specs.Tree.{Tree, Trees, constructed, leaf, more, none, primitive, put, trees_of, wrapped}
use Rattle.asn1_leaves.specs.CharSets.{is_general_string}
use Rattle.asn1_leaves.specs.declared.date.GeneralizedTime.{GeneralizedTime}
use Rattle.asn1_leaves.specs.GeneralizedTime.{time_text}
use Rattle.picky_asn1.specs.Integer.{integer_content}
use Rattle.krb_crypto.specs.declared.suite.CipherSuite.{CipherSuite}
use Rattle.krb_crypto.specs.Suites.{cipher_number}
use Rattle.krb_crypto.proofs.AllSuites.{number_below}
use Rattle.krb_messages.specs.declared.data_types.encryption_key.EncryptionKey.{EncryptionKey}
use Rattle.krb_messages.specs.declared.data_types.host_address.HostAddress.{HostAddress}
use Rattle.krb_messages.specs.declared.data_types.principal_name.PrincipalName.{PrincipalName}
use Rattle.krb_messages.specs.contracts.data_types.encryption_key.EncryptionKeyTagged.TheImpl as encryption_key_impl
use Rattle.krb_messages.specs.contracts.data_types.host_address.HostAddressTagged.TheImpl as host_address_impl
use Rattle.krb_messages.specs.contracts.data_types.principal_name.PrincipalNameTagged.TheImpl as principal_name_impl
use Rattle.krb_tickets.specs.Parts.{tagged_addresses, tagged_till}
use Rattle.krb_tickets.specs.Sealing.{encryption_key}
use Rattle.krb_kdc_exchanges.proofs.Short.{AllFit, Fits, IsShort, fits_constructed, fits_primitive, fits_wrapped, looser, looser_all, more_trees, no_trees, number_short, one_tree, short_cons, short_none, time_short}

abbrev pub principal_name_tree : PrincipalName → Tree
principal_name_tree = tagged_tree 48 principal_name_impl.ghosts.row_tree principal_name_impl.ghosts.row_of

abbrev pub encryption_key_tree : EncryptionKey → Tree
encryption_key_tree = tagged_tree 48 encryption_key_impl.ghosts.row_tree encryption_key_impl.ghosts.row_of

abbrev pub host_address_tree : HostAddress → Tree
host_address_tree = tagged_tree 48 host_address_impl.ghosts.row_tree host_address_impl.ghosts.row_of

abbrev pub addresses_tree : List HostAddress → Tree
addresses_tree addresses = constructed 48 (trees_of host_address_tree addresses)

abbrev pub realm_tree : List ℕ → Tree
realm_tree realm = leaf (is_general_string realm) 27 realm

abbrev pub integer_tree : ℤ → Tree
integer_tree number = primitive 2 (integer_content number)

abbrev pub time_tree : GeneralizedTime → Tree
time_tree time = primitive 24 (time_text time)

small_number : (first number : ℕ) → first < 256 → number < 1000000 → Fits 26 (constructed first (more (integer_tree (pos number)) none))
small_number first number fits few =
    fits_wrapped 15 first (integer_tree (pos number)) fits (omega arith) (fits_primitive 4 2 (integer_content (pos number)) (omega arith) (omega arith) (number_short number few))

time_fits : (first : ℕ) (time : GeneralizedTime) → first < 256 → Fits 37 (constructed first (more (time_tree time) none))
time_fits first time fits = fits_wrapped 26 first (time_tree time) fits (omega arith) (fits_primitive 15 24 (time_text time) (omega arith) (omega arith) (time_short time))

-- a sequence under a further tag
sequence_fits : (n first : ℕ) (parts : Trees) → first < 256 → n < 2 ^ 71 → AllFit n parts → Fits (n + 22) (constructed first (more (constructed 48 parts) none))
sequence_fits n first parts fits few x =
    looser (n + 11 + 11) (n + 22) (constructed first (more (constructed 48 parts) none)) (omega arith)
    (fits_wrapped (n + 11) first (constructed 48 parts) fits (omega arith) (fits_constructed n 48 parts (omega arith) (omega arith) x))

-- the session's key
key_fits : (first : ℕ) (suite : CipherSuite) (session : List ℕ) → first < 256 → IsShort 32 session
    → Fits 102 (constructed first (more (encryption_key_tree (encryption_key suite session)) none))
key_fits first suite session fits key =
    let kind = small_number 160 (cipher_number suite) (omega arith) (omega (arith, number_below suite)) in
    let value = fits_wrapped 43 161 (primitive 4 session) (omega arith) (omega arith) (fits_primitive 32 4 session (omega arith) (omega arith) key) in
    sequence_fits 80 first _ fits (omega arith) (more_trees 26 54 _ _ kind (more_trees 54 0 _ _ value no_trees))

-- flags: 32 bits, of which those of two octets may be set
flags_fit : (first front octet : ℕ) → first < 256 → front < 256 → octet < 256 → Fits 27 (constructed first (more (primitive 3 (0 ∷ front ∷ octet ∷ 0 ∷ 0 ∷ [])) none))
flags_fit first front octet fits low few =
    fits_wrapped 16 first (primitive 3 (0 ∷ front ∷ octet ∷ 0 ∷ 0 ∷ [])) fits (omega arith)
    (fits_primitive 5 3 (0 ∷ front ∷ octet ∷ 0 ∷ 0 ∷ []) (omega arith) (omega arith)
    (short_cons 4 0 (front ∷ octet ∷ 0 ∷ 0 ∷ []) (omega arith)
    (short_cons 3 front (octet ∷ 0 ∷ 0 ∷ []) low
    (short_cons 2 octet (0 ∷ 0 ∷ []) few
    (short_cons 1 0 (0 ∷ []) (omega arith)
    (short_cons 0 0 [] (omega arith) short_none))))))

-- no realms that were passed through
no_realms_fit : Fits 70 (constructed 164 (more (constructed 48 (more (constructed 160 (more (integer_tree (pos 1)) none)) (more (constructed 161 (more (primitive 4 []) none)) none))) none))
no_realms_fit =
    let none_told = fits_wrapped 11 161 (primitive 4 []) (omega arith) (omega arith) (fits_primitive 0 4 [] (omega arith) (omega arith) short_none) in
    sequence_fits 48 164 _ (omega arith) (omega arith) (more_trees 26 22 _ _ (small_number 160 1 (omega arith) (omega arith)) (more_trees 22 0 _ _ none_told no_trees))

-- one last request
last_fits : (start : GeneralizedTime)
    → Fits 96 (constructed 161 (more (constructed 48 (more (constructed 48 (more (constructed 160 (more (integer_tree (pos 0)) none)) (more (constructed 161 (more (time_tree start) none)) none))) none)) none))
last_fits start =
    let told = more_trees 26 37 _ _ (small_number 160 0 (omega arith) (omega arith)) (more_trees 37 0 _ _ (time_fits 161 start (omega arith)) no_trees) in
    sequence_fits 74 161 _ (omega arith) (omega arith) (one_tree 74 _ (fits_constructed 63 48 _ (omega arith) (omega arith) told))

-- renew-till, if there is one, before further fields
till_fits : (m : ℕ) (rest : Trees) → AllFit m rest → (till : Option GeneralizedTime) → AllFit (37 + m) (put (λ tagged. wrapped 168 (time_tree tagged.0.0)) (tagged_till till) rest)
till_fits m rest x None = looser_all m (37 + m) rest (omega arith) x
till_fits m rest x (Some time) = more_trees 37 m (wrapped 168 (time_tree time)) rest (time_fits 168 time (omega arith)) x

-- caddr under its tag, if there are addresses, before further fields
addresses_fit : (n first m : ℕ) (rest : Trees) → first < 256 → n < 2 ^ 64 → AllFit m rest → (addresses : Option (List HostAddress))
    → ((list : List HostAddress) → addresses ≡ Some list → Fits n (addresses_tree list))
    → AllFit (n + 11 + m) (put (λ tagged. wrapped first (addresses_tree tagged.0)) (tagged_addresses {tag = first - 160} addresses) rest)
addresses_fit n first m rest fits few x None own = looser_all m (n + 11 + m) rest (omega arith) x
addresses_fit n first m rest fits few x (Some list) own =
    more_trees (n + 11) m (wrapped first (addresses_tree list)) rest (fits_wrapped n first (addresses_tree list) fits (omega arith) (own list refl)) x

-- a session's key is short, and realm and name are
pub record AreFit (n : ℕ) (session realm : List ℕ) (name : PrincipalName) : Type 0 where
  pub few : n < 2 ^ 64
  pub session_key : IsShort 32 session
  pub realm_name : Fits n (realm_tree realm)
  pub name_tree : Fits n (principal_name_tree name)

module _ (n : ℕ) (suite : CipherSuite) (session realm : List ℕ) (name : PrincipalName) (fit : AreFit n session realm name) (front octet : ℕ) (low : front < 256) (flags : octet < 256) (auth starttime endtime : GeneralizedTime)
    (till : Option GeneralizedTime) (addresses : Option (List HostAddress)) (own : (list : List HostAddress) → addresses ≡ Some list → Fits n (addresses_tree list)) where
  -- the part under the service's key
  abbrev pub ticket_tree : Tree
  ticket_tree =
      wrapped 99
      (constructed 48
      (more (wrapped 160 (primitive 3 (0 ∷ front ∷ octet ∷ 0 ∷ 0 ∷ [])))
      (more (wrapped 161 (encryption_key_tree (encryption_key suite session)))
      (more (wrapped 162 (realm_tree realm))
      (more (wrapped 163 (principal_name_tree name))
      (more (wrapped 164 (constructed 48 (more (wrapped 160 (integer_tree (pos 1))) (more (wrapped 161 (primitive 4 [])) none))))
      (more (wrapped 165 (time_tree auth))
      (more (wrapped 166 (time_tree starttime))
      (more (wrapped 167 (time_tree endtime))
      (put (λ tagged. wrapped 168 (time_tree tagged.0.0)) (tagged_till till)
      (put (λ tagged. wrapped 169 (addresses_tree tagged.0)) (tagged_addresses {tag = 9} addresses) none)))))))))))

  pub ticket_fits : Fits (n + n + n + 402) ticket_tree
  ticket_fits =
      let few : n < 2 ^ 64 = fit.few in
      looser (27 + (102 + ((n + 11) + ((n + 11) + (70 + (37 + (37 + (37 + (37 + (n + 11 + 0))))))))) + 22) (n + n + n + 402) _ (omega arith)
      (sequence_fits (27 + (102 + ((n + 11) + ((n + 11) + (70 + (37 + (37 + (37 + (37 + (n + 11 + 0)))))))))) 99 _ (omega arith) (omega arith)
      (more_trees 27 _ _ _ (flags_fit 160 front octet (omega arith) low flags)
      (more_trees 102 _ _ _ (key_fits 161 suite session (omega arith) fit.session_key)
      (more_trees (n + 11) _ _ _ (fits_wrapped n 162 (realm_tree realm) (omega arith) (omega arith) fit.realm_name)
      (more_trees (n + 11) _ _ _ (fits_wrapped n 163 (principal_name_tree name) (omega arith) (omega arith) fit.name_tree)
      (more_trees 70 _ _ _ no_realms_fit
      (more_trees 37 _ _ _ (time_fits 165 auth (omega arith))
      (more_trees 37 _ _ _ (time_fits 166 starttime (omega arith))
      (more_trees 37 (37 + (n + 11 + 0)) _ _ (time_fits 167 endtime (omega arith))
      (till_fits (n + 11 + 0) _ (addresses_fit n 169 0 none (omega arith) few no_trees addresses own) till))))))))))

  -- the part under the reply key
  module _ (first : ℕ) (fits : first < 256) (nonce : ℤ) (nonce_fits : Fits n (integer_tree nonce)) where
    abbrev pub reply_tree : Tree
    reply_tree =
        wrapped first
        (constructed 48
        (more (wrapped 160 (encryption_key_tree (encryption_key suite session)))
        (more (wrapped 161 (constructed 48 (more (constructed 48 (more (wrapped 160 (integer_tree (pos 0))) (more (wrapped 161 (time_tree starttime)) none))) none)))
        (more (wrapped 162 (integer_tree nonce))
        (more (wrapped 164 (primitive 3 (0 ∷ front ∷ octet ∷ 0 ∷ 0 ∷ [])))
        (more (wrapped 165 (time_tree auth))
        (more (wrapped 166 (time_tree starttime))
        (more (wrapped 167 (time_tree endtime))
        (put (λ tagged. wrapped 168 (time_tree tagged.0.0)) (tagged_till till)
        (more (wrapped 169 (realm_tree realm))
        (more (wrapped 170 (principal_name_tree name))
        (put (λ tagged. wrapped 171 (addresses_tree tagged.0)) (tagged_addresses {tag = 11} addresses) none))))))))))))

    pub reply_fits : Fits (n + n + n + n + 439) reply_tree
    reply_fits =
        let few : n < 2 ^ 64 = fit.few in
        looser (102 + (96 + ((n + 11) + (27 + (37 + (37 + (37 + (37 + ((n + 11) + ((n + 11) + (n + 11 + 0)))))))))) + 22) (n + n + n + n + 439) _ (omega arith)
        (sequence_fits (102 + (96 + ((n + 11) + (27 + (37 + (37 + (37 + (37 + ((n + 11) + ((n + 11) + (n + 11 + 0))))))))))) first _ fits (omega arith)
        (more_trees 102 _ _ _ (key_fits 160 suite session (omega arith) fit.session_key)
        (more_trees 96 _ _ _ (last_fits starttime)
        (more_trees (n + 11) _ _ _ (fits_wrapped n 162 (integer_tree nonce) (omega arith) (omega arith) nonce_fits)
        (more_trees 27 _ _ _ (flags_fit 164 front octet (omega arith) low flags)
        (more_trees 37 _ _ _ (time_fits 165 auth (omega arith))
        (more_trees 37 _ _ _ (time_fits 166 starttime (omega arith))
        (more_trees 37 _ _ _ (time_fits 167 endtime (omega arith))
        (till_fits ((n + 11) + ((n + 11) + (n + 11 + 0))) _
        (more_trees (n + 11) _ _ _ (fits_wrapped n 169 (realm_tree realm) (omega arith) (omega arith) fit.realm_name)
        (more_trees (n + 11) (n + 11 + 0) _ _ (fits_wrapped n 170 (principal_name_tree name) (omega arith) (omega arith) fit.name_tree)
        (addresses_fit n 171 0 none (omega arith) few no_trees addresses own))) till)))))))))
