-- A shared secret and the nonces (RFC 4556, section 3.2.3.1)
use Rattle.std.specs.Prelude.{ℕ, List, ◌++◌, Option, None, Some}
use Rattle.krb_crypto.specs.declared.diffie_hellman.key.DhNonce.{DhNonce}

-- DHSharedSecret | n_c | n_k, where the nonces are used
abbrev pub secret_with : List ℕ → Option DhNonce → List ℕ
secret_with secret None = secret
secret_with secret (Some nonce) = secret ++ (nonce.client_nonce.now ++ nonce.server_nonce.now)
