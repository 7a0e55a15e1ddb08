use Rattle.asn1_der.specs.Tree.{der}
use Rattle.gss_contexts.specs.contracts.context_tokens.iakerb_header.IAKerbHeaderSerialize.TheImpl as header_writing
use Rattle.gss_contexts.specs.ContextTokens.{mechanism_tree}
use Rattle.gss_contexts.proofs.ProxyLemmas.{proxy-value}
use Rattle.gss_contexts.proofs.Values.{content-value}
use Rattle.gss_contexts.proofs.context_tokens.laws.message_is_value.Goals as goal

pub returns-clause-sequence : goal.returns-clause-sequence
returns-clause-sequence g c m two = content-value (mechanism_tree m.krb5_oid) m.krb5_token_id (g.T.Serialize.tree m.krb_msg) 48 two

pub returns-clause-token : goal.returns-clause-token
returns-clause-token g c m two = content-value (mechanism_tree m.krb5_oid) m.krb5_token_id (g.T.Serialize.tree m.krb_msg) 96 two

pub returns-clause-proxied_sequence : goal.returns-clause-proxied_sequence
returns-clause-proxied_sequence g c m = proxy-value (der (header_writing.ghosts.tree m.header)) (der (g.T.Serialize.tree m.krb_msg)) 48

pub returns-clause-proxied_token : goal.returns-clause-proxied_token
returns-clause-proxied_token g c m = proxy-value (der (header_writing.ghosts.tree m.header)) (der (g.T.Serialize.tree m.krb_msg)) 96
