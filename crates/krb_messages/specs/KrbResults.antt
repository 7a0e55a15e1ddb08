-- A message, or the error in its place (RFC 4120, section 5.9.1), distinguished by the error's first octet, [APPLICATION 30].
use Rattle.std.specs.Prelude.{◌+◌, Bool, not, Result, Ok, Err}
use Rattle.asn1_der.specs.Tree.{Tree}
use Rattle.asn1_der.specs.Firsts.{Firsts, may_begin}
use Rattle.picky_asn1_der.specs.declared.application_tag.ApplicationTag.{ApplicationTag}
use Rattle.krb_constants.specs.declared.types.TheConstants.{APPLICATION, KRB_ERROR_MSG_TYPE}
use Rattle.krb_messages.specs.declared.messages.krb_error.KrbErrorInner.{KrbErrorInner}
use Rattle.krb_messages.specs.Messages.{krb_error_tree}

-- the message's tree, or the error's
abbrev pub result_tree : {T : Type 0} → (T → Tree) → Result T (ApplicationTag KrbErrorInner KRB_ERROR_MSG_TYPE) → Tree
result_tree tree (Ok message) = tree message
result_tree tree (Err error) = krb_error_tree error.0

-- no message begins as an error does
abbrev pub is_no_error : Firsts → Bool
is_no_error firsts = not (may_begin firsts (APPLICATION + KRB_ERROR_MSG_TYPE))
