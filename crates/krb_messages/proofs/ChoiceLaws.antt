-- A message, or the error in its place, as one of two alternatives.
use Rattle.std.specs.Prelude.{ℕ, List, Result, Ok, Err}
use Rattle.asn1_der.specs.Tree.{Tree}
use Rattle.asn1_codec.specs.Reading.{IsSpelling}
use Rattle.picky_asn1_der.specs.Choices.{choice_tree}
use Rattle.picky_asn1_der.specs.declared.application_tag.ApplicationTag.{ApplicationTag}
use Rattle.picky_asn1_der.specs.declared.choice.Choice.{Choice}
use Rattle.picky_asn1_der.specs.declared.choice.Choice.TheVariants.{This, Other}
use Rattle.picky_asn1_der.specs.declared.choice.Last.{Last}
use Rattle.krb_messages.specs.declared.messages.krb_error.KrbErrorInner.{KrbErrorInner}
use Rattle.krb_messages.specs.Messages.{krb_error_tree}
use Rattle.krb_messages.specs.KrbResults.{result_tree}

-- what is spelled as the one is spelled as the other
pub as-choice : {T : Type 0} (tree : T → Tree) (bytes : List ℕ) → IsSpelling (result_tree tree) bytes
    → IsSpelling {T = Choice (ApplicationTag KrbErrorInner 30) (Last T)} (choice_tree (λ error. krb_error_tree error.0) (λ last. tree last.0)) bytes
as-choice tree bytes (Ok message, spelled) = (Other (record { 0 = message }), spelled)
as-choice tree bytes (Err error, spelled) = (This error, spelled)
