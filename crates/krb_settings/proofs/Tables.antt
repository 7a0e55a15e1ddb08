-- The keys of a table, beside the document that it represents.
use Rattle.std.proofs.Common.{◌≡◌, List, [], ◌∷◌, ◌&&◌, String, Global, string_bytes, refl, ap}
use Rattle.std.specs.List.{list_all}
use Rattle.std.specs.Map.{keys_of}
use Rattle.toml.specs.View.{members_view}
use Rattle.toml.specs.declared.value.Value.{Value}
use Rattle.krb_settings.specs.Fields.{has_only, is_among}
use Rattle.krb_settings.specs.declared.field.Field.{Field}

pub has_only-view : (fields : List Field) (es : List (String Global × Value))
    → has_only fields (members_view es) ≡ list_all (λ key. is_among fields (string_bytes key)) (keys_of es)
has_only-view fields [] = refl
has_only-view fields (e ∷ es) = ap (λ rest. is_among fields (string_bytes e.0) && rest) (has_only-view fields es)
