use Rattle.std.proofs.Common.{◌≡◌, ◌==◌, ℕ, ◌+◌, List, [], Option, length, drop, take, ap, ◌∙◌, arith}
use Rattle.std.specs.List.{after_first, before_first, position_or_len}
use Rattle.std.specs.Option.{option_copied}
use Rattle.std.proofs.lemmas.Str.Pattern.{split_once_first}
use Rattle.std.proofs.lemmas.List.{drop_all, take_all}
use Rattle.krb_commands.specs.Configuration.{Text, realm_in}
use Rattle.krb_commands.proofs.realms.realm_of.Goals as goal

-- a line without `=` is a name, and has no value
no_value : (line : List ℕ) → position_or_len (λ octet. octet == 61) line ≡ length line → after_first (λ octet. octet == 61) line ≡ []
no_value line e = ap (λ n. drop (n + 1) line) e ∙ drop_all (length line + 1) line (omega arith)

whole_name : (line : List ℕ) → position_or_len (λ octet. octet == 61) line ≡ length line → before_first (λ octet. octet == 61) line ≡ line
whole_name line e = ap (λ n. take n line) e ∙ take_all (length line) line (omega arith)

same : (name value line rest : List ℕ) (realm : Option Text) → name ≡ line → value ≡ rest → realm ≡ realm_in line rest → realm ≡ realm_in name value
same name value line rest realm e f is = rw (e, f) is

pub returns-in-None : goal.returns-in-None
returns-in-None c =
    let none = rw c.in-None.is at (split_once_first 61 c.args.line.now c.split_once.result c.split_once.ensures.cases (omega arith)) in
    same _ _ c.args.line.now [] (option_copied c.realm_in-in-None.result) (whole_name c.args.line.now none) (no_value c.args.line.now none) c.realm_in-in-None.ensures
