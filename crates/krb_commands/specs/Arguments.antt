-- The arguments of a program: options with their values, and the words beside them.
use Rattle.std.specs.Prelude.{◌≡◌, ◌≢◌, ◌⊎◌, ℕ, ◌==◌, Bool, nat_eq, if◌then◌else◌, List, [], ◌∷◌, ◌++◌, map, filter, codes, Option, None, Some, Result, Ok, Err, slice_index}
use Rattle.std.specs.List.{list_any}
use Rattle.std.specs.Borrow.{Bor}
use Rattle.std.specs.Cmp.Lexicographic.{pointwise}
use Rattle.asn1_leaves.specs.declared.date.GeneralizedTime.{GeneralizedTime}
use Rattle.asn1_leaves.specs.GeneralizedTime.{time_text}
use Rattle.krb_time.specs.Units.{Micros}
use Rattle.krb_time.specs.Calendar.{IsMomentOfText}
use Rattle.krb_commands.specs.declared.stop.Stop.{Stop}
use Rattle.krb_commands.specs.declared.stop.Stop.TheVariants.{Memory}
use Rattle.krb_commands.specs.Stops.{IsUsage}

-- The octets of a text.
abbrev pub Text : Type 0
Text = List ℕ

-- What borrowed texts are.
abbrev pub texts : List (Bor Text) → List Text
texts borrowed = map (λ text. text.now) borrowed

abbrev pub text_pairs : List (Bor Text × Bor Text) → List (Text × Text)
text_pairs borrowed = map (λ pair. (pair.0.now, pair.1.now)) borrowed

-- The options that are given, each with its value, and the other words. Both are in the order of the arguments.
pub record Parts : Type 0 where
  pub options : List (Text × Text)
  pub words : List Text

-- The argument is one of these options.
abbrev pub is_among : List Text → Text → Bool
is_among options argument = list_any (λ name. pointwise nat_eq name argument) options

-- The arguments up to here, and one option or word more.
abbrev pub with_option : Parts → Text → Text → Parts
with_option before name value = record { options = before.options ++ (name, value) ∷ []; words = before.words }

abbrev pub with_word : Parts → Text → Parts
with_word before word = record { options = before.options; words = before.words ++ word ∷ [] }

-- The parts of arguments after those that were taken apart before, or the text that refuses them. Behind an option the next argument is its
-- value. Another argument that begins with `-` (45) is refused.
abbrev pub parts_after : List Text → Parts → Option Text → List Text → Result Parts Text
parts_after options before None [] = Ok before
parts_after options before (Some name) [] = Err (name ++ codes ": expected its value after it")
parts_after options before (Some name) (value ∷ arguments) = parts_after options (with_option before name value) None arguments
parts_after options before None (argument ∷ arguments) =
    if is_among options argument then parts_after options before (Some argument) arguments
    else (if slice_index argument 0 == 45 then Err (argument ++ codes ": no such option: expected one of --help")
    else parts_after options (with_word before argument) None arguments)

abbrev pub nothing : Parts
nothing = record { options = []; words = [] }

-- The parts of all arguments, or the text that refuses them.
abbrev pub parts_of : List Text → List Text → Result Parts Text
parts_of options = parts_after options nothing None

-- The values of an option, in their order.
abbrev pub values_of : List (Text × Text) → Text → List Text
values_of options option = map (λ own. own.1) (filter (λ own. pointwise nat_eq own.0 option) options)

-- The value of an option that has these values: none, or the only one. Two are refused.
abbrev pub only_value : Text → List Text → Result (Option Text) Text
only_value option [] = Ok None
only_value option (value ∷ []) = Ok (Some value)
only_value option (value ∷ other ∷ more) = Err (option ++ codes ": expected it once")

-- The stop of what is refused by a text: the arguments are none that the program takes, in that text. What isn't refused stops only if
-- memory runs out.
abbrev pub IsStopOf : {T : Type 0} → Result T Text → Stop → Type 0
IsStopOf (Ok made) stop = stop ≡ Memory
IsStopOf (Err text) stop = IsUsage (Some text) stop

-- The moment that an option's value names. There is none where the option isn't given.
abbrev pub IsGivenMoment : Result (Option Text) Text → Option Micros → Type 0
IsGivenMoment (Ok None) None = Unit {0}
IsGivenMoment (Ok (Some text)) (Some moment) = IsMomentOfText text moment
IsGivenMoment value moment = ⊥

-- Why an option's moment isn't given: its value names none, the option is given twice, or memory ran out.
abbrev pub IsNoMoment : Text → Result (Option Text) Text → Stop → Type 0
IsNoMoment option (Ok (Some text)) stop =
    (stop ≡ Memory) ⊎ (IsUsage (Some (option ++ codes ": expected a time (UTC), as 20261128040000Z")) stop × ((time : GeneralizedTime) → time_text time ≢ text))
IsNoMoment option value stop = IsStopOf value stop
