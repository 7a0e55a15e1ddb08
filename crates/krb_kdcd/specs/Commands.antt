-- What the program's arguments ask for.
use Rattle.std.specs.Prelude.{◌≡◌, ◌≢◌, ◌&&◌, ◌||◌, ℕ, nat_eq, Bool, true, false, not, if◌then◌else◌, List, [], ◌∷◌, Option, Some, None, codes, refl}
use Rattle.std.specs.List.{starts_with}
use Rattle.std.specs.Option.{option_copied}
use Rattle.std.specs.Cmp.Lexicographic.{pointwise}
use Rattle.asn1_leaves.specs.declared.date.GeneralizedTime.{GeneralizedTime}
use Rattle.asn1_leaves.specs.GeneralizedTime.{time_text}
use Rattle.krb_time.specs.Calendar.{IsMomentOfText}
use Rattle.krb_time.specs.Units.{Micros}
use Rattle.krb_kdcd.specs.declared.arguments.Command.{Command}
use Rattle.krb_kdcd.specs.declared.arguments.Options.{Options}
use Rattle.krb_kdcd.specs.declared.arguments.Command.TheVariants.{Serve, Help, Version}

abbrev pub Text : Type 0
Text = List ℕ

-- to serve a database, with these random octets, whether there is a log, whether the octets may be those of a regular file, and the text of the
-- moment of all messages, if one is given; to say how the program is used; to say its version
pub data Asked : Type 0 where
  ToServe : Text → Text → Bool → Bool → Option Text → Asked
  ToHelp : Asked
  ToVersion : Asked

-- What a command asks for.
abbrev pub asked : Command → Asked
asked (Serve served) = ToServe served.database.now served.words.now served.is_logged served.may_be_fixed (option_copied served.moment)
asked Help = ToHelp
asked Version = ToVersion

-- A path doesn't begin with `--`.
abbrev pub is_path : Text → Bool
is_path word = not (starts_with nat_eq word (codes "--"))

-- The command to serve this database with this file of random octets, logged or not, which may be fixed or not, at the clock's moments or at the
-- one of this text, if both are paths.
abbrev pub served : Text → Text → Options → Option Text → Option Asked
served database words options moment =
    if is_path database && is_path words then Some (ToServe database words options.is_logged options.may_be_fixed moment) else None

-- The same with the options that were given, if they are some that the program takes.
abbrev pub served_with : Text → Text → Option Options → Option Text → Option Asked
served_with database words None moment = None
served_with database words (Some options) moment = served database words options moment

-- The same with the moment that stands behind the word for it.
abbrev pub served_at : Text → Text → Option Options → Text → Text → Option Asked
served_at database words options word moment =
    if pointwise nat_eq word (codes "--at") then served_with database words options (Some moment) else None

-- Without options nothing is logged, and the octets aren't fixed.
abbrev pub no_options : Options
no_options = record { is_logged = false; may_be_fixed = false }

-- What one option says.
abbrev pub option_in : Text → Option Options
option_in option =
    if pointwise nat_eq option (codes "--log") then Some (record { is_logged = true; may_be_fixed = false })
    else (if pointwise nat_eq option (codes "--fixed-words") then Some (record { is_logged = false; may_be_fixed = true }) else None)

-- What both options say, in their order.
abbrev pub options_in : Text → Text → Option Options
options_in log fixed =
    if pointwise nat_eq log (codes "--log") && pointwise nat_eq fixed (codes "--fixed-words") then Some (record { is_logged = true; may_be_fixed = true }) else None

-- The command with two words behind the paths: the moment, or both options.
abbrev pub served_by_two : Text → Text → Text → Text → Option Asked
served_by_two database words first second =
    if pointwise nat_eq first (codes "--at") then served database words no_options (Some second)
    else served_with database words (options_in first second) None

-- What one word asks for.
abbrev pub command_named : Text → Option Asked
command_named word =
    if pointwise nat_eq word (codes "-h") || pointwise nat_eq word (codes "--help") then Some ToHelp
    else (if pointwise nat_eq word (codes "--version") then Some ToVersion else None)

-- What arguments of these texts ask for: `DATABASE WORDS [--log] [--fixed-words] [--at MOMENT]`, `-h`, `--help` or `--version`.
abbrev pub command_in : List Text → Option Asked
command_in [] = None
command_in (word ∷ []) = command_named word
command_in (database ∷ words ∷ []) = served database words no_options None
command_in (database ∷ words ∷ option ∷ []) = served_with database words (option_in option) None
command_in (database ∷ words ∷ first ∷ second ∷ []) = served_by_two database words first second
command_in (database ∷ words ∷ option ∷ word ∷ moment ∷ []) = served_at database words (option_in option) word moment
command_in (database ∷ words ∷ log ∷ fixed ∷ word ∷ moment ∷ []) = served_at database words (options_in log fixed) word moment
command_in (database ∷ words ∷ log ∷ fixed ∷ word ∷ moment ∷ further ∷ more) = None

-- All messages have the moment that the text names, or each has that of the clock where no text is given.
abbrev pub IsGivenMoment : Option Text → Option Micros → Type 0
IsGivenMoment None None = Unit {0}
IsGivenMoment (Some text) (Some moment) = IsMomentOfText text moment
IsGivenMoment given moment = ⊥

-- A text is given that names no moment.
abbrev pub NamesNoMoment : Option Text → Type 0
NamesNoMoment None = ⊥
NamesNoMoment (Some text) = (time : GeneralizedTime) → time_text time ≢ text

logged : command_in (codes "realm.cdb" ∷ codes "/dev/urandom" ∷ codes "--log" ∷ []) ≡ Some (ToServe (codes "realm.cdb") (codes "/dev/urandom") true false None)
logged = refl

at_moment : command_in (codes "realm.cdb" ∷ codes "words" ∷ codes "--fixed-words" ∷ codes "--at" ∷ codes "20000101000000Z" ∷ [])
    ≡ Some (ToServe (codes "realm.cdb") (codes "words") false true (Some (codes "20000101000000Z")))
at_moment = refl

no_path : command_in (codes "--log" ∷ codes "realm.cdb" ∷ []) ≡ None
no_path = refl
