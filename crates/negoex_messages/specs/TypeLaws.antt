-- The law of the types of messages.
use Rattle.std.proofs.Common.{◌≡◌, ℕ, ◌≤◌, Bool, true, false, List, [], ◌∷◌, length, Ok, Err, refl, ap, sym, ◌∙◌, arith}
use Rattle.std.specs.Prelude.{nat_lt, nat_eq, if◌then◌else◌}
use Rattle.std.proofs.lemmas.Bool.{ltb-false, eqb-true}
use Rattle.std.specs.declared.io.ErrorKind.TheVariants.{UnexpectedEof}
use Rattle.byte_streams.specs.Numbers.{le32, le32_at}
use Rattle.byte_streams.proofs.NumberLaws.{AreBytes, length-le32}
use Rattle.negoex_messages.specs.Form.{Answer}
use Rattle.negoex_messages.specs.Laws.{LayoutLaws}
use Rattle.negoex_messages.specs.Steps.{if-ok, ok-same, le32-front, le32-again_all}
use Rattle.negoex_messages.specs.Types.{type_number, type_among, type_of, all_types, type_layout}
use Rattle.negoex_messages.specs.declared.message_type.MessageType.{MessageType}
use Rattle.negoex_messages.specs.declared.message_type.MessageType.TheVariants.{InitiatorNego, AcceptorNego, InitiatorMetaData, AcceptorMetaData, Challenge, ApRequest, Verify, Alert}

either : (b : Bool) (x t : MessageType) (rest : Answer MessageType) (P : Type 0) → (b ≡ true → x ≡ t → P) → (rest ≡ Ok t → P) → (if b then Ok x else rest) ≡ Ok t → P
either true x t rest P first other e = first refl (ok-same (Ok x) x t refl e)
either false x t rest P first other e = other e

among-found : (ts : List MessageType) (n : ℕ) (t : MessageType) → type_among ts n ≡ Ok t → n ≡ type_number t
among-found [] n t e = cc
among-found (x ∷ ts) n t e =
    either (nat_eq n (type_number x)) x t (type_among ts n) (n ≡ type_number t)
    (λ same is. eqb-true n (type_number x) same ∙ ap type_number is) (λ rest. among-found ts n t rest) e

pub type-given : (t : MessageType) → type_of (type_number t) ≡ Ok t
type-given InitiatorNego = refl
type-given AcceptorNego = refl
type-given InitiatorMetaData = refl
type-given AcceptorMetaData = refl
type-given Challenge = refl
type-given ApRequest = refl
type-given Verify = refl
type-given Alert = refl

number-fits : (t : MessageType) → type_number t ≤ 7
number-fits InitiatorNego = omega arith
number-fits AcceptorNego = omega arith
number-fits InitiatorMetaData = omega arith
number-fits AcceptorMetaData = omega arith
number-fits Challenge = omega arith
number-fits ApRequest = omega arith
number-fits Verify = omega arith
number-fits Alert = omega arith

type-found : (t : MessageType) (header : List ℕ) → AreBytes header → length header ≤ 4 → type_layout.read header [] ≡ Ok t → header ≡ le32 (type_number t)
type-found t header bytes few e =
    let long = if-ok (nat_lt (length header) 4) UnexpectedEof (type_of (le32_at 0 header)) t e in
    let size : length header ≡ 4 = omega (arith, ltb-false (length header) 4 long.0) in
    sym (le32-front header bytes size) ∙ ap le32 (among-found all_types (le32_at 0 header) t long.1)

type-read : (t : MessageType) → type_layout.read (le32 (type_number t)) [] ≡ Ok t
type-read t =
    let fits = number-fits t in
    ap (λ (n : ℕ). if nat_lt n 4 then Err UnexpectedEof else type_of (le32_at 0 (le32 (type_number t)))) (length-le32 (type_number t))
    ∙ ap type_of (le32-again_all (type_number t) (omega arith)) ∙ type-given t

pub type_laws : LayoutLaws type_layout
type_laws = record {
  some = omega arith;
  found = λ t header whole bytes _ few e. type-found t header bytes few e;
  full = λ t header whole e. ap length e ∙ length-le32 (type_number t);
  given = λ t header whole _ e. ap (λ h. type_layout.read h whole) e ∙ type-read t;
  head_size = λ t o. length-le32 (type_number t);
  body_size = λ t o. refl;
  written = λ t o front rest _ _. refl;
}
