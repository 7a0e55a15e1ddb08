-- What is read buffer by buffer, and what a longer input changes of it.
use Rattle.std.proofs.Common.{◌≡◌, ℕ, zero, suc, ◌+◌, ◌-◌, ◌≤◌, Bool, true, false, List, [], ◌∷◌, ◌++◌, length, Option, None, Some, Result, Ok, Err, ◌⊎◌, inl, inr, nat_lt, nat_eq, if◌then◌else◌, refl, ap, sym, subst, ◌∙◌, append_assoc, append-nil, arith}
use Rattle.std.proofs.lemmas.Bool.{cases_lt}
use Rattle.std.proofs.lemmas.Bool.Decides.{nat_tests}
use Rattle.std.proofs.lemmas.List.{length-append}
use Rattle.std.specs.declared.io.ErrorKind.{ErrorKind}
use Rattle.byte_streams.proofs.PartLaws.{cut-append}
use Rattle.byte_streams.proofs.NumberLaws.{le32_at-append, le64_at-append}
use Rattle.byte_streams.specs.Numbers.{le32_at, le64_at}
use Rattle.microsoft_messages.specs.Buffers.{Buffer}
use Rattle.microsoft_messages.specs.Kinds.{kind_judged}
use Rattle.microsoft_messages.specs.PacReading.{and_then, head_at, kind_at, fields_at, info_at, content_at, buffer_at, buffers_at, pac_at}
use Rattle.microsoft_messages.specs.declared.pac.kind.PacBufferType.{PacBufferType}
use Rattle.microsoft_messages.specs.declared.pac.info.PacInfoBuffer.{PacInfoBuffer}
use Rattle.microsoft_messages.specs.declared.pac.error.PacError.{PacError}
use Rattle.microsoft_messages.specs.declared.pac.error.PacError.TheVariants.{IoError, InvalidVersion}

-- the buffers, and then those that are told
abbrev pub followed : List Buffer → Result (List Buffer) PacError → Result (List Buffer) PacError
followed xs r = and_then r (λ ys. Ok (xs ++ ys))

followed-nil : (r : Result (List Buffer) PacError) → followed [] r ≡ r
followed-nil (Ok ys) = refl
followed-nil (Err e) = refl

followed-cons : (xs : List Buffer) (b : Buffer) (r : Result (List Buffer) PacError)
    → followed (xs ++ b ∷ []) r ≡ followed xs (and_then r (λ ys. Ok (b ∷ ys)))
followed-cons xs b (Ok ys) = ap (λ (l : List Buffer). Ok l) (append_assoc xs (b ∷ []) ys)
followed-cons xs b (Err e) = refl

-- before the first buffer
pub followed-start : (stop : Option ErrorKind) (count i place : ℕ) (whole : List ℕ) → i ≡ 0 → place ≡ 8
    → followed [] (buffers_at stop (count - i) place whole) ≡ buffers_at stop count 8 whole
followed-start stop count i place whole first begin =
    let rest : count - i ≡ count = omega arith in
    followed-nil (buffers_at stop (count - i) place whole)
    ∙ ap (λ (n : ℕ). buffers_at stop n place whole) rest ∙ ap (λ (p : ℕ). buffers_at stop count p whole) begin

-- one buffer more
pub followed-step : (stop : Option ErrorKind) (n m place next : ℕ) (whole : List ℕ) (xs : List Buffer) (b : Buffer) (told : Result (List Buffer) PacError)
    → n ≡ suc m → next ≡ place + 16 → buffer_at stop place whole ≡ Ok b
    → followed xs (buffers_at stop n place whole) ≡ told
    → followed (xs ++ b ∷ []) (buffers_at stop m next whole) ≡ told
followed-step stop n m place next whole xs b told more behind is so_far =
    let rest = buffers_at stop m (place + 16) whole in
    let one : buffers_at stop n place whole ≡ and_then rest (λ ys. Ok (b ∷ ys)) =
    ap (λ (k : ℕ). buffers_at stop k place whole) more ∙ ap (λ (r : Result Buffer PacError). and_then r (λ c. and_then rest (λ ys. Ok (c ∷ ys)))) is in
    ap (λ (p : ℕ). followed (xs ++ b ∷ []) (buffers_at stop m p whole)) behind
    ∙ followed-cons xs b rest ∙ ap (followed xs) (sym one) ∙ so_far

-- a buffer that is refused
pub followed-refused : (stop : Option ErrorKind) (n m place : ℕ) (whole : List ℕ) (xs : List Buffer) (e : PacError) (told : Result (List Buffer) PacError)
    → n ≡ suc m → buffer_at stop place whole ≡ Err e → followed xs (buffers_at stop n place whole) ≡ told → told ≡ Err e
followed-refused stop n m place whole xs e told more is so_far =
    let rest = buffers_at stop m (place + 16) whole in
    let one : buffers_at stop n place whole ≡ Err e =
    ap (λ (k : ℕ). buffers_at stop k place whole) more ∙ ap (λ (r : Result Buffer PacError). and_then r (λ c. and_then rest (λ ys. Ok (c ∷ ys)))) is in
    sym so_far ∙ ap (followed xs) one

-- behind the last buffer
pub followed-end : (stop : Option ErrorKind) (n place : ℕ) (whole : List ℕ) (xs : List Buffer) (told : Result (List Buffer) PacError)
    → n ≡ 0 → followed xs (buffers_at stop n place whole) ≡ told → told ≡ Ok xs
followed-end stop n place whole xs told none so_far =
    sym so_far ∙ ap (λ (k : ℕ). followed xs (buffers_at stop k place whole)) none ∙ ap (λ (l : List Buffer). Ok l) (append-nil xs)

-- the PAC is its buffers, once its head is read
pub pac-headed : (stop : Option ErrorKind) (whole : List ℕ) (count : ℕ) → head_at stop whole ≡ Ok count → pac_at stop whole ≡ buffers_at stop count 8 whole
pac-headed stop whole count is = ap (λ (r : Result ℕ PacError). and_then r (λ n. buffers_at stop n 8 whole)) is

pub pac-headless : (stop : Option ErrorKind) (whole : List ℕ) (e : PacError) → head_at stop whole ≡ Err e → pac_at stop whole ≡ Err e
pac-headless stop whole e is = ap (λ (r : Result ℕ PacError). and_then r (λ n. buffers_at stop n 8 whole)) is

-- what a front that a device cut says of the whole: the same, or that the device failed
abbrev pub Extends : {A : Type 0} → ErrorKind → Result A PacError → Result A PacError → Type 0
Extends k (Ok a) s = s ≡ Ok a
Extends k (Err e) s = (e ≡ IoError k) ⊎ (s ≡ Err e)

extends-same : {A : Type 0} (k : ErrorKind) (r s : Result A PacError) → s ≡ r → Extends k r s
extends-same k (Ok a) s same = same
extends-same k (Err e) s same = inr same

extends-then : {A B : Type 0} (k : ErrorKind) (r s : Result A PacError) (f g : A → Result B PacError)
    → Extends k r s → ((a : A) → Extends k (f a) (g a)) → Extends k (and_then r f) (and_then s g)
extends-then k (Ok a) s f g first next = subst (λ t. Extends k (f a) (and_then t g)) (sym first) (next a)
extends-then k (Err e) s f g first next = elim first [ inl cut ↦ inl cut | inr wrong ↦ inr (ap (λ t. and_then t g) wrong) ]

-- enough bytes are left in the front, and so in the whole; or they aren't, and the device failed
extends-if : {A : Type 0} (k : ErrorKind) (m front whole : ℕ) (fault : PacError) (r s : Result A PacError)
    → front ≤ whole → (m ≤ front → Extends k r s)
    → Extends k (if nat_lt front m then Err (IoError k) else r) (if nat_lt whole m then Err fault else s)
extends-if {A} k m front whole fault r s longer there =
    elim (cases_lt front m) [
      | inl few ↦
          let test : nat_lt front m ≡ true = grind (arith, nat_tests) in
          subst (λ (b : Bool). Extends k (if b then Err (IoError k) else r) (if nat_lt whole m then Err fault else s)) (sym test) (inl refl)
      | inr many ↦
          let test : nat_lt front m ≡ false = grind (arith, nat_tests) in
          let test_whole : nat_lt whole m ≡ false = grind (arith, nat_tests) in
          subst (λ (b : Bool). Extends k (if b then Err (IoError k) else r) (if nat_lt whole m then Err fault else s)) (sym test)
          (subst (λ (b : Bool). Extends k r (if b then Err fault else s)) (sym test_whole) (there many))
    ]

longer : (front rest : List ℕ) (place : ℕ) → length front - place ≤ length (front ++ rest) - place
longer front rest place = omega (arith, length-append front rest)

head-extends : (k : ErrorKind) (front rest : List ℕ) → Extends k (head_at (Some k) front) (head_at None (front ++ rest))
head-extends k front rest =
    extends-if k 8 (length front) (length (front ++ rest)) _ _ _ (omega (arith, length-append front rest)) (λ there.
    let count : le32_at 0 (front ++ rest) ≡ le32_at 0 front = le32_at-append 0 front rest (omega arith) in
    let version : le32_at 4 (front ++ rest) ≡ le32_at 4 front = le32_at-append 4 front rest (omega arith) in
    extends-same k _ _
    (ap (λ (n : ℕ). if nat_eq n 0 then Ok (le32_at 0 (front ++ rest)) else Err (InvalidVersion n)) version
    ∙ ap (λ (n : ℕ). if nat_eq (le32_at 4 front) 0 then Ok n else Err (InvalidVersion (le32_at 4 front))) count))

kind-extends : (k : ErrorKind) (place : ℕ) (front rest : List ℕ) → Extends k (kind_at (Some k) place front) (kind_at None place (front ++ rest))
kind-extends k place front rest =
    extends-if k 4 (length front - place) (length (front ++ rest) - place) _ _ _ (longer front rest place) (λ there.
    extends-same k _ _ (ap kind_judged (le32_at-append place front rest (omega arith))))

fields-extends : (k : ErrorKind) (kind : PacBufferType) (place : ℕ) (front rest : List ℕ)
    → Extends k (fields_at (Some k) kind place front) (fields_at None kind place (front ++ rest))
fields-extends k kind place front rest =
    extends-if k 16 (length front - place) (length (front ++ rest) - place) _ _ _ (longer front rest place) (λ there.
    let size : le32_at (place + 4) (front ++ rest) ≡ le32_at (place + 4) front = le32_at-append (place + 4) front rest (omega arith) in
    let offset : le64_at (place + 8) (front ++ rest) ≡ le64_at (place + 8) front = le64_at-append (place + 8) front rest (omega arith) in
    extends-same k _ _ (λ i. Ok (record { ul_type = kind; cb_buffer_size = size i; offset = offset i })))

pub info-extends : (k : ErrorKind) (place : ℕ) (front rest : List ℕ) → Extends k (info_at (Some k) place front) (info_at None place (front ++ rest))
info-extends k place front rest =
    extends-then k (kind_at (Some k) place front) (kind_at None place (front ++ rest)) _ _
    (kind-extends k place front rest) (λ kind. fields-extends k kind place front rest)

content-extends : (k : ErrorKind) (info : PacInfoBuffer) (front rest : List ℕ)
    → Extends k (content_at (Some k) info front) (content_at None info (front ++ rest))
content-extends k info front rest =
    extends-if k (info.offset + info.cb_buffer_size) (length front) (length (front ++ rest)) _ _ _ (omega (arith, length-append front rest)) (λ there.
    extends-same k _ _ (ap (λ (l : List ℕ). Ok (record { info = info; content = l })) (cut-append info.offset info.cb_buffer_size front rest there)))

buffer-extends : (k : ErrorKind) (place : ℕ) (front rest : List ℕ) → Extends k (buffer_at (Some k) place front) (buffer_at None place (front ++ rest))
buffer-extends k place front rest =
    extends-then k _ _ _ _
    (extends-then k _ _ _ _ (kind-extends k place front rest) (λ kind. fields-extends k kind place front rest))
    (λ info. content-extends k info front rest)

buffers-extends : (k : ErrorKind) (n place : ℕ) (front rest : List ℕ) → Extends k (buffers_at (Some k) n place front) (buffers_at None n place (front ++ rest))
buffers-extends k zero place front rest = refl
buffers-extends k (suc n) place front rest =
    extends-then k _ _ _ _ (buffer-extends k place front rest) (λ b.
    extends-then k _ _ _ _ (buffers-extends k n (place + 16) front rest) (λ bs. refl))

pub pac-extends : (k : ErrorKind) (front rest : List ℕ) → Extends k (pac_at (Some k) front) (pac_at None (front ++ rest))
pac-extends k front rest = extends-then k _ _ _ _ (head-extends k front rest) (λ count. buffers-extends k count 8 front rest)
