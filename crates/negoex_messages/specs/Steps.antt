-- Steps of reading and writing that the laws of all types share.
use Rattle.std.proofs.Common.{◌≡◌, ℕ, ◌+◌, ◌^◌, ◌≤◌, ◌<◌, Bool, true, false, List, ◌++◌, length, take, drop, Ok, Err, refl, ap, sym, ◌∙◌, arith}
use Rattle.std.specs.Prelude.{if◌then◌else◌}
use Rattle.std.proofs.lemmas.List.{take_at, drop_at, take_all, length-take}
use Rattle.std.specs.declared.io.ErrorKind.{ErrorKind}
use Rattle.byte_streams.specs.Parts.{part, Stands}
use Rattle.byte_streams.specs.Numbers.{le32, le32_at, le64, le64_at}
use Rattle.byte_streams.proofs.NumberLaws.{AreBytes, le32-read, le64-read, le32-again, le64-again, length-le32, length-le64}
use Rattle.negoex_messages.specs.Form.{Answer, cut, then_read}

-- what was read after something was read
pub then-ok : {A B : Type 0} (r : Answer A) (next : A → Answer B) (b : B) → then_read r next ≡ Ok b → (a : A) × (r ≡ Ok a) × (next a ≡ Ok b)
then-ok (Ok a) next b e = (a, refl, e)
then-ok (Err x) next b e = cc

-- a value after a judging that may refuse
pub if-ok : {A : Type 0} (wrong : Bool) (x : ErrorKind) (r : Answer A) (a : A) → (if wrong then Err x else r) ≡ Ok a → (wrong ≡ false) × (r ≡ Ok a)
if-ok true x r a e = cc
if-ok false x r a e = (refl, e)

pub if-fine : {A : Type 0} (wrong : Bool) (x r : A) → wrong ≡ false → (if wrong then x else r) ≡ r
if-fine true x r e = cc
if-fine false x r e = refl

pub ok-same : {A : Type 0} (r : Answer A) (a b : A) → r ≡ Ok a → r ≡ Ok b → a ≡ b
ok-same r a b e f = cc (e, f)

pub length-cut : (place size : ℕ) (whole : List ℕ) → length (cut place size whole) ≤ size
length-cut place size whole = omega (arith, length-take size (drop place whole))

-- the bytes that follow a front
pub cut-behind : (place size : ℕ) (front bytes rest : List ℕ) → length front ≡ place → length bytes ≡ size → cut place size (front ++ (bytes ++ rest)) ≡ bytes
cut-behind place size front bytes rest e f = ap (take size) (drop_at front (bytes ++ rest) place e) ∙ take_at bytes rest size f

-- and at the end
pub cut-last : (place size : ℕ) (front bytes : List ℕ) → length front ≡ place → length bytes ≡ size → cut place size (front ++ bytes) ≡ bytes
cut-last place size front bytes e f = ap (take size) (drop_at front bytes place e) ∙ take_all size bytes (omega arith)

-- all of four bytes are their number
pub le32-front : (header : List ℕ) → AreBytes header → length header ≡ 4 → le32 (le32_at 0 header) ≡ header
le32-front header bytes size =
    let n = length-le32 (le32_at 0 header) in
    sym (le32-read 0 header bytes (omega arith)) ∙ take_all (length (le32 (le32_at 0 header))) header (omega arith)

pub le64-front : (header : List ℕ) → AreBytes header → length header ≡ 8 → le64 (le64_at 0 header) ≡ header
le64-front header bytes size =
    let n = length-le64 (le64_at 0 header) in
    sym (le64-read 0 header bytes (omega arith)) ∙ take_all (length (le64 (le64_at 0 header))) header (omega arith)

-- a number is read from its bytes
pub le32-again_all : (n : ℕ) → n < 2 ^ 32 → le32_at 0 (le32 n) ≡ n
le32-again_all n fits = le32-again 0 n (le32 n) fits (take_all (length (le32 n)) (le32 n) (omega arith))

pub le64-again_all : (n : ℕ) → n < 2 ^ 64 → le64_at 0 (le64 n) ≡ n
le64-again_all n fits = le64-again 0 n (le64 n) fits (take_all (length (le64 n)) (le64 n) (omega arith))
