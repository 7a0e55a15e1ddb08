-- A PAC that is read is laid out in the bytes.
use Rattle.std.proofs.Common.{◌≡◌, ℕ, zero, suc, ◌+◌, ◌-◌, ◌≤◌, Bool, true, false, cond, List, [], ◌∷◌, length, take, drop, Option, None, Some, Result, Ok, Err, IfOk, find, ok_or, nat_lt, nat_eq, if◌then◌else◌, refl, ap, sym, subst, ◌∙◌, arith}
use Rattle.std.proofs.lemmas.Bool.Decides.{nat_tests, Decides-eqb}
use Rattle.std.proofs.lemmas.List.{length-take-le, length-drop}
use Rattle.std.specs.declared.io.ErrorKind.{ErrorKind}
use Rattle.byte_streams.specs.Parts.{part, Stands, IsLaidOut}
use Rattle.byte_streams.specs.Numbers.{le32, le32_at, le64, le64_at}
use Rattle.byte_streams.proofs.NumberLaws.{AreBytes, le32-read, le64-read}
use Rattle.microsoft_messages.specs.Buffers.{Buffer, info_parts, buffer_parts, IsSized, AreSized, IsPac}
use Rattle.microsoft_messages.specs.Kinds.{kind_number, kinds, kind_of, kind_judged}
use Rattle.microsoft_messages.specs.PacReading.{and_then, head_at, kind_at, fields_at, info_at, content_at, buffer_at, buffers_at, pac_at}
use Rattle.microsoft_messages.specs.declared.pac.kind.PacBufferType.{PacBufferType}
use Rattle.microsoft_messages.specs.declared.pac.info.PacInfoBuffer.{PacInfoBuffer}
use Rattle.microsoft_messages.specs.declared.pac.error.PacError.{PacError}

then-ok : {A B : Type 0} (r : Result A PacError) (f : A → Result B PacError) (b : B) → and_then r f ≡ Ok b → (a : A) × (r ≡ Ok a) × (f a ≡ Ok b)
then-ok (Ok a) f b is = (a, refl, is)
then-ok (Err e) f b is = absurd (cc is)

if-ok : {A : Type 0} (test : Bool) (e : PacError) (r : Result A PacError) (a : A) → (if test then Err e else r) ≡ Ok a → (test ≡ false) × (r ≡ Ok a)
if-ok true e r a is = absurd (cc is)
if-ok false e r a is = (refl, is)

enough : (m n : ℕ) → nat_lt n m ≡ false → m ≤ n
enough m n test = grind (arith, nat_tests)

find-step : (p : PacBufferType → Bool) (x k : PacBufferType) (rest : Option PacBufferType) → (rest ≡ Some k → p k ≡ true)
    → (b : Bool) → p x ≡ b → cond b (Some x) rest ≡ Some k → p k ≡ true
find-step p x k rest later true is found = let same : x ≡ k = cc in ap p (sym same) ∙ is
find-step p x k rest later false is found = later found

find-passes : (p : PacBufferType → Bool) (ks : List PacBufferType) (k : PacBufferType) → find p ks ≡ Some k → p k ≡ true
find-passes p [] k found = absurd (cc found)
find-passes p (x ∷ xs) k found = find-step p x k (find p xs) (find-passes p xs k) (p x) refl found

told-some : {A : Type 0} (o : Option A) (e : PacError) (a : A) → ok_or o e ≡ Ok a → o ≡ Some a
told-some (Some x) e a is = cc
told-some None e a is = absurd (cc is)

-- the type that is told has the number
kind-numbered : (n : ℕ) (k : PacBufferType) → kind_judged n ≡ Ok k → kind_number k ≡ n
kind-numbered n k is =
    (Decides-eqb (kind_number k) n).0 (find-passes (λ (x : PacBufferType). nat_eq (kind_number x) n) kinds k (told-some (kind_of n) _ k is))

-- the parts of the buffer whose row is at this place
pub record IsBufferAt (place : ℕ) (b : Buffer) (whole : List ℕ) : Type 0 where
  pub kind : Stands (part place (le32 (kind_number b.info.ul_type))) whole
  pub size : Stands (part (place + 4) (le32 b.info.cb_buffer_size)) whole
  pub offset : Stands (part (place + 8) (le64 b.info.offset)) whole
  pub content : Stands (part b.info.offset b.content) whole
  pub sized : IsSized (length whole) b

content-found : (stop : Option ErrorKind) (info : PacInfoBuffer) (b : Buffer) (whole : List ℕ) → content_at stop info whole ≡ Ok b
    → (info.offset + info.cb_buffer_size ≤ length whole) × (record { info = info; content = take info.cb_buffer_size (drop info.offset whole) } ≡ b)
content-found stop info b whole is =
    let (test, made) = if-ok (nat_lt (length whole) (info.offset + info.cb_buffer_size)) _ _ b is in
    (enough _ _ test, cc made)

fields-found : (stop : Option ErrorKind) (kind : PacBufferType) (place : ℕ) (info : PacInfoBuffer) (whole : List ℕ) → fields_at stop kind place whole ≡ Ok info
    → (16 ≤ length whole - place) × (record { ul_type = kind; cb_buffer_size = le32_at (place + 4) whole; offset = le64_at (place + 8) whole } ≡ info)
fields-found stop kind place info whole is =
    let (test, made) = if-ok (nat_lt (length whole - place) 16) _ _ info is in
    (enough _ _ test, cc made)

-- the buffer, by what was read
buffer-read : (place : ℕ) (kind : PacBufferType) (info : PacInfoBuffer) (b : Buffer) (whole : List ℕ) → AreBytes whole → 16 ≤ length whole - place
    → kind_number kind ≡ le32_at place whole
    → record { ul_type = kind; cb_buffer_size = le32_at (place + 4) whole; offset = le64_at (place + 8) whole } ≡ info
    → info.offset + info.cb_buffer_size ≤ length whole
    → record { info = info; content = take info.cb_buffer_size (drop info.offset whole) } ≡ b
    → IsBufferAt place b whole
buffer-read place kind info b whole bytes room number is_info inside is_b =
    let content = take info.cb_buffer_size (drop info.offset whole) in
    let long : length content ≡ info.cb_buffer_size = length-take-le info.cb_buffer_size (drop info.offset whole) (omega (arith, length-drop info.offset whole)) in
    let is_kind : kind ≡ info.ul_type = ap (λ (x : PacInfoBuffer). x.ul_type) is_info in
    let is_size : le32_at (place + 4) whole ≡ info.cb_buffer_size = ap (λ (x : PacInfoBuffer). x.cb_buffer_size) is_info in
    let is_offset : le64_at (place + 8) whole ≡ info.offset = ap (λ (x : PacInfoBuffer). x.offset) is_info in
    subst (λ (x : Buffer). IsBufferAt place x whole) is_b record {
      kind = subst (λ (n : ℕ). Stands (part place (le32 n)) whole) (sym number ∙ ap kind_number is_kind) (le32-read place whole bytes (omega arith));
      size = subst (λ (n : ℕ). Stands (part (place + 4) (le32 n)) whole) is_size (le32-read (place + 4) whole bytes (omega arith));
      offset = subst (λ (n : ℕ). Stands (part (place + 8) (le64 n)) whole) is_offset (le64-read (place + 8) whole bytes (omega arith));
      content = ap (λ (n : ℕ). take n (drop info.offset whole)) long;
      sized = (sym long, inside);
    }

-- the row, by what was read
pub info-found : (stop : Option ErrorKind) (place : ℕ) (info : PacInfoBuffer) (whole : List ℕ) → AreBytes whole → info_at stop place whole ≡ Ok info
    → IsLaidOut (info_parts place info) whole
info-found stop place info whole bytes is =
    let (kind, is_kind, is_fields) = then-ok (kind_at stop place whole) _ info is in
    let (some, judged) = if-ok (nat_lt (length whole - place) 4) _ _ kind is_kind in
    let (room, made) = fields-found stop kind place info whole is_fields in
    let number = kind-numbered (le32_at place whole) kind judged in
    subst (λ (x : PacInfoBuffer). IsLaidOut (info_parts place x) whole) made (
      subst (λ (n : ℕ). Stands (part place (le32 n)) whole) (sym number) (le32-read place whole bytes (omega arith)),
      (le32-read (place + 4) whole bytes (omega arith), (le64-read (place + 8) whole bytes (omega arith), tt)),
    )

pub fields-laid : (stop : Option ErrorKind) (kind : PacBufferType) (place : ℕ) (whole : List ℕ) (r : Result PacInfoBuffer PacError) → AreBytes whole
    → kind_at stop place whole ≡ Ok kind → r ≡ fields_at stop kind place whole → IfOk r (λ info. IsLaidOut (info_parts place info) whole)
fields-laid stop kind place whole (Ok info) bytes is_kind is =
    info-found stop place info whole bytes (ap (λ (r : Result PacBufferType PacError). and_then r (λ k. fields_at stop k place whole)) is_kind ∙ sym is)
fields-laid stop kind place whole (Err e) bytes is_kind is = tt

buffer-found : (stop : Option ErrorKind) (place : ℕ) (b : Buffer) (whole : List ℕ) → AreBytes whole → buffer_at stop place whole ≡ Ok b → IsBufferAt place b whole
buffer-found stop place b whole bytes is =
    let (info, is_info, is_b) = then-ok (info_at stop place whole) _ b is in
    let (kind, is_kind, is_fields) = then-ok (kind_at stop place whole) _ info is_info in
    let (some, judged) = if-ok (nat_lt (length whole - place) 4) _ _ kind is_kind in
    let (room, made_info) = fields-found stop kind place info whole is_fields in
    let (inside, made) = content-found stop info b whole is_b in
    buffer-read place kind info b whole bytes room (kind-numbered (le32_at place whole) kind judged) made_info inside made

-- so many buffers
pub record AreBuffersAt (n place : ℕ) (bs : List Buffer) (whole : List ℕ) : Type 0 where
  pub parts : IsLaidOut (buffer_parts place bs) whole
  pub sized : AreSized (length whole) bs
  pub count : length bs ≡ n

buffers-found : (stop : Option ErrorKind) (n place : ℕ) (bs : List Buffer) (whole : List ℕ) → AreBytes whole → buffers_at stop n place whole ≡ Ok bs → AreBuffersAt n place bs whole
buffers-found stop zero place bs whole bytes is =
    let same : [] ≡ bs = cc is in
    subst (λ (l : List Buffer). AreBuffersAt zero place l whole) same record { parts = tt; sized = tt; count = refl }
buffers-found stop (suc n) place bs whole bytes is =
    let (b, is_b, later) = then-ok (buffer_at stop place whole) _ bs is in
    let (cs, is_cs, made) = then-ok (buffers_at stop n (place + 16) whole) _ bs later in
    let one = buffer-found stop place b whole bytes is_b in
    let others = buffers-found stop n (place + 16) cs whole bytes is_cs in
    let same : b ∷ cs ≡ bs = cc made in
    subst (λ (l : List Buffer). AreBuffersAt (suc n) place l whole) same record {
      parts = (one.kind, (one.size, (one.offset, (one.content, others.parts))));
      sized = (one.sized, others.sized);
      count = ap suc others.count;
    }

-- the head's count, and that its version is 0
head-found : (stop : Option ErrorKind) (count : ℕ) (whole : List ℕ) → head_at stop whole ≡ Ok count
    → (8 ≤ length whole) × (le32_at 4 whole ≡ 0) × (le32_at 0 whole ≡ count)
head-found stop count whole is =
    let (test, told) = if-ok (nat_lt (length whole) 8) _ _ count is in
    let (zero_version, made) = version-ok (nat_eq (le32_at 4 whole) 0) _ _ count told in
    (enough _ _ test, (Decides-eqb (le32_at 4 whole) 0).0 zero_version, cc made)
  where
    version-ok : (test : Bool) (e : PacError) (r : Result ℕ PacError) (a : ℕ) → (if test then r else Err e) ≡ Ok a → (test ≡ true) × (r ≡ Ok a)
    version-ok true e r a is = (refl, is)
    version-ok false e r a is = absurd (cc is)

pub pac-found : (stop : Option ErrorKind) (bs : List Buffer) (whole : List ℕ) → AreBytes whole → pac_at stop whole ≡ Ok bs → IsPac bs whole
pac-found stop bs whole bytes is =
    let (count, is_head, is_buffers) = then-ok (head_at stop whole) _ bs is in
    let (long, version, counted) = head-found stop count whole is_head in
    let all = buffers-found stop count 8 bs whole bytes is_buffers in
    record {
      parts = (
        subst (λ (n : ℕ). Stands (part 0 (le32 n)) whole) (counted ∙ sym all.count) (le32-read 0 whole bytes (omega arith)),
        (subst (λ (n : ℕ). Stands (part 4 (le32 n)) whole) version (le32-read 4 whole bytes (omega arith)), all.parts),
      );
      sized = all.sized;
    }
