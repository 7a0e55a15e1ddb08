-- A message is laid out in its bytes, and read from them.
use Rattle.std.proofs.Common.{◌≡◌, ℕ, List, [], ◌++◌, length, take, Result, Ok, Err, ap, sym, subst, ◌∙◌, append_assoc, append-nil, inl, inr, arith}
use Rattle.std.specs.Prelude.{IfOk}
use Rattle.std.proofs.lemmas.List.{length-append, take_at, length-take}
use Rattle.byte_streams.proofs.NumberLaws.{AreBytes, bytes-cut}
use Rattle.negoex_messages.specs.Form.{Layout, Answer, Answers, IsPut, IsWithin}
use Rattle.negoex_messages.specs.Laws.{LayoutLaws}
use Rattle.negoex_messages.specs.declared.error.NegoexError.{NegoexError}
use Rattle.negoex_messages.specs.Messages.{IsMessage, message_bytes, IsTrueOffset, GivesBack, WrittenIsRead}

pub message-written : {V : Type 0} (l : Layout V) → LayoutLaws l → (filler : List ℕ) (v : V) (o : ℕ) → IsTrueOffset l filler o → IsWithin o (l.payload v)
    → IsMessage l v (message_bytes l filler v o)
message-written l laws filler v o at within =
    let head = l.head v o in
    let body = l.body v o in
    let whole = message_bytes l filler v o in
    let size = laws.head_size v o in
    let front : length (head ++ filler) ≡ o = omega (arith, length-append head filler, at) in
    let same : (head ++ filler) ++ (body ++ []) ≡ whole = ap (λ (b : List ℕ). (head ++ filler) ++ b) (append-nil body) ∙ append_assoc head filler body in
    subst (λ (h : List ℕ). l.IsLaid v h whole) (sym (take_at head (filler ++ body) l.width size))
    (subst (l.IsLaid v head) same (laws.written v o (head ++ filler) [] front within))

pub message-read : {V : Type 0} (l : Layout V) → LayoutLaws l → (filler : List ℕ) → WrittenIsRead l filler
message-read l laws filler v o fits at within =
    laws.given v _ _ fits (message-written l laws filler v o at within)

pub message-found : {V : Type 0} (l : Layout V) → LayoutLaws l → (v : V) (whole : List ℕ) → AreBytes whole → l.read (take l.width whole) whole ≡ Ok v → IsMessage l v whole
message-found l laws v whole bytes read =
    laws.found v (take l.width whole) whole (bytes-cut whole 0 l.width bytes) bytes (omega (arith, length-take l.width whole)) read

pub answers-found : {T V : Type 0} (view : T → V) (l : Layout V) → LayoutLaws l → (whole : List ℕ) → AreBytes whole → (result : Result T NegoexError)
    → Answers view (l.read (take l.width whole) whole) result → IfOk result (λ t. IsMessage l (view t) whole)
answers-found view l laws whole bytes (Ok t) told = message-found l laws (view t) whole bytes told
answers-found view l laws whole bytes (Err e) told = tt

pub answers-given : {T V : Type 0} (view : T → V) (told : Answer V) (v : V) (result : Result T NegoexError) → told ≡ Ok v → Answers view told result → GivesBack view v result
answers-given view told v (Ok t) is answered = cc (is, answered)
answers-given view told v (Err e) is (inl memory) = memory
answers-given view told v (Err e) is (inr wrong) = cc (is, wrong)

pub answers-back : {T V : Type 0} (view : T → V) (l : Layout V) → LayoutLaws l → (whole : List ℕ) (result : Result T NegoexError)
    → Answers view (l.read (take l.width whole) whole) result → (v : V) → l.Fits v → IsMessage l v whole → GivesBack view v result
answers-back view l laws whole result told v fits is =
    answers-given view (l.read (take l.width whole) whole) v result (laws.given v (take l.width whole) whole fits is) told

-- header, filler and payload, put one behind the other
pub message-put : (head filler body empty none bytes one two : List ℕ) → empty ≡ [] → none ≡ [] → bytes ≡ empty ++ head → two ≡ none ++ body
    → one ≡ bytes ++ filler → one ++ two ≡ head ++ (filler ++ body)
message-put head filler body empty none bytes one two e n h b f =
    ap (λ (l : List ℕ). l ++ two) (f ∙ ap (λ (l : List ℕ). l ++ filler) (h ∙ ap (λ (l : List ℕ). l ++ head) e))
    ∙ ap (λ (l : List ℕ). (head ++ filler) ++ l) (b ∙ ap (λ (l : List ℕ). l ++ body) n) ∙ append_assoc head filler body

-- what was put together is the message
pub message-bytes : {V : Type 0} (l : Layout V) (filler : List ℕ) (v : V) (o real : ℕ) (empty none bytes one two three filling there : List ℕ) → empty ≡ [] → none ≡ []
    → IsPut l v o empty bytes none two → o ≡ real → filling ≡ filler → one ≡ bytes ++ filling → three ≡ one ++ there → there ≡ two
    → three ≡ message_bytes l filler v real
message-bytes l filler v o real empty none bytes one two three filling there e n put same fills f g t =
    g ∙ ap (λ (b : List ℕ). one ++ b) t
    ∙ message-put (l.head v o) filler (l.body v o) empty none bytes one two e n put.header put.payload (f ∙ ap (λ (b : List ℕ). bytes ++ b) fills)
    ∙ ap (message_bytes l filler v) same

pub message-laid : {V : Type 0} (l : Layout V) → LayoutLaws l → (filler : List ℕ) (v : V) (o real : ℕ) (bytes : List ℕ) → o ≡ real → IsWithin o (l.payload v)
    → bytes ≡ message_bytes l filler v real → IsTrueOffset l filler real → IsMessage l v bytes
message-laid l laws filler v o real bytes same within e at =
    subst (IsMessage l v) (sym e) (message-written l laws filler v real at (λ some. let near = within some in omega arith))
