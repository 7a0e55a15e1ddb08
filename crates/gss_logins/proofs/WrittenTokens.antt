-- What an end takes of a message's token, an end with that key on the other side made.
use Rattle.std.proofs.Common.{◌≡◌, ℕ, ◌<◌, ◌≤◌, ◌^◌, true, List, [], ◌∷◌, ◌++◌, length, take, drop, append_assoc, refl, sym, ap, subst, ◌∙◌, arith}
use Rattle.std.proofs.lemmas.List.{drop-take, length-append, length-drop, length-take-le, take-take}
use Rattle.picky_asn1.specs.Bytes.{Bytes}
use Rattle.byte_streams.specs.Numbers.{be16, be16_at, be64}
use Rattle.byte_streams.specs.Parts.{Stands, part}
use Rattle.byte_streams.proofs.NumberLaws.{be16-again, be64-again, length-be16, length-be64}
use Rattle.byte_streams.proofs.PartLaws.{byte-again}
use Rattle.krb_crypto.specs.Keys.{KeyRecord}
use Rattle.krb_crypto.specs.Sealing.{IsSealedBy}
use Rattle.krb_crypto.proofs.SealingLemmas.{one_opening}
use Rattle.krb_authenticity.specs.Among.{IsAmong}
use Rattle.gss_contexts.specs.Contexts.{ContextRecord, is_newer, last_number, peer}
use Rattle.gss_contexts.specs.Judging.{TakesMic, TakesWrap}
use Rattle.gss_contexts.specs.Tokens.{Carries, IsSealedText, IsSummedText, IsWrapOf, header_without_counts, header_without_rrc, is_set, rotated_right, seal_usage}
use Rattle.gss_contexts.specs.declared.sender.Sender.{Sender}
use Rattle.gss_contexts.specs.declared.side.Protection.{Protection}
use Rattle.gss_contexts.specs.declared.side.Protection.TheVariants.{Checksum, Sealed}
use Rattle.gss_contexts.specs.declared.side.Side.{Side}
use Rattle.gss_contexts.proofs.Ends.{same_back, same_front}
use Rattle.gss_contexts.proofs.Judged.{protection_is}
use Rattle.gss_contexts.proofs.Opened.{padded_same}
use Rattle.gss_contexts.proofs.Rotated.{one_text}
use Rattle.gss_logins.specs.WrittenTokens.{IsMicMade, IsMicUnforged, IsMicWritten, IsSealedByEnd, IsSummedByEnd, IsWrapUnforged, IsWrapWritten, IsWrapped, MicRecord, WrapRecord}

-- ---- two tokens with one header

-- parts stand where the same octets are
moved_stands : (size place : ℕ) (bytes token other : List ℕ) → length bytes ≡ size → take size (drop place token) ≡ take size (drop place other) → Stands (part place bytes) other
    → Stands (part place bytes) token
moved_stands size place bytes token other is same x =
    ap (λ (n : ℕ). take n (drop place token)) is ∙ same ∙ ap (λ (n : ℕ). take n (drop place other)) (sym is) ∙ x

-- the octets of both headers up to the flags, and those of the number
record IsOneHeader (token other : List ℕ) : Type 0 where
  front : take 3 token ≡ take 3 other
  back : take 8 (drop 8 token) ≡ take 8 (drop 8 other)

one_number : (token other : List ℕ) → IsOneHeader token other → (number theirs : ℕ) → number < last_number → theirs < last_number → Stands (part 8 (be64 number)) token
    → Stands (part 8 (be64 theirs)) other → theirs ≡ number
one_number token other same number theirs followed also x y =
    sym (be64-again 8 theirs token (omega arith) (moved_stands 8 8 (be64 theirs) token other (length-be64 theirs) same.back y)) ∙ be64-again 8 number token (omega arith) x

one_flags : (token other : List ℕ) → IsOneHeader token other → (flags theirs : ℕ) → Stands (part 2 (flags ∷ [])) token → Stands (part 2 (theirs ∷ [])) other → theirs ≡ flags
one_flags token other same flags theirs x y =
    let octet : take 1 (drop 2 token) ≡ take 1 (drop 2 other) = sym (drop-take 2 1 token) ∙ ap (drop 2) same.front ∙ drop-take 2 1 other in
    sym (byte-again 2 theirs token (moved_stands 1 2 (theirs ∷ []) token other refl octet y)) ∙ byte-again 2 flags token x

-- by the header with RRC zero
length_without_rrc : (token : List ℕ) → 16 ≤ length token → length (0 ∷ 0 ∷ take 8 (drop 8 token)) ≡ 10
length_without_rrc token long = omega (arith, length-take-le 8 (drop 8 token) (omega (arith, length-drop 8 token)))

length_without_counts : (token : List ℕ) → 16 ≤ length token → length (0 ∷ 0 ∷ 0 ∷ 0 ∷ take 8 (drop 8 token)) ≡ 12
length_without_counts token long = omega (arith, length-take-le 8 (drop 8 token) (omega (arith, length-drop 8 token)))

whole_without_rrc : (token : List ℕ) → 16 ≤ length token → length (header_without_rrc token) ≡ 16
whole_without_rrc token long =
    omega (arith, length-append (take 6 token) (0 ∷ 0 ∷ take 8 (drop 8 token)), length-take-le 6 token (omega arith), length_without_rrc token long)

whole_without_counts : (token : List ℕ) → 16 ≤ length token → length (header_without_counts token) ≡ 16
whole_without_counts token long =
    omega (arith, length-append (take 4 token) (0 ∷ 0 ∷ 0 ∷ 0 ∷ take 8 (drop 8 token)), length-take-le 4 token (omega arith), length_without_counts token long)

module _ (token other : List ℕ) (long : 16 ≤ length token) (also : 16 ≤ length other) where
  module _ (same : header_without_rrc token ≡ header_without_rrc other) where
    abbrev rest : List ℕ → List ℕ
    rest octets = 0 ∷ 0 ∷ take 8 (drop 8 octets)

    six : take 6 token ≡ take 6 other
    six = same_front (take 6 token) (rest token) (take 6 other) (rest other) same (length_without_rrc token long ∙ sym (length_without_rrc other also))

    sealed_header : IsOneHeader token other
    sealed_header = record {
      front = sym (take-take 3 6 token (omega arith)) ∙ ap (take 3) six ∙ take-take 3 6 other (omega arith);
      back = ap (drop 2) (same_back (take 6 token) (rest token) (take 6 other) (rest other) same (length_without_rrc token long ∙ sym (length_without_rrc other also)));
    }

    one_ec : (ec theirs : ℕ) → ec < 2 ^ 16 → theirs < 2 ^ 16 → Stands (part 4 (be16 ec)) token → Stands (part 4 (be16 theirs)) other → theirs ≡ ec
    one_ec ec theirs fits fits_too x y =
        let octets : take 2 (drop 4 token) ≡ take 2 (drop 4 other) = sym (drop-take 4 2 token) ∙ ap (drop 4) six ∙ drop-take 4 2 other in
        sym (be16-again 4 theirs token fits_too (moved_stands 2 4 (be16 theirs) token other (length-be16 theirs) octets y)) ∙ be16-again 4 ec token fits x

  summed_header : header_without_counts token ≡ header_without_counts other → IsOneHeader token other
  summed_header same =
      let behind : List ℕ → List ℕ = λ octets. 0 ∷ 0 ∷ 0 ∷ 0 ∷ take 8 (drop 8 octets) in
      let sizes : length (behind token) ≡ length (behind other) = length_without_counts token long ∙ sym (length_without_counts other also) in
      let four : take 4 token ≡ take 4 other = same_front (take 4 token) (behind token) (take 4 other) (behind other) same sizes in
      record {
        front = sym (take-take 3 4 token (omega arith)) ∙ ap (take 3) four ∙ take-take 3 4 other (omega arith);
        back = ap (drop 4) (same_back (take 4 token) (behind token) (take 4 other) (behind other) same sizes);
      }

  mic_header : take 16 token ≡ take 16 other → IsOneHeader token other
  mic_header same = record {
    front = sym (take-take 3 16 token (omega arith)) ∙ ap (take 3) same ∙ take-take 3 16 other (omega arith);
    back = sym (drop-take 8 8 token) ∙ ap (drop 8) same ∙ drop-take 8 8 other;
  }

-- ---- wrap tokens

one_subkey : (sender other : Sender) (flags theirs : ℕ) → is_set flags 4 ≡ sender.acceptor_subkey → is_set theirs 4 ≡ other.acceptor_subkey → theirs ≡ flags
    → other.acceptor_subkey ≡ sender.acceptor_subkey
one_subkey sender other flags theirs own also same = sym also ∙ ap (λ (n : ℕ). is_set n 4) same ∙ own

module _ (wraps : List WrapRecord) (sender : Sender) (token : Bytes) (number : ℕ) (confounder message : Bytes) (followed : number < last_number) where
  -- with confidentiality
  module _ (newer : is_newer sender.key.suite ≡ true) (x : IsWrapOf sender number Sealed confounder message token) (by : IsSealedByEnd wraps sender x.text) where
    abbrev wrap : WrapRecord
    wrap = by.wrap

    abbrev y : IsWrapOf wrap.sender wrap.number wrap.protection wrap.confounder wrap.message wrap.token
    y = by.is_written.writes.made

    abbrev own : IsSealedText sender x.ec confounder message token x.text
    own = x.carries

    theirs : IsSealedText wrap.sender y.ec wrap.confounder wrap.message wrap.token y.text
    theirs = subst (λ (p : Protection). Carries wrap.sender p y.ec wrap.confounder wrap.message wrap.token y.text) by.protected y.carries

    abbrev plain : List ℕ
    plain = message ++ (own.filler ++ header_without_rrc token)

    abbrev their_plain : List ℕ
    their_plain = wrap.message ++ (theirs.filler ++ header_without_rrc wrap.token)

    their_text : IsSealedBy sender.key.suite sender.key.bytes (seal_usage sender.side) wrap.confounder their_plain x.text
    their_text =
        subst (λ (text : List ℕ). IsSealedBy sender.key.suite sender.key.bytes (seal_usage sender.side) wrap.confounder their_plain text) (sym by.same)
        (subst (λ (side : Side). IsSealedBy sender.key.suite sender.key.bytes (seal_usage side) wrap.confounder their_plain y.text) by.sided
        (subst (λ (key : KeyRecord). IsSealedBy key.suite key.bytes (seal_usage wrap.sender.side) wrap.confounder their_plain y.text) by.keyed theirs.sealed))

    one_plain : plain ≡ their_plain
    one_plain =
        sym (padded_same sender.key.suite newer plain)
        ∙ (one_opening sender.key.suite sender.key.bytes (seal_usage sender.side) confounder plain wrap.confounder their_plain x.text own.sealed their_text).1
        ∙ padded_same sender.key.suite newer their_plain

    -- message and filler, and the header
    whole : (message ++ own.filler) ++ header_without_rrc token ≡ (wrap.message ++ theirs.filler) ++ header_without_rrc wrap.token
    whole = append_assoc message own.filler (header_without_rrc token) ∙ one_plain ∙ sym (append_assoc wrap.message theirs.filler (header_without_rrc wrap.token))

    sizes : length (header_without_rrc token) ≡ length (header_without_rrc wrap.token)
    sizes = whole_without_rrc token x.laid.long ∙ sym (whole_without_rrc wrap.token y.laid.long)

    headers : header_without_rrc token ≡ header_without_rrc wrap.token
    headers = same_back (message ++ own.filler) (header_without_rrc token) (wrap.message ++ theirs.filler) (header_without_rrc wrap.token) whole sizes

    fronts : message ++ own.filler ≡ wrap.message ++ theirs.filler
    fronts = same_front (message ++ own.filler) (header_without_rrc token) (wrap.message ++ theirs.filler) (header_without_rrc wrap.token) whole sizes

    fillers : length own.filler ≡ length theirs.filler
    fillers =
        own.counted ∙ sym (one_ec token wrap.token x.laid.long y.laid.long headers x.ec y.ec x.ec_fits y.ec_fits x.laid.header.1.1.1.0 y.laid.header.1.1.1.0) ∙ sym theirs.counted

    sealed_by : IsWrapped wraps sender number Sealed message
    sealed_by =
        let header = sealed_header token wrap.token x.laid.long y.laid.long headers in
        record {
          wrap = wrap;
          among = by.among;
          is_written = by.is_written;
          keyed = by.keyed;
          sided = by.sided;
          under_subkey = one_subkey sender wrap.sender x.flags y.flags x.marked.under_subkey y.marked.under_subkey
              (one_flags token wrap.token header x.flags y.flags x.laid.header.1.0 y.laid.header.1.0);
          same_number = one_number token wrap.token header number wrap.number followed by.is_written.followed x.laid.header.1.1.1.1.1.0 y.laid.header.1.1.1.1.1.0;
          same_protection = by.protected;
          same_message = sym (same_front message own.filler wrap.message theirs.filler fronts fillers);
        }

  -- without confidentiality
  module _ (x : IsWrapOf sender number Checksum confounder message token) (by : IsSummedByEnd wraps sender (message ++ header_without_counts token)) where
    abbrev summed : IsWrapOf by.wrap.sender by.wrap.number by.wrap.protection by.wrap.confounder by.wrap.message by.wrap.token
    summed = by.is_written.writes.made

    counts : length (header_without_counts token) ≡ length (header_without_counts by.wrap.token)
    counts = whole_without_counts token x.laid.long ∙ sym (whole_without_counts by.wrap.token summed.laid.long)

    summed_by : IsWrapped wraps sender number Checksum message
    summed_by =
        let header = summed_header token by.wrap.token x.laid.long summed.laid.long
        (same_back message (header_without_counts token) by.wrap.message (header_without_counts by.wrap.token) by.same counts) in
        record {
          wrap = by.wrap;
          among = by.among;
          is_written = by.is_written;
          keyed = by.keyed;
          sided = by.sided;
          under_subkey = one_subkey sender by.wrap.sender x.flags summed.flags x.marked.under_subkey summed.marked.under_subkey
              (one_flags token by.wrap.token header x.flags summed.flags x.laid.header.1.0 summed.laid.header.1.0);
          same_number = one_number token by.wrap.token header number by.wrap.number followed by.is_written.followed x.laid.header.1.1.1.1.1.0 summed.laid.header.1.1.1.1.1.0;
          same_protection = by.protected;
          same_message = sym (same_front message (header_without_counts token) by.wrap.message (header_without_counts by.wrap.token) by.same counts);
        }

wrapped_as : (wraps : List WrapRecord) (sender : Sender) (token : Bytes) (number : ℕ) (protection : Protection) (confounder message : Bytes) → number < last_number
    → is_newer sender.key.suite ≡ true → IsWrapUnforged wraps sender token → IsWrapOf sender number protection confounder message token → IsWrapped wraps sender number protection message
wrapped_as wraps sender token number Sealed confounder message followed newer unforged x =
    sealed_by wraps sender token number confounder message followed newer x (unforged.sealed number confounder message x)
wrapped_as wraps sender token number Checksum confounder message followed newer unforged x =
    summed_by wraps sender token number confounder message followed x (unforged.summed number confounder message x)

pub unwrapped_wrapped : (wraps : List WrapRecord) (end after : ContextRecord) (token : Bytes) (number : ℕ) (protection : Protection) (message : Bytes) → is_newer end.key.suite ≡ true
    → IsWrapUnforged wraps (peer end) token → TakesWrap end after token number protection message → IsWrapped wraps (peer end) number protection message
unwrapped_wrapped wraps end after token number protection message newer unforged takes =
    wrapped_as wraps (peer end) token number protection takes.confounder message takes.followed newer unforged takes.is_wrap_of

-- ---- MIC tokens

pub mic_made : (mics : List MicRecord) (end after : ContextRecord) (message token : Bytes) → IsMicUnforged mics (peer end) message token → (takes : TakesMic end after message token)
    → IsMicMade mics (peer end) takes.number message
mic_made mics end after message token unforged takes =
    let x = takes.is_mic_of in
    let by = unforged takes.number x in
    let y = by.is_written.writes.made in
    let sizes : length (take 16 token) ≡ length (take 16 by.mic.token) = length-take-le 16 token x.laid.long ∙ sym (length-take-le 16 by.mic.token y.laid.long) in
    let header = mic_header token by.mic.token x.laid.long y.laid.long (same_back message (take 16 token) by.mic.message (take 16 by.mic.token) by.same sizes) in
    record {
      mic = by.mic;
      among = by.among;
      is_written = by.is_written;
      keyed = by.keyed;
      sided = by.sided;
      under_subkey = one_subkey (peer end) by.mic.sender x.flags y.flags x.marked.under_subkey y.marked.under_subkey
          (one_flags token by.mic.token header x.flags y.flags x.laid.header.1.0 y.laid.header.1.0);
      same_number = one_number token by.mic.token header takes.number by.mic.number takes.followed by.is_written.followed x.laid.header.1.1.1.0 y.laid.header.1.1.1.0;
      same_message = sym (same_front message (take 16 token) by.mic.message (take 16 by.mic.token) by.same sizes);
    }

-- ---- what comes as it was written

-- the data of a token, as they are rotated back
text_of : (sender : Sender) (number : ℕ) (protection : Protection) (confounder message token : List ℕ) (x : IsWrapOf sender number protection confounder message token)
    → rotated_right (be16_at 6 token) x.text ≡ drop 16 token
text_of sender number protection confounder message token x =
    ap (λ (n : ℕ). rotated_right n x.text) (be16-again 6 x.rrc token x.rrc_fits x.laid.header.1.1.1.1.0) ∙ sym x.laid.checksum

module _ (wraps : List WrapRecord) (wrap : WrapRecord) (among : IsAmong wrap wraps) (is_written : IsWrapWritten wrap) where
  abbrev made : IsWrapOf wrap.sender wrap.number wrap.protection wrap.confounder wrap.message wrap.token
  made = is_written.writes.made

  module _ (number : ℕ) (protection : Protection) (confounder message : Bytes) (x : IsWrapOf wrap.sender number protection confounder message wrap.token) where
    one_protection : wrap.protection ≡ protection
    one_protection =
        sym (protection_is wrap.sender wrap.number wrap.protection wrap.confounder wrap.message wrap.token made) ∙ protection_is wrap.sender number protection confounder message wrap.token x

    same_text : x.text ≡ made.text
    same_text =
        one_text (be16_at 6 wrap.token) (drop 16 wrap.token) x.text made.text (text_of wrap.sender number protection confounder message wrap.token x)
        (text_of wrap.sender wrap.number wrap.protection wrap.confounder wrap.message wrap.token made)

    same_ec : x.ec ≡ made.ec
    same_ec = sym (be16-again 4 x.ec wrap.token x.ec_fits x.laid.header.1.1.1.0) ∙ be16-again 4 made.ec wrap.token made.ec_fits made.laid.header.1.1.1.0

  -- message and checksum are the data
  same_summed : (number : ℕ) (confounder message : Bytes) (x : IsWrapOf wrap.sender number Checksum confounder message wrap.token) → message ≡ wrap.message
  same_summed number confounder message x =
      let own : IsSummedText wrap.sender x.ec message wrap.token x.text = x.carries in
      let first : IsSummedText wrap.sender made.ec wrap.message wrap.token made.text =
      subst (λ (p : Protection). Carries wrap.sender p made.ec wrap.confounder wrap.message wrap.token made.text) (one_protection number Checksum confounder message x) made.carries in
      same_front message own.sum wrap.message first.sum (sym own.carried ∙ same_text number Checksum confounder message x ∙ first.carried)
      (own.counted ∙ same_ec number Checksum confounder message x ∙ sym first.counted)

  pub wrap_unforged : IsWrapUnforged wraps wrap.sender wrap.token
  wrap_unforged = record {
    sealed = λ number confounder message x. record {
      wrap = wrap;
      among = among;
      is_written = is_written;
      keyed = refl;
      sided = refl;
      protected = one_protection number Sealed confounder message x;
      same = same_text number Sealed confounder message x;
    };
    summed = λ number confounder message x. record {
      wrap = wrap;
      among = among;
      is_written = is_written;
      keyed = refl;
      sided = refl;
      protected = one_protection number Checksum confounder message x;
      same = ap (λ (m : List ℕ). m ++ header_without_counts wrap.token) (same_summed number confounder message x);
    };
  }

pub mic_unforged : (mics : List MicRecord) (mic : MicRecord) → IsAmong mic mics → IsMicWritten mic → IsMicUnforged mics mic.sender mic.message mic.token
mic_unforged mics mic among is_written = λ number x. record { mic = mic; among = among; is_written = is_written; keyed = refl; sided = refl; same = refl }
