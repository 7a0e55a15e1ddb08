-- A token is laid out in the bytes that it was read from, and no other is.
use Rattle.std.proofs.Common.{◌≡◌, ℕ, ◌^◌, ◌<◌, List, [], ◌∷◌, ◌++◌, length, get_or, take, drop, Ok, ap, sym, subst, ◌∙◌, arith}
use Rattle.std.proofs.lemmas.List.{length-append, drop_at, get_or_append_left}
use Rattle.std.specs.declared.io.ErrorKind.TheVariants.{UnexpectedEof}
use Rattle.byte_streams.specs.Parts.{part, Stands, IsLaidOut, AreInside, put, put_all}
use Rattle.byte_streams.specs.Numbers.{be16, be16_at, be64, be64_at}
use Rattle.byte_streams.proofs.PartLaws.{byte-read, byte-again, laid-append, put_all-laid, order-apart}
use Rattle.byte_streams.proofs.NumberLaws.{length-be16, length-be64, be16-again, be64-again, be16_at-append, be64_at-append}
use Rattle.gss_contexts.specs.declared.message_tokens.kind.TokenKind.TheVariants.{Mic, Wrap}
use Rattle.gss_contexts.specs.MessageTokenJudging.{judged}
use Rattle.gss_contexts.specs.MessageTokens.{MicFields, WrapFields, mic_header, wrap_header, IsMicToken, IsWrapToken}
use Rattle.gss_contexts.proofs.Judgements.{judged-fine, fine-judged, id-is, mic_filler-is, wrap_filler-is, id-fine, mic_filler-fine, wrap_filler-fine}

pub mic_header-inside : (m : MicFields) → AreInside 16 (mic_header m)
mic_header-inside m =
    let size = length-be64 m.seq_num in (omega arith, (omega arith, (omega arith, (omega arith, tt))))

-- a header into which the parts were put
pub mic_header-put : (m : MicFields) (zeros : List ℕ) → length zeros ≡ 16 → IsLaidOut (mic_header m) (put_all (mic_header m) zeros)
mic_header-put m zeros size =
    put_all-laid (mic_header m) zeros (subst (λ (n : ℕ). AreInside n (mic_header m)) (sym size) (mic_header-inside m))
    (order-apart 0 (mic_header m) (omega arith, (omega arith, (omega arith, (omega arith, tt)))))

-- a header with the checksum behind it
pub mic-of_header : (m : MicFields) (header : List ℕ) → length header ≡ 16 → IsLaidOut (mic_header m) header → IsMicToken m (header ++ m.checksum)
mic-of_header m header size laid =
    record {
      header = laid-append (mic_header m) header m.checksum (subst (λ (n : ℕ). AreInside n (mic_header m)) (sym size) (mic_header-inside m)) laid;
      long = omega (arith, length-append header m.checksum);
      checksum = drop_at header m.checksum 16 size;
    }

-- what is read from a header
abbrev pub mic_read : List ℕ → ℕ → List ℕ → MicFields
mic_read header seq_num checksum = record { flags = get_or header 2 0; seq_num = seq_num; checksum = checksum }

-- what is read from bytes that are fine
pub mic-read : (header checksum : List ℕ) (seq_num : ℕ) → length header ≡ 16 → judged Mic UnexpectedEof header ≡ Ok tt
    → Stands (part 8 (be64 seq_num)) header → IsMicToken (mic_read header seq_num checksum) (header ++ checksum)
mic-read header checksum seq_num size fine stands =
    let is = judged-fine Mic UnexpectedEof header fine in
    mic-of_header (mic_read header seq_num checksum) header size
    (id-is Mic header is, (byte-read 2 header (omega arith), (mic_filler-is header is, (stands, tt))))

-- the bytes of a token are fine
pub mic-fine : (m : MicFields) (whole : List ℕ) → IsMicToken m whole → judged Mic UnexpectedEof whole ≡ Ok tt
mic-fine m whole is =
    let long = is.long in
    fine-judged Mic UnexpectedEof whole record {
      id = id-fine Mic whole (omega arith) is.header.0;
      filler = mic_filler-fine whole (omega arith) is.header.1.1.0;
      long = long;
    }

-- a token that is laid out in the bytes is what is read from them
pub mic-only : (m : MicFields) (header checksum : List ℕ) (n : ℕ) → length header ≡ 16 → n ≡ be64_at 8 header → m.seq_num < 2 ^ 64
    → IsMicToken m (header ++ checksum) → mic_read header n checksum ≡ m
mic-only m header checksum n size read fits is =
    let whole = header ++ checksum in
    let flags : get_or header 2 0 ≡ m.flags =
    sym (get_or_append_left header checksum 0 2 (omega arith)) ∙ byte-again 2 m.flags whole is.header.1.0 in
    let seq_num : n ≡ m.seq_num =
    read ∙ sym (be64_at-append 8 header checksum (omega arith)) ∙ be64-again 8 m.seq_num whole fits is.header.1.1.1.0 in
    let rest : checksum ≡ m.checksum = sym (drop_at header checksum 16 size) ∙ is.checksum in
    λ i. record { flags = flags i; seq_num = seq_num i; checksum = rest i }

-- the header as it is written
pub mic_header-written : (m : MicFields) (zeros h1 h2 h3 h4 id bytes : List ℕ) → length zeros ≡ 16
    → id ≡ 4 ∷ 4 ∷ [] → bytes ≡ be64 m.seq_num
    → h1 ≡ put (part 0 id) zeros → h2 ≡ put (part 2 (m.flags ∷ [])) h1 → h3 ≡ put (part 3 (255 ∷ 255 ∷ 255 ∷ 255 ∷ 255 ∷ [])) h2 → h4 ≡ put (part 8 bytes) h3
    → IsLaidOut (mic_header m) h4
mic_header-written m zeros h1 h2 h3 h4 id bytes size is_id is_bytes p1 p2 p3 p4 =
    let e1 : h1 ≡ put (part 0 (4 ∷ 4 ∷ [])) zeros = p1 ∙ ap (λ (b : List ℕ). put (part 0 b) zeros) is_id in
    let e4 : h4 ≡ put (part 8 (be64 m.seq_num)) h3 = p4 ∙ ap (λ (b : List ℕ). put (part 8 b) h3) is_bytes in
    let whole : h4 ≡ put_all (mic_header m) zeros =
    e4 ∙ ap (put (part 8 (be64 m.seq_num))) (p3 ∙ ap (put (part 3 (255 ∷ 255 ∷ 255 ∷ 255 ∷ 255 ∷ []))) (p2 ∙ ap (put (part 2 (m.flags ∷ []))) e1)) in
    subst (IsLaidOut (mic_header m)) (sym whole) (mic_header-put m zeros size)

pub wrap_header-inside : (w : WrapFields) → AreInside 16 (wrap_header w)
wrap_header-inside w =
    let ec_size = length-be16 w.ec in
    let rrc_size = length-be16 w.rrc in
    let size = length-be64 w.seq_num in
    (omega arith, (omega arith, (omega arith, (omega arith, (omega arith, (omega arith, tt))))))

pub wrap_header-put : (w : WrapFields) (zeros : List ℕ) → length zeros ≡ 16 → IsLaidOut (wrap_header w) (put_all (wrap_header w) zeros)
wrap_header-put w zeros size =
    let ec_size = length-be16 w.ec in
    let rrc_size = length-be16 w.rrc in
    put_all-laid (wrap_header w) zeros (subst (λ (n : ℕ). AreInside n (wrap_header w)) (sym size) (wrap_header-inside w))
    (order-apart 0 (wrap_header w) (omega arith, (omega arith, (omega arith, (omega arith, (omega arith, (omega arith, tt)))))))

pub wrap-of_header : (w : WrapFields) (header : List ℕ) → length header ≡ 16 → IsLaidOut (wrap_header w) header → IsWrapToken w (header ++ w.checksum)
wrap-of_header w header size laid =
    record {
      header = laid-append (wrap_header w) header w.checksum (subst (λ (n : ℕ). AreInside n (wrap_header w)) (sym size) (wrap_header-inside w)) laid;
      long = omega (arith, length-append header w.checksum);
      checksum = drop_at header w.checksum 16 size;
    }

abbrev pub wrap_read : List ℕ → ℕ → ℕ → ℕ → List ℕ → WrapFields
wrap_read header ec rrc seq_num checksum =
    record { flags = get_or header 2 0; ec = ec; rrc = rrc; seq_num = seq_num; checksum = checksum }

pub wrap-read : (header checksum : List ℕ) (ec rrc seq_num : ℕ) → length header ≡ 16 → judged Wrap UnexpectedEof header ≡ Ok tt
    → Stands (part 4 (be16 ec)) header → Stands (part 6 (be16 rrc)) header → Stands (part 8 (be64 seq_num)) header
    → IsWrapToken (wrap_read header ec rrc seq_num checksum) (header ++ checksum)
wrap-read header checksum ec rrc seq_num size fine ec_stands rrc_stands stands =
    let is = judged-fine Wrap UnexpectedEof header fine in
    let filler : take 1 (drop 3 header) ≡ 255 ∷ [] = byte-read 3 header (omega arith) ∙ ap (λ (n : ℕ). n ∷ []) (wrap_filler-is header is) in
    wrap-of_header (wrap_read header ec rrc seq_num checksum) header size
    (id-is Wrap header is, (byte-read 2 header (omega arith), (filler, (ec_stands, (rrc_stands, (stands, tt))))))

pub wrap-fine : (w : WrapFields) (whole : List ℕ) → IsWrapToken w whole → judged Wrap UnexpectedEof whole ≡ Ok tt
wrap-fine w whole is =
    let long = is.long in
    fine-judged Wrap UnexpectedEof whole record {
      id = id-fine Wrap whole (omega arith) is.header.0;
      filler = wrap_filler-fine whole (omega arith) (byte-again 3 255 whole is.header.1.1.0);
      long = long;
    }

pub wrap-only : (w : WrapFields) (header checksum : List ℕ) (e r n : ℕ) → length header ≡ 16
    → e ≡ be16_at 4 header → r ≡ be16_at 6 header → n ≡ be64_at 8 header → w.ec < 2 ^ 16 → w.rrc < 2 ^ 16 → w.seq_num < 2 ^ 64
    → IsWrapToken w (header ++ checksum) → wrap_read header e r n checksum ≡ w
wrap-only w header checksum e r n size read_e read_r read fits_ec fits_rrc fits is =
    let whole = header ++ checksum in
    let flags : get_or header 2 0 ≡ w.flags =
    sym (get_or_append_left header checksum 0 2 (omega arith)) ∙ byte-again 2 w.flags whole is.header.1.0 in
    let ec : e ≡ w.ec =
    read_e ∙ sym (be16_at-append 4 header checksum (omega arith)) ∙ be16-again 4 w.ec whole fits_ec is.header.1.1.1.0 in
    let rrc : r ≡ w.rrc =
    read_r ∙ sym (be16_at-append 6 header checksum (omega arith)) ∙ be16-again 6 w.rrc whole fits_rrc is.header.1.1.1.1.0 in
    let seq_num : n ≡ w.seq_num =
    read ∙ sym (be64_at-append 8 header checksum (omega arith)) ∙ be64-again 8 w.seq_num whole fits is.header.1.1.1.1.1.0 in
    let rest : checksum ≡ w.checksum = sym (drop_at header checksum 16 size) ∙ is.checksum in
    λ i. record { flags = flags i; ec = ec i; rrc = rrc i; seq_num = seq_num i; checksum = rest i }

pub wrap_header-written : (w : WrapFields) (zeros h1 h2 h3 h4 h5 h6 id ec rrc bytes : List ℕ) → length zeros ≡ 16
    → id ≡ 5 ∷ 4 ∷ [] → ec ≡ be16 w.ec → rrc ≡ be16 w.rrc → bytes ≡ be64 w.seq_num
    → h1 ≡ put (part 0 id) zeros → h2 ≡ put (part 2 (w.flags ∷ [])) h1 → h3 ≡ put (part 3 (255 ∷ [])) h2
    → h4 ≡ put (part 4 ec) h3 → h5 ≡ put (part 6 rrc) h4 → h6 ≡ put (part 8 bytes) h5
    → IsLaidOut (wrap_header w) h6
wrap_header-written w zeros h1 h2 h3 h4 h5 h6 id ec rrc bytes size is_id is_ec is_rrc is_bytes p1 p2 p3 p4 p5 p6 =
    let e1 : h1 ≡ put (part 0 (5 ∷ 4 ∷ [])) zeros = p1 ∙ ap (λ (b : List ℕ). put (part 0 b) zeros) is_id in
    let e4 : h4 ≡ put (part 4 (be16 w.ec)) h3 = p4 ∙ ap (λ (b : List ℕ). put (part 4 b) h3) is_ec in
    let e5 : h5 ≡ put (part 6 (be16 w.rrc)) h4 = p5 ∙ ap (λ (b : List ℕ). put (part 6 b) h4) is_rrc in
    let e6 : h6 ≡ put (part 8 (be64 w.seq_num)) h5 = p6 ∙ ap (λ (b : List ℕ). put (part 8 b) h5) is_bytes in
    let front : h3 ≡ put (part 3 (255 ∷ [])) (put (part 2 (w.flags ∷ [])) (put (part 0 (5 ∷ 4 ∷ [])) zeros)) =
    p3 ∙ ap (put (part 3 (255 ∷ []))) (p2 ∙ ap (put (part 2 (w.flags ∷ []))) e1) in
    let whole : h6 ≡ put_all (wrap_header w) zeros =
    e6 ∙ ap (put (part 8 (be64 w.seq_num))) (e5 ∙ ap (put (part 6 (be16 w.rrc))) (e4 ∙ ap (put (part 4 (be16 w.ec))) front)) in
    subst (IsLaidOut (wrap_header w)) (sym whole) (wrap_header-put w zeros size)
